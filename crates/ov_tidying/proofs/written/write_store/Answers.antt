use Rattle.std.proofs.Common.{rules, ◌≡◌, ◌∙◌, ◌-◌, ap, inl, inr, length, subst, sym}
use Rattle.ov_history.specs.Catalogue.{Catalogue}
use Rattle.ov_images.specs.Images.{Keys, keys}
use Rattle.ov_store.specs.Beginning.{LeavesBlank}
use Rattle.ov_replaying.proofs.Stores.{begins_still}
use Rattle.ov_tidying.proofs.Made.{begins_for, copied_made, copied_on_both, unbegun_made, unbegun_on_both}
use Rattle.ov_tidying.proofs.Unbegun.{unbegun_low, unbegun_status}
use Rattle.ov_tidying.proofs.written.write_store.Goals as goal

pub copy_all-code-requires-clause-keys : goal.copy_all-code-requires-clause-keys
copy_all-code-requires-clause-keys g c =
    c.in-Ok.ensures.begun.new.0
    ∙ ap (λ b. keys b c.args.masters.now.surface.bytes) c.base_check_of-base_check.ensures
    ∙ sym c.requires.keys

pub copy_all-code-requires-clause-whole : goal.copy_all-code-requires-clause-whole
copy_all-code-requires-clause-whole g c = c.in-Ok.ensures.begun.new.1

pub copy_all-code-requires-clause-begins : goal.copy_all-code-requires-clause-begins
copy_all-code-requires-clause-begins g c =
    begins_for g.D.Disk.tells g.E.Disk.tells c.args.old.now c.args.kept.now c.mode-mode.result
    (c.epoch.result - length c.args.kept.now) (c.mode-mode.ensures ∙ ap (λ (x : Catalogue). x.mode) c.state.ensures)
    (ap (λ n. n - length c.args.kept.now)
    (c.epoch.ensures ∙ ap (λ (x : Catalogue). x.epoch) c.state-2.ensures)) c.in-Ok.store c.in-Ok.ensures.begun.serves

pub returns-in-Ok-clause-made : goal.returns-in-Ok-clause-made
returns-in-Ok-clause-made g c =
    let same : keys c.base_check_of-base_check.result c.args.masters.now.surface.bytes
    ≡ c.args.old.now.keys =
    ap (λ b. keys b c.args.masters.now.surface.bytes) c.base_check_of-base_check.ensures
    ∙ sym c.requires.keys in
    copied_made g.D.Disk.tells g.E.Disk.tells c.args.old.now c.args.kept.now c.mode-mode.result
    (c.epoch.result - length c.args.kept.now) (c.mode-mode.ensures ∙ ap (λ (x : Catalogue). x.mode) c.state.ensures)
    (ap (λ n. n - length c.args.kept.now)
    (c.epoch.ensures ∙ ap (λ (x : Catalogue). x.epoch) c.state-2.ensures)) c.args.old.now.keys c.args.new _ _
    c.copy_all-code.result _ (λ six. inl (c.copy_all-code.ensures.causes.write six)) c.in-Ok.store
    c.copy_all-code.new.new c.close.result c.close.ensures (c.in-Ok.ensures.begun.new.0 ∙ same)
    c.copy_all-code.ensures.call.0
    (subst (λ (k : Keys). LeavesBlank g.E.Disk.tells k c.mode-mode.result (c.epoch.result - length c.args.kept.now) c.args.new
    c.in-Ok.store.disk) same c.in-Ok.ensures.any_moment)
    c.in-Ok.ensures.begun.told c.copy_all-code.ensures.told c.in-Ok.ensures.begun.unborn
    c.copy_all-code.ensures.copied c.copy_all-code.ensures.any_moment
    (λ e. search rules) c.in-Ok.ensures.begun.fresh c.copy_all-code.ensures.step

pub returns-in-Err-clause-made : goal.returns-in-Err-clause-made
returns-in-Err-clause-made g c =
    let same : keys c.base_check_of-base_check.result c.args.masters.now.surface.bytes
    ≡ c.args.old.now.keys =
    ap (λ b. keys b c.args.masters.now.surface.bytes) c.base_check_of-base_check.ensures
    ∙ sym c.requires.keys in
    unbegun_made g.D.Disk.tells g.E.Disk.tells c.args.old.now c.args.kept.now c.mode-mode.result
    (c.epoch.result - length c.args.kept.now) (c.mode-mode.ensures ∙ ap (λ (x : Catalogue). x.mode) c.state.ensures)
    (ap (λ n. n - length c.args.kept.now)
    (c.epoch.ensures ∙ ap (λ (x : Catalogue). x.epoch) c.state-2.ensures)) c.args.old.now.keys c.args.new _ _
    c.put_not_begun.result _ (λ six. inl (c.put_not_begun.ensures.put.write six))
    c.in-Err.refused.disk
    (subst (λ (k : Keys). LeavesBlank g.E.Disk.tells k c.mode-mode.result (c.epoch.result - length c.args.kept.now) c.args.new
    c.in-Err.refused.disk) same c.in-Err.ensures.any_moment)
    c.in-Err.refused.fault c.in-Err.ensures.fault c.put_not_begun.ensures.ends
    (λ failed. inr (inr (c.in-Err.ensures.call.rose failed)))

pub returns-in-Err-clause-opened : goal.returns-in-Err-clause-opened
returns-in-Err-clause-opened g c = λ i read.
    unbegun_low c.in-Err.refused.fault _ _ c.put_not_begun.result c.put_not_begun.ensures.ends

pub returns-in-Err-clause-stays : goal.returns-in-Err-clause-stays
returns-in-Err-clause-stays g c = begins_still g.D.Disk.tells c.args.old.now

pub returns-in-Ok-clause-causes : goal.returns-in-Ok-clause-causes
returns-in-Ok-clause-causes g c =
    copied_on_both g.D.Disk.tells g.E.Disk.tells c.copy_all-code.result _ c.args.old.now
    c.copy_all-code.new.old c.args.new c.in-Ok.store c.copy_all-code.new.new c.close.result
    c.close.ensures _ c.copy_all-code.ensures.stays.call c.in-Ok.ensures.call
    c.copy_all-code.ensures.call c.copy_all-code.ensures.causes c.in-Ok.ensures.begun.unborn

pub returns-in-Err-clause-causes : goal.returns-in-Err-clause-causes
returns-in-Err-clause-causes g c =
    unbegun_on_both g.D.Disk.tells g.E.Disk.tells c.put_not_begun.result _ c.args.old.now.disk
    c.args.new c.in-Err.refused.disk _ _ c.put_not_begun.ensures.put.write c.in-Err.refused.fault
    c.in-Err.ensures.call c.in-Err.ensures.fault c.put_not_begun.ensures.ends
    c.in-Err.ensures.untouched

pub returns-in-Ok-clause-status : goal.returns-in-Ok-clause-status
returns-in-Ok-clause-status g c = inr c.copy_all-code.ensures.causes.some

pub returns-in-Err-clause-status : goal.returns-in-Err-clause-status
returns-in-Err-clause-status g c =
    unbegun_status c.in-Err.refused.fault _ _ c.put_not_begun.result c.put_not_begun.ensures.ends
