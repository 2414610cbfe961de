use Rattle.std.proofs.Common.{◌≡◌, ◌≤◌, ◌*◌, ◌∙◌, ap, arith, length, rules, subst, sym, true, ℕ}
use Rattle.std.specs.Prelude.{is_some}
use Rattle.ov_base.specs.Sets.{IsBelow}
use Rattle.ov_base.specs.declared.limits.TheConstants.{MAX_FILE_BYTES}
use Rattle.ov_graph.specs.declared.cover.Cover.{Cover}
use Rattle.ov_graph.specs.Contents.{plan_of}
use Rattle.ov_record.specs.Briefs.{BriefReplace as SpelledReplace}
use Rattle.ov_history.specs.Places.{living_at}
use Rattle.ov_state.specs.declared.files.FileEntry.{FileEntry}
use Rattle.ov_state.proofs.FileRoom.{refused_site, room_left, room_spent}
use Rattle.ov_state.proofs.ListsLeft.{list_in-below, list_in-there}
use Rattle.ov_state.proofs.ReplacementChange.{named_so, replacement_by}
use Rattle.ov_state.proofs.Replacing.{replace-before, replace-list, replace-room, replace-there}
use Rattle.ov_state.proofs.state.State.plan_replace.Goals as goal

pub returns-in-Some : goal.returns-in-Some
returns-in-Some g c =
    replace-before (64 * g.row.W) c.args.self.now.catalogue c.file_or_next-file.result c.args.size c.known.ensures _ c.file_or_next-file.ensures
    c.in-Some.why (sym c.refusal_replace.ensures ∙ c.in-Some.is)

pub list_of-list-requires : goal.list_of-list-requires
list_of-list-requires g c =
    let there : is_some (living_at c.args.self.now.catalogue.files c.file_or_next-file.result) ≡ true =
    replace-there (64 * g.row.W) c.args.self.now.catalogue c.file_or_next-file.result c.args.size c.known.ensures
    (sym c.refusal_replace.ensures ∙ c.in_default.is) in
    search rules

pub site-requires : goal.site-requires
site-requires g c =
    let s = c.args.self.now.catalogue in
    let file = c.file_or_next-file.result in
    let there = replace-there (64 * g.row.W) s file c.args.size c.known.ensures (sym c.refusal_replace.ensures ∙ c.in_default.is) in
    let below : IsBelow (length s.users) c.list_of-list.result =
    subst (λ (list : ℕ). IsBelow (length s.users) list) (list_in-there s file there ∙ sym c.list_of-list.ensures) (list_in-below s file c.known.ensures.sound there) in
    search rules

pub returns-in_err-site : goal.returns-in_err-site
returns-in_err-site g c =
    let s = c.args.self.now.catalogue in
    let room = replace-room (64 * g.row.W) s c.file_or_next-file.result c.args.size c.known.ensures (sym c.refusal_replace.ensures ∙ c.in_default.is)
    _ c.list_of-list.result c.file_or_next-file.ensures c.list_of-list.ensures in
    let none = refused_site s c.list_of-list.result g.row.W (SpelledReplace c.args.name c.args.tokens c.args.tag c.args.size) room
    c.in_err-site.field-0.0 c.in_err-site.ensures.err in
    search rules

pub returns-then-is_spent : goal.returns-then-is_spent
returns-then-is_spent g c =
    let s = c.args.self.now.catalogue in
    let room = replace-room (64 * g.row.W) s c.file_or_next-file.result c.args.size c.known.ensures (sym c.refusal_replace.ensures ∙ c.in_default.is)
    _ c.list_of-list.result c.file_or_next-file.ensures c.list_of-list.ensures in
    room ∙ room_spent s c.list_of-list.result c.in_ok-site.ensures.ok.few (sym c.is_spent.ensures ∙ c.if-is_spent.true)

pub returns-then-as_slice : goal.returns-then-as_slice
returns-then-as_slice g c =
    let s = c.args.self.now.catalogue in
    let passed = sym c.refusal_replace.ensures ∙ c.in_default.is in
    let room = replace-room (64 * g.row.W) s c.file_or_next-file.result c.args.size c.known.ensures passed
    _ c.list_of-list.result c.file_or_next-file.ensures c.list_of-list.ensures in
    let list = replace-list (64 * g.row.W) s c.file_or_next-file.result c.args.size c.known.ensures passed
    _ c.list_of-list.result c.file_or_next-file.ensures c.list_of-list.ensures in (
      room ∙ room_left s c.list_of-list.result c.in_ok-site.ensures.ok.few (sym c.is_spent.ensures ∙ c.if-is_spent.false),
      λ parts.
          c.if-as_slice.true
          (ap length c.as_slice.ensures ∙ parts
          ∙ ap (λ (set : ℕ). length (plan_of s.base.sets set).from) (sym list)
          ∙ ap (λ (cover : Cover). length cover.from) (sym c.in_ok-site.ensures.ok.cover) ∙ sym (ap length c.as_slice-2.ensures)),
      omega (arith, c.tokens_place-at.ensures),
    )

pub replacement-requires : goal.replacement-requires
replacement-requires g c =
    let there : is_some (living_at c.args.self.now.catalogue.files c.file_or_next-file.result) ≡ true =
    replace-there (64 * g.row.W) c.args.self.now.catalogue c.file_or_next-file.result c.args.size c.known.ensures
    (sym c.refusal_replace.ensures ∙ c.in_default.is) in
    let fits : c.new_entry-entry.result.length ≤ MAX_FILE_BYTES =
    subst (λ (entry : FileEntry). entry.length ≤ MAX_FILE_BYTES) (sym c.new_entry-entry.ensures) c.requires in
    search rules

pub returns : goal.returns
returns g c =
    let s = c.args.self.now.catalogue in
    let file = c.file_or_next-file.result in
    let passed = sym c.refusal_replace.ensures ∙ c.in_default.is in
    let there = replace-there (64 * g.row.W) s file c.args.size c.known.ensures passed in
    let room = replace-room (64 * g.row.W) s file c.args.size c.known.ensures passed _ c.list_of-list.result c.file_or_next-file.ensures c.list_of-list.ensures in
    replacement_by (64 * g.row.W) c.args.surface.now.bytes s file _ c.list_of-list.result c.args.name c.args.tokens c.args.tag c.args.size
    c.in_ok-site.site c.new_entry-entry.result c.in_ok-replacement.field-0 c.known.ensures c.file_or_next-file.ensures
    (c.list_of-list.ensures ∙ sym (list_in-there s file there))
    (named_so s c.args.name file c.file_or_next-file.ensures there) c.new_entry-entry.ensures
    c.in_ok-site.ensures.ok c.in_ok-replacement.ensures
    (room ∙ room_left s c.list_of-list.result c.in_ok-site.ensures.ok.few (sym c.is_spent.ensures ∙ c.if-is_spent.false))
    (sym (ap length c.as_slice.ensures) ∙ c.if-as_slice.false ∙ ap length c.as_slice-2.ensures
    ∙ ap (λ (cover : Cover). length cover.from) c.in_ok-site.ensures.ok.cover)
    c.requires
