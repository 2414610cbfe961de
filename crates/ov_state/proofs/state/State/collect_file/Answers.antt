use Rattle.std.proofs.Common.{ap, subst, sym, rules, Bool, List, ℕ}
use Rattle.std.specs.Prelude.{IfSome, Option}
use Rattle.std.proofs.lemmas.Result.{on_ok_weaker, IfErr-weaker}
use Rattle.ov_graph.specs.Reach.{IsRooted}
use Rattle.ov_history.specs.Layers.{with_wants}
use Rattle.ov_state.specs.Contents.{Held}
use Rattle.ov_state.specs.Relistings.{IsFull, MayMove}
use Rattle.ov_history.specs.Places.{living_at}
use Rattle.ov_state.proofs.SkippedFiles.{node-there, own_node}
use Rattle.ov_state.proofs.ChangedWants.{file-moves, file-stays, is_next}
use Rattle.ov_state.proofs.state.State.collect_file.Goals as goal

pub entry-entry-requires : goal.entry-entry-requires
entry-entry-requires g c =
    let there = node-there (living_at c.args.self.now.catalogue.files c.args.file) c.args.relisting.now.node c.requires.file in
    (search rules, there)

pub may_move-requires : goal.may_move-requires
may_move-requires g c =
    let own = own_node c.args.self.now.catalogue.files c.args.file c.args.relisting.now.node c.entry-entry.result.now c.entry-entry.ensures.kept c.requires.file in
    (search rules, (search rules, (c.requires.relisting, (c.entry-entry.ensures.kept, own))))

pub want-requires : goal.want-requires
want-requires g c =
    let own = own_node c.args.self.now.catalogue.files c.args.file c.args.relisting.now.node c.entry-entry.result.now c.entry-entry.ensures.kept c.requires.file in
    (search rules, (search rules, (search rules, (c.requires.relisting, (c.entry-entry.ensures.placed, own)))))

pub returns-then-not-may_move-clause-ok : goal.returns-then-not-may_move-clause-ok
returns-then-not-may_move-clause-ok g c start has =
    let s = c.args.self.now.catalogue in
    file-stays s c.args.relisting.now c.args.file c.entry-entry.result.now c.entry-entry.ensures.kept
    (λ (ws : List (Option ℕ)). g.C.Collector.has start s ws c.args.collector.now) _ c.known.ensures
    (subst (λ (b : Bool). MayMove b s c.args.relisting.now c.args.file c.entry-entry.result.now) c.if-not-may_move.true c.may_move.ensures)
    (λ here low same. c.known-2.ensures.stays start s _ _ c.entry-entry.result.now has here low same)

pub collect-requires : goal.collect-requires
collect-requires g c =
    let s = c.args.self.now.catalogue in
    let layer = ap (λ (h : Held). h.catalogue.surface) c.self.view_is in
    let next = is_next s c.args.relisting.now c.args.file c.entry-entry.result.now c.entry-entry.ensures.kept _ (sym layer) in
    let rooted = subst (λ (h : Held). IfSome c.want.result (IsRooted h.catalogue.surface.sets)) (sym c.self.view_is) c.want.ensures.rooted in
    (search rules, ((c.requires.has.0, s, _, c.requires.has.1, next), rooted))

pub returns-clause-ok : goal.returns-clause-ok
returns-clause-ok g c start has =
    let s = c.args.self.now.catalogue in
    let layer = ap (λ (h : Held). h.catalogue.surface) c.self.view_is in
    let moves = own_node s.files c.args.file c.args.relisting.now.node c.entry-entry.result.now c.entry-entry.ensures.kept c.requires.file in
    on_ok_weaker c.collect.result
    (file-moves s c.args.relisting.now c.args.file c.entry-entry.result.now c.entry-entry.ensures.kept
    (λ (ws : List (Option ℕ)). g.C.Collector.has start s ws c.collect.new.self) moves c.want.result c.want.ensures.want)
    (c.collect.ensures.ok start s _ has
    (is_next s c.args.relisting.now c.args.file c.entry-entry.result.now c.entry-entry.ensures.kept _ (sym layer)))

pub returns-clause-err : goal.returns-clause-err
returns-clause-err g c =
    let s = c.args.self.now.catalogue in
    let layer = ap (λ (h : Held). h.catalogue.surface) c.self.view_is in
    let moves = own_node s.files c.args.file c.args.relisting.now.node c.entry-entry.result.now c.entry-entry.ensures.kept c.requires.file in
    IfErr-weaker c.collect.result _ _
    (λ why. file-moves s c.args.relisting.now c.args.file c.entry-entry.result.now c.entry-entry.ensures.kept
    (λ (ws : List (Option ℕ)). IsFull (with_wants s.surface.sets ws) why) moves c.want.result c.want.ensures.want)
    (c.collect.ensures.err c.requires.has.0 s _ c.requires.has.1
    (is_next s c.args.relisting.now c.args.file c.entry-entry.result.now c.entry-entry.ensures.kept _ (sym layer)))
