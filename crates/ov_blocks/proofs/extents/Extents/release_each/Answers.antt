use Rattle.std.proofs.Common.{◌∷◌, [], ℕ, List, get_or, take, sym, subst, arith}
use Rattle.std.proofs.lemmas.List.{take_all, take_more}
use Rattle.ov_blocks.specs.Extents.{AreGivenUp}
use Rattle.ov_blocks.proofs.OneLess.{more_given_up, next_begins, none_given_up}
use Rattle.ov_blocks.proofs.extents.Extents.release_each.Goals as goal

pub loop-first-init : goal.loop-first-init
loop-first-init c = none_given_up c.args.self.now

pub release_at-requires : goal.release_at-requires
release_at-requires c =
    next_begins c.args.gone.now c.loop-first.first-index c.args.self.now c.loop-first.self c.requires.rise c.requires.held c.loop-first-test.true c.loop-first.invariant

pub loop-first-preserved : goal.loop-first-preserved
loop-first-preserved c =
    let index = c.loop-first.first-index in
    let gone = c.args.gone.now in
    subst (λ (l : List ℕ). AreGivenUp l c.args.self.now c.release_at.new.self) (sym (take_more gone index 0 c.loop-first-test.true))
    (more_given_up (take index gone) (get_or gone index 0 ∷ []) c.args.self.now c.loop-first.self c.release_at.new.self c.loop-first.invariant c.release_at.ensures.only)

pub returns : goal.returns
returns c =
    subst (λ (l : List ℕ). AreGivenUp l c.args.self.now c.loop-first.self) (take_all c.loop-first.first-index c.args.gone.now (omega arith)) c.loop-first.invariant
