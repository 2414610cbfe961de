use Rattle.std.proofs.Common.{◌≡◌, List, sym, subst, rules}
use Rattle.std.specs.Prelude.{All}
use Rattle.std.specs.List.{filter}
use Rattle.std.proofs.lemmas.Fn.{filter_same}
use Rattle.ov_blocks.specs.declared.extents.Extent.{Extent}
use Rattle.ov_blocks.specs.Extents.{AreApart, AreGivenUp, BeginsOne}
use Rattle.ov_blocks.proofs.GivenUp.{given_up, none_of, one_answer, still_apart, tells}
use Rattle.ov_blocks.proofs.slots.Slots.keep_others.Goals as goal

left : (c : goal.After-retain) → c.retain.new.self.items ≡ filter (λ (e : Extent). none_of c.args.gone.now e.first) c.self.inside.extents.items
left c = filter_same _ (λ (e : Extent). none_of c.args.gone.now e.first) _ (λ e b f k. (search (rules, one_answer), search rules))
    c.self.inside.extents.items c.retain.new.self.items c.retain.ensures.filtered

pub invariant_of-self : goal.invariant_of-self
invariant_of-self c = (
  subst (AreApart 0) (sym (left c)) (still_apart (λ (e : Extent). none_of c.args.gone.now e.first) 0 c.self.inside.extents.items c.self.invariant.0),
  c.unknown-self-inside.ensures c.retain.new.self.items,
)

pub returns : goal.returns
returns c =
    subst (AreGivenUp c.args.gone.now c.args.self.now) (sym (left c))
    (subst (λ (l : List Extent). AreGivenUp c.args.gone.now l (filter (λ (e : Extent). none_of c.args.gone.now e.first) c.self.inside.extents.items)) c.self.view_is
    (given_up (λ (e : Extent). none_of c.args.gone.now e.first) c.self.inside.extents.items c.args.gone.now c.self.invariant.0 c.requires.rise
    (subst (λ (l : List Extent). All (BeginsOne l) c.args.gone.now) (sym c.self.view_is) c.requires.held) (λ e. tells c.args.gone.now e.first)))
