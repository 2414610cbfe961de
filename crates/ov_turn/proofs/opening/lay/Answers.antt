use Rattle.std.proofs.Common.{rules, ◌≡◌, ℕ, ◌+◌, ◌<◌, [], ◌∷◌, List, subst, sym, ◌∙◌}
use Rattle.atomic_table.specs.Table.{opening}
use Rattle.ov_turn.specs.Rule.{IsKept}
use Rattle.ov_turn.specs.Views.{opened}
use Rattle.ov_turn.proofs.FirstSeat.{opens}
use Rattle.ov_turn.proofs.opening.lay.Goals as goal

pub new-requires : goal.new-requires
new-requires g c =
    let tells = g.A.Answerer.tells in
    let start : c.of.result.value ≡ c.args.answerer = search rules in
    let passes : c.from.result ≡ c.args.passes = search rules in
    let items : c.push_reserved.new.self.items ≡ c.args.answerer ∷ [] = search rules in
    let same : c.from-epoch.result ≡ c.epoch.result = search rules in
    let begins = c.epoch.ensures.begins in
    let counted : c.epoch.result ≡ tells.epoch_of c.args.answerer + 0 =
    c.epoch.ensures.counts c.args.answerer [] begins in
    let small : c.from-epoch.result < 4294967296 = search rules in
    subst (λ (z : g.row.A.Denot × ℕ × List g.row.A.Denot).
    IsKept tells z.0 z.1
    (opening (0 ∷ 0 ∷ c.from-epoch.result ∷ []) z.2 (opened tells z.0 0 z.1)))
    (λ i. (sym start i, sym passes i, sym items i))
    (opens tells c.args.answerer c.args.passes c.from-epoch.result begins (same ∙ counted)
    small c.requires.0 c.requires.1)
