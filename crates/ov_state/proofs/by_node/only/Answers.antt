use Rattle.std.proofs.Common.{◌≡◌, ℕ, ◌≤◌, ◌<◌, length, Err, arith, ap, ◌∙◌, ⊎_elim}
use Rattle.std.specs.Prelude.{slice_index}
use Rattle.std.proofs.lemmas.Bool.{cases_eq, cases_lt}
use Rattle.std.proofs.lemmas.List.{get_or_default}
use Rattle.std.proofs.lemmas.List.Sorted.{searched}
use Rattle.ov_state.proofs.by_node.only.Goals as goal

pub returns-in-Err : goal.returns-in-Err
returns-in-Err c =
    let numbers = c.args.numbers.now in
    let rise : (i j : ℕ) → i ≤ j → j < length numbers → slice_index numbers i ≤ slice_index numbers j =
    λ i j le low. ⊎_elim
    (λ same. omega (arith, ap (λ n. slice_index numbers n) same))
    (λ less. omega (arith, c.requires i j (omega arith) low))
    (cases_eq i j) in
    let gap = searched numbers c.args.number (Err c.in-Err.field-0) c.in-Err.ensures.position rise in
    record {
      few = omega arith;
      own = λ i inside. absurd (omega arith);
      kept = λ found.
          let at : slice_index numbers found.0 ≡ c.args.number = get_or_default numbers found.0 0 c.args.number found.1 ∙ found.2 in
          ⊎_elim
          (λ less. absurd (omega (arith, at, gap.1 found.0 less)))
          (λ from. absurd (omega (arith, at, gap.2 found.0 from found.1)))
          (cases_lt found.0 c.in-Err.field-0);
    }
