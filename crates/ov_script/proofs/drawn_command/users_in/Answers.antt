use Rattle.std.proofs.Common.{◌≡◌, ◌∙◌, ◌==◌, ◌/◌, ◌%◌, ◌^◌, ℕ, ap, false, arith}
use Rattle.std.proofs.lemmas.Bool.Decides.{nat_tests}
use Rattle.ov_script.proofs.WorkloadNames.{one_more, no_more}
use Rattle.ov_script.proofs.drawn_command.users_in.Goals as goal
use Rattle.ov_script.proofs.drawn_command.users_in.Goals.{then-who-number-eq1+in_ok-user+in_ok-insert, else-who-number-eq1}

pub users-preserved : goal.users-preserved
users-preserved c =
    let names = c.users.names in
    let who = c.args.who in
    let k = c.users.number in
    elim c.if-who-number-eq1.branch [
      | then-who-number-eq1+in_ok-user+in_ok-insert w ↦
          one_more who k names c.if-who-number-eq1.names w.in_ok-user.field-0 c.users-test.true c.users.invariant w.in_ok-user.ensures (ap (λ bit. bit == 1) w.if-who-number-eq1.true) (w.names-is ∙ w.in_ok-insert.ensures.ok)
      | else-who-number-eq1 w ↦
          w.names-is ∙ no_more who k names c.users.invariant (unset (who / 2 ^ k % 2) w.if-who-number-eq1.false)
    ]
  where
    unset : (bit : ℕ) → (bit ≡ 1 → ⊥) → (bit == 1) ≡ false
    unset bit other = grind (arith, nat_tests)
