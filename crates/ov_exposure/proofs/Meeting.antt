-- Of the members of a set one is in another just where the two sets meet.
use Rattle.std.proofs.Common.{◌≡◌, ℕ, Bool, true, false, List, refl, sym, ◌∙◌, ◌&&◌}
use Rattle.std.specs.Prelude.{bit_and}
use Rattle.std.proofs.lemmas.Bool.{false≢true}
use Rattle.ov_base.specs.Sets.{empty, has, meets}
use Rattle.ov_base.proofs.SetLaws.{has-both, has-empty, same_members}
use Rattle.ov_base.proofs.SetMeets.{apart-meets, member-meets}
use Rattle.ov_exposure.specs.Auditing.{AreMembers, MeetsIsAny, any_in}
use Rattle.ov_exposure.proofs.Noting.{any_is, is_any}

not_both : (x y : Bool) → (x ≡ true → y ≡ true → ⊥) → (x && y) ≡ false
not_both true true never = absurd (never refl refl)
not_both true false never = refl
not_both false y never = refl

meets_by : (users : List ℕ) (named set : ℕ) → AreMembers users named → (b : Bool)
    → any_in users set ≡ b → b ≡ meets named set
meets_by users named set are true is =
    let (user, among, one) = any_is users set is in
    sym (member-meets named set user ((are user).0 among) one)
meets_by users named set are false is =
    sym
    (apart-meets named set
    (same_members (bit_and named set) empty
    (λ n. has-both named set n
    ∙ not_both (has named n) (has set n)
    (λ one two. false≢true (sym is ∙ is_any users set n ((are n).1 one) two))
    ∙ sym (has-empty n))))

pub meets_is_any : MeetsIsAny
meets_is_any users named set are = meets_by users named set are (any_in users set) refl
