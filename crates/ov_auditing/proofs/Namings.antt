-- The numbers of names, and the set of them.
use Rattle.std.proofs.Common.{◌≡◌, ◌<◌, ℕ, List, [], ◌∷◌, ◌++◌, length}
use Rattle.std.proofs.Common.{refl, sym, ◌∙◌, ap, subst, inl, inr, arith}
use Rattle.std.specs.Prelude.{Contains}
use Rattle.std.proofs.lemmas.List.Elements.{Contains-append_cases, Contains-append_left}
use Rattle.std.proofs.lemmas.List.Elements.{Contains-append_right}
use Rattle.ov_base.specs.Sets.{Has, empty, single, with}
use Rattle.ov_base.proofs.SetLaws.{Has-single, empty-Has, union-Has, union_left, with-Has}
use Rattle.ov_graph.proofs.ListLaws.{Contains-cases, Contains-first, Contains-none}
use Rattle.ov_history.specs.Places.{place_of}
use Rattle.ov_auditing.specs.Exposed.{AreUsersOf, numbers_in}

numbers-push : (users names : List (List ℕ)) (name : List ℕ)
    → numbers_in users (names ++ name ∷ []) ≡ numbers_in users names ++ place_of name users ∷ []
numbers-push users [] name = refl
numbers-push users (first ∷ names) name =
    ap (λ (rest : List ℕ). place_of first users ∷ rest) (numbers-push users names name)

pub none_named : (users : List (List ℕ)) → AreUsersOf users [] empty
none_named users = (
  λ name there. absurd (Contains-none name there),
  λ user. (λ there. absurd (Contains-none user there), λ one. absurd (empty-Has user one)),
)

-- the set with the number of one name more has just the users of all these names
pub one_more_named : (users names : List (List ℕ)) (name : List ℕ) (set number : ℕ)
    → number ≡ place_of name users → number < length users → AreUsersOf users names set
    → AreUsersOf users (names ++ name ∷ []) (with set number)
one_more_named users names name set number is low named = (
  λ other there. elim (Contains-append_cases names (name ∷ []) other there) [
    | inl old ↦ named.0 other old
    | inr last ↦ elim (Contains-cases name [] other last) [
      | inl same ↦
          subst (λ n. place_of n users < length users) same (omega (arith, is, low))
      | inr none ↦ absurd (Contains-none other none)
    ]
  ],
  λ user. (
    λ there.
        let listed : Contains (numbers_in users names ++ place_of name users ∷ []) user =
        subst (λ (ns : List ℕ). Contains ns user) (numbers-push users names name) there in
        elim
        (Contains-append_cases (numbers_in users names) (place_of name users ∷ []) user listed) [
          | inl old ↦ union_left set (single number) user ((named.1 user).0 old)
          | inr last ↦ elim (Contains-cases (place_of name users) [] user last) [
            | inl same ↦ subst (λ n. Has (with set number) n) (is ∙ same) (with-Has set number)
            | inr none ↦ absurd (Contains-none user none)
          ]
        ],
    λ one.
        subst (λ (ns : List ℕ). Contains ns user) (sym (numbers-push users names name))
        (elim (union-Has set (single number) user one) [
          | inl old ↦
              Contains-append_left (numbers_in users names) (place_of name users ∷ []) user
              ((named.1 user).1 old)
          | inr new ↦
              Contains-append_right (numbers_in users names) (place_of name users ∷ []) user
              (subst (λ n. Contains (place_of name users ∷ []) n)
              (sym (Has-single number user new ∙ is)) (Contains-first (place_of name users) []))
        ]),
  ),
)
