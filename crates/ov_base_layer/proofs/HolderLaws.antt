-- The laws of holders and of access tokens.
use Rattle.std.proofs.Common.{◌≡◌, ◌≢◌, ◌∙◌, ◌<◌, ◌+◌, ◌==◌, ◌↔◌, ◌⊎◌, ℕ, zero, suc, Bool, true, false, List, [], ◌∷◌, ◌++◌, Some, length, get_or, drop, take, ap, subst, refl, sym, inl, inr, arith, add-one, eqb-true, length-append}
use Rattle.std.specs.Prelude.{Contains, slice_get, slice_index}
use Rattle.std.proofs.lemmas.Bool.Decides.{nat_tests}
use Rattle.std.proofs.lemmas.List.{take-append-le}
use Rattle.std.proofs.lemmas.List.Elements.{Contains-append_cases}
use Rattle.std.proofs.lemmas.Option.{get_or_from_slice_get, slice_get_within}
use Rattle.std.proofs.Math.ListN.{get_or-append}
use Rattle.std.proofs.Math.Seq.{drop-cons, take-append_seam}
use Rattle.ov_base.specs.Sets.{Has, single, with}
use Rattle.ov_base.proofs.SetLaws.{Has-single, union-Has, with-Has, within_with}
use Rattle.ov_base.proofs.SetSizes.{with_member}
use Rattle.ov_graph.proofs.ListLaws.{Contains-cases, Contains-first, Contains-later, Contains-none}
use Rattle.ov_base_layer.specs.declared.grant.Grant.{Grant}
use Rattle.ov_base_layer.specs.BaseContents.{BaseContents, holders_of}
use Rattle.ov_base_layer.specs.Holders.{Access, access_of, accesses_of, holders_in, with_accesses, with_if, AreFirst, IsHolder}

same_number : (a b : ℕ) → a ≡ b → (a == b) ≡ true
same_number a b e = grind (arith, nat_tests)

-- ---- one access after another

-- the access of a grant at a place
pub access_at : (grants : List Grant) (i : ℕ) (d : Grant) → i < length grants
    → Contains (accesses_of grants) (access_of (get_or grants i d))
access_at [] i d inside = absurd (omega arith)
access_at (grant ∷ grants) zero d inside = (zero, omega arith, refl)
access_at (grant ∷ grants) (suc i) d inside =
    let (k, below, is) = access_at grants i d (omega arith) in (suc k, omega arith, is)

-- one more access at the end
pub with_accesses-append : (accesses : List Access) (access : Access) (node set : ℕ)
    → with_accesses (accesses ++ access ∷ []) node set
    ≡ with_if (access.node == node) (with_accesses accesses node set) access.user
with_accesses-append [] access node set = refl
with_accesses-append (first ∷ accesses) access node set =
    with_accesses-append accesses access node (with_if (first.node == node) set first.user)

-- ---- who holds a node

held_if : (b : Bool) (set user other : ℕ) → Has set user → Has (with_if b set other) user
held_if true set user other held = within_with set other user held
held_if false set user other held = held

-- the users of the set stay
held_before : (accesses : List Access) (node set user : ℕ) → Has set user
    → Has (with_accesses accesses node set) user
held_before [] node set user held = held
held_before (access ∷ accesses) node set user held =
    held_before accesses node (with_if (access.node == node) set access.user) user
    (held_if (access.node == node) set user access.user held)

-- a user who was given access holds the node
held_since : (accesses : List Access) (node set user : ℕ)
    → Contains accesses (record { user = user; node = node })
    → Has (with_accesses accesses node set) user
held_since [] node set user given = absurd (Contains-none _ given)
held_since (access ∷ accesses) node set user given =
    elim (Contains-cases access accesses _ given) [
      | inl here ↦
          let user_is : access.user ≡ user = ap (λ (a : Access). a.user) here in
          let node_is : access.node ≡ node = ap (λ (a : Access). a.node) here in
          let test = same_number access.node node node_is in
          let added : Has (with_if (access.node == node) set access.user) user =
          subst (λ b. Has (with_if b set access.user) user) (sym test)
          (subst (λ u. Has (with set access.user) u) user_is (with-Has set access.user)) in
          held_before accesses node (with_if (access.node == node) set access.user) user added
      | inr later ↦ held_since accesses node (with_if (access.node == node) set access.user) user later
    ]

who_if : (b : Bool) (set user other : ℕ) → Has (with_if b set other) user
    → Has set user ⊎ ((b ≡ true) × (user ≡ other))
who_if true set user other held = elim (union-Has set (single other) user held) [
  | inl before ↦ inl before
  | inr new ↦ inr (refl, Has-single other user new)
]
who_if false set user other held = inl held

-- nobody but its set's users and those who were given access holds a node
who_holds : (accesses : List Access) (node set user : ℕ)
    → Has (with_accesses accesses node set) user
    → Has set user ⊎ Contains accesses (record { user = user; node = node })
who_holds [] node set user held = inl held
who_holds (access ∷ accesses) node set user held =
    elim (who_holds accesses node (with_if (access.node == node) set access.user) user held) [
      | inl before ↦ elim (who_if (access.node == node) set user access.user before) [
        | inl old ↦ inl old
        | inr new ↦
            let node_is : access.node ≡ node = eqb-true _ _ new.0 in
            let is : access ≡ record { user = user; node = node } =
            ap (λ u. record { user = u; node = access.node }) (sym new.1)
            ∙ ap (λ n. record { user = user; node = n }) node_is in
            inr (subst (λ (a : Access). Contains (access ∷ accesses) a) is (Contains-first access accesses))
      ]
      | inr later ↦ inr (Contains-later access accesses _ later)
    ]

-- the holders, in one sentence
pub holders_are : (sets : List ℕ) (accesses : List Access) (node user : ℕ)
    → Has (holders_in sets accesses node) user ↔ IsHolder sets accesses node user
holders_are sets accesses node user = (
  who_holds accesses node (slice_index sets node) user,
  elim [
    | inl held ↦ held_before accesses node (slice_index sets node) user held
    | inr given ↦ held_since accesses node (slice_index sets node) user given
  ],
)

-- the holders by a set and accesses that are found to be the node's, in one sentence
pub found_holders : (layer : BaseContents) (sets : List ℕ) (grants found : List Grant) (node set held user : ℕ)
    → held ≡ with_accesses (accesses_of found) node set
    → found ≡ grants
    → set ≡ slice_index sets node
    → holders_in sets (accesses_of grants) node ≡ holders_of layer node
    → Has held user ↔ IsHolder layer.graph.sets (accesses_of layer.grants) node user
found_holders layer sets grants found node set held user held_is found_is set_is same =
    let is : held ≡ holders_of layer node =
    held_is ∙ ap (λ g. with_accesses (accesses_of g) node set) found_is
    ∙ ap (with_accesses (accesses_of grants) node) set_is ∙ same in
    subst (λ users. Has users user ↔ IsHolder layer.graph.sets (accesses_of layer.grants) node user) (sym is)
    (holders_are layer.graph.sets (accesses_of layer.grants) node user)

still_if : (b : Bool) (set user : ℕ) → (b ≡ true → Has set user) → with_if b set user ≡ set
still_if true set user held = with_member set user (held refl)
still_if false set user held = refl

-- access for a user who holds the node changes nothing
pub again_held : (sets : List ℕ) (accesses : List Access) (access : Access) (node : ℕ)
    → Has (holders_in sets accesses access.node) access.user
    → holders_in sets (accesses ++ access ∷ []) node ≡ holders_in sets accesses node
again_held sets accesses access node held =
    with_accesses-append accesses access node (slice_index sets node)
    ∙ still_if (access.node == node) (holders_in sets accesses node) access.user
    (λ test. subst (λ n. Has (holders_in sets accesses n) access.user) (eqb-true _ _ test) held)

-- ---- accesses that were first

-- the holders of a node stay as they are when a set is added
pub holders_in-set : (sets : List ℕ) (set : ℕ) (accesses : List Access) (node : ℕ) → node < length sets
    → holders_in (sets ++ set ∷ []) accesses node ≡ holders_in sets accesses node
holders_in-set sets set accesses node there =
    ap (λ users. with_accesses accesses node users) (get_or-append sets (set ∷ []) 0 node there)

-- an access among others and one more
one_more : (accesses : List Access) (new : Access) (n : ℕ) (access : Access)
    → slice_get (accesses ++ new ∷ []) n ≡ Some access
    → ((n < length accesses) × (slice_get accesses n ≡ Some access)) ⊎ ((n ≡ length accesses) × (new ≡ access))
one_more [] new zero access is = inr (refl, cc)
one_more [] new (suc n) access is = cc
one_more (first ∷ accesses) new zero access is = inl (omega arith, is)
one_more (first ∷ accesses) new (suc n) access is = elim (one_more accesses new n access is) [
  | inl old ↦ inl (omega (arith, old.0), old.1)
  | inr last ↦ inr (ap suc last.0, last.1)
]

-- one more access, to a user who wasn't a holder
pub first_more : (limit : ℕ) (sets : List ℕ) (accesses : List Access) (new : Access)
    → AreFirst limit sets accesses
    → new.user < limit
    → new.node < length sets
    → ¬ Has (holders_in sets accesses new.node) new.user
    → AreFirst limit sets (accesses ++ new ∷ [])
first_more limit sets accesses new old user node fresh = record {
  users = λ access there. elim (Contains-append_cases accesses (new ∷ []) access there) [
    | inl before ↦ old.users access before
    | inr last ↦ elim (Contains-cases new [] access last) [
      | inl is ↦ subst (λ (a : Access). a.user < limit) is user
      | inr none ↦ absurd (Contains-none access none)
    ]
  ];
  nodes = λ access there. elim (Contains-append_cases accesses (new ∷ []) access there) [
    | inl before ↦ old.nodes access before
    | inr last ↦ elim (Contains-cases new [] access last) [
      | inl is ↦ subst (λ (a : Access). a.node < length sets) is node
      | inr none ↦ absurd (Contains-none access none)
    ]
  ];
  first = λ n access is. elim (one_more accesses new n access is) [
    | inl before ↦
        subst (λ (front : List Access). ¬ Has (holders_in sets front access.node) access.user)
        (sym (take-append-le n accesses (new ∷ []) (omega (arith, before.0))))
        (old.first n access before.1)
    | inr last ↦
        let front : take n (accesses ++ new ∷ []) ≡ accesses =
        ap (λ k. take k (accesses ++ new ∷ [])) last.0 ∙ take-append_seam accesses (new ∷ []) in
        subst (λ (front : List Access). ¬ Has (holders_in sets front access.node) access.user) (sym front)
        (subst (λ (a : Access). ¬ Has (holders_in sets accesses a.node) a.user) last.1 fresh)
  ];
}

-- one more set
pub first_in_more_sets : (limit : ℕ) (sets : List ℕ) (set : ℕ) (accesses : List Access)
    → AreFirst limit sets accesses
    → AreFirst limit (sets ++ set ∷ []) accesses
first_in_more_sets limit sets set accesses old = record {
  users = old.users;
  nodes = λ access there. omega (arith, length-append sets (set ∷ []), old.nodes access there);
  first = λ n access is.
      let there : access.node < length sets = old.nodes access (n, slice_get_within accesses n access is, get_or_from_slice_get accesses n access access is) in
      subst (λ users. ¬ Has users access.user)
      (sym (holders_in-set sets set (take n accesses) access.node there))
      (old.first n access is);
}
