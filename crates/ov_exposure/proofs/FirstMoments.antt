-- The first moment of a history at which something holds; and the causes by which files are exposed.
use Rattle.std.proofs.Common.{◌≡◌, ◌⊎◌, ◌≤◌, ℕ, Bool, true, false, List, [], ◌∷◌, ◌++◌}
use Rattle.std.proofs.Common.{length, refl, sym, ap, subst, inl, inr, arith}
use Rattle.std.specs.Prelude.{Contains}
use Rattle.ov_graph.proofs.ListLaws.{Contains-cases, Contains-first, Contains-later, Contains-none}
use Rattle.ov_tokens.specs.declared.label.Label.{Label}
use Rattle.ov_history.specs.Sent.{SealedUpdate}
use Rattle.ov_history.specs.History.{matrix_of}
use Rattle.ov_history.specs.Lists.{is_file, is_listed}
use Rattle.ov_history.specs.Words.{HasFile, place_in}
use Rattle.ov_history.specs.Catalogue.{Catalogue}
use Rattle.ov_history.specs.Closure.{IsRootOfSome, ReachesAll, protecting}
use Rattle.ov_history.specs.Sealed.{IsSealed, SealedHistory, catalogue_of}
use Rattle.ov_exposure.specs.Exposure.{AreUsers, Bare, CanRead, Cause, ExposedIsReadable, ExposedOnce}
use Rattle.ov_exposure.specs.Exposure.{HoldsBaseNode, IsBareAt, IsExposed, IsFirstEpoch, IsGiven}
use Rattle.ov_exposure.specs.Exposure.{IsListedAt, IsMoment, Listed, Server, WasBare, WasListedIn}
use Rattle.ov_exposure.specs.Exposure.{epoch_at, known_at}
use Rattle.ov_exposure.proofs.GivenAway.{reads_what_was_listed_or_bare, server_reads_what_is_held}
use Rattle.ov_exposure.proofs.GivenAway.{with_server}
use Rattle.ov_exposure.proofs.Moments.{first_of, rest_of}
use Rattle.std.specs.Prelude.{Option, Some, None}

-- ---- what can be told

abbrev pub IsTold : Type 0 → Type 0
IsTold A = A ⊎ (A → ⊥)

told_true : (b : Bool) → IsTold (b ≡ true)
told_true true = inl refl
told_true false = inr (λ is. absurd (cc))

told_none : (o : Option ℕ) → IsTold (o ≡ None)
told_none None = inl refl
told_none (Some n) = inr (λ is. absurd (cc))

told_both : {A B : Type 0} → IsTold A → IsTold B → IsTold (A × B)
told_both (inl a) (inl b) = inl (a, b)
told_both (inl a) (inr isnt) = inr (λ both. isnt both.1)
told_both (inr isnt) b = inr (λ both. isnt both.0)

told_one : (users : List ℕ) (holds : ℕ → Type 0) → ((user : ℕ) → IsTold (holds user))
    → IsTold ((user : ℕ) × Contains users user × holds user)
told_one [] holds told = inr (λ one. absurd (Contains-none one.0 one.1))
told_one (first ∷ users) holds told = elim (told first) [
  | inl is ↦ inl (first, Contains-first first users, is)
  | inr isnt ↦ elim (told_one users holds told) [
    | inl one ↦ inl (one.0, Contains-later first users one.0 one.1, one.2)
    | inr none ↦ inr
        (λ one. elim (Contains-cases first users one.0 one.1) [
          | inl same ↦ absurd (isnt (subst holds (sym same) one.2))
          | inr later ↦ absurd (none (one.0, later, one.2))
        ])
  ]
]

told_listed : (g : SealedHistory) (users : List ℕ) (file : ℕ) (before : List SealedUpdate)
    → IsTold (IsListedAt g before users file)
told_listed g users file before =
    told_one users (λ user. is_listed (matrix_of (known_at g before)) user file ≡ true)
    (λ user. told_true (is_listed (matrix_of (known_at g before)) user file))

told_there : (g : SealedHistory) (file : ℕ) (before : List SealedUpdate)
    → IsTold (HasFile (known_at g before) file)
told_there g file before = told_true (is_file (matrix_of (known_at g before)) file)

told_bare : (g : SealedHistory) (file : ℕ) (before : List SealedUpdate)
    → IsTold (IsBareAt g before file)
told_bare g file before =
    told_both (told_there g file before) (told_none (place_in (known_at g before) file).surface)

-- ---- the first front of a list of which something holds

-- it holds of this front of the list, and of no shorter one
abbrev IsLeast : List SealedUpdate → (List SealedUpdate → Type 0) → Type 0
IsLeast all holds =
    (before : List SealedUpdate) × (after : List SealedUpdate) × (all ≡ before ++ after)
    × holds before
    × ((other more : List SealedUpdate) → all ≡ other ++ more → holds other
    → length before ≤ length other)

abbrev IsNever : List SealedUpdate → (List SealedUpdate → Type 0) → Type 0
IsNever all holds = (other more : List SealedUpdate) → all ≡ other ++ more → holds other → ⊥

never_empty : (holds : List SealedUpdate → Type 0) → (holds [] → ⊥) → IsNever [] holds
never_empty holds isnt [] more is here = isnt here
never_empty holds isnt (u ∷ other) more is here = absurd (cc)

never_longer : (u : SealedUpdate) (all : List SealedUpdate) (holds : List SealedUpdate → Type 0)
    → (holds [] → ⊥) → IsNever all (λ us. holds (u ∷ us)) → IsNever (u ∷ all) holds
never_longer u all holds isnt never [] more is here = isnt here
never_longer u all holds isnt never (v ∷ other) more is here =
    let heads : u ≡ v = ap (first_of u) is in
    never other more (ap rest_of is)
    (subst (λ (w : SealedUpdate). holds (w ∷ other)) (sym heads) here)

least_longer : (u : SealedUpdate) (all : List SealedUpdate) (holds : List SealedUpdate → Type 0)
    (before : List SealedUpdate)
    → (holds [] → ⊥)
    → ((other more : List SealedUpdate) → all ≡ other ++ more → holds (u ∷ other)
    → length before ≤ length other)
    → (other more : List SealedUpdate) → u ∷ all ≡ other ++ more → holds other
    → length (u ∷ before) ≤ length other
least_longer u all holds before isnt least [] more is here = absurd (isnt here)
least_longer u all holds before isnt least (v ∷ other) more is here =
    let heads : u ≡ v = ap (first_of u) is in
    let low : length before ≤ length other =
    least other more (ap rest_of is)
    (subst (λ (w : SealedUpdate). holds (w ∷ other)) (sym heads) here) in
    omega (arith, low)

least_or_never : (all : List SealedUpdate) (holds : List SealedUpdate → Type 0)
    → ((us : List SealedUpdate) → IsTold (holds us))
    → IsLeast all holds ⊎ IsNever all holds
least_or_never [] holds told = elim (told []) [
  | inl is ↦ inl ([], [], refl, is, λ other more same here. omega arith)
  | inr isnt ↦ inr (never_empty holds isnt)
]
least_or_never (u ∷ all) holds told = elim (told []) [
  | inl is ↦ inl ([], u ∷ all, refl, is, λ other more same here. omega arith)
  | inr isnt ↦ elim (least_or_never all (λ us. holds (u ∷ us)) (λ us. told (u ∷ us))) [
    | inl one ↦ inl (
      u ∷ one.0,
      one.1,
      ap (λ us. u ∷ us) one.2,
      one.3,
      least_longer u all holds one.0 isnt one.4,
    )
    | inr never ↦ inr (never_longer u all holds isnt never)
  ]
]

-- something that can be told has a first epoch, or no moment has it
first_or_never : (g : SealedHistory) (holds : List SealedUpdate → Type 0)
    → ((us : List SealedUpdate) → IsTold (holds us))
    → ((epoch : ℕ) × IsFirstEpoch g holds epoch)
    ⊎ ((before : List SealedUpdate) → IsMoment g before → holds before → ⊥)
first_or_never g holds told = elim (least_or_never g.updates holds told) [
  | inl one ↦ inl (
    epoch_at g one.0,
    (
      (one.0, (one.1, one.2), one.3, refl),
      λ other moment here. omega (arith, one.4 other moment.0 moment.1 here),
    ),
  )
  | inr never ↦ inr (λ before moment here. never before moment.0 moment.1 here)
]

-- it has one first epoch
first_is_one : (g : SealedHistory) (holds : List SealedUpdate → Type 0) (epoch since : ℕ)
    → IsFirstEpoch g holds epoch → IsFirstEpoch g holds since → epoch ≡ since
first_is_one g holds epoch since one two =
    let low : epoch ≤ epoch_at g two.0.0 = one.1 two.0.0 two.0.1 two.0.2 in
    let high : since ≤ epoch_at g one.0.0 = two.1 one.0.0 one.0.1 one.0.2 in
    omega (arith, low, high, one.0.3, two.0.3)

-- ---- exposed files

with_server_all : (c : Catalogue) (users : List ℕ) (labels : List Label)
    → ReachesAll c (IsRootOfSome c users) labels → ReachesAll c (IsGiven true c users) labels
with_server_all c users [] held = tt
with_server_all c users (label ∷ labels) held =
    (with_server c users label held.0, with_server_all c users labels held.1)

-- who can read without the server can read with it
also_with : (server : Bool) (master : List ℕ) (g : SealedHistory) (users : List ℕ) (file : ℕ)
    → CanRead false master g users file → CanRead server master g users file
also_with false master g users file can = can
also_with true master g users file (before, f, moment, stood, held) =
    (before, f, moment, stood, with_server_all (catalogue_of master g) users (protecting f) held)

module _ (master : List ℕ) (g : SealedHistory) (users : List ℕ) (file : ℕ) (fit : IsSealed g)
    (are : AreUsers g users) where
  was_listed : (epoch : ℕ) → IsFirstEpoch g (λ before. IsListedAt g before users file) epoch
      → WasListedIn g users file
  was_listed epoch first = (first.0.0, first.0.1, first.0.2)

  readable : (server : Bool) (cause : Cause) (epoch : ℕ)
      → IsExposed server g users file cause epoch → CanRead server master g users file
  readable server Listed epoch first =
      also_with server master g users file
      ((reads_what_was_listed_or_bare master g users file fit are).1 (inl (was_listed epoch first)))
  readable server Bare epoch (isnt, held, first) =
      also_with server master g users file
      ((reads_what_was_listed_or_bare master g users file fit are).1
      (inr (held, (first.0.0, first.0.1, first.0.2))))
  readable server Server epoch (is, isnt, held, bare, first) =
      subst (λ b. CanRead b master g users file) (sym is)
      ((server_reads_what_is_held master g users file fit are).1 held)

  by_holding : (server : Bool) → (WasListedIn g users file → ⊥) → HoldsBaseNode g users file
      → (server ≡ true) ⊎ WasBare g file
      → (cause : Cause) × (epoch : ℕ) × IsExposed server g users file cause epoch
  by_holding server isnt held why =
      elim
      (first_or_never g (λ before. IsBareAt g before file) (λ before. told_bare g file before)) [
        | inl one ↦ (Bare, one.0, (isnt, held, one.1))
        | inr never ↦ elim why [
          | inl is ↦
              elim
              (first_or_never g (λ before. HasFile (known_at g before) file)
              (λ before. told_there g file before)) [
                | inl one ↦ (
                  Server,
                  one.0,
                  (is, isnt, held, λ (bare : WasBare g file). never bare.0 bare.1 bare.2, one.1),
                )
                | inr nothing ↦ absurd (nothing held.0 held.1 held.2)
              ]
          | inr bare ↦ absurd (never bare.0 bare.1 bare.2)
        ]
      ]

  why_read : (server : Bool) → CanRead server master g users file
      → (WasListedIn g users file → ⊥)
      → HoldsBaseNode g users file × ((server ≡ true) ⊎ WasBare g file)
  why_read true can isnt =
      ((server_reads_what_is_held master g users file fit are).0 can, inl refl)
  why_read false can isnt =
      elim ((reads_what_was_listed_or_bare master g users file fit are).0 can) [
        | inl listed ↦ absurd (isnt listed)
        | inr bare ↦ (bare.0, inr bare.1)
      ]

  found : (server : Bool) → CanRead server master g users file
      → (cause : Cause) × (epoch : ℕ) × IsExposed server g users file cause epoch
  found server can =
      elim
      (first_or_never g (λ before. IsListedAt g before users file)
      (λ before. told_listed g users file before)) [
        | inl one ↦ (Listed, one.0, one.1)
        | inr never ↦
            let isnt : (WasListedIn g users file → ⊥) = λ was. never was.0 was.1 was.2 in
            let why = why_read server can isnt in
            by_holding server isnt why.0 why.1
      ]

pub exposed_is_readable : ExposedIsReadable
exposed_is_readable server master g users file fit are = (
  λ (cause, epoch, exposed). readable master g users file fit are server cause epoch exposed,
  λ can. found master g users file fit are server can,
)

pub exposed_once : ExposedOnce
exposed_once server g users file Listed Listed epoch since one two =
    (refl, first_is_one g (λ before. IsListedAt g before users file) epoch since one two)
exposed_once server g users file Listed Bare epoch since one two =
    absurd (two.0 (one.0.0, one.0.1, one.0.2))
exposed_once server g users file Listed Server epoch since one two =
    absurd (two.1 (one.0.0, one.0.1, one.0.2))
exposed_once server g users file Bare Listed epoch since one two =
    absurd (one.0 (two.0.0, two.0.1, two.0.2))
exposed_once server g users file Bare Bare epoch since one two =
    (refl, first_is_one g (λ before. IsBareAt g before file) epoch since one.2 two.2)
exposed_once server g users file Bare Server epoch since one two =
    absurd (two.3 (one.2.0.0, one.2.0.1, one.2.0.2))
exposed_once server g users file Server Listed epoch since one two =
    absurd (one.1 (two.0.0, two.0.1, two.0.2))
exposed_once server g users file Server Bare epoch since one two =
    absurd (one.3 (two.2.0.0, two.2.0.1, two.2.0.2))
exposed_once server g users file Server Server epoch since one two =
    (refl, first_is_one g (λ before. HasFile (known_at g before) file) epoch since one.4 two.4)
