-- What others make while a call asks.
use Rattle.std.proofs.Common.{◌≡◌, ◌∙◌, ◌+◌, List, [], ◌∷◌, ◌++◌, length, Bool, true, false}
use Rattle.std.proofs.Common.{Ok, refl, sym, ap, subst, arith}
use Rattle.std.proofs.lemmas.List.{length-append}
use Rattle.ov_record.specs.Updates.{SealedUpdate}
use Rattle.ov_protocol.specs.Serving.{Service, later, served}
use Rattle.ov_protocol.proofs.Following.{later-append}
use Rattle.ov_protocol.proofs.GoingOn.{epoch_later}
use Rattle.ov_protocol.proofs.Leaving.{later-nil}
use Rattle.ov_listing.specs.Telling.{MayBeMade, Told}

pub none_left : (us : List SealedUpdate) → length us ≡ 0 → us ≡ []
none_left [] none = refl
none_left (u ∷ us) none = absurd (omega arith)

pub both_none : (a b : List SealedUpdate) → a ++ b ≡ [] → (a ≡ []) × (b ≡ [])
both_none a b none =
    let sum : length a + length b ≡ 0 = sym (length-append a b) ∙ ap length none in
    (none_left a (omega arith), none_left b (omega arith))

pub same_left : (v : Service) (made : List SealedUpdate) → made ≡ [] → later v made ≡ v
same_left v made none = ap (later v) none ∙ later-nil v

pub may_both : (alone : Bool) (a b : List SealedUpdate) → MayBeMade alone a → MayBeMade alone b
    → MayBeMade alone (a ++ b)
may_both true a b one two = ap (λ (us : List SealedUpdate). us ++ b) one ∙ two
may_both false a b one two = tt

pub may_none : (alone : Bool) → MayBeMade alone []
may_none true = refl
may_none false = tt

-- what goes on from a history and has its epoch is that history
pub still : (v : Service) (others : List SealedUpdate)
    → (served (later v others)).catalogue.epoch ≡ (served v).catalogue.epoch → others ≡ []
still v others same =
    let sum = epoch_later v others in none_left others (omega (arith, same, sum))

-- what is served then is this history with what others made of it, and where they made nothing
-- that holds
abbrev pub Meanwhile : Bool → Service → (Service → Type 0) → Type 0 → Type 0
Meanwhile alone v Then Holds =
    (others : List SealedUpdate) × MayBeMade alone others × Then (later v others)
    × (others ≡ [] → Holds)

pub at_first : (alone : Bool) (v : Service) (Then : Service → Type 0) (A : Type 0) → Then v → A
    → Meanwhile alone v Then A
at_first alone v Then A then a =
    ([], may_none alone, subst Then (sym (later-nil v)) then, λ none. a)

pub also : (alone : Bool) (v : Service) (Then : Service → Type 0) (A B : Type 0)
    → Meanwhile alone v Then A → (A → B) → Meanwhile alone v Then B
also alone v Then A B (others, may, then, holds) f = (others, may, then, λ none. f (holds none))

-- one part of a call after another
pub behind : (alone : Bool) (v : Service) (Mid Then : Service → Type 0) (A : Type 0)
    (B : Service → Type 0)
    → Meanwhile alone v Mid A → ((w : Service) → Mid w → Meanwhile alone w Then (B w))
    → Meanwhile alone v Then (A × B v)
behind alone v Mid Then A B (a, may_a, mid, holds) next =
    let (b, may_b, then, more) = next (later v a) mid in (
      a ++ b,
      may_both alone a b may_a may_b,
      subst Then (later-append v a b) then,
      λ none. let (no_a, no_b) = both_none a b none in
          (holds no_a, subst B (same_left v a no_a) (more no_b)),
    )

-- an answer that is right there is right where others made nothing
pub of_one : {T : Type 0} (alone : Bool) (v : Service) (Then : Service → Type 0)
    (IsRight : T → Service → Type 0) (value : T)
    → Told alone v Then IsRight (Ok value) → Meanwhile alone v Then (IsRight value v)
of_one alone v Then IsRight value (others, may, then, right) =
    (others, may, then, λ none. subst (IsRight value) (same_left v others none) right)

-- an answer after others
pub told_behind : {T : Type 0} (alone : Bool) (v : Service) (Mid Then : Service → Type 0)
    (A : Type 0) (IsRight : T → Service → Type 0) (value : T)
    → Meanwhile alone v Mid A
    → ((w : Service) → Mid w → Told alone w Then IsRight (Ok value))
    → Told alone v Then IsRight (Ok value)
told_behind alone v Mid Then A IsRight value (a, may_a, mid, holds) next =
    let (b, may_b, then, right) = next (later v a) mid in (
      a ++ b,
      may_both alone a b may_a may_b,
      subst Then (later-append v a b) then,
      subst (IsRight value) (later-append v a b) right,
    )
