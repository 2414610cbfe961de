-- What a reader says of a wrong place, and how readers that are put together say it.
use Rattle.std.proofs.Common.{◌≡◌, ℕ, zero, suc, ◌<◌, ◌≤◌, ◌*◌, ◌^◌, List, [], ◌∷◌, ◌++◌, length, get_or, Ok, Err, refl, sym, ap, subst, ◌∙◌, append_assoc, arith}
use Rattle.std.proofs.lemmas.List.{append-nil}
use Rattle.std.specs.Int.{Width, w16, w32, byte_len, to_be_bytes}
use Rattle.ov_base.specs.Names.{IsName}
use Rattle.ov_fields.specs.Spelling.{name_field}
use Rattle.ov_fields.specs.Fronts.{IsFront, IsOutside}
use Rattle.ov_fields.specs.Reading.{Read}
use Rattle.ov_fields.proofs.ReadingLaws.{AreBytes, AreBytes-back}

-- ---- bytes

cons_at : (b : ℕ) (bytes : List ℕ) → b < 256 → AreBytes bytes → (i : ℕ) → get_or (b ∷ bytes) i 0 < 256
cons_at b bytes lt tail zero = lt
cons_at b bytes lt tail (suc i) = tail.each i

pub AreBytes-cons : (b : ℕ) (bytes : List ℕ) → b < 256 → AreBytes bytes → AreBytes (b ∷ bytes)
AreBytes-cons b bytes lt tail = record { each = cons_at b bytes lt tail }

pub AreBytes-nil : AreBytes []
AreBytes-nil = record { each = λ i. omega arith }

pub AreBytes-both : (xs ys : List ℕ) → AreBytes xs → AreBytes ys → AreBytes (xs ++ ys)
AreBytes-both [] ys one two = two
AreBytes-both (x ∷ xs) ys one two = AreBytes-cons x (xs ++ ys) (one.each 0) (AreBytes-both xs ys (AreBytes-back (x ∷ []) xs one) two)

-- ---- wrong places

-- what has begun right before a place: a name that mustn't come twice, or a number
pub data Begun (Once Limited : Type 0) (begun rest : List ℕ) : Type 0 where
  has_nothing : begun ≡ [] → Begun Once Limited begun rest
  has_name : Once → (name more : List ℕ) → IsName name → name_field name ≡ begun ++ more → Begun Once Limited begun rest
  has_number : Limited → rest ≡ [] → length begun < 4 → Begun Once Limited begun rest

-- a number of this width outside its limits
pub record OutsideLimits {A : Type 0} (Taken : List ℕ → Type 0) (spell : A → List ℕ) (Form : A → Type 0) (front rest : List ℕ) (w : Width) : Type 0 where
  pub n : ℕ
  pub least : ℕ
  pub most : ℕ
  pub after : List ℕ
  pub parts : rest ≡ to_be_bytes w n ++ after
  pub fits : n < 2 ^ (8 * byte_len w)
  pub outside : IsOutside least most n
  pub within : (k : ℕ) → least ≤ k → k ≤ most → IsFront spell Form (front ++ to_be_bytes w k)
  pub others : (k : ℕ) → k < 2 ^ (8 * byte_len w) → IsOutside least most k → (more : List ℕ) → Taken ((front ++ to_be_bytes w k) ++ more) → ⊥

-- no bytes that are taken begin with these and the field
pub data Stops {A : Type 0} (Once Limited : Type 0) (Taken : List ℕ → Type 0) (spell : A → List ℕ) (Form : A → Type 0) (front rest : List ℕ) : Type 0 where
  at_end : rest ≡ [] → Stops Once Limited Taken spell Form front rest
  at_byte : (b : ℕ) (after : List ℕ) → rest ≡ b ∷ after → ((more : List ℕ) → Taken ((front ++ b ∷ []) ++ more) → ⊥) → Stops Once Limited Taken spell Form front rest
  at_u16 : Limited → OutsideLimits Taken spell Form front rest w16 → Stops Once Limited Taken spell Form front rest
  at_u32 : Limited → OutsideLimits Taken spell Form front rest w32 → Stops Once Limited Taken spell Form front rest
  at_name : Once → (name after : List ℕ) → IsName name → rest ≡ name_field name ++ after → ((more : List ℕ) → Taken ((front ++ name_field name) ++ more) → ⊥)
      → Stops Once Limited Taken spell Form front rest

-- this many bytes are left at the wrong place
pub record Fault {A : Type 0} (Once Limited : Type 0) (Taken : List ℕ → Type 0) (spell : A → List ℕ) (Form : A → Type 0) (bytes : List ℕ) (left : ℕ) : Type 0 where
  pub front : List ℕ
  pub rest : List ℕ
  pub parts : bytes ≡ front ++ rest
  pub is_left : length rest ≡ left
  pub whole : List ℕ
  pub begun : List ℕ
  pub before : front ≡ whole ++ begun
  pub is_begun : Begun Once Limited begun rest
  pub goes_on : IsFront spell Form whole
  pub stops : Stops Once Limited Taken spell Form front rest

-- the reader takes the front of these bytes
abbrev pub Takes : {A : Type 0} → (List ℕ → Read A) → List ℕ → Type 0
Takes {A = A} read bytes = (x : A × List ℕ) × (read bytes ≡ Ok x)

-- a reader of values with a spelling: there is such a value, and where the reader fails the place
-- is that of a wrong field, or the end
pub record HasPlaces {A : Type 0} (Once Limited : Type 0) (read : List ℕ → Read A) (spell : A → List ℕ) (Form : A → Type 0) : Type 0 where
  pub value : A
  pub form : Form value
  pub bytes : AreBytes (spell value)
  pub fault : (bytes : List ℕ) (left : ℕ) → AreBytes bytes → read bytes ≡ Err left → Fault Once Limited (Takes read) spell Form bytes left

-- ---- faults behind other bytes

lead_taken : (Taken Taken' : List ℕ → Type 0) (lead front wrong more : List ℕ) → ((t : List ℕ) → Taken' (lead ++ t) → Taken t) → Taken' (((lead ++ front) ++ wrong) ++ more) → Taken ((front ++ wrong) ++ more)
lead_taken Taken Taken' lead front wrong more taken is =
    let e : ((lead ++ front) ++ wrong) ++ more ≡ lead ++ ((front ++ wrong) ++ more) =
    ap (λ (t : List ℕ). t ++ more) (append_assoc lead front wrong) ∙ append_assoc lead (front ++ wrong) more in
    taken ((front ++ wrong) ++ more) (subst Taken' e is)

lead_number : {A B : Type 0} {Taken Taken' : List ℕ → Type 0} {s : A → List ℕ} {F : A → Type 0} {s' : B → List ℕ} {F' : B → Type 0} {w : Width} (lead front rest : List ℕ)
    → ((t : List ℕ) → IsFront s F t → IsFront s' F' (lead ++ t)) → ((t : List ℕ) → Taken' (lead ++ t) → Taken t)
    → OutsideLimits Taken s F front rest w → OutsideLimits Taken' s' F' (lead ++ front) rest w
lead_number {Taken = Taken} {Taken' = Taken'} {s' = s'} {F' = F'} {w = w} lead front rest on taken o = record {
  n = o.n;
  least = o.least;
  most = o.most;
  after = o.after;
  parts = o.parts;
  fits = o.fits;
  outside = o.outside;
  within = λ k least most.
      subst (IsFront s' F') (sym (append_assoc lead front (to_be_bytes w k))) (on (front ++ to_be_bytes w k) (o.within k least most));
  others = λ k fits outside more is. o.others k fits outside more (lead_taken Taken Taken' lead front (to_be_bytes w k) more taken is);
}

pub lead_stops : {A B Once Limited : Type 0} {Taken Taken' : List ℕ → Type 0} {s : A → List ℕ} {F : A → Type 0} {s' : B → List ℕ} {F' : B → Type 0} (lead front rest : List ℕ)
    → ((t : List ℕ) → IsFront s F t → IsFront s' F' (lead ++ t)) → ((t : List ℕ) → Taken' (lead ++ t) → Taken t)
    → Stops Once Limited Taken s F front rest → Stops Once Limited Taken' s' F' (lead ++ front) rest
lead_stops lead front rest on taken (at_end is) = at_end is
lead_stops {Taken = Taken} {Taken' = Taken'} lead front rest on taken (at_byte b after parts stops) = at_byte b after parts (λ more is. stops more (lead_taken Taken Taken' lead front (b ∷ []) more taken is))
lead_stops lead front rest on taken (at_u16 limited o) = at_u16 limited (lead_number lead front rest on taken o)
lead_stops lead front rest on taken (at_u32 limited o) = at_u32 limited (lead_number lead front rest on taken o)
lead_stops {Taken = Taken} {Taken' = Taken'} lead front rest on taken (at_name once name after is parts stops) =
    at_name once name after is parts (λ more is. stops more (lead_taken Taken Taken' lead front (name_field name) more taken is))

pub lead_fault : {A B Once Limited : Type 0} {Taken Taken' : List ℕ → Type 0} {s : A → List ℕ} {F : A → Type 0} {s' : B → List ℕ} {F' : B → Type 0} (lead bytes : List ℕ) (left : ℕ)
    → Fault Once Limited Taken s F bytes left → ((w : List ℕ) → IsFront s F w → IsFront s' F' (lead ++ w)) → ((t : List ℕ) → Taken' (lead ++ t) → Taken t)
    → Fault Once Limited Taken' s' F' (lead ++ bytes) left
lead_fault lead bytes left f on taken = record {
  front = lead ++ f.front;
  rest = f.rest;
  parts = ap (λ (t : List ℕ). lead ++ t) f.parts ∙ sym (append_assoc lead f.front f.rest);
  is_left = f.is_left;
  whole = lead ++ f.whole;
  begun = f.begun;
  before = ap (λ (t : List ℕ). lead ++ t) f.before ∙ sym (append_assoc lead f.whole f.begun);
  is_begun = f.is_begun;
  goes_on = on f.whole f.goes_on;
  stops = lead_stops lead f.front f.rest on taken f.stops;
}

-- no byte of a spelling comes before the wrong field
pub none_before : {A : Type 0} {s : A → List ℕ} {F : A → Type 0} (a : A) → F a → AreBytes (s a) → IsFront s F []
none_before {s = s} a form bytes = record { value = a; more = s a; form = form; spelled = refl; bytes = bytes.each }

-- the bytes begin with the wrong field
pub fault_here : {A Once Limited : Type 0} {Taken : List ℕ → Type 0} {s : A → List ℕ} {F : A → Type 0} (bytes : List ℕ)
    → IsFront s F [] → Stops Once Limited Taken s F [] bytes → Fault Once Limited Taken s F bytes (length bytes)
fault_here bytes none stops = record {
  front = [];
  rest = bytes;
  parts = refl;
  is_left = refl;
  whole = [];
  begun = [];
  before = refl;
  is_begun = has_nothing refl;
  goes_on = none;
  stops = stops;
}

-- the first byte is wrong
pub fault_at_byte : {A Once Limited : Type 0} {Taken : List ℕ → Type 0} {s : A → List ℕ} {F : A → Type 0} (b : ℕ) (after : List ℕ)
    → IsFront s F [] → ((more : List ℕ) → Taken (b ∷ more) → ⊥) → Fault Once Limited Taken s F (b ∷ after) (length (b ∷ after))
fault_at_byte b after none stops = fault_here (b ∷ after) none (at_byte b after refl stops)

-- the bytes end too early
pub fault_cut : {A Once Limited : Type 0} {Taken : List ℕ → Type 0} {s : A → List ℕ} {F : A → Type 0} (bytes : List ℕ) → IsFront s F bytes → Fault Once Limited Taken s F bytes 0
fault_cut bytes front = record {
  front = bytes;
  rest = [];
  parts = sym (append-nil bytes);
  is_left = refl;
  whole = bytes;
  begun = [];
  before = sym (append-nil bytes);
  is_begun = has_nothing refl;
  goes_on = front;
  stops = at_end refl;
}

-- the bytes end inside a number
pub fault_in_number : {A Once Limited : Type 0} {Taken : List ℕ → Type 0} {s : A → List ℕ} {F : A → Type 0} (bytes : List ℕ)
    → Limited → IsFront s F [] → length bytes < 4 → Fault Once Limited Taken s F bytes 0
fault_in_number bytes limited none few = record {
  front = bytes;
  rest = [];
  parts = sym (append-nil bytes);
  is_left = refl;
  whole = [];
  begun = bytes;
  before = refl;
  is_begun = has_number limited refl few;
  goes_on = none;
  stops = at_end refl;
}
