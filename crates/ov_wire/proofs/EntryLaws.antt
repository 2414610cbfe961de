-- The readers of catalogue entries read exactly their spellings.
use Rattle.std.proofs.Common.{◌≡◌, ℕ, zero, suc, ◌+◌, ◌*◌, ◌-◌, ◌^◌, ◌<◌, ◌≤◌, Bool, true, false, cond, IsTrue, List, [], ◌∷◌, ◌++◌, length, Option, Some, None, Result, Ok, Err, refl, sym, ap, ◌∙◌, arith}
use Rattle.std.specs.Prelude.{IfSome}
use Rattle.std.specs.List.{AllByRecursion}
use Rattle.ov_base.specs.declared.limits.TheConstants.{MAX_USERS, SET_BYTES}
use Rattle.ov_base.specs.Names.{IsName}
use Rattle.ov_base.specs.Sets.{IsBelow, bytes_of, set_of_bytes}
use Rattle.ov_tokens.specs.declared.token.Token.{Token}
use Rattle.ov_tokens.specs.declared.edge.Edge.{Edge}
use Rattle.ov_fields.specs.Spelling.{optional, counted, IsToken}
use Rattle.ov_fields.specs.Entries.{edge_field}
use Rattle.ov_fields.specs.Reading.{Read, ◌>>=◌, made, making, spanned, rest_of, at_most, between, byte_at, bytes_at, many_at, counted_at, optional_at}
use Rattle.ov_fields.proofs.ReadingLaws.{bind_ok, done, ok_is, Reads, then_reads, made_reads, made_into, refit}
use Rattle.ov_fields.proofs.FieldLaws.{byte_reads}
use Rattle.ov_fields.proofs.ListLaws.{counted_reads, optional_reads, Reads-more}
use Rattle.ov_fields.proofs.NameLaws.{name_reads, token_reads}
use Rattle.ov_fields.proofs.SetFields.{set_reads}
use Rattle.ov_fields.proofs.TagLaws.{spanned_reads}
use Rattle.ov_fields.proofs.TestLaws.{le_of, of_le, between_of, IsCount, count_is, is_count}
use Rattle.ov_wire.specs.Updates.{plain}
use Rattle.ov_wire.specs.Entries.{Entry, User, Node, Access, File, Gone, entry_bytes, IsNode, IsEdge, IsNodeEntry, IsOfPart, IsEntry, user_entry_at, user, edge_at, edge, node_entry_at, node, access_entry_at, access, entry_at}
use Rattle.ov_wire.specs.AnswerReading.{entry_or_none_at}
use Rattle.ov_wire.proofs.FileEntries.{file_or_gone_reads, longest_entry}
use Rattle.ov_wire.proofs.NumberLaws.{node_reads, below_reads}

pub edge_reads : Reads edge_at edge_field IsEdge (4 + 32)
edge_reads = made_reads edge (λ e. (e.from, e.token)) (λ f. refl) (λ e. refl) (then_reads node_reads token_reads)

abbrev UserFields : Type 0
UserFields = (List ℕ × ℕ) × ℕ

abbrev UserFits : UserFields → Type 0
UserFits f = (IsName f.0.0 × IsNode f.0.1) × IsNode f.1

back_user : (e : Entry) → IsOfPart 1 e → (f : UserFields) × UserFits f × (user f ≡ e)
back_user (User name base_root surface_root) is = (((name, base_root), surface_root), ((is.0, is.1), is.2), refl)
back_user (Node set edges) is = absurd is
back_user (Access u n token) is = absurd is
back_user (File name n len generation tag surface) is = absurd is
back_user Gone is = absurd is

user_reads : Reads (making user user_entry_at) entry_bytes (IsOfPart 1) longest_entry
user_reads =
    Reads-more
    (made_into user entry_bytes (IsOfPart 1) (then_reads (then_reads name_reads node_reads) node_reads)
    (λ f fits. (fits.0.0, fits.0.1, fits.1)) (λ f fits. refl) back_user)
    longest_entry (omega arith)

abbrev pub NodeFields : Type 0
NodeFields = ℕ × List Edge

abbrev pub NodeFits : NodeFields → Type 0
NodeFits f = IsBelow MAX_USERS f.0 × (IsCount (2 ^ 16) MAX_USERS (length f.1) × AllByRecursion IsEdge f.1)

back_node : (set : ℕ) (edges : List Edge) → IsNodeEntry set edges → NodeFits (set, edges)
back_node set edges is = (is.0, (is_count (2 ^ 16) MAX_USERS (length edges) (omega arith) is.1, is.2))

pub node_is : (f : NodeFields) → NodeFits f → IsNodeEntry f.0 f.1
node_is f fits = (fits.0, count_is (2 ^ 16) MAX_USERS (length f.1) fits.1.0, fits.1.1)

back_node_2 : (e : Entry) → IsOfPart 2 e → (f : NodeFields) × NodeFits f × (node f ≡ e)
back_node_2 (User name base_root surface_root) is = absurd is
back_node_2 (Node set edges) is = ((set, edges), back_node set edges is, refl)
back_node_2 (Access u n token) is = absurd is
back_node_2 (File name n len generation tag surface) is = absurd is
back_node_2 Gone is = absurd is

back_node_3 : (e : Entry) → IsOfPart 3 e → (f : NodeFields) × NodeFits f × (node f ≡ e)
back_node_3 (User name base_root surface_root) is = absurd is
back_node_3 (Node set edges) is = ((set, edges), back_node set edges is, refl)
back_node_3 (Access u n token) is = absurd is
back_node_3 (File name n len generation tag surface) is = absurd is
back_node_3 Gone is = absurd is

abbrev pub node_fields : NodeFields → List ℕ
node_fields f = bytes_of SET_BYTES f.0 ++ counted edge_field f.1

node_entry_reads : Reads node_entry_at node_fields NodeFits (SET_BYTES + (2 + MAX_USERS * (4 + 32)))
node_entry_reads = then_reads (set_reads SET_BYTES) (counted_reads MAX_USERS edge_reads)

node_2_reads : Reads (making node node_entry_at) entry_bytes (IsOfPart 2) longest_entry
node_2_reads =
    Reads-more
    (made_into node entry_bytes (IsOfPart 2) node_entry_reads node_is (λ f fits. refl) back_node_2)
    longest_entry (omega arith)

node_3_reads : Reads (making node node_entry_at) entry_bytes (IsOfPart 3) longest_entry
node_3_reads =
    Reads-more
    (made_into node entry_bytes (IsOfPart 3) node_entry_reads node_is (λ f fits. refl) back_node_3)
    longest_entry (omega arith)

abbrev AccessFields : Type 0
AccessFields = (ℕ × ℕ) × Token

abbrev AccessFits : AccessFields → Type 0
AccessFits f = ((f.0.0 < MAX_USERS) × IsNode f.0.1) × IsToken f.1

back_access : (e : Entry) → IsOfPart 4 e → (f : AccessFields) × AccessFits f × (access f ≡ e)
back_access (User name base_root surface_root) is = absurd is
back_access (Node set edges) is = absurd is
back_access (Access u n token) is = (((u, n), token), ((is.0, is.1), is.2), refl)
back_access (File name n len generation tag surface) is = absurd is
back_access Gone is = absurd is

access_reads : Reads (making access access_entry_at) entry_bytes (IsOfPart 4) longest_entry
access_reads =
    Reads-more
    (made_into access entry_bytes (IsOfPart 4) (then_reads (then_reads (below_reads MAX_USERS (omega arith)) node_reads) token_reads)
    (λ f fits. (fits.0.0, fits.0.1, fits.1)) (λ f fits. refl) back_access)
    longest_entry (omega arith)

pub too_great : (part : ℕ) → IsTrue (between 1 5 (suc (suc (suc (suc (suc (suc part))))))) → ⊥
too_great part is = let b = between_of 1 5 (suc (suc (suc (suc (suc (suc part)))))) is in omega (arith, b.1)

-- the readers of the five parts
pub entry_reads : (part : ℕ) → IsTrue (between 1 5 part) → Reads (entry_at part) entry_bytes (IsOfPart part) longest_entry
unfolding entry_at
entry_reads zero is = absurd cc
entry_reads (suc zero) is = user_reads
entry_reads (suc (suc zero)) is = node_2_reads
entry_reads (suc (suc (suc zero))) is = node_3_reads
entry_reads (suc (suc (suc (suc zero)))) is = access_reads
entry_reads (suc (suc (suc (suc (suc zero))))) is = file_or_gone_reads
entry_reads (suc (suc (suc (suc (suc (suc part)))))) is = absurd (too_great part is)

pub span_reads : (part : ℕ) → IsTrue (between 1 5 part) → Reads (spanned (entry_at part)) plain (IsEntry part) longest_entry
span_reads part is =
    spanned_reads (IsEntry part) (λ e fits. record { entry = e; form = fits; spelled = refl }) (λ text is. (is.entry, is.form, is.spelled)) (entry_reads part is)

-- ---- an entry or none

none_zero : (e : Entry) → IsOfPart zero e → ⊥
none_zero (User name base_root surface_root) is = is
none_zero (Node set edges) is = is
none_zero (Access u n token) is = is
none_zero (File name n len generation tag surface) is = is
none_zero Gone is = is

none_great : (part : ℕ) (e : Entry) → IsOfPart (suc (suc (suc (suc (suc (suc part)))))) e → ⊥
none_great part (User name base_root surface_root) is = is
none_great part (Node set edges) is = is
none_great part (Access u n token) is = is
none_great part (File name n len generation tag surface) is = is
none_great part Gone is = is

pub no_part : (part : ℕ) → between 1 5 part ≡ false → (e : Entry) → IsOfPart part e → ⊥
no_part zero out e is = none_zero e is
no_part (suc zero) out e is = absurd cc
no_part (suc (suc zero)) out e is = absurd cc
no_part (suc (suc (suc zero))) out e is = absurd cc
no_part (suc (suc (suc (suc zero)))) out e is = absurd cc
no_part (suc (suc (suc (suc (suc zero))))) out e is = absurd cc
no_part (suc (suc (suc (suc (suc (suc part)))))) out e is = none_great part e is

pub zero_reads : Reads (byte_at (at_most 0)) (λ b. b ∷ []) (λ b. b ≡ 0) 1
zero_reads = refit (λ b. b ≡ 0) (byte_reads (at_most 0)) (λ b h. let le = le_of 0 b h in omega (arith, le)) (λ b e. of_le 0 b (omega (arith, e)))

abbrev pub nothing_of : ℕ → Option (List ℕ)
nothing_of b = None

abbrev pub entry_or_none : Bool → ℕ → List ℕ → Read (Option (List ℕ))
entry_or_none b part = cond b (optional_at (spanned (entry_at part))) (making nothing_of (byte_at (at_most 0)))

back_none : (part : ℕ) → between 1 5 part ≡ false → (o : Option (List ℕ)) → IfSome o (IsEntry part) → (b : ℕ) × (b ≡ 0) × (nothing_of b ≡ o)
back_none part out None fits = (0, refl, refl)
back_none part out (Some text) fits = absurd (no_part part out fits.entry fits.form)

none_reads : (b : Bool) (part : ℕ) → between 1 5 part ≡ b
    → Reads (entry_or_none b part) (optional plain) (λ o. IfSome o (IsEntry part)) (1 + longest_entry)
none_reads true part is = optional_reads (span_reads part is)
none_reads false part out =
    Reads-more
    (made_into nothing_of (optional plain) (λ o. IfSome o (IsEntry part)) zero_reads (λ b e. tt) (λ b e. ap (λ (n : ℕ). n ∷ []) e) (back_none part out))
    (1 + longest_entry) (omega arith)

pub entry_or_none_reads : (part : ℕ) → Reads (entry_or_none_at part) (optional plain) (λ o. IfSome o (IsEntry part)) (1 + longest_entry)
entry_or_none_reads part = none_reads (between 1 5 part) part refl

-- ---- entries that are gone over

-- what is made of a value changes nothing behind it
pub rest-made : {A B : Type 0} (make : A → List ℕ → B × List ℕ) (read : Read A) → ((a : A) (rest : List ℕ) → (make a rest).1 ≡ rest)
    → rest_of (read >>= λ a. Ok (make a.0 a.1)) ≡ rest_of read
rest-made make (Ok a) same = ap (λ (l : List ℕ). done l) (same a.0 a.1)
rest-made make (Err left) same = refl

abbrev Rest : Type 0
Rest = Result (List ℕ) ℕ

-- one more edge was gone over
pub skips_on : {A : Type 0} (r : List ℕ → Read A) (count i : ℕ) (bytes after : List ℕ) (total : Rest) → i < count → rest_of (r bytes) ≡ Ok after
    → rest_of (many_at r (count - i) bytes) ≡ total → rest_of (many_at r (count - (i + 1)) after) ≡ total
unfolding many_at
skips_on {A = A} r count i bytes after total lt h so_far =
    let k : count - i ≡ suc (count - (i + 1)) = omega arith in
    let a = bind_ok (r bytes) (λ a. done a.1) after h in
    let n = count - (i + 1) in
    let is : a.0.1 ≡ after = ok_is a.0.1 after a.2 in
    let one : rest_of (many_at r (count - i) bytes) ≡ rest_of (many_at r n after) =
    ap (λ (j : ℕ). rest_of (many_at r j bytes)) k
    ∙ ap (λ (x : Read A). rest_of (x >>= λ b. many_at r n b.1 >>= λ others. Ok (b.0 ∷ others.0, others.1))) a.1
    ∙ rest-made (λ others rest. (a.0.0 ∷ others, rest)) (many_at r n a.0.1) (λ others rest. refl)
    ∙ ap (λ (l : List ℕ). rest_of (many_at r n l)) is in
    sym one ∙ so_far

no_rest : {A : Type 0} (read : Read A) (left : ℕ) → rest_of read ≡ Err left → read ≡ Err left
no_rest (Ok a) left e = absurd cc
no_rest (Err other) left e = cc

-- the next edge is wrong
pub skips_not : {A : Type 0} (r : List ℕ → Read A) (place : Option ℕ) (count i : ℕ) (bytes : List ℕ) (total : Rest) → i < count → IfSome place (λ left. rest_of (r bytes) ≡ Err left)
    → rest_of (many_at r (count - i) bytes) ≡ total → IfSome place (λ left. total ≡ Err left)
unfolding many_at
skips_not r None count i bytes total lt h so_far = tt
skips_not {A = A} r (Some left) count i bytes total lt h so_far =
    let k : count - i ≡ suc (count - (i + 1)) = omega arith in
    let bad : r bytes ≡ Err left = no_rest (r bytes) left h in
    let one : rest_of (many_at r (count - i) bytes) ≡ Err left = rw (k, bad) refl in
    sym so_far ∙ one

-- all edges were gone over
pub skipped : {A : Type 0} (r : List ℕ → Read A) (count i : ℕ) (bytes : List ℕ) (total : Rest) → count ≤ i → rest_of (many_at r (count - i) bytes) ≡ total → total ≡ Ok bytes
unfolding many_at
skipped r count i bytes total le so_far =
    let k : count - i ≡ 0 = omega arith in
    let one : rest_of (many_at r (count - i) bytes) ≡ Ok bytes = rw k refl in
    sym so_far ∙ one

twice : (set : ℕ) (read : Read (List Edge)) → rest_of (made node (read >>= λ b. Ok ((set, b.0), b.1))) ≡ rest_of read
twice set (Ok x) = refl
twice set (Err left) = refl

-- a node's edges follow its set
pub rest-node : (bytes rest : List ℕ) (text : List ℕ) → bytes_at SET_BYTES bytes ≡ Ok (text, rest) → rest_of (making node node_entry_at bytes) ≡ rest_of (counted_at MAX_USERS edge_at rest)
rest-node bytes rest text e = rw e (twice (set_of_bytes text) (counted_at MAX_USERS edge_at rest))
