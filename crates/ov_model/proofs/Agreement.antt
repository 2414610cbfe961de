-- The two readers leave the same bytes, or fail at the same one.
use Rattle.std.proofs.Common.{◌≡◌, ℕ, zero, suc, ◌+◌, ◌-◌, ◌*◌, ◌<◌, ◌≤◌, Bool, true, false, cond, ltb, List, [], ◌∷◌, length, take, drop, Some, Result, Ok, Err, lt-ltb, refl, sym, ap, ◌∙◌, length-drop, drop-drop, arith}
use Rattle.std.specs.Int.{w16, w32}
use Rattle.std.proofs.lemmas.Bool.{ltb-true, ltb-false, le-ltb}
use Rattle.std.proofs.lemmas.Bool.Decides.{nat_tests}
use Rattle.ov_base.specs.declared.limits.TheConstants.{MAX_USERS, MAX_FILE_BYTES, SET_BYTES}
use Rattle.ov_base.specs.Sets.{set_of_bytes}
use Rattle.ov_fields.specs.Reading.{Read, ◌>>=◌, ◌>>◌, made, spanned, rest_of, at_most, bytes_at, number_at, number_that, many_at, counted_at, flag_at, some_at, optional_at, set_at, token_at, token_of, name_at, sized_at}
use Rattle.ov_record.specs.Reading as record_reading
use Rattle.ov_record.specs.Forms.{second_form}
use Rattle.ov_record.specs.Updates.{SealedRemove}
use Rattle.ov_wire.specs.Updates as wire_reading
use Rattle.ov_wire.specs.RequestReading.{spelling_at}

abbrev Rest : Type 0
Rest = Result (List ℕ) ℕ

-- the two readers leave the same bytes
abbrev AreAlike : {A B : Type 0} → (List ℕ → Read A) → (List ℕ → Read B) → Type 0
AreAlike r s = (bytes : List ℕ) → rest_of (r bytes) ≡ rest_of (s bytes)

rest-made : {A B : Type 0} (make : A → B) (read : Read A) → rest_of (made make read) ≡ rest_of read
rest-made make (Ok a) = refl
rest-made make (Err left) = refl

abbrev paired : {A B : Type 0} → A → B × List ℕ → Read (A × B)
paired a b = Ok ((a, b.0), b.1)

inner : {A B : Type 0} (read : Read B) (a : A) → rest_of (read >>= λ b. paired a b) ≡ rest_of read
inner (Ok b) a = refl
inner (Err left) a = refl

behind : (x : Rest) (f g : List ℕ → Rest) → ((rest : List ℕ) → f rest ≡ g rest) → (x >>= f) ≡ (x >>= g)
behind (Ok rest) f g each = each rest
behind (Err left) f g each = refl

-- what is behind two fields
rest-then : {A B : Type 0} (read : Read A) (s : List ℕ → Read B) → rest_of (read >>= λ a. s a.1 >>= λ b. paired a.0 b) ≡ (rest_of read >>= λ rest. rest_of (s rest))
rest-then (Ok a) s = inner (s a.1) a.0
rest-then (Err left) s = refl

then_alike : {A B C D : Type 0} (r : List ℕ → Read A) (r' : List ℕ → Read B) (s : List ℕ → Read C) (s' : List ℕ → Read D) → AreAlike r r' → AreAlike s s' → AreAlike (r >> s) (r' >> s')
then_alike r r' s s' one two bytes =
    rest-then (r bytes) s ∙ ap (λ (x : Rest). x >>= λ rest. rest_of (s rest)) (one bytes) ∙ behind (rest_of (r' bytes)) (λ rest. rest_of (s rest)) (λ rest. rest_of (s' rest)) two
    ∙ sym (rest-then (r' bytes) s')

same : {A : Type 0} (r : List ℕ → Read A) → AreAlike r r
same r bytes = refl

set_alike : AreAlike (bytes_at SET_BYTES) (set_at SET_BYTES)
set_alike bytes = sym (rest-made set_of_bytes (bytes_at SET_BYTES bytes))

-- the bytes of this many tokens, at once and one after the other
-- (as what is left, or none where they are too few)
abbrev cut_off : ℕ → List ℕ → Rest
cut_off n bytes = cond (ltb (length bytes) n) (Err 0) (Ok (drop n bytes))

cut-test : (b : Bool) (front rest : List ℕ) → rest_of (cond b (Err 0) (Ok (front, rest))) ≡ cond b (Err 0) (Ok rest)
cut-test true front rest = refl
cut-test false front rest = refl

rest-bytes : (n : ℕ) (bytes : List ℕ) → rest_of (bytes_at n bytes) ≡ cut_off n bytes
unfolding bytes_at
rest-bytes n bytes = cut-test (ltb (length bytes) n) (take n bytes) (drop n bytes)

others : {A : Type 0} (read : Read (List A)) (a : A) → rest_of (read >>= λ x. Ok (a ∷ x.0, x.1)) ≡ rest_of read
others (Ok x) a = refl
others (Err left) a = refl

other_tokens : (n : ℕ) (read : Read (List ℕ)) → rest_of (made token_of read >>= λ a. many_at token_at n a.1 >>= λ others. Ok (a.0 ∷ others.0, others.1))
    ≡ (rest_of read >>= λ rest. rest_of (many_at token_at n rest))
other_tokens n (Ok a) = others (many_at token_at n a.1) (token_of a.0)
other_tokens n (Err left) = refl

same_tests : (long rest n : ℕ) → 32 ≤ long → rest ≡ long - 32 → ltb long (32 * suc n) ≡ ltb rest (32 * n)
same_tests long rest n le is = grind (arith, nat_tests)

cut_twice : (b : Bool) (n : ℕ) (bytes : List ℕ) → ltb (length bytes) 32 ≡ b → cut_off (32 * suc n) bytes ≡ (cond b (Err 0) (Ok (drop 32 bytes)) >>= λ rest. cut_off (32 * n) rest)
cut_twice true n bytes is =
    let few : length bytes < 32 = ltb-true _ _ is in
    let short : ltb (length bytes) (32 * suc n) ≡ true = lt-ltb _ _ (omega arith) in rw short refl
cut_twice false n bytes is =
    let many : 32 ≤ length bytes = ltb-false _ _ is in
    let sum : 32 * suc n ≡ 32 + 32 * n = omega arith in
    let tests : ltb (length bytes) (32 * suc n) ≡ ltb (length (drop 32 bytes)) (32 * n) = same_tests (length bytes) (length (drop 32 bytes)) n many (length-drop 32 bytes) in
    let rests : drop (32 * suc n) bytes ≡ drop (32 * n) (drop 32 bytes) = ap (λ (k : ℕ). drop k bytes) sum ∙ sym (drop-drop (32 * n) 32 bytes) in
    rw (tests, rests) refl

blocks : (n : ℕ) (bytes : List ℕ) → rest_of (bytes_at (32 * n) bytes) ≡ rest_of (many_at token_at n bytes)
unfolding many_at
blocks zero bytes =
    let none : ltb (length bytes) 0 ≡ false = le-ltb _ _ (omega arith) in rest-bytes 0 bytes ∙ rw none refl
blocks (suc n) bytes =
    rest-bytes (32 * suc n) bytes ∙ cut_twice (ltb (length bytes) 32) n bytes refl
    ∙ behind (cut_off 32 bytes) (λ rest. cut_off (32 * n) rest) (λ rest. rest_of (many_at token_at n rest)) (λ rest. sym (rest-bytes (32 * n) rest) ∙ blocks n rest)
    ∙ ap (λ (x : Rest). x >>= λ rest. rest_of (many_at token_at n rest)) (sym (rest-bytes 32 bytes)) ∙ sym (other_tokens n (bytes_at 32 bytes))

counted : (read : Read ℕ) → rest_of (read >>= λ n. bytes_at (32 * n.0) n.1) ≡ rest_of (read >>= λ n. many_at token_at n.0 n.1)
counted (Ok n) = blocks n.0 n.1
counted (Err left) = refl

tokens_alike : AreAlike (wire_reading.tokens_at MAX_USERS) (counted_at MAX_USERS token_at)
unfolding wire_reading.tokens_at counted_at
tokens_alike bytes = counted (number_that w16 (at_most MAX_USERS) bytes)

some_alike : (b : Bool) (bytes : List ℕ) → rest_of (some_at b (bytes_at 32) bytes) ≡ rest_of (some_at b token_at bytes)
some_alike true bytes =
    rest-made Some (bytes_at 32 bytes) ∙ sym (rest-made token_of (bytes_at 32 bytes)) ∙ sym (rest-made Some (token_at bytes))
some_alike false bytes = refl

behind_flag : (read : Read Bool) → rest_of (read >>= λ there. some_at there.0 (bytes_at 32) there.1) ≡ rest_of (read >>= λ there. some_at there.0 token_at there.1)
behind_flag (Ok there) = some_alike there.0 there.1
behind_flag (Err left) = refl

token_alike : AreAlike (optional_at (bytes_at 32)) (optional_at token_at)
unfolding optional_at
token_alike bytes = behind_flag (flag_at bytes)

creation_alike : AreAlike wire_reading.creation_at (record_reading.creation_at second_form)
creation_alike =
    then_alike _ _ (sized_at MAX_FILE_BYTES) (sized_at MAX_FILE_BYTES)
    (then_alike _ _ (bytes_at 32) (bytes_at 32)
    (then_alike _ _ (wire_reading.tokens_at MAX_USERS) (counted_at MAX_USERS token_at)
    (then_alike name_at name_at (bytes_at SET_BYTES) (set_at SET_BYTES) (same name_at) set_alike) tokens_alike) (same (bytes_at 32))) (same (sized_at MAX_FILE_BYTES))

replacement_alike : AreAlike wire_reading.replacement_at (record_reading.replacement_at second_form)
replacement_alike =
    then_alike _ _ (sized_at MAX_FILE_BYTES) (sized_at MAX_FILE_BYTES)
    (then_alike _ _ (bytes_at 32) (bytes_at 32)
    (then_alike name_at name_at (wire_reading.tokens_at MAX_USERS) (counted_at MAX_USERS token_at) (same name_at) tokens_alike) (same (bytes_at 32)))
    (same (sized_at MAX_FILE_BYTES))

grant_alike : AreAlike wire_reading.grant_at record_reading.grant_at
grant_alike = then_alike _ _ (optional_at (bytes_at 32)) (optional_at token_at) (same wire_reading.revocation_at) token_alike

updates_alike : AreAlike wire_reading.fields_at (record_reading.update_at second_form)
unfolding wire_reading.fields_at record_reading.update_at
updates_alike [] = refl
updates_alike (zero ∷ bytes) = refl
updates_alike (suc zero ∷ bytes) = rest-made _ (name_at bytes) ∙ sym (rest-made _ (name_at bytes))
updates_alike (suc (suc zero) ∷ bytes) =
    rest-made wire_reading.creation (wire_reading.creation_at bytes) ∙ creation_alike bytes ∙ sym (rest-made record_reading.creation (record_reading.creation_at second_form bytes))
updates_alike (suc (suc (suc zero)) ∷ bytes) =
    rest-made wire_reading.grant (wire_reading.grant_at bytes) ∙ grant_alike bytes ∙ sym (rest-made record_reading.grant (record_reading.grant_at bytes))
updates_alike (suc (suc (suc (suc zero))) ∷ bytes) =
    rest-made wire_reading.revocation (wire_reading.revocation_at bytes) ∙ sym (rest-made record_reading.revocation (record_reading.revocation_at bytes))
updates_alike (suc (suc (suc (suc (suc zero)))) ∷ bytes) = refl
updates_alike (suc (suc (suc (suc (suc (suc zero))))) ∷ bytes) =
    rest-made wire_reading.Removal (number_at w32 bytes) ∙ sym (rest-made SealedRemove (number_at w32 bytes))
updates_alike (suc (suc (suc (suc (suc (suc (suc zero)))))) ∷ bytes) =
    rest-made wire_reading.replacement (wire_reading.replacement_at bytes) ∙ replacement_alike bytes
    ∙ sym (rest-made record_reading.replacement (record_reading.replacement_at second_form bytes))
updates_alike (suc (suc (suc (suc (suc (suc (suc (suc kind))))))) ∷ bytes) = refl

-- the span depends on what is left alone
abbrev span_to : List ℕ → Rest → Read (List ℕ)
span_to bytes rest = rest >>= λ l. Ok (take (length bytes - length l) bytes, l)

span-rest : {A : Type 0} (bytes : List ℕ) (read : Read A) → (read >>= λ a. Ok (take (length bytes - length a.1) bytes, a.1)) ≡ span_to bytes (rest_of read)
span-rest bytes (Ok a) = refl
span-rest bytes (Err left) = refl

pub spellings_agree : (bytes : List ℕ) → spelling_at bytes ≡ spanned (record_reading.update_at second_form) bytes
spellings_agree bytes =
    span-rest bytes (wire_reading.fields_at bytes) ∙ ap (span_to bytes) (updates_alike bytes) ∙ sym (span-rest bytes (record_reading.update_at second_form bytes))
