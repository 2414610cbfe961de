-- How a Book is read: what is before a gate, and what follows it.
use Rattle.std.proofs.Common.{◌≡◌, ◌≢◌, ℕ, zero, suc, ◌+◌, ◌≤◌, ◌<◌, List, [], ◌∷◌, ◌++◌, length, take, drop, get_or, Bool, true, false, ◌==◌, ◌&&◌, leb, refl, sym, ◌∙◌, ap, arith, append_assoc, length-append, length-drop, take-append-drop}
use Rattle.ov_base.specs.declared.limits.TheConstants.{MAX_RECORD_BYTES}
use Rattle.std.proofs.lemmas.List.{take_at, drop_at, drop-take, take-append-le, length-take-le}
use Rattle.std.proofs.lemmas.Bool.{le-leb, leb-true, and_parts}
use Rattle.std.proofs.lemmas.Bool.Decides.{nat_tests}
use Rattle.std.proofs.lemmas.Nat.{from_be_bytes-to_be_bytes_4}
use Rattle.std.specs.Int.{w32, to_be_bytes, from_be_bytes}
use Rattle.ov_journal.specs.Runs.{length_in, is_length, body_in, Run, past_gate, run_after, end_from}
use Rattle.ov_journal.specs.Frames.{framed}

-- these bodies, and then what follows
abbrev pub prepended : List (List ℕ) → Run → Run
prepended bodies more = record { bodies = bodies ++ more.bodies; bad = more.bad }

-- how many bytes the records of these bodies have
abbrev pub size_of : List (List ℕ) → ℕ
size_of [] = 0
size_of (body ∷ bodies) = 5 + length body + size_of bodies

pub end_from-size : (place : ℕ) (bodies : List (List ℕ)) → end_from place bodies ≡ place + size_of bodies
end_from-size place [] = omega arith
end_from-size place (body ∷ bodies) = omega (arith, end_from-size (place + 5 + length body) bodies)

-- passing over bytes is dropping them
pub run_after-drop : (skip : ℕ) (bytes : List ℕ) → run_after skip bytes ≡ run_after 0 (drop skip bytes)
run_after-drop zero bytes = refl
run_after-drop (suc skip) [] = refl
run_after-drop (suc skip) (byte ∷ rest) = run_after-drop skip rest

-- what begins a list begins what begins it
pub take_front : (m n : ℕ) (xs t : List ℕ) → m ≤ n → n ≤ length xs → take m (take n xs ++ t) ≡ take m xs
take_front m n xs t le long =
    let inside : m ≤ length (take n xs) = omega (arith, le, length-take-le n xs long) in
    take-append-le m (take n xs) t inside ∙ sym (take-append-le m (take n xs) (drop n xs) inside) ∙ ap (λ (l : List ℕ). take m l) (take-append-drop n xs)

-- What a length that can be says.
pub record Fits (rest : List ℕ) : Type 0 where
  pub some : 1 ≤ length_in rest
  pub most : length_in rest ≤ MAX_RECORD_BYTES
  pub room : length_in rest + 5 ≤ length rest

pub fits : (rest : List ℕ) → is_length rest ≡ true → Fits rest
fits rest is =
    let first = and_parts (leb 1 (length_in rest) && leb (length_in rest) MAX_RECORD_BYTES) (leb (length_in rest + 5) (length rest)) is in
    let both = and_parts (leb 1 (length_in rest)) (leb (length_in rest) MAX_RECORD_BYTES) first.0 in
    record { some = leb-true _ _ both.0; most = leb-true _ _ both.1; room = leb-true _ _ first.1 }

pub fits_is : (rest : List ℕ) → Fits rest → is_length rest ≡ true
fits_is rest f = λ i. le-leb 1 (length_in rest) f.some i && le-leb (length_in rest) MAX_RECORD_BYTES f.most i && le-leb (length_in rest + 5) (length rest) f.room i

pub length-body_in : (rest : List ℕ) → Fits rest → length (body_in rest) ≡ length_in rest
length-body_in rest f = length-take-le (length_in rest) (drop 4 rest) (omega (arith, f.room, length-drop 4 rest))

pub not_open : (gate : ℕ) → (gate == 1) ≡ false → gate ≢ 1
not_open gate is = grind (arith, nat_tests)

pub is_closed : (gate : ℕ) → gate ≢ 1 → (gate == 1) ≡ false
is_closed gate shut = grind (arith, nat_tests)

-- a gate that isn't open ends the records
pub closed_reads : (gate : ℕ) (rest : List ℕ) → gate ≢ 1 → run_after 0 (gate ∷ rest) ≡ record { bodies = []; bad = false }
closed_reads gate rest shut = ap (λ (b : Bool). past_gate b (is_length rest) (body_in rest) (run_after (length_in rest + 4) rest)) (is_closed gate shut)

-- Whole records are the front of a Book: at their end is a gate that isn't open, and whatever is there
-- instead, they are read before it.
pub record IsFront (skip end : ℕ) (bytes : List ℕ) : Type 0 where
  pub inside : end < length bytes
  pub closed : get_or bytes end 0 ≢ 1
  pub reads : (t : List ℕ) → 1 ≤ length t → run_after skip (take end bytes ++ t) ≡ prepended (run_after skip bytes).bodies (run_after 0 t)

-- Whole records are the front of the bytes from a gate on: at their end is a gate that isn't open,
-- and whatever comes instead of it, these bodies are read before it.
record IsFrontOf (end : ℕ) (bytes : List ℕ) (bodies : List (List ℕ)) : Type 0 where
  inside : end < length bytes
  closed : get_or bytes end 0 ≢ 1
  reads : (t : List ℕ) → 1 ≤ length t → run_after 0 (take end bytes ++ t) ≡ prepended bodies (run_after 0 t)

open_reads : (rest x : List ℕ) → Fits rest → length_in rest + 4 < length x → take (length_in rest + 4) x ≡ take (length_in rest + 4) rest → run_after 0 (1 ∷ x)
    ≡ record { bodies = body_in rest ∷ (run_after (length_in rest + 4) x).bodies; bad = (run_after (length_in rest + 4) x).bad }
open_reads rest x f long same =
    let n = length_in rest in
    let whole : n + 4 ≡ 4 + n = omega arith in
    let four : take 4 x ≡ take 4 rest =
    sym (take_front 4 (n + 4) x (drop (n + 4) x) (omega arith) (omega (arith, long))) ∙ ap (λ (l : List ℕ). take 4 (l ++ drop (n + 4) x)) same
    ∙ take_front 4 (n + 4) rest (drop (n + 4) x) (omega arith) (omega (arith, f.room)) in
    let number : length_in x ≡ n = ap (λ (l : List ℕ). from_be_bytes w32 l) four in
    let body : body_in x ≡ body_in rest =
    ap (λ (m : ℕ). take m (drop 4 x)) number ∙ sym (drop-take 4 n x) ∙ ap (λ (m : ℕ). drop 4 (take m x)) (sym whole) ∙ ap (λ (l : List ℕ). drop 4 l) same
    ∙ ap (λ (m : ℕ). drop 4 (take m rest)) whole ∙ drop-take 4 n rest in
    let test : is_length x ≡ true = fits_is x (record { some = omega (arith, number, f.some); most = omega (arith, number, f.most); room = omega (arith, number, long) }) in
    λ i. past_gate true (test i) (body i) (run_after (number i + 4) x)

at_gate : (gate : ℕ) (rest : List ℕ) (open_gate can : Bool) → (gate == 1) ≡ open_gate → is_length rest ≡ can → (end : ℕ)
    → let r = past_gate open_gate can (body_in rest) (run_after (length_in rest + 4) rest) in r.bad ≡ false → end ≡ size_of r.bodies
    → ((e : ℕ) → (run_after (length_in rest + 4) rest).bad ≡ false → e ≡ length_in rest + 4 + size_of (run_after (length_in rest + 4) rest).bodies → IsFront (length_in rest + 4) e rest)
    → IsFrontOf end (gate ∷ rest) r.bodies
at_gate gate rest false can is fit zero whole end_is on = record {
  inside = omega arith;
  closed = not_open gate is;
  reads = λ t some. refl;
}
at_gate gate rest false can is fit (suc e) whole end_is on = absurd (omega (arith, end_is))
at_gate gate rest true false is fit e whole end_is on = absurd (cc whole)
at_gate gate rest true true is fit zero whole end_is on = absurd (omega (arith, end_is))
at_gate gate rest true true is fit (suc e) whole end_is on =
    let f = fits rest fit in
    let n = length_in rest in
    let behind = on e whole (omega (arith, end_is, length-body_in rest f)) in
    let past : n + 4 ≤ e = omega (arith, end_is, length-body_in rest f) in
    let is_open : gate ≡ 1 = grind (arith, nat_tests) in
    record {
      inside = omega (arith, behind.inside);
      closed = behind.closed;
      reads = λ t some.
          let x = take e rest ++ t in
          let long : length x ≡ e + length t = omega (arith, length-append (take e rest) t, length-take-le e rest (omega (arith, behind.inside))) in
          ap (λ (g : ℕ). run_after 0 (g ∷ x)) is_open
          ∙ open_reads rest x f (omega (arith, long, past, some)) (take_front (n + 4) e rest t past (omega (arith, behind.inside)))
          ∙ ap (λ (r : Run). record { bodies = body_in rest ∷ r.bodies; bad = r.bad }) (behind.reads t some);
    }

pub front_reads : (bytes : List ℕ) (skip end : ℕ) → (run_after skip bytes).bad ≡ false → end ≡ skip + size_of (run_after skip bytes).bodies → IsFront skip end bytes
front_reads [] skip end whole end_is = absurd (cc whole)
front_reads (byte ∷ rest) (suc skip) zero whole end_is = absurd (omega (arith, end_is))
front_reads (byte ∷ rest) (suc skip) (suc end) whole end_is =
    let on = front_reads rest skip end whole (omega (arith, end_is)) in
    record { inside = omega (arith, on.inside); closed = on.closed; reads = λ t some. on.reads t some }
front_reads (gate ∷ rest) zero end whole end_is =
    let here = at_gate gate rest (gate == 1) (is_length rest) refl refl end whole (omega (arith, end_is)) (λ e bad is. front_reads rest (length_in rest + 4) e bad is) in
    record { inside = here.inside; closed = here.closed; reads = here.reads }

-- a record that was written behind an open gate
pub frame_reads : (body rest : List ℕ) → 1 ≤ length body → length body ≤ MAX_RECORD_BYTES → run_after 0 (1 ∷ (framed body ++ rest)) ≡ record { bodies = body ∷ []; bad = false }
frame_reads body rest some most =
    let size = to_be_bytes w32 (length body) in
    let x = framed body ++ rest in
    let parts : x ≡ size ++ (body ++ 0 ∷ rest) = append_assoc (size ++ body) (0 ∷ []) rest ∙ append_assoc size body (0 ∷ rest) in
    let four : take 4 x ≡ size = ap (λ (l : List ℕ). take 4 l) parts ∙ take_at size (body ++ 0 ∷ rest) 4 refl in
    let number : length_in x ≡ length body = ap (λ (l : List ℕ). from_be_bytes w32 l) four ∙ from_be_bytes-to_be_bytes_4 (length body) (omega (arith, most)) in
    let behind : drop 4 x ≡ body ++ 0 ∷ rest = ap (λ (l : List ℕ). drop 4 l) parts ∙ drop_at size (body ++ 0 ∷ rest) 4 refl in
    let is_body : body_in x ≡ body = (λ i. take (number i) (behind i)) ∙ take_at body (0 ∷ rest) (length body) refl in
    let long : length x ≡ 4 + length body + 1 + length rest = omega (arith, ap length parts, length-append size (body ++ 0 ∷ rest), length-append body (0 ∷ rest), ap length four) in
    let test : is_length x ≡ true = fits_is x (record { some = omega (arith, number, some); most = omega (arith, number, most); room = omega (arith, number, long) }) in
    let tail : drop (length_in x + 4) x ≡ 0 ∷ rest =
    let whole : length_in x + 4 ≡ 4 + length body = omega (arith, number) in
    ap (λ (m : ℕ). drop m x) whole ∙ ap (λ (l : List ℕ). drop (4 + length body) l) (append_assoc (size ++ body) (0 ∷ []) rest)
    ∙ drop_at (size ++ body) (0 ∷ rest) (4 + length body) (omega (arith, length-append size body)) in
    let more : run_after (length_in x + 4) x ≡ record { bodies = []; bad = false } = run_after-drop (length_in x + 4) x ∙ ap (run_after 0) tail in
    λ i. past_gate true (test i) (is_body i) (more i)
