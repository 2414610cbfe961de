-- How the chunks of a file and the tries of a read follow one another.
use Rattle.std.proofs.Common.{◌≡◌, ◌∙◌, ◌<◌, ◌≤◌, ◌+◌, ℕ, Bool, true, false}
use Rattle.std.proofs.Common.{List, [], ◌∷◌, ◌++◌, length, Result, Err}
use Rattle.std.proofs.Common.{refl, sym, ap, subst, arith, eq-eqb, length-append}
use Rattle.std.specs.Prelude.{◌==◌, if◌then◌else◌}
use Rattle.std.proofs.lemmas.Bool.Decides.{nat_tests}
use Rattle.ov_base.proofs.Tests.{lt_is_false, lt_is_true}
use Rattle.ov_wire.specs.declared.answer.Chained.{Chained}
use Rattle.ov_peer.specs.Tells.{PeerTells}
use Rattle.ov_client.specs.Readers.{FileKeys, Reader, judged, keys_along, uncovered}
use Rattle.ov_client.specs.Reads.{ReadGoesOn, Reaches, ReadsFrom}
use Rattle.ov_client.specs.Talks.{AsksChain, AsksChunk, Ends, Stage, after_fetched, again, goes_on}
use Rattle.ov_client.specs.Tries.{after_gathered, after_tried}
use Rattle.ov_client.specs.declared.fault.ClientFault.{ClientFault}
use Rattle.ov_client.specs.declared.fault.ClientFault.TheVariants as client
use Rattle.ov_client.specs.declared.reading.Tried.{Tried}
use Rattle.ov_client.specs.declared.reading.TheConstants.{TRIES}
use Rattle.ov_client.specs.declared.telling.Fetched.{Fetched}
use Rattle.ov_client.specs.declared.telling.Fetched.TheVariants.{Bytes}
use Rattle.ov_client.proofs.Coats.{length-uncovered, uncovered-append}
use Rattle.ov_client.proofs.Talking.{behind, forgot, then_reads}

no_bytes : (bytes : List ℕ) → length bytes ≡ 0 → bytes ≡ []
no_bytes [] none = refl
no_bytes (byte ∷ bytes) none = absurd (omega arith)

module _ (r : Reader) (tries : List ℕ) (c : Chained) (stored : List ℕ) where
  abbrev whole : Stage
  whole = Ends (judged (keys_along r c) c (uncovered (keys_along r c) c.file 0 stored))

  -- bytes of the file are left
  pub asks_more : length stored < c.length → goes_on r tries c stored ≡ AsksChunk tries c stored
  asks_more low =
      ap (λ (b : Bool). if b then AsksChunk tries c stored else whole)
      (lt_is_true (length stored) c.length low)

  -- all bytes of the file came
  pub asks_no_more : c.length ≤ length stored → goes_on r tries c stored ≡ whole
  asks_no_more high =
      ap (λ (b : Bool). if b then AsksChunk tries c stored else whole)
      (lt_is_false (length stored) c.length high)

module _ {P : Type 0} (peer : PeerTells P) (r : Reader) (file : List ℕ) where
  -- What came so far of a file: these bytes, without their coats, to which the asks led.
  pub record Gathers (p q : P) (tries : List ℕ) (c : Chained) (keys : FileKeys) (plain : List ℕ)
      : Type 0 where
    pub stored : List ℕ
    pub is_plain : plain ≡ uncovered keys c.file 0 stored
    pub reaches : Reaches peer p q r file (goes_on r tries c []) (goes_on r tries c stored)

  module _ (p m q : P) (tries : List ℕ) (c : Chained) (keys : FileKeys) (plain : List ℕ)
      (so_far : Gathers p m tries c keys plain) where
    pub size_is : length plain ≡ length so_far.stored
    size_is = ap length so_far.is_plain ∙ length-uncovered keys c.file 0 so_far.stored

    -- a chunk was asked
    pub fetched_on : (result : Result Fetched ClientFault) → length plain < c.length
        → ReadGoesOn peer m q r file (AsksChunk tries c so_far.stored)
        (after_fetched r tries c so_far.stored) result
        → ReadGoesOn peer p q r file (goes_on r tries c [])
        (after_fetched r tries c so_far.stored)
        result
    fetched_on result low on =
        behind peer r file p m q (goes_on r tries c []) (AsksChunk tries c so_far.stored)
        (after_fetched r tries c so_far.stored) result
        (subst (λ (s : Stage). Reaches peer p m r file (goes_on r tries c []) s)
        (asks_more r tries c so_far.stored (omega (arith, size_is))) so_far.reaches)
        on

    -- the bytes of the chunk that was asked for came
    pub gathers_more : (chunk next : List ℕ)
        → Reaches peer p q r file (goes_on r tries c [])
        (goes_on r tries c (so_far.stored ++ chunk))
        → next ≡ plain ++ uncovered keys c.file (length plain) chunk
        → Gathers p q tries c keys next
    gathers_more chunk next reaches is =
        let size : length plain ≡ 0 + length so_far.stored = omega (arith, size_is) in record {
          stored = so_far.stored ++ chunk;
          is_plain = is
              ∙ (λ i. so_far.is_plain i ++ uncovered keys c.file (size i) chunk)
              ∙ sym (uncovered-append keys c.file 0 so_far.stored chunk);
          reaches = reaches;
        }

    -- memory ran out for the bytes of a chunk
    pub no_room : (chunk : List ℕ)
        → Reaches peer p q r file (goes_on r tries c [])
        (goes_on r tries c (so_far.stored ++ chunk))
        → ReadsFrom peer p q r file (goes_on r tries c []) (Err client.Memory)
    no_room chunk reaches =
        then_reads peer r file p q q (goes_on r tries c [])
        (goes_on r tries c (so_far.stored ++ chunk)) (Err client.Memory) reaches
        (forgot peer r file q (goes_on r tries c (so_far.stored ++ chunk)))

    -- all bytes of the file came, without their coats
    pub gathers_all : keys ≡ keys_along r c → c.length ≤ length plain
        → Reaches peer p m r file (goes_on r tries c []) (after_gathered r tries c (Bytes plain))
    gathers_all same high =
        let bytes : uncovered (keys_along r c) c.file 0 so_far.stored ≡ plain =
        ap (λ (k : FileKeys). uncovered k c.file 0 so_far.stored) (sym same)
        ∙ sym so_far.is_plain in
        subst (λ (s : Stage). Reaches peer p m r file (goes_on r tries c []) s)
        (asks_no_more r tries c so_far.stored (omega (arith, size_is))
        ∙ ap (λ (b : List ℕ). Ends (judged (keys_along r c) c b)) bytes)
        so_far.reaches

  -- nothing came so far
  pub gathers_none : (p : P) (tries : List ℕ) (c : Chained) (keys : FileKeys)
      → Gathers p p tries c keys []
  gathers_none p tries c keys = record {
    stored = [];
    is_plain = sym (no_bytes (uncovered keys c.file 0 []) (length-uncovered keys c.file 0 []));
    reaches = ([], refl, refl);
  }

-- ---- tries

pub try_again : (tries : List ℕ) (least : ℕ) → length tries < TRIES
    → again tries least ≡ AsksChain tries least
try_again tries least low = by_count (length tries == TRIES) refl where
  by_count : (b : Bool) → (length tries == TRIES) ≡ b
      → (if b then Ends (Err (client.Unsettled tries)) else AsksChain tries least) ≡ AsksChain tries
      least
  by_count true is = absurd (let same : length tries ≡ TRIES = grind (arith, nat_tests) in omega
      arith)
  by_count false is = refl

pub no_more_tries : (tries : List ℕ) (least : ℕ) → length tries ≡ TRIES
    → again tries least ≡ Ends (Err (client.Unsettled tries))
no_more_tries tries least full =
    ap (λ (b : Bool). if b then Ends (Err (client.Unsettled tries)) else AsksChain tries least)
    (eq-eqb (length tries) TRIES full)

module _ {P : Type 0} (peer : PeerTells P) (r : Reader) (file : List ℕ) where
  -- one more try
  pub tried_on : (p m q : P) (tries : List ℕ) (least : ℕ) (result : Result Tried ClientFault)
      → length tries < TRIES
      → Reaches peer p m r file (AsksChain [] 0) (again tries least)
      → ReadGoesOn peer m q r file (AsksChain tries least) (after_tried tries) result
      → ReadGoesOn peer p q r file (AsksChain [] 0) (after_tried tries) result
  tried_on p m q tries least result low reaches on =
      behind peer r file p m q (AsksChain [] 0) (AsksChain tries least) (after_tried tries)
      result
      (subst (λ (s : Stage). Reaches peer p m r file (AsksChain [] 0) s)
      (try_again tries least low) reaches)
      on

-- how many bytes there are with a chunk
pub longer : (keys : FileKeys) (file start : ℕ) (plain chunk next : List ℕ)
    → next ≡ plain ++ uncovered keys file start chunk → length next ≡ length plain + length chunk
longer keys file start plain chunk next is =
    let all = ap length is in
    let chunks = length-uncovered keys file start chunk in
    omega (arith, all, chunks, length-append plain (uncovered keys file start chunk))
