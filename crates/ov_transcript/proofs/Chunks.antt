-- The chunks of a file.
use Rattle.std.proofs.Common.{◌≡◌, ◌∙◌, ◌<◌, ◌≤◌, ◌+◌, ℕ, zero, suc, List, [], ◌∷◌, ap, refl, sym}
use Rattle.std.proofs.Common.{arith}
use Rattle.std.specs.Prelude.{◌-◌, min, Option, None, Some, option_map, unwrap_or}
use Rattle.ov_base.specs.declared.limits.TheConstants.{MAX_CHUNK_BYTES}
use Rattle.ov_history.specs.Catalogue.{Catalogue, Filed, files_shown, filed_at, matrix_shown}
use Rattle.ov_history.specs.Catalogue.{no_filed, outline, place_of_file}
use Rattle.ov_history.specs.Layers.{Layers, Place, no_place}
use Rattle.ov_history.specs.Lists.{file_at, no_file}
use Rattle.ov_history.specs.Places.{living_at}
use Rattle.ov_history.proofs.Outlining.{places-at}
use Rattle.ov_wire.specs.declared.request.Request.{Request}
use Rattle.ov_wire.specs.declared.request.Request.TheVariants as requests
use Rattle.ov_transcript.specs.Transcripts.{chunk_count, chunks_from, generation_of}

-- ---- what a catalogue shows of a file

pub generation-shown : (c : Catalogue) (file : ℕ)
    → (filed_at c file).generation ≡ generation_of (outline c) file
generation-shown c file =
    by_file (living_at c.files file)
    ∙ ap (λ (p : Option Place). (unwrap_or p no_place).generation) (sym (places-at c.files file)) where
      by_file : (o : Option Filed)
          → (unwrap_or o no_filed).generation
          ≡ (unwrap_or (option_map place_of_file o) no_place).generation
      by_file None = refl
      by_file (Some f) = refl

length-at : (y : Layers) (files : List (Option Filed)) (file : ℕ)
    → (unwrap_or (living_at files file) no_filed).length
    ≡ (unwrap_or (living_at (files_shown y files) file) no_file).length
length-at y [] file = refl
length-at y (None ∷ files) zero = refl
length-at y (Some f ∷ files) zero = refl
length-at y (f ∷ files) (suc file) = length-at y files file

pub length-shown : (c : Catalogue) (file : ℕ)
    → (filed_at c file).length ≡ (file_at (matrix_shown c) file).length
length-shown c file = length-at (outline c) c.files file

pub file_found : (c : Catalogue) (file : ℕ) (f : Filed) → living_at c.files file ≡ Some f
    → filed_at c file ≡ f
file_found c file f is = ap (λ (o : Option Filed). unwrap_or o no_filed) is

-- ---- how many chunks are left

no_chunks : chunk_count 0 ≡ 0
no_chunks = omega arith

pub none_left : (file generation start size : ℕ) → size ≤ start
    → chunks_from file generation start (chunk_count (size - start)) ≡ []
none_left file generation start size few =
    let left : size - start ≡ 0 = omega arith in
    ap (λ n. chunks_from file generation start (chunk_count n)) left
    ∙ ap (chunks_from file generation start) no_chunks

one_more : (left : ℕ) → 0 < left → chunk_count left ≡ suc (chunk_count (left - MAX_CHUNK_BYTES))
one_more left some = omega arith

-- the next chunk, and those that are left after this many bytes of it
pub next_chunk : (file generation start size got : ℕ) → start < size
    → got ≡ min MAX_CHUNK_BYTES (size - start)
    → chunks_from file generation start (chunk_count (size - start))
    ≡ requests.Chunk file generation start MAX_CHUNK_BYTES
    ∷ chunks_from file generation (start + got) (chunk_count (size - (start + got)))
next_chunk file generation start size got some is =
    ap (chunks_from file generation start) (one_more (size - start) (omega arith))
    ∙ ap (λ (l : List Request). requests.Chunk file generation start MAX_CHUNK_BYTES ∷ l)
    (by_size (size - start - MAX_CHUNK_BYTES) refl) where
      by_size : (n : ℕ) → size - start - MAX_CHUNK_BYTES ≡ n
          → chunks_from file generation (start + MAX_CHUNK_BYTES)
          (chunk_count (size - start - MAX_CHUNK_BYTES))
          ≡ chunks_from file generation (start + got) (chunk_count (size - (start + got)))
      by_size zero none =
          let past : size - (start + got) ≡ 0 = omega (arith, is, none) in
          ap (λ m. chunks_from file generation (start + MAX_CHUNK_BYTES) (chunk_count m)) none
          ∙ ap (λ m. chunks_from file generation (start + MAX_CHUNK_BYTES) m) no_chunks
          ∙ sym (ap (chunks_from file generation (start + got)) no_chunks)
          ∙ ap (λ m. chunks_from file generation (start + got) (chunk_count m)) (sym past)
      by_size (suc n) more =
          let all : got ≡ MAX_CHUNK_BYTES = omega (arith, is, more) in
          let same : size - start - MAX_CHUNK_BYTES ≡ size - (start + got) = omega (arith, all) in
          (λ i. chunks_from file generation (start + (sym all) i) (chunk_count (same i)))
