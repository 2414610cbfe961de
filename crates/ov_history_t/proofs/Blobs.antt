-- Blocks of Blobs, and stores with one bad record.
use Rattle.std.proofs.Common.{◌≡◌, inl, ℕ, List, [], length}
use Rattle.std.proofs.Common.{sym, ap, subst}
use Rattle.std.proofs.Common.{false}
use Rattle.std.specs.Prelude.{◌/◌, min, None}
use Rattle.ov_base.specs.declared.mode.Mode.{Mode}
use Rattle.ov_base.specs.declared.mode.Mode.TheVariants.{Full}
use Rattle.ov_blocks.specs.declared.extents.TheConstants.{BLOCK_BYTES, MAX_BLOCKS}
use Rattle.ov_journal.specs.Book.{Contents, Records}
use Rattle.ov_journal.specs.Runs.{run_after}
use Rattle.ov_images.specs.Images.{Keys}
use Rattle.ov_images.specs.Extents.{blocks_in}
use Rattle.ov_images.specs.Images.{header_of}
use Rattle.ov_images.specs.Damage.{HasBadRecord, HasBadRecords, Spot}
use Rattle.ov_history_t.specs.Stores.{history, history_in, recorded}
use Rattle.ov_history_t.specs.Stores.{store, store_in}
use Rattle.ov_history_t.proofs.Books.{contents}

pub blocks-length : (blobs : List ℕ) (count : ℕ) → length blobs ≡ count
    → blocks_in blobs ≡ min (count / BLOCK_BYTES) MAX_BLOCKS
blocks-length blobs count is = ap (λ n. min (n / BLOCK_BYTES) MAX_BLOCKS) is

-- the records with these bodies in a store of the second format
abbrev pub whole : List (List ℕ) → Records
whole bodies = record { bodies = bodies; step = None; bad = None }

-- a store with such a bad record, beside Blobs of so many blocks, is damaged there
pub bad_store_in : (mode : Mode) (k : Keys) (bodies : List (List ℕ)) (blobs : List ℕ) (n : ℕ)
    (spot : Spot) → length k.base_check ≡ 32
    → run_after 0 (recorded bodies) ≡ record { bodies = bodies; bad = false }
    → blocks_in blobs ≡ n
    → ((master : List ℕ) → HasBadRecord master mode 0 n (whole bodies) spot)
    → HasBadRecords (header_of k 2 (history_in mode [])) (store_in mode k bodies blobs) spot
bad_store_in mode k bodies blobs n spot long is blocks wrong master =
    inl (subst (λ (c : Contents). HasBadRecord master mode 0 (blocks_in blobs) c.records spot)
    (sym (contents mode k bodies long is))
    (subst (λ (m : ℕ). HasBadRecord master mode 0 m (whole bodies) spot) (sym blocks)
    (wrong master)))

pub bad_store : (k : Keys) (bodies : List (List ℕ)) (blobs : List ℕ) (n : ℕ) (spot : Spot)
    → length k.base_check ≡ 32
    → run_after 0 (recorded bodies) ≡ record { bodies = bodies; bad = false }
    → blocks_in blobs ≡ n
    → ((master : List ℕ) → HasBadRecord master Full 0 n (whole bodies) spot)
    → HasBadRecords (header_of k 2 (history [])) (store k bodies blobs) spot
bad_store k bodies blobs n spot long is blocks wrong =
    bad_store_in Full k bodies blobs n spot long is blocks wrong
