-- Rows of small stores: records with first blocks, beside Blobs of so many bytes.
use Rattle.std.specs.Prelude.{◌≡◌, ℕ, List, [], ◌∷◌, ◌++◌, length, take}
use Rattle.ov_base.specs.declared.mode.Mode.TheVariants.{Delta}
use Rattle.ov_history.specs.Sealed.{SealedHistory}
use Rattle.ov_images.specs.Images.{Keys}
use Rattle.ov_images.specs.Extents.{stored_in}
use Rattle.ov_images.specs.Images.{HasRecords, KeepsAt, header_of}
use Rattle.ov_images.specs.Damage.{HasBadRecords, at_block, in_book}
use Rattle.ov_history_t.specs.Stores.{access_body, block, create, create_body, create_small}
use Rattle.ov_history_t.specs.Stores.{empty_body, enrol, enrol_body, grant, grant_access, grant_body}
use Rattle.ov_history_t.specs.Stores.{history, history_in, remove, remove_body, replace}
use Rattle.ov_history_t.specs.Stores.{replace_body, revoke, revoke_body, small_body, store, store_in}
use Rattle.ov_history_t.specs.Stores.{zero_token, zeros}

-- Alice has a file of 8,193 bytes at block 0. Beside 12,288 bytes of Blobs, which are three blocks,
-- the store has its records, and the file's bytes are the first 8,193. With an extent of two blocks
-- a second file might take the third.
abbrev pub FileHasWholeBlocks : Type 0
FileHasWholeBlocks =
    (k : Keys) (blobs : List ℕ) → length k.base_check ≡ 32 → length blobs ≡ 12288
    → let p = history (enrol 97 ∷ create 1 [] 8193 (0 ∷ []) ∷ []) in
    HasRecords k p (store k (enrol_body 97 ∷ create_body 1 (0 ∷ 0 ∷ []) (block 0) ∷ []) blobs)
    × (stored_in k.surface p blobs ≡ take 8193 blobs ∷ [])

-- Beside one byte less the file passes the end of Blobs, though its own bytes are all there.
abbrev pub EndOfBlobsIsDamage : Type 0
EndOfBlobsIsDamage =
    (k : Keys) (blobs : List ℕ) → length k.base_check ≡ 32 → length blobs ≡ 12287
    → HasBadRecords (header_of k 2 (history []))
    (store k (enrol_body 97 ∷ create_body 1 (0 ∷ 0 ∷ []) (block 0) ∷ []) blobs) (at_block 0)

-- However long Blobs is, the last block that counts is 2,147,483,647. A file of one byte in the block
-- behind it is damage there.
abbrev pub LastBlockCounts : Type 0
LastBlockCounts =
    (k : Keys) (blobs : List ℕ) → length k.base_check ≡ 32 → length blobs ≡ 8796093026304
    → HasBadRecords (header_of k 2 (history []))
    (store k (enrol_body 97 ∷ small_body 110 (128 ∷ 0 ∷ 0 ∷ 0 ∷ []) ∷ []) blobs)
    (at_block 2147483648)

-- A second file, of one byte at block 2, takes a block in use. The place is 8,192, in Blobs.
abbrev pub BlocksInUseAreDamage : Type 0
BlocksInUseAreDamage =
    (k : Keys) (blobs : List ℕ) → length k.base_check ≡ 32 → length blobs ≡ 16384
    → HasBadRecords (header_of k 2 (history []))
    (store k
    (enrol_body 97 ∷ create_body 1 (0 ∷ 0 ∷ []) (block 0) ∷ small_body 109 (block 2) ∷ []) blobs)
    (at_block 2)

-- A creation without its first block: its gate is at place 86, and its body, of 169 bytes, ends at
-- place 260.
abbrev pub FirstIsMissing : Type 0
FirstIsMissing =
    (k : Keys) (blobs : List ℕ) → length k.base_check ≡ 32 → length blobs ≡ 12288
    → HasBadRecords (header_of k 2 (history []))
    (store k (enrol_body 97 ∷ create_body 1 (0 ∷ 0 ∷ []) [] ∷ []) blobs) (in_book 260)

-- with two first blocks, of which the second begins at place 264
abbrev pub FirstIsLeftOver : Type 0
FirstIsLeftOver =
    (k : Keys) (blobs : List ℕ) → length k.base_check ≡ 32 → length blobs ≡ 24576
    → HasBadRecords (header_of k 2 (history []))
    (store k (enrol_body 97 ∷ create_body 1 (0 ∷ 0 ∷ []) (block 0 ++ block 3) ∷ []) blobs)
    (in_book 264)

-- A second enrolment of a name is refused, and the first block behind it isn't looked at: the place
-- is that of the gate, 86. Behind an update that fits it would be 94, where the update ends.
abbrev pub GateComesFirst : Type 0
GateComesFirst =
    (k : Keys) (blobs : List ℕ) → length k.base_check ≡ 32 → length blobs ≡ 12288
    → HasBadRecords (header_of k 2 (history []))
    (store k (enrol_body 97 ∷ (enrol_body 97 ++ block 0) ∷ []) blobs) (in_book 86)
    × HasBadRecords (header_of k 2 (history []))
    (store k (enrol_body 97 ∷ (enrol_body 98 ++ block 0) ∷ []) blobs) (in_book 94)

-- A file of no bytes has no first block, and no place in Blobs.
abbrev pub EmptyFileHasNoBlock : Type 0
EmptyFileHasNoBlock =
    (k : Keys) → length k.base_check ≡ 32
    → let p = history (enrol 97 ∷ create 1 [] 0 [] ∷ []) in
    HasRecords k p (store k (enrol_body 97 ∷ empty_body ∷ []) [])
    × (stored_in k.surface p [] ≡ [] ∷ [])

-- The file of alice and bob stands at block 0. A revocation rewrites it at block 3, and a grant at
-- block 0 again, beside 24,576 bytes of Blobs. The file's bytes are the first 8,193.
abbrev pub BlocksAreUsedAgain : Type 0
BlocksAreUsedAgain =
    (k : Keys) (blobs : List ℕ) → length k.base_check ≡ 32 → length blobs ≡ 24576
    → let p = history
    (enrol 97 ∷ enrol 98 ∷ create 3 (zero_token ∷ zero_token ∷ []) 8193 (0 ∷ [])
    ∷ revoke (3 ∷ []) ∷ grant (0 ∷ []) ∷ []) in
    HasRecords k p
    (store k
    (enrol_body 97 ∷ enrol_body 98 ∷ create_body 3 ((0 ∷ 2 ∷ []) ++ zeros 64) (block 0)
    ∷ revoke_body (block 3) ∷ grant_body (block 0) ∷ []) blobs)
    × (stored_in k.surface p blobs ≡ take 8193 blobs ∷ [])

-- In mode Delta three files have one base node. A grant of the first to bob gives him access to it,
-- and both others get a surface without him: it rewrites two files. At blocks 3 and 4 both take
-- free blocks. With block 3 for both the second takes a block of the first.
abbrev pub NewBlocksAreApart : Type 0
NewBlocksAreApart =
    (k : Keys) (blobs : List ℕ) → length k.base_check ≡ 32 → length blobs ≡ 20480
    → let files = create_small 109 (0 ∷ []) ∷ create_small 110 (1 ∷ []) ∷ create_small 111 (2 ∷ [])
    ∷ [] in
    let bodies = enrol_body 97 ∷ enrol_body 98 ∷ small_body 109 (block 0) ∷ small_body 110 (block 1)
    ∷ small_body 111 (block 2) ∷ [] in
    HasRecords k
    (history_in Delta (enrol 97 ∷ enrol 98 ∷ files ++ grant_access (3 ∷ 4 ∷ []) ∷ []))
    (store_in Delta k (bodies ++ access_body (block 3 ++ block 4) ∷ []) blobs)
    × HasBadRecords (header_of k 2 (history_in Delta []))
    (store_in Delta k (bodies ++ access_body (block 3 ++ block 3) ∷ []) blobs) (at_block 3)

-- A revocation that rewrites the file from block 1 on takes blocks that the file has until then.
abbrev pub OwnBlocksAreInUse : Type 0
OwnBlocksAreInUse =
    (k : Keys) (blobs : List ℕ) → length k.base_check ≡ 32 → length blobs ≡ 24576
    → HasBadRecords (header_of k 2 (history []))
    (store k
    (enrol_body 97 ∷ enrol_body 98 ∷ create_body 3 ((0 ∷ 2 ∷ []) ++ zeros 64) (block 0)
    ∷ revoke_body (block 1) ∷ []) blobs) (at_block 1)

-- The zeros behind the file's last byte, up to the end of its last block, may be any bytes.
abbrev pub ChangedByteIsNoDamage : Type 0
ChangedByteIsNoDamage =
    (k : Keys) (g : SealedHistory) (own zeros_behind others : List ℕ)
    → length k.base_check ≡ 32 → length own ≡ 8193 → length zeros_behind ≡ 4095
    → length others ≡ 4095
    → let p = history (enrol 97 ∷ create 1 [] 8193 (0 ∷ []) ∷ []) in
    let bodies = enrol_body 97 ∷ create_body 1 (0 ∷ 0 ∷ []) (block 0) ∷ [] in
    KeepsAt k p g (store k bodies (own ++ zeros_behind))
    → KeepsAt k p g (store k bodies (own ++ others))

-- A file of one byte stands at block 0, beside 4,096 bytes of Blobs. Once it is removed a second
-- file of its name takes block 0. The first file has no bytes any more, and those of the second are
-- the first of Blobs.
abbrev pub RemovedBlocksAreFree : Type 0
RemovedBlocksAreFree =
    (k : Keys) (blobs : List ℕ) → length k.base_check ≡ 32 → length blobs ≡ 4096
    → let p = history
    (enrol 97 ∷ create_small 110 (0 ∷ []) ∷ remove ∷ create_small 110 (0 ∷ []) ∷ []) in
    HasRecords k p
    (store k
    (enrol_body 97 ∷ small_body 110 (block 0) ∷ remove_body ∷ small_body 110 (block 0) ∷ []) blobs)
    × (stored_in k.surface p blobs ≡ [] ∷ take 1 blobs ∷ [])

-- A second removal of the file is refused: its record is damage at its gate, which is at place 274.
abbrev pub RemovedFilesAreGone : Type 0
RemovedFilesAreGone =
    (k : Keys) (blobs : List ℕ) → length k.base_check ≡ 32 → length blobs ≡ 4096
    → HasBadRecords (header_of k 2 (history []))
    (store k (enrol_body 97 ∷ small_body 110 (block 0) ∷ remove_body ∷ remove_body ∷ []) blobs)
    (in_book 274)

-- A file 'n' of one byte stands at block 0, beside 8,192 bytes of Blobs. It is replaced by one of
-- one byte at block 1, and this one by another at block 0 again. Both records have the name alone.
-- The first two files have no bytes any more, and those of the third are the first of Blobs.
abbrev pub ReplacedBlocksAreFree : Type 0
ReplacedBlocksAreFree =
    (k : Keys) (blobs : List ℕ) → length k.base_check ≡ 32 → length blobs ≡ 8192
    → let p = history
    (enrol 97 ∷ create_small 110 (0 ∷ []) ∷ replace 0 (1 ∷ []) ∷ replace 1 (0 ∷ []) ∷ []) in
    HasRecords k p
    (store k
    (enrol_body 97 ∷ small_body 110 (block 0) ∷ replace_body 110 (block 1)
    ∷ replace_body 110 (block 0) ∷ []) blobs)
    × (stored_in k.surface p blobs ≡ [] ∷ [] ∷ take 1 blobs ∷ [])

-- A replacement at block 0 takes a block that the file to be replaced has until then.
abbrev pub OldBlocksAreInUse : Type 0
OldBlocksAreInUse =
    (k : Keys) (blobs : List ℕ) → length k.base_check ≡ 32 → length blobs ≡ 8192
    → HasBadRecords (header_of k 2 (history []))
    (store k
    (enrol_body 97 ∷ small_body 110 (block 0) ∷ replace_body 110 (block 0) ∷ []) blobs)
    (at_block 0)

-- A replacement of a file 'm', where there is none, is refused: its record is damage at its gate,
-- which is at place 264.
abbrev pub ReplacedFilesHaveNames : Type 0
ReplacedFilesHaveNames =
    (k : Keys) (blobs : List ℕ) → length k.base_check ≡ 32 → length blobs ≡ 8192
    → HasBadRecords (header_of k 2 (history []))
    (store k
    (enrol_body 97 ∷ small_body 110 (block 0) ∷ replace_body 109 (block 1) ∷ []) blobs)
    (in_book 264)
