-- The number and the word of each refusal.
use Rattle.std.specs.Prelude.{ℕ, List, codes}
use Rattle.ov_base.specs.declared.refusal.Refusal.{Refusal}
use Rattle.ov_base.specs.declared.refusal.Refusal.TheVariants.{Taken, NoUser, NoFile, NoPath, Listed, NotListed, UsersFull, FilesFull, BytesFull, NodesFull, Spent}

-- the number of a refusal: where several refusals apply, the lowest is answered
abbrev pub refusal_number : Refusal → ℕ
refusal_number Taken = 1
refusal_number NoUser = 2
refusal_number NoFile = 3
refusal_number NoPath = 4
refusal_number Listed = 5
refusal_number NotListed = 6
refusal_number UsersFull = 7
refusal_number FilesFull = 8
refusal_number BytesFull = 9
refusal_number NodesFull = 10
refusal_number Spent = 11

-- the word that follows the number in a reply line
abbrev pub refusal_word : Refusal → List ℕ
refusal_word Taken = codes "Taken"
refusal_word NoUser = codes "NoUser"
refusal_word NoFile = codes "NoFile"
refusal_word NoPath = codes "NoPath"
refusal_word Listed = codes "Listed"
refusal_word NotListed = codes "NotListed"
refusal_word UsersFull = codes "UsersFull"
refusal_word FilesFull = codes "FilesFull"
refusal_word BytesFull = codes "BytesFull"
refusal_word NodesFull = codes "NodesFull"
refusal_word Spent = codes "Spent"
