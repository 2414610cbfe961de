-- Words that lines are made of.
use Rattle.std.specs.Prelude.{ℕ, List, codes}
use Rattle.ov_disk.specs.declared.area.Area.{Area}
use Rattle.ov_disk.specs.declared.area.Area.TheVariants.{Book, Blobs}

-- the word for an area of a disk
abbrev pub area_word : Area → List ℕ
area_word Book = codes "book"
area_word Blobs = codes "blobs"
