-- Inner: no public contract needs this. What came of part of a try, and of a try.
use Rattle.std.specs.Prelude.{ℕ, ◌≤◌, List, [], ◌∷◌, ◌++◌, length, Ok}
use Rattle.ov_wire.specs.declared.answer.Chained.{Chained}
use Rattle.ov_client.specs.Readers.{Reader, judged, keys_along}
use Rattle.ov_client.specs.Talks.{Ends, Stage, again}
use Rattle.ov_client.specs.declared.reading.Tried.{Tried}
use Rattle.ov_client.specs.declared.reading.Tried.TheVariants as tries
use Rattle.ov_client.specs.declared.telling.Fetched.{Fetched}
use Rattle.ov_client.specs.declared.telling.Fetched.TheVariants.{Again, Bytes}

-- all bytes of a file came, without their coats; or the read begins again
abbrev pub after_gathered : Reader → List ℕ → Chained → Fetched → Stage
after_gathered r before c (Bytes plain) = Ends (judged (keys_along r c) c plain)
after_gathered r before c (Again least) = again (before ++ c.generation ∷ []) least

-- the file was read, or the try is one of those after which the read begins again
abbrev pub after_tried : List ℕ → Tried → Stage
after_tried before (tries.Read bytes) = Ends (Ok bytes)
after_tried before (tries.Again generation next) = again (before ++ generation ∷ []) next

-- no more bytes were fetched than this
abbrev pub HasAtMost : ℕ → Fetched → Type 0
HasAtMost most (Bytes bytes) = length bytes ≤ most
HasAtMost most (Again least) = Unit {0}
