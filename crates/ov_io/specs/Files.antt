-- What is left of a file, and what was written to one.
use Rattle.std.specs.Prelude.{ℕ, List, Option, None, Some}

-- What a file that may be open has left, where it is open and tells that.
abbrev pub left_of : {F : Type 0} → (F → Option (List ℕ)) → Option F → Option (List ℕ)
left_of remaining None = None
left_of remaining (Some file) = remaining file

-- What was written to a file that may be open, where it is open and tells that.
abbrev pub written_of : {F : Type 0} → (F → Option (List ℕ)) → Option F → Option (List ℕ)
written_of contents None = None
written_of contents (Some file) = contents file
