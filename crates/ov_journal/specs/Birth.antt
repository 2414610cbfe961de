-- Inner: no public contract needs this. What a birth writes, and what it writes over.
use Rattle.std.specs.Prelude.{◌≡◌, ◌≢◌, ℕ, ◌≤◌, List, [], ◌∷◌, ◌++◌, length}
use Rattle.ov_journal.specs.Book.{header_bytes}
use Rattle.ov_journal.specs.declared.header.Header.{Header}

-- a Book that is unborn, with room for a gate that isn't open
pub record IsCleared (book : List ℕ) : Type 0 where
  pub gate : ℕ
  pub rest : List ℕ
  pub parts : book ≡ gate ∷ rest
  pub short : length rest ≤ 78
  pub closed : gate ≢ 1

-- a header of the second format behind its gate, and the closed gate of a record that isn't there
pub record IsHeaderFrame (header : Header) (frame : List ℕ) : Type 0 where
  pub bytes : frame ≡ header_bytes header ++ 0 ∷ []
  pub long : length frame ≡ 78
  pub format : header.format ≡ 2
