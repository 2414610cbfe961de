-- Pieces that are taken one after the other.
use Rattle.std.proofs.Common.{◌≡◌, ◌≢◌, ℕ, List, [], ◌++◌, refl, sym, ap, subst, append_assoc, append-nil}
use Rattle.std.specs.Io.KnownBytes.{Consumes}
use Rattle.std.proofs.KnownBytes.{Consumes-nil, Consumes-trans}
use Rattle.ov_io.specs.Calls.{TakesPieces, no_piece, one_more, TakesWhile, each_gave, last_gave_none}
use Rattle.ov_io.specs.Tells.{SourceTells}

module _ {S : Type 0} (tells : SourceTells S) where
  -- nothing was taken behind these pieces
  pub pieces_same : (P : List ℕ → Type 0) (old mid new : S) (seen : List ℕ) → new ≡ mid → TakesPieces tells P old mid seen → TakesPieces tells P old new seen
  pieces_same P old mid new seen e t = subst (λ s. TakesPieces tells P old s seen) (sym e) t

  -- the first pieces, of all that is left unsettled
  pub first_piece : (P : List ℕ → Type 0) (old new : S) (piece : List ℕ) → P [] → tells.takes old new → Consumes (tells.left old) (tells.left new) piece → piece ≢ [] → TakesPieces tells P old new piece
  first_piece P old new piece u t c some = one_more old new [] piece (no_piece old refl) u t c some

  -- what is left unsettled may be said otherwise
  pub pieces_as : (P Q : List ℕ → Type 0) (old new : S) (seen : List ℕ) → ((seen : List ℕ) → P seen → Q seen) → TakesPieces tells P old new seen → TakesPieces tells Q old new seen
  pieces_as P Q old _ _ wider (no_piece new e) = no_piece new e
  pieces_as P Q old _ _ wider (one_more mid new seen piece before u t c some) =
      one_more mid new seen piece (pieces_as P Q old mid seen wider before) (wider seen u) t c some

  -- the source lost the pieces that were taken
  pub pieces_consumed : (P : List ℕ → Type 0) (old new : S) (seen : List ℕ) → TakesPieces tells P old new seen → Consumes (tells.left old) (tells.left new) seen
  pieces_consumed P old _ _ (no_piece new e) = subst (λ s. Consumes (tells.left old) (tells.left s) []) (sym e) (Consumes-nil (tells.left old))
  pieces_consumed P old _ _ (one_more mid new seen piece before u t c some) =
      Consumes-trans (tells.left old) (tells.left mid) (tells.left new) seen piece (pieces_consumed P old mid seen before) c

  -- pieces behind others
  pub pieces_behind : (P Q : List ℕ → Type 0) (old mid new : S) (first seen : List ℕ) → ((seen : List ℕ) → Q seen → P (first ++ seen))
      → TakesPieces tells P old mid first → TakesPieces tells Q mid new seen → TakesPieces tells P old new (first ++ seen)
  pieces_behind P Q old mid _ first _ wider before (no_piece new e) =
      subst (TakesPieces tells P old new) (sym (append-nil first)) (pieces_same P old mid new first e before)
  pieces_behind P Q old mid _ first _ wider before (one_more at new seen piece more u t c some) =
      subst (TakesPieces tells P old new) (append_assoc first seen piece)
      (one_more at new (first ++ seen) piece (pieces_behind P Q old mid at first seen wider before more) (wider seen u) t c some)

  -- what the call was for may be said otherwise, and so may its failure
  pub while_as : (P : List ℕ → Type 0) (E D F G : Type 0) (old new : S) → (E → D) → (G → F) → TakesWhile tells P E F old new → TakesWhile tells P D G old new
  while_as P E D F G old new e f (each_gave seen t ok) = each_gave seen t (λ g. ok (f g))
  while_as P E D F G old new e f (last_gave_none mid seen t u last c end) = last_gave_none mid seen t u last c (e end)

  -- nothing was taken behind these takes
  pub while_same : (P : List ℕ → Type 0) (E F : Type 0) (old mid new : S) → new ≡ mid → TakesWhile tells P E F old mid → TakesWhile tells P E F old new
  while_same P E F old mid new e t = subst (λ s. TakesWhile tells P E F old s) (sym e) t

  -- takes behind pieces
  pub while_behind : (P Q : List ℕ → Type 0) (E F : Type 0) (old mid new : S) (first : List ℕ) → ((seen : List ℕ) → Q seen → P (first ++ seen))
      → TakesPieces tells P old mid first → TakesWhile tells Q E F mid new → TakesWhile tells P E F old new
  while_behind P Q E F old mid new first wider before (each_gave seen t ok) =
      each_gave (first ++ seen) (pieces_behind P Q old mid new first seen wider before t) ok
  while_behind P Q E F old mid new first wider before (last_gave_none at seen t u last c end) =
      last_gave_none at (first ++ seen) (pieces_behind P Q old mid at first seen wider before t) (wider seen u) last c end

-- ---- behind a loan

-- a source behind a loan tells what the source tells, and a take of it is one of the source
pub record IsLent {L S : Type 0} (now : L → S) (lent : SourceTells L) (tells : SourceTells S) : Type 0 where
  pub left : (l : L) → lent.left l ≡ tells.left (now l)
  pub takes : (a b : L) → lent.takes a b → tells.takes (now a) (now b)

-- what a source behind a loan loses, the source loses
pub consumed_lent : {L S : Type 0} (now : L → S) (lent : SourceTells L) (tells : SourceTells S) → IsLent now lent tells → (a b : L) (bytes : List ℕ)
    → Consumes (lent.left a) (lent.left b) bytes → Consumes (tells.left (now a)) (tells.left (now b)) bytes
consumed_lent {L} {S} now lent tells is a b bytes c = rw (← is.left a, ← is.left b) c

-- pieces that are taken of a source behind a loan are taken of the source
pub pieces_lent : {L S : Type 0} (now : L → S) (lent : SourceTells L) (tells : SourceTells S) (P : List ℕ → Type 0)
    → IsLent now lent tells → (first last : L) (seen : List ℕ)
    → TakesPieces lent P first last seen → TakesPieces tells P (now first) (now last) seen
pieces_lent {L} {S} now lent tells P is first _ _ (no_piece last e) = no_piece (now last) (ap now e)
pieces_lent {L} {S} now lent tells P is first _ _ (one_more mid last seen piece before u t c some) =
    one_more (now mid) (now last) seen piece (pieces_lent now lent tells P is first mid seen before) u (is.takes mid last t) (consumed_lent now lent tells is mid last piece c) some

-- takes of a source behind a loan are takes of the source
pub while_lent : {L S : Type 0} (now : L → S) (lent : SourceTells L) (tells : SourceTells S) (P : List ℕ → Type 0) (E F : Type 0)
    → IsLent now lent tells → (first last : L)
    → TakesWhile lent P E F first last → TakesWhile tells P E F (now first) (now last)
while_lent {L} {S} now lent tells P E F is first last (each_gave seen t ok) = each_gave seen (pieces_lent now lent tells P is first last seen t) ok
while_lent {L} {S} now lent tells P E F is first last (last_gave_none mid seen t u step c end) =
    last_gave_none (now mid) seen (pieces_lent now lent tells P is first mid seen t) u (is.takes mid last step) (consumed_lent now lent tells is mid last [] c) end
