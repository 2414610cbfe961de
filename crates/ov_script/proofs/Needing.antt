-- What is taken while something is unsettled.
use Rattle.std.proofs.Common.{◌≡◌, ◌≢◌, ℕ, ◌+◌, ◌<◌, ◌≤◌, List, [], ◌++◌, length, min, refl, sym, ◌∙◌, ap, subst, append_assoc, append-nil, length-append, arith, Option}
use Rattle.std.proofs.lemmas.List.{nil_from_length}
use Rattle.std.specs.Io.KnownBytes.{Consumes}
use Rattle.std.proofs.KnownBytes.{Consumes-nil, Consumes-trans}
use Rattle.ov_io.specs.Calls.{no_piece, one_more, each_gave, last_gave_none}
use Rattle.ov_io.proofs.Pieces.{first_piece, pieces_as, pieces_same, while_behind}
use Rattle.ov_io.specs.Tells.{SourceTells}
use Rattle.ov_script.specs.Feed.{Fed, Uses, Takes}
use Rattle.ov_script.specs.Finding.{NeedsPieces, TakesBelow, UsesBelow}
use Rattle.ov_script.specs.Taking.{IsUnsettled, TakesWhatItNeeds}

-- a take that gave no bytes
pub none_given : (before after' : Option (List ℕ)) (more : List ℕ) → Consumes before after' more → more ≡ [] → Consumes before after' []
none_given before after' more c e = subst (Consumes before after') e c

module _ {S : Type 0} (tells : SourceTells S) where
  -- ---- while fewer than this many bytes are there

  below_at : (count : ℕ) (a b : Fed S) (used : List ℕ) (u : Uses tells a b used) → length used + length b.pending < count → length (a.pending ++ u.more) < count
  below_at count a b used u small =
      let size : length (a.pending ++ u.more) ≡ length used + length b.pending = ap length u.pending ∙ length-append used b.pending in
      omega arith

  -- nothing was used yet
  pub below_start : (count : ℕ) (feed : Fed S) (used : List ℕ) → used ≡ [] → UsesBelow tells count feed feed used
  below_start count feed used none =
      let uses : Uses tells feed feed used = record { more = []; source = Consumes-nil (tells.left feed.source); pending = append-nil feed.pending ∙ ap (λ l. l ++ feed.pending) (sym none) } in
      (uses, no_piece feed.source refl)

  -- one more piece was taken
  pub below_more : (count : ℕ) (a b c : Fed S) (used more : List ℕ) → UsesBelow tells count a b used → length used + length b.pending < count
      → tells.takes b.source c.source → Takes tells b c more → more ≢ [] → UsesBelow tells count a c used
  below_more count a b c used more (u, before) small step t some =
      let uses : Uses tells a c used = record {
        more = u.more ++ more;
        source = Consumes-trans (tells.left a.source) (tells.left b.source) (tells.left c.source) u.more more u.source t.source;
        pending = sym (append_assoc a.pending u.more more) ∙ ap (λ l. l ++ more) u.pending ∙ append_assoc used b.pending more ∙ ap (λ l. used ++ l) (sym t.pending);
      } in
      (uses, one_more b.source c.source u.more more before (below_at count a b used u small) step t.source some)

  -- a last take that gave nothing
  pub below_none : (count : ℕ) (E F : Type 0) (a b c : Fed S) (used : List ℕ) (u : UsesBelow tells count a b used) → length used + length b.pending < count
      → tells.takes b.source c.source → Consumes (tells.left b.source) (tells.left c.source) [] → E → TakesBelow tells count a.pending E F a.source c.source
  below_none count E F a b c used u small step t end = last_gave_none b.source u.0.more u.1 (below_at count a b used u.0 small) step t end

  -- some of the pending bytes were used
  pub used_below : (a b c : Fed S) (used all piece : List ℕ) (count : ℕ) → UsesBelow tells count a b used → c.source ≡ b.source
      → b.pending ≡ piece ++ c.pending → all ≡ used ++ piece → UsesBelow tells count a c all
  used_below a b c used all piece count (u, before) same e parts =
      let uses : Uses tells a c all = record {
        more = u.more;
        source = subst (λ s. Consumes (tells.left a.source) (tells.left s) u.more) (sym same) u.source;
        pending = u.pending ∙ ap (λ l. used ++ l) e ∙ sym (append_assoc used piece c.pending) ∙ ap (λ l. l ++ c.pending) (sym parts);
      } in
      (uses, pieces_same tells (λ seen. length (a.pending ++ seen) < count) a.source b.source c.source u.more same before)

  -- pending bytes that are used join those used before, and with what is still pending they are
  -- fewer than are wanted
  pub moved_below : (a b m : Fed S) (old new : List ℕ) (count n k : ℕ) → length old ≡ n → length new ≡ k → UsesBelow tells count a b old → m.source ≡ b.source
      → (piece : List ℕ) × (new ≡ old ++ piece) × (b.pending ≡ piece ++ m.pending) × (length new ≡ min count (n + length b.pending)) → (k ≡ count → ⊥)
      → UsesBelow tells count a m new × (k ≤ count) × (length new + length m.pending < count)
  moved_below a b m old new count n k olds news used same (piece, parts, pending, filled) less =
      let sum : length new ≡ length old + length piece = ap length parts ∙ length-append old piece in
      let rest : length b.pending ≡ length piece + length m.pending = ap length pending ∙ length-append piece m.pending in
      (used_below a b m old new piece count used same pending parts, omega arith, omega (arith, less))

  below_first : (count : ℕ) (pending : List ℕ) → length pending < count → length (pending ++ []) < count
  below_first count pending small = subst (λ l. length l < count) (sym (append-nil pending)) small

  -- one take alone, which gave some bytes
  pub below_once : (count : ℕ) (E F : Type 0) (pending : List ℕ) (old new : S) (more : List ℕ) → length pending < count
      → tells.takes old new → Consumes (tells.left old) (tells.left new) more → more ≢ [] → (F → ⊥) → TakesBelow tells count pending E F old new
  below_once count E F pending old new more small step t some ok =
      each_gave more (first_piece tells (λ seen. length (pending ++ seen) < count) old new more (below_first count pending small) step t some) ok

  -- one take alone, which gave nothing
  pub below_at_once : (count : ℕ) (E F : Type 0) (pending : List ℕ) (old new : S) → length pending < count
      → tells.takes old new → Consumes (tells.left old) (tells.left new) [] → E → TakesBelow tells count pending E F old new
  below_at_once count E F pending old new small step t end = last_gave_none old [] (no_piece old refl) (below_first count pending small) step t end

  pub below_wider : (few many : ℕ) (E F : Type 0) (pending : List ℕ) (old new : S) → few ≤ many → TakesBelow tells few pending E F old new → TakesBelow tells many pending E F old new
  below_wider few many E F pending old new h (each_gave seen t ok) =
      each_gave seen (pieces_as tells (λ seen. length (pending ++ seen) < few) (λ seen. length (pending ++ seen) < many) old new seen (λ seen small. omega arith) t) ok
  below_wider few many E F pending old new h (last_gave_none mid seen t small step c end) =
      last_gave_none mid seen (pieces_as tells (λ seen. length (pending ++ seen) < few) (λ seen. length (pending ++ seen) < many) old mid seen (λ seen small. omega arith) t) (omega arith) step c end

  -- takes for what follows the bytes that were used
  pub below_behind : (all few many : ℕ) (E F : Type 0) (a b : Fed S) (used : List ℕ) (new : S) → length used + few ≤ many → all ≤ many
      → UsesBelow tells all a b used → TakesBelow tells few b.pending E F b.source new → TakesBelow tells many a.pending E F a.source new
  below_behind all few many E F a b used new h whole (u, before) after' =
      while_behind tells (λ seen. length (a.pending ++ seen) < many) (λ seen. length (b.pending ++ seen) < few) E F a.source b.source new u.more wider
      (pieces_as tells (λ seen. length (a.pending ++ seen) < all) (λ seen. length (a.pending ++ seen) < many) a.source b.source u.more (λ seen small. omega arith) before) after' where
        wider : (seen : List ℕ) → length (b.pending ++ seen) < few → length (a.pending ++ (u.more ++ seen)) < many
        wider seen small =
            let joined : a.pending ++ (u.more ++ seen) ≡ used ++ (b.pending ++ seen) = sym (append_assoc a.pending u.more seen) ∙ ap (λ l. l ++ seen) u.pending ∙ append_assoc used b.pending seen in
            let size : length (a.pending ++ (u.more ++ seen)) ≡ length used + length (b.pending ++ seen) = ap length joined ∙ length-append used (b.pending ++ seen) in
            omega arith

  -- ---- while it is unsettled what item is there

  -- one more piece
  pub needs_more : (room : ℕ) (a b c : Fed S) (xs ys : List ℕ) → Takes tells a b xs → NeedsPieces tells room a b xs → IsUnsettled room b.pending
      → tells.takes b.source c.source → Consumes (tells.left b.source) (tells.left c.source) ys → ys ≢ [] → NeedsPieces tells room a c (xs ++ ys)
  needs_more room a b c xs ys p before unsettled step q some =
      one_more b.source c.source xs ys before (subst (IsUnsettled room) p.pending unsettled) step q some

  -- a last take that gave nothing
  pub needs_none : (room : ℕ) (E F : Type 0) (a b c : Fed S) (xs : List ℕ) → Takes tells a b xs → NeedsPieces tells room a b xs → IsUnsettled room b.pending
      → tells.takes b.source c.source → Consumes (tells.left b.source) (tells.left c.source) [] → E → TakesWhatItNeeds tells room a.pending E F a.source c.source
  needs_none room E F a b c xs p before unsettled step q end =
      last_gave_none b.source xs before (subst (IsUnsettled room) p.pending unsettled) step q end

-- bytes are there where none were
pub some_given : (old new more : List ℕ) → length old < 1 → new ≡ old ++ more → 0 < length new → more ≢ []
some_given old new more none e some empty =
    let size : length new ≡ length old + length more = ap length e ∙ length-append old more in
    let zero : length more ≡ 0 = ap length empty in
    absurd (omega arith)

-- no bytes are there, as before
pub none_more : (old new more : List ℕ) → new ≡ old ++ more → length new ≡ 0 → more ≡ []
none_more old new more e none =
    let size : length new ≡ length old + length more = ap length e ∙ length-append old more in
    nil_from_length more (omega arith)
