-- What follows the line of an item makes the item whole, or not.
use Rattle.std.proofs.Common.{◌≡◌, ◌≢◌, ℕ, suc, ◌+◌, ◌-◌, ◌<◌, ◌≤◌, List, [], ◌∷◌, ◌++◌, length, take, drop, refl, sym, ◌∙◌, ap, subst, append_assoc, length-append, arith, Result, Ok, Err, IfOk, min}
use Rattle.std.specs.Io.KnownBytes.{Consumes}
use Rattle.std.proofs.Math.Seq.{drop-append_seam, take-append-add}
use Rattle.std.proofs.lemmas.List.{length-take-le}
use Rattle.ov_script.specs.declared.ended.Ended.{Ended}
use Rattle.ov_script.specs.declared.ended.Ended.TheVariants.{End, Bad, Long, Fault}
use Rattle.ov_script.specs.declared.find.Line.{Line}
use Rattle.ov_script.specs.declared.first_line.FirstLine.TheVariants.{Whole, WithBody}
use Rattle.ov_script.specs.declared.first_line.Head.{Head}
use Rattle.ov_script.specs.declared.item.Item.{Item}
use Rattle.ov_script.specs.Feed.{Fed, Uses, Takes, text_of}
use Rattle.ov_script.specs.Finding.{Finds, MakesItem, Tells, IsBadBody, cut, no_lf, IsWhyNoBody, NeedsPieces, TakesBelow, UsesLine}
use Rattle.ov_script.specs.ItemLines.{SaysLine}
use Rattle.ov_script.specs.Items.{BeginsWithItem, CanBegin}
use Rattle.ov_script.specs.LineFeeds.{lf_count}
use Rattle.ov_script.specs.NoItem.{IsWhyNone}
use Rattle.ov_script.specs.Taking.{IsUnsettled, TakesWhatItNeeds}
use Rattle.ov_script.specs.Reading.{IsBad, cut as bad_cut, IsTooLong}
use Rattle.ov_script.proofs.Beginning.{can_by_body, none_in_body, body_behind, wrong_behind_body}
use Rattle.ov_script.proofs.ByteTexts.{lf_count-append, lf_count-line, lf_count-within}
use Rattle.ov_script.proofs.Fronts.{bad_front}
use Rattle.ov_script.proofs.Grammar.{item_from}
use Rattle.ov_io.proofs.Pieces.{pieces_same, while_behind}
use Rattle.ov_io.specs.Tells.{SourceTells}
use Rattle.ov_script.proofs.Using.{text_used, fact_behind, uses_trans}

-- ---- texts behind the line of a body

module _ (line : List ℕ) (head : Head) (size room : ℕ) (says : SaysLine line (WithBody head size)) (fits : length line + 1 ≤ room) where
  joined : (text : List ℕ) → (line ++ 10 ∷ []) ++ text ≡ line ++ 10 ∷ text
  joined text = append_assoc line (10 ∷ []) text

  whole_length : (text : List ℕ) → length (line ++ 10 ∷ text) ≡ length line + 1 + length text
  whole_length text = let n : length (line ++ 10 ∷ text) ≡ length line + suc (length text) = length-append line (10 ∷ text) in omega arith

  never_behind : (body : List ℕ) (b : ℕ) → length body ≡ size → b ≢ 10 → CanBegin (line ++ 10 ∷ (body ++ b ∷ [])) → ⊥
  never_behind body b count differs (more, i) =
      wrong_behind_body line body more head size b says count differs
      (subst BeginsWithItem (append_assoc line (10 ∷ (body ++ b ∷ [])) more ∙ ap (λ t. line ++ 10 ∷ t) (append_assoc body (b ∷ []) more)) i)

  bad_body : (text : List ℕ) → IsBadBody (room - (length line + 1)) size text → IsBad room (line ++ 10 ∷ text)
  bad_body text (cut within short) =
      let whole : length (line ++ 10 ∷ text) ≡ length line + 1 + length text = whole_length text in
      bad_cut (omega arith) (omega arith) (none_in_body line text head size says short)
  bad_body text (no_lf body rest b count small differs e) =
      let split : (line ++ 10 ∷ (body ++ b ∷ [])) ++ rest ≡ line ++ 10 ∷ text =
      append_assoc line (10 ∷ (body ++ b ∷ [])) rest ∙ ap (λ t. line ++ 10 ∷ t) (append_assoc body (b ∷ []) rest ∙ sym e) in
      let whole : length (line ++ 10 ∷ (body ++ b ∷ [])) ≡ length line + 1 + length (body ++ b ∷ []) = whole_length (body ++ b ∷ []) in
      let more : length (body ++ b ∷ []) ≡ length body + 1 = length-append body (b ∷ []) in
      subst (IsBad room) split (bad_front room (line ++ 10 ∷ (body ++ b ∷ [])) rest (omega arith) (never_behind body b count differs))

  long_body : (text : List ℕ) → room - (length line + 1) < length text → room - (length line + 1) ≤ size → IsTooLong room (line ++ 10 ∷ text)
  long_body text past few =
      let whole : length (line ++ 10 ∷ text) ≡ length line + 1 + length text = whole_length text in
      let first : length (line ++ 10 ∷ []) ≡ length line + 1 = length-append line (10 ∷ []) in
      let parts : room ≡ length (line ++ 10 ∷ []) + (room - (length line + 1)) = omega arith in
      let front : take room (line ++ 10 ∷ text) ≡ line ++ 10 ∷ take (room - (length line + 1)) text =
      ap (take room) (sym (joined text)) ∙ ap (λ n. take n ((line ++ 10 ∷ []) ++ text)) parts ∙ take-append-add (line ++ 10 ∷ []) text (room - (length line + 1)) ∙ joined (take (room - (length line + 1)) text) in
      let count : length (take (room - (length line + 1)) text) ≡ room - (length line + 1) = length-take-le (room - (length line + 1)) text (omega arith) in
      record {
        past = omega arith;
        can = subst CanBegin (sym front) (can_by_body line (take (room - (length line + 1)) text) head size says (omega arith));
        none_fits = λ item rest command e is.
            let b = body_behind line text item rest head size command says e is in
            let n : length item ≡ length line + 1 + size + 1 = b.3 in
            omega arith;
      }

  unsettled_body : (text : List ℕ) → length text < min (room - (length line + 1)) size + 1 → IsUnsettled room (line ++ 10 ∷ text)
  unsettled_body text small =
      let whole : length (line ++ 10 ∷ text) ≡ length line + 1 + length text = whole_length text in
      record { within = omega arith; can = can_by_body line text head size says (omega arith); none = none_in_body line text head size says (omega arith) }

-- ---- the line was found and used

drop_line : (bytes line rest : List ℕ) (size : ℕ) → length line + 1 ≡ size → bytes ≡ line ++ 10 ∷ rest → drop size bytes ≡ rest
drop_line bytes line rest size count e =
    let n : length (line ++ 10 ∷ []) ≡ size = length-append line (10 ∷ []) ∙ count in
    ap (drop size) (e ∙ sym (append_assoc line (10 ∷ []) rest)) ∙ ap (λ n. drop n ((line ++ 10 ∷ []) ++ rest)) (sym n) ∙ drop-append_seam (line ++ 10 ∷ []) rest

-- the line that was found, behind what was taken, is used
pub line_used : {S : Type 0} (tells : SourceTells S) (room : ℕ) (a b m : Fed S) (more : List ℕ) (line : Line) → Takes tells a b more
    → Finds room b.pending (tells.left b.source) (Ok line) → m ≡ record { source = b.source; pending = drop line.size b.pending }
    → NeedsPieces tells room a b more → UsesLine tells room a m (Ok line)
line_used {S} tells room a b m more line taken found used pieces =
    let same : m.source ≡ b.source = ap (λ (f : Fed S). f.source) used in
    let rest : m.pending ≡ found.1 = ap (λ (f : Fed S). f.pending) used ∙ drop_line b.pending found.0 found.1 line.size found.4 found.6 in (
      found.0,
      found.2,
      found.3,
      found.4,
      found.5,
      record {
        more = more;
        source = subst (λ s. Consumes (tells.left a.source) (tells.left s) more) (sym same) taken.source;
        pending = sym taken.pending ∙ found.6 ∙ sym (append_assoc found.0 (10 ∷ []) found.1) ∙ ap (λ r. (found.0 ++ 10 ∷ []) ++ r) (sym rest);
      },
      pieces_same tells (λ seen. IsUnsettled room (a.pending ++ seen)) a.source b.source m.source more same pieces,
    )

-- the line is there in what was found
pub line_within : {S : Type 0} (tells : SourceTells S) (room : ℕ) (b : Fed S) (line : Line)
    → Finds room b.pending (tells.left b.source) (Ok line) → line.size ≤ length b.pending
line_within tells room b line found =
    let whole : length b.pending ≡ length found.0 + suc (length found.1) = ap length found.6 ∙ length-append found.0 (10 ∷ found.1) in
    let size : length found.0 + 1 ≡ line.size = found.4 in
    omega arith

module _ {S : Type 0} (tells : SourceTells S) (room : ℕ) (a m : Fed S) (line : Line) (found : UsesLine tells room a m (Ok line)) where
  -- a whole item
  pub tells_line : (item : Item) → line.said ≡ Whole item.command → item.size ≡ line.size → item.lines ≡ 1 → Tells tells room a m (Ok item)
  tells_line item is size_is lines_is =
      let says = subst (SaysLine found.0) is found.2 in
      let count : length (found.0 ++ 10 ∷ []) ≡ line.size = length-append found.0 (10 ∷ []) ∙ found.3 in
      (found.0 ++ 10 ∷ [], item_from found.0 [] (Whole item.command) item.command says (refl, refl), count ∙ sym size_is, subst (λ n. n ≤ room) (sym size_is) found.4, lf_count-line found.0 [] found.1 ∙ sym lines_is, found.5)

  -- an item with a body
  module _ (head : Head) (body : ℕ) (is : line.said ≡ WithBody head body) (c : Fed S) where
    says_body : SaysLine found.0 (WithBody head body)
    says_body = subst (SaysLine found.0) is found.2

    fits : length found.0 + 1 ≤ room
    fits = subst (λ n. n ≤ room) (sym found.3) found.4

    -- why there is no body is why there is no item
    no_item : (ended : Ended) → IsWhyNoBody (room - line.size) body (text_of tells m) ended → IsWhyNone room (text_of tells a) ended
    no_item End p = absurd p
    no_item Bad p = fact_behind (IsBad room) (IsBadBody (room - line.size) body) (text_of tells a) (text_of tells m) (found.0 ++ 10 ∷ [])
        (λ text bad. subst (IsBad room) (sym (append_assoc found.0 (10 ∷ []) text))
        (bad_body found.0 head body room says_body fits text (subst (λ n. IsBadBody (room - n) body text) (sym found.3) bad)))
        (text_used tells a m (found.0 ++ 10 ∷ []) found.5) p
    no_item Long p = fact_behind (IsTooLong room) (λ text. (room - line.size < length text) × (room - line.size ≤ body)) (text_of tells a) (text_of tells m) (found.0 ++ 10 ∷ [])
        (λ text long. subst (IsTooLong room) (sym (append_assoc found.0 (10 ∷ []) text))
        (long_body found.0 head body room says_body fits text
        (subst (λ n. room - n < length text) (sym found.3) long.0) (subst (λ n. room - n ≤ body) (sym found.3) long.1)))
        (text_used tells a m (found.0 ++ 10 ∷ []) found.5) p
    no_item (Fault fault) p = tt

    pub tells_bodied : (result : Result Item Ended) → MakesItem tells room head line.size body m c result → Tells tells room a c result
    tells_bodied (Ok item) (bytes, e, n, total, within, lfs, uses) =
        let size_is : length found.0 + 1 ≡ line.size = found.3 in
        let tail : length (bytes ++ 10 ∷ []) ≡ length bytes + 1 = length-append bytes (10 ∷ []) in
        let whole : length (found.0 ++ 10 ∷ (bytes ++ 10 ∷ [])) ≡ length found.0 + suc (length (bytes ++ 10 ∷ [])) = length-append found.0 (10 ∷ (bytes ++ 10 ∷ [])) in
        let lf_tail : lf_count (bytes ++ 10 ∷ []) ≡ lf_count bytes + 1 = lf_count-append bytes (10 ∷ []) in
        let lf_all : lf_count (found.0 ++ 10 ∷ (bytes ++ 10 ∷ [])) ≡ 1 + lf_count (bytes ++ 10 ∷ []) = lf_count-line found.0 (bytes ++ 10 ∷ []) found.1 in
        let lf_is : item.lines ≡ lf_count bytes + 2 = lfs in (
          found.0 ++ 10 ∷ (bytes ++ 10 ∷ []),
          item_from found.0 (bytes ++ 10 ∷ []) (WithBody head body) item.command says_body (bytes, n, refl, e),
          omega arith,
          within,
          omega arith,
          subst (Uses tells a c) (append_assoc found.0 (10 ∷ []) (bytes ++ 10 ∷ [])) (uses_trans tells a m c (found.0 ++ 10 ∷ []) (bytes ++ 10 ∷ []) found.5 uses),
        )
    tells_bodied (Err ended) p = no_item ended p

    pub sized_bodied : (result : Result Item Ended) → MakesItem tells room head line.size body m c result → IfOk result (λ item. (0 < item.size) × (item.lines ≤ item.size))
    sized_bodied (Ok item) (bytes, e, n, total, within, lfs, uses) =
        let size_is : length found.0 + 1 ≡ line.size = found.3 in
        let few : lf_count bytes ≤ length bytes = lf_count-within bytes in
        (omega arith, omega arith)
    sized_bodied (Err ended) p = tt

    pub needed_bodied : (E F : Type 0) → TakesBelow tells (min (room - line.size) body + 1) m.pending E F m.source c.source → TakesWhatItNeeds tells room a.pending E F a.source c.source
    needed_bodied E F after' =
        while_behind tells (λ seen. IsUnsettled room (a.pending ++ seen)) (λ seen. length (m.pending ++ seen) < min (room - line.size) body + 1) E F
        a.source m.source c.source found.5.more wider found.6 after' where
          wider : (seen : List ℕ) → length (m.pending ++ seen) < min (room - line.size) body + 1 → IsUnsettled room (a.pending ++ (found.5.more ++ seen))
          wider seen small =
              let whole : a.pending ++ (found.5.more ++ seen) ≡ found.0 ++ 10 ∷ (m.pending ++ seen) =
              sym (append_assoc a.pending found.5.more seen) ∙ ap (λ l. l ++ seen) found.5.pending ∙ append_assoc (found.0 ++ 10 ∷ []) m.pending seen ∙ append_assoc found.0 (10 ∷ []) (m.pending ++ seen) in
              subst (IsUnsettled room) (sym whole) (unsettled_body found.0 head body room says_body fits (m.pending ++ seen)
              (subst (λ n. length (m.pending ++ seen) < min (room - n) body + 1) (sym found.3) small))
