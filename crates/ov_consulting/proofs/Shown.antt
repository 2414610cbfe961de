-- What an open book's catalogue shows: the settled history of the book for which it stands.
use Rattle.std.proofs.Common.{◌≡◌, ◌∙◌, ℕ, List, length, sym, ap, subst}
use Rattle.std.specs.Prelude.{IfOk, IfSome, Option, Some, None, Result, Ok, Err, option_map}
use Rattle.ov_base.specs.declared.memory.Memory.{Memory as Refused}
use Rattle.ov_base.specs.NameLists.{AreDistinct}
use Rattle.ov_book.specs.Opened.{Holds, IsPendingIn, Opened, Pending}
use Rattle.ov_book.proofs.Begun.{shown_by}
use Rattle.ov_books.specs.Books.{Booked, outline_of, settled_of}
use Rattle.ov_books.proofs.Numbering.{outline_is, with_zeros}
use Rattle.ov_disk.specs.Tells.{DiskTells}
use Rattle.ov_history.specs.Catalogue.{Catalogue, matrix_shown, outline}
use Rattle.ov_history.specs.History.{History, Matrix, matrix_of}
use Rattle.ov_history.specs.Laws.{ShowsHistory}
use Rattle.ov_history.specs.Layers.{Layers, layers_of}
use Rattle.ov_history.specs.Masters.{Masters}
use Rattle.ov_history.specs.Texts.{StandsBriefly}
use Rattle.ov_history.proofs.Showing.{history_is_shown}
use Rattle.ov_record.specs.Briefs.{Brief as SpelledBrief}
use Rattle.ov_record.specs.Forms.{second_form}
use Rattle.ov_record.specs.Stored.{HasBriefForm}
use Rattle.ov_consulting.specs.Answers.{Answer, answer_at, answer_by}
use Rattle.ov_consulting.specs.Endings.{End}
use Rattle.ov_consulting.specs.Saying.{IsSpelled, Says, given}
use Rattle.ov_consulting.specs.declared.job.Question.{Question}
use Rattle.ov_consulting.proofs.Distinct.{users_are_distinct}

-- a catalogue that stands for the settled history of a book shows it
shows : (master : List ℕ) (c : Catalogue) (b : Booked) → StandsBriefly master c (settled_of b)
    → ShowsHistory (outline_of (settled_of b)) c
shows master c b stands =
    let s = with_zeros master c (settled_of b) stands in
    subst (λ (h : History). ShowsHistory h c) (outline_is master c (settled_of b) s)
    (history_is_shown master c s.history s.stands)

-- so what is answered by the catalogue is answered by the book
answer_is : (k : Masters) (c : Catalogue) (b : Booked) (q : Question) → c.epoch ≡ length b.settled
    → ShowsHistory (outline_of (settled_of b)) c
    → answer_at k (matrix_shown c) (outline c) c.epoch b.pending q ≡ answer_by k b q
answer_is k c b q epoch is =
    let h : History = outline_of (settled_of b) in
    ap (λ (m : Matrix). answer_at k m (outline c) c.epoch b.pending q) is.matrix
    ∙ ap (λ (y : Layers). answer_at k (matrix_of h) y c.epoch b.pending q) is.layers
    ∙ ap (λ n. answer_at k (matrix_of h) (layers_of h) n b.pending q) epoch

-- bytes that were made are this answer
pub says_given : (r : Result (List ℕ) Refused) (text : List ℕ)
    → IfOk r (λ (bytes : List ℕ). bytes ≡ text) → Says (Ok text) (given r)
says_given (Ok bytes) text is = ap (λ (t : List ℕ). Ok t) (sym is)
says_given (Err refused) text is = tt

-- bytes that were made by a catalogue are this answer by the same one
pub gives_text : (r : Result (List ℕ) Refused) (text : Catalogue → List ℕ) (x y : Catalogue) → x ≡ y
    → IfOk r (λ (bytes : List ℕ). bytes ≡ text x) → Says (Ok (text y)) (given r)
gives_text r text x y same is =
    says_given r (text y)
    (subst (λ (c : Catalogue). IfOk r (λ (bytes : List ℕ). bytes ≡ text c)) same is)

module _ {D : Type 0} (tells : DiskTells D) (s : Opened D) (b : Booked) (holds : Holds tells b s)
  where
    abbrev shown : ShowsHistory (outline_of (settled_of b)) s.settled
    shown = shows s.masters.surface s.settled b holds.settled

    -- what an open book says by its catalogue is what the book says
    pub says_by : (q : Question) (end : End)
        → Says (answer_at s.masters (matrix_shown s.settled) (outline s.settled) s.settled.epoch
        b.pending q) end
        → Says (answer_by s.masters b q) end
    says_by q end says =
        subst (λ (a : Answer). Says a end)
        (answer_is s.masters s.settled b q (shown_by s.masters.surface s.settled b holds.settled).epoch shown)
        says

    -- the users of an open book are distinct
    pub users_differ : AreDistinct s.settled.users
    users_differ =
        subst (λ (m : Matrix). AreDistinct m.users) (sym shown.matrix)
        (users_are_distinct (settled_of b) holds.settled.0)

    spelled : (pending : Option SpelledBrief) (p : Option Pending)
        → IfSome pending (HasBriefForm second_form) → IsPendingIn pending p
        → IsSpelled pending (option_map (λ (x : Pending). x.front) p)
    spelled None None form is = tt
    spelled None (Some p) form is = is
    spelled (Some u) None form is = is
    spelled (Some u) (Some p) form is = (form, is.0)

    -- the pending update in memory is spelled so
    pub pending_is_spelled : IsSpelled b.pending (option_map (λ (x : Pending). x.front) s.pending)
    pending_is_spelled = spelled b.pending s.pending holds.is_book.noted.pending holds.pending

    -- the mode of an open book is the book's
    pub mode_is : s.settled.mode ≡ b.mode
    mode_is = (shown_by s.masters.surface s.settled b holds.settled).mode_is
