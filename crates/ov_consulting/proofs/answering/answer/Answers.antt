use Rattle.std.proofs.Common.{◌≡◌, ◌∙◌, List, ℕ, Option, Ok, ap, sym, subst}
use Rattle.std.specs.Prelude.{IfOk}
use Rattle.ov_base.specs.NameLists.{AreDistinct}
use Rattle.ov_history.specs.Catalogue.{Catalogue, matrix_shown}
use Rattle.ov_listing.specs.Listings.{files_wanted}
use Rattle.ov_listing.specs.Texts.{files_text, users_text}
use Rattle.ov_listing.specs.declared.listing.Wanted.TheVariants.{Files as WithFiles}
use Rattle.ov_script.specs.Lines.{reply_line}
use Rattle.ov_script.specs.declared.reply.Reply.TheVariants as replies
use Rattle.ov_consulting.specs.Answers.{answer_by, files_of_answer, list_answer}
use Rattle.ov_consulting.specs.Endings.{End}
use Rattle.ov_consulting.specs.Pending.{pending_line}
use Rattle.ov_consulting.specs.Saying.{IsSpelled, Says}
use Rattle.ov_consulting.specs.declared.job.Question.{Question}
use Rattle.ov_consulting.specs.declared.job.Question.TheVariants.{Epoch, Files, FilesOf, Key}
use Rattle.ov_consulting.specs.declared.job.Question.TheVariants.{List as ListNames, Pending, Users}
use Rattle.ov_consulting.proofs.Shown.{gives_text, pending_is_spelled, says_by, says_given, users_differ}
use Rattle.ov_consulting.proofs.answering.answer.Goals as goal

pub tell_list-requires : goal.tell_list-requires
tell_list-requires g c =
    subst (λ (x : Catalogue). AreDistinct x.users) (sym c.settled-state.ensures)
    (users_differ g.D.Disk.tells c.args.book.now c.known.ensures.0 c.known.ensures.1)

pub tell_files-requires : goal.tell_files-requires
tell_files-requires g c =
    subst (λ (x : Catalogue). AreDistinct x.users) (sym c.settled-state.ensures)
    (users_differ g.D.Disk.tells c.args.book.now c.known.ensures.0 c.known.ensures.1)

pub tell_files_of-requires : goal.tell_files_of-requires
tell_files_of-requires g c =
    subst (λ (x : Catalogue). AreDistinct x.users) (sym c.settled-state.ensures)
    (users_differ g.D.Disk.tells c.args.book.now c.known.ensures.0 c.known.ensures.1)

pub tell_pending-requires-clause-distinct : goal.tell_pending-requires-clause-distinct
tell_pending-requires-clause-distinct g c =
    subst (λ (x : Catalogue). AreDistinct x.users) (sym c.settled-state.ensures)
    (users_differ g.D.Disk.tells c.args.book.now c.known.ensures.0 c.known.ensures.1)

pub tell_pending-requires-clause-brief : goal.tell_pending-requires-clause-brief
tell_pending-requires-clause-brief g c = (
  c.known.ensures.0.pending,
  subst (λ (bytes : Option (List ℕ)). IsSpelled c.known.ensures.0.pending bytes)
      (sym c.brief.ensures)
      (pending_is_spelled g.D.Disk.tells c.args.book.now c.known.ensures.0 c.known.ensures.1),
)

pub returns-in-Key : goal.returns-in-Key
returns-in-Key g c b holds =
    subst (λ (q : Question). Says (answer_by c.args.book.now.masters b q) c.tell_key.result)
    (sym c.in-Key.is)
    (says_by g.D.Disk.tells c.args.book.now b holds (Key c.in-Key.user) c.tell_key.result
    c.tell_key.ensures)

pub returns-in-List : goal.returns-in-List
returns-in-List g c b holds =
    subst (λ (q : Question). Says (answer_by c.args.book.now.masters b q) c.tell_list.result)
    (sym c.in-List.is)
    (says_by g.D.Disk.tells c.args.book.now b holds (ListNames c.in-List.file)
    c.tell_list.result
    (subst (λ (x : Catalogue). Says (list_answer (matrix_shown x) c.in-List.file) c.tell_list.result)
    c.settled-state.ensures c.tell_list.ensures))

pub returns-in-FilesOf : goal.returns-in-FilesOf
returns-in-FilesOf g c b holds =
    subst (λ (q : Question). Says (answer_by c.args.book.now.masters b q) c.tell_files_of.result)
    (sym c.in-FilesOf.is)
    (says_by g.D.Disk.tells c.args.book.now b holds (FilesOf c.in-FilesOf.user)
    c.tell_files_of.result
    (subst (λ (x : Catalogue). Says (files_of_answer (matrix_shown x) c.in-FilesOf.user) c.tell_files_of.result)
    c.settled-state.ensures c.tell_files_of.ensures))

pub returns-in-Users : goal.returns-in-Users
returns-in-Users g c b holds =
    let s = c.args.book.now in
    subst (λ (q : Question). Says (answer_by s.masters b q) c.given.result) (sym c.in-Users.is)
    (says_by g.D.Disk.tells s b holds Users c.given.result
    (subst (λ (e : End). Says (Ok (users_text s.settled.users)) e) (sym c.given.ensures)
    (gives_text c.tell_users.result (λ (x : Catalogue). users_text x.users) _ _
    c.settled-state.ensures c.tell_users.ensures)))

pub returns-in-Files : goal.returns-in-Files
returns-in-Files g c b holds =
    let s = c.args.book.now in
    subst (λ (q : Question). Says (answer_by s.masters b q) c.given-in-Files.result)
    (sym c.in-Files.is)
    (says_by g.D.Disk.tells s b holds Files c.given-in-Files.result
    (subst (λ (e : End). Says (Ok (files_text (files_wanted WithFiles (matrix_shown s.settled)))) e)
    (sym c.given-in-Files.ensures)
    (gives_text c.tell_files.result
    (λ (x : Catalogue). files_text (files_wanted WithFiles (matrix_shown x))) _ _
    c.settled-state.ensures c.tell_files.ensures)))

pub returns-in-Epoch : goal.returns-in-Epoch
returns-in-Epoch g c b holds =
    let s = c.args.book.now in
    subst (λ (q : Question). Says (answer_by s.masters b q) c.given-in-Epoch.result)
    (sym c.in-Epoch.is)
    (says_by g.D.Disk.tells s b holds Epoch c.given-in-Epoch.result
    (subst (λ (e : End). Says (Ok (reply_line (replies.Epoch s.settled.epoch))) e)
    (sym c.given-in-Epoch.ensures)
    (says_given c.line_of.result (reply_line (replies.Epoch s.settled.epoch))
    (subst
    (λ (n : ℕ). IfOk c.line_of.result (λ (bytes : List ℕ). bytes ≡ reply_line (replies.Epoch n)))
    (c.epoch.ensures ∙ ap (λ (x : Catalogue). x.epoch) c.settled-state.ensures)
    c.line_of.ensures))))

pub returns-in-Pending : goal.returns-in-Pending
returns-in-Pending g c b holds =
    let s = c.args.book.now in
    subst (λ (q : Question). Says (answer_by s.masters b q) c.given-in-Pending.result)
    (sym c.in-Pending.is)
    (says_by g.D.Disk.tells s b holds Pending c.given-in-Pending.result
    (subst
    (λ (e : End). Says (Ok (pending_line (matrix_shown s.settled) s.settled.epoch b.pending)) e)
    (sym c.given-in-Pending.ensures)
    (gives_text c.tell_pending.result
    (λ (x : Catalogue). pending_line (matrix_shown x) x.epoch b.pending) _ _
    c.settled-state.ensures
    (c.tell_pending.ensures b.pending
    (subst (λ (bytes : Option (List ℕ)). IsSpelled b.pending bytes) (sym c.brief.ensures)
    (pending_is_spelled g.D.Disk.tells s b holds))))))
