-- What a stop leaves of a script that was answered, and what lasts of it.
use Rattle.std.proofs.Common.{◌≡◌, ◌⊎◌, inl, inr, ℕ, zero, suc, ◌+◌, ◌-◌, ◌<◌, ◌≤◌, List, [], ◌∷◌, ◌++◌, length, length-append, take, refl, sym, ◌∙◌, ap, subst, arith, Option, Some, None}
use Rattle.std.specs.Prelude.{IfSome}
use Rattle.std.specs.Io.KnownBytes.{Appends, Keeps, prepend_known}
use Rattle.std.proofs.KnownBytes.{Appends-trans, Appends-kept, Appends-nil}
use Rattle.std.proofs.lemmas.List.{append-nil, length-take, take_all}
use Rattle.ov_base.specs.declared.limits.TheConstants.{MAX_SCRIPT_BYTES}
use Rattle.ov_disk.specs.Disk.{Image}
use Rattle.ov_disk.proofs.Runs.{started}
use Rattle.ov_disk.specs.Tells.{DiskTells}
use Rattle.ov_images.specs.Images.{Keeps as KeepsHistory, keys_of}
use Rattle.ov_images.proofs.Keeping.{keeps_once}
use Rattle.ov_script.specs.declared.command.Command.{Command}
use Rattle.ov_script.specs.declared.reply.Reply.{Reply}
use Rattle.ov_script.specs.declared.reply.Reply.TheVariants.{Accepted, Bytes, List as Listed, Epoch as EpochIs, Refused, End as EndReply}
use Rattle.ov_script.specs.LineFeeds.{lf_count}
use Rattle.ov_script.specs.Lines.{reply_line}
use Rattle.ov_script.specs.Reading.{IsScript, BeginsScript, BeginsWith, Reads, Ending, AtEnd}
use Rattle.ov_script.proofs.Grammar.{item_once}
use Rattle.ov_script.proofs.Readings.{goes_on, Reads-begins}
use Rattle.ov_history.specs.Catalogue.{Catalogue}
use Rattle.ov_history.specs.History.{matrix_of}
use Rattle.ov_history.specs.Masters.{Masters}
use Rattle.ov_history.specs.Plain.{PlainHistory, history_of}
use Rattle.ov_history.specs.Refusals.{IsLegal}
use Rattle.ov_history.specs.Sealed.{SealedHistory, catalogue_of}
use Rattle.ov_history.specs.Sealing.{IsSealedAs, sealed}
use Rattle.ov_history.proofs.DerivedKeys.{closure_keys}
use Rattle.ov_history.proofs.Published.{published_is_matrix}
use Rattle.ov_history.proofs.TrueHistories.{tokens_are_true}
use Rattle.ov_model.specs.Lines.{lines}
use Rattle.ov_model.specs.Step.{after_all, reply_to}
use Rattle.ov_history.proofs.Agreeing.{right_shows}
use Rattle.ov_model.proofs.Runs.{lines-more}
use Rattle.ov_report.specs.Ends.{EndsIn, EndsOr}
use Rattle.ov_report.specs.Faults.{disk_line, memory_line}
use Rattle.ov_machine.specs.Disks.{Holds, StandsForPlain}
use Rattle.ov_machine.specs.Machine.{KeptOn}
use Rattle.ov_machine.proofs.Reading.{take_whole}
use Rattle.ov_machine.proofs.Stays.{holds_each, holds_stands}
use Rattle.ov_answering.specs.Answering.{AnsweredAll, AnsweredFirst, AnsweredPart, Finishes, Stops}
use Rattle.ov_answering.specs.Ending.{EndsAs}
use Rattle.ov_answering.specs.Lasting.{HasAnswered, KeepsFirst, KeepsNext, Lasts, LastsAs, PublishesMatrix, PublishesMatrixOf, Survives}
use Rattle.ov_answering.specs.Printing.{OutOfMemory, long_line, read_line}
use Rattle.ov_answering.specs.declared.answer.Stop.{Stop}
use Rattle.ov_answering.specs.declared.answer.Stop.TheVariants.{End, BadLine, Long, Read, Write, Disk, Trace, Memory, Tag}
use Rattle.ov_answering.proofs.Concluding.{at_once, concluded_at, memory_printed, none_read}

-- ---- tokens

-- after each legal history the published tokens are the matrix
publishes_matrix : (k : Masters) (p : PlainHistory) → IsLegal (history_of p)
    → PublishesMatrix k (matrix_of (history_of p)) (catalogue_of k.surface (sealed k p))
publishes_matrix k p legal =
    let true_tokens = tokens_are_true k p legal in record {
      tokens = true_tokens;
      derived = λ user label key. closure_keys k (catalogue_of k.surface (sealed k p)) user label key true_tokens;
      matrix = λ user file f. published_is_matrix k p user file f legal;
    }

-- an image keeps no other history but for what nobody can tell
publishes_matrix_of : (k : Masters) (p : PlainHistory) → IsLegal (history_of p) → (h : SealedHistory)
    → IsSealedAs k p h → (i : Image) → KeepsHistory (keys_of k) h i → PublishesMatrixOf k p i
publishes_matrix_of k p legal h right i keeps = λ g other.
    let same : IsSealedAs k p g = sym (keeps_once (keys_of k) h g i keeps other).1 ∙ right in
    subst (λ (c : Catalogue). PublishesMatrix k (matrix_of (history_of p)) c)
    (sym (right_shows k p g legal same)) (publishes_matrix k p legal)

-- what a disk holds lasts on it
pub lasts_held : {D : Type 0} (tells : DiskTells D) (k : Masters) (start p : PlainHistory)
    → IsLegal (history_of p) → (disk : D) → Holds tells k start p disk → LastsAs tells k start p disk
lasts_held tells k start p legal disk held =
    let here = tells.reads_one disk held.told.0 held.told.1 in record {
      image = held.told.0;
      told = held.told.1;
      reads_it = holds_each tells k start p disk held held.told.0 here;
      leaves_it = holds_each tells k start p disk held;
      tokens_read = publishes_matrix_of k p legal held.kept held.right held.told.0
          (held.each held.told.0 here);
      tokens_left = λ c left.
          publishes_matrix_of k p legal held.kept held.right c (held.each c left);
    }

-- ---- scripts

-- behind the commands of a whole script there is no other
no_more : (line room : ℕ) (text : List ℕ) (commands : List Command) (ending : Ending) (next : Command) (line' room' : ℕ) (rest : List ℕ)
    → Reads line room text commands ending → BeginsWith line room text (commands ++ next ∷ []) line' room' rest → ⊥
no_more line room text [] ending next line' room' rest reads b = goes_on line room text b.0 b.1 next ending b.2 b.3 b.4 reads
no_more line room text (c ∷ cs) ending next line' room' rest r b =
    let same = item_once r.0 b.0 r.1 b.1 c c (sym r.2 ∙ b.2) r.4 b.4 in
    let P : List ℕ → List ℕ → Type 0 = λ item more. BeginsWith (line + lf_count item) (room - length item) more (cs ++ next ∷ []) line' room' rest in
    let begins : P r.0 r.1 = subst (λ item. P item r.1) (sym same.0) (subst (P b.0) (sym same.1) b.5) in
    no_more (line + lf_count r.0) (room - length r.0) r.1 cs ending next line' room' rest r.5 begins

-- behind the same commands there is one next command
next_once : (line room : ℕ) (text : List ℕ) (commands : List Command) (a b : Command) (line' room' line'' room'' : ℕ) (rest other : List ℕ)
    → BeginsWith line room text (commands ++ a ∷ []) line' room' rest → BeginsWith line room text (commands ++ b ∷ []) line'' room'' other → a ≡ b
next_once line room text [] a b line' room' line'' room'' rest other p q = (item_once p.0 q.0 p.1 q.1 a b (sym p.2 ∙ q.2) p.4 q.4).2
next_once line room text (c ∷ cs) a b line' room' line'' room'' rest other p q =
    let same = item_once p.0 q.0 p.1 q.1 c c (sym p.2 ∙ q.2) p.4 q.4 in
    let P : List ℕ → List ℕ → Type 0 = λ item more. BeginsWith (line + lf_count item) (room - length item) more (cs ++ b ∷ []) line'' room'' other in
    let begins : P p.0 p.1 = subst (λ item. P item p.1) (sym same.0) (subst (P q.0) (sym same.1) q.5) in
    next_once (line + lf_count p.0) (room - length p.0) p.1 cs a b line' room' line'' room'' rest other p.5 begins

-- ---- lines

-- a reply line has two bytes and more, and they aren't those of an error line
record BeginsAs (line : List ℕ) : Type 0 where
  one : ℕ
  two : ℕ
  more : List ℕ
  is : line ≡ one ∷ two ∷ more
  other : one ≡ 101 → two ≡ 114 → ⊥

begins_as : (r : Reply) → BeginsAs (reply_line r)
begins_as (Accepted epoch) = record { one = 111; two = 107; more = _; is = refl; other = λ a b. omega arith }
begins_as (Bytes user file bytes) = record { one = 100; two = 97; more = _; is = refl; other = λ a b. omega arith }
begins_as (Listed file names) = record { one = 108; two = 105; more = _; is = refl; other = λ a b. omega arith }
begins_as (EpochIs epoch) = record { one = 101; two = 112; more = _; is = refl; other = λ a b. omega arith }
begins_as (Refused why) = record { one = 114; two = 101; more = _; is = refl; other = λ a b. omega arith }
begins_as (EndReply epoch) = record { one = 101; two = 110; more = _; is = refl; other = λ a b. omega arith }

no_front : (n a b : ℕ) (error rest : List ℕ) → take n (101 ∷ 114 ∷ error) ≡ a ∷ b ∷ rest → (a ≡ 101 → b ≡ 114 → ⊥) → ⊥
no_front zero a b error rest e other = cc
no_front (suc zero) a b error rest e other = cc
no_front (suc (suc n)) a b error rest e other = other (sym (let one : 101 ≡ a = cc in one)) (sym (let two : 114 ≡ b = cc in two))

-- no reply line begins in a front of an error line
no_reply : (r : Reply) (n : ℕ) (error tail : List ℕ) → take n (101 ∷ 114 ∷ error) ≡ reply_line r ++ tail → ⊥
no_reply r n error tail e =
    let b = begins_as r in
    no_front n b.one b.two error (b.more ++ tail) (e ∙ ap (λ l. l ++ tail) b.is) b.other

no_nothing : (r : Reply) (tail : List ℕ) → [] ≡ reply_line r ++ tail → ⊥
no_nothing r tail e = let b = begins_as r in let empty : [] ≡ b.one ∷ b.two ∷ (b.more ++ tail) = e ∙ ap (λ l. l ++ tail) b.is in cc

-- a front of the line was put
pub front_put : (last : List ℕ) (code : ℕ) (old new : Option (List ℕ)) (status : ℕ) → EndsIn last code old new status → (n : ℕ) × Appends old new (take n last)
front_put last code old new status (inl q) = (length last, subst (Appends old new) (sym (take_whole last (length last) refl)) q.1)
front_put last code old new status (inr q) = q.1

pub not_zero : (last : List ℕ) (code : ℕ) (old new : Option (List ℕ)) (status : ℕ) → EndsIn last code old new status → (code ≡ 0 → ⊥) → status ≡ 0 → ⊥
not_zero last code old new status (inl q) other zero_is = other (sym q.0 ∙ zero_is)
not_zero last code old new status (inr q) other zero_is = let six : status ≡ 6 = q.0 in omega arith

not_zero_or : (last : List ℕ) (code : ℕ) (old new : Option (List ℕ)) (status : ℕ) → EndsOr last code old new status → (code ≡ 0 → ⊥) → status ≡ 0 → ⊥
not_zero_or last code old new status (inl e) other zero_is = not_zero last code old new status e other zero_is
not_zero_or last code old new status (inr e) other zero_is = not_zero memory_line 7 old new status e (λ z. omega arith) zero_is

-- nothing was put
pub none_put : (old new : Option (List ℕ)) → Keeps old new → Appends old new []
none_put old new kept = Appends-kept old old new [] (Appends-nil old) kept

-- some bytes were put
pub some_put : (last : List ℕ) (code : ℕ) (old new : Option (List ℕ)) (status : ℕ) → EndsOr last code old new status → (rest : List ℕ) × Appends old new rest
some_put last code old new status (inl e) = let f = front_put last code old new status e in (take f.0 last, f.1)
some_put last code old new status (inr e) = let f = front_put memory_line 7 old new status e in (take f.0 memory_line, f.1)

less_or : (m n : ℕ) → (m < n) ⊎ (n ≤ m)
less_or zero zero = inr (omega arith)
less_or zero (suc n) = inl (omega arith)
less_or (suc m) zero = inr (omega arith)
less_or (suc m) (suc n) = next (less_or m n) where
  next : (m < n) ⊎ (n ≤ m) → (suc m < suc n) ⊎ (suc n ≤ suc m)
  next (inl low) = inl (omega arith)
  next (inr past) = inr (omega arith)

-- ---- what was answered

module _ (p : PlainHistory) (text : List ℕ) (commands : List Command) (old mid new : Option (List ℕ)) (put : Appends old mid (lines p commands)) where
  -- behind a whole script anything may follow
  pub answered_whole : (ending : Ending) → IsScript text commands ending → (rest : List ℕ) × Appends mid new rest → HasAnswered p text commands old new
  answered_whole ending reads (rest, more) = (
    rest,
    Appends-trans old mid new (lines p commands) rest put more,
    λ next tail begins e. no_more 1 MAX_SCRIPT_BYTES text commands ending next begins.0 begins.1 begins.2 reads begins.3,
  )

  -- an error line is no reply line
  pub answered_error : (error : List ℕ) → (n : ℕ) × Appends mid new (take n (101 ∷ 114 ∷ error)) → HasAnswered p text commands old new
  answered_error error (n, more) = (
    take n (101 ∷ 114 ∷ error),
    Appends-trans old mid new (lines p commands) (take n (101 ∷ 114 ∷ error)) put more,
    λ next tail begins e. no_reply (reply_to (after_all p commands) next) n error tail e,
  )

module _ (p : PlainHistory) (text : List ℕ) (commands : List Command) (next : Command) (old new : Option (List ℕ))
    (begins : BeginsScript text (commands ++ next ∷ [])) (count : ℕ) where
  abbrev line : List ℕ
  line = reply_line (reply_to (after_all p commands) next)

  by_count : Appends old new (lines p commands ++ take count line) → (count < length line) ⊎ (length line ≤ count)
      → HasAnswered p text commands old new ⊎ HasAnswered p text (commands ++ next ∷ []) old new
  by_count puts (inl low) = inl (
    take count line,
    puts,
    λ other tail begins_other e.
        let same : next ≡ other = next_once 1 MAX_SCRIPT_BYTES text commands next other _ _ _ _ _ _ begins.3 begins_other.3 in
        let whole : take count line ≡ line ++ tail = e ∙ ap (λ c. reply_line (reply_to (after_all p commands) c) ++ tail) (sym same) in
        let sizes : length (take count line) ≡ length line + length tail = ap length whole ∙ length-append line tail in
        omega (arith, low, sizes, length-take count line),
  )
  by_count puts (inr past) =
      let all : lines p (commands ++ next ∷ []) ++ [] ≡ lines p commands ++ take count line =
      append-nil (lines p (commands ++ next ∷ [])) ∙ lines-more p commands next ∙ ap (λ l. lines p commands ++ l) (sym (take_all count line past)) in
      inr (
        [],
        subst (Appends old new) (sym all) puts,
        λ other tail begins_other e. no_nothing (reply_to (after_all p (commands ++ next ∷ [])) other) tail e,
      )

  -- a front of the next line was put: all of it, or less
  pub part_answered : Appends old new (lines p commands ++ take count line)
      → HasAnswered p text commands old new ⊎ HasAnswered p text (commands ++ next ∷ []) old new
  part_answered puts = by_count puts (less_or count (length line))

-- ---- the whole

module _ {D : Type 0} (tells : DiskTells D) (k : Masters) (p : PlainHistory) (text : List ℕ)
    (old mid new : Option (List ℕ)) where
  module _ (first last : KeptOn D) (holds : Holds tells k p p first.disk) where
    survives_whole : (ending : Ending) → AnsweredAll tells k p text ending old mid first last
        → (rest : List ℕ) × Appends mid new rest → Survives tells k p text first.disk last.disk old new
    survives_whole ending a more = record {
      any_moment = (a.reaches holds).moments;
      at_exit = (
        a.commands,
        Reads-begins 1 MAX_SCRIPT_BYTES text a.commands ending a.read,
        answered_whole p text a.commands old mid new a.put ending a.read more,
        λ c left. inl (holds_stands tells k p (after_all p a.commands) last.disk (a.reaches holds).holds c left),
      );
    }

    survives_first : (error : List ℕ) → AnsweredFirst tells k p text old mid first last
        → (n : ℕ) × Appends mid new (take n (101 ∷ 114 ∷ error)) → Survives tells k p text first.disk last.disk old new
    survives_first error a more = record {
      any_moment = (a.stopped holds).moments;
      at_exit = (a.commands, a.begins, answered_error p text a.commands old mid new a.put error more, (a.stopped holds).now);
    }

    survives_part : AnsweredPart tells k p text old mid first last → Keeps mid new
        → Survives tells k p text first.disk last.disk old new
    survives_part a kept =
        let line = reply_line (reply_to (after_all p a.commands) a.next) in
        let puts = Appends-kept old mid new (lines p a.commands ++ take a.count line) a.put kept in
        record { any_moment = (a.reaches holds).moments; at_exit = at_exit (part_answered p text a.commands a.next old new a.begins_next a.count puts) } where
          stands_for : (c : Image) → tells.may_leave last.disk c → StandsForPlain k p (after_all p (a.commands ++ a.next ∷ [])) c
          stands_for = holds_stands tells k p (after_all p (a.commands ++ a.next ∷ [])) last.disk (a.reaches holds).holds

          at_exit : HasAnswered p text a.commands old new ⊎ HasAnswered p text (a.commands ++ a.next ∷ []) old new
              → (commands : List Command) × BeginsScript text commands × HasAnswered p text commands old new
              × ((c : Image) → tells.may_leave last.disk c → KeepsNext k p text commands c)
          at_exit (inl answered) = (a.commands, a.begins, answered, λ c left. inr (a.next, a.begins_next, stands_for c left))
          at_exit (inr answered) = (a.commands ++ a.next ∷ [], a.begins_next, answered, λ c left. inl (stands_for c left))

    survives_at : (stop : Stop) (n status : ℕ) → Stops tells k p text stop old mid first last → Finishes stop n mid new status
        → Survives tells k p text first.disk last.disk old new
    survives_at End n status a f = survives_whole _ a (some_put _ 0 mid new status f)
    survives_at (BadLine m) n status a f = survives_whole _ a (some_put _ 3 mid new status f)
    survives_at Long n status a f = survives_whole _ a (let q = front_put long_line 11 mid new status f in (take q.0 long_line, q.1))
    survives_at Read n status a f = survives_first _ a (front_put read_line 5 mid new status f)
    survives_at Disk n status a f = survives_first _ a (front_put disk_line 4 mid new status f)
    survives_at Trace n status a f = survives_first [] a (0, none_put mid new f.1)
    survives_at Memory n status a f = survives_first _ a (front_put memory_line 7 mid new status f)
    survives_at Write n status a f = survives_part a f.1
    survives_at (Tag bad) n status a f = absurd a

    lasts_whole : AnsweredAll tells k p text AtEnd old mid first last
        → Lasts tells k p text last.disk
    lasts_whole a = record {
      commands = a.commands;
      whole = a.read;
      lasts = lasts_held tells k p (after_all p a.commands) a.stands.0.0 last.disk
          (a.reaches holds).holds;
    }

    lasts_at : (stop : Stop) (n status : ℕ)
        → Stops tells k p text stop old mid first last → Finishes stop n mid new status → status ≡ 0
        → Lasts tells k p text last.disk
    lasts_at End n status a f e = lasts_whole a
    lasts_at (BadLine m) n status a f e = absurd (not_zero_or _ 3 mid new status f (λ z. omega arith) e)
    lasts_at Long n status a f e = absurd (not_zero _ 11 mid new status f (λ z. omega arith) e)
    lasts_at Read n status a f e = absurd (not_zero _ 5 mid new status f (λ z. omega arith) e)
    lasts_at Disk n status a f e = absurd (not_zero _ 4 mid new status f (λ z. omega arith) e)
    lasts_at Memory n status a f e = absurd (not_zero _ 7 mid new status f (λ z. omega arith) e)
    lasts_at Write n status a f e = absurd (let six : status ≡ 6 = f.0 in omega arith)
    lasts_at Trace n status a f e = absurd (let six : status ≡ 6 = f.0 in omega arith)
    lasts_at (Tag bad) n status a f e = absurd a

  pub ends_at : (first last : KeptOn D) → (stop : Stop) (n status : ℕ)
      → Stops tells k p text stop old mid first last → Finishes stop n mid new status → n ≡ last.kept.catalogue.epoch
      → EndsAs tells k p text first.disk last.disk old new status (Holds tells k p p first.disk)
  ends_at first last stop n status a f count = record {
    concluded = concluded_at tells k p text old mid new first last status stop n a f count;
    survives = λ holds. survives_at first last holds stop n status a f;
    lasts = λ holds. lasts_at first last holds stop n status a f;
  }

-- nothing of the script was taken before
pub ends_all : {D : Type 0} (tells : DiskTells D) (k : Masters) (p : PlainHistory) (input : Option (List ℕ))
    (old mid new : Option (List ℕ)) (first last : KeptOn D) → (stop : Stop) (n status : ℕ)
    → IfSome (prepend_known [] input) (λ text. Stops tells k p text stop old mid first last) → Finishes stop n mid new status
    → n ≡ last.kept.catalogue.epoch
    → IfSome input (λ text. EndsAs tells k p text first.disk last.disk old new status (Holds tells k p p first.disk))
ends_all tells k p None old mid new first last stop n status a f count = tt
ends_all tells k p (Some text) old mid new first last stop n status a f count =
    ends_at tells k p text old mid new first last stop n status a f count

-- memory was refused at once
pub ends_unread : {D : Type 0} (tells : DiskTells D) (k : Masters) (p : PlainHistory) (input : Option (List ℕ))
    (old new : Option (List ℕ)) (first : D) (status : ℕ)
    → EndsIn memory_line 7 old new status
    → IfSome input (λ text. EndsAs tells k p text first first old new status (Holds tells k p p first))
ends_unread tells k p None old new first status e = tt
ends_unread tells k p (Some text) old new first status e = record {
  concluded = at_once p text memory_line OutOfMemory old new status (memory_printed p text) e;
  survives = λ holds. record {
    any_moment = started tells first (KeepsFirst k p text) (λ c left. ([], none_read text, holds_stands tells k p p first holds c left));
    at_exit = (
      [],
      none_read text,
      answered_error p text [] old old new (Appends-nil old) _ (front_put memory_line 7 old new status e),
      λ c left. inl (holds_stands tells k p p first holds c left),
    );
  };
  lasts = λ holds zero_is. absurd (not_zero memory_line 7 old new status e (λ z. omega arith) zero_is);
}
