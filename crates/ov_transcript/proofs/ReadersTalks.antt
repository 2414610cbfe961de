-- A read is the transcript of its command, or a front of it.
use Rattle.std.proofs.Common.{◌≡◌, ℕ, List, [], ◌∷◌, ◌++◌, Option, Some, None, Result, Ok, Err}
use Rattle.std.proofs.Common.{refl, sym, ap, subst, inl, inr, append_assoc}
use Rattle.ov_script.specs.declared.command.Command.TheVariants.{Read}
use Rattle.ov_history.specs.History.{matrix_of}
use Rattle.ov_history.specs.Lists.{file_number}
use Rattle.ov_history.specs.Masters.{Masters}
use Rattle.ov_history.specs.Plain.{PlainHistory, history_of}
use Rattle.ov_history.specs.Refusals.{IsLegal}
use Rattle.ov_wire.specs.declared.request.Question.TheVariants as questions
use Rattle.ov_wire.specs.declared.request.Request.{Request}
use Rattle.ov_wire.specs.declared.request.Request.TheVariants as requests
use Rattle.ov_wire.specs.declared.answer.Known.{Known}
use Rattle.ov_wire.specs.declared.answer.Answer.TheVariants as answers
use Rattle.ov_wire.specs.Requests.{request_bytes}
use Rattle.ov_protocol.specs.Serving.{Service, later}
use Rattle.ov_peer.specs.Asks.{Ask}
use Rattle.ov_owner.specs.Alone.{AnsweredAlone}
use Rattle.ov_client.specs.Readers.{Reader}
use Rattle.ov_client.specs.Talks.{AsksChain, Closes, Ends, Goes, Moves, Stage, Talks}
use Rattle.ov_client.specs.declared.fault.ClientFault.{ClientFault}
use Rattle.ov_client.specs.declared.fault.ClientFault.TheVariants as faults
use Rattle.ov_transcript.specs.Laws.{ReadsAreFronts, ReadsAreTranscripts}
use Rattle.ov_transcript.specs.Talking.{ArePut, IsFirstAsk, IsPut, IsReadAnswered, ReadsAs}
use Rattle.ov_transcript.specs.Transcripts.{Begins, IsFrontFrom, IsTranscript, IsTranscriptFront}
use Rattle.ov_transcript.specs.Transcripts.{chunks_at, frames, frames_of, left_unless, says_refused}
use Rattle.ov_transcript.specs.Transcripts.{service_of}
use Rattle.ov_transcript.proofs.Engines.{GoesBy, IsNext, fronts, whole}
use Rattle.ov_transcript.proofs.Fronts.{front_cons, front_nothing, front_put}
use Rattle.ov_transcript.proofs.Questions.{first_read, first_replied, first_stays}
use Rattle.ov_transcript.proofs.Readers.{Cut, Due, cut_due, is_due, nothing_more, steps}

goes_by : (r : Reader) (file : List ℕ) (stage final : Stage) (asks : List Ask)
    → Goes r file stage asks final → GoesBy (Moves r file) stage asks final
goes_by r file stage final [] same = same
goes_by r file stage final (a ∷ asks) (next, moves, goes) =
    (next, moves, goes_by r file next final asks goes)

-- a read that was answered came to its end
ended : (r : Reader) (file : List ℕ) (stage : Stage) (o : Option (List ℕ))
    (result : Result (List ℕ) ClientFault)
    → Closes r file stage o result → IsReadAnswered result → stage ≡ Ends result
ended r file stage None result (inl is) answered = is
ended r file stage None result (inr memory) answered = absurd (subst IsReadAnswered memory answered)
ended r file stage (Some frame) result (asks, inl link) answered =
    absurd (subst IsReadAnswered link answered)
ended r file stage (Some frame) result (asks, inr memory) answered =
    absurd (subst IsReadAnswered memory answered)

module _ (k : Masters) (r : Reader) (file : List ℕ) (p : PlainHistory)
    (legal : IsLegal (history_of p)) where
  abbrev IsDueAt : Stage → Service → List Request → Type 0
  IsDueAt stage v rs = Due k r file p legal stage v rs

  abbrev rest : List Request
  rest =
      requests.Chain r.name file ∷ chunks_at (history_of p)
      (file_number (matrix_of (history_of p)) file)

  nothing_left : (result : Result (List ℕ) ClientFault) (v : Service) (rs : List Request)
      → IsReadAnswered result
      → IsDueAt (Ends result) v rs → rs ≡ []
  nothing_left (Ok bytes) v rs answered due = due
  nothing_left (Err (faults.Refused why)) v rs answered due = due
  nothing_left (Err fault) v rs answered due = absurd answered

  uncut : (result : Result (List ℕ) ClientFault) → IsReadAnswered result → Cut (Ends result) → ⊥
  uncut (Ok bytes) answered cut = cut
  uncut (Err (faults.Refused why)) answered cut = cut
  uncut (Err fault) answered cut = answered

  -- what was put of the last ask, which failed
  last_put : (stage : Stage) (o : Option (List ℕ)) (result : Result (List ℕ) ClientFault)
      (m v : Service)
      (rs : List Request) (put : List ℕ)
      → Closes r file stage o result → ArePut m o put → v ≡ m → IsDueAt stage v rs
      → IsFrontFrom v rs put
  last_put stage None result m v rs put closes are same due =
      subst (IsFrontFrom v rs) (sym are) (front_nothing v rs)
  last_put stage (Some frame) result m v rs put (asks, why) are same due =
      let next : IsNext rs frame = is_due k r file p legal stage v rs frame due asks in
      let there : IsPut v (request_bytes next.request) put =
      subst (λ (f : List ℕ). IsPut v f put) next.asked
      (subst (λ (w : Service). IsPut w frame put) (sym same) are) in
      subst (λ (l : List Request). IsFrontFrom v l put) (sym next.is_next)
      (front_put v next.request next.more put next.form there)

  none_put : (stage : Stage) (o : Option (List ℕ)) (result : Result (List ℕ) ClientFault)
      (m : Service) (put : List ℕ)
      → Closes r file stage o result → ArePut m o put → Cut stage → put ≡ []
  none_put stage None result m put closes are cut = are
  none_put stage (Some frame) result m put (asks, why) are cut =
      absurd (cut_due k r file p legal stage frame cut asks)

  module _ (asks : List Ask) (o : Option (List ℕ)) (result : Result (List ℕ) ClientFault)
      (m : Service)
      (talks : Talks r file asks o result) (alone : AnsweredAlone (service_of k p) asks m) where
    rest_is_transcript : IsReadAnswered result → Begins (service_of k p) rest asks []
    rest_is_transcript answered =
        let (final, goes, closes) = talks in
        let is = ended r file final o result closes answered in
        whole (Moves r file) IsDueAt Cut (steps k r file p legal)
        (nothing_more k r file p legal) final m
        (λ v rs due. nothing_left result v rs answered
        (subst (λ (s : Stage). IsDueAt s v rs) is due))
        (λ cut. uncut result answered (subst Cut is cut))
        (AsksChain [] 0) (service_of k p) rest asks (refl, refl)
        (goes_by r file (AsksChain [] 0) final asks goes) alone

    rest_is_front : (put : List ℕ) → ArePut m o put
        → IsFrontFrom (service_of k p) rest (frames asks ++ put)
    rest_is_front put are =
        let (final, goes, closes) = talks in
        fronts (Moves r file) IsDueAt Cut (steps k r file p legal)
        (nothing_more k r file p legal) final m o put are
        (λ v rs same due. last_put final o result m v rs put closes are same due)
        (λ cut. none_put final o result m put closes are cut)
        (AsksChain [] 0) (service_of k p) rest asks (refl, refl)
        (goes_by r file (AsksChain [] 0) final asks goes) alone

  -- ---- behind the question for keys
  module _ (key : Ask) (known : Known) (f : IsFirstAsk k p (Read r.name file) key)
      (told : ReadsAs (Read r.name file) key.reply (answers.Known known)) where
    left_is : rest ≡ left_unless (says_refused key.reply) rest
    left_is =
        sym (ap (λ (l : List ℕ). left_unless (says_refused l) rest)
        (first_read k p (Read r.name file) key f (answers.Known known) told))

    stays : service_of k p ≡ later (service_of k p) f.made
    stays = sym (first_stays k p (Read r.name file) key f)

    pub read_is_transcript : (asks : List Ask) → Begins (service_of k p) rest asks []
        → Begins (service_of k p) (requests.Ask (questions.Key r.name) ∷ rest) (key ∷ asks) []
    read_is_transcript asks begins = (
      f.made,
      f.asked,
      first_replied k p (Read r.name file) key f,
      subst (λ (l : List Request). Begins (later (service_of k p) f.made) l asks []) left_is
          (subst (λ (v : Service). Begins v rest asks []) stays begins),
    )

    pub read_is_front : (asks : List Ask) (put : List ℕ)
        → IsFrontFrom (service_of k p) rest (frames asks ++ put)
        → IsFrontFrom (service_of k p) (requests.Ask (questions.Key r.name) ∷ rest)
        (frames (key ∷ asks) ++ put)
    read_is_front asks put front =
        subst (IsFrontFrom (service_of k p) (requests.Ask (questions.Key r.name) ∷ rest))
        (sym (append_assoc (frames_of key) (frames asks) put))
        (front_cons (service_of k p) (requests.Ask (questions.Key r.name)) rest key f.made
        (frames asks ++ put) f.asked
        (first_replied k p (Read r.name file) key f)
        (subst (λ (l : List Request). IsFrontFrom (later (service_of k p) f.made) l
        (frames asks ++ put)) left_is
        (subst (λ (v : Service). IsFrontFrom v rest (frames asks ++ put)) stays front)))

pub reads_are_transcripts : ReadsAreTranscripts
reads_are_transcripts k p user file key known r asks o result m f told same talks legal alone
    answered =
    subst (λ (name : List ℕ). IsTranscript k p (Read name file) (key ∷ asks)) same
    (read_is_transcript k r file p legal key known
    (subst (λ (name : List ℕ). IsFirstAsk k p (Read name file) key) (sym same) f)
    (subst (λ (name : List ℕ). ReadsAs (Read name file) key.reply (answers.Known known))
    (sym same) told)
    asks (rest_is_transcript k r file p legal asks o result m talks alone answered))

pub reads_are_fronts : ReadsAreFronts
reads_are_fronts k p user file key known r asks o result m put f told same talks legal alone are =
    subst (λ (name : List ℕ). IsTranscriptFront k p (Read name file) (frames (key ∷ asks) ++ put))
    same
    (read_is_front k r file p legal key known
    (subst (λ (name : List ℕ). IsFirstAsk k p (Read name file) key) (sym same) f)
    (subst (λ (name : List ℕ). ReadsAs (Read name file) key.reply (answers.Known known))
    (sym same) told)
    asks put (rest_is_front k r file p legal asks o result m talks alone put are))
