-- An owner's call is the transcript of its command, or a front of it.
use Rattle.std.proofs.Common.{◌≡◌, ℕ, List, [], ◌∷◌, ◌++◌, Option, Some, None, Result, Ok, Err}
use Rattle.std.proofs.Common.{refl, sym, subst, inl, inr}
use Rattle.ov_base.specs.declared.refusal.Refusal.{Refusal}
use Rattle.ov_script.specs.declared.command.Command.{Command}
use Rattle.ov_script.specs.declared.command.Command.TheVariants as commands
use Rattle.ov_history.specs.Masters.{Masters}
use Rattle.ov_history.specs.Plain.{PlainHistory, history_of}
use Rattle.ov_history.specs.Refusals.{IsLegal}
use Rattle.ov_wire.specs.declared.request.Request.{Request}
use Rattle.ov_wire.specs.declared.answer.Answer.TheVariants as answers
use Rattle.ov_wire.specs.Requests.{request_bytes}
use Rattle.ov_protocol.specs.Serving.{Service}
use Rattle.ov_peer.specs.Asks.{Ask}
use Rattle.ov_peer.specs.Disks.{MayNeedDisk}
use Rattle.ov_owner.specs.Alone.{AnsweredAlone}
use Rattle.ov_owner.specs.Errands.{Errand, creating, enrolling, granting, removing, replacing}
use Rattle.ov_owner.specs.Errands.{revoking}
use Rattle.ov_owner.specs.Talks.{Closes, Ends, Goes, Moves, Stage, Talks, start}
use Rattle.ov_owner.specs.declared.fault.OwnerFault.{OwnerFault}
use Rattle.ov_owner.specs.declared.fault.OwnerFault.TheVariants as faults
use Rattle.ov_owner.proofs.Doing.{Does, create_does, enrol_does, grant_does, remove_does}
use Rattle.ov_owner.proofs.Doing.{replace_does, revoke_does}
use Rattle.ov_transcript.specs.Laws.{TalksAreFronts, TalksAreTranscripts}
use Rattle.ov_transcript.specs.Talking.{ArePut, IsAnswered, IsPut}
use Rattle.ov_transcript.specs.Transcripts.{Begins, IsFrontFrom, frames, service_of}
use Rattle.ov_transcript.proofs.Engines.{GoesBy, IsNext, fronts, whole}
use Rattle.ov_transcript.proofs.Fronts.{front_nothing, front_put}
use Rattle.ov_transcript.proofs.Owners.{Cut, Due, cut_due, is_due, nothing_more, steps, update_here}

goes_by : (surface : List ℕ) (e : Errand) (stage final : Stage) (asks : List Ask)
    → Goes surface e stage asks final → GoesBy (Moves surface e) stage asks final
goes_by surface e stage final [] same = same
goes_by surface e stage final (a ∷ asks) (next, moves, goes) =
    (next, moves, goes_by surface e next final asks goes)

-- a call that was answered came to its end
ended : (surface : List ℕ) (e : Errand) (stage : Stage) (o : Option (List ℕ))
    (result : Result ℕ OwnerFault)
    → Closes surface e stage o result → IsAnswered result → stage ≡ Ends result
ended surface e stage None result (inl is) answered = is
ended surface e stage None result (inr memory) answered = absurd (subst IsAnswered memory answered)
ended surface e stage (Some frame) result (due, inl link) answered =
    absurd (subst IsAnswered link answered)
ended surface e stage (Some frame) result (due, inr memory) answered =
    absurd (subst IsAnswered memory answered)

module _ (k : Masters) (command : Command) (e : Errand) (d : Does k command e) (p : PlainHistory)
    (legal : IsLegal (history_of p))
    (refuses : (why : Refusal) → e.sealed (answers.Refused why) ≡ Err (faults.Refused why))
    (no_disk : MayNeedDisk e.first → ⊥) where
  abbrev IsDueAt : Stage → Service → List Request → Type 0
  IsDueAt stage v rs = Due k command e d p legal refuses no_disk stage v rs

  abbrev all : List Request
  all = e.first ∷ update_here k command e d p legal refuses no_disk ∷ []

  nothing_left : (result : Result ℕ OwnerFault) (v : Service) (rs : List Request)
      → IsAnswered result
      → IsDueAt (Ends result) v rs → rs ≡ []
  nothing_left (Ok n) v rs answered due = due
  nothing_left (Err (faults.Refused why)) v rs answered due = due
  nothing_left (Err fault) v rs answered due = absurd answered

  uncut : (result : Result ℕ OwnerFault) → IsAnswered result → Cut (Ends result) → ⊥
  uncut (Ok n) answered cut = cut
  uncut (Err (faults.Refused why)) answered cut = cut
  uncut (Err fault) answered cut = answered

  pub talk_is_transcript : (asks : List Ask) (o : Option (List ℕ)) (result : Result ℕ OwnerFault)
      (m : Service)
      → Talks k.surface e asks o result → AnsweredAlone (service_of k p) asks m → IsAnswered result
      → Begins (service_of k p) all asks []
  talk_is_transcript asks o result m (final, goes, closes) alone answered =
      let is = ended k.surface e final o result closes answered in
      whole (Moves k.surface e) IsDueAt Cut (steps k command e d p legal refuses no_disk)
      (nothing_more k command e d p legal refuses no_disk) final m
      (λ v rs due. nothing_left result v rs answered (subst (λ (s : Stage). IsDueAt s v rs) is due))
      (λ cut. uncut result answered (subst Cut is cut))
      start (service_of k p) all asks (refl, refl, refl)
      (goes_by k.surface e start final asks goes) alone

  -- what was put of the last ask, which failed
  last_put : (stage : Stage) (o : Option (List ℕ)) (result : Result ℕ OwnerFault) (m v : Service)
      (rs : List Request) (put : List ℕ)
      → Closes k.surface e stage o result → ArePut m o put → v ≡ m → IsDueAt stage v rs
      → IsFrontFrom v rs put
  last_put stage None result m v rs put closes are same due =
      subst (IsFrontFrom v rs) (sym are) (front_nothing v rs)
  last_put stage (Some frame) result m v rs put (asks, why) are same due =
      let next : IsNext rs frame = is_due k command e d p legal refuses no_disk stage v rs frame due
      asks in
      let there : IsPut v (request_bytes next.request) put =
      subst (λ (f : List ℕ). IsPut v f put) next.asked
      (subst (λ (w : Service). IsPut w frame put) (sym same) are) in
      subst (λ (l : List Request). IsFrontFrom v l put) (sym next.is_next)
      (front_put v next.request next.more put next.form there)

  none_put : (stage : Stage) (o : Option (List ℕ)) (result : Result ℕ OwnerFault) (m : Service)
      (put : List ℕ)
      → Closes k.surface e stage o result → ArePut m o put → Cut stage → put ≡ []
  none_put stage None result m put closes are cut = are
  none_put stage (Some frame) result m put (asks, why) are cut =
      absurd (cut_due k command e d p legal refuses no_disk stage frame cut asks)

  pub talk_is_front : (asks : List Ask) (o : Option (List ℕ)) (result : Result ℕ OwnerFault)
      (m : Service)
      (put : List ℕ)
      → Talks k.surface e asks o result → AnsweredAlone (service_of k p) asks m → ArePut m o put
      → IsFrontFrom (service_of k p) all (frames asks ++ put)
  talk_is_front asks o result m put (final, goes, closes) alone are =
      fronts (Moves k.surface e) IsDueAt Cut (steps k command e d p legal refuses no_disk)
      (nothing_more k command e d p legal refuses no_disk) final m o put are
      (λ v rs same due. last_put final o result m v rs put closes are same due)
      (λ cut. none_put final o result m put closes are cut)
      start (service_of k p) all asks (refl, refl, refl)
      (goes_by k.surface e start final asks goes) alone

-- ---- by the commands

pub talks_are_transcripts : TalksAreTranscripts
talks_are_transcripts k p (commands.Enrol user) e asks o result m is talks legal alone answered =
    talk_is_transcript k (commands.Enrol user) (enrolling user) (enrol_does k user) p legal
    (λ why. refl) (λ disk. disk)
    asks o result m (subst (λ (x : Errand). Talks k.surface x asks o result) is talks) alone
    answered
talks_are_transcripts k p (commands.Create file names bytes) e asks o result m is talks legal alone
    answered =
    talk_is_transcript k (commands.Create file names bytes) (creating k.base file names bytes)
    (create_does k file names bytes)
    p legal (λ why. refl) (λ disk. disk)
    asks o result m (subst (λ (x : Errand). Talks k.surface x asks o result) is talks) alone
    answered
talks_are_transcripts k p (commands.Grant user file) e asks o result m is talks legal alone
    answered =
    talk_is_transcript k (commands.Grant user file) (granting k.base user file)
    (grant_does k user file)
    p legal (λ why. refl) (λ disk. disk)
    asks o result m (subst (λ (x : Errand). Talks k.surface x asks o result) is talks) alone
    answered
talks_are_transcripts k p (commands.Revoke user file) e asks o result m is talks legal alone
    answered =
    talk_is_transcript k (commands.Revoke user file) (revoking user file) (revoke_does k user file)
    p legal (λ why. refl) (λ disk. disk)
    asks o result m (subst (λ (x : Errand). Talks k.surface x asks o result) is talks) alone
    answered
talks_are_transcripts k p (commands.Remove file) e asks o result m is talks legal alone answered =
    talk_is_transcript k (commands.Remove file) (removing file) (remove_does k file)
    p legal (λ why. refl) (λ disk. disk)
    asks o result m (subst (λ (x : Errand). Talks k.surface x asks o result) is talks) alone
    answered
talks_are_transcripts k p (commands.Replace file bytes) e asks o result m is talks legal alone
    answered =
    talk_is_transcript k (commands.Replace file bytes) (replacing k.base file bytes)
    (replace_does k file bytes)
    p legal (λ why. refl) (λ disk. disk)
    asks o result m (subst (λ (x : Errand). Talks k.surface x asks o result) is talks) alone
    answered
talks_are_transcripts k p command e asks o result m is talks legal alone answered = absurd is

pub talks_are_fronts : TalksAreFronts
talks_are_fronts k p (commands.Enrol user) e asks o result m put is talks legal alone are =
    talk_is_front k (commands.Enrol user) (enrolling user) (enrol_does k user) p legal (λ why. refl)
    (λ disk. disk)
    asks o result m put (subst (λ (x : Errand). Talks k.surface x asks o result) is talks) alone are
talks_are_fronts k p (commands.Create file names bytes) e asks o result m put is talks legal alone
    are =
    talk_is_front k (commands.Create file names bytes) (creating k.base file names bytes)
    (create_does k file names bytes)
    p legal (λ why. refl) (λ disk. disk)
    asks o result m put (subst (λ (x : Errand). Talks k.surface x asks o result) is talks) alone are
talks_are_fronts k p (commands.Grant user file) e asks o result m put is talks legal alone are =
    talk_is_front k (commands.Grant user file) (granting k.base user file) (grant_does k user file)
    p legal (λ why. refl) (λ disk. disk)
    asks o result m put (subst (λ (x : Errand). Talks k.surface x asks o result) is talks) alone are
talks_are_fronts k p (commands.Revoke user file) e asks o result m put is talks legal alone are =
    talk_is_front k (commands.Revoke user file) (revoking user file) (revoke_does k user file)
    p legal (λ why. refl) (λ disk. disk)
    asks o result m put (subst (λ (x : Errand). Talks k.surface x asks o result) is talks) alone are
talks_are_fronts k p (commands.Remove file) e asks o result m put is talks legal alone are =
    talk_is_front k (commands.Remove file) (removing file) (remove_does k file)
    p legal (λ why. refl) (λ disk. disk)
    asks o result m put (subst (λ (x : Errand). Talks k.surface x asks o result) is talks) alone are
talks_are_fronts k p (commands.Replace file bytes) e asks o result m put is talks legal alone are =
    talk_is_front k (commands.Replace file bytes) (replacing k.base file bytes)
    (replace_does k file bytes)
    p legal (λ why. refl) (λ disk. disk)
    asks o result m put (subst (λ (x : Errand). Talks k.surface x asks o result) is talks) alone are
talks_are_fronts k p command e asks o result m put is talks legal alone are = absurd is
