-- A command has one transcript at a history.
use Rattle.std.proofs.Common.{◌≡◌, ◌∙◌, ℕ, List, [], ◌∷◌, ◌++◌, Result, Ok, Err, refl, sym, ap}
use Rattle.std.specs.Prelude.{IsSome}
use Rattle.std.proofs.Common.{subst}
use Rattle.ov_record.specs.Updates.{SealedUpdate}
use Rattle.ov_history.specs.Sealed.{catalogue_of}
use Rattle.ov_history.specs.Sealing.{sealed}
use Rattle.ov_history.proofs.Keeping.{kept_stands_for}
use Rattle.ov_model.specs.Step.{after}
use Rattle.ov_model.proofs.Legality.{legal-after}
use Rattle.ov_wire.specs.declared.request.Request.{Request}
use Rattle.ov_wire.specs.declared.answer.Answer.{Answer}
use Rattle.ov_wire.specs.AnswerBytes.{answer_bytes}
use Rattle.ov_wire.specs.RequestReading.{request_of}
use Rattle.ov_protocol.specs.Serving.{IsService, Service, Serving, later, served, serving_after}
use Rattle.ov_protocol.specs.Replies.{AnswersFrame, AnswersRead, Replies, made_of}
use Rattle.ov_protocol.proofs.GoingOn.{servers_go_on, services_are_served}
use Rattle.ov_protocol.proofs.OneAnswer.{one_answer}
use Rattle.ov_peer.specs.Asks.{Ask}
use Rattle.ov_transcript.specs.Laws.{RunsHaveOneTranscript, TranscriptsAreUnique}
use Rattle.ov_transcript.specs.Transcripts.{Begins, frames, left_unless, requests_of, says_refused}
use Rattle.ov_transcript.specs.Transcripts.{service_of}

-- ---- one reply

read_once : (s : Serving) (v : Service) (read : Result Request ℕ) (one other : Answer)
    → IsService s v → IsSome s.stored → AnswersRead s read one → AnswersRead s read other
    → one ≡ other
read_once s v (Ok request) one other is tells p q = one_answer s v request one other is tells p q
read_once s v (Err place) one other is tells p q = p ∙ sym q

module _ (s : Serving) (v : Service) (is : IsService s v) (tells : IsSome s.stored)
    (request reply again : List ℕ) (made more : List SealedUpdate)
    (p : Replies s request reply made) (q : Replies s request again more) where
  same_answer : p.answer ≡ q.answer
  same_answer =
      read_once s v (request_of request) p.answer q.answer is tells p.answers q.answers

  pub same_reply : reply ≡ again
  same_reply = p.spelled ∙ ap answer_bytes same_answer ∙ sym q.spelled

  pub same_made : made ≡ more
  same_made =
      p.makes ∙ ap (λ (a : Answer). made_of (request_of request) a) same_answer ∙ sym q.makes

-- what is served after a reply is a service again
serves_on : (v : Service) (request reply : List ℕ) (made : List SealedUpdate)
    → IsService (served v) v
    → Replies (served v) request reply made → IsService (served (later v made)) (later v made)
serves_on v request reply made is replies =
    let next : Serving = serving_after (served v) made in
    let frame : AnswersFrame (served v) next request reply =
    record { made = made; replies = replies; next = refl } in
    let goes : IsService next (later v made) =
    servers_go_on (served v) next v request reply frame is in
    subst (λ (s : Serving). IsService s (later v made))
    (services_are_served next (later v made) goes) goes

-- ---- one list of asks

once : (v : Service) (rs : List Request) (asks others : List Ask) → IsService (served v) v
    → Begins v rs asks [] → Begins v rs others [] → asks ≡ others
once v rs [] [] is one other = refl
once v [] [] (b ∷ others) is one other = absurd other
once v (r ∷ rs) [] (b ∷ others) is one other = absurd (cc one)
once v [] (a ∷ asks) others is one other = absurd one
once v (r ∷ rs) (a ∷ asks) [] is one other = absurd (cc other)
once v (r ∷ rs) (a ∷ asks) (b ∷ others) is (made, asked, replies, begins)
    (more, asked_too, replies_too, begins_too) =
    let requests : a.request ≡ b.request = asked ∙ sym asked_too in
    let same_frame : Replies (served v) a.request b.reply more =
    subst (λ (f : List ℕ). Replies (served v) f b.reply more) (sym requests) replies_too in
    let replied : a.reply ≡ b.reply =
    same_reply (served v) v is refl a.request a.reply b.reply made more replies same_frame in
    let makes : made ≡ more =
    same_made (served v) v is refl a.request a.reply b.reply made more replies same_frame in
    let first : a ≡ b = λ i. record { request = requests i; reply = replied i } in
    let rest : asks ≡ others =
    once (later v made) (left_unless (says_refused a.reply) rs) asks others
    (serves_on v a.request a.reply made is replies) begins
    (subst (λ (us : List SealedUpdate). Begins (later v us)
    (left_unless (says_refused a.reply) rs) others []) (sym makes)
    (subst (λ (f : List ℕ). Begins (later v more) (left_unless (says_refused f) rs) others [])
    (sym replied) begins_too)) in
    λ i. first i ∷ rest i

pub transcripts_are_unique : TranscriptsAreUnique
transcripts_are_unique k p command asks others legal one other =
    once (service_of k p) (requests_of k p command) asks others
    (record {
      stands = kept_stands_for k p (catalogue_of k.surface (sealed k p)) (legal, refl);
      keeps = refl;
      surface = refl;
      base_check = refl;
    })
    one other

pub runs_have_one_transcript : RunsHaveOneTranscript
runs_have_one_transcript k p [] one other legal is too = is ∙ sym too
runs_have_one_transcript k p (command ∷ commands) one other legal
    (first, more, (asks, begins, spelled), rest, is)
    (again, others, (asked, begins_too, spelled_too), rest_too, too) =
    let same : first ≡ again =
    spelled ∙ ap frames (transcripts_are_unique k p command asks asked legal begins begins_too)
    ∙ sym spelled_too in
    let later : more ≡ others =
    runs_have_one_transcript k (after p command) commands more others
    (legal-after p command legal).0 rest rest_too in
    is ∙ (λ i. same i ++ later i) ∙ sym too
