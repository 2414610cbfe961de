-- Hello, asked of a server that nobody else updates.
use Rattle.std.proofs.Common.{◌≡◌, ◌∙◌, ℕ, List, [], Result, Ok, Err, sym}
use Rattle.std.proofs.Common.{ap, subst, inl, inr, arith}
use Rattle.std.specs.Prelude.{◌⊎◌}
use Rattle.ov_base.specs.declared.mode.Mode.{Mode}
use Rattle.ov_record.specs.Updates.{SealedUpdate}
use Rattle.ov_history.specs.Sealed.{catalogue_of}
use Rattle.ov_wire.specs.AnswerReading.{answer_of}
use Rattle.ov_wire.specs.RequestReading.{request_of}
use Rattle.ov_wire.specs.Requests.{HasRequestForm, request_bytes}
use Rattle.ov_wire.specs.declared.answer.Answer.{Answer}
use Rattle.ov_wire.specs.declared.answer.Answer.TheVariants as answers
use Rattle.ov_wire.specs.declared.answer.Welcome.{Welcome}
use Rattle.ov_wire.specs.declared.request.Request.{Request}
use Rattle.ov_wire.specs.declared.request.Request.TheVariants as requests
use Rattle.ov_protocol.specs.Answers.{Answers, welcome_of}
use Rattle.ov_protocol.specs.Replies.{AnswersRead, MayMake, updates_asked}
use Rattle.ov_protocol.specs.Serving.{Service, served}
use Rattle.ov_protocol.proofs.Reading.{request_back}
use Rattle.ov_peer.specs.Alone.{IsAlone}
use Rattle.ov_peer.specs.Exchanges.{Answered, Exchanges}
use Rattle.ov_peer.specs.Leaving.{reply_makes}
use Rattle.ov_peer.specs.Tells.{IsReplyAt, PeerTells}
use Rattle.ov_peer.specs.declared.fault.ExchangeFault.{ExchangeFault}
use Rattle.ov_peer.specs.declared.fault.ExchangeFault.TheVariants as exchange
use Rattle.ov_peer.proofs.Needing.{needs_disk}
use Rattle.ov_client.proofs.Alone.{same_left}
use Rattle.ov_owner.specs.Alone.{IsLeftAlone}
use Rattle.ov_owner.proofs.Alone.{hello_plain}
use Rattle.ov_owner.proofs.Fitting.{reads_back}
use Rattle.ov_owning.specs.Endings.{End, Greeted, IsOurs}
use Rattle.ov_owning.specs.declared.stop.OwnStop.TheVariants as stops

hello_form : HasRequestForm requests.Hello
hello_form = record { is_request = tt; fits = omega arith }

hello_back : request_of (request_bytes requests.Hello) ≡ Ok requests.Hello
hello_back = request_back requests.Hello hello_form

-- it makes nothing
hello_makes : (made : List SealedUpdate) → MayMake (request_bytes requests.Hello) made → made ≡ []
hello_makes made (inl none) = none
hello_makes made (inr some) = some ∙ ap updates_asked hello_back

-- what is replied is read as the welcome of what is served
hello_said : (v : Service) (reply : List ℕ) (made : List SealedUpdate)
    → IsReplyAt v (request_bytes requests.Hello) reply made
    → answer_of requests.Hello reply ≡ Ok (answers.Welcome (welcome_of (served v)))
hello_said v reply made (inr failed) =
    absurd (needs_disk (served v) requests.Hello hello_form failed.needs)
hello_said v reply made (inl replies) =
    let a = replies.answer in
    let at_v : Answers (served v) requests.Hello a =
    subst (λ (r : Result Request ℕ). AnswersRead (served v) r a) hello_back replies.answers in
    reads_back requests.Hello a reply
    ((hello_plain hello_form).fits (served v) a at_v replies.form) replies.form replies.spelled
    ∙ ap (λ (x : Answer). Ok x) at_v

ours_greeted : (check : List ℕ) (mode : Mode) (w : Welcome) (g : End) → IsOurs check mode w
    → Greeted check mode (Ok (answers.Welcome w)) g → g ≡ Ok w.epoch
ours_greeted check mode w g ours (inl (also, is)) = is
ours_greeted check mode w g ours (inr (other, is)) = absurd (other ours)

epoch_greeted : (check : List ℕ) (mode : Mode) (w : Welcome) (n : ℕ)
    → Greeted check mode (Ok (answers.Welcome w)) (Ok n) → n ≡ w.epoch
epoch_greeted check mode w n (inl (also, is)) = cc is
epoch_greeted check mode w n (inr (other, is)) = absurd (cc is)

-- the link failed, or memory was refused
abbrev pub IsCut : End → Type 0
IsCut g = (g ≡ Err stops.Link) ⊎ (g ≡ Err stops.Memory)

module _ {P : Type 0} (peer : PeerTells P) (alone : IsAlone peer) where
  -- a Hello that was answered leaves what is served
  pub hello_asked : (p q : P) (reply : List ℕ) (v : Service)
      → peer.asked p (request_bytes requests.Hello) reply q → peer.serves p v → peer.serves q v
  hello_asked p q reply v asked serving =
      let (made, at_v, goes_on) =
      alone p q (request_bytes requests.Hello) reply v asked serving in
      subst (λ (w : Service). peer.serves q w)
      (same_left v made
      (hello_makes made
      (reply_makes v (request_bytes requests.Hello) reply made at_v)))
      goes_on

  -- and so does one that failed
  hello_failed : IsLeftAlone peer → (p q : P) (v : Service)
      → peer.failed p (request_bytes requests.Hello) q → peer.serves p v → peer.serves q v
  hello_failed left p q v failed serving =
      let (made, may, goes_on) = left p q (request_bytes requests.Hello) v failed serving in
      subst (λ (w : Service). peer.serves q w) (same_left v made (hello_makes made may)) goes_on

  -- whatever came of it, it leaves what is served
  pub hello_left : IsLeftAlone peer → (p q : P) (answer : Result Answer ExchangeFault)
      (v : Service) → Exchanges peer p q requests.Hello answer → peer.serves p v → peer.serves q v
  hello_left left p q (Ok a) v asks serving = hello_asked p q asks.reply v asks.sent serving
  hello_left left p q (Err (exchange.BadReply place)) v asks serving =
      hello_asked p q asks.reply v asks.sent serving
  hello_left left p q (Err exchange.Link) v failed serving = hello_failed left p q v failed serving
  hello_left left p q (Err exchange.Memory) v (inl same) serving =
      subst (λ (x : P). peer.serves x v) (sym same) serving
  hello_left left p q (Err exchange.Memory) v (inr (inl failed)) serving =
      hello_failed left p q v failed serving
  hello_left left p q (Err exchange.Memory) v (inr (inr (reply, asked))) serving =
      hello_asked p q reply v asked serving

  hello_read : (p q : P) (v : Service) (read : Result Answer ℕ)
      → Answered peer p q requests.Hello read → peer.serves p v
      → read ≡ Ok (answers.Welcome (welcome_of (served v)))
  hello_read p q v read answered serving =
      let (made, at_v, goes_on) =
      alone p q (request_bytes requests.Hello) answered.reply v answered.sent serving in
      sym answered.reads ∙ hello_said v answered.reply made at_v

  hello_is : (p q : P) (v : Service) (a : Answer)
      → Answered peer p q requests.Hello (Ok a) → peer.serves p v
      → a ≡ answers.Welcome (welcome_of (served v))
  hello_is p q v a answered serving =
      let same : Ok a ≡ Ok (answers.Welcome (welcome_of (served v))) =
      hello_read p q v (Ok a) answered serving in
      cc same

  -- where it is a store of this check value and mode, its epoch is told; or the ask was cut off
  pub greeted_alone : (check : List ℕ) (mode : Mode) (p q : P)
      (answer : Result Answer ExchangeFault) (g : End) (v : Service)
      → Exchanges peer p q requests.Hello answer → peer.serves p v
      → IsOurs check mode (welcome_of (served v)) → Greeted check mode answer g
      → (g ≡ Ok (catalogue_of v.surface v.history).epoch) ⊎ IsCut g
  greeted_alone check mode p q (Ok a) g v asks serving ours greeted =
      inl (ours_greeted check mode (welcome_of (served v)) g ours
      (subst (λ (x : Answer). Greeted check mode (Ok x) g) (hello_is p q v a asks serving) greeted))
  greeted_alone check mode p q (Err (exchange.BadReply place)) g v asks serving ours greeted =
      let none : Err place ≡ Ok (answers.Welcome (welcome_of (served v))) =
      hello_read p q v (Err place) asks serving in
      absurd (cc none)
  greeted_alone check mode p q (Err exchange.Link) g v asks serving ours greeted =
      inr (inl greeted)
  greeted_alone check mode p q (Err exchange.Memory) g v asks serving ours greeted =
      inr (inr greeted)

  -- an epoch that is told is that of what is served
  pub greeted_epoch : (check : List ℕ) (mode : Mode) (p q : P)
      (answer : Result Answer ExchangeFault) (n : ℕ) (v : Service)
      → Exchanges peer p q requests.Hello answer → peer.serves p v
      → Greeted check mode answer (Ok n) → n ≡ (catalogue_of v.surface v.history).epoch
  greeted_epoch check mode p q (Ok a) n v asks serving greeted =
      epoch_greeted check mode (welcome_of (served v)) n
      (subst (λ (x : Answer). Greeted check mode (Ok x) (Ok n)) (hello_is p q v a asks serving)
      greeted)
  greeted_epoch check mode p q (Err (exchange.BadReply place)) n v asks serving greeted =
      absurd (cc greeted)
  greeted_epoch check mode p q (Err exchange.Link) n v asks serving greeted = absurd (cc greeted)
  greeted_epoch check mode p q (Err exchange.Memory) n v asks serving greeted =
      absurd (cc greeted)
