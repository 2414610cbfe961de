-- What a caller learns of a told peer's epoch.
use Rattle.std.proofs.Common.{◌≡◌, ◌∙◌, ℕ, List, [], Result, Ok, Err, ap, subst, inl, inr}
use Rattle.std.specs.Prelude.{IfOk}
use Rattle.ov_record.specs.Updates.{SealedUpdate}
use Rattle.ov_history.specs.Sealed.{catalogue_of}
use Rattle.ov_wire.specs.declared.request.Request.TheVariants.{Hello}
use Rattle.ov_wire.specs.declared.answer.Answer.{Answer}
use Rattle.ov_wire.specs.declared.answer.Answer.TheVariants as answers
use Rattle.ov_wire.specs.declared.answer.Welcome.{Welcome}
use Rattle.ov_protocol.specs.Serving.{Service, followed, later, served}
use Rattle.ov_protocol.specs.Answers.{welcome_of}
use Rattle.ov_protocol.proofs.Leaving.{later-nil}
use Rattle.ov_peer.specs.Exchanges.{IsAnswerAt, Tells}
use Rattle.ov_peer.specs.Tells.{PeerTells}
use Rattle.ov_peer.specs.declared.fault.ExchangeFault.{ExchangeFault}

welcome_at : (v : Service) (w : Welcome) (made : List SealedUpdate)
    → IsAnswerAt v Hello (answers.Welcome w) made
    → (w.epoch ≡ (catalogue_of v.surface v.history).epoch) × (made ≡ [])
welcome_at v w made (inl (is, makes)) =
    let same : w ≡ welcome_of (served v) = cc in (ap (λ (x : Welcome). x.epoch) same, makes)
welcome_at v w made (inr (is, makes, needs)) = absurd (cc)

pub epoch_told : {P : Type 0} (peer : PeerTells P) (q : P) (v : Service)
    (answer : Answer) (w : Welcome)
    → Tells v Hello answer (peer.serves q) → answer ≡ answers.Welcome w
    → (others : List SealedUpdate) × peer.serves q (later v others)
    × (w.epoch ≡ (catalogue_of v.surface (followed v.history others)).epoch)
epoch_told peer q v answer w (others, made, at_it, then) is =
    let here = welcome_at (later v others) w made
    (subst (λ (a : Answer). IsAnswerAt (later v others) Hello a made) is at_it) in
    let none : later (later v others) made ≡ later v others =
    ap (λ (us : List SealedUpdate). later (later v others) us) here.1
    ∙ later-nil (later v others) in
    (others, subst (peer.serves q) none then, here.0)

-- what a caller makes of a told Welcome: the epoch at a history that goes on from the one that was
-- served
pub told_by : {P : Type 0} (peer : PeerTells P) (q : P) (v : Service) (answer : Answer)
    (result : Result ℕ ExchangeFault)
    → Tells v Hello answer (peer.serves q)
    → IfOk result (λ epoch. (w : Welcome) × (answer ≡ answers.Welcome w) × (epoch ≡ w.epoch))
    → IfOk result (λ epoch. (others : List SealedUpdate) × peer.serves q (later v others)
    × (epoch ≡ (catalogue_of v.surface (followed v.history others)).epoch))
told_by peer q v answer (Ok epoch) tells (w, is, same) =
    let (others, then, here) = epoch_told peer q v answer w tells is in
    (others, then, same ∙ here)
told_by peer q v answer (Err fault) tells none = tt
