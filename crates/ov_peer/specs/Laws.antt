-- The laws of asks of a peer that tells its history.
use Rattle.std.specs.Prelude.{List, Ok}
use Rattle.ov_history.specs.Sealed.{SealedHistory}
use Rattle.ov_wire.specs.declared.request.Request.{Request}
use Rattle.ov_wire.specs.declared.answer.Answer.{Answer}
use Rattle.ov_wire.specs.Requests.{HasRequestForm}
use Rattle.ov_protocol.specs.Serving.{Service}
use Rattle.ov_peer.specs.Asks.{Along, Ask, Leads}
use Rattle.ov_peer.specs.Exchanges.{Answered, Tells}
use Rattle.ov_peer.specs.Tells.{PeerTells}

-- what is read of a told peer's reply is an answer at a history that goes on from what it served
abbrev pub ExchangesAreTold : {P : Type 0} → PeerTells P → Type 0
ExchangesAreTold {P} peer =
    (p q : P) (request : Request) (answer : Answer) (v : Service)
    → HasRequestForm request → Answered peer p q request (Ok answer) → peer.serves p v
    → Tells v request answer (peer.serves q)

-- a list of asks of a told peer was answered along histories that go on from what it served
abbrev pub AsksAreAlong : {P : Type 0} → PeerTells P → Type 0
AsksAreAlong {P} peer =
    (p q : P) (asks : List Ask) (v : Service)
    → Leads peer p asks q → peer.serves p v
    → (histories : List SealedHistory) × (last : Service)
    × Along v asks histories last × peer.serves q last
