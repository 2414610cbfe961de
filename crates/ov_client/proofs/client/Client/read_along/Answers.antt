use Rattle.std.proofs.Common.{◌≡◌, ◌∙◌, [], List, ℕ, Ok, Err, Result, ap, subst, sym}
use Rattle.ov_client.specs.Readers.{FileKeys, judged, keys_along}
use Rattle.ov_client.specs.Reads.{ReadGoesOn, Reaches}
use Rattle.ov_client.specs.Talks.{Ends, goes_on}
use Rattle.ov_client.specs.Tries.{after_gathered}
use Rattle.ov_client.specs.declared.fault.ClientFault.{ClientFault}
use Rattle.ov_client.specs.declared.telling.Fetched.{Fetched}
use Rattle.ov_client.proofs.Talking.{ended}
use Rattle.ov_client.proofs.client.Client.read_along.Goals as goal

pub returns-in-Ok-clause-talk : goal.returns-in-Ok-clause-talk
returns-in-Ok-clause-talk g c = λ file tries.
    let r = c.args.self.now in
    let d = c.args.chained.now in
    let plain = c.in-Ok-Bytes.plain in
    let on = subst (λ (f : Fetched). ReadGoesOn g.P.Peer.tells c.args.peer.now
    c.gather.new.peer r file
    (goes_on r tries d []) (after_gathered r tries d) (Ok f)) c.in-Ok-Bytes.field-0-is
    (c.in-Ok-Bytes.ensures.talk r file tries c.along-keys.ensures) in
    let judge : judged (keys_along r d) d plain ≡ Ok c.in-Ok.bytes =
    ap (λ (k : FileKeys). judged k d plain) (sym c.along-keys.ensures) ∙ sym c.in-Ok.ensures in
    subst (λ (x : Result (List ℕ) ClientFault). Reaches g.P.Peer.tells c.args.peer.now
    c.gather.new.peer r file
    (goes_on r tries d []) (Ends x)) judge on

pub returns-in-Err-judge-clause-talk : goal.returns-in-Err-judge-clause-talk
returns-in-Err-judge-clause-talk g c = λ file tries.
    let r = c.args.self.now in
    let d = c.args.chained.now in
    let plain = c.in-Ok-Bytes.plain in
    let on = subst (λ (f : Fetched). ReadGoesOn g.P.Peer.tells c.args.peer.now
    c.gather.new.peer r file
    (goes_on r tries d []) (after_gathered r tries d) (Ok f)) c.in-Ok-Bytes.field-0-is
    (c.in-Ok-Bytes.ensures.talk r file tries c.along-keys.ensures) in
    let judge : judged (keys_along r d) d plain ≡ Err c.in-Err-judge.fault =
    ap (λ (k : FileKeys). judged k d plain) (sym c.along-keys.ensures)
    ∙ sym c.in-Err-judge.ensures in
    ended g.P.Peer.tells r file c.args.peer.now c.gather.new.peer
    (goes_on r tries d [])
    (Err c.in-Err-judge.fault)
    (subst (λ (x : Result (List ℕ) ClientFault). Reaches g.P.Peer.tells c.args.peer.now
    c.gather.new.peer r file
    (goes_on r tries d []) (Ends x)) judge on)

pub returns-in-Ok-Again-clause-talk : goal.returns-in-Ok-Again-clause-talk
returns-in-Ok-Again-clause-talk g c = λ file tries.
    let r = c.args.self.now in
    let d = c.args.chained.now in
    subst (λ (f : Fetched). ReadGoesOn g.P.Peer.tells c.args.peer.now c.gather.new.peer
    r file
    (goes_on r tries d []) (after_gathered r tries d) (Ok f)) c.in-Ok-Again.field-0-is
    (c.in-Ok-Again.ensures.talk r file tries c.along-keys.ensures)
