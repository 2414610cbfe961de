use Rattle.std.proofs.Common.{◌≡◌, ◌∙◌, ◌<◌, [], List, ℕ, Ok, Err, ap, arith, length, subst, sym, take}
use Rattle.std.proofs.lemmas.List.{length-set, length-take-le, take_all, take_more_set}
use Rattle.ov_client.specs.Reads.{ReadGoesOn, Reaches}
use Rattle.ov_client.specs.Talks.{AsksChain, again}
use Rattle.ov_client.specs.Tries.{after_tried}
use Rattle.ov_client.specs.declared.fault.ClientFault.TheVariants as client
use Rattle.ov_client.specs.declared.reading.TheConstants.{TRIES}
use Rattle.ov_client.specs.declared.reading.Tried.{Tried}
use Rattle.ov_client.specs.declared.reading.Tried.TheVariants as tries
use Rattle.ov_client.proofs.Alone.{read_complete, rose_since}
use Rattle.ov_client.proofs.Gathering.{no_more_tries, tried_on}
use Rattle.ov_client.proofs.Talking.{ended}
use Rattle.ov_client.proofs.Told.{read_told}
use Rattle.ov_client.proofs.client.Client.fetch.Goals as goal

pub returns-in-Ok-Read-clause-talk : goal.returns-in-Ok-Read-clause-talk
returns-in-Ok-Read-clause-talk g c =
    let r = c.args.self.now in
    let file = c.args.file.now in
    let before = take c.loop-n.n c.loop-n.generations in
    let low : length before < TRIES =
    omega (
      arith,
      c.loop-n-test.true,
      c.loop-n.invariant.many,
      length-take-le c.loop-n.n
          c.loop-n.generations,
    ) in
    ended g.P.Peer.tells r file c.args.peer.now c.try_once.new.peer (AsksChain [] 0)
    (Ok c.in-Ok-Read.bytes)
    (tried_on g.P.Peer.tells r file c.args.peer.now c.loop-n.peer
    c.try_once.new.peer before c.loop-n.least
    (Ok (tries.Read c.in-Ok-Read.bytes)) low c.loop-n.invariant.reaches
    (subst (λ (t : Tried). ReadGoesOn g.P.Peer.tells c.loop-n.peer c.try_once.new.peer r
    file
    (AsksChain before c.loop-n.least) (after_tried before) (Ok t)) c.in-Ok-Read.field-0-is
    (c.in-Ok-Read.ensures.talk before)))

pub returns-in-Err-clause-talk : goal.returns-in-Err-clause-talk
returns-in-Err-clause-talk g c =
    let r = c.args.self.now in
    let file = c.args.file.now in
    let before = take c.loop-n.n c.loop-n.generations in
    let low : length before < TRIES =
    omega (
      arith,
      c.loop-n-test.true,
      c.loop-n.invariant.many,
      length-take-le c.loop-n.n
          c.loop-n.generations,
    ) in
    tried_on g.P.Peer.tells r file c.args.peer.now c.loop-n.peer c.try_once.new.peer
    before c.loop-n.least
    (Err c.in-Err.fault) low c.loop-n.invariant.reaches (c.in-Err.ensures.talk before)

pub returns-in-Ok-Read-clause-told : goal.returns-in-Ok-Read-clause-told
returns-in-Ok-Read-clause-told g c = λ v is.
    read_told g.P.Peer.tells c.args.peer.now c.try_once.new.peer c.args.self.now c.args.file.now
    (Ok c.in-Ok-Read.bytes) v (returns-in-Ok-Read-clause-talk g c) is

pub returns-in-Err-clause-told : goal.returns-in-Err-clause-told
returns-in-Err-clause-told g c = λ v is.
    read_told g.P.Peer.tells c.args.peer.now c.try_once.new.peer c.args.self.now c.args.file.now
    (Err c.in-Err.fault) v (returns-in-Err-clause-talk g c) is

pub returns-in-Ok-Read-clause-complete : goal.returns-in-Ok-Read-clause-complete
returns-in-Ok-Read-clause-complete g c =
    read_complete g.P.Peer.tells c.args.peer.now c.try_once.new.peer c.args.self.now
    c.args.file.now (Ok c.in-Ok-Read.bytes) (returns-in-Ok-Read-clause-talk g c)
    (λ link. absurd (cc link))

pub returns-in-Err-clause-complete : goal.returns-in-Err-clause-complete
returns-in-Err-clause-complete g c =
    let tells = g.P.Peer.tells in
    read_complete tells c.args.peer.now c.try_once.new.peer c.args.self.now c.args.file.now
    (Err c.in-Err.fault) (returns-in-Err-clause-talk g c)
    (λ link.
    rose_since Tried (tells.faults c.args.peer.now) (tells.faults c.loop-n.peer)
    (tells.faults c.try_once.new.peer) c.in-Err.fault c.loop-n.invariant.later
    c.in-Err.ensures.cause.failed (cc link))

pub returns-clause-complete : goal.returns-clause-complete
returns-clause-complete g c =
    let tells = g.P.Peer.tells in
    let r = c.args.self.now in
    let file = c.args.file.now in
    let all = c.loop-n.generations in
    let last : c.loop-n.n ≡ TRIES = omega arith in
    let whole : take c.loop-n.n all ≡ all =
    take_all c.loop-n.n all (omega (arith, last, c.loop-n.invariant.many)) in
    read_complete tells c.args.peer.now c.loop-n.peer r file (Err (client.Unsettled all))
    (ended tells r file c.args.peer.now c.loop-n.peer (AsksChain [] 0)
    (Err (client.Unsettled all))
    (subst (Reaches tells c.args.peer.now c.loop-n.peer r file (AsksChain [] 0))
    (ap (λ (moved : List ℕ). again moved c.loop-n.least) whole
    ∙ no_more_tries all c.loop-n.least c.loop-n.invariant.many)
    c.loop-n.invariant.reaches))
    (λ link. absurd (cc link))

pub loop-n-preserved : goal.loop-n-preserved
loop-n-preserved g c =
    let r = c.args.self.now in
    let file = c.args.file.now in
    let all = c.loop-n.generations in
    let before = take c.loop-n.n all in
    let generation = c.in-Ok-Again.generation in
    let there : c.loop-n.n < length all = omega
    (arith, c.loop-n-test.true, c.loop-n.invariant.many) in
    let low : length before < TRIES =
    omega (arith, c.loop-n-test.true, c.loop-n.invariant.many, length-take-le c.loop-n.n all) in
    let on = tried_on g.P.Peer.tells r file c.args.peer.now c.loop-n.peer
    c.try_once.new.peer before c.loop-n.least
    (Ok (tries.Again generation c.in-Ok-Again.next)) low c.loop-n.invariant.reaches
    (subst (λ (t : Tried). ReadGoesOn g.P.Peer.tells c.loop-n.peer c.try_once.new.peer r
    file
    (AsksChain before c.loop-n.least) (after_tried before) (Ok t)) c.in-Ok-Again.field-0-is
    (c.in-Ok-Again.ensures.talk before)) in record {
      reaches = subst (λ (told : List ℕ). Reaches g.P.Peer.tells c.args.peer.now c.try_once.new.peer
          r file (AsksChain [] 0)
          (again told c.in-Ok-Again.next)) (sym (take_more_set all c.loop-n.n generation there)) on;
      many = length-set all c.loop-n.n generation ∙ c.loop-n.invariant.many;
      same = c.try_once.ensures.same ∙ c.loop-n.invariant.same;
      later = omega (arith, c.try_once.ensures.cause.later, c.loop-n.invariant.later);
    }
