use Rattle.std.proofs.Common.{◌≡◌, ◌∙◌, ap, refl, subst, sym, Ok, Err, Some, length, Result}
use Rattle.ov_base.specs.declared.limits.TheConstants.{MAX_CHUNK_BYTES}
use Rattle.ov_wire.specs.declared.request.Request.TheVariants as requests
use Rattle.ov_client.specs.Reads.{Reaches, ReadsFrom}
use Rattle.ov_client.specs.Talks.{AsksChunk, after_fetched, then_or}
use Rattle.ov_client.specs.Telling.{chunk_bytes, fetched_in}
use Rattle.ov_client.specs.declared.fault.ClientFault.{ClientFault}
use Rattle.ov_client.specs.declared.telling.Fetched.{Fetched}
use Rattle.ov_client.proofs.Talking.{answered, told, unanswered}
use Rattle.ov_client.proofs.asking.ask_chunk.Goals as goal

pub returns-in-Ok-clause-talk : goal.returns-in-Ok-clause-talk
returns-in-Ok-clause-talk g c = λ r file tries stored size.
    let d = c.args.chained.now in
    let same : Some (requests.Chunk d.file d.generation (length stored) MAX_CHUNK_BYTES)
    ≡ Some (requests.Chunk d.file d.generation c.args.start MAX_CHUNK_BYTES) =
    ap (λ n. Some (requests.Chunk d.file d.generation n MAX_CHUNK_BYTES)) (sym size) in
    let is : c.fetched_in.result ≡ fetched_in d.generation (chunk_bytes d.length (length stored))
    c.in-Ok.answer =
    c.fetched_in.ensures.told
    ∙ ap (λ n. fetched_in d.generation n c.in-Ok.answer) c.min-count.ensures
    ∙ ap (λ n. fetched_in d.generation (chunk_bytes d.length n) c.in-Ok.answer) size in
    told g.P.Peer.tells r file c.args.peer.now c.exchange.new.peer
    (AsksChunk tries d stored) (after_fetched r tries d stored) c.fetched_in.result
    (subst
    (λ (x : Result Fetched ClientFault). Reaches g.P.Peer.tells c.args.peer.now c.exchange.new.peer
    r file
    (AsksChunk tries d stored) (then_or (after_fetched r tries d stored) x))
    (sym is)
    (answered g.P.Peer.tells r file (AsksChunk tries d stored)
    (requests.Chunk d.file d.generation c.args.start MAX_CHUNK_BYTES) same c.in-Ok.ensures.form
    c.args.peer.now c.exchange.new.peer (Ok c.in-Ok.answer) c.in-Ok.ensures.exchanges))

pub returns-clause-talk : goal.returns-clause-talk
returns-clause-talk g c = λ r file tries stored size.
    let d = c.args.chained.now in
    let same : Some (requests.Chunk d.file d.generation (length stored) MAX_CHUNK_BYTES)
    ≡ Some (requests.Chunk d.file d.generation c.args.start MAX_CHUNK_BYTES) =
    ap (λ n. Some (requests.Chunk d.file d.generation n MAX_CHUNK_BYTES)) (sym size) in
    subst
    (λ (f : ClientFault). ReadsFrom g.P.Peer.tells c.args.peer.now
    c.exchange.new.peer r file
    (AsksChunk tries d stored) (Err f))
    (sym c.fault_of.ensures)
    (unanswered g.P.Peer.tells r file (AsksChunk tries d stored)
    (requests.Chunk d.file d.generation c.args.start MAX_CHUNK_BYTES) same c.in-Err.ensures.form
    c.args.peer.now c.exchange.new.peer c.in-Err.fault (λ place. refl) c.in-Err.ensures.exchanges)
