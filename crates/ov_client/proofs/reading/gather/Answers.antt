use Rattle.std.proofs.Common.{◌∙◌, ◌<◌, List, [], ℕ, refl, Ok, Err, ap, arith, length, subst, sym}
use Rattle.ov_client.specs.Reads.{ReadGoesOn, Reaches}
use Rattle.ov_client.specs.Talks.{AsksChunk, after_fetched, goes_on}
use Rattle.ov_client.specs.Telling.{HasSize, chunk_bytes}
use Rattle.ov_client.specs.Tries.{after_gathered}
use Rattle.ov_client.specs.declared.telling.Fetched.{Fetched}
use Rattle.ov_client.specs.declared.telling.Fetched.TheVariants.{Again, Bytes}
use Rattle.ov_client.proofs.Gathering.{Gathers, fetched_on, gathers_all, gathers_more, gathers_none}
use Rattle.ov_client.proofs.Gathering.{longer}
use Rattle.ov_client.proofs.Gathering.{no_room, size_is}
use Rattle.ov_client.proofs.reading.gather.Goals as goal

pub loop-alloc-init : goal.loop-alloc-init
loop-alloc-init g c = record {
  gathers = λ r file tries.
      subst (Gathers g.P.Peer.tells r file c.args.peer.now c.args.peer.now tries
      c.args.chained.now c.args.keys.now)
      (sym c.new-plain.ensures.items)
      (gathers_none g.P.Peer.tells r file c.args.peer.now tries c.args.chained.now
      c.args.keys.now);
  few = let none = ap length c.new-plain.ensures.items in omega arith;
  same = refl;
  later = omega arith;
}

pub loop-alloc-smaller : goal.loop-alloc-smaller
loop-alloc-smaller g c =
    let d = c.args.chained.now in
    let start = c.len-in-loop-alloc.result in
    let size : HasSize (chunk_bytes d.length start) (Bytes c.in-Ok-Bytes.chunk) =
    subst (HasSize (chunk_bytes d.length start)) c.in-Ok-Bytes.field-0-is
    c.in-Ok-Bytes.ensures.size in
    let more = longer c.args.keys.now d.file (length c.loop-alloc.plain.items)
    c.loop-alloc.plain.items c.in-Ok-Bytes.chunk
    c.append.new.plain.items c.in-Ok.ensures in
    omega (arith, size, more, c.len.ensures, c.len-in-loop-alloc.ensures, c.loop-alloc-test.true)

pub loop-alloc-preserved : goal.loop-alloc-preserved
loop-alloc-preserved g c =
    let d = c.args.chained.now in
    let start = c.len-in-loop-alloc.result in
    let plain = c.loop-alloc.plain.items in
    let chunk = c.in-Ok-Bytes.chunk in
    let size : HasSize (chunk_bytes d.length start) (Bytes chunk) =
    subst (HasSize (chunk_bytes d.length start)) c.in-Ok-Bytes.field-0-is
    c.in-Ok-Bytes.ensures.size in
    let more = longer c.args.keys.now d.file (length plain) plain chunk c.append.new.plain.items
    c.in-Ok.ensures in
    let low : length plain < d.length = omega (arith, c.len.ensures, c.loop-alloc-test.true) in
    record {
      gathers = λ r file tries.
          let so_far = c.loop-alloc.invariant.gathers r file tries in
          let on = c.in-Ok-Bytes.ensures.talk r file tries so_far.stored
          (omega (
            arith,
            c.len-in-loop-alloc.ensures,
            size_is g.P.Peer.tells r file
                c.args.peer.now c.loop-alloc.peer c.ask_chunk.new.peer tries d c.args.keys.now plain
                so_far,
          )) in
          gathers_more g.P.Peer.tells r file c.args.peer.now c.loop-alloc.peer
          c.ask_chunk.new.peer tries d c.args.keys.now
          plain so_far chunk c.append.new.plain.items
          (fetched_on g.P.Peer.tells r file c.args.peer.now c.loop-alloc.peer
          c.ask_chunk.new.peer tries d c.args.keys.now
          plain so_far (Ok (Bytes chunk)) low
          (subst (λ (f : Fetched). ReadGoesOn g.P.Peer.tells c.loop-alloc.peer
          c.ask_chunk.new.peer r file
          (AsksChunk tries d so_far.stored) (after_fetched r tries d so_far.stored) (Ok f))
          c.in-Ok-Bytes.field-0-is on))
          c.in-Ok.ensures;
      few = omega (arith, size, more, low, c.len-in-loop-alloc.ensures);
      same = c.ask_chunk.ensures.same ∙ c.loop-alloc.invariant.same;
      later = omega (arith, c.ask_chunk.ensures.cause.later, c.loop-alloc.invariant.later);
    }

pub returns-in-Err-append-clause-talk : goal.returns-in-Err-append-clause-talk
returns-in-Err-append-clause-talk g c = λ r file tries same.
    let d = c.args.chained.now in
    let plain = c.loop-alloc.plain.items in
    let chunk = c.in-Ok-Bytes.chunk in
    let so_far = c.loop-alloc.invariant.gathers r file tries in
    let low : length plain < d.length = omega (arith, c.len.ensures, c.loop-alloc-test.true) in
    let on = c.in-Ok-Bytes.ensures.talk r file tries so_far.stored
    (omega (
      arith,
      c.len-in-loop-alloc.ensures,
      size_is g.P.Peer.tells r file
          c.args.peer.now c.loop-alloc.peer c.ask_chunk.new.peer tries d c.args.keys.now plain
          so_far,
    )) in
    no_room g.P.Peer.tells r file c.args.peer.now c.loop-alloc.peer
    c.ask_chunk.new.peer tries d c.args.keys.now
    plain so_far chunk
    (fetched_on g.P.Peer.tells r file c.args.peer.now c.loop-alloc.peer
    c.ask_chunk.new.peer tries d c.args.keys.now
    plain so_far (Ok (Bytes chunk)) low
    (subst (λ (f : Fetched). ReadGoesOn g.P.Peer.tells c.loop-alloc.peer
    c.ask_chunk.new.peer r file
    (AsksChunk tries d so_far.stored) (after_fetched r tries d so_far.stored) (Ok f))
    c.in-Ok-Bytes.field-0-is on))

pub returns-in-Ok-Again-clause-talk : goal.returns-in-Ok-Again-clause-talk
returns-in-Ok-Again-clause-talk g c = λ r file tries same.
    let d = c.args.chained.now in
    let plain = c.loop-alloc.plain.items in
    let so_far = c.loop-alloc.invariant.gathers r file tries in
    let low : length plain < d.length = omega (arith, c.len.ensures, c.loop-alloc-test.true) in
    let on = c.in-Ok-Again.ensures.talk r file tries so_far.stored
    (omega (
      arith,
      c.len-in-loop-alloc.ensures,
      size_is g.P.Peer.tells r file
          c.args.peer.now c.loop-alloc.peer c.ask_chunk.new.peer tries d c.args.keys.now plain
          so_far,
    )) in
    fetched_on g.P.Peer.tells r file c.args.peer.now c.loop-alloc.peer
    c.ask_chunk.new.peer tries d c.args.keys.now
    plain so_far (Ok (Again c.in-Ok-Again.next)) low
    (subst (λ (f : Fetched). ReadGoesOn g.P.Peer.tells c.loop-alloc.peer
    c.ask_chunk.new.peer r file
    (AsksChunk tries d so_far.stored) (after_fetched r tries d so_far.stored) (Ok f))
    c.in-Ok-Again.field-0-is on)

pub returns-in-Err-clause-talk : goal.returns-in-Err-clause-talk
returns-in-Err-clause-talk g c = λ r file tries same.
    let d = c.args.chained.now in
    let plain = c.loop-alloc.plain.items in
    let so_far = c.loop-alloc.invariant.gathers r file tries in
    let low : length plain < d.length = omega (arith, c.len.ensures, c.loop-alloc-test.true) in
    let on = c.in-Err.ensures.talk r file tries so_far.stored
    (omega (
      arith,
      c.len-in-loop-alloc.ensures,
      size_is g.P.Peer.tells r file
          c.args.peer.now c.loop-alloc.peer c.ask_chunk.new.peer tries d c.args.keys.now plain
          so_far,
    )) in
    fetched_on g.P.Peer.tells r file c.args.peer.now c.loop-alloc.peer
    c.ask_chunk.new.peer tries d c.args.keys.now
    plain so_far (Err c.in-Err.fault) low on

pub returns-clause-talk : goal.returns-clause-talk
returns-clause-talk g c = λ r file tries same.
    let d = c.args.chained.now in
    let plain = c.loop-alloc.plain.items in
    let so_far = c.loop-alloc.invariant.gathers r file tries in
    subst (λ (bytes : List ℕ). Reaches g.P.Peer.tells c.args.peer.now c.loop-alloc.peer r file
    (goes_on r tries d [])
    (after_gathered r tries d (Bytes bytes))) (sym c.from_vec.ensures)
    (gathers_all g.P.Peer.tells r file c.args.peer.now c.loop-alloc.peer
    c.loop-alloc.peer tries d c.args.keys.now
    plain so_far same (omega (arith, c.len.ensures, c.loop-alloc-test.false)))
