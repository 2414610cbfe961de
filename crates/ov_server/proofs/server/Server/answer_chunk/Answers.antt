use Rattle.std.proofs.Common.{ℕ, ◌≡◌, ◌∙◌, List, [], Vec, Global, Ok, Err, ap, refl, rules, subst, sym}
use Rattle.ov_base.specs.declared.refusal.Refusal.TheVariants.{NoFile}
use Rattle.ov_wire.specs.declared.request.Request.{Request}
use Rattle.ov_wire.specs.declared.request.Request.TheVariants as requests
use Rattle.ov_wire.specs.declared.answer.Answer.TheVariants as answers
use Rattle.ov_wire.specs.AnswerBytes.{answer_bytes}
use Rattle.ov_wire.specs.RequestReading.{request_of}
use Rattle.ov_store.specs.Opened.{Opened}
use Rattle.ov_peer.specs.Disks.{AsksBytes}
use Rattle.ov_server.specs.Answering.{AsksServer, WritesNothing, serving_of}
use Rattle.ov_server.proofs.ChunkAnswers.{chunk_err, chunk_failed, chunk_given, is_there, none_put, says_bytes, says_moved, says_no_file, unasked}
use Rattle.ov_server.proofs.Shown.{answers_still, forgot_by, no_update, put_is, puts_same}
use Rattle.ov_server.proofs.server.Server.answer_chunk.Goals as goal
use Rattle.ov_server.proofs.server.Server.answer_chunk.Goals.{in-Ok, in-Err-NoFile, in-Err-Moved, in-Err-Disk, in-Err-Memory}

pub returns-in_err-reply_with : goal.returns-in_err-reply_with
returns-in_err-reply_with g c = λ request is.
    forgot_by g.D.Disk.tells c.args.self.now request c.reply_with.new.reply.items
    c.from_residual.result c.from_residual.ensures.0 c.in_err-reply_with.ensures.err

pub returns : goal.returns
returns g c =
    let old = c.self.inside.store in
    let new = c.chunk.new.self in
    let e = c.chunk.ensures in
    let before : List ℕ = c.reply_with.new.reply.items in
    let after : List ℕ = c.chunk.new.out.items in
    let reply : List ℕ = c.match-chunk.reply.items in
    let last = c.match-chunk.result in
    let asked : Request = requests.Chunk c.args.file c.args.generation c.args.start c.args.count in
    let quiet : WritesNothing g.D.Disk.tells old new =
    record { same = e.kept; disk = e.untouched } in
    let begun : before ≡ answer_bytes (answers.Bytes []) =
    put_is _ (answers.Bytes c.new-bytes.result) before refl c.in_ok-reply_with.ensures.ok
    ∙ ap (λ (bytes : List ℕ). answer_bytes (answers.Bytes bytes)) c.new-bytes.ensures in
    let P : Opened g.row.D.Denot → Type 0 =
    λ o. (request : List ℕ) → request_of request ≡ Ok asked
    → AsksServer g.D.Disk.tells o new request reply last in
    subst P c.self.view_is (λ request is. elim c.match-chunk.branch [
      | in-Ok w ↦
          let (bytes, says, form, put) = says_bytes old.catalogue old.stored c.args.file
          c.args.generation c.args.start c.args.count before after c.chunk.result e.answer
          w.in-Ok.field-0 w.in-Ok.is begun c.requires in
          let same : (AsksBytes (serving_of old) request → ⊥) → new ≡ old =
          λ none. unasked (new ≡ old) before after c.chunk.result _ e.unasked w.in-Ok.is
          (none_put old.catalogue old.stored c.args.file c.args.generation c.args.start c.args.count
          before after c.chunk.result e.answer w.in-Ok.field-0 w.in-Ok.is (λ there. none
          (record {
            file = c.args.file;
            generation = c.args.generation;
            start = c.args.start;
            count = c.args.count;
            is = is;
            there = there;
          }))) in
          subst (AsksServer g.D.Disk.tells old new request reply) (sym w.result-is)
          (chunk_given g.D.Disk.tells old new request reply quiet e.call _ same asked is
          (answers.Bytes bytes) says form refl
          (λ u has. no_update old request u has asked is (λ x. let wrong = x.3 in cc))
          (ap (λ (v : Vec ℕ Global). v.items) w.reply-is ∙ put))
      | in-Err-NoFile w ↦
          let failed = chunk_err c.chunk.result w.in-Err-NoFile.field-0 _ w.in-Err-NoFile.is
          w.in-Err-NoFile.field-0-is in
          let same : new ≡ old = unasked (new ≡ old) before after c.chunk.result _ e.unasked failed in
          subst (λ o. AsksServer g.D.Disk.tells old o request reply last) (sym same)
          (answers_still g.D.Disk.tells old request (Ok asked) is (Ok (answers.Refused NoFile))
          reply last
          (says_no_file old.catalogue old.stored c.args.file c.args.generation c.args.start
          c.args.count before after c.chunk.result e.answer failed) tt
          (refl, λ u has. absurd (no_update old request u has asked is (λ x. let wrong = x.3 in cc)))
          (puts_same _ w.reply_with-in-Err-NoFile.new.reply.items reply
          w.reply_with-in-Err-NoFile.result last
          (w.reply_with-in-Err-NoFile.ensures.ok, w.reply_with-in-Err-NoFile.ensures.err)
          (ap (λ (v : Vec ℕ Global). v.items) w.reply-is) w.result-is))
      | in-Err-Moved w ↦
          let failed = chunk_err c.chunk.result w.in-Err-Moved.field-0 _ w.in-Err-Moved.is
          w.in-Err-Moved.field-0-is in
          let same : new ≡ old = unasked (new ≡ old) before after c.chunk.result _ e.unasked failed in
          subst (λ o. AsksServer g.D.Disk.tells old o request reply last) (sym same)
          (answers_still g.D.Disk.tells old request (Ok asked) is
          (Ok (answers.Moved w.in-Err-Moved.generation)) reply last
          (says_moved old.catalogue old.stored c.args.file c.args.generation c.args.start
          c.args.count before after c.chunk.result e.answer w.in-Err-Moved.generation failed)
          (search rules)
          (refl, λ u has. absurd (no_update old request u has asked is (λ x. let wrong = x.3 in cc)))
          (puts_same _ w.reply_with-in-Err-Moved.new.reply.items reply
          w.reply_with-in-Err-Moved.result last
          (w.reply_with-in-Err-Moved.ensures.ok, w.reply_with-in-Err-Moved.ensures.err)
          (ap (λ (v : Vec ℕ Global). v.items) w.reply-is) w.result-is))
      | in-Err-Disk w ↦
          let failed = chunk_err c.chunk.result w.in-Err-Disk.field-0 _ w.in-Err-Disk.is
          w.in-Err-Disk.field-0-is in
          let there = is_there old.catalogue old.stored c.args.file c.args.generation c.args.start
          c.args.count before after c.chunk.result e.answer failed in
          subst (AsksServer g.D.Disk.tells old new request reply) (sym w.result-is)
          (chunk_failed g.D.Disk.tells old new request reply quiet e.call _
          (record {
            file = c.args.file;
            generation = c.args.generation;
            start = c.args.start;
            count = c.args.count;
            is = is;
            there = there.0;
          })
          (ap (λ (v : Vec ℕ Global). v.items) w.reply-is ∙ w.reply_fault.ensures) failed)
      | in-Err-Memory w ↦
          let failed = chunk_err c.chunk.result w.in-Err-Memory.field-0 _ w.in-Err-Memory.is
          w.in-Err-Memory.field-0-is in
          let same : new ≡ old = unasked (new ≡ old) before after c.chunk.result _ e.unasked failed in
          subst (λ o. AsksServer g.D.Disk.tells old o request reply last) (sym same)
          (answers_still g.D.Disk.tells old request (Ok asked) is (Err _) reply last tt tt tt
          (puts_same _ w.reply_with-in-Err-Memory.new.reply.items reply
          w.reply_with-in-Err-Memory.result last
          (w.reply_with-in-Err-Memory.ensures.ok, w.reply_with-in-Err-Memory.ensures.err)
          (ap (λ (v : Vec ℕ Global). v.items) w.reply-is) w.result-is))
    ])
