use Rattle.std.proofs.Common.{◌≡◌, ◌≢◌, ◌∙◌, ◌+◌, ℕ, Result, Ok, Err, length, ap, arith, refl, subst, sym, true≢false}
use Rattle.ov_fields.specs.Reading.{all_of}
use Rattle.ov_record.specs.Reading.{update_at, update_of}
use Rattle.ov_record.specs.Updates.{SealedUpdate}
use Rattle.ov_record.specs.Forms.{second_form}
use Rattle.ov_history.specs.Catalogue.{Catalogue}
use Rattle.ov_wire.specs.declared.request.Request.{Request}
use Rattle.ov_wire.specs.declared.request.Request.TheVariants as requests
use Rattle.ov_wire.specs.declared.answer.Answer.TheVariants as answers
use Rattle.ov_protocol.specs.Updating.{AnswersSpelled, owner_tag}
use Rattle.ov_store.specs.Opened.{Opened}
use Rattle.ov_server.proofs.Shown.{answers_still}
use Rattle.ov_server.proofs.Tagging.{other_epoch, other_tag, placed_low, spells_none}
use Rattle.ov_server.proofs.server.Server.answer_update.Goals as goal

pub returns-then-not-same : goal.returns-then-not-same
returns-then-not-same g c =
    let s = c.args.self.now in
    let key : c.self.inside.surface.bytes ≡ s.keys.surface =
    sym c.self.invariant
    ∙ ap (λ (o : Opened g.row.D.Denot). o.keys.surface) c.self.view_is in
    let wrong : c.args.tag.now ≢ owner_tag s.keys.surface c.args.epoch c.args.spelling =
    λ right.
    true≢false
    (sym
    (c.same.ensures.1
    (c.owner_tag.ensures ∙ ap (λ k. owner_tag k c.args.epoch c.args.spelling) key
    ∙ sym right))
    ∙ c.if-not-same.true) in
    λ request is.
    answers_still g.D.Disk.tells s request
    (Ok (requests.Update c.args.epoch c.args.spelling c.args.tag.now)) is (Ok answers.BadTag)
    c.reply_with.new.reply.items c.reply_with.result wrong tt
    (refl, λ u has. absurd (other_tag _ request u has _ _ _ is wrong))
    (c.reply_with.ensures.ok, c.reply_with.ensures.err)

pub returns-then-epoch-now : goal.returns-then-epoch-now
returns-then-epoch-now g c =
    let s = c.args.self.now in
    let key : c.self.inside.surface.bytes ≡ s.keys.surface =
    sym c.self.invariant
    ∙ ap (λ (o : Opened g.row.D.Denot). o.keys.surface) c.self.view_is in
    let right : c.args.tag.now ≡ owner_tag s.keys.surface c.args.epoch c.args.spelling =
    sym (c.same.ensures.0 c.if-not-same.false) ∙ c.owner_tag.ensures
    ∙ ap (λ k. owner_tag k c.args.epoch c.args.spelling) key in
    let now_is : c.epoch-now.result ≡ s.catalogue.epoch =
    c.epoch-now.ensures ∙ ap (λ (k : Catalogue). k.epoch) c.state.ensures
    ∙ ap (λ (o : Opened g.row.D.Denot). o.catalogue.epoch) c.self.view_is in
    let wrong : c.args.epoch ≢ s.catalogue.epoch =
    λ same. c.if-epoch-now.true (same ∙ sym now_is) in
    λ request is.
    answers_still g.D.Disk.tells s request
    (Ok (requests.Update c.args.epoch c.args.spelling c.args.tag.now)) is
    (Ok (answers.Stale c.epoch-now.result)) c.reply_with-then-epoch-now.new.reply.items
    c.reply_with-then-epoch-now.result (right, wrong, now_is) c.epoch-now.type_inv
    (refl, λ u has. absurd (other_epoch _ request u has _ _ _ is wrong))
    (c.reply_with-then-epoch-now.ensures.ok, c.reply_with-then-epoch-now.ensures.err)

pub returns-in-Ok : goal.returns-in-Ok
returns-in-Ok g c =
    let s = c.args.self.now in
    let key : c.self.inside.surface.bytes ≡ s.keys.surface =
    sym c.self.invariant
    ∙ ap (λ (o : Opened g.row.D.Denot). o.keys.surface) c.self.view_is in
    let right : c.args.tag.now ≡ owner_tag s.keys.surface c.args.epoch c.args.spelling =
    sym (c.same.ensures.0 c.if-not-same.false) ∙ c.owner_tag.ensures
    ∙ ap (λ k. owner_tag k c.args.epoch c.args.spelling) key in
    let now_is : c.epoch-now.result ≡ s.catalogue.epoch =
    c.epoch-now.ensures ∙ ap (λ (k : Catalogue). k.epoch) c.state.ensures
    ∙ ap (λ (o : Opened g.row.D.Denot). o.catalogue.epoch) c.self.view_is in
    let here : c.args.epoch ≡ s.catalogue.epoch = c.if-epoch-now.false ∙ now_is in
    let asked : ℕ → Result Request ℕ =
    λ e. Ok (requests.Update e c.args.spelling c.args.tag.now) in
    λ request is.
    c.make.ensures request (record {
      spelling = c.args.spelling;
      tag = c.args.tag.now;
      is = is ∙ ap asked here;
      right = right ∙ ap (λ e. owner_tag s.keys.surface e c.args.spelling) here;
      spells = c.in-Ok.ensures.exact;
    })

pub returns-in-Err-BadRecord : goal.returns-in-Err-BadRecord
returns-in-Err-BadRecord g c =
    let s = c.args.self.now in
    let key : c.self.inside.surface.bytes ≡ s.keys.surface =
    sym c.self.invariant
    ∙ ap (λ (o : Opened g.row.D.Denot). o.keys.surface) c.self.view_is in
    let right : c.args.tag.now ≡ owner_tag s.keys.surface c.args.epoch c.args.spelling =
    sym (c.same.ensures.0 c.if-not-same.false) ∙ c.owner_tag.ensures
    ∙ ap (λ k. owner_tag k c.args.epoch c.args.spelling) key in
    let now_is : c.epoch-now.result ≡ s.catalogue.epoch =
    c.epoch-now.ensures ∙ ap (λ (k : Catalogue). k.epoch) c.state.ensures
    ∙ ap (λ (o : Opened g.row.D.Denot). o.catalogue.epoch) c.self.view_is in
    let here : c.args.epoch ≡ s.catalogue.epoch = c.if-epoch-now.false ∙ now_is in
    let place : ℕ = c.in-Err-BadRecord.at in
    let wrong : update_of second_form c.args.spelling ≡ Err place =
    rw c.in-Err-BadRecord.field-0-is at c.in-Err-BadRecord.ensures.exact in
    λ request is.
    answers_still g.D.Disk.tells s request
    (Ok (requests.Update c.args.epoch c.args.spelling c.args.tag.now)) is
    (Ok (answers.BadRequest (5 + place))) c.reply_with-in-Err-BadRecord.new.reply.items
    c.reply_with-in-Err-BadRecord.result (
      right,
      here,
      subst
          (λ (r : Result SealedUpdate ℕ). AnswersSpelled s.catalogue r
          (answers.BadRequest (5 + place))) (sym wrong) refl,
    )
    (omega (
      arith,
      placed_low (length c.args.spelling) place
          (all_of (update_at second_form c.args.spelling)) wrong,
      c.requires,
    ))
    (refl, λ u has. absurd (spells_none _ request u has _ _ _ is place wrong)) (
      rw c.in-Err-BadRecord.field-0-is at c.reply_with-in-Err-BadRecord.ensures.ok,
      c.reply_with-in-Err-BadRecord.ensures.err,
    )

pub returns-in-Err-Memory : goal.returns-in-Err-Memory
returns-in-Err-Memory g c =
    λ request is.
    answers_still g.D.Disk.tells c.args.self.now request
    (Ok (requests.Update c.args.epoch c.args.spelling c.args.tag.now)) is (Err _)
    c.reply_with-in-Err-Memory.new.reply.items c.reply_with-in-Err-Memory.result tt tt tt
    (c.reply_with-in-Err-Memory.ensures.ok, c.reply_with-in-Err-Memory.ensures.err)
