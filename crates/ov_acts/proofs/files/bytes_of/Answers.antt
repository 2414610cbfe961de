use Rattle.std.proofs.Common.{◌∙◌, length, inr, refl}
use Rattle.ov_acts.proofs.Fronts.{filled_all, filled_more, written_back}
use Rattle.ov_acts.proofs.Reasons.{stops_long, stops_unread}
use Rattle.ov_acts.proofs.Taking.{takes_so}
use Rattle.ov_acts.proofs.files.bytes_of.Goals as goal

pub returns-then-count-clause-found : goal.returns-then-count-clause-found
returns-then-count-clause-found g c =
    filled_more (g.B.Source.tells.left c.args.body.now) (g.B.Source.tells.left c.fill.new.source)
    c.fill.new.buffer (length c.deref_mut.result.now) c.in-Ok-fill.count c.in-Ok-fill.ensures.long
    c.in-Ok-fill.ensures.taken.0 c.if-count.true c.in-Ok-fill.ensures.taken.1

pub returns-then-count-clause-cause : goal.returns-then-count-clause-cause
returns-then-count-clause-cause g c =
    stops_long _ _ _ _ _ refl
    (filled_more (g.B.Source.tells.left c.args.body.now) (g.B.Source.tells.left c.fill.new.source)
    c.fill.new.buffer (length c.deref_mut.result.now) c.in-Ok-fill.count c.in-Ok-fill.ensures.long
    c.in-Ok-fill.ensures.taken.0 c.if-count.true c.in-Ok-fill.ensures.taken.1)

pub returns-else-count-clause-found : goal.returns-else-count-clause-found
returns-else-count-clause-found g c =
    filled_all (g.B.Source.tells.left c.args.body.now) (g.B.Source.tells.left c.fill.new.source)
    c.fill.new.buffer c.from_vec.result (length c.deref_mut.result.now) c.in-Ok-fill.count
    (c.deref_mut.ensures.len ∙ c.in-Ok.ensures.len) c.in-Ok-fill.ensures.long
    c.in-Ok-fill.ensures.taken.0 c.if-count.false c.in-Ok-fill.ensures.taken.1
    c.in-Ok-fill.ensures.all
    (written_back c.fill.new.buffer c.in-Ok.bytes.items c.from_vec.result c.in-Ok.bytes.len
    c.in-Ok-fill.count (c.in-Ok-fill.ensures.long ∙ c.deref_mut.ensures.len)
    (c.from_vec.ensures ∙ c.truncate.ensures.items))

pub returns-in-Err-fill-clause-cause : goal.returns-in-Err-fill-clause-cause
returns-in-Err-fill-clause-cause g c =
    stops_unread _ _ _ _ _ refl c.in-Err-fill.ensures.cause.failed

pub returns-then-count-clause-takes : goal.returns-then-count-clause-takes
returns-then-count-clause-takes g c =
    inr (takes_so g.B.Source.tells _ _ _ _ _
    (c.deref_mut.ensures.len ∙ c.in-Ok.ensures.len) c.fill.ensures.needed)

pub returns-else-count-clause-takes : goal.returns-else-count-clause-takes
returns-else-count-clause-takes g c =
    inr (takes_so g.B.Source.tells _ _ _ _ _
    (c.deref_mut.ensures.len ∙ c.in-Ok.ensures.len) c.fill.ensures.needed)

pub returns-in-Err-fill-clause-takes : goal.returns-in-Err-fill-clause-takes
returns-in-Err-fill-clause-takes g c =
    inr (takes_so g.B.Source.tells _ _ _ _ _
    (c.deref_mut.ensures.len ∙ c.in-Ok.ensures.len) c.fill.ensures.needed)
