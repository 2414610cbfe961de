use Rattle.std.proofs.Common.{inr, refl, rules}
use Rattle.ov_answering.proofs.Statuses.{judged_so, judged_unasked, not_usage, words_known, words_refused}
use Rattle.ov_load.proofs.LendingLoads.{load_image, load_well}
use Rattle.ov_load.proofs.loading.load.Goals as goal

pub returns-in-Some-clause-opened : goal.returns-in-Some-clause-opened
returns-in-Some-clause-opened g c =
    let causes = c.load_with_keys.ensures.causes in
    load_well g.D.Disk.tells
    (record { ref_ptr = c.args.disk.ref_ptr; ghost_name = _; now = c.args.disk.now }) c.load_with_keys.result.1 _ (search rules)
    c.args.words.now (g.K.Source.tells.left c.args.keys.now) (g.O.Sink.tells.written c.args.out.now) (g.O.Sink.tells.written c.load_with_keys.new.out)
    (g.T.Sink.tells.written c.args.trace.now) (g.T.Sink.tells.written c.load_with_keys.new.trace)
    c.load_with_keys.result.0 c.in-Some.load c.in-Some.ensures.found _ _ _ (search rules) causes.read causes.write
    c.load_with_keys.ensures.ends

pub returns-in-Some-clause-image : goal.returns-in-Some-clause-image
returns-in-Some-clause-image g c =
    load_image g.D.Disk.tells
    (record { ref_ptr = c.args.disk.ref_ptr; ghost_name = _; now = c.args.disk.now }) c.load_with_keys.result.1 _ (search rules)
    c.args.words.now (g.K.Source.tells.left c.args.keys.now) (g.O.Sink.tells.written c.args.out.now) (g.O.Sink.tells.written c.load_with_keys.new.out)
    (g.T.Sink.tells.written c.args.trace.now) (g.T.Sink.tells.written c.load_with_keys.new.trace)
    c.load_with_keys.result.0 c.in-Some.load c.in-Some.ensures.found (g.D.Disk.tells.reads c.args.disk.now) _ c.load_with_keys.ensures.image

pub returns-in-Some-clause-causes : goal.returns-in-Some-clause-causes
returns-in-Some-clause-causes g c =
    let causes = c.load_with_keys.ensures.causes in
    record {
      some = inr c.load_with_keys.ensures.status.0;
      tag = causes.tag;
      disk = search rules;
      read = causes.read;
      write = causes.write;
    }

pub returns-in-Some-clause-keys : goal.returns-in-Some-clause-keys
returns-in-Some-clause-keys g c =
    judged_so _ _ _ _ _ _ _ c.load_with_keys.ensures.keys (λ untouched. search rules)

pub returns-in-None-clause-opened : goal.returns-in-None-clause-opened
returns-in-None-clause-opened g c = λ load is. absurd (c.in-None.ensures.none load is)

pub returns-in-None-clause-image : goal.returns-in-None-clause-image
returns-in-None-clause-image g c = λ load is. absurd (c.in-None.ensures.none load is)

pub returns-in-None-clause-keys : goal.returns-in-None-clause-keys
returns-in-None-clause-keys g c =
    judged_unasked _ _ _ _ _ _ (λ asked. c.in-None.ensures.none asked.0 asked.1) c.put_last.ensures.ends (refl, refl)

pub returns-in-None-clause-words : goal.returns-in-None-clause-words
returns-in-None-clause-words g c = words_refused _ _ _ _ _ c.in-None.ensures.none (refl, refl, refl) c.put_last.ensures.ends

pub returns-in-Some-clause-words : goal.returns-in-Some-clause-words
returns-in-Some-clause-words g c =
    words_known _ _ _ _ _ (λ other. other c.in-Some.load c.in-Some.ensures.found) (not_usage _ c.load_with_keys.ensures.status.0)
