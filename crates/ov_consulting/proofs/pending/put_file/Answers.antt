use Rattle.std.proofs.Common.{◌∙◌, ◌++◌, List, ℕ, ap, sym}
use Rattle.std.proofs.lemmas.List.{append-nil}
use Rattle.ov_consulting.proofs.Gathered.{named_file, unnamed_file}
use Rattle.ov_consulting.proofs.pending.put_file.Goals as goal

pub returns-in_ok-extend_from_slice-in-Some : goal.returns-in_ok-extend_from_slice-in-Some
returns-in_ok-extend_from_slice-in-Some c =
    c.in_ok-extend_from_slice-in-Some.ensures.items
    ∙ ap (λ (name : List ℕ). c.args.out.now.items ++ name)
    (c.as_bytes.ensures.bytes
    ∙ sym (named_file c.args.state.now.catalogue c.args.file c.in-Some.name.now c.in-Some.ensures))

pub returns-in-None : goal.returns-in-None
returns-in-None c =
    sym (append-nil c.args.out.now.items)
    ∙ ap (λ (name : List ℕ). c.args.out.now.items ++ name)
    (sym (unnamed_file c.args.state.now.catalogue c.args.file c.in-None.ensures))
