use Rattle.std.proofs.Common.{◌≡◌, ◌∙◌, ℕ, ap, arith, length}
use Rattle.ov_state.specs.declared.queries.Sizes.{Sizes}
use Rattle.ov_consulting.specs.Gathering.{files_before}
use Rattle.ov_consulting.proofs.Gathered.{all_files}
use Rattle.ov_consulting.proofs.names.files_of.Goals as goal

pub returns : goal.returns
returns c =
    let cat = c.args.state.now.catalogue in
    let count = ap (λ (s : Sizes). s.files) c.sizes-file-end.ensures in
    let all : c.loop-file.file ≡ length cat.files =
    omega (arith, c.loop-file-test.false, c.loop-file.auto.file-end, count) in
    all_files cat c.loop-file.files.items
    (c.loop-file.invariant ∙ ap (λ (n : ℕ). files_before n cat) all)
