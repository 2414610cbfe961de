use Rattle.std.proofs.Common.{◌≡◌, ◌∙◌, ap, arith, sym, true, false}
use Rattle.std.specs.Fmt.{decimal}
use Rattle.std.proofs.lemmas.Slice.Eq.{bytes_eq-Decides}
use Rattle.ov_client.proofs.KeyLines.{never_unread, read_so}
use Rattle.ov_client.proofs.key_line.root_of.Goals as goal
use Rattle.ov_client.proofs.key_line.root_of.Goals.{else-root-lt-MAX_LAYER_NODES-via-then-root-lt-MAX_LAYER_NODES+else-eq, else-root-lt-MAX_LAYER_NODES-via-else-root-lt-MAX_LAYER_NODES}

pub returns-else-root-lt-MAX_LAYER_NODES-clause-none :
    goal.returns-else-root-lt-MAX_LAYER_NODES-clause-none
returns-else-root-lt-MAX_LAYER_NODES-clause-none c = λ root low is.
    let word = c.args.word.now in
    let printed = c.format-printed.result.now in
    let same : c.in-Ok.root ≡ root =
    read_so word c.parse.result c.in-Ok.root root c.in-Ok.is low is c.parse.ensures.value.0 in
    let equal : printed ≡ word = c.format-printed.ensures.text ∙ ap decimal same ∙ sym is in
    elim c.else-root-lt-MAX_LAYER_NODES.branch [
      | else-root-lt-MAX_LAYER_NODES-via-then-root-lt-MAX_LAYER_NODES+else-eq w ↦
          let other : true ≡ false =
          sym ((bytes_eq-Decides printed word).1 equal) ∙ sym w.eq.ensures ∙ w.if-eq.false in
          absurd (cc other)
      | else-root-lt-MAX_LAYER_NODES-via-else-root-lt-MAX_LAYER_NODES w ↦
          absurd (omega (arith, low, same, w.if-root-lt-MAX_LAYER_NODES))
    ]

pub returns-in-Err-clause-none : goal.returns-in-Err-clause-none
returns-in-Err-clause-none c = λ root low is.
    never_unread c.args.word.now root c.in-Err.field-0 low is c.in-Err.ensures.value.0
