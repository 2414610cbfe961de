-- The differences so far are all zero exactly where the bytes so far are equal.
use Rattle.std.proofs.Common.{ap, arith, below_more, eq-eqb, get_or}
use Rattle.std.proofs.lemmas.Bool.{eqb-true}
use Rattle.std.proofs.lemmas.List.{ext_get_or}
use Rattle.ov_keyed.proofs.Bitwise.{or-eq-zero_left, or-eq-zero_right, or-xor-same, xor-eq-zero}
use Rattle.ov_keyed.proofs.comparison.same.Goals as goal

pub loop-i-preserved : goal.loop-i-preserved
loop-i-preserved c = record {
  none_so_far = λ clear. below_more _ _
      (c.loop-i.invariant.none_so_far (or-eq-zero_left _ _ clear))
      (xor-eq-zero _ _ (or-eq-zero_right _ _ clear));
  none_if_equal = λ equal. or-xor-same _ _ _
      (c.loop-i.invariant.none_if_equal equal) (ap (λ bytes. get_or bytes c.loop-i.i 0) equal);
}

pub returns : goal.returns
returns c = (
  λ clear. ext_get_or 0 c.args.a.now c.args.b.now (omega arith)
      (λ k below. c.loop-i.invariant.none_so_far (eqb-true _ _ clear) k (omega arith)),
  λ equal. eq-eqb _ _ (c.loop-i.invariant.none_if_equal equal),
)
