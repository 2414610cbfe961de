use Rattle.std.proofs.Common.{ap, arith}
use Rattle.ov_history.specs.Lists.{byte_sum}
use Rattle.ov_history.specs.Catalogue.{matrix_shown}
use Rattle.ov_state.specs.Contents.{Held}
use Rattle.ov_state.proofs.WellFiles.{bytes_in-gone, bytes_in-there, byte_sum-left, byte_sum-shown}
use Rattle.ov_state.proofs.state.State.size_without.Goals as goal

pub overflow_sub-result : goal.overflow_sub-result
overflow_sub-result g c =
    omega (
      arith,
      c.self.invariant.1,
      ap (λ (h : Held). byte_sum (matrix_shown h.catalogue).files) c.self.view_is,
      bytes_in-there c.args.self.now.catalogue c.args.file _ c.entry.ensures.kept,
      c.from.ensures,
    )

pub returns-clause-left : goal.returns-clause-left
returns-clause-left g c =
    omega (
      arith,
      c.self.invariant.1,
      ap (λ (h : Held). byte_sum (matrix_shown h.catalogue).files) c.self.view_is,
      byte_sum-left c.args.self.now.catalogue c.args.file,
      byte_sum-shown c.args.self.now.catalogue,
      bytes_in-gone c.args.self.now.catalogue.files c.args.file _ c.entry.ensures.kept,
      c.from.ensures,
    )

pub returns-clause-few : goal.returns-clause-few
returns-clause-few g c =
    omega (
      arith,
      c.self.invariant.1,
      ap (λ (h : Held). byte_sum (matrix_shown h.catalogue).files) c.self.view_is,
      c.known.ensures.bytes,
    )
