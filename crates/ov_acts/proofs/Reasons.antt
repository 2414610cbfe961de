-- Acts that stop at a file.
use Rattle.std.proofs.Common.{◌≡◌, Result, Err}
use Rattle.ov_acts.specs.Causes.{StopsFor}
use Rattle.ov_acts.specs.declared.stop.Stop.{Stop}
use Rattle.ov_acts.specs.declared.stop.Stop.TheVariants as stops

module _ {T : Type 0} (reads links keys long : Type 0) (result : Result T Stop) where
  -- the read failed
  pub stops_unread : result ≡ Err stops.Read → reads → StopsFor reads links keys long result
  stops_unread e why =
      record { read = λ x. why; link = λ x. cc; keys = λ x. cc; long = λ x. cc }

  -- the file isn't of its form
  pub stops_unkeyed : result ≡ Err stops.BadKeys → keys → StopsFor reads links keys long result
  stops_unkeyed e why =
      record { read = λ x. cc; link = λ x. cc; keys = λ x. why; long = λ x. cc }

  -- the file has too many bytes
  pub stops_long : result ≡ Err stops.TooLong → long → StopsFor reads links keys long result
  stops_long e why =
      record { read = λ x. cc; link = λ x. cc; keys = λ x. cc; long = λ x. why }
