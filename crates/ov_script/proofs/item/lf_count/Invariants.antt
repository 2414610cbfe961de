use Rattle.std.proofs.Common.{◌≡◌, ◌≤◌, ◌+◌, drop}
use Rattle.ov_script.specs.LineFeeds.{lf_count}
use Rattle.ov_script.proofs.item.lf_count.Given as goal

abbrev pub invariant-loop-byte : goal.invariant-loop-byte
invariant-loop-byte l = record {
  count : l.count + lf_count (drop l.byte-index l.bytes) ≡ lf_count l.bytes;
  within : l.count ≤ l.byte-index;
}
