use Rattle.std.proofs.Common.{◌≡◌, ◌≤◌, ◌-◌, ℕ, List, length, take}
use Rattle.ov_base.specs.declared.limits.TheConstants.{MAX_LINE_BYTES}
use Rattle.ov_io.specs.Calls.{IsCallOf}
use Rattle.ov_script.specs.declared.front.Front.TheVariants.{Start}
use Rattle.ov_script.specs.Feed.{Takes}
use Rattle.ov_script.specs.Finding.{NeedsPieces}
use Rattle.ov_script.specs.LineFeeds.{NoLf}
use Rattle.ov_script.specs.LineFronts.{run}
use Rattle.ov_script.proofs.find.find.Given as goal

abbrev pub invariant-pieces : goal.invariant-pieces
invariant-pieces g l = record {
  within : l.seen ≤ length l.feed.pending;
  no_lf : NoLf (take l.seen l.feed.pending);
  front : l.front ≡ run Start (take l.seen l.feed.pending);
  taken : (more : List ℕ) × Takes g.S.Source.tells l.fn.feed l.feed more
      × NeedsPieces g.S.Source.tells l.fn.room l.fn.feed l.feed more;
  call : IsCallOf g.S.Source.tells ⊥ l.fn.feed.source l.feed.source;
}

abbrev pub decreases-pieces : goal.decreases-pieces
decreases-pieces g l = MAX_LINE_BYTES - length l.feed.pending
