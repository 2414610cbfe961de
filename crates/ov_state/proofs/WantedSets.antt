-- Wanted sets are sets of users who are there.
use Rattle.std.proofs.Common.{ℕ, Bool, true, false, ◌==◌, length}
use Rattle.std.specs.Prelude.{IfSome}
use Rattle.ov_base.specs.Sets.{IsBelow}
use Rattle.ov_base.proofs.SetLaws.{IsBelow-Within}
use Rattle.ov_base.specs.declared.mode.Mode.{Mode}
use Rattle.ov_base.specs.declared.mode.Mode.TheVariants.{Full, Delta}
use Rattle.ov_graph.specs.Reach.{IsRooted}
use Rattle.ov_surface.specs.Wanted.{none_where, wanted_surface}
use Rattle.ov_history.specs.Layers.{holders, list_at}
use Rattle.ov_history.specs.Catalogue.{Filed, Catalogue, outline, place_of_file}
use Rattle.ov_history.specs.Sound.{IsPlaced, IsSound}
use Rattle.ov_history.proofs.SoundLists.{holders_below}

-- a file's list has users who are there
pub list_below : (s : Catalogue) (f : Filed) → IsSound s → IsPlaced s f → IsBelow (length s.users) (list_at (outline s) (place_of_file f))
list_below s f sound placed =
    IsBelow-Within (length s.users) (list_at (outline s) (place_of_file f)) (holders (outline s) f.node) placed.list
    (holders_below (length s.users) (outline s) sound.base.below sound.accesses f.node placed.base)

-- each user of a set of users who are there has a surface node alone
pub rooted_below : (s : Catalogue) (set : ℕ) → IsSound s → IsBelow (length s.users) set → IsRooted s.surface.sets set
rooted_below s set sound below large user member = sound.surface.rooted user (below user member)

pub want_rooted : (s : Catalogue) (mode : Mode) (list held : ℕ) → IsSound s → IsBelow (length s.users) list
    → IfSome (wanted_surface mode list held) (IsRooted s.surface.sets)
want_rooted s Full list held sound below = rooted_below s list sound below
want_rooted s Delta list held sound below = by_test (list == held) where
  by_test : (b : Bool) → IfSome (none_where b list) (IsRooted s.surface.sets)
  by_test true = tt
  by_test false = rooted_below s list sound below
