-- Which set of users a file's surface layer should have.
use Rattle.std.specs.Prelude.{ℕ, ◌==◌, Bool, true, false, Option, Some, None}
use Rattle.ov_base.specs.declared.mode.Mode.{Mode}
use Rattle.ov_base.specs.declared.mode.Mode.TheVariants.{Full, Delta}

-- none where the test says so, and the list otherwise
abbrev pub none_where : Bool → ℕ → Option ℕ
none_where true list = None
none_where false list = Some list

-- the wanted surface set of a file with this list, whose base node has these holders: the list, but
-- in Delta none where the list equals the holders
abbrev pub wanted_surface : Mode → ℕ → ℕ → Option ℕ
wanted_surface Full list holders = Some list
wanted_surface Delta list holders = none_where (list == holders) list
