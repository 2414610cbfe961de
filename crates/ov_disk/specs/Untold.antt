-- Inner: no public contract needs this. A disk that tells nothing.
use Rattle.std.specs.Prelude.{◌≡◌, Some, None, ⊤}
use Rattle.ov_disk.specs.Disk.{Image}

anything : ⊤
anything = tt

-- anything may be left of it, so what it reads may be too
pub none_holds : (i : Image) → None ≡ Some i → ⊤
none_holds i is = anything
