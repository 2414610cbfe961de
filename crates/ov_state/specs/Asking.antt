-- What a state tells an owner who asks before an update.
use Rattle.std.specs.Prelude.{◌≡◌, ℕ, List, Option, Some, None, Result, Ok, Err, length}
use Rattle.ov_base.specs.declared.refusal.Refusal.{Refusal}
use Rattle.ov_graph.specs.Contents.{plan_of}
use Rattle.ov_history.specs.Asking.{Numbers, refusal_at}
use Rattle.ov_history.specs.Catalogue.{Catalogue, outline}
use Rattle.ov_history.specs.History.{Created, Replaced}
use Rattle.ov_history.specs.Layers.{list_in}
use Rattle.ov_state.specs.declared.asking.Asked.{Asked}
use Rattle.ov_state.specs.declared.covering.Planned.{Planned}
use Rattle.ov_state.specs.declared.fault.ChainFault.{ChainFault}
use Rattle.ov_state.specs.declared.fault.ChainFault.TheVariants.{Refused, Memory}

-- the numbers that are told
abbrev pub numbers_of : Asked → Numbers
numbers_of a = record {
  user = a.user;
  base_root = a.base_root;
  surface_root = a.surface_root;
  file = a.file;
  node = a.node;
  wants = a.wants;
}

-- the numbers are told, or why not
abbrev pub Tells : Option Refusal → Numbers → Result Asked Refusal → Type 0
Tells refusal numbers (Ok asked) = (refusal ≡ None) × (numbers_of asked ≡ numbers)
Tells refusal numbers (Err why) = refusal ≡ Some why

-- the question is refused for this; or memory was refused
abbrev pub IsRefusedFor : Option Refusal → ChainFault → Type 0
IsRefusedFor refusal (Refused why) = refusal ≡ Some why
IsRefusedFor refusal Memory = Unit {0}

-- the numbers are told, or why not, or memory was refused
abbrev pub Asks : Option Refusal → Numbers → Result Asked ChainFault → Type 0
Asks refusal numbers (Ok asked) = (refusal ≡ None) × (numbers_of asked ≡ numbers)
Asks refusal numbers (Err fault) = IsRefusedFor refusal fault

-- the update isn't refused for this, or it is, or memory was refused
abbrev pub Passes : {A : Type 0} → Option Refusal → Result A ChainFault → Type 0
Passes refusal (Ok value) = refusal ≡ None
Passes refusal (Err fault) = IsRefusedFor refusal fault

-- The number that a new file of this list will have, the set of the list, and the cover of this set
-- in the base layer; or why there is to be no such file.
abbrev pub PlansFor : {W : ℕ} → Catalogue → Option Refusal → ℕ → Result (Planned W) ChainFault
    → Type 0
PlansFor c refusal list (Ok planned) =
    (refusal ≡ None) × (planned.file ≡ length c.files) × (planned.list ≡ list)
    × (planned.cover ≡ plan_of c.base.sets list)
PlansFor c refusal list (Err fault) = IsRefusedFor refusal fault

-- what is told of a file to be created, or why the creation is refused
abbrev pub Plans : {W : ℕ} → Catalogue → List ℕ → ℕ → ℕ → Result (Planned W) ChainFault → Type 0
Plans c name list size result = PlansFor c (refusal_at c (Created name list size)) list result

-- what is told of the file that is to replace this one, and has its list; or why the replacement is
-- refused
abbrev pub Replans : {W : ℕ} → Catalogue → ℕ → ℕ → Result (Planned W) ChainFault → Type 0
Replans c file size result =
    PlansFor c (refusal_at c (Replaced file size)) (list_in (outline c) file) result
