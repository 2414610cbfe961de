-- The words that ask for a load.
use Rattle.std.specs.Prelude.{◌≡◌, ◌<◌, ◌≤◌, ◌^◌, ℕ, List, [], ◌∷◌, codes, map}
use Rattle.std.specs.Prelude.{String, string_bytes}
use Rattle.std.specs.Fmt.{decimal}
use Rattle.std.specs.declared.alloc.Global.{Global}
use Rattle.ov_script.specs.declared.drawn.TheConstants.{MAX_WORKLOAD}
use Rattle.ov_base.specs.Modes.{mode_word}
use Rattle.ov_load.specs.declared.load_words.Load.{Load}

-- the load has a number of 64 bits, and some commands, but not too many
abbrev pub IsWorkload : Load → Type 0
IsWorkload load = (load.number < 2 ^ 64) × (1 ≤ load.count) × (load.count ≤ MAX_WORKLOAD)

-- these words are the load's mode, and its number and its count in decimal without leading zeros
abbrev pub IsAsked : Load → List ℕ → List ℕ → List ℕ → Type 0
IsAsked load mode number count =
    IsWorkload load
    × (mode ≡ mode_word load.mode) × (number ≡ decimal load.number) × (count ≡ decimal load.count)

-- `load`, and behind it the words that ask for this load
abbrev pub IsLoad : Load → List (String Global) → Type 0
IsLoad load words =
    (mode : List ℕ) × (number : List ℕ) × (count : List ℕ) × IsAsked load mode number count
    × (map string_bytes words ≡ codes "load" ∷ mode ∷ number ∷ count ∷ [])

-- words that ask for no load
abbrev pub AreNoLoad : List (String Global) → Type 0
AreNoLoad words = (load : Load) → IsLoad load words → ⊥
