-- The texts that make a whole line of the front that was read.
use Rattle.std.proofs.Common.{◌≡◌, ◌⊎◌, ℕ, ◌<◌, ◌≤◌, List, [], ◌∷◌, ◌++◌, length, drop, Some, None}
use Rattle.std.specs.Fmt.{decimal}
use Rattle.ov_base.specs.declared.limits.TheConstants.{MAX_FILE_BYTES}
use Rattle.ov_script.specs.LineFronts.{spelling}
use Rattle.ov_script.specs.WrittenLists.{AreNames, with_commas, list_text}
use Rattle.ov_script.specs.declared.front.Word.{Word}
use Rattle.ov_script.specs.declared.front.Word.TheVariants.{Enrol, Create, Grant, Revoke, Remove, Replace, Read, List as Word-List, Epoch}
use Rattle.ov_script.specs.declared.front.Stem.{Stem}
use Rattle.ov_script.specs.declared.front.Stem.TheVariants.{E, R, Re}
use Rattle.ov_script.specs.declared.front.Then.{Then}
use Rattle.ov_script.specs.declared.front.Then.TheVariants.{End, LastName, Readers, Size, NextReader}
use Rattle.ov_script.specs.declared.front.Front.{Front}
use Rattle.ov_script.specs.declared.front.Front.TheVariants.{Start, InStem, InWord, InName, AtReaders, Nobody, InSize, Done, Never}
use Rattle.ov_script.proofs.NameFronts.{RestOfName}

-- the rest of a name, and then such a text
abbrev pub NameThen : (List ℕ → Type 0) → ℕ → List ℕ → Type 0
NameThen P count text = (more rest : List ℕ) × (text ≡ more ++ rest) × RestOfName count more × P rest

abbrev pub SpaceThen : (List ℕ → Type 0) → List ℕ → Type 0
SpaceThen P text = (rest : List ℕ) × (text ≡ 32 ∷ rest) × P rest

abbrev pub IsNothing : List ℕ → Type 0
IsNothing text = text ≡ []

abbrev pub IsSize : List ℕ → Type 0
IsSize text = (n : ℕ) × (n ≤ MAX_FILE_BYTES) × (text ≡ decimal n)

-- a list and a size
abbrev pub AreReaders : List ℕ → Type 0
AreReaders text =
    (names : List (List ℕ)) × (rest : List ℕ) × AreNames names × (text ≡ list_text names ++ 32 ∷ rest) × IsSize rest

-- further names of a list and a size
abbrev pub AreMoreReaders : List ℕ → Type 0
AreMoreReaders text =
    (names : List (List ℕ)) × (rest : List ℕ) × AreNames names × (text ≡ with_commas names ++ 32 ∷ rest) × IsSize rest

-- what follows a name
abbrev pub Follows : Then → List ℕ → Type 0
Follows End = IsNothing
Follows LastName = SpaceThen (NameThen IsNothing 0)
Follows Readers = SpaceThen AreReaders
Follows Size = SpaceThen IsSize
Follows NextReader = AreMoreReaders

-- what follows a word with its space
abbrev pub Behind : Word → List ℕ → Type 0
Behind Enrol = NameThen (Follows End) 0
Behind Create = NameThen (Follows Readers) 0
Behind Grant = NameThen (Follows LastName) 0
Behind Revoke = NameThen (Follows LastName) 0
Behind Remove = NameThen (Follows End) 0
Behind Replace = NameThen (Follows Size) 0
Behind Read = NameThen (Follows LastName) 0
Behind Word-List = NameThen (Follows End) 0
Behind Epoch = IsNothing

-- the rest of a word of which this many bytes came, and what follows it
abbrev pub RestOfWord : Word → ℕ → List ℕ → Type 0
RestOfWord word count text =
    (count < length (spelling word)) × ((rest : List ℕ) × (text ≡ drop count (spelling word) ++ rest) × Behind word rest)

-- the rest of a word that begins so
abbrev pub RestOfStem : Stem → List ℕ → Type 0
RestOfStem E text = RestOfWord Enrol 1 text ⊎ RestOfWord Epoch 1 text
RestOfStem R text = RestOfWord Read 1 text ⊎ (RestOfWord Remove 1 text ⊎ (RestOfWord Replace 1 text ⊎ RestOfWord Revoke 1 text))
RestOfStem Re text = RestOfWord Read 2 text ⊎ (RestOfWord Remove 2 text ⊎ (RestOfWord Replace 2 text ⊎ RestOfWord Revoke 2 text))

-- a whole line
abbrev pub IsWhole : List ℕ → Type 0
IsWhole text = (word : Word) × (rest : List ℕ) × (text ≡ spelling word ++ rest) × Behind word rest

abbrev pub Fits : Front → List ℕ → Type 0
Fits Start text = IsWhole text
Fits (InStem stem) text = RestOfStem stem text
Fits (InWord word count) text = RestOfWord word count text
Fits (InName next count) text = NameThen (Follows next) count text
Fits AtReaders text = AreReaders text
Fits Nobody text = SpaceThen IsSize text
Fits (InSize None) text = IsSize text
Fits (InSize (Some n)) text = (n ≤ MAX_FILE_BYTES) × ((m : ℕ) × (m ≤ MAX_FILE_BYTES) × (decimal n ++ text ≡ decimal m))
Fits Done text = IsNothing text
Fits Never text = ⊥
