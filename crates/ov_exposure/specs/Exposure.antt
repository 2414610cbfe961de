-- What has been given away: which files some users can read after a history, where they kept
-- everything that they were ever shown.
use Rattle.std.specs.Prelude.{◌≡◌, ◌⊎◌, ◌↔◌, ℕ, ◌+◌, ◌<◌, ◌≤◌, Bool, true, false, List, [], ◌∷◌, ◌++◌}
use Rattle.std.specs.Prelude.{length, Contains, Some, None}
use Rattle.ov_base.specs.Sets.{Has}
use Rattle.ov_base.specs.declared.mode.Mode.TheVariants.{Full}
use Rattle.ov_tokens.specs.declared.label.Kind.TheVariants.{Access, Surface}
use Rattle.ov_tokens.specs.declared.label.Label.{Label}
use Rattle.ov_tokens.specs.Labels.{label_of}
use Rattle.ov_history.specs.Sent.{SealedUpdate}
use Rattle.ov_history.specs.History.{History, matrix_of}
use Rattle.ov_history.specs.Places.{living_at}
use Rattle.ov_history.specs.Lists.{file_at, is_listed}
use Rattle.ov_history.specs.Layers.{holders, layers_of}
use Rattle.ov_history.specs.Words.{HasFile, place_in}
use Rattle.ov_history.specs.Catalogue.{Catalogue, Filed}
use Rattle.ov_history.specs.Closure.{IsRootOfSome, Reaches, ReachesAll, protecting}
use Rattle.ov_history.specs.Sealed.{SealedHistory, IsSealed, catalogue_of, outer_of}

-- ---- moments

-- a moment of the history: these are its first updates, as many as there are of them
abbrev pub IsMoment : SealedHistory → List SealedUpdate → Type 0
IsMoment g before = (after : List SealedUpdate) × (g.updates ≡ before ++ after)

-- the history as it was at the moment
abbrev pub as_of : SealedHistory → List SealedUpdate → SealedHistory
as_of g before = record g { updates = before }

-- so without what only its owner can tell
abbrev pub known_at : SealedHistory → List SealedUpdate → History
known_at g before = outer_of (as_of g before)

-- the epoch of the moment
abbrev pub epoch_at : SealedHistory → List SealedUpdate → ℕ
epoch_at g before = g.first + length before

-- at the moment the file was there, and the catalogue had it so
abbrev pub StoodSo : List ℕ → SealedHistory → List SealedUpdate → ℕ → Filed → Type 0
StoodSo master g before file f =
    living_at (catalogue_of master (as_of g before)).files file ≡ Some f

-- ---- who can read

-- what the users hold at first: the labels of their roots, and together with the server those of all
-- surface nodes besides
abbrev pub IsGiven : Bool → Catalogue → List ℕ → Label → Type 0
IsGiven false c users = IsRootOfSome c users
IsGiven true c users = λ (label : Label). IsRootOfSome c users label ⊎ (label.kind ≡ Surface)

-- The users, who kept the stored bytes of each file from every moment at which it was there, can read
-- the file: what they hold after the history leads to all labels that protected it at some moment.
abbrev pub CanRead : Bool → List ℕ → SealedHistory → List ℕ → ℕ → Type 0
CanRead server master g users file =
    (before : List SealedUpdate) × (f : Filed)
    × IsMoment g before × StoodSo master g before file f
    × ReachesAll (catalogue_of master g) (IsGiven server (catalogue_of master g) users)
    (protecting f)

-- ---- in the words of the matrix and the layers

-- one of the users was in the list of the file at the moment
abbrev pub IsListedAt : SealedHistory → List SealedUpdate → List ℕ → ℕ → Type 0
IsListedAt g before users file =
    (user : ℕ) × Contains users user
    × (is_listed (matrix_of (known_at g before)) user file ≡ true)

-- .. at some moment
abbrev pub WasListedIn : SealedHistory → List ℕ → ℕ → Type 0
WasListedIn g users file =
    (before : List SealedUpdate) × IsMoment g before × IsListedAt g before users file

-- the file was there at the moment and had no surface
abbrev pub IsBareAt : SealedHistory → List SealedUpdate → ℕ → Type 0
IsBareAt g before file =
    HasFile (known_at g before) file × ((place_in (known_at g before) file).surface ≡ None)

-- .. at some moment
abbrev pub WasBare : SealedHistory → ℕ → Type 0
WasBare g file = (before : List SealedUpdate) × IsMoment g before × IsBareAt g before file

-- One of the users is a holder now of the base node that the file had at some moment. It has the same
-- one while it is there.
abbrev pub HoldsBaseNode : SealedHistory → List ℕ → ℕ → Type 0
HoldsBaseNode g users file =
    (before : List SealedUpdate) × IsMoment g before × HasFile (known_at g before) file
    × ((user : ℕ) × Contains users user
    × Has (holders (layers_of (outer_of g)) (place_in (known_at g before) file).node) user)

-- ---- findings

-- it holds at some moment, and this is the least epoch of those at which it does
abbrev pub IsFirstEpoch : SealedHistory → (List SealedUpdate → Type 0) → ℕ → Type 0
IsFirstEpoch g holds epoch =
    ((before : List SealedUpdate) × IsMoment g before × holds before × (epoch ≡ epoch_at g before))
    × ((before : List SealedUpdate) → IsMoment g before → holds before
    → epoch ≤ epoch_at g before)

-- why a file can be read: a user was listed; or a user is a holder of its base node now, and it was
-- bare, or the server helps
pub data Cause : Type 0 where
  Listed : Cause
  Bare : Cause
  Server : Cause

-- The file is exposed to the users by this cause since this epoch: the first at which one of them was
-- listed, or else the first at which it was bare, or else that of its making.
abbrev pub IsExposed : Bool → SealedHistory → List ℕ → ℕ → Cause → ℕ → Type 0
IsExposed server g users file Listed epoch =
    IsFirstEpoch g (λ before. IsListedAt g before users file) epoch
IsExposed server g users file Bare epoch =
    (WasListedIn g users file → ⊥) × HoldsBaseNode g users file
    × IsFirstEpoch g (λ before. IsBareAt g before file) epoch
IsExposed server g users file Server epoch =
    (server ≡ true) × (WasListedIn g users file → ⊥) × HoldsBaseNode g users file
    × (WasBare g file → ⊥)
    × IsFirstEpoch g (λ before. HasFile (known_at g before) file) epoch

-- ---- laws

-- all of these are users after the history
abbrev pub AreUsers : SealedHistory → List ℕ → Type 0
AreUsers g users =
    (user : ℕ) → Contains users user → user < length (matrix_of (outer_of g)).users

-- several users can read exactly what one of them can, with the server and without it
abbrev pub CoalitionReadsAsOne : Type 0
CoalitionReadsAsOne =
    (server : Bool) (master : List ℕ) (g : SealedHistory) (users : List ℕ) (file : ℕ)
    → IsSealed g → AreUsers g users
    → CanRead server master g users file
    ↔ ((user : ℕ) × Contains users user × CanRead server master g (user ∷ []) file)

-- in Full users can read exactly the files in which one of them was listed at some moment
abbrev pub FullReadsWhatWasListed : Type 0
FullReadsWhatWasListed =
    (master : List ℕ) (g : SealedHistory) (users : List ℕ) (file : ℕ)
    → IsSealed g → AreUsers g users → g.mode ≡ Full
    → CanRead false master g users file ↔ WasListedIn g users file

-- in either mode users can read exactly those files, and the ones that were bare at some moment and
-- of whose base node one of them is a holder now
abbrev pub ReadsWhatWasListedOrBare : Type 0
ReadsWhatWasListedOrBare =
    (master : List ℕ) (g : SealedHistory) (users : List ℕ) (file : ℕ)
    → IsSealed g → AreUsers g users
    → CanRead false master g users file
    ↔ (WasListedIn g users file ⊎ (HoldsBaseNode g users file × WasBare g file))

-- together with the server users can read exactly the files of whose base node one of them is a
-- holder now
abbrev pub ServerReadsWhatIsHeld : Type 0
ServerReadsWhatIsHeld =
    (master : List ℕ) (g : SealedHistory) (users : List ℕ) (file : ℕ)
    → IsSealed g → AreUsers g users
    → CanRead true master g users file ↔ HoldsBaseNode g users file

-- with the keys of all surface nodes besides, a coalition's closure has the access key that a file had
-- at a moment exactly where one of the coalition is a holder now of the file's base node
abbrev pub AccessKeysAreOfHolders : Type 0
AccessKeysAreOfHolders =
    (master : List ℕ) (g : SealedHistory) (users : List ℕ) (before : List SealedUpdate) (file : ℕ)
    (f : Filed)
    → IsSealed g → AreUsers g users → IsMoment g before → StoodSo master g before file f
    → Reaches (catalogue_of master g) (IsGiven true (catalogue_of master g) users)
    (label_of Access f.node)
    ↔ ((user : ℕ) × Contains users user × Has (holders (layers_of (outer_of g)) f.node) user)

-- in Full no file is ever bare
abbrev pub NoneIsBareInFull : Type 0
NoneIsBareInFull =
    (g : SealedHistory) (before : List SealedUpdate) (file : ℕ)
    → g.mode ≡ Full → IsBareAt g before file → ⊥

-- a file has one base node, at all moments at which it is there
abbrev pub BaseNodeIsOne : Type 0
BaseNodeIsOne =
    (g : SealedHistory) (before other : List SealedUpdate) (file : ℕ)
    → IsMoment g before → IsMoment g other
    → HasFile (known_at g before) file → HasFile (known_at g other) file
    → (place_in (known_at g before) file).node ≡ (place_in (known_at g other) file).node

-- and one name
abbrev pub NameIsOne : Type 0
NameIsOne =
    (g : SealedHistory) (before other : List SealedUpdate) (file : ℕ)
    → IsMoment g before → IsMoment g other
    → HasFile (known_at g before) file → HasFile (known_at g other) file
    → (file_at (matrix_of (known_at g before)) file).name
    ≡ (file_at (matrix_of (known_at g other)) file).name

-- the files that are exposed are exactly those that the users can read
abbrev pub ExposedIsReadable : Type 0
ExposedIsReadable =
    (server : Bool) (master : List ℕ) (g : SealedHistory) (users : List ℕ) (file : ℕ)
    → IsSealed g → AreUsers g users
    → ((cause : Cause) × (epoch : ℕ) × IsExposed server g users file cause epoch)
    ↔ CanRead server master g users file

-- and each of them by one cause, since one epoch
abbrev pub ExposedOnce : Type 0
ExposedOnce =
    (server : Bool) (g : SealedHistory) (users : List ℕ) (file : ℕ) (cause other : Cause)
    (epoch since : ℕ)
    → IsExposed server g users file cause epoch → IsExposed server g users file other since
    → (cause ≡ other) × (epoch ≡ since)
