-- What a stop leaves of a script that is answered, and what lasts of it.
use Rattle.std.specs.Prelude.{◌≡◌, ◌↔◌, ◌⊎◌, ℕ, ◌<◌, true, List, [], ◌∷◌, ◌++◌, length}
use Rattle.std.specs.Prelude.{Option, Some}
use Rattle.std.specs.Io.KnownBytes.{Appends}
use Rattle.ov_base.specs.declared.mode.Mode.{Mode}
use Rattle.ov_disk.specs.Disk.{Image, Only}
use Rattle.ov_disk.specs.Moments.{LeavesOnly}
use Rattle.ov_disk.specs.Tells.{DiskTells}
use Rattle.ov_script.specs.declared.command.Command.{Command}
use Rattle.ov_script.specs.Lines.{reply_line}
use Rattle.ov_script.specs.Reading.{AtEnd, BeginsScript, IsScript}
use Rattle.ov_tokens.specs.declared.label.Label.{Label}
use Rattle.ov_history.specs.Catalogue.{Catalogue, Filed}
use Rattle.ov_history.specs.Closure.{HoldsFile, Holds as HoldsLabel}
use Rattle.ov_history.specs.History.{Matrix, matrix_of}
use Rattle.ov_history.specs.Keys.{AreTrueTokens, DerivesKey, IsKeyOf}
use Rattle.ov_history.specs.Lists.{is_listed}
use Rattle.ov_history.specs.Masters.{Masters}
use Rattle.ov_history.specs.Places.{living_at}
use Rattle.ov_history.specs.Plain.{PlainHistory, history_of}
use Rattle.ov_history.specs.Refusals.{IsLegal}
use Rattle.ov_history.specs.Sealed.{SealedHistory, catalogue_of}
use Rattle.ov_history.specs.Sealing.{IsSealedAs}
use Rattle.ov_images.specs.Images.{IsImageOf, Keeps, keys_of}
use Rattle.ov_model.specs.Lines.{lines}
use Rattle.ov_model.specs.Step.{after_all, reply_to}
use Rattle.ov_machine.specs.Disks.{KeepsPlain, StandsForPlain}

-- ---- images

-- The image stands for the history after some first commands of the script. Of files that were gone
-- before the first one nobody can tell the tags and the bytes.
abbrev pub KeepsFirst : Masters → PlainHistory → List ℕ → Image → Type 0
KeepsFirst k p text c =
    (commands : List Command) × BeginsScript text commands
    × StandsForPlain k p (after_all p commands) c

-- the image stands for the history after just these commands, or after these and the next one
abbrev pub KeepsNext : Masters → PlainHistory → List ℕ → List Command → Image → Type 0
KeepsNext k p text commands c =
    StandsForPlain k p (after_all p commands) c
    ⊎ ((next : Command) × BeginsScript text (commands ++ next ∷ [])
    × StandsForPlain k p (after_all p (commands ++ next ∷ [])) c)

-- ---- lines

-- The reply lines of these commands were put whole, and that of no further one.
abbrev pub HasAnswered : PlainHistory → List ℕ → List Command → Option (List ℕ)
    → Option (List ℕ) → Type 0
HasAnswered p text commands old new =
    (rest : List ℕ) × Appends old new (lines p commands ++ rest)
    × ((next : Command) (tail : List ℕ) → BeginsScript text (commands ++ next ∷ [])
    → rest ≡ reply_line (reply_to (after_all p commands) next) ++ tail → ⊥)

-- ---- tokens

-- The tokens of this catalogue lead to the keys of their labels under the two masters. Over them a
-- user derives exactly the keys of the labels in the user's closure. This closure has all the
-- labels that protect a file exactly where the matrix lists the user.
pub record PublishesMatrix (k : Masters) (m : Matrix) (c : Catalogue) : Type 0 where
  pub tokens : AreTrueTokens k c
  pub derived : (user : ℕ) (label : Label) (key : List ℕ)
      → DerivesKey k c user label key ↔ IsKeyOf k (HoldsLabel c user) label key
  pub matrix : (user file : ℕ) (f : Filed) → user < length m.users
      → living_at c.files file ≡ Some f → HoldsFile c user f ↔ (is_listed m user file ≡ true)

-- Whatever history this image keeps under the two masters, what a store publishes after that one
-- is the matrix of the history p.
abbrev pub PublishesMatrixOf : Masters → PlainHistory → Image → Type 0
PublishesMatrixOf k p i =
    (g : SealedHistory) → Keeps (keys_of k) g i
    → PublishesMatrix k (matrix_of (history_of p)) (catalogue_of k.surface g)

-- ---- disks

module _ {D : Type 0} (tells : DiskTells D) where
  -- The disk opens for the masters and the mode: it tells its bytes, nothing is pending, and the
  -- image stands for this legal history of the mode, as it is sealed under the masters, but for the
  -- tags and the bytes of files that are gone. What is said from such a history on is so from each
  -- one as which the disk opens: they differ in the bytes of gone files alone.
  pub record OpensAs (k : Masters) (mode : Mode) (p : PlainHistory) (disk : D) : Type 0 where
    pub image : Image
    pub told : tells.reads disk ≡ Some image
    pub settled : Only image (tells.may_leave disk)
    pub legal : IsLegal (history_of p)
    pub mode_is : p.mode ≡ mode
    pub stands : (g : SealedHistory) × IsSealedAs k p g × IsImageOf (keys_of k) g image

  -- What lasts on a disk of a history that goes on from a start. As it reads, and as each image
  -- that a stop may leave of it, it keeps the history, so a store was begun there; and what it
  -- publishes, read again from that image, is the matrix of the history.
  pub record LastsAs (k : Masters) (start p : PlainHistory) (disk : D) : Type 0 where
    pub image : Image
    pub told : tells.reads disk ≡ Some image
    pub reads_it : KeepsPlain k start p image
    pub leaves_it : (c : Image) → tells.may_leave disk c → KeepsPlain k start p c
    pub tokens_read : PublishesMatrixOf k p image
    pub tokens_left : (c : Image) → tells.may_leave disk c → PublishesMatrixOf k p c

  -- what lasts of a whole script that was answered from a disk which stood for the history: the
  -- history after all its commands
  pub record Lasts (k : Masters) (p : PlainHistory) (text : List ℕ) (disk : D) : Type 0 where
    pub commands : List Command
    pub whole : IsScript text commands AtEnd
    pub lasts : LastsAs k p (after_all p commands) disk

  -- What a stop leaves of a script that is answered from a disk which stood for the history. At
  -- any moment since the start each image stands for the history after some first commands; and
  -- at the exit each has all updates whose reply line was put whole, and at most one more. Of a
  -- moment before the exit it isn't said which commands those are: a disk doesn't tell what had been
  -- put to a sink by then. But each put and each call of the disk may be the one that fails and ends
  -- a run, and of that moment the second half says it.
  pub record Survives (k : Masters) (p : PlainHistory) (text : List ℕ) (first last : D)
      (old new : Option (List ℕ)) : Type 0 where
    pub any_moment : LeavesOnly tells first last (KeepsFirst k p text)
    pub at_exit : (commands : List Command) × BeginsScript text commands
        × HasAnswered p text commands old new
        × ((c : Image) → tells.may_leave last c → KeepsNext k p text commands c)

  -- What the disk keeps of a script that ends with this status, from a disk which stood for the
  -- history: whatever the status, what a stop leaves; and with 0 what lasts of all of it.
  pub record Endures (k : Masters) (p : PlainHistory) (text : List ℕ) (status : ℕ) (first last : D)
      (old new : Option (List ℕ)) : Type 0 where
    pub survives : Survives k p text first last old new
    pub lasts : status ≡ 0 → Lasts k p text last
