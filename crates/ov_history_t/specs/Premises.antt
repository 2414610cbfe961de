-- Rows of premises: that what laws of histories, extents and writes ask for is so somewhere.
use Rattle.std.specs.Prelude.{◌≡◌, ℕ, ◌+◌, ◌<◌, List, [], ◌∷◌, length, Some}
use Rattle.ov_blocks.specs.Extents.{IsBlockOf}
use Rattle.ov_blocks.specs.Laws.{AreWithin}
use Rattle.ov_disk.specs.Disk.{Image, bytes_of as area_bytes}
use Rattle.ov_disk.specs.Model.{BeginInside, Range}
use Rattle.ov_disk.specs.declared.area.Area.{Area}
use Rattle.ov_tokens.specs.Keys.{key_of_label, token_of}
use Rattle.ov_tokens.specs.Labels.{label_of}
use Rattle.ov_tokens.specs.declared.chain.Step.{Step}
use Rattle.ov_tokens.specs.declared.label.Kind.TheVariants.{Access, Surface}
use Rattle.ov_tokens.specs.declared.label.Label.{Label}
use Rattle.ov_tokens.specs.declared.token.Token.{Token}
use Rattle.ov_chain.specs.Walk.{AreTrue}
use Rattle.ov_history.specs.Briefs.{BriefReplace, IsNamed}
use Rattle.ov_history.specs.Catalogue.{Catalogue, filed_at}
use Rattle.ov_history.specs.History.{History}
use Rattle.ov_history.specs.Kept.{padded}
use Rattle.ov_history.specs.KeptLaws.{AllAreOwners}
use Rattle.ov_history.specs.Layers.{layers_of, root_of}
use Rattle.ov_history.specs.Masters.{Masters}
use Rattle.ov_history.specs.Plain.{PlainHistory, PlainUpdate, bytes_of, history_of}
use Rattle.ov_history.specs.Sealed.{catalogue_of}
use Rattle.ov_history.specs.Sealing.{sealed, sealed_update}
use Rattle.ov_history.specs.Words.{HasFile, IsPadded}
use Rattle.ov_books.specs.Closures.{HoldsByBase}
use Rattle.ov_model.specs.Streams.{IsEnd}

-- Over the bytes of each file that is there lies the pad of its base node's access key; and where it
-- has a surface, over these bytes in that pad the one of the surface's key.
pub record EachCoatIsAPad : Type 0 where
  pub base : (k : Masters) (p : PlainHistory) (file : ℕ) → HasFile (history_of p) file
      → let f = filed_at (catalogue_of k.surface (sealed k p)) file in
      IsPadded k p (label_of Access f.node) file (bytes_of p file)
  pub surface : (k : Masters) (p : PlainHistory) (file node : ℕ) → HasFile (history_of p) file
      → let f = filed_at (catalogue_of k.surface (sealed k p)) file in
      f.surface ≡ Some node
      → IsPadded k p (label_of Surface node) file
      (padded k file (label_of Access f.node ∷ []) (bytes_of p file))

-- a replacement is named by any name that isn't empty
abbrev pub NamesThatAreNotEmptyName : Type 0
NamesThatAreNotEmptyName =
    (byte : ℕ) (name : List ℕ) (names : List (List ℕ)) (tokens : List Token) (tag : List ℕ)
    (size : ℕ)
    → IsNamed ((byte ∷ name) ∷ names) (BriefReplace 0 tokens tag size)

-- any update that an owner seals after a history is the owner's there
abbrev pub WhatOwnersSealIsTheirs : Type 0
WhatOwnersSealIsTheirs =
    (k : Masters) (h : History) (u : PlainUpdate)
    → AllAreOwners k h (sealed_update k (layers_of h) u ∷ [])

-- each block from the first of an extent on, as many as it has, is one of the extent's
abbrev pub ExtentsHaveTheirBlocks : Type 0
ExtentsHaveTheirBlocks =
    (first count k : ℕ) → k < count → IsBlockOf (first + k) (record { first = first; length = count })

-- places between two others are some of those between
abbrev pub PlacesBetweenAreWithin : Type 0
PlacesBetweenAreWithin =
    (first before n behind : ℕ) → AreWithin (first + before) n first (before + n + behind)

-- the range of so many bytes behind those of an area
abbrev pub range_behind : Area → Image → ℕ → Range
range_behind area i count = record { at = length (area_bytes area i); count = count }

-- a write at the end of an area begins inside it
abbrev pub WritesAtTheEndBeginInside : Type 0
WritesAtTheEndBeginInside =
    (area : Area) (i : Image) (count : ℕ)
    → BeginInside (record { area = area; range = range_behind area i count } ∷ []) i

-- fewer bytes than a length field has end a stream of frames
abbrev pub ShortBytesAreAnEnd : Type 0
ShortBytesAreAnEnd = (bytes : List ℕ) → length bytes < 4 → IsEnd bytes

-- over base tokens a user's base root leads to the access label of its own node
abbrev pub RootsHoldTheirOwnNode : Type 0
RootsHoldTheirOwnNode =
    (c : Catalogue) (user : ℕ)
    → HoldsByBase c user (label_of Access (root_of c.base.sets user))

-- the step to a label with the token that leads from the key of another one to its own
abbrev pub true_step : List ℕ → List ℕ → Label → Label → Step
true_step base surface from to = record {
  to = to;
  token = record {
    bytes = token_of (key_of_label base surface from) to (key_of_label base surface to);
  };
}

-- the tokens of two such steps are true, whatever the labels are
abbrev pub SealedStepsAreTrue : Type 0
SealedStepsAreTrue =
    (base surface : List ℕ) (from between to : Label)
    → AreTrue base surface from
    (true_step base surface from between ∷ true_step base surface between to ∷ [])
