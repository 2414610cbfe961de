-- The reader of a file, and the keys that follow from the chains that the reader is told.
use Rattle.std.specs.Prelude.{ℕ, List, Option, Some, None, Result, Ok, Err, bytes_eq}
use Rattle.std.specs.Prelude.{if◌then◌else◌}
use Rattle.ov_tokens.specs.declared.chain.Chain.{Chain}
use Rattle.ov_chain.specs.Walk.{access_along, walked}
use Rattle.ov_surface.specs.Coats.{base_coat, coated}
use Rattle.ov_surface.specs.Tags.{tag_of_file}
use Rattle.ov_wire.specs.declared.answer.Chained.{Chained}
use Rattle.ov_client.specs.declared.fault.ClientFault.{ClientFault}
use Rattle.ov_client.specs.declared.fault.ClientFault.TheVariants.{Damaged}

-- a user, and the number and the key of each of the user's two roots
pub record Reader : Type 0 where
  pub name : List ℕ
  pub base_root : ℕ
  pub base : List ℕ
  pub surface_root : ℕ
  pub surface : List ℕ

-- the keys of a file: the access key of its base node, and that of its surface, where it has one
pub record FileKeys : Type 0 where
  pub access : List ℕ
  pub surface : Option (List ℕ)

-- the key to which a surface chain leads, from the key of its root, where there is one
abbrev pub surface_along : List ℕ → Option Chain → Option (List ℕ)
surface_along key None = None
surface_along key (Some chain) = Some (walked key chain.steps)

-- the keys to which both chains lead, from those of the reader's roots
abbrev pub keys_along : Reader → Chained → FileKeys
keys_along r c = record {
  access = access_along r.base c.base;
  surface = surface_along r.surface c.surface;
}

-- what is under both coats of stored bytes, the first of which is at this place of the file
abbrev pub uncovered : FileKeys → ℕ → ℕ → List ℕ → List ℕ
uncovered keys file start bytes =
    base_coat keys.access file start (coated keys.surface file start bytes)

-- a file's bytes, where the tag that was told is theirs, and else both tags
abbrev pub judged : FileKeys → Chained → List ℕ → Result (List ℕ) ClientFault
judged keys c bytes =
    if bytes_eq (tag_of_file keys.access c.file bytes) c.tag then Ok bytes
    else Err (Damaged c.tag (tag_of_file keys.access c.file bytes))
