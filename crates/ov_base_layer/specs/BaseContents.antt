-- What a base layer contains, however it is kept.
use Rattle.std.specs.Prelude.{ℕ, ◌≤◌, List}
use Rattle.ov_graph.specs.Contents.{Contents}
use Rattle.ov_base_layer.specs.declared.grant.Grant.{Grant}
use Rattle.ov_base_layer.specs.Holders.{accesses_of, holders_in}

-- the graph of a base layer, the access tokens in the order in which they were published, and for
-- how many more of them there is room
pub record BaseContents : Type 0 where
  pub graph : Contents
  pub grants : List Grant
  pub spare_grants : ℕ

-- there is room for this many more access tokens
abbrev pub HasAccessRoom : BaseContents → ℕ → Type 0
HasAccessRoom layer grants = grants ≤ layer.spare_grants

-- the holders of a node
abbrev pub holders_of : BaseContents → ℕ → ℕ
holders_of layer node = holders_in layer.graph.sets (accesses_of layer.grants) node
