-- The entries of the public catalogue, with sets in a given number of bytes.
use Rattle.std.specs.Prelude.{ℕ, List, ◌++◌, Option}
use Rattle.ov_base.specs.Sets.{bytes_of}
use Rattle.ov_tokens.specs.declared.token.Token.{Token}
use Rattle.ov_tokens.specs.declared.edge.Edge.{Edge}
use Rattle.ov_fields.specs.Spelling.{u32, name_field, token_field, optional, counted}

-- a user: name, base root and surface root
abbrev pub user_entry : List ℕ → ℕ → ℕ → List ℕ
user_entry name base_root surface_root = name_field name ++ u32 base_root ++ u32 surface_root

-- an edge into a node: the node that it starts at, and its token
abbrev pub edge_field : Edge → List ℕ
edge_field edge = u32 edge.from ++ token_field edge.token

-- a node of either layer: its set, and the edges into it
abbrev pub node_entry : ℕ → ℕ → List Edge → List ℕ
node_entry set_bytes set edges = bytes_of set_bytes set ++ counted edge_field edges

-- an access token: user, base node and token
abbrev pub access_entry : ℕ → ℕ → Token → List ℕ
access_entry user node token = u32 user ++ u32 node ++ token_field token

-- a file: name, base node, length, generation and tag, and the surface node where there is one
abbrev pub file_entry : List ℕ → ℕ → ℕ → ℕ → List ℕ → Option ℕ → List ℕ
file_entry name node length generation tag surface =
    name_field name ++ u32 node ++ u32 length ++ u32 generation ++ tag ++ optional u32 surface
