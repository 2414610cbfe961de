-- Entries of the public catalogue, as they stand in an answer.
use Rattle.std.specs.Prelude.{ℕ, zero, suc, ◌≡◌, ◌≤◌, ◌<◌, ◌^◌, List, [], ◌∷◌, length, Option, IfSome, Ok, Err}
use Rattle.std.specs.List.{AllByRecursion}
use Rattle.std.specs.Int.{w32}
use Rattle.ov_base.specs.declared.limits.TheConstants.{MAX_USERS, MAX_LAYER_NODES, MAX_FILE_BYTES, SET_BYTES}
use Rattle.ov_base.specs.Names.{IsName}
use Rattle.ov_base.specs.Sets.{IsBelow}
use Rattle.ov_tokens.specs.declared.token.Token.{Token}
use Rattle.ov_tokens.specs.declared.edge.Edge.{Edge}
use Rattle.ov_fields.specs.Spelling.{IsToken}
use Rattle.ov_fields.specs.Entries.{user_entry, node_entry, access_entry, file_entry}
use Rattle.ov_fields.specs.Reading.{Read, ◌>>◌, made, making, at_most, below, bytes_at, number_at, number_that, set_at, counted_at, optional_at, name_at, token_at}

-- an entry, by its fields; a file that is gone has none
pub data Entry : Type 0 where
  User : (name : List ℕ) → (base_root surface_root : ℕ) → Entry
  Node : (set : ℕ) → (edges : List Edge) → Entry
  Access : (user node : ℕ) → (token : Token) → Entry
  File : (name : List ℕ) → (node len generation : ℕ) → (tag : List ℕ) → (surface : Option ℕ)
      → Entry
  Gone : Entry

-- The entry's fields in order. For a file that is gone there is the byte 0, which can't be the
-- length of a name.
abbrev pub entry_bytes : Entry → List ℕ
entry_bytes (User name base_root surface_root) = user_entry name base_root surface_root
entry_bytes (Node set edges) = node_entry SET_BYTES set edges
entry_bytes (Access user node token) = access_entry user node token
entry_bytes (File name node len generation tag surface) =
    file_entry name node len generation tag surface
entry_bytes Gone = 0 ∷ []

-- the number of a node of a layer
abbrev pub IsNode : ℕ → Type 0
IsNode node = node < MAX_LAYER_NODES

-- an edge from a node, by a token
abbrev pub IsEdge : Edge → Type 0
IsEdge edge = IsNode edge.from × IsToken edge.token

-- a set of users, and an edge into the node from each of them at most
abbrev pub IsNodeEntry : ℕ → List Edge → Type 0
IsNodeEntry set edges =
    IsBelow MAX_USERS set × (length edges ≤ MAX_USERS) × AllByRecursion IsEdge edges

-- which entries a part can have: 1 users, 2 and 3 nodes, 4 access tokens, 5 files
abbrev pub IsOfPart : ℕ → Entry → Type 0
IsOfPart (suc zero) (User name base_root surface_root) =
    IsName name × IsNode base_root × IsNode surface_root
IsOfPart (suc (suc zero)) (Node set edges) = IsNodeEntry set edges
IsOfPart (suc (suc (suc zero))) (Node set edges) = IsNodeEntry set edges
IsOfPart (suc (suc (suc (suc zero)))) (Access user node token) =
    (user < MAX_USERS) × IsNode node × IsToken token
IsOfPart (suc (suc (suc (suc (suc zero))))) (File name node len generation tag surface) =
    IsName name × IsNode node × (len ≤ MAX_FILE_BYTES) × (generation < 2 ^ 32)
    × (length tag ≡ 32) × IfSome surface IsNode
IsOfPart (suc (suc (suc (suc (suc zero))))) Gone = Unit {0}
IsOfPart part entry = ⊥

-- the bytes are an entry of this part
pub record IsEntry (part : ℕ) (bytes : List ℕ) : Type 0 where
  pub entry : Entry
  pub form : IsOfPart part entry
  pub spelled : bytes ≡ entry_bytes entry

-- ---- reading

-- the number of a node
abbrev pub node_at : List ℕ → Read ℕ
node_at = number_that w32 (below MAX_LAYER_NODES)

-- name and roots of a user
abbrev pub user_entry_at : List ℕ → Read ((List ℕ × ℕ) × ℕ)
user_entry_at = name_at >> node_at >> node_at

-- the user with these fields
abbrev pub user : (List ℕ × ℕ) × ℕ → Entry
user ((name, base_root), surface_root) = User name base_root surface_root

-- start and token of an edge
abbrev pub edge_fields_at : List ℕ → Read (ℕ × Token)
edge_fields_at = node_at >> token_at

-- the edge with these fields
abbrev pub edge : ℕ × Token → Edge
edge (from, token) = record { from = from; token = token }

-- an edge
abbrev pub edge_at : List ℕ → Read Edge
edge_at = making edge edge_fields_at

-- a set in SET_BYTES bytes, and edges
abbrev pub node_entry_at : List ℕ → Read (ℕ × List Edge)
node_entry_at = set_at SET_BYTES >> counted_at MAX_USERS edge_at

-- the node with these fields
abbrev pub node : ℕ × List Edge → Entry
node (set, edges) = Node set edges

-- user, base node and token of an access token
abbrev pub access_entry_at : List ℕ → Read ((ℕ × ℕ) × Token)
access_entry_at = number_that w32 (below MAX_USERS) >> node_at >> token_at

-- the access token with these fields
abbrev pub access : (ℕ × ℕ) × Token → Entry
access ((user, node), token) = Access user node token

-- the fields of a file that follow its name
abbrev pub filed_at : List ℕ → Read ((((ℕ × ℕ) × ℕ) × List ℕ) × Option ℕ)
filed_at =
    node_at >> number_that w32 (at_most MAX_FILE_BYTES) >> number_at w32 >> bytes_at 32
    >> optional_at node_at

-- the fields of a file, in the order of their bytes
abbrev pub file_entry_at : List ℕ → Read (List ℕ × ((((ℕ × ℕ) × ℕ) × List ℕ) × Option ℕ))
file_entry_at = name_at >> filed_at

-- the file with these fields
abbrev pub file : List ℕ × ((((ℕ × ℕ) × ℕ) × List ℕ) × Option ℕ) → Entry
file (name, ((((node, len), generation), tag), surface)) =
    File name node len generation tag surface

-- a file, or the byte 0 where it is gone
unfoldable pub file_or_gone_at : List ℕ → Read Entry
file_or_gone_at (zero ∷ bytes) = Ok (Gone, bytes)
file_or_gone_at bytes = made file (file_entry_at bytes)

-- the fields of an entry of this part
unfoldable pub entry_at : ℕ → List ℕ → Read Entry
entry_at (suc zero) = making user user_entry_at
entry_at (suc (suc zero)) = making node node_entry_at
entry_at (suc (suc (suc zero))) = making node node_entry_at
entry_at (suc (suc (suc (suc zero)))) = making access access_entry_at
entry_at (suc (suc (suc (suc (suc zero))))) = file_or_gone_at
entry_at part = λ bytes. Err (length bytes)
