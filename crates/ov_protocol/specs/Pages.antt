-- The public catalogue, entry by entry.
use Rattle.std.specs.Prelude.{ℕ, zero, suc, List, [], slice_get, slice_index_or}
use Rattle.std.specs.Prelude.{Option, Some, None}
use Rattle.ov_base_layer.specs.declared.grant.Grant.{Grant}
use Rattle.ov_history.specs.Layers.{root_of}
use Rattle.ov_history.specs.Catalogue.{Catalogue, Filed, Nodes}
use Rattle.ov_wire.specs.Entries.{Entry, User, Node, Access, File, Gone, entry_bytes}

-- the entry of the user of this name and number, where there is one
abbrev pub user_entry_of : Catalogue → ℕ → Option (List ℕ) → Option Entry
user_entry_of c number None = None
user_entry_of c number (Some name) =
    Some (User name (root_of c.base.sets number) (root_of c.surface.sets number))

-- the entry of the node of this set and number, where there is one
abbrev pub node_entry_of : Nodes → ℕ → Option ℕ → Option Entry
node_entry_of nodes number None = None
node_entry_of nodes number (Some set) = Some (Node set (slice_index_or nodes.edges number []))

-- the entry of this access token, where there is one
abbrev pub access_entry_of : Option Grant → Option Entry
access_entry_of None = None
access_entry_of (Some grant) = Some (Access grant.user grant.node grant.token)

-- The entry of the file of a number. Of a number that no file ever had there is none; a file that
-- is gone has one, without its fields.
abbrev pub file_entry_of : Option (Option Filed) → Option Entry
file_entry_of None = None
file_entry_of (Some None) = Some Gone
file_entry_of (Some (Some f)) =
    Some (File f.name f.node f.length f.generation f.tag f.surface)

-- The entry of a part with this number. Part 1 has the users, 2 the base nodes, 3 the surface
-- nodes, 4 the access tokens as they were published, and 5 the files, gone ones among them; no
-- other part has any.
abbrev pub entry_of : Catalogue → ℕ → ℕ → Option Entry
entry_of c (suc zero) number = user_entry_of c number (slice_get c.users number)
entry_of c (suc (suc zero)) number =
    node_entry_of c.base number (slice_get c.base.sets number)
entry_of c (suc (suc (suc zero))) number =
    node_entry_of c.surface number (slice_get c.surface.sets number)
entry_of c (suc (suc (suc (suc zero)))) number = access_entry_of (slice_get c.grants number)
entry_of c (suc (suc (suc (suc (suc zero))))) number = file_entry_of (slice_get c.files number)
entry_of c part number = None

-- an entry as it stands in an answer
abbrev pub page_of : Option Entry → Option (List ℕ)
page_of None = None
page_of (Some entry) = Some (entry_bytes entry)
