-- Entries that are given are those of a store.
use Rattle.std.proofs.Common.{◌≡◌, ◌∙◌, ℕ, zero, suc, ◌^◌, ◌<◌, ◌≤◌, List, [], ◌∷◌, ◌++◌, length, ap, refl, sym, subst, arith}
use Rattle.std.specs.Prelude.{Option, Some, None, IfSome, slice_get, slice_index, slice_index_or, Contains}
use Rattle.std.specs.List.{AllByRecursion}
use Rattle.std.proofs.lemmas.Nat.{ones-le}
use Rattle.std.proofs.lemmas.Option.{slice_get-get_or, slice_get_within}
use Rattle.ov_base.specs.declared.limits.TheConstants.{MAX_USERS, MAX_LAYER_NODES}
use Rattle.ov_base.specs.Names.{IsName}
use Rattle.ov_base.specs.Sets.{IsBelow, size}
use Rattle.ov_base.proofs.SetLaws.{IsBelow-small}
use Rattle.ov_tokens.specs.declared.edge.Edge.{Edge}
use Rattle.ov_graph.specs.Contents.{starts_of}
use Rattle.ov_graph.proofs.GraphLaws.{edges-few}
use Rattle.ov_graph.proofs.ListLaws.{Contains-first, Contains-later, place-Contains}
use Rattle.ov_graph.proofs.ReachLaws.{starts-Contains}
use Rattle.ov_base_layer.specs.declared.grant.Grant.{Grant}
use Rattle.ov_base_layer.specs.Holders.{access_of, accesses_of}
use Rattle.ov_fields.specs.Spelling.{IsToken}
use Rattle.ov_history.specs.Asking.{Numbers, of_user}
use Rattle.ov_history.specs.Catalogue.{Catalogue, Filed, Nodes}
use Rattle.ov_history.specs.Places.{living_at}
use Rattle.ov_history.specs.Sound.{IsPlaced}
use Rattle.ov_history.proofs.Storing.{living_below}
use Rattle.ov_state.specs.Contents.{IsWell}
use Rattle.ov_wire.specs.AnswerForm.{IsSomeEntry}
use Rattle.ov_wire.specs.Entries.{Entry, User, Node, Access, File, Gone, IsEdge, IsNode, IsNodeEntry, IsOfPart, entry_bytes}
use Rattle.ov_wire.specs.Updates.{Has32}
use Rattle.ov_protocol.specs.Pages.{entry_of, file_entry_of, node_entry_of, page_of}
use Rattle.ov_server.specs.Telling.{IsLayerOfStore, LeadByTokens, PagesNode}
use Rattle.ov_server.proofs.AskForms.{AreNumbers, user_numbers}

-- ---- nodes

edges_form : (edges : List Edge) (most : ℕ) → most ≤ MAX_LAYER_NODES
    → ((n : ℕ) → Contains (starts_of edges) n → n < most)
    → LeadByTokens edges → AllByRecursion IsEdge edges
edges_form [] most few below tokens = tt
edges_form (edge ∷ edges) most few below tokens = (
  (
    omega (arith, below edge.from (Contains-first edge.from (starts_of edges)), few),
    tokens.0,
  ),
  edges_form edges most few
      (λ n there. below n (Contains-later edge.from (starts_of edges) n there)) tokens.1,
)

-- a set of a layer, and the edges into its node
pub node_form : (nodes : Nodes) (number : ℕ) → IsLayerOfStore nodes → number < length nodes.sets
    → LeadByTokens (slice_index_or nodes.edges number [])
    → IsNodeEntry (slice_index nodes.sets number) (slice_index_or nodes.edges number [])
node_form nodes number (users, few, layer) there tokens =
    let set : ℕ = slice_index nodes.sets number in
    let below : IsBelow MAX_USERS set =
    λ user one.
    omega (arith, few, layer.below set (place-Contains nodes.sets number set there refl) user one)
    in
    let small : size set ≤ MAX_USERS = ones-le MAX_USERS set (IsBelow-small MAX_USERS set below) in (
      below,
      omega (arith, edges-few nodes.sets nodes.edges layer.graph number there, small),
      edges_form (slice_index_or nodes.edges number []) number
          (omega (arith, there, layer.few))
          (λ n from.
          (starts-Contains nodes.sets number n
          (subst (λ (l : List ℕ). Contains l n) (layer.graph.covers number there) from)).0)
          tokens,
    )

-- the bytes of a node's entry
pub pages_node : (nodes : Nodes) (number : ℕ) (bytes : List ℕ) → IsLayerOfStore nodes
    → number < length nodes.sets
    → LeadByTokens (slice_index_or nodes.edges number [])
    → bytes
    ≡ entry_bytes (Node (slice_index nodes.sets number) (slice_index_or nodes.edges number []))
    → PagesNode nodes number (Some bytes)
pages_node nodes number bytes store there tokens spelled = record {
  entry = ap Some spelled
      ∙ ap (λ o. page_of (node_entry_of nodes number o))
      (sym (slice_get-get_or nodes.sets number 0 there));
  form = (
    2,
    record {
      entry = Node (slice_index nodes.sets number) (slice_index_or nodes.edges number []);
      form = node_form nodes number store there tokens;
      spelled = spelled;
    },
  );
}

-- ---- users, access tokens and files

pub user_form : (limit : ℕ) (c : Catalogue) (number : ℕ) (name : List ℕ) (roots : Numbers)
    → IsWell limit c → slice_get c.users number ≡ Some name → IsName name
    → roots ≡ of_user c number → IsOfPart 1 (User name roots.base_root roots.surface_root)
user_form limit c number name roots well there named told =
    let are : AreNumbers roots =
    subst AreNumbers (sym told)
    (user_numbers limit c number well (slice_get_within c.users number name there)) in
    (named, are.base_root, are.surface_root)

access_among : (grants : List Grant) (number : ℕ) (grant : Grant)
    → slice_get grants number ≡ Some grant → Contains (accesses_of grants) (access_of grant)
access_among [] number grant there = absurd (cc)
access_among (first ∷ grants) zero grant there =
    let same : first ≡ grant = cc in
    subst (λ (g : Grant). Contains (accesses_of (first ∷ grants)) (access_of g)) same
    (Contains-first (access_of first) (accesses_of grants))
access_among (first ∷ grants) (suc number) grant there =
    Contains-later (access_of first) (accesses_of grants) (access_of grant)
    (access_among grants number grant there)

pub access_form : (limit : ℕ) (c : Catalogue) (number : ℕ) (grant : Grant) → IsWell limit c
    → slice_get c.grants number ≡ Some grant → IsToken grant.token
    → IsOfPart 4 (Access grant.user grant.node grant.token)
access_form limit c number grant well there token =
    let among = access_among c.grants number grant there in (
      omega (arith, well.sound.accesses.users (access_of grant) among, well.users),
      omega (arith, well.sound.accesses.nodes (access_of grant) among, well.sound.base.few),
      token,
    )

node_or_none : (surface : Option ℕ) (count : ℕ) → count ≤ MAX_LAYER_NODES
    → IfSome surface (λ n. n < count) → IfSome surface IsNode
node_or_none None count few there = tt
node_or_none (Some node) count few there = omega (arith, there, few)

pub file_form : (limit : ℕ) (c : Catalogue) (number : ℕ) (f : Filed) → IsWell limit c
    → living_at c.files number ≡ Some f → IsName f.name → Has32 f.tag → f.generation < 2 ^ 32
    → IsOfPart 5 (File f.name f.node f.length f.generation f.tag f.surface)
file_form limit c number f well there named tag generation =
    let placed : IsPlaced c f = well.sound.files number f there in (
      named,
      omega (arith, placed.base, well.sound.base.few),
      omega (arith, well.each number f there),
      generation,
      tag,
      node_or_none f.surface (length c.surface.sets) well.sound.surface.few placed.surface,
    )

-- the bytes of an entry, which were appended to none
pub some_entry : (part : ℕ) (entry : Entry) (before bytes all : List ℕ) → IsOfPart part entry
    → before ≡ [] → bytes ≡ before ++ entry_bytes entry → all ≡ bytes → IsSomeEntry all
some_entry part entry before bytes all form none spelled same = (
  part,
  record {
    entry = entry;
    form = form;
    spelled = same ∙ spelled ∙ ap (λ l. l ++ entry_bytes entry) none;
  },
)

-- ---- files by number

-- the entry of a number that was given is that of what is there
number_given : (c : Catalogue) (number : ℕ) (o : Option Filed) → number < length c.files
    → living_at c.files number ≡ o → entry_of c 5 number ≡ file_entry_of (Some o)
number_given c number o given is =
    ap (λ (p : Option (Option Filed)). file_entry_of p)
    (slice_get-get_or c.files number None given ∙ ap Some is)

pub entry_there : (c : Catalogue) (number : ℕ) (f : Filed) → living_at c.files number ≡ Some f
    → entry_of c 5 number ≡ Some (File f.name f.node f.length f.generation f.tag f.surface)
entry_there c number f is =
    number_given c number (Some f) (living_below c.files number f is) is

pub entry_gone : (c : Catalogue) (number : ℕ) → number < length c.files
    → living_at c.files number ≡ None → entry_of c 5 number ≡ Some Gone
entry_gone c number given none = number_given c number None given none

-- the bytes of an entry, which were appended to none, are as they stand in an answer
pub page_is : (given : Option Entry) (entry : Entry) (before bytes all : List ℕ)
    → given ≡ Some entry → before ≡ [] → bytes ≡ before ++ entry_bytes entry → all ≡ bytes
    → Some all ≡ page_of given
page_is given entry before bytes all is none spelled same =
    ap Some (same ∙ spelled ∙ ap (λ l. l ++ entry_bytes entry) none)
    ∙ ap (λ (o : Option Entry). page_of o) (sym is)
