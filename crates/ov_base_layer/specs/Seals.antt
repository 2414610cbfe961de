-- The tokens that the owner makes for the base layer: those of edges, and access tokens.
pub use Rattle.ov_graph.specs.Seals.{edge_token, cover_tokens}
use Rattle.std.specs.Prelude.{ℕ, List}
use Rattle.ov_tokens.specs.declared.label.Kind.TheVariants.{Derive, Access}
use Rattle.ov_tokens.specs.declared.token.Token.{Token}
use Rattle.ov_tokens.specs.Keys.{access_key_of, node_key, token_of}
use Rattle.ov_tokens.specs.Labels.{label_of}

-- the access token from the root of a user to a base node, under the base master: it leads from the
-- derivation key of the root to the access key of the node
abbrev pub access_token : List ℕ → ℕ → ℕ → Token
access_token master root node =
    record {
      bytes =
          token_of (node_key Derive master root) (label_of Access node)
          (access_key_of (node_key Derive master node));
    }
