-- The keys of labels, the tokens between them, and what else is derived from a key.
use Rattle.std.specs.Prelude.{ℕ, ◌≡◌, List, length}
use Rattle.sha2.specs.Sha256.{sha256}
use Rattle.ov_keyed.specs.Hmac.{hmac}
use Rattle.ov_tokens.specs.declared.label.Kind.{Kind}
use Rattle.ov_tokens.specs.declared.label.Kind.TheVariants.{Derive, Access, Surface}
use Rattle.ov_tokens.specs.declared.label.Label.{Label}
use Rattle.ov_tokens.specs.Labels.{label_bytes, label_of, tagged}
use Rattle.ov_tokens.specs.Xor.{xored}

-- the key of a node, from the master of its layer: the keyed hash of its label
abbrev pub node_key : Kind → List ℕ → ℕ → List ℕ
node_key kind master number = hmac master (label_bytes (label_of kind number))

-- the access key of a base node, from its derivation key
abbrev pub access_key_of : List ℕ → List ℕ
access_key_of key = sha256 key

-- the key of the label of a kind and number, from the base and the surface master
abbrev pub key_of_kind : List ℕ → List ℕ → Kind → ℕ → List ℕ
key_of_kind base surface Derive number = node_key Derive base number
key_of_kind base surface Access number = access_key_of (node_key Derive base number)
key_of_kind base surface Surface number = node_key Surface surface number

-- the key of a label, from the two masters
abbrev pub key_of_label : List ℕ → List ℕ → Label → List ℕ
key_of_label base surface label = key_of_kind base surface label.kind label.number

-- the token from a key to a label that has this key
abbrev pub token_of : List ℕ → Label → List ℕ → List ℕ
token_of from to key = xored key (hmac from (label_bytes to))

-- the key to which a token leads, from a key and the label that the token is to
abbrev pub derived_key : List ℕ → Label → List ℕ → List ℕ
derived_key from to token = xored token (hmac from (label_bytes to))

-- whoever holds the key that a token starts from derives the key that it was made for
abbrev pub TokensLeadBack : Type 0
TokensLeadBack =
    (from key : List ℕ) (to : Label)
    → length key ≡ 32
    → derived_key from to (token_of from to key) ≡ key

-- the key of a file's tag, from the access key of its base node: tag byte `T`
abbrev pub tag_key_of : List ℕ → ℕ → List ℕ
tag_key_of access file = hmac access (tagged 0x54 file)

-- the key of the owner's tags of updates, from the surface master: tag byte `U`
abbrev pub update_key_of : List ℕ → List ℕ
update_key_of surface = hmac surface (tagged 0x55 0)

-- the value by which a master is known again: tag byte `C`
abbrev pub check_value_of : List ℕ → List ℕ
check_value_of master = hmac master (tagged 0x43 0)
