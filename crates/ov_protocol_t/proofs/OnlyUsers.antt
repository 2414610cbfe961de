-- The line of the only user's keys has what a read by this user needs.
use Rattle.std.proofs.Common.{◌≡◌, ◌∙◌, [], ◌∷◌, ap, refl, subst, sym, List, ℕ, Some}
use Rattle.ov_base.specs.declared.key.Key.{Key}
use Rattle.ov_base.specs.declared.mode.Mode.{Mode}
use Rattle.ov_tokens.specs.Keys.{node_key}
use Rattle.ov_tokens.specs.declared.label.Kind.TheVariants.{Derive, Surface}
use Rattle.ov_client.specs.KeyLines.{IsLineOf, key_line}
use Rattle.ov_client.specs.Readers.{Reader}
use Rattle.ov_acts.specs.Completeness.{HasReadersLine}
use Rattle.ov_protocol_t.specs.Premises.{masters, one_user}

-- the reader whose name is `a`, with these keys of the first node of each layer
abbrev pub only_reader : List ℕ → List ℕ → Reader
only_reader base surface = record {
  name = 97 ∷ [];
  base_root = 0;
  base = base;
  surface_root = 0;
  surface = surface;
}

has_line : (base surface : List ℕ) (mode : Mode)
    → let r = only_reader (node_key Derive base 0) (node_key Surface surface 0) in
    IsLineOf (key_line r) r
    → HasReadersLine (Some (key_line r)) (masters base surface) (one_user mode)
has_line base surface mode is =
    let r = only_reader (node_key Derive base 0) (node_key Surface surface 0) in
    record {
      line = key_line r;
      told = refl;
      reader = r;
      is = is;
      holds = record { base = refl; surface = refl };
      roots = record { base = refl; surface = refl };
    }

-- the same of any line that is this reader's
right_line : (base surface : List ℕ) (mode : Mode) (r : Reader) (line : List ℕ)
    → r ≡ only_reader (node_key Derive base 0) (node_key Surface surface 0)
    → IsLineOf (key_line r) r → line ≡ key_line r
    → HasReadersLine (Some line) (masters base surface) (one_user mode)
right_line base surface mode r line same is written =
    let own = only_reader (node_key Derive base 0) (node_key Surface surface 0) in
    let its : IsLineOf (key_line own) own =
    subst (λ (s : Reader). IsLineOf (key_line s) s) same is in
    let is_own : line ≡ key_line own = subst (λ (s : Reader). line ≡ key_line s) same written in
    subst (λ (l : List ℕ). HasReadersLine (Some l) (masters base surface) (one_user mode))
    (sym is_own) (has_line base surface mode its)

-- the same where the reader's keys are made of masters that are these
pub made_line : (base surface m n : Key) (mode : Mode) (name base_key surface_key : List ℕ)
    (r : Reader) (line : List ℕ)
    → name ≡ 97 ∷ []
    → m ≡ base → base_key ≡ node_key Derive m.bytes 0
    → n ≡ surface → surface_key ≡ node_key Surface n.bytes 0
    → r ≡ record {
      name = name;
      base_root = 0;
      base = base_key;
      surface_root = 0;
      surface = surface_key;
    }
    → IsLineOf (key_line r) r → line ≡ key_line r
    → HasReadersLine (Some line) (masters base.bytes surface.bytes) (one_user mode)
made_line base surface m n mode name base_key surface_key r line named m_is base_is n_is surface_is
    is own written =
    let first : base_key ≡ node_key Derive base.bytes 0 =
    base_is ∙ ap (λ (k : Key). node_key Derive k.bytes 0) m_is in
    let second : surface_key ≡ node_key Surface surface.bytes 0 =
    surface_is ∙ ap (λ (k : Key). node_key Surface k.bytes 0) n_is in
    let same : r
    ≡ only_reader (node_key Derive base.bytes 0) (node_key Surface surface.bytes 0) = cc in
    right_line base.bytes surface.bytes mode r line same own written
