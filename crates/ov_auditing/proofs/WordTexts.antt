-- Words as texts, and which of them ask for an audit.
use Rattle.std.proofs.Common.{◌≡◌, ◌⊎◌, ℕ, suc, ◌≤◌, ◌<◌, Bool, List, [], ◌∷◌, length, get_or, inl, inr, refl}
use Rattle.std.proofs.Common.{sym, ◌∙◌, arith, ap, subst, true, false}
use Rattle.std.specs.Prelude.{String, string_bytes, codes, map, Option, Some, None, Result, Ok, Err}
use Rattle.std.specs.Prelude.{IfNone, IfOk, IfSome}
use Rattle.std.specs.declared.alloc.Global.{Global}
use Rattle.ov_auditing.specs.AuditWords.{AreNoAudit, IsAudit, IsListOfSome, server_words}
use Rattle.ov_auditing.specs.declared.audit_words.Asked.{Asked}

-- ---- some words, as texts

two_first : (w v : String Global) (ws : List (String Global)) (a b : String Global) (x y : List ℕ)
    → a ≡ w → b ≡ v → x ≡ string_bytes a → y ≡ string_bytes b
    → map string_bytes (w ∷ v ∷ ws) ≡ x ∷ y ∷ map string_bytes ws
two_first w v ws a b x y p q e f =
    ap (λ t. t ∷ string_bytes v ∷ map string_bytes ws) (sym (e ∙ ap string_bytes p))
    ∙ ap (λ t. x ∷ t ∷ map string_bytes ws) (sym (f ∙ ap string_bytes q))

pub two_texts : (words : List (String Global)) (a b : String Global) (x y : List ℕ)
    → 2 ≤ length words → length words < 3 → a ≡ get_or words 0 a → b ≡ get_or words 1 b
    → x ≡ string_bytes a → y ≡ string_bytes b → map string_bytes words ≡ x ∷ y ∷ []
two_texts [] a b x y low high p q e f = absurd (omega arith)
two_texts (w ∷ []) a b x y low high p q e f = absurd (omega arith)
two_texts (w ∷ v ∷ []) a b x y low high p q e f = two_first w v [] a b x y p q e f
two_texts (w ∷ v ∷ u ∷ ws) a b x y low high p q e f = absurd (omega arith)

pub three_texts : (words : List (String Global)) (a b c : String Global) (x y z : List ℕ)
    → 3 ≤ length words → length words < 4 → a ≡ get_or words 0 a → b ≡ get_or words 1 b
    → c ≡ get_or words 2 c → x ≡ string_bytes a → y ≡ string_bytes b → z ≡ string_bytes c
    → map string_bytes words ≡ x ∷ y ∷ z ∷ []
three_texts [] a b c x y z low high p q s e f h = absurd (omega arith)
three_texts (w ∷ []) a b c x y z low high p q s e f h = absurd (omega arith)
three_texts (w ∷ v ∷ []) a b c x y z low high p q s e f h = absurd (omega arith)
three_texts (w ∷ v ∷ u ∷ []) a b c x y z low high p q s e f h =
    let third : c ≡ u = s in
    two_first w v (u ∷ []) a b x y p q e f
    ∙ ap (λ t. x ∷ y ∷ t ∷ []) (sym (h ∙ ap string_bytes third))
three_texts (w ∷ v ∷ u ∷ t ∷ ws) a b c x y z low high p q s e f h = absurd (omega arith)

same_count : (words : List (String Global)) → length (map string_bytes words) ≡ length words
same_count [] = refl
same_count (w ∷ words) = ap (λ n. suc n) (same_count words)

-- ---- what was found of them

pub found_by : {E : Type 0} (r : Result (Option Asked) E) (P Q : Asked → Type 0)
    → ((asked : Asked) → P asked → Q asked) → IfOk r (λ found. IfSome found P)
    → IfOk r (λ found. IfSome found Q)
found_by (Ok (Some asked)) P Q so found = so asked found
found_by (Ok None) P Q so found = tt
found_by (Err e) P Q so found = tt

pub none_by : {E : Type 0} (r : Result (Option Asked) E) (P Q : Type 0) → (P → Q)
    → IfOk r (λ found. IfNone found P) → IfOk r (λ found. IfNone found Q)
none_by (Ok (Some asked)) P Q so none = tt
none_by (Ok None) P Q so none = so none
none_by (Err e) P Q so none = tt

-- ---- two words

module _ (words : List (String Global)) (x y : List ℕ) (texts : map string_bytes words ≡ x ∷ y ∷ [])
  where
    pub two_ask : (asked : Asked)
        → (x ≡ codes "audit") × IsListOfSome y asked.names × (asked.server ≡ false)
        → IsAudit asked words
    two_ask asked (first, is, helps) = (
      y,
      is,
      texts ∙ ap (λ t. t ∷ y ∷ []) first
          ∙ ap (λ (b : Bool). codes "audit" ∷ y ∷ server_words b) (sym helps),
    )

    pub two_ask_none : ((names : List (List ℕ)) → x ≡ codes "audit" → IsListOfSome y names → ⊥)
        → AreNoAudit words
    two_ask_none none asked (list, is, bytes) =
        let same : x ∷ y ∷ [] ≡ codes "audit" ∷ list ∷ server_words asked.server =
        sym texts ∙ bytes in
        let first : x ≡ codes "audit" = cc same in
        let second : y ≡ list = cc same in
        none asked.names first (subst (λ t. IsListOfSome t asked.names) (sym second) is)

-- ---- three

three_same : (helps : Bool) (x y z list : List ℕ)
    → x ∷ y ∷ z ∷ [] ≡ codes "audit" ∷ list ∷ server_words helps
    → (z ≡ codes "server") × (x ≡ codes "audit") × (y ≡ list)
three_same true x y z list same = (cc same, cc same, cc same)
three_same false x y z list same = absurd (cc same)

module _ (words : List (String Global)) (x y z : List ℕ)
    (texts : map string_bytes words ≡ x ∷ y ∷ z ∷ []) where
  pub three_ask : (asked : Asked)
      → (z ≡ codes "server") × (x ≡ codes "audit") × IsListOfSome y asked.names
      × (asked.server ≡ true)
      → IsAudit asked words
  three_ask asked (last, first, is, helps) = (
    y,
    is,
    texts ∙ ap (λ t. t ∷ y ∷ z ∷ []) first ∙ ap (λ t. codes "audit" ∷ y ∷ t ∷ []) last
        ∙ ap (λ (b : Bool). codes "audit" ∷ y ∷ server_words b) (sym helps),
  )

  pub three_ask_none : ((names : List (List ℕ)) → z ≡ codes "server" → x ≡ codes "audit"
      → IsListOfSome y names → ⊥)
      → AreNoAudit words
  three_ask_none none asked (list, is, bytes) =
      let same = three_same asked.server x y z list (sym texts ∙ bytes) in
      none asked.names same.0 same.1
      (subst (λ t. IsListOfSome t asked.names) (sym same.2) is)

-- ---- fewer or more

one_at_most : (helps : Bool) → length (server_words helps) ≤ 1
one_at_most true = omega arith
one_at_most false = omega arith

pub other_count : (words : List (String Global)) → (length words < 2) ⊎ (4 ≤ length words)
    → AreNoAudit words
other_count words (inl few) asked (list, is, bytes) =
    let many : length (map string_bytes words)
    ≡ length (codes "audit" ∷ list ∷ server_words asked.server) = ap length bytes in
    omega (arith, few, many, same_count words)
other_count words (inr more) asked (list, is, bytes) =
    let many : length (map string_bytes words)
    ≡ length (codes "audit" ∷ list ∷ server_words asked.server) = ap length bytes in
    omega (arith, more, many, same_count words, one_at_most asked.server)
