-- What is kept of the first updates doesn't depend on later ones.
use Rattle.std.proofs.Common.{◌≡◌, ◌<◌, ◌≤◌, ◌+◌, ℕ, zero, suc, List, [], ◌∷◌, ◌++◌}
use Rattle.std.proofs.Common.{length, refl, sym, ◌∙◌, ap, subst, arith, inl, inr, length-append}
use Rattle.std.specs.Prelude.{Contains, slice_get}
use Rattle.std.proofs.lemmas.List.{take-append-le}
use Rattle.ov_history.specs.History.{History, Update, file_at, matrix_of, with_update}
use Rattle.ov_history.specs.Layers.{holders, layers_of, node_of}
use Rattle.ov_history.specs.Words.{cut_to}
use Rattle.ov_thinning.specs.Idle.{IsIdlePair, IsThere, as_before, list_before, publishes}
use Rattle.ov_thinning.specs.Thin.{AreKeptOf, IsPartner, KeepsNext, NamesAt}
use Rattle.ov_thinning.specs.Laws.{ThinsGoOn}

-- the histories have the same first updates
pub record AgreeTo (n : ℕ) (h g : History) : Type 0 where
  pub mode : h.mode ≡ g.mode
  pub before : (k : ℕ) → k ≤ n → as_before h k ≡ as_before g k
  pub at : (k : ℕ) → k < n → slice_get h.updates k ≡ slice_get g.updates k

agree_back : (n : ℕ) (h g : History) → AgreeTo n h g → AgreeTo n g h
agree_back n h g agree = record {
  mode = sym agree.mode;
  before = λ k low. sym (agree.before k low);
  at = λ k low. sym (agree.at k low);
}

module _ (n : ℕ) (h g : History) (agree : AgreeTo n h g) where
  there_moves : (i j file list : ℕ) → i ≤ n → j ≤ n → IsThere h i j file list → IsThere g i j file list
  there_moves i j file list low most (inl there) =
      inl (subst (λ (x : History). Contains (layers_of x).surface list) (agree.before i low) there)
  there_moves i j file list low most (inr (delta, is)) =
      inr (
        sym agree.mode ∙ delta,
        is ∙ ap (λ (x : History). holders (layers_of x) (node_of (layers_of x) file)) (agree.before j most),
      )

  list_moves : (k file : ℕ) → k ≤ n → list_before h k file ≡ list_before g k file
  list_moves k file low = ap (λ (x : History). (file_at (matrix_of x) file).list) (agree.before k low)

  pub pair_moves : (i j : ℕ) → j < n → IsIdlePair h i j → IsIdlePair g i j
  pair_moves i j most pair =
      let ahead = pair.ahead in record {
        user = pair.user;
        file = pair.file;
        one = pair.one;
        other = pair.other;
        ahead = pair.ahead;
        first = sym (agree.at i (omega arith)) ∙ pair.first;
        second = sym (agree.at j most) ∙ pair.second;
        opposite = pair.opposite;
        apart = λ k u begun ends is. pair.apart k u begun ends (agree.at k (omega arith) ∙ is);
        silent = ap (λ (x : History). publishes (layers_of x) pair.one) (sym (agree.before i (omega arith)))
            ∙ pair.silent;
        silent_too = ap (λ (x : History). publishes (layers_of x) pair.other) (sym (agree.before j (omega arith)))
            ∙ pair.silent_too;
        before =
            subst (λ set. IsThere g i j pair.file set) (list_moves i pair.file (omega arith))
            (there_moves i j pair.file (list_before h i pair.file) (omega arith) (omega arith) pair.before);
        after =
            subst (λ set. IsThere g i j pair.file set) (list_moves (i + 1) pair.file (omega arith))
            (there_moves i j pair.file (list_before h (i + 1) pair.file) (omega arith) (omega arith) pair.after);
      }

  names_move : (p file : ℕ) → p < n → NamesAt h p file → NamesAt g p file
  names_move p file low (u, at, named) = (u, sym (agree.at p low) ∙ at, named)

-- so which places are kept
module _ (n : ℕ) (h g : History) (agree : AgreeTo n h g) where
  partner_moves : (places : List ℕ) (j i : ℕ) → j < n → IsPartner h places j i
      → IsPartner g places j i
  partner_moves places j i most (last, pair) = (
    record {
      file = last.file;
      own = names_move n h g agree j last.file most last.own;
      held = last.held;
      named = names_move n h g agree i last.file (omega (arith, pair.ahead)) last.named;
      last = λ p there below named. last.last p there below
          (names_move n g h (agree_back n h g agree) p last.file (omega arith) named);
    },
    pair_moves n h g agree i j most pair,
  )

next_moves : (n : ℕ) (h g : History) (agree : AgreeTo n h g) (j : ℕ) (before kept : List ℕ) → j < n
    → KeepsNext h j before kept → KeepsNext g j before kept
next_moves n h g agree j before kept most (inl (i, partner, is)) =
    inl (i, partner_moves n h g agree before j i most partner, is)
next_moves n h g agree j before kept most (inr (none, is)) =
    inr (λ i partner. none i (partner_moves n g h (agree_back n h g agree) before j i most partner), is)

pub kept_moves : (n : ℕ) (h g : History) (agree : AgreeTo n h g) (j : ℕ) (kept : List ℕ) → j ≤ n
    → AreKeptOf h j kept → AreKeptOf g j kept
kept_moves n h g agree zero kept most is = is
kept_moves n h g agree (suc j) kept most (before, rest, step) = (
  before,
  kept_moves n h g agree j before (omega arith) rest,
  next_moves n h g agree j before kept (omega arith) step,
)

-- ---- one update more

get_front : (us more : List Update) (k : ℕ) → k < length us → slice_get us k ≡ slice_get (us ++ more) k
get_front [] more k low = absurd (omega arith)
get_front (u ∷ us) more zero low = refl
get_front (u ∷ us) more (suc k) low = get_front us more k (omega arith)

pub agree_more : (h : History) (u : Update) → AgreeTo (length h.updates) h (with_update h u)
agree_more h u = record {
  mode = refl;
  before = λ k low. ap (λ (us : List Update). cut_to h us) (sym (take-append-le k h.updates (u ∷ []) low));
  at = λ k low. get_front h.updates (u ∷ []) k low;
}

pub thins_go_on : ThinsGoOn
thins_go_on h u before kept thin step =
    let many : length (h.updates ++ u ∷ []) ≡ suc (length h.updates) =
    length-append h.updates (u ∷ []) ∙ add_one in
    subst (λ n. AreKeptOf (with_update h u) n kept) (sym many) (
      before,
      kept_moves (length h.updates) h (with_update h u) (agree_more h u) (length h.updates) before
          (omega arith) thin,
      step,
    ) where
      add_one : length h.updates + 1 ≡ suc (length h.updates)
      add_one = omega arith
