-- What a state says of a file, in the words of the layers.
use Rattle.std.proofs.Common.{◌≡◌, ◌<◌, ℕ, zero, suc, true, List, [], ◌∷◌, length, refl, sym, ◌∙◌, ap}
use Rattle.std.specs.Prelude.{Option, Some, None, option_map, is_some, unwrap_or, slice_index_or}
use Rattle.ov_history.specs.Places.{living_at}
use Rattle.std.proofs.Common.{◌≤◌, ◌==◌, Bool, get_or, eq-eqb}
use Rattle.std.specs.Prelude.{◌&&◌}
use Rattle.std.proofs.lemmas.List.{get_or_past}
use Rattle.std.proofs.lemmas.Option.{slice_get-get_or}
use Rattle.ov_history.specs.Layers.{holders, list_at, list_in, node_of}
use Rattle.ov_history.specs.Catalogue.{Catalogue, Filed, filed_at, no_filed, outline, place_of_file}
use Rattle.ov_history.proofs.Outlining.{lists-at, node-shown}
use Rattle.ov_tidy.specs.Thins.{plain_last, plain_notes}
use Rattle.ov_tidy.specs.declared.note.Last.{Last}

pub list_shown : (c : Catalogue) (file : ℕ) → is_some (living_at c.files file) ≡ true
    → list_at (outline c) (place_of_file (filed_at c file)) ≡ list_in (outline c) file
list_shown c file there =
    by_file (living_at c.files file) there ∙ ap (λ (o : Option ℕ). unwrap_or o 0) (sym (lists-at c file)) where
      by_file : (o : Option Filed) → is_some o ≡ true
          → list_at (outline c) (place_of_file (unwrap_or o no_filed))
          ≡ unwrap_or (option_map (λ f. list_at (outline c) (place_of_file f)) o) 0
      by_file None there = absurd (cc)
      by_file (Some f) there = refl

pub notes_at : (notes : List (Option Last)) (file : ℕ)
    → option_map plain_last (slice_index_or notes file None) ≡ living_at (plain_notes notes) file
notes_at [] file = refl
notes_at (note ∷ notes) zero = refl
notes_at (note ∷ notes) (suc file) = notes_at notes file

-- a list that a state gives of a file
pub shown_in : (inside c : Catalogue) (file list : ℕ) → inside ≡ c → is_some (living_at c.files file) ≡ true
    → list ≡ list_at (outline inside) (place_of_file (filed_at inside file)) → list ≡ list_in (outline c) file
shown_in inside c file list same there is =
    is ∙ ap (λ (d : Catalogue). list_at (outline d) (place_of_file (filed_at d file))) same ∙ list_shown c file there

pub note_is : (xs : List (Option Last)) (file : ℕ) (x d : Option Last) → file < length xs → x ≡ get_or xs file d
    → option_map plain_last x ≡ living_at (plain_notes xs) file
note_is xs file x d low is =
    ap (λ (o : Option Last). option_map plain_last o)
    (is ∙ ap (λ (o : Option (Option Last)). unwrap_or o None)
    (sym (slice_get-get_or xs file d low) ∙ slice_get-get_or xs file None low))
    ∙ notes_at xs file

pub note_none : (xs : List (Option Last)) (file : ℕ) → length xs ≤ file
    → None ≡ living_at (plain_notes xs) file
note_none xs file past = ap (λ (o : Option Last). option_map plain_last o) (sym (get_or_past xs file None past)) ∙ notes_at xs file

pub held_by : (c : Catalogue) (file set : ℕ) (f : Filed) → living_at c.files file ≡ Some f
    → set ≡ holders (outline c) f.node → set ≡ holders (outline c) (node_of (outline c) file)
held_by c file set f is held =
    held ∙ ap (λ (o : Option Filed). holders (outline c) (unwrap_or o no_filed).node) (sym is)
    ∙ ap (λ n. holders (outline c) n) (node-shown c file)

pub ends_all : (d : Bool) (u w : ℕ) (p q r : Bool) → d ≡ true → u ≡ w → p ≡ true → r ≡ q
    → r ≡ ((d && u == w) && (p && q))
ends_all d u w p q r one two three four =
    four
    ∙ sym
    (ap (λ (b : Bool). (b && u == w) && (p && q)) one
    ∙ ap (λ (b : Bool). b && (p && q)) (eq-eqb u w two)
    ∙ ap (λ (b : Bool). b && q) three)
