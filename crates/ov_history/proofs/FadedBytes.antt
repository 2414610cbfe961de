-- Histories that agree but for files that are gone have the same stored bytes.
use Rattle.std.proofs.Common.{◌≡◌, ◌∙◌, ℕ, suc, List, [], ◌∷◌, length, refl, sym, ap, arith}
use Rattle.std.specs.Prelude.{Option, Some, None, slice_index_or}
use Rattle.ov_surface.specs.Coats.{stored_under}
use Rattle.ov_history.specs.Places.{living_at}
use Rattle.ov_history.specs.Catalogue.{Catalogue, Filed}
use Rattle.ov_history.specs.Rewrites.{surface_key, surface_left}
use Rattle.ov_history.specs.Sealed.{catalogue_of, sent_of, stored_of}
use Rattle.ov_history.specs.FadingLaws.{AgreeingStoreTheSame}
use Rattle.ov_history.proofs.Fading.{agreeing_keep_the_same, agreeing_show_the_same}
use Rattle.ov_history.proofs.GoneBytes.{gone_bytes}
use Rattle.ov_history.proofs.Storing.{coats_of}

-- lists with the same items are the same
same_each : (some others : List (List ℕ)) → length some ≡ length others
    → ((n : ℕ) → slice_index_or some n [] ≡ slice_index_or others n []) → some ≡ others
same_each [] [] many each = refl
same_each [] (y ∷ others) many each = absurd (cc)
same_each (x ∷ some) [] many each = absurd (cc)
same_each (x ∷ some) (y ∷ others) many each =
    ap (λ (z : List ℕ). z ∷ some) (each 0)
    ∙ ap (λ (rest : List (List ℕ)). y ∷ rest)
    (same_each some others (omega (arith, many)) (λ n. each (suc n)))

pub agreeing_store_the_same : AgreeingStoreTheSame
agreeing_store_the_same master g h fit other agree =
    same_each (stored_of master g) (stored_of master h)
    ((coats_of master g).stored_many ∙ ap (λ (c : Catalogue). length c.files) same
    ∙ sym (coats_of master h).stored_many)
    (λ n. by_file n (living_at (catalogue_of master g).files n) refl) where
      same : catalogue_of master g ≡ catalogue_of master h
      same = agreeing_show_the_same master g h fit other agree

      by_file : (n : ℕ) (o : Option Filed) → living_at (catalogue_of master g).files n ≡ o
          → slice_index_or (stored_of master g) n [] ≡ slice_index_or (stored_of master h) n []
      by_file n None none =
          gone_bytes master g n none
          ∙ sym (gone_bytes master h n
          (ap (λ (c : Catalogue). living_at c.files n) (sym same) ∙ none))
      by_file n (Some f) is =
          let is_too : living_at (catalogue_of master h).files n ≡ Some f =
          ap (λ (c : Catalogue). living_at c.files n) (sym same) ∙ is in
          (coats_of master g).coats n f is
          ∙ ap (λ (c : Catalogue). stored_under (surface_key master
          (surface_left (living_at c.files n))) n (slice_index_or (sent_of g) n [])) same
          ∙ ap (λ (text : List ℕ). stored_under (surface_key master
          (surface_left (living_at (catalogue_of master h).files n))) n text)
          (agreeing_keep_the_same master g h n f fit other agree is)
          ∙ sym ((coats_of master h).coats n f is_too)
