-- What rewrites make of stored bytes: those of each file go from the coat of its old surface to
-- that of its new one.
use Rattle.std.proofs.Common.{◌≡◌, ◌≢◌, ◌<◌, ◌+◌, ℕ, zero, suc, Bool, true, false, List, [], ◌∷◌}
use Rattle.std.proofs.Common.{◌++◌, length, refl, sym, ◌∙◌, ap, subst, arith}
use Rattle.std.specs.Prelude.{Option, None, slice_index_or}
use Rattle.std.proofs.lemmas.List.{nil_from_length}
use Rattle.ov_surface.specs.Coats.{stored_under}
use Rattle.ov_surface.proofs.CoatLaws.{coated-coated, length-coated}
use Rattle.ov_history.specs.Places.{change_at}
use Rattle.ov_history.specs.Layers.{same_surface}
use Rattle.ov_history.specs.Catalogue.{Filed}
use Rattle.ov_history.specs.Rewrites.{Rewrite, restored, rewrite_unless, rewrites_from}
use Rattle.ov_history.specs.Rewrites.{rewritten_all, surface_key}
use Rattle.ov_history.proofs.ChangeLaws.{change_at-here, change_at-other, length-change_at}
use Rattle.ov_history.proofs.Listing.{same_surface-is}
use Rattle.std.specs.Prelude.{Some}
use Rattle.ov_history.specs.Places.{living_at}
use Rattle.ov_history.specs.Rewrites.{rewrite_of, surface_left}

-- ---- one file

pub length-restored : (master : List ℕ) (from to : Option ℕ) (number : ℕ) (bytes : List ℕ)
    → length (restored master from to number bytes) ≡ length bytes
length-restored master from to number bytes =
    length-coated (surface_key master to) number 0
    (stored_under (surface_key master from) number bytes)
    ∙ length-coated (surface_key master from) number 0 bytes

-- no bytes stay none
restored-none : (master : List ℕ) (from to : Option ℕ) (number : ℕ)
    → restored master from to number [] ≡ []
restored-none master from to number =
    nil_from_length (restored master from to number []) (length-restored master from to number [])

-- a rewrite to the surface that a file has changes nothing
pub restored-same : (master : List ℕ) (surface : Option ℕ) (number : ℕ) (bytes : List ℕ)
    → restored master surface surface number bytes ≡ bytes
restored-same master surface number bytes =
    coated-coated (surface_key master surface) number 0 bytes

-- text under the coat of the old surface comes under that of the new one
pub restored-under : (master : List ℕ) (from to : Option ℕ) (number : ℕ) (text : List ℕ)
    → restored master from to number (stored_under (surface_key master from) number text)
    ≡ stored_under (surface_key master to) number text
restored-under master from to number text =
    ap (λ bytes. stored_under (surface_key master to) number bytes)
    (coated-coated (surface_key master from) number 0 text)

-- ---- all rewrites

pub length-rewritten_all : (master : List ℕ) (rewrites : List Rewrite) (stored : List (List ℕ))
    → length (rewritten_all master rewrites stored) ≡ length stored
length-rewritten_all master [] stored = refl
length-rewritten_all master (r ∷ rewrites) stored =
    length-rewritten_all master rewrites
    (change_at (restored master r.old r.new r.file) r.file stored)
    ∙ length-change_at (restored master r.old r.new r.file) r.file stored

module _ (master : List ℕ) where
  abbrev at_number : List (List ℕ) → ℕ → List ℕ
  at_number stored n = slice_index_or stored n []

  -- some rewrites and then others
  rewritten-append : (rewrites more : List Rewrite) (stored : List (List ℕ))
      → rewritten_all master (rewrites ++ more) stored
      ≡ rewritten_all master more (rewritten_all master rewrites stored)
  rewritten-append [] more stored = refl
  rewritten-append (r ∷ rewrites) more stored =
      rewritten-append rewrites more (change_at (restored master r.old r.new r.file) r.file stored)

  changed-here : (from to : Option ℕ) (number : ℕ) (stored : List (List ℕ))
      → at_number (change_at (restored master from to number) number stored) number
      ≡ restored master from to number (at_number stored number)
  changed-here from to number stored =
      change_at-here (restored master from to number) number stored []
      (restored-none master from to number)

  unless-here : (b : Bool) (number : ℕ) (f now : Filed) (stored : List (List ℕ))
      → same_surface f.surface now.surface ≡ b
      → at_number (rewritten_all master (rewrite_unless b number f now) stored) number
      ≡ restored master f.surface now.surface number (at_number stored number)
  unless-here true number f now stored is =
      sym (restored-same master f.surface number (at_number stored number))
      ∙ ap (λ to. restored master f.surface to number (at_number stored number))
      (same_surface-is f.surface now.surface is)
  unless-here false number f now stored is = changed-here f.surface now.surface number stored

  unless-other : (b : Bool) (number n : ℕ) (f now : Filed) (stored : List (List ℕ)) → n ≢ number
      → at_number (rewritten_all master (rewrite_unless b number f now) stored) n
      ≡ at_number stored n
  unless-other true number n f now stored other = refl
  unless-other false number n f now stored other =
      change_at-other (restored master f.surface now.surface number) number n stored [] other

  -- the rewrite of one file that is there afterwards
  stepped-here : (number : ℕ) (f : Option Filed) (now : Filed) (stored : List (List ℕ))
      → at_number (rewritten_all master (rewrite_of number f (Some now)) stored) number
      ≡ restored master (surface_left f) now.surface number (at_number stored number)
  stepped-here number None now stored = changed-here None now.surface number stored
  stepped-here number (Some f) now stored =
      unless-here (same_surface f.surface now.surface) number f now stored refl

  stepped-other : (number n : ℕ) (f now : Option Filed) (stored : List (List ℕ)) → n ≢ number
      → at_number (rewritten_all master (rewrite_of number f now) stored) n ≡ at_number stored n
  stepped-other number n f None stored other = refl
  stepped-other number n None (Some now) stored other =
      change_at-other (restored master None now.surface number) number n stored [] other
  stepped-other number n (Some f) (Some now) stored other =
      unless-other (same_surface f.surface now.surface) number n f now stored other

  before-step : (number : ℕ) (f now : Option Filed) (rewrites : List Rewrite)
      (stored : List (List ℕ)) (n : ℕ) → n < number
      → ((next : List (List ℕ))
      → at_number (rewritten_all master rewrites next) n ≡ at_number next n)
      → at_number (rewritten_all master (rewrite_of number f now ++ rewrites) stored) n
      ≡ at_number stored n
  before-step number f now rewrites stored n low rest =
      ap (λ (bytes : List (List ℕ)). at_number bytes n)
      (rewritten-append (rewrite_of number f now) rewrites stored)
      ∙ rest (rewritten_all master (rewrite_of number f now) stored)
      ∙ stepped-other number n f now stored (λ same. absurd (omega arith))

  -- files before these aren't rewritten
  rewritten-before : (number : ℕ) (files after : List (Option Filed)) (stored : List (List ℕ))
      (n : ℕ)
      → n < number
      → at_number (rewritten_all master (rewrites_from number files after) stored) n
      ≡ at_number stored n
  rewritten-before number files [] stored n low = refl
  rewritten-before number [] (now ∷ after) stored n low =
      before-step number None now (rewrites_from (number + 1) [] after) stored n low
      (λ next. rewritten-before (number + 1) [] after next n (omega arith))
  rewritten-before number (f ∷ files) (now ∷ after) stored n low =
      before-step number f now (rewrites_from (number + 1) files after) stored n low
      (λ next. rewritten-before (number + 1) files after next n (omega arith))

  -- the first of these files
  here-step : (number : ℕ) (f now : Option Filed) (there : Filed) (files after : List (Option Filed))
      (stored : List (List ℕ)) (n : ℕ) → n ≡ number + 0 → now ≡ Some there
      → at_number
      (rewritten_all master (rewrite_of number f now ++ rewrites_from (number + 1) files after)
      stored) n
      ≡ restored master (surface_left f) there.surface n (at_number stored n)
  here-step number f now there files after stored n is living =
      let here : number ≡ n = omega arith in
      let next : List (List ℕ) = rewritten_all master (rewrite_of number f now) stored in
      ap (λ (bytes : List (List ℕ)). at_number bytes n)
      (rewritten-append (rewrite_of number f now) (rewrites_from (number + 1) files after) stored)
      ∙ rewritten-before (number + 1) files after next n (omega arith)
      ∙ ap (λ (o : Option Filed). at_number (rewritten_all master (rewrite_of number f o) stored) n)
      living
      ∙ subst
      (λ m. at_number (rewritten_all master (rewrite_of number f (Some there)) stored) m
      ≡ restored master (surface_left f) there.surface m (at_number stored m)) here
      (stepped-here number f there stored)

  -- the rewrite of one file leaves the bytes of another
  later-step : (number : ℕ) (f now : Option Filed) (from to : Option ℕ) (rewrites : List Rewrite)
      (stored : List (List ℕ)) (n : ℕ) → n ≢ number
      → ((next : List (List ℕ)) → at_number (rewritten_all master rewrites next) n
      ≡ restored master from to n (at_number next n))
      → at_number (rewritten_all master (rewrite_of number f now ++ rewrites) stored) n
      ≡ restored master from to n (at_number stored n)
  later-step number f now from to rewrites stored n other rest =
      ap (λ (bytes : List (List ℕ)). at_number bytes n)
      (rewritten-append (rewrite_of number f now) rewrites stored)
      ∙ rest (rewritten_all master (rewrite_of number f now) stored)
      ∙ ap (λ bytes. restored master from to n bytes) (stepped-other number n f now stored other)

  -- rewrites that leave the bytes of a file leave them behind the rewrite of another file too
  leaving-step : (number : ℕ) (f now : Option Filed) (rewrites : List Rewrite)
      (stored : List (List ℕ)) (n : ℕ) → n ≢ number
      → ((next : List (List ℕ))
      → at_number (rewritten_all master rewrites next) n ≡ at_number next n)
      → at_number (rewritten_all master (rewrite_of number f now ++ rewrites) stored) n
      ≡ at_number stored n
  leaving-step number f now rewrites stored n other rest =
      ap (λ (bytes : List (List ℕ)). at_number bytes n)
      (rewritten-append (rewrite_of number f now) rewrites stored)
      ∙ rest (rewritten_all master (rewrite_of number f now) stored)
      ∙ stepped-other number n f now stored other

  -- of a file that is gone there is no rewrite
  gone-step : (number : ℕ) (f now : Option Filed) (rewrites : List Rewrite)
      (stored : List (List ℕ)) (n : ℕ) → now ≡ None
      → ((next : List (List ℕ))
      → at_number (rewritten_all master rewrites next) n ≡ at_number next n)
      → at_number (rewritten_all master (rewrite_of number f now ++ rewrites) stored) n
      ≡ at_number stored n
  gone-step number f now rewrites stored n none rest =
      ap (λ (o : Option Filed). at_number
      (rewritten_all master (rewrite_of number f o ++ rewrites) stored) n) none
      ∙ rest stored

  -- the file of a number, where these files begin with this number
  rewritten-at : (number : ℕ) (files after : List (Option Filed)) (stored : List (List ℕ))
      (place n : ℕ) (now : Filed)
      → n ≡ number + place
      → living_at after place ≡ Some now
      → at_number (rewritten_all master (rewrites_from number files after) stored) n
      ≡ restored master (surface_left (living_at files place)) now.surface n (at_number stored n)
  rewritten-at number files [] stored place n there is living = absurd (cc)
  rewritten-at number [] (now ∷ after) stored zero n there is living =
      here-step number None now there [] after stored n is living
  rewritten-at number [] (now ∷ after) stored (suc place) n there is living =
      later-step number None now None there.surface (rewrites_from (number + 1) [] after) stored n
      (λ same. absurd (omega arith))
      (λ next. rewritten-at (number + 1) [] after next place n there (omega arith) living)
  rewritten-at number (f ∷ files) (now ∷ after) stored zero n there is living =
      here-step number f now there files after stored n is living
  rewritten-at number (f ∷ files) (now ∷ after) stored (suc place) n there is living =
      later-step number f now (surface_left (living_at files place)) there.surface
      (rewrites_from (number + 1) files after) stored n
      (λ same. absurd (omega arith))
      (λ next. rewritten-at (number + 1) files after next place n there (omega arith) living)

  -- a file that is gone isn't rewritten, where these files begin with this number
  gone-at : (number : ℕ) (files after : List (Option Filed)) (stored : List (List ℕ)) (place n : ℕ)
      → n ≡ number + place → living_at after place ≡ None
      → at_number (rewritten_all master (rewrites_from number files after) stored) n
      ≡ at_number stored n
  gone-at number files [] stored place n is none = refl
  gone-at number [] (now ∷ after) stored zero n is none =
      gone-step number None now (rewrites_from (number + 1) [] after) stored n none
      (λ next. rewritten-before (number + 1) [] after next n (omega arith))
  gone-at number [] (now ∷ after) stored (suc place) n is none =
      leaving-step number None now (rewrites_from (number + 1) [] after) stored n
      (λ same. absurd (omega arith))
      (λ next. gone-at (number + 1) [] after next place n (omega arith) none)
  gone-at number (f ∷ files) (now ∷ after) stored zero n is none =
      gone-step number f now (rewrites_from (number + 1) files after) stored n none
      (λ next. rewritten-before (number + 1) files after next n (omega arith))
  gone-at number (f ∷ files) (now ∷ after) stored (suc place) n is none =
      leaving-step number f now (rewrites_from (number + 1) files after) stored n
      (λ same. absurd (omega arith))
      (λ next. gone-at (number + 1) files after next place n (omega arith) none)

  -- the stored bytes of a file that is gone are as before the rewrites from some files to others
  pub rewritten-gone : (files after : List (Option Filed)) (stored : List (List ℕ)) (n : ℕ)
      → living_at after n ≡ None
      → slice_index_or (rewritten_all master (rewrites_from 0 files after) stored) n []
      ≡ slice_index_or stored n []
  rewritten-gone files after stored n none = gone-at 0 files after stored n n (omega arith) none

  -- after the rewrites from some files to others the stored bytes of each file that is there are
  -- those before, with the coat of its old surface taken off and that of its new one laid
  pub rewritten-each : (files after : List (Option Filed)) (stored : List (List ℕ)) (n : ℕ)
      (now : Filed)
      → living_at after n ≡ Some now
      → slice_index_or (rewritten_all master (rewrites_from 0 files after) stored) n []
      ≡ restored master (surface_left (living_at files n)) now.surface n
      (slice_index_or stored n [])
  rewritten-each files after stored n now living =
      rewritten-at 0 files after stored n n now (omega arith) living
