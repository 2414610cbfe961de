-- A listing of one epoch.
use Rattle.std.proofs.Common.{◌≡◌, ◌∙◌, [], ◌++◌, Bool, Some, Ok}
use Rattle.std.proofs.Common.{refl, sym, ap, subst}
use Rattle.ov_history.specs.History.{Matrix}
use Rattle.ov_history.proofs.Showing.{history_is_shown}
use Rattle.ov_protocol.specs.Serving.{Service, later, served}
use Rattle.ov_protocol.proofs.Following.{later-append}
use Rattle.ov_wire.specs.declared.answer.Welcome.{Welcome}
use Rattle.ov_listing.specs.Listings.{IsListingAt, files_wanted}
use Rattle.ov_listing.specs.Questions.{AreFilesAt, AreNamesAt, IsTryAt, IsWelcomeAt, matrix_at}
use Rattle.ov_listing.specs.Telling.{Told}
use Rattle.ov_listing.specs.declared.listing.Listing.{Listing}
use Rattle.ov_listing.specs.declared.listing.Wanted.{Wanted}
use Rattle.ov_listing.specs.declared.part.Part.TheVariants.{Users}
use Rattle.ov_listing.proofs.Meanwhile.{Meanwhile, behind, both_none, same_left, still}

-- what was told by one catalogue is the listing of its history
listing_at : (w : Service) (wanted : Wanted) (listing : Listing)
    → listing.mode ≡ (served w).catalogue.mode → listing.epoch ≡ (served w).catalogue.epoch
    → listing.users.items ≡ (matrix_at w).users
    → listing.files.items ≡ files_wanted wanted (matrix_at w)
    → IsListingAt wanted listing w
listing_at w wanted listing mode epoch users files = λ fits.
    let shown = history_is_shown w.surface (served w).catalogue w.history (fits, refl) in
    record {
      mode = mode ∙ shown.mode;
      epoch = epoch ∙ shown.epoch;
      users = users ∙ ap (λ (m : Matrix). m.users) shown.matrix;
      files = files ∙ ap (files_wanted wanted) shown.matrix;
    }

-- one try: a greeting, the names, the lists, and a greeting again
module _ (alone : Bool) (v : Service) (One Two Three Then : Service → Type 0) (wanted : Wanted)
    (before after : Welcome) (listing : Listing)
    (first : Told alone v One IsWelcomeAt (Ok before))
    (names : (w : Service) → One w → Meanwhile alone w Two (AreNamesAt Users listing.users.items w))
    (lists : (w : Service) → Two w
    → Meanwhile alone w Three (AreFilesAt wanted (Some listing.files) w))
    (last : (w : Service) → Three w → Told alone w Then IsWelcomeAt (Ok after)) where
  -- others made these meanwhile, and what was told first is of what was served first
  between : (w : Service) → One w
      → Meanwhile alone w Three
      (AreNamesAt Users listing.users.items w × AreFilesAt wanted (Some listing.files) w)
  between w one =
      behind alone w Two Three (AreNamesAt Users listing.users.items w)
      (AreFilesAt wanted (Some listing.files)) (names w one) lists

  pub settled : after.epoch ≡ before.epoch → listing.mode ≡ after.mode
      → listing.epoch ≡ after.epoch
      → Told alone v Then (IsTryAt wanted) (Ok (Some listing))
  settled same mode epoch =
      let (a, may_a, one, greets) = first in
      let (b, may_b, three, holds) = between (later v a) one in
      let (c, may_c, then, again) = last (later (later v a) b) three in
      let u = later v a in
      let all : later (later u b) c ≡ later u (b ++ c) = later-append u b c in
      let end : after.epoch ≡ (served (later u (b ++ c))).catalogue.epoch =
      ap (λ (x : Welcome). x.epoch) again ∙ ap (λ (x : Service). (served x).catalogue.epoch) all in
      let none : b ++ c ≡ [] =
      still u (b ++ c) (sym end ∙ same ∙ ap (λ (x : Welcome). x.epoch) greets) in
      let here : later (later u b) c ≡ u = all ∙ same_left u (b ++ c) none in
      let (no_b, no_c) = both_none b c none in
      let (users, files) = holds no_b in (
        a,
        may_a,
        subst Then here then,
        listing_at u wanted listing
            (mode ∙ ap (λ (x : Welcome). x.mode) again ∙ ap (λ (x : Service). (served x).catalogue.mode) here)
            (epoch ∙ ap (λ (x : Welcome). x.epoch) again
            ∙ ap (λ (x : Service). (served x).catalogue.epoch) here)
            users
            files,
      )
