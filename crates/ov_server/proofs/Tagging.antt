-- Updates that are told apart by tag, epoch and spelling.
use Rattle.std.proofs.Common.{◌≡◌, ◌≢◌, ◌∙◌, ℕ, ◌≤◌, ◌-◌, List, Result, Ok, Err, sym, ap, arith}
use Rattle.ov_fields.specs.Reading.{placed}
use Rattle.ov_record.specs.Reading.{update_of}
use Rattle.ov_record.specs.Updates.{SealedUpdate}
use Rattle.ov_record.specs.Forms.{second_form}
use Rattle.ov_wire.specs.declared.request.Request.{Request}
use Rattle.ov_wire.specs.declared.request.Request.TheVariants as requests
use Rattle.ov_wire.specs.RequestReading.{request_of}
use Rattle.ov_protocol.specs.Serving.{Serving}
use Rattle.ov_protocol.specs.Updating.{owner_tag}
use Rattle.ov_peer.specs.Disks.{HasUpdate}

-- the parts of an update that a frame is
record AreSame (epoch : ℕ) (spelling tag : List ℕ) (e : ℕ) (s t : List ℕ) : Type 0 where
  pub epochs : epoch ≡ e
  pub spellings : spelling ≡ s
  pub tags : tag ≡ t

same_parts : (r : Result Request ℕ) (epoch : ℕ) (spelling tag : List ℕ) (e : ℕ) (s t : List ℕ)
    → r ≡ Ok (requests.Update epoch spelling tag) → r ≡ Ok (requests.Update e s t)
    → AreSame epoch spelling tag e s t
same_parts r epoch spelling tag e s t one two = record { epochs = cc; spellings = cc; tags = cc }

module _ (s : Serving) (request : List ℕ) (u : SealedUpdate) (has : HasUpdate s request u)
    (epoch : ℕ) (spelling tag : List ℕ)
    (is : request_of request ≡ Ok (requests.Update epoch spelling tag)) where
  same : AreSame epoch spelling tag s.catalogue.epoch has.spelling has.tag
  same =
      same_parts (request_of request) epoch spelling tag s.catalogue.epoch has.spelling has.tag is
      has.is

  -- an Update with another tag isn't the owner's
  pub other_tag : tag ≢ owner_tag s.surface epoch spelling → ⊥
  other_tag wrong =
      wrong
      (same.tags ∙ has.right
      ∙ (λ i. owner_tag s.surface (sym same.epochs i) (sym same.spellings i)))

  -- an Update at another epoch isn't made
  pub other_epoch : epoch ≢ s.catalogue.epoch → ⊥
  other_epoch wrong = wrong same.epochs

  -- an Update with a wrong spelling spells no update
  pub spells_none : (place : ℕ) → update_of second_form spelling ≡ Err place → ⊥
  spells_none place wrong =
      let both : Err place ≡ Ok u = sym wrong ∙ ap (update_of second_form) same.spellings ∙ has.spells in cc

-- a wrong place is within the bytes
pub placed_low : {A : Type 0} (count place : ℕ) (read : Result A ℕ)
    → placed count read ≡ Err place → place ≤ count
placed_low count place (Ok x) is = absurd (cc)
placed_low count place (Err left) is = let same : count - left ≡ place = cc in omega (arith, same)
