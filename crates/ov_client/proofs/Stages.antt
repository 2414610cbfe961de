-- What holds of the stages of a read that no answer ends by itself.
use Rattle.std.proofs.Common.{ℕ, Bool, true, false, List, [], ◌++◌, length, Option, Some, None}
use Rattle.std.proofs.Common.{Ok, Err}
use Rattle.std.specs.Prelude.{◌+◌, ◌==◌, bytes_eq, if◌then◌else◌, min, nat_lt}
use Rattle.ov_surface.specs.Tags.{tag_of_file}
use Rattle.ov_wire.specs.declared.answer.Chained.{Chained}
use Rattle.ov_client.specs.Readers.{Reader, judged, keys_along, uncovered}
use Rattle.ov_client.specs.Talks.{AsksChain, AsksChunk, Ends, Stage, after_fetched, again, goes_on}
use Rattle.ov_client.specs.Talks.{then_or}
use Rattle.ov_client.specs.Telling.{chained_unless, sized}
use Rattle.ov_client.specs.declared.fault.ClientFault.TheVariants as client
use Rattle.ov_client.specs.declared.reading.TheConstants.{TRIES}
use Rattle.ov_client.specs.declared.telling.Fetched.TheVariants.{Bytes}

-- it holds of each stage that asks, and of each end that the reader comes to by itself
pub record HoldsOnTheWay (P : Stage → Type 0) : Type 0 where
  pub chain : (tries : List ℕ) (least : ℕ) → P (AsksChain tries least)
  pub chunk : (tries : List ℕ) (c : Chained) (stored : List ℕ) → P (AsksChunk tries c stored)
  pub done : (bytes : List ℕ) → P (Ends (Ok bytes))
  pub damaged : (stored computed : List ℕ) → P (Ends (Err (client.Damaged stored computed)))
  pub bad : (place : ℕ) → P (Ends (Err (client.BadReply place)))
  pub unsettled : (generations : List ℕ) → P (Ends (Err (client.Unsettled generations)))

module _ (r : Reader) (P : Stage → Type 0) (way : HoldsOnTheWay P) where
  judged_holds : (c : Chained) (bytes : List ℕ) → P (Ends (judged (keys_along r c) c bytes))
  judged_holds c bytes =
      by (bytes_eq (tag_of_file (keys_along r c).access c.file bytes) c.tag) where
        by : (b : Bool)
            → P (Ends (if b then Ok bytes
            else Err (client.Damaged c.tag (tag_of_file (keys_along r c).access c.file bytes))))
        by true = way.done bytes
        by false = way.damaged c.tag (tag_of_file (keys_along r c).access c.file bytes)

  pub goes_on_holds : (tries : List ℕ) (c : Chained) (stored : List ℕ)
      → P (goes_on r tries c stored)
  goes_on_holds tries c stored = by (nat_lt (length stored) c.length) where
    by : (b : Bool)
        → P (if b then AsksChunk tries c stored
        else Ends (judged (keys_along r c) c (uncovered (keys_along r c) c.file 0 stored)))
    by true = way.chunk tries c stored
    by false = judged_holds c (uncovered (keys_along r c) c.file 0 stored)

  pub again_holds : (tries : List ℕ) (least : ℕ) → P (again tries least)
  again_holds tries least = by (length tries == TRIES) where
    by : (b : Bool)
        → P (if b then Ends (Err (client.Unsettled tries)) else AsksChain tries least)
    by true = way.unsettled tries
    by false = way.chain tries least

  -- after chains, which are told or can't be
  pub unless_holds : (tries : List ℕ) (o : Option ℕ) (c : Chained)
      → P (then_or (λ (d : Chained). goes_on r tries d []) (chained_unless o c))
  unless_holds tries None c = goes_on_holds tries c []
  unless_holds tries (Some place) c = way.bad place

  -- after bytes, of which there are as many as there must be, or not
  pub sized_holds : (tries : List ℕ) (c : Chained) (stored : List ℕ) (count : ℕ) (bytes : List ℕ)
      → P (then_or (after_fetched r tries c stored) (sized count bytes))
  sized_holds tries c stored count bytes = by (length bytes == count) where
    by : (b : Bool)
        → P (then_or (after_fetched r tries c stored)
        (if b then Ok (Bytes bytes) else Err (client.BadReply (1 + min (length bytes) count))))
    by true = goes_on_holds tries c (stored ++ bytes)
    by false = way.bad (1 + min (length bytes) count)
