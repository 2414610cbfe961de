-- No part of a try is unsettled, and where nobody else updates one try is enough.
use Rattle.std.proofs.Common.{◌≡◌, ◌∙◌, true, Option, Result, Ok, Err}
use Rattle.std.proofs.Common.{sym, ap}
use Rattle.ov_base.specs.declared.refusal.Refusal.TheVariants.{NoFile}
use Rattle.ov_peer.specs.declared.fault.ExchangeFault.{ExchangeFault}
use Rattle.ov_peer.specs.declared.fault.ExchangeFault.TheVariants as exchange
use Rattle.ov_protocol.specs.Serving.{Service, later, served}
use Rattle.ov_wire.specs.declared.answer.Answer.{Answer}
use Rattle.ov_wire.specs.declared.answer.Answer.TheVariants as answers
use Rattle.ov_wire.specs.declared.answer.Welcome.{Welcome}
use Rattle.ov_listing.specs.Causes.{IsOneTry, IsSettled, listing_fault}
use Rattle.ov_listing.specs.Questions.{IsWelcomeAt, ShownIn, listed_in, welcome_in}
use Rattle.ov_listing.specs.Telling.{Told}
use Rattle.ov_listing.specs.declared.fault.ListingFault.{ListingFault}
use Rattle.ov_listing.specs.declared.fault.ListingFault.TheVariants as faults
use Rattle.ov_listing.specs.declared.shown.Shown.{Shown}
use Rattle.ov_listing.proofs.Meanwhile.{Meanwhile, same_left}

pub welcome_settled : (a : Answer) → IsSettled (welcome_in a)
welcome_settled (answers.Welcome welcome) = tt
welcome_settled answers.NoMemory = tt
welcome_settled a = tt

pub list_settled : (a : Answer) → IsSettled (listed_in a)
list_settled (answers.Listed names) = tt
list_settled (answers.Refused NoFile) = tt
list_settled answers.NoMemory = tt
list_settled a = tt

pub page_settled : (a : Answer) (result : Result (Option Shown) ListingFault) → ShownIn a result
    → IsSettled result
page_settled a (Ok found) shown = tt
page_settled a (Err (faults.BadReply place)) shown = tt
page_settled a (Err faults.Memory) shown = tt
page_settled a (Err faults.Link) shown = absurd shown
page_settled a (Err faults.Unsettled) shown = absurd shown

pub fault_settled : (T : Type 0) (fault : ExchangeFault)
    → IsSettled {T = T} (Err (listing_fault fault))
fault_settled T exchange.Link = tt
fault_settled T (exchange.BadReply place) = tt
fault_settled T exchange.Memory = tt

pub one_settled : (T : Type 0) (fault : ListingFault) → IsOneTry {T = T} (Err fault)
    → IsSettled {T = T} (Err fault)
one_settled T (faults.BadReply place) one = tt
one_settled T faults.Memory one = tt
one_settled T faults.Link one = tt
one_settled T faults.Unsettled one = absurd one

-- where nobody else updates, the epoch is the same before and after
pub same_epoch : (v : Service) (One Three Then : Service → Type 0) (A : Service → Type 0)
    (before after : Welcome)
    → Told true v One IsWelcomeAt (Ok before)
    → ((w : Service) → One w → Meanwhile true w Three (A w))
    → ((w : Service) → Three w → Told true w Then IsWelcomeAt (Ok after))
    → after.epoch ≡ before.epoch
same_epoch v One Three Then A before after (a, no_a, one, first) between last =
    let u = later v a in
    let (b, no_b, three, holds) = between u one in
    let (c, no_c, then, again) = last (later u b) three in
    let here : later (later u b) c ≡ u = same_left (later u b) c no_c ∙ same_left u b no_b in
    ap (λ (x : Welcome). x.epoch) again ∙ ap (λ (x : Service). (served x).catalogue.epoch) here
    ∙ ap (λ (x : Welcome). x.epoch) (sym first)
