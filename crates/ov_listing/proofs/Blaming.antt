-- What a fault blames, by the last answer.
use Rattle.std.proofs.Common.{◌≡◌, ℕ, ◌+◌, suc, arith, List, Option, Some, None}
use Rattle.std.proofs.Common.{Result, Ok, Err}
use Rattle.std.proofs.Common.{refl, sym, subst, inl, inr}
use Rattle.std.specs.Prelude.{IfErr, IfOk}
use Rattle.ov_base.specs.declared.refusal.Refusal.TheVariants.{NoFile}
use Rattle.ov_peer.specs.Exchanges.{Answered, Exchanges}
use Rattle.ov_peer.specs.Tells.{PeerTells}
use Rattle.ov_peer.specs.declared.fault.ExchangeFault.{ExchangeFault}
use Rattle.ov_peer.specs.declared.fault.ExchangeFault.TheVariants as exchange
use Rattle.ov_wire.specs.declared.answer.Answer.{Answer}
use Rattle.ov_wire.specs.declared.answer.Answer.TheVariants as answers
use Rattle.ov_wire.specs.declared.answer.Welcome.{Welcome}
use Rattle.ov_wire.specs.declared.request.Request.{Request}
use Rattle.ov_wire.specs.declared.request.Request.TheVariants as requests
use Rattle.ov_listing.specs.Causes.{IsSettled, listing_fault}
use Rattle.ov_listing.specs.Questions.{ShownIn, listed_in, most_in, part_number, welcome_in}
use Rattle.ov_listing.specs.Reasons.{BlamesChanges, BlamesReply, Greets, HasLastPage}
use Rattle.ov_listing.specs.Reasons.{HasPage, IsNoneByRefusal, IsOnPage, IsTooHigh, SeesChange}
use Rattle.ov_listing.specs.Reasons.{SeesChanges}
use Rattle.ov_listing.specs.declared.fault.ListingFault.{ListingFault}
use Rattle.ov_listing.specs.declared.fault.ListingFault.TheVariants as faults
use Rattle.ov_listing.specs.declared.part.Part.{Part}
use Rattle.ov_listing.specs.declared.part.Part.TheVariants.{Files, Users}
use Rattle.ov_listing.specs.declared.shown.Shown.{Shown}

-- an answer is a Welcome where it is taken as one
pub is_welcome : (a : Answer) (w : Welcome) → welcome_in a ≡ Ok w → a ≡ answers.Welcome w
is_welcome (answers.Welcome welcome) w is = cc is
is_welcome answers.NoMemory w is = absurd (cc is)
is_welcome a w is = absurd (cc is)

-- the list of a file is refused where it is taken so
is_refused : (a : Answer) → listed_in a ≡ Ok None → a ≡ answers.Refused NoFile
is_refused (answers.Refused NoFile) is = refl
is_refused answers.NoMemory is = absurd (cc is)
is_refused (answers.Listed names) is = absurd (cc is)
is_refused a is = absurd (cc is)

-- a number past the last name is too high
pub past_last : (part : Part) → IsTooHigh (part_number part) (most_in part)
past_last Users = inl (refl, refl)
past_last Files = inr (refl, refl)

-- a call that is settled blames no changes
pub blames_none : (T : Type 0) {P : Type 0} (peer : PeerTells P) (p q : P) (fault : ListingFault)
    → IsSettled {T = T} (Err fault) → BlamesChanges peer p q fault
blames_none T peer p q (faults.BadReply place) settled = tt
blames_none T peer p q faults.Memory settled = tt
blames_none T peer p q faults.Link settled = tt
blames_none T peer p q faults.Unsettled settled = absurd settled

module _ {P : Type 0} (peer : PeerTells P) (p q : P) where
  -- a question that has no answer
  pub asked_blames : (request : Request) (fault : ExchangeFault)
      → Exchanges peer p q request (Err fault) → BlamesReply peer q (listing_fault fault)
  asked_blames request exchange.Link is = tt
  asked_blames request (exchange.BadReply place) is =
      record { before = p; request = request; read = Err place; answered = is; wrong = refl }
  asked_blames request exchange.Memory is = tt

  -- mode and epoch
  pub welcome_blames : (a : Answer) → Answered peer p q requests.Hello (Ok a)
      → (result : Result Welcome ListingFault) → result ≡ welcome_in a
      → IfErr result (BlamesReply peer q)
  welcome_blames a answered (Ok welcome) is = tt
  welcome_blames a answered (Err faults.Link) is = tt
  welcome_blames a answered (Err faults.Unsettled) is = tt
  welcome_blames a answered (Err faults.Memory) is = tt
  welcome_blames a answered (Err (faults.BadReply place)) is = record {
    before = p;
    request = requests.Hello;
    read = Ok a;
    answered = answered;
    wrong = sym is;
  }

  pub welcome_greets : (a : Answer) → Answered peer p q requests.Hello (Ok a)
      → (result : Result Welcome ListingFault) → result ≡ welcome_in a
      → IfOk result (Greets peer p q)
  welcome_greets a answered (Err fault) is = tt
  welcome_greets a answered (Ok welcome) is =
      subst (λ (x : Answer). Answered peer p q requests.Hello (Ok x))
      (is_welcome a welcome (sym is)) answered

  -- the list of a file
  pub list_blames : (file : List ℕ) (a : Answer) → Answered peer p q (requests.List file) (Ok a)
      → (result : Result (Option (List (List ℕ))) ListingFault) → result ≡ listed_in a
      → IfErr result (BlamesReply peer q)
  list_blames file a answered (Ok found) is = tt
  list_blames file a answered (Err faults.Link) is = tt
  list_blames file a answered (Err faults.Unsettled) is = tt
  list_blames file a answered (Err faults.Memory) is = tt
  list_blames file a answered (Err (faults.BadReply place)) is = record {
    before = p;
    request = requests.List file;
    read = Ok a;
    answered = answered;
    wrong = sym is;
  }

  pub list_refuses : (file : List ℕ) (a : Answer) → Answered peer p q (requests.List file) (Ok a)
      → (result : Result (Option (List (List ℕ))) ListingFault) → result ≡ listed_in a
      → IfOk result (IsNoneByRefusal peer q)
  list_refuses file a answered (Err fault) is = tt
  list_refuses file a answered (Ok (Some names)) is = tt
  list_refuses file a answered (Ok None) is = record {
    before = p;
    file = file;
    refuses = subst (λ (x : Answer). Answered peer p q (requests.List file) (Ok x))
        (is_refused a (sym is)) answered;
  }

  -- a page
  pub page_blames : (part number : ℕ) (a : Answer)
      → Answered peer p q (requests.Page part number) (Ok a)
      → (result : Result (Option Shown) ListingFault) → ShownIn a result
      → IfErr result (BlamesReply peer q)
  page_blames part number a answered (Ok found) shown = tt
  page_blames part number a answered (Err faults.Link) shown = tt
  page_blames part number a answered (Err faults.Unsettled) shown = tt
  page_blames part number a answered (Err faults.Memory) shown = tt
  page_blames part number a answered (Err (faults.BadReply place)) shown = record {
    before = p;
    request = requests.Page part number;
    read = Ok a;
    answered = answered;
    wrong = inl shown;
  }

  pub page_there : (part number : ℕ) (a : Answer)
      → Answered peer p q (requests.Page part number) (Ok a)
      → (result : Result (Option Shown) ListingFault) → ShownIn a result
      → IfOk result (IsOnPage peer part number q)
  page_there part number a answered (Err fault) shown = tt
  page_there part number a answered (Ok None) shown = tt
  page_there part number a answered (Ok (Some found)) (entry, is_page, by) =
      record { before = p; answer = a; answered = answered; named = (entry, is_page) }

-- one page more was asked for
pub one_page : {P : Type 0} (peer : PeerTells P) (part number : ℕ) (q : P)
    → HasPage peer part number q → HasLastPage peer part (number + 1) q
one_page peer part number q page =
    let next : suc number ≡ number + 1 = omega arith in
    subst (λ (n : ℕ). HasLastPage peer part n q) next page

-- one try more saw the store change
pub one_change : {P : Type 0} (peer : PeerTells P) (tries : ℕ) (p m q : P)
    → SeesChanges peer tries p m → SeesChange peer m q → SeesChanges peer (tries + 1) p q
one_change peer tries p m q before change =
    let next : suc tries ≡ tries + 1 = omega arith in
    subst (λ (n : ℕ). SeesChanges peer n p q) next (m, before, change)

-- one name more than a store can have
pub too_many : {P : Type 0} (peer : PeerTells P) (part : Part) (q : P) (count : ℕ)
    → count ≡ suc (most_in part) → HasLastPage peer (part_number part) count q
    → BlamesReply peer q (faults.BadReply 1)
too_many {P} peer part q count is last =
    found (subst (λ (n : ℕ). HasLastPage peer (part_number part) n q) is last) where
      found : HasPage peer (part_number part) (most_in part) q
          → BlamesReply peer q (faults.BadReply 1)
      found page = record {
        before = page.before;
        request = requests.Page (part_number part) (most_in part);
        read = Ok page.answer;
        answered = page.answered;
        wrong = inr (refl, past_last part, page.named);
      }
