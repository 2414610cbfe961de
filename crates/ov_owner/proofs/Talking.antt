-- How the asks of a call lead from stage to stage, and how a call ends at one.
use Rattle.std.proofs.Common.{◌≡◌, ℕ, List, [], ◌∷◌, ◌++◌, Some, None, Result, Ok, Err, refl, sym, ap, subst, inl, inr}
use Rattle.ov_record.specs.Updates.{SealedUpdate}
use Rattle.ov_wire.specs.declared.request.Request.{Request}
use Rattle.ov_wire.specs.declared.answer.Answer.{Answer}
use Rattle.ov_wire.specs.declared.answer.Answer.TheVariants as answers
use Rattle.ov_wire.specs.Requests.{request_bytes}
use Rattle.ov_peer.specs.Asks.{Ask, Leads}
use Rattle.ov_peer.specs.Exchanges.{Answered, Exchanges}
use Rattle.ov_peer.specs.declared.fault.ExchangeFault.{ExchangeFault}
use Rattle.ov_peer.specs.declared.fault.ExchangeFault.TheVariants.{Link, BadReply, Memory}
use Rattle.ov_peer.specs.Tells.{PeerTells}
use Rattle.ov_owner.specs.Calls.{Concludes, Passes}
use Rattle.ov_owner.specs.Errands.{Errand}
use Rattle.ov_owner.specs.Talks.{CanSend, Ends, Goes, IsAskFault, Sends, Stage, after, asked_at, update_request}
use Rattle.ov_owner.specs.Helpers.{IsSent, owner_fault, sent_of}
use Rattle.ov_owner.specs.declared.fault.OwnerFault.{OwnerFault}
use Rattle.ov_owner.specs.declared.fault.OwnerFault.TheVariants as faults

module _ {P : Type 0} (peer : PeerTells P) (surface : List ℕ) (e : Errand) where
  leads_on : (p m q : P) (asks more : List Ask) → Leads peer p asks m → Leads peer m more q
      → Leads peer p (asks ++ more) q
  leads_on p m q [] more same rest = subst (λ (r : P). Leads peer r more q) (sym same) rest
  leads_on p m q (a ∷ asks) more (n, first, leads) rest =
      (n, first, leads_on n m q asks more leads rest)

  goes_on : (from mid to : Stage) (asks more : List Ask) → Goes surface e from asks mid
      → Goes surface e mid more to → Goes surface e from (asks ++ more) to
  goes_on from mid to [] more same rest =
      subst (λ (s : Stage). Goes surface e s more to) (sym same) rest
  goes_on from mid to (a ∷ asks) more (next, moves, goes) rest =
      (next, moves, goes_on next mid to asks more goes rest)

  -- asks behind asks
  pub passes_on : (from mid to : Stage) (p m q : P) → Passes peer surface e from p mid m
      → Passes peer surface e mid m to q → Passes peer surface e from p to q
  passes_on from mid to p m q one other = record {
    asks = one.asks ++ other.asks;
    leads = leads_on p m q one.asks other.asks one.leads other.leads;
    goes = goes_on from mid to one.asks other.asks one.goes other.goes;
  }

  -- a call that ends after asks
  pub concludes_on : (from mid : Stage) (p m q : P) (result : Result ℕ OwnerFault)
      → Passes peer surface e from p mid m → Concludes peer surface e mid m q result
      → Concludes peer surface e from p q result
  concludes_on from mid p m q result one other =
      let (n, leads, ends) = other.are_asks in
      let (last, goes, closes) = other.talks in record {
        asks = one.asks ++ other.asks;
        unanswered = other.unanswered;
        are_asks = (n, leads_on p m n one.asks other.asks one.leads leads, ends);
        talks = (last, goes_on from mid last one.asks other.asks one.goes goes, closes);
      }

  -- the stage says how the call ends
  pub ends_so : (from : Stage) (p q : P) (result : Result ℕ OwnerFault)
      → Passes peer surface e from p (Ends result) q → Concludes peer surface e from p q result
  ends_so from p q result one = record {
    asks = one.asks;
    unanswered = None;
    are_asks = (q, one.leads, refl);
    talks = (Ends result, one.goes, inl refl);
  }

  -- memory runs out before an ask
  pub nothing_asked : (from : Stage) (p : P) → Concludes peer surface e from p p (Err faults.Memory)
  nothing_asked from p = record {
    asks = [];
    unanswered = None;
    are_asks = (p, refl, refl);
    talks = (from, refl, inr refl);
  }

  -- ---- what is due at a stage is asked
  module _ (from : Stage) (request : Request) (is_due : asked_at surface e from ≡ Some request) (form : CanSend surface e from) where
    -- the ask was answered
    pub answered_so : (p q : P) (read : Result Answer ℕ) (next : Stage)
        → Answered peer p q request read → after e from read ≡ next
        → Passes peer surface e from p next q
    answered_so p q read next a is = record {
      asks = record { request = request_bytes request; reply = a.reply } ∷ [];
      leads = (q, a.sent, refl);
      goes = (
        after e from read,
        record {
          asked = record { request = request; due = is_due; form = form; spelled = refl };
          then = inl (a.bytes, ap (after e from) (sym a.reads));
        },
        is,
      );
    }

    ask_fails : (p q : P) (fault : OwnerFault) → IsAskFault (Err fault)
        → peer.failed p (request_bytes request) q → Concludes peer surface e from p q (Err fault)
    ask_fails p q fault why f = record {
      asks = [];
      unanswered = Some (request_bytes request);
      are_asks = (p, refl, f);
      talks = (from, refl, (record { request = request; due = is_due; form = form; spelled = refl }, why));
    }

    answer_lost : (p q : P) (reply : List ℕ) → peer.asked p (request_bytes request) reply q
        → Concludes peer surface e from p q (Err faults.Memory)
    answer_lost p q reply a = record {
      asks = record { request = request_bytes request; reply = reply } ∷ [];
      unanswered = None;
      are_asks = (q, (q, a, refl), refl);
      talks = (
        Ends (Err faults.Memory),
        (
          Ends (Err faults.Memory),
          record {
            asked = record { request = request; due = is_due; form = form; spelled = refl };
            then = inr refl;
          },
          refl,
        ),
        inl refl,
      );
    }

    -- the ask has no answer, and the call ends
    pub exchange_fails : (p q : P) (fault : ExchangeFault)
        → ((place : ℕ) → after e from (Err place) ≡ Ends (Err (faults.BadReply place)))
        → Exchanges peer p q request (Err fault)
        → Concludes peer surface e from p q (Err (owner_fault fault))
    exchange_fails p q Link bad x = ask_fails p q faults.Link (inl refl) x
    exchange_fails p q (BadReply place) bad x =
        ends_so from p q (Err (faults.BadReply place)) (answered_so p q (Err place) _ x (bad place))
    exchange_fails p q Memory bad (inl same) =
        subst (λ (r : P). Concludes peer surface e from p r (Err faults.Memory)) (sym same) (nothing_asked from p)
    exchange_fails p q Memory bad (inr (inl f)) = ask_fails p q faults.Memory (inr refl) f
    exchange_fails p q Memory bad (inr (inr (reply, a))) = answer_lost p q reply a

  -- ---- an update is sent
  module _ (tries : List ℕ) (epoch : ℕ) (u : SealedUpdate) (form : CanSend surface e (Sends tries epoch u)) where
    by_answer : (p q : P) (a : Answer) (next : Stage)
        → Answered peer p q (update_request surface epoch u) (Ok a)
        → after e (Sends tries epoch u) (Ok a) ≡ next
        → Passes peer surface e (Sends tries epoch u) p next q
    by_answer p q a next x is =
        answered_so (Sends tries epoch u) (update_request surface epoch u) refl form p q (Ok a) next x is

    pub sent_by : (p q : P) (a : Answer) → Answered peer p q (update_request surface epoch u) (Ok a)
        → IsSent peer surface e tries epoch u p q (sent_of a)
    sent_by p q (answers.Accepted now) x =
        ends_so _ p q (Ok now) (by_answer p q (answers.Accepted now) _ x refl)
    sent_by p q (answers.Stale now) x = by_answer p q (answers.Stale now) _ x refl
    sent_by p q (answers.Refused why) x =
        ends_so _ p q (Err (faults.Refused why)) (by_answer p q (answers.Refused why) _ x refl)
    sent_by p q answers.BadTag x =
        ends_so _ p q (Err faults.BadTag) (by_answer p q answers.BadTag _ x refl)
    sent_by p q answers.DeviceFault x =
        ends_so _ p q (Err faults.Device) (by_answer p q answers.DeviceFault _ x refl)
    sent_by p q answers.NoMemory x =
        ends_so _ p q (Err faults.Memory) (by_answer p q answers.NoMemory _ x refl)
    sent_by p q a x = ends_so _ p q (Err (faults.BadReply 0)) (by_answer p q a _ x refl)

    pub unsent_by : (p q : P) (fault : ExchangeFault)
        → Exchanges peer p q (update_request surface epoch u) (Err fault)
        → IsSent peer surface e tries epoch u p q (Err (owner_fault fault))
    unsent_by p q fault x =
        exchange_fails (Sends tries epoch u) (update_request surface epoch u) refl form p q fault (λ place. refl) x
