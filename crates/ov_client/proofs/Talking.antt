-- How the asks of a read lead from stage to stage.
use Rattle.std.proofs.Common.{◌≡◌, ℕ, List, [], ◌∷◌, ◌++◌, Some, None, Result, Ok, Err}
use Rattle.std.proofs.Common.{refl, sym, ap, subst, inl, inr}
use Rattle.std.specs.Prelude.{◌⊎◌}
use Rattle.ov_wire.specs.declared.request.Request.{Request}
use Rattle.ov_wire.specs.declared.answer.Answer.{Answer}
use Rattle.ov_wire.specs.Requests.{HasRequestForm, request_bytes}
use Rattle.ov_peer.specs.Asks.{Ask, Leads}
use Rattle.ov_peer.specs.Exchanges.{Answered, Exchanges}
use Rattle.ov_peer.specs.declared.fault.ExchangeFault.{ExchangeFault}
use Rattle.ov_peer.specs.declared.fault.ExchangeFault.TheVariants as exchange
use Rattle.ov_peer.specs.Tells.{PeerTells}
use Rattle.ov_client.specs.Causes.{client_fault}
use Rattle.ov_client.specs.Readers.{Reader}
use Rattle.ov_client.specs.Reads.{ReadGoesOn, Reaches, ReadsFrom}
use Rattle.ov_client.specs.Talks.{Ends, Goes, IsAskedAt, Stage, after, asked_at}
use Rattle.ov_client.specs.Talks.{then_or}
use Rattle.ov_client.specs.declared.fault.ClientFault.{ClientFault}
use Rattle.ov_client.specs.declared.fault.ClientFault.TheVariants as client

module _ {P : Type 0} (peer : PeerTells P) (r : Reader) (file : List ℕ) where
  -- ---- asks behind one another

  leads_both : (p m q : P) (asks more : List Ask) → Leads peer p asks m → Leads peer m more q
      → Leads peer p (asks ++ more) q
  leads_both p m q [] more same leads = subst (λ (n : P). Leads peer n more q) (sym same) leads
  leads_both p m q (a ∷ asks) more (n, one, leads) then =
      (n, one, leads_both n m q asks more leads then)

  goes_both : (stage mid last : Stage) (asks more : List Ask) → Goes r file stage asks mid
      → Goes r file mid more last → Goes r file stage (asks ++ more) last
  goes_both stage mid last [] more same goes = subst (λ (s : Stage). Goes r file s more last)
      (sym same) goes
  goes_both stage mid last (a ∷ asks) more (next, one, goes) then =
      (next, one, goes_both next mid last asks more goes then)

  pub then_reaches : (p m q : P) (stage mid last : Stage) → Reaches peer p m r file stage mid
      → Reaches peer m q r file mid last → Reaches peer p q r file stage last
  then_reaches p m q stage mid last (asks, leads, goes) (more, leads_on, goes_further) = (
    asks ++ more,
    leads_both p m q asks more leads leads_on,
    goes_both stage mid last asks more
        goes goes_further,
  )

  pub then_reads : (p m q : P) (stage mid : Stage) (result : Result (List ℕ) ClientFault)
      → Reaches peer p m r file stage mid → ReadsFrom peer m q r file mid result
      → ReadsFrom peer p q r file stage result
  then_reads p m q stage mid result (asks, leads, goes)
      (more, unanswered, (n, leads_on, ends), (last, goes_further, closes)) = (
        asks ++ more,
        unanswered,
        (n, leads_both p m n asks more leads leads_on, ends),
        (last, goes_both stage mid last asks more goes goes_further, closes),
      )

  -- a stage at which the read is done
  pub ended : (p q : P) (stage : Stage) (result : Result (List ℕ) ClientFault)
      → Reaches peer p q r file stage (Ends result)
      → ReadsFrom peer p q r file stage result
  ended p q stage result (asks, leads, goes) =
      (asks, None, (q, leads, refl), (Ends result, goes, inl refl))

  -- memory runs out between two asks
  pub forgot : (p : P) (stage : Stage) → ReadsFrom peer p p r file stage (Err client.Memory)
  forgot p stage = ([], None, (p, refl, refl), (stage, refl, inr refl))

  -- ---- one ask

  module _ (stage : Stage) (request : Request) (at_stage : asked_at r file stage ≡ Some request)
      (form : HasRequestForm request) where
    abbrev asked_so : IsAskedAt r file stage (request_bytes request)
    asked_so = record { request = request; is_asked = at_stage; form = form; spelled = refl }

    -- the reply of an ask was read
    pub answered : (p q : P) (read : Result Answer ℕ) → Answered peer p q request read
        → Reaches peer p q r file stage (after r stage read)
    answered p q read a = (
      record { request = request_bytes request; reply = a.reply } ∷ [],
      (q, a.sent, refl),
      (
        after r stage read,
        record {
          asks = asked_so;
          reads = inl
              (record { bytes = a.bytes; moves = ap (after r stage) (sym a.reads) });
        },
        refl,
      ),
    )

    lost : (p q : P) (reply : List ℕ) → peer.asked p (request_bytes request) reply q
        → ReadsFrom peer p q r file stage (Err client.Memory)
    lost p q reply a = (
      record { request = request_bytes request; reply = reply } ∷ [],
      None,
      (q, (q, a, refl), refl),
      (
        Ends (Err client.Memory),
        (Ends (Err client.Memory), record { asks = asked_so; reads = inr refl }, refl),
        inl refl,
      ),
    )

    fails : (p q : P) (result : Result (List ℕ) ClientFault)
        → peer.failed p (request_bytes request) q → (result ≡ Err client.Link) ⊎ (result ≡ Err client.Memory)
        → ReadsFrom peer p q r file stage result
    fails p q result f why =
        ([], Some (request_bytes request), (p, refl, f), (stage, refl, (asked_so, why)))

    -- an ask has no answer
    pub unanswered : (p q : P) (fault : ExchangeFault)
        → ((place : ℕ) → after r stage (Err place) ≡ Ends (Err (client.BadReply place)))
        → Exchanges peer p q request (Err fault)
        → ReadsFrom peer p q r file stage (Err (client_fault fault))
    unanswered p q exchange.Link bad x = fails p q (Err client.Link) x (inl refl)
    unanswered p q (exchange.BadReply place) bad x =
        ended p q stage (Err (client.BadReply place))
        (subst (λ (s : Stage). Reaches peer p q r file stage s) (bad place)
        (answered p q (Err place) x))
    unanswered p q exchange.Memory bad (inl same) =
        subst (λ (n : P). ReadsFrom peer p n r file stage (Err client.Memory)) (sym same)
        (forgot p stage)
    unanswered p q exchange.Memory bad (inr (inl f)) = fails p q (Err client.Memory) f (inr refl)
    unanswered p q exchange.Memory bad (inr (inr (reply, a))) = lost p q reply a

  -- ---- parts of a read

  -- a part of a read came to the stage after what was told
  pub told : {T : Type 0} (p q : P) (stage : Stage) (next : T → Stage)
      (result : Result T ClientFault)
      → Reaches peer p q r file stage (then_or next result)
      → ReadGoesOn peer p q r file stage next result
  told p q stage next (Ok t) reaches = reaches
  told p q stage next (Err fault) reaches = ended p q stage (Err fault) reaches

  -- a part of a read began at a stage to which asks led
  pub behind : {T : Type 0} (p m q : P) (stage mid : Stage) (next : T → Stage)
      (result : Result T ClientFault)
      → Reaches peer p m r file stage mid → ReadGoesOn peer m q r file mid next result
      → ReadGoesOn peer p q r file stage next result
  behind p m q stage mid next (Ok t) reaches on = then_reaches p m q stage mid (next t) reaches on
  behind p m q stage mid next (Err fault) reaches on = then_reads p m q stage mid (Err fault)
      reaches on
