-- A pass sees as its own what its exchanges accepted.
use Rattle.std.proofs.Common.{◌≡◌, ◌≢◌, ◌∙◌, ℕ, ◌+◌, List, [], ◌∷◌, ◌++◌, Some, None, inl, inr, refl, sym, ap, subst, length, append-nil, append_assoc, arith, Bool, true, false}
use Rattle.std.specs.Prelude.{Option, ◌==◌}
use Rattle.std.proofs.lemmas.Bool.Decides.{nat_tests}
use Rattle.std.proofs.lemmas.List.Elements.{filter-append}
use Rattle.ov_io.specs.Tells.{SinkTells, SourceTells}
use Rattle.ov_peer.specs.Spellings.{says_accepted, spelling_of}
use Rattle.ov_peer.specs.Tells.{AnswererTells}
use Rattle.ov_session.specs.declared.end.SessionEnd.{SessionEnd}
use Rattle.ov_session.specs.declared.end.SessionEnd.TheVariants as ends
use Rattle.ov_session.specs.Ends.{Serves}
use Rattle.ov_session.specs.Exchanges.{Exchange, Leads}
use Rattle.ov_session.specs.Links.{Link, link}
use Rattle.ov_session.specs.Tells.{AskerTells}
use Rattle.ov_turn.specs.declared.view.Entry.{Entry}
use Rattle.ov_turn.specs.Logs.{entry, longer_if, own}
use Rattle.ov_turn.specs.Passes.{PassState, next_entry}
use Rattle.ov_serving.specs.Accepted.{accepted_in_exchanges, accepted_once, exchanges_in, exchanges_of, is_accepted}
use Rattle.ov_serving.specs.AtOnce.{IsServed, PassSession}
use Rattle.ov_serving.specs.Calls.{TakesTurn, in_turns}
use Rattle.ov_serving.specs.Laws.{PassesSeeTheirOwn, SeesItsOwn}
use Rattle.ov_serving.specs.Sessions.{serves_by_pass}

-- ---- one pass's updates

pub own_both : (k : ℕ) (xs ys : List Entry) → own k (xs ++ ys) ≡ own k xs ++ own k ys
own_both k xs ys = filter-append (λ (e : Entry). e.pass == k) xs ys

-- an update of the pass is the first of its own
pub own_here : (k : ℕ) (e : Entry) (log : List Entry) → e.pass ≡ k
    → own k (e ∷ log) ≡ e ∷ own k log
own_here k e log same = by_test (e.pass == k) refl where
  by_test : (b : Bool) → (e.pass == k) ≡ b → own k (e ∷ log) ≡ e ∷ own k log
  by_test true is = rw is refl
  by_test false is = absurd (grind (arith, nat_tests))

-- an update of another pass is none of its own
pub own_there : (k : ℕ) (e : Entry) (log : List Entry) → e.pass ≢ k
    → own k (e ∷ log) ≡ own k log
own_there k e log other = by_test (e.pass == k) refl where
  by_test : (b : Bool) → (e.pass == k) ≡ b → own k (e ∷ log) ≡ own k log
  by_test true is = absurd (other (grind (arith, nat_tests)))
  by_test false is = rw is refl

-- ---- what exchanges accepted

module _ (k : ℕ) where
  own_once : (call : ℕ) (request : List ℕ) (reply : Option (List ℕ))
      → own k (accepted_once k call request reply) ≡ accepted_once k call request reply
  own_once call request reply = by_test (is_accepted reply) where
    it : Entry
    it = entry k call (spelling_of request)

    by_test : (b : Bool) → own k (longer_if b [] it) ≡ longer_if b [] it
    by_test true = own_here k it [] refl
    by_test false = refl

  -- all that a pass's exchanges accepted are its own
  pub own_all : (calls : ℕ) (es : List Exchange)
      → own k (accepted_in_exchanges k calls es) ≡ accepted_in_exchanges k calls es
  own_all calls [] = refl
  own_all calls (e ∷ es) =
      let first = accepted_once k (calls + 1) e.request e.reply in
      let rest = accepted_in_exchanges k (calls + 1) es in
      own_both k first rest
      ∙ (ap (λ l. l ++ own k rest) (own_once (calls + 1) e.request e.reply)
      ∙ ap (λ l. first ++ l) (own_all (calls + 1) es))

  module _ (number : ℕ) (other : number ≢ k) where
    none_once : (call : ℕ) (request : List ℕ) (reply : Option (List ℕ))
        → own k (accepted_once number call request reply) ≡ []
    none_once call request reply = by_test (is_accepted reply) where
      it : Entry
      it = entry number call (spelling_of request)

      by_test : (b : Bool) → own k (longer_if b [] it) ≡ []
      by_test true = own_there k it [] other
      by_test false = refl

    -- none that another pass's exchanges accepted is this pass's own
    pub own_nothing : (calls : ℕ) (es : List Exchange)
        → own k (accepted_in_exchanges number calls es) ≡ []
    own_nothing calls [] = refl
    own_nothing calls (e ∷ es) =
        let first = accepted_once number (calls + 1) e.request e.reply in
        let rest = accepted_in_exchanges number (calls + 1) es in
        own_both k first rest
        ∙ (ap (λ l. l ++ own k rest) (none_once (calls + 1) e.request e.reply)
        ∙ own_nothing (calls + 1) es)

-- ---- one call, and one session

module _ {V : Type 0} (answerer : AnswererTells V) where
  abbrev number_of : PassState V → ℕ
  number_of p = p.knowledge.number

  record SeesOne (p q : PassState V) (request : List ℕ) (reply : Option (List ℕ)) : Type 0 where
    number : q.knowledge.number ≡ p.knowledge.number
    calls : q.calls ≡ p.calls + 1
    seen : own p.knowledge.number q.knowledge.seen
        ≡ own p.knowledge.number p.knowledge.seen
        ++ accepted_once p.knowledge.number (p.calls + 1) request reply

  turn_sees : (start : V) (p : PassState V) (request : List ℕ) (reply : Option (List ℕ))
      (q : PassState V) → TakesTurn answerer start p request reply q → SeesOne p q request reply
  turn_sees start p request (Some reply) q (log, goes, replies, refuses, is) = record {
    number = ap number_of is;
    calls = ap (λ (x : PassState V). x.calls) is;
    seen = ap (λ (x : PassState V). own k x.knowledge.seen) is ∙ by_test (says_accepted reply);
  } where
    k : ℕ
    k = p.knowledge.number

    it : Entry
    it = next_entry p request

    by_test : (b : Bool)
        → own k (longer_if b log it) ≡ own k p.knowledge.seen ++ longer_if b [] it
    by_test true =
        own_both k log (it ∷ [])
        ∙ (ap (λ l. l ++ own k (it ∷ [])) goes.1
        ∙ ap (λ l. own k p.knowledge.seen ++ l) (own_here k it [] refl))
    by_test false = goes.1 ∙ sym (append-nil (own k p.knowledge.seen))
  turn_sees start p request None q (log, goes, is) = record {
    number = ap number_of is;
    calls = ap (λ (x : PassState V). x.calls) is;
    seen = ap (λ (x : PassState V). own p.knowledge.number x.knowledge.seen) is
        ∙ (goes.1 ∙ sym (append-nil (own p.knowledge.number p.knowledge.seen)));
  }

  pub turn_numbers : (start : V) (p : PassState V) (request : List ℕ) (reply : Option (List ℕ))
      (q : PassState V) → TakesTurn answerer start p request reply q
      → (q.knowledge.number ≡ p.knowledge.number) × (q.calls ≡ p.calls + 1)
  turn_numbers start p request reply q turn =
      let one = turn_sees start p request reply q turn in (one.number, one.calls)

  calls_see : (p q : PassState V) (es : List Exchange) → Leads (in_turns answerer) p es q
      → SeesItsOwn p q es
  calls_see p q [] same = record {
    number = ap number_of (sym same);
    calls = let is = ap (λ (x : PassState V). x.calls) same in omega (arith, is);
    seen = ap (λ (x : PassState V). own p.knowledge.number x.knowledge.seen) (sym same)
        ∙ sym (append-nil (own p.knowledge.number p.knowledge.seen));
  }
  calls_see p q (e ∷ es) (m, (start, is, turn), more) =
      let k = p.knowledge.number in
      let one = turn_sees start p e.request e.reply m turn in
      let rest = calls_see m q es more in
      let first = accepted_once k (p.calls + 1) e.request e.reply in
      let later = accepted_in_exchanges k (p.calls + 1) es in
      let behind : own k q.knowledge.seen ≡ own k m.knowledge.seen ++ later =
      subst (λ (c : ℕ). own k q.knowledge.seen
      ≡ own k m.knowledge.seen ++ accepted_in_exchanges k c es) one.calls
      (subst (λ (n : ℕ). own n q.knowledge.seen
      ≡ own n m.knowledge.seen ++ accepted_in_exchanges n m.calls es) one.number rest.seen) in
      record {
        number = rest.number ∙ one.number;
        calls = omega (arith, rest.calls, one.calls);
        seen = behind
            ∙ (ap (λ l. l ++ later) one.seen
            ∙ append_assoc (own k p.knowledge.seen) first later);
      }

-- the exchanges of a session were asked one after the other
pub asked_of : {A : Type 0} (tells : AskerTells A) (a b : A) (old new : Link) (ending : SessionEnd)
    (is : Serves tells a b old new ending)
    → Leads tells a (exchanges_of tells a b old new ending is) b
asked_of tells a b old new ends.End is = is.all.asked.asked
asked_of tells a b old new (ends.Bad place) (inl is) = is.all.asked.asked
asked_of tells a b old new (ends.Bad place) (inr is) = is.all.asked.asked
asked_of tells a b old new ends.LinkFault (inl is) = is.all.asked.asked
asked_of tells a b old new ends.LinkFault (inr is) = is.asked.asked
asked_of tells a b old new ends.Spent is = is.asked.asked
asked_of tells a b old new ends.Memory is = is.all.asked.asked

module _ {V S : Type 0} (answerer : AnswererTells V) (source : SourceTells S) (sink : SinkTells S)
  where
    pub asked_in : (s : PassSession (PassState V) S)
        (served : IsServed (serves_by_pass answerer source sink) s)
        → Leads (in_turns answerer) s.before (exchanges_in answerer source sink s served) s.after
    asked_in s served =
        asked_of (in_turns answerer) s.before s.after (link source sink s.session.given)
        (link source sink s.session.left) s.session.ending served.0

    pub sees_its_own : PassesSeeTheirOwn answerer source sink
    sees_its_own s served =
        calls_see answerer s.before s.after (exchanges_in answerer source sink s served)
        (asked_in s served)
