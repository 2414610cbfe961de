-- Askers that stand for others.
use Rattle.std.proofs.Common.{ℕ, List, [], ◌∷◌, ◌++◌, inl, inr, ap}
use Rattle.std.specs.Prelude.{Option}
use Rattle.ov_session.specs.declared.end.SessionEnd.{SessionEnd}
use Rattle.ov_session.specs.declared.end.SessionEnd.TheVariants as ends
use Rattle.ov_session.specs.Ends.{AnswersAll, Asked, Serves}
use Rattle.ov_session.specs.Exchanges.{Exchange, Leads}
use Rattle.ov_session.specs.Links.{Link}
use Rattle.ov_session.specs.Tells.{AskerTells}

module _ {A B : Type 0} (tells : AskerTells A) (other : AskerTells B) (f : A → B)
    (each : (a b : A) (request : List ℕ) (reply : Option (List ℕ)) → tells.asks a request reply b
    → other.asks (f a) request reply (f b)) (is : (a : A) → tells.spent a → other.spent (f a)) where
  leads_so : (a b : A) (es : List Exchange) → Leads tells a es b → Leads other (f a) es (f b)
  leads_so a b [] same = ap f same
  leads_so a b (e ∷ es) (m, first, more) =
      (f m, each a m e.request e.reply first, leads_so m b es more)

  module _ (a b : A) (old new : Link) where
    asked_so : (es : List Exchange) (taken : List ℕ) (unasked : List (List ℕ)) (rest : List ℕ)
        → Asked tells a b old new es taken unasked rest
        → Asked other (f a) (f b) old new es taken unasked rest
    asked_so es taken unasked rest s =
        record { asked = leads_so a b es s.asked; read = s.read; cut = s.cut }

    abbrev all_so : (taken rest : List ℕ) → AnswersAll tells a b old new taken rest
        → AnswersAll other (f a) (f b) old new taken rest
    all_so taken rest s = record {
      exchanges = s.exchanges;
      asked = asked_so s.exchanges taken [] rest s.asked;
      answered = s.answered;
    }

    -- what one asker does another does for which it stands
    pub serves_so : (ending : SessionEnd) → Serves tells a b old new ending
        → Serves other (f a) (f b) old new ending
    serves_so ends.End s =
        record { taken = s.taken; all = all_so s.taken [] s.all; at_end = s.at_end }
    serves_so (ends.Bad place) (inl s) = inl (record {
      taken = s.taken;
      rest = s.rest;
      all = all_so s.taken s.rest s.all;
      bad = s.bad;
      stands = s.stands;
    })
    serves_so (ends.Bad place) (inr s) = inr (record {
      taken = s.taken;
      rest = s.rest;
      all = all_so s.taken s.rest s.all;
      inside = s.inside;
      some = s.some;
      at_end = s.at_end;
      stands = s.stands;
    })
    serves_so ends.LinkFault (inl s) = inl (record {
      taken = s.taken;
      rest = s.rest;
      all = all_so s.taken s.rest s.all;
      inside = s.inside;
      rose = s.rose;
    })
    serves_so ends.LinkFault (inr s) = inr (record {
      before = s.before;
      last = s.last;
      taken = s.taken;
      unasked = s.unasked;
      rest = s.rest;
      asked = asked_so (s.before ++ s.last ∷ []) s.taken s.unasked s.rest s.asked;
      bytes = s.bytes;
      cut = s.cut;
      front = s.front;
      written = s.written;
      rose = s.rose;
    })
    serves_so ends.Spent s = record {
      exchanges = s.exchanges;
      taken = s.taken;
      request = s.request;
      unasked = s.unasked;
      rest = s.rest;
      asked = asked_so s.exchanges s.taken (s.request ∷ s.unasked) s.rest s.asked;
      answered = s.answered;
      no_more = is b s.no_more;
    }
    serves_so ends.Memory s = record {
      taken = s.taken;
      part = s.part;
      piece = s.piece;
      all = all_so s.taken (s.part ++ s.piece) s.all;
      inside = s.inside;
      most = s.most;
    }
