-- Frames that are answered one after the other.
use Rattle.std.proofs.Common.{◌≡◌, ◌∙◌, ℕ, suc, ◌+◌, ◌<◌, ◌≤◌, List, [], ◌∷◌, ◌++◌, Err, refl, sym, ap, subst, length, take, drop, get_or, append-nil, append_assoc, add-one, drop-cons, arith}
use Rattle.std.specs.Prelude.{Option}
use Rattle.std.specs.List.{AllByRecursion, flat_map}
use Rattle.std.proofs.KnownBytes.{Appends-nil, Appends-trans}
use Rattle.std.proofs.lemmas.Grind.{flat_map-append}
use Rattle.std.proofs.Math.Seq.{take-suc}
use Rattle.std.proofs.lemmas.List.{map-append, take-append-drop}
use Rattle.ov_wire.specs.Frames.{IsCut, IsFrame, framed}
use Rattle.ov_session.specs.Ends.{Answered}
use Rattle.ov_session.specs.Exchanges.{Exchange, Leads, answer_for, answers, requests}
use Rattle.ov_session.specs.Links.{Link}
use Rattle.ov_session.specs.declared.one.Stop.{Stop}
use Rattle.ov_session.specs.declared.one.Stop.TheVariants as stops
use Rattle.ov_session.specs.Steps.{AnswersFrame, AnswersFrames, AnswersIt, AnswersThem, BreaksOff, StopsSpent, StopsWriting}
use Rattle.ov_session.specs.Tells.{AskerTells}

-- ---- frames in a row

all_both : (fs gs : List (List ℕ)) → AllByRecursion IsFrame fs → AllByRecursion IsFrame gs
    → AllByRecursion IsFrame (fs ++ gs)
all_both [] gs all more = more
all_both (f ∷ fs) gs all more = (all.0, all_both fs gs all.1 more)

-- bytes that are frames, and more of them
pub cut_both : (xs ys : List ℕ) (fs gs : List (List ℕ)) → IsCut xs fs [] → IsCut ys gs []
    → IsCut (xs ++ ys) (fs ++ gs) []
cut_both xs ys fs gs one two = record {
  parts =
      let a : xs ≡ flat_map framed fs = one.parts ∙ append-nil (flat_map framed fs) in
      let b : ys ≡ flat_map framed gs = two.parts ∙ append-nil (flat_map framed gs) in
      ap (λ (l : List ℕ). l ++ ys) a ∙ ap (λ (l : List ℕ). flat_map framed fs ++ l) b
      ∙ sym (flat_map-append framed fs gs) ∙ sym (append-nil (flat_map framed (fs ++ gs)));
  each = all_both fs gs one.each two.each;
}

-- one frame
cut_one : (frame : List ℕ) → IsFrame frame → IsCut (framed frame) (frame ∷ []) []
cut_one frame is = record {
  parts = sym (append-nil (framed frame)) ∙ sym (append-nil (framed frame ++ []));
  each = (is, tt);
}

-- the frames before one, this one, and those after it
pub parts_at : (frames : List (List ℕ)) (i : ℕ) (frame item : List ℕ) → i < length frames
    → frame ≡ item → item ≡ get_or frames i item
    → frames ≡ take i frames ++ (frame ∷ drop (suc i) frames)
parts_at frames i frame item lt same is =
    sym (take-append-drop i frames)
    ∙ ap (λ (l : List (List ℕ)). take i frames ++ l) (drop-cons frames i item lt)
    ∙ ap (λ (f : List ℕ). take i frames ++ (f ∷ drop (suc i) frames)) (sym (same ∙ is))

pub front_at : (frames : List (List ℕ)) (i : ℕ) (frame item : List ℕ) → i < length frames
    → frame ≡ item → item ≡ get_or frames i item
    → take i frames ++ frame ∷ [] ≡ take (i + 1) frames
front_at frames i frame item lt same is =
    ap (λ (f : List ℕ). take i frames ++ f ∷ []) (same ∙ is)
    ∙ sym (take-suc frames i item lt) ∙ ap (λ (n : ℕ). take n frames) (sym (add-one i))

-- ---- exchanges in a row

module _ {A : Type 0} (tells : AskerTells A) where
  pub leads_both : (a b c : A) (es fs : List Exchange) → Leads tells a es b → Leads tells b fs c
      → Leads tells a (es ++ fs) c
  leads_both a b c [] fs same more = subst (λ (x : A). Leads tells x fs c) (sym same) more
  leads_both a b c (e ∷ es) fs (m, first, leads) more =
      (m, first, leads_both m b c es fs leads more)

  pub leads_on : (a b c : A) (es : List Exchange) (request : List ℕ) (reply : Option (List ℕ))
      → Leads tells a es b → tells.asks b request reply c
      → Leads tells a (es ++ record { request = request; reply = reply } ∷ []) c
  leads_on a b c es request reply leads one =
      leads_both a b c es (record { request = request; reply = reply } ∷ []) leads (c, one, refl)

pub answered_both : (old mid new : Link) (es fs : List Exchange) → Answered old mid es
    → Answered mid new fs → Answered old new (es ++ fs)
answered_both old mid new es fs one two = record {
  bytes = one.bytes ++ two.bytes;
  cut = subst (λ (l : List (List ℕ)). IsCut (one.bytes ++ two.bytes) l [])
      (sym (map-append (λ (e : Exchange). answer_for e.reply) es fs))
      (cut_both one.bytes two.bytes (answers es) (answers fs) one.cut two.cut);
  written = Appends-trans old.written mid.written new.written one.bytes two.bytes one.written
      two.written;
}

module _ {A : Type 0} (tells : AskerTells A) (a b c : A) (old mid new : Link) (before : List (List ℕ))
    (them : AnswersThem tells a b old mid before) (frame : List ℕ) where
  -- one more was answered
  pub one_more : AnswersIt tells b c mid new frame
      → AnswersThem tells a c old new (before ++ frame ∷ [])
  one_more it =
      let e : Exchange = record { request = frame; reply = it.reply } in
      record {
        exchanges = them.exchanges ++ e ∷ [];
        same = ap (λ (l : List (List ℕ)). l ++ frame ∷ []) them.same
            ∙ sym (map-append (λ (x : Exchange). x.request) them.exchanges (e ∷ []));
        asked = leads_on tells a b c them.exchanges frame it.reply them.asked it.asked;
        answered = answered_both old mid new them.exchanges (e ∷ []) them.answered (record {
          bytes = framed (answer_for it.reply);
          cut = cut_one (answer_for it.reply) it.fits;
          written = it.written;
        });
      }

  -- the answer to one more wasn't written whole
  pub broken_off : (frames unasked : List (List ℕ)) → frames ≡ before ++ (frame ∷ unasked)
      → old.write_faults ≤ mid.write_faults → BreaksOff tells b c mid new frame
      → StopsWriting tells a c old new frames
  broken_off frames unasked parts le off =
      let e : Exchange = record { request = frame; reply = off.reply } in
      record {
        before = them.exchanges;
        last = e;
        unasked = unasked;
        same = parts ∙ ap (λ (l : List (List ℕ)). l ++ (frame ∷ unasked)) them.same
            ∙ sym (append_assoc (requests them.exchanges) (frame ∷ []) unasked)
            ∙ ap (λ (l : List (List ℕ)). l ++ unasked)
            (sym (map-append (λ (x : Exchange). x.request) them.exchanges (e ∷ [])));
        asked = leads_on tells a b c them.exchanges frame off.reply them.asked off.asked;
        bytes = them.answered.bytes;
        cut = them.answered.cut;
        front = off.front;
        written = Appends-trans old.written mid.written new.written them.answered.bytes
            (take off.front (framed (answer_for off.reply))) them.answered.written off.written;
        rose = omega (arith, le, off.rose);
      }

  -- the asker was spent before one more
  pub spent_before : (frames unasked : List (List ℕ))
      → frames ≡ before ++ (frame ∷ unasked) → c ≡ b → tells.spent b → new ≡ mid
      → StopsSpent tells a c old new frames
  spent_before frames unasked parts same is still = record {
    exchanges = them.exchanges;
    request = frame;
    unasked = unasked;
    same = parts ∙ ap (λ (l : List (List ℕ)). l ++ (frame ∷ unasked)) them.same;
    asked = subst (λ (x : A). Leads tells a them.exchanges x) (sym same) them.asked;
    answered = subst (λ (l : Link). Answered old l them.exchanges) (sym still) them.answered;
    no_more = subst tells.spent (sym same) is;
  }

  -- one more stopped it
  pub stopped : (frames unasked : List (List ℕ))
      → frames ≡ before ++ (frame ∷ unasked) → old.write_faults ≤ mid.write_faults → (stop : Stop)
      → AnswersFrame tells b c mid new frame (Err stop)
      → AnswersFrames tells a c old new frames (Err stop)
  stopped frames unasked parts le stops.Link off = broken_off frames unasked parts le off
  stopped frames unasked parts le stops.Spent (same, is, still) =
      spent_before frames unasked parts same is still
