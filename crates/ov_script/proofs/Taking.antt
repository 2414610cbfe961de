-- What several takes together take.
use Rattle.std.proofs.Common.{◌≡◌, ℕ, ◌+◌, ◌≤◌, List, [], ◌∷◌, ◌++◌, length, take, sym, ◌∙◌, ap, subst, append_assoc, append-nil, length-append, arith, Option, Some, None}
use Rattle.std.proofs.Math.Seq.{take-append_seam}
use Rattle.std.specs.Io.KnownBytes.{prepend_known, Consumes, Keeps}
use Rattle.std.proofs.KnownBytes.{Consumes-trans, Consumes-nil, Consumes-kept}
use Rattle.ov_io.specs.Tells.{SourceTells}
use Rattle.ov_script.specs.Feed.{Fed, Takes, text_of}
use Rattle.ov_script.specs.LineFeeds.{NoLf}
use Rattle.ov_script.specs.NoItem.{IsWhyNone}
use Rattle.ov_script.specs.Reading.{IsBad, IsTooLong}
use Rattle.ov_script.specs.declared.ended.Ended.{Ended}
use Rattle.ov_script.specs.declared.ended.Ended.TheVariants.{End, Bad, Long, Fault}

-- one take after another
pub Takes-trans : {S : Type 0} (tells : SourceTells S) (a b c : Fed S) (xs ys : List ℕ) → Takes tells a b xs → Takes tells b c ys → Takes tells a c (xs ++ ys)
Takes-trans tells a b c xs ys p q = record {
  pending = q.pending ∙ ap (λ l. l ++ ys) p.pending ∙ append_assoc a.pending xs ys;
  source = Consumes-trans (tells.left a.source) (tells.left b.source) (tells.left c.source) xs ys p.source q.source;
}

-- what had no LF is a front of what is pending after a take
pub seen_behind : (old new more : List ℕ) → new ≡ old ++ more → NoLf old → (length old ≤ length new) × NoLf (take (length old) new)
seen_behind old new more e none =
    let size : length new ≡ length old + length more = ap length e ∙ length-append old more in
    (omega arith, subst NoLf (sym (ap (take (length old)) e ∙ take-append_seam old more)) none)

pub seen_again : (bytes old new more : List ℕ) → bytes ≡ old → new ≡ old ++ more → bytes ≡ take (length bytes) new
seen_again bytes old new more b e =
    let joined : new ≡ bytes ++ more = e ∙ ap (λ l. l ++ more) (sym b) in
    sym (ap (take (length bytes)) joined ∙ take-append_seam bytes more)

kept_at : (before after' : Option (List ℕ)) (old new more : List ℕ) → new ≡ old ++ more → Consumes before after' more → Keeps (prepend_known old before) (prepend_known new after')
kept_at None after' old new more e p = tt
kept_at (Some xs) None old new more e p = absurd p
kept_at (Some xs) (Some ys) old new more e p = ap (λ l. l ++ ys) e ∙ append_assoc old more ys ∙ ap (λ l. old ++ l) (sym p)

-- what is taken is still to be read
pub text_kept : {S : Type 0} (tells : SourceTells S) (a b : Fed S) (more : List ℕ) → Takes tells a b more → Keeps (text_of tells a) (text_of tells b)
text_kept tells a b more t = kept_at (tells.left a.source) (tells.left b.source) a.pending b.pending more t.pending t.source

why_at : (room : ℕ) (x y : Option (List ℕ)) (ended : Ended) → Keeps x y → IsWhyNone room y ended → IsWhyNone room x ended
why_at room None y End k w = tt
why_at room None y Bad k w = tt
why_at room None y Long k w = tt
why_at room x y (Fault fault) k w = tt
why_at room (Some xs) None End k w = absurd k
why_at room (Some xs) None Bad k w = absurd k
why_at room (Some xs) None Long k w = absurd k
why_at room (Some xs) (Some ys) End k w = sym k ∙ w
why_at room (Some xs) (Some ys) Bad k w = subst (IsBad room) k w
why_at room (Some xs) (Some ys) Long k w = subst (IsTooLong room) k w

-- why there is no item in what is pending is why there is none in the text
pub why_kept : {S : Type 0} (tells : SourceTells S) (room : ℕ) (a b : Fed S) (more : List ℕ) (ended : Ended) → Takes tells a b more
    → IsWhyNone room (text_of tells b) ended → IsWhyNone room (text_of tells a) ended
why_kept tells room a b more ended taken why = why_at room (text_of tells a) (text_of tells b) ended (text_kept tells a b more taken) why

-- why there is no item in these bytes, whatever is left behind them, is why there was none before
-- they were taken
pub why_settled : {S : Type 0} (tells : SourceTells S) (room : ℕ) (a b : Fed S) (more bytes : List ℕ) (ended : Ended) → Takes tells a b more
    → bytes ≡ b.pending → ((left : Option (List ℕ)) → IsWhyNone room (prepend_known bytes left) ended) → IsWhyNone room (text_of tells a) ended
why_settled tells room a b more bytes ended taken is why =
    why_kept tells room a b more ended taken
    (subst (λ all. IsWhyNone room (prepend_known all (tells.left b.source)) ended) is (why (tells.left b.source)))

-- nothing was taken
pub none_taken : (old new more : List ℕ) → new ≡ old ++ more → length more ≡ 0 → new ≡ old
none_taken old new [] e none = e ∙ append-nil old
none_taken old new (b ∷ more) e none = absurd (omega arith)
