-- What is used of a text.
use Rattle.std.proofs.Common.{◌≡◌, ℕ, List, [], ◌++◌, sym, ◌∙◌, ap, subst, append_assoc, Option, Some, None}
use Rattle.std.specs.Prelude.{IfSome}
use Rattle.std.specs.Io.KnownBytes.{prepend_known, Consumes, IsAtEnd}
use Rattle.std.proofs.KnownBytes.{Consumes-trans}
use Rattle.ov_io.specs.Tells.{SourceTells}
use Rattle.ov_script.specs.Feed.{Fed, Uses, text_of}

-- one use after another
pub uses_trans : {S : Type 0} (tells : SourceTells S) (a b c : Fed S) (xs ys : List ℕ) → Uses tells a b xs → Uses tells b c ys → Uses tells a c (xs ++ ys)
uses_trans tells a b c xs ys p q = record {
  more = p.more ++ q.more;
  source = Consumes-trans (tells.left a.source) (tells.left b.source) (tells.left c.source) p.more q.more p.source q.source;
  pending = sym (append_assoc a.pending p.more q.more) ∙ ap (λ l. l ++ q.more) p.pending ∙ append_assoc xs b.pending q.more ∙ ap (λ l. xs ++ l) q.pending ∙ sym (append_assoc xs ys c.pending);
}

joined_at : (p q u m : List ℕ) (x y : Option (List ℕ)) → Consumes x y m → p ++ m ≡ u ++ q → Consumes (prepend_known p x) (prepend_known q y) u
joined_at p q u m None y c e = tt
joined_at p q u m (Some xs) None c e = absurd c
joined_at p q u m (Some xs) (Some ys) c e = ap (λ l. p ++ l) c ∙ sym (append_assoc p m ys) ∙ ap (λ l. l ++ ys) e ∙ append_assoc u q ys

-- the text begins with what is used of it
pub text_used : {S : Type 0} (tells : SourceTells S) (a b : Fed S) (used : List ℕ) → Uses tells a b used → Consumes (text_of tells a) (text_of tells b) used
text_used tells a b used u = joined_at a.pending b.pending used u.more (tells.left a.source) (tells.left b.source) u.source u.pending

-- a fact of what is left behind the bytes is one of the text
pub fact_behind : (P Q : List ℕ → Type 0) (x y : Option (List ℕ)) (used : List ℕ) → ((rest : List ℕ) → Q rest → P (used ++ rest)) → Consumes x y used → IfSome y Q → IfSome x P
fact_behind P Q None y used f c q = tt
fact_behind P Q (Some xs) None used f c q = absurd c
fact_behind P Q (Some xs) (Some ys) used f c q = subst P (sym c) (f ys q)
