-- The input of a session ends in one way.
use Rattle.std.proofs.Common.{◌≡◌, ◌≢◌, ◌∙◌, ℕ, ◌<◌, List, [], ◌∷◌, ◌++◌, inl, inr, refl, sym, ap, subst, length, length-append, append_assoc, arith}
use Rattle.std.specs.Prelude.{◌⊎◌}
use Rattle.std.specs.List.{AllByRecursion, flat_map}
use Rattle.ov_base.specs.declared.limits.TheConstants.{MAX_FRAME_BYTES}
use Rattle.ov_fields.specs.Spelling.{u32}
use Rattle.ov_wire.specs.Frames.{IsBadLength, IsFrame, IsFrameLength, IsUnfinished, framed, in_frame, in_length}
use Rattle.ov_wire.proofs.StreamLaws.{numbers, two_frames}
use Rattle.ov_session.specs.Laws.{InputsEndOneWay, IsTail}

-- a length field outside the limits is none within them
bad_number : (n : ℕ) (a : List ℕ) (b : IsBadLength (u32 n ++ a)) → IsFrameLength n → ⊥
bad_number n a b fits = outside b.outside where
  same : n ≡ b.n
  same = (numbers n b.n a b.more (omega (arith, fits.1)) b.field b.begins).0

  outside : (b.n ≡ 0) ⊎ (MAX_FRAME_BYTES < b.n) → ⊥
  outside (inl none) = absurd (omega (arith, same, none, fits.0))
  outside (inr more) = absurd (omega (arith, same, more, fits.1))

not_both : (rest : List ℕ) → IsUnfinished rest → IsBadLength rest → ⊥
not_both rest (in_length few) bad =
    absurd (omega (arith, few, ap length bad.begins, length-append (u32 bad.n) bad.more))
not_both rest (in_frame n front fits is few) bad =
    bad_number n front (subst IsBadLength is bad) fits

not_empty : (rest : List ℕ) → IsBadLength rest → rest ≢ []
not_empty rest bad none =
    absurd (omega (arith, ap length (sym bad.begins ∙ none), length-append (u32 bad.n) bad.more))

-- no tail begins with a frame
no_frame : (f x rest : List ℕ) → IsFrame f → framed f ++ x ≡ rest → IsTail rest → ⊥
no_frame f x rest is e (inl none) =
    absurd (omega (arith, ap length (e ∙ none), length-append (framed f) x))
no_frame f x rest is e (inr (inl (in_length few))) =
    absurd (omega (arith, few, ap length e, length-append (framed f) x))
no_frame f x rest is e (inr (inl (in_frame n front fits same few))) =
    let (number, behind) = numbers (length f) n (f ++ x) front (omega (arith, is.1)) (omega (arith, fits.1))
    (sym (append_assoc (u32 (length f)) f x) ∙ e ∙ same) in
    absurd (omega (arith, number, ap length behind, length-append f x, few))
no_frame f x rest is e (inr (inr bad)) =
    bad_number (length f) (f ++ x)
    (subst IsBadLength (sym e ∙ append_assoc (u32 (length f)) f x) bad) is

-- frames with a tail are others with a tail only where both are the same
one_cut : (fs gs : List (List ℕ)) (rest other : List ℕ) → AllByRecursion IsFrame fs
    → AllByRecursion IsFrame gs → flat_map framed fs ++ rest ≡ flat_map framed gs ++ other
    → IsTail rest → IsTail other → (fs ≡ gs) × (rest ≡ other)
one_cut [] [] rest other all every same tail end = (refl, same)
one_cut [] (g ∷ gs) rest other all every same tail end =
    absurd (no_frame g (flat_map framed gs ++ other) rest every.0
    (sym (append_assoc (framed g) (flat_map framed gs) other) ∙ sym same) tail)
one_cut (f ∷ fs) [] rest other all every same tail end =
    absurd (no_frame f (flat_map framed fs ++ rest) other all.0
    (sym (append_assoc (framed f) (flat_map framed fs) rest) ∙ same) end)
one_cut (f ∷ fs) (g ∷ gs) rest other all every same tail end =
    let two = two_frames f g (flat_map framed fs ++ rest) (flat_map framed gs ++ other) all.0 every.0
    (sym (append_assoc (framed f) (flat_map framed fs) rest) ∙ same
    ∙ append_assoc (framed g) (flat_map framed gs) other) in
    let more = one_cut fs gs rest other all.1 every.1 two.1 tail end in
    (ap (λ (h : List ℕ). h ∷ fs) two.0 ∙ ap (λ (l : List (List ℕ)). g ∷ l) more.0, more.1)

pub end_one_way : InputsEndOneWay
end_one_way = record {
  one_cut = λ text fs gs rest other cut cut' tail end.
      one_cut fs gs rest other cut.each cut'.each (sym cut.parts ∙ cut'.parts) tail end;
  not_both = not_both;
  not_empty = not_empty;
}
