-- A stream is cut into frames in one way.
use Rattle.std.proofs.Common.{◌≡◌, ℕ, List, [], ◌∷◌, ◌++◌, length, inl, inr, refl, sym, ap, ◌∙◌, append_assoc, length-append, arith}
use Rattle.std.specs.List.{flat_map, AllByRecursion}
use Rattle.ov_fields.specs.Spelling.{u32}
use Rattle.ov_wire.specs.Frames.{framed, IsFrame, IsCut, in_length, in_frame}
use Rattle.ov_wire.proofs.StreamLaws.{numbers, two_frames}
use Rattle.ov_model.specs.Streams.{IsEnd}

-- no frame is at an end
no_frame : (rest g more : List ℕ) → IsEnd rest → IsFrame g → rest ≡ framed g ++ more → ⊥
no_frame rest g more (inl (in_length few)) is e = omega (arith, few, ap length e, length-append (framed g) more)
no_frame rest g more (inl (in_frame n front fits begins short)) is e =
    let both = numbers n (length g) front (g ++ more) (omega (arith, fits.1)) (omega (arith, is.1)) (sym begins ∙ e ∙ append_assoc (u32 (length g)) g more) in
    omega (arith, short, both.0, ap length both.1, length-append g more)
no_frame rest g more (inr bad) is e =
    let both = numbers bad.n (length g) bad.more (g ++ more) bad.field (omega (arith, is.1)) (sym bad.begins ∙ e ∙ append_assoc (u32 (length g)) g more) in
    elim bad.outside [ inl none ↦ omega (arith, none, both.0, is.0) | inr great ↦ omega (arith, great, both.0, is.1) ]

one_way : (frames others : List (List ℕ)) (rest other : List ℕ) → AllByRecursion IsFrame frames → AllByRecursion IsFrame others → IsEnd rest → IsEnd other
    → flat_map framed frames ++ rest ≡ flat_map framed others ++ other → (frames ≡ others) × (rest ≡ other)
one_way [] [] rest other all alls end ends e = (refl, e)
one_way [] (g ∷ others) rest other all alls end ends e =
    absurd (no_frame rest g (flat_map framed others ++ other) end alls.0 (e ∙ append_assoc (framed g) (flat_map framed others) other))
one_way (f ∷ frames) [] rest other all alls end ends e =
    absurd (no_frame other f (flat_map framed frames ++ rest) ends all.0 (sym e ∙ append_assoc (framed f) (flat_map framed frames) rest))
one_way (f ∷ frames) (g ∷ others) rest other all alls end ends e =
    let two = two_frames f g (flat_map framed frames ++ rest) (flat_map framed others ++ other) all.0 alls.0
    (sym (append_assoc (framed f) (flat_map framed frames) rest) ∙ e ∙ append_assoc (framed g) (flat_map framed others) other) in
    let more = one_way frames others rest other all.1 alls.1 end ends two.1 in
    (ap (λ (h : List ℕ). h ∷ frames) two.0 ∙ ap (λ (l : List (List ℕ)). g ∷ l) more.0, more.1)

pub cut_one_way : (bytes : List ℕ) (frames others : List (List ℕ)) (rest other : List ℕ) → IsCut bytes frames rest → IsEnd rest → IsCut bytes others other → IsEnd other
    → (frames ≡ others) × (rest ≡ other)
cut_one_way bytes frames others rest other cut end cuts ends = one_way frames others rest other cut.each cuts.each end ends (sym cut.parts ∙ cuts.parts)
