-- Cutting a stream into frames.
use Rattle.std.proofs.Common.{◌≡◌, ℕ, ◌+◌, ◌<◌, List, [], ◌∷◌, ◌++◌, length, take, min, inl, false, refl, sym, ap, subst, ◌∙◌, append_assoc, length-append, length-take, arith}
use Rattle.std.specs.List.{flat_map, AllByRecursion}
use Rattle.std.proofs.lemmas.List.{append-nil}
use Rattle.std.proofs.lemmas.Grind.{flat_map-append}
use Rattle.std.proofs.Math.ListN.{set}
use Rattle.std.proofs.Math.Seq.{set-append_seam}
use Rattle.ov_fields.specs.Spelling.{u32}
use Rattle.ov_wire.specs.declared.state.State.{State}
use Rattle.ov_wire.specs.declared.state.State.TheVariants as states
use Rattle.ov_wire.specs.Frames.{framed, IsFrame, IsFrameLength, IsCut, in_length, in_frame, Decoding, Feeds, state_rest, is_bad, verdict}
use Rattle.ov_wire.specs.Cutting.{StateCut, IsCutting, CutsOff, Advances}

-- what is kept while bytes are cut: before stood in the list at first, and after stands there now
pub record CutsOn (bytes : List ℕ) (before after : List (List ℕ)) (count filled : ℕ) (head rest : List ℕ) : Type 0 where
  pub frames : List (List ℕ)
  pub appended : after ≡ before ++ frames
  pub cut : IsCut bytes frames (take filled head ++ rest)
  pub counted : count ≡ length (flat_map framed frames)
  pub little : filled < 4
  pub room : count + filled + length rest ≡ length bytes

-- bytes and frames that were cut, behind one frame more
cut_behind : (frame bytes : List ℕ) (frames : List (List ℕ)) (rest : List ℕ) → IsFrame frame → IsCut bytes frames rest → IsCut (framed frame ++ bytes) (frame ∷ frames) rest
cut_behind frame bytes frames rest is cut = record {
  parts = ap (λ (l : List ℕ). framed frame ++ l) cut.parts ∙ sym (append_assoc (framed frame) (flat_map framed frames) rest);
  each = (is, cut.each);
}

state_behind : (frame bytes : List ℕ) (frames : List (List ℕ)) (state : State) → IsFrame frame → StateCut bytes frames state → StateCut (framed frame ++ bytes) (frame ∷ frames) state
state_behind frame bytes frames (states.Length head filled) is c = (cut_behind frame bytes frames (take filled head) is c.0, c.1)
state_behind frame bytes frames (states.Frame wanted body) is c = (cut_behind frame bytes frames (u32 wanted ++ body.items) is c.0, c.1)
state_behind frame bytes frames states.Bad is c = (c.0, cut_behind frame bytes frames c.0 is c.1, c.2)

-- a frame that is whole now, and what was cut behind it
completed : (wanted : ℕ) (body front rest : List ℕ) (fresh : List (List ℕ)) (count : ℕ) (state : State)
    → IsFrameLength wanted → length body + length front ≡ wanted → IsCutting rest fresh count state
    → IsCutting ((u32 wanted ++ body) ++ (front ++ rest)) ((body ++ front) ∷ fresh) (count + 4 + wanted) state
completed wanted body front rest fresh count state fits whole c =
    let n : length (body ++ front) ≡ wanted = length-append body front ∙ whole in
    let is : IsFrame (body ++ front) = subst IsFrameLength (sym n) fits in
    let bytes : framed (body ++ front) ++ rest ≡ (u32 wanted ++ body) ++ (front ++ rest) =
    ap (λ (k : ℕ). (u32 k ++ (body ++ front)) ++ rest) n ∙ simp append_assoc in
    record {
      cut = subst (λ (l : List ℕ). StateCut l ((body ++ front) ∷ fresh) state) bytes (state_behind (body ++ front) rest fresh state is c.cut);
      counted = omega (arith, c.counted, length-append (framed (body ++ front)) (flat_map framed fresh), n);
    }

abbrev decoding : ℕ → State → Decoding
decoding start state = record { start = start; rest = state_rest state; bad = is_bad state }

-- what a decoder has taken
pub has_fed : (start next used : ℕ) (old new : State) (piece : List ℕ) (before after : List (List ℕ)) → is_bad old ≡ false → next ≡ min (start + used) 18446744073709551615
    → Advances old new piece before after used → Feeds (decoding start old) (decoding next new) piece before after (verdict (decoding next new))
has_fed start next used old (states.Length head filled) piece before after good is a =
    record {
      good = good;
      frames = a.frames;
      appended = a.appended;
      cut = a.cutting.cut.0;
      unfinished = in_length (omega (arith, length-take filled head, a.cutting.cut.1.1));
      start = is ∙ ap (λ (n : ℕ). min (start + n) 18446744073709551615) a.cutting.counted;
      still_good = refl;
    }
has_fed start next used old (states.Frame wanted body) piece before after good is a =
    record {
      good = good;
      frames = a.frames;
      appended = a.appended;
      cut = a.cutting.cut.0;
      unfinished = in_frame wanted body.items a.cutting.cut.1.0 refl a.cutting.cut.1.1;
      start = is ∙ ap (λ (n : ℕ). min (start + n) 18446744073709551615) a.cutting.counted;
      still_good = refl;
    }
has_fed start next used old states.Bad piece before after good is a =
    inl (record {
      good = good;
      frames = a.frames;
      rest = a.cutting.cut.0;
      appended = a.appended;
      cut = a.cutting.cut.1;
      bad_length = a.cutting.cut.2;
      start = is ∙ ap (λ (n : ℕ). min (start + n) 18446744073709551615) a.cutting.counted;
      stopped = refl;
    })

-- the first frame in its place
first_put : (frames after fresh : List (List ℕ)) (place : ℕ) (put first : List ℕ) → after ≡ frames ++ ([] ∷ fresh) → place ≡ length frames → put ≡ first
    → set after place put ≡ frames ++ (first ∷ fresh)
first_put frames after fresh place put first p q r = rw (p, q, r) (set-append_seam frames [] fresh first)

-- the frame that is whole now in its place, and what was cut behind it
pub completes : (wanted : ℕ) (body front rest : List ℕ) (before now : List (List ℕ)) (place count : ℕ) (put : List ℕ) (state : State)
    → IsFrameLength wanted → length body + length front ≡ wanted → CutsOff rest (before ++ [] ∷ []) now count state
    → place ≡ length before → put ≡ body ++ front
    → CutsOff ((u32 wanted ++ body) ++ (front ++ rest)) before (set now place put) (count + 4 + wanted) state
completes wanted body front rest before now place count put state fits whole c at is =
    record {
      frames = (body ++ front) ∷ c.frames;
      appended = first_put before now c.frames place put (body ++ front) (c.appended ∙ append_assoc before ([] ∷ []) c.frames) at is;
      cutting = completed wanted body front rest c.frames count state fits whole c.cutting;
    }
