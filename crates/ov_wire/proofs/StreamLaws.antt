-- Pieces of a stream, one after the other, and frames with what is behind them.
use Rattle.std.proofs.Common.{◌≡◌, ℕ, ◌+◌, ◌^◌, ◌<◌, ◌≤◌, List, [], ◌∷◌, ◌++◌, length, get_or, take, drop, min, Ok, Err, inl, inr, refl, sym, ap, subst, ◌∙◌, append_assoc, length-append, add-one, arith}
use Rattle.std.specs.List.{flat_map, AllByRecursion}
use Rattle.std.proofs.lemmas.List.{append-nil, take_at, drop_at, take_all, take-append-drop}
use Rattle.std.proofs.Math.Seq.{take-suc}
use Rattle.std.proofs.lemmas.Grind.{flat_map-append}
use Rattle.ov_fields.specs.Spelling.{u32}
use Rattle.ov_fields.proofs.FieldLaws.{number_reads, wide32}
use Rattle.ov_fields.proofs.WholeLaws.{no_front}
use Rattle.ov_wire.specs.Frames.{framed, IsFrame, IsCut, IsBadLength, Decoding, later, joined, Takes, Stops, Feeds, FeedsAll}
use Rattle.ov_wire.specs.declared.fault.FeedFault.{FeedFault}
use Rattle.ov_wire.specs.declared.fault.FeedFault.TheVariants.{BadFrame, Memory}

-- ---- frames with what is behind them

-- two numbers with what is behind them
pub numbers : (n m : ℕ) (a b : List ℕ) → n < 2 ^ 32 → m < 2 ^ 32 → u32 n ++ a ≡ u32 m ++ b → (n ≡ m) × (a ≡ b)
numbers n m a b ln lm e = no_front (number_reads wide32) n m a b ln lm e

-- two frames with what is behind them
pub two_frames : (f g a b : List ℕ) → IsFrame f → IsFrame g → framed f ++ a ≡ framed g ++ b → (f ≡ g) × (a ≡ b)
two_frames f g a b isf isg e =
    let n = numbers (length f) (length g) (f ++ a) (g ++ b) (omega (arith, isf.1)) (omega (arith, isg.1)) (sym (append_assoc (u32 (length f)) f a) ∙ e ∙ append_assoc (u32 (length g)) g b) in (
      sym (take_at f a (length f) refl) ∙ ap (take (length f)) n.1 ∙ take_at g b (length f) (sym n.0),
      sym (drop_at f a (length f) refl) ∙ ap (drop (length f)) n.1 ∙ drop_at g b (length f) (sym n.0),
    )

-- ---- one piece after others

all_both : (fs gs : List (List ℕ)) → AllByRecursion IsFrame fs → AllByRecursion IsFrame gs → AllByRecursion IsFrame (fs ++ gs)
all_both [] gs all alls = alls
all_both (f ∷ fs) gs all alls = (all.0, all_both fs gs all.1 alls)

-- frames, and more of them in what was behind those with more bytes
cut_more : (bytes more : List ℕ) (fs gs : List (List ℕ)) (rest next : List ℕ) → IsCut bytes fs rest → IsCut (rest ++ more) gs next → IsCut (bytes ++ more) (fs ++ gs) next
cut_more bytes more fs gs rest next one two = record {
  parts = ap (λ (l : List ℕ). l ++ more) one.parts ∙ append_assoc (flat_map framed fs) rest more ∙ ap (λ (l : List ℕ). flat_map framed fs ++ l) two.parts
      ∙ sym (append_assoc (flat_map framed fs) (flat_map framed gs) next) ∙ ap (λ (l : List ℕ). l ++ next) (sym (flat_map-append framed fs gs));
  each = all_both fs gs one.each two.each;
}

-- frames that were cut, with more bytes behind the rest
cut_behind : (bytes more : List ℕ) (fs : List (List ℕ)) (rest : List ℕ) → IsCut bytes fs rest → IsCut (bytes ++ more) fs (rest ++ more)
cut_behind bytes more fs rest cut = record {
  parts = ap (λ (l : List ℕ). l ++ more) cut.parts ∙ append_assoc (flat_map framed fs) rest more;
  each = cut.each;
}

later_twice : (start m n most : ℕ) → min (min (start + m) most + n) most ≡ min (start + (m + n)) most
later_twice start m n most = omega arith

later_both : (start : ℕ) (fs gs : List (List ℕ)) → later (later start fs) gs ≡ later start (fs ++ gs)
later_both start fs gs =
    later_twice start (length (flat_map framed fs)) (length (flat_map framed gs)) 18446744073709551615
    ∙ ap (λ (n : ℕ). min (start + n) 18446744073709551615) (sym (ap length (flat_map-append framed fs gs) ∙ length-append (flat_map framed fs) (flat_map framed gs)))

pub takes_both : (a b c : Decoding) (p q : List ℕ) (before mid after : List (List ℕ)) → Takes a b p before mid → Takes b c q mid after → Takes a c (p ++ q) before after
takes_both a b c p q before mid after one two = record {
  good = one.good;
  frames = one.frames ++ two.frames;
  appended = two.appended ∙ ap (λ (l : List (List ℕ)). l ++ two.frames) one.appended ∙ append_assoc before one.frames two.frames;
  cut = rw (← append_assoc) (cut_more (a.rest ++ p) q one.frames two.frames b.rest c.rest one.cut two.cut);
  unfinished = two.unfinished;
  start = two.start ∙ ap (λ (n : ℕ). later n two.frames) one.start ∙ later_both a.start one.frames two.frames;
  still_good = two.still_good;
}

bad_more : (rest more : List ℕ) → IsBadLength rest → IsBadLength (rest ++ more)
bad_more rest more bad = record {
  n = bad.n;
  more = bad.more ++ more;
  field = bad.field;
  outside = bad.outside;
  begins = ap (λ (l : List ℕ). l ++ more) bad.begins ∙ append_assoc (u32 bad.n) bad.more more;
}

pub takes_then_stops : (a b c : Decoding) (p q : List ℕ) (before mid after : List (List ℕ)) (place : ℕ) → Takes a b p before mid → Stops b c q mid after place → Stops a c (p ++ q) before after place
takes_then_stops a b c p q before mid after place one two = record {
  good = one.good;
  frames = one.frames ++ two.frames;
  rest = two.rest;
  appended = two.appended ∙ ap (λ (l : List (List ℕ)). l ++ two.frames) one.appended ∙ append_assoc before one.frames two.frames;
  cut = rw (← append_assoc) (cut_more (a.rest ++ p) q one.frames two.frames b.rest two.rest one.cut two.cut);
  bad_length = two.bad_length;
  start = two.start ∙ ap (λ (n : ℕ). later n two.frames) one.start ∙ later_both a.start one.frames two.frames;
  stopped = two.stopped;
}

-- nothing is looked at behind a bad length field
pub stops_more : (a c : Decoding) (p more : List ℕ) (before after : List (List ℕ)) (place : ℕ) → Stops a c p before after place → Stops a c (p ++ more) before after place
stops_more a c p more before after place one = record {
  good = one.good;
  frames = one.frames;
  rest = one.rest ++ more;
  appended = one.appended;
  cut = rw (← append_assoc) (cut_behind (a.rest ++ p) more one.frames one.rest one.cut);
  bad_length = bad_more one.rest more one.bad_length;
  start = one.start;
  stopped = one.stopped;
}

-- ---- joining pieces

pub joined_more : (pieces : List (List ℕ)) (piece : List ℕ) → joined (pieces ++ piece ∷ []) ≡ joined pieces ++ piece
joined_more pieces piece = flat_map-append (λ p. p) pieces (piece ∷ []) ∙ ap (λ (l : List ℕ). joined pieces ++ l) (append-nil piece)

pub joined_both : (taken left : List (List ℕ)) → joined (taken ++ left) ≡ joined taken ++ joined left
joined_both taken left = flat_map-append (λ p. p) taken left

-- ---- what is answered of pieces

-- a fault before all of the pieces
pub fails_first : (old new : Decoding) (pieces before after : List (List ℕ)) (fault : FeedFault) → Feeds old new [] before after (Err fault) → FeedsAll old new pieces before after (Err fault)
fails_first old new pieces before after (BadFrame place) (inl stops) = inl (stops_more old new [] (joined pieces) before after place stops)
fails_first old new pieces before after (BadFrame place) (inr stays) = inr stays
fails_first old new pieces before after Memory same = inl same

front_more : (pieces : List (List ℕ)) (i : ℕ) → i < length pieces → take (i + 1) pieces ≡ take i pieces ++ get_or pieces i [] ∷ []
front_more pieces i lt = rw (add-one i) (take-suc pieces i [] lt)

joined_front : (pieces : List (List ℕ)) (i : ℕ) → i < length pieces → joined (take (i + 1) pieces) ≡ joined (take i pieces) ++ get_or pieces i []
joined_front pieces i lt =
    ap (λ (l : List (List ℕ)). joined l) (front_more pieces i lt) ∙ joined_more (take i pieces) (get_or pieces i [])

-- the pieces are those before one, this one, and those after it
pieces_are : (pieces : List (List ℕ)) (i : ℕ) → i < length pieces → joined pieces ≡ (joined (take i pieces) ++ get_or pieces i []) ++ joined (drop (i + 1) pieces)
pieces_are pieces i lt =
    ap (λ (l : List (List ℕ)). joined l) (sym (take-append-drop (i + 1) pieces)) ∙ joined_both (take (i + 1) pieces) (drop (i + 1) pieces)
    ∙ ap (λ (l : List ℕ). l ++ joined (drop (i + 1) pieces)) (joined_front pieces i lt)

-- a fault at a piece after others
pub fails_at : (old mid new : Decoding) (pieces before mids after : List (List ℕ)) (i : ℕ) (fault : FeedFault) → i < length pieces
    → Takes old mid (joined (take i pieces)) before mids → Feeds mid new (get_or pieces i []) mids after (Err fault) → FeedsAll old new pieces before after (Err fault)
fails_at old mid new pieces before mids after i (BadFrame place) lt so_far (inl stops) =
    inl (subst (λ (l : List ℕ). Stops old new l before after place) (sym (pieces_are pieces i lt))
    (stops_more old new (joined (take i pieces) ++ get_or pieces i []) (joined (drop (i + 1) pieces)) before after place
    (takes_then_stops old mid new (joined (take i pieces)) (get_or pieces i []) before mids after place so_far stops)))
fails_at old mid new pieces before mids after i (BadFrame place) lt so_far (inr stays) =
    let good = so_far.still_good in let bad = stays.bad in absurd cc
fails_at old mid new pieces before mids after i Memory lt so_far same =
    inr (record {
      taken = take i pieces;
      left = drop i pieces;
      parts = sym (take-append-drop i pieces);
      takes = rw (same.0, same.1) so_far;
    })

-- one piece more
pub goes_on : (old mid new : Decoding) (pieces before mids after : List (List ℕ)) (i : ℕ) → i < length pieces
    → Takes old mid (joined (take i pieces)) before mids → Takes mid new (get_or pieces i []) mids after → Takes old new (joined (take (i + 1) pieces)) before after
goes_on old mid new pieces before mids after i lt so_far one =
    subst (λ (l : List ℕ). Takes old new l before after) (sym (joined_front pieces i lt))
    (takes_both old mid new (joined (take i pieces)) (get_or pieces i []) before mids after so_far one)

-- all pieces
pub all_fed : (old new : Decoding) (pieces before after : List (List ℕ)) (i : ℕ) → length pieces ≤ i → Takes old new (joined (take i pieces)) before after → FeedsAll old new pieces before after (Ok tt)
all_fed old new pieces before after i le so_far = subst (λ (l : List (List ℕ)). Takes old new (joined l) before after) (take_all i pieces le) so_far
