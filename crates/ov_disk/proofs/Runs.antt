-- How a run of disk calls goes on, for the proofs of callers: one step for each call, and one run after
-- another.
use Rattle.std.proofs.Common.{◌≡◌, inl, inr, ⊎_elim, Option, Some, None, Result, Ok, Err, OnOk, refl, sym, ◌∙◌, arith}
use Rattle.std.specs.Option.{option_map}
use Rattle.ov_disk.specs.Disk.{Image, Follows, Narrows}
use Rattle.ov_disk.specs.Moments.{Elapses, LeavesOnly, IsUntouched}
use Rattle.ov_disk.specs.Tells.{DiskTells}

-- what read a mapped image read the image itself before
pub mapped_some : (f : Image → Image) (o : Option Image) (k : Image) → option_map f o ≡ Some k → (i : Image) × (o ≡ Some i) × (k ≡ f i)
mapped_some f (Some i) k is = let same : f i ≡ k = cc is in (i, refl, sym same)
mapped_some f None k is = absurd (cc is)

-- what a crash may leave now after calls that write nothing, for a step that may change nothing
pub follows_same : (step : Image → Image → Type 0) (old new : Image → Type 0) → ((i : Image) → step i i) → Narrows old new → Follows step old new
follows_same step old new same narrows c left = (c, narrows c left, same c)

-- what it may leave now after two runs of calls, each of which makes such a step, where two steps one after the other are one
pub follows_then : (step : Image → Image → Type 0) (old mid new : Image → Type 0) → ((i j k : Image) → step i j → step j k → step i k)
    → Follows step old mid → Follows step mid new → Follows step old new
follows_then step old mid new then one two c left =
    let second = two c left in
    let first = one second.0 second.1 in
    (first.0, first.1, then first.0 second.0 c first.2 second.2)

-- a step that says less
pub follows_weaker : (step less : Image → Image → Type 0) (old new : Image → Type 0) → ((i k : Image) → step i k → less i k) → Follows step old new → Follows less old new
follows_weaker step less old new says follows c left = let from = follows c left in (from.0, from.1, says from.0 c from.2)

module _ {D : Type 0} (tells : DiskTells D) where
  -- before the first call
  pub started : (old : D) (P : Image → Type 0) → ((c : Image) → tells.may_leave old c → P c)
      → LeavesOnly tells old old P
  started old P here = record { later = omega arith; each = λ c left. here c (tells.only_now old c left); before = λ t c le left. inl left }

  -- one call more, after which a crash leaves what has P
  pub goes_on : (old mid new : D) (P : Image → Type 0) → LeavesOnly tells old mid P → Elapses tells mid new
      → ((c : Image) → tells.may_leave new c → P c) → LeavesOnly tells old new P
  goes_on old mid new P so_far time here = record {
    later = omega (arith, so_far.later, time.later);
    each = λ c left. ⊎_elim (so_far.each c) (here c) (time.nothing_else (tells.moment old) c so_far.later left);
    before = λ t c le left. ⊎_elim (so_far.before t c le) (λ now. inr (here c now)) (time.nothing_else t c (omega (arith, le, so_far.later)) left);
  }

  -- one run after another
  pub then_on : (d0 d1 d2 : D) (P Q : Image → Type 0) → LeavesOnly tells d0 d1 P → LeavesOnly tells d1 d2 Q → ((c : Image) → Q c → P c)
      → LeavesOnly tells d0 d2 P
  then_on d0 d1 d2 P Q so_far next has = record {
    later = omega (arith, so_far.later, next.later);
    each = λ c left. ⊎_elim (so_far.each c) (has c) (next.before (tells.moment d0) c so_far.later left);
    before = λ t c le left. ⊎_elim (so_far.before t c le) (λ q. inr (has c q)) (next.before t c (omega (arith, le, so_far.later)) left);
  }

  -- what has P has Q
  pub weaker : (old new : D) (P Q : Image → Type 0) → LeavesOnly tells old new P → ((c : Image) → P c → Q c) → LeavesOnly tells old new Q
  weaker old new P Q so_far has = record {
    later = so_far.later;
    each = λ c left. has c (so_far.each c left);
    before = λ t c le left. ⊎_elim inl (λ p. inr (has c p)) (so_far.before t c le left);
  }

  -- no call yet
  pub untouched : (old : D) → IsUntouched tells old old
  untouched old = record { reads_same = refl; no_more = λ c left. left; any_moment = started old (tells.may_leave old) (λ c left. left) }

  -- one such run after another
  pub looks_then : (d0 d1 d2 : D) → IsUntouched tells d0 d1 → IsUntouched tells d1 d2
      → IsUntouched tells d0 d2
  looks_then d0 d1 d2 so_far next = record {
    reads_same = next.reads_same ∙ so_far.reads_same;
    no_more = λ c left. so_far.no_more c (next.no_more c left);
    any_moment = then_on d0 d1 d2 (tells.may_leave d0) (tells.may_leave d1) so_far.any_moment next.any_moment so_far.no_more;
  }

-- what follows at Ok from two things that hold at Ok
pub on_both : {T E : Type 0} (r : Result T E) (P Q S : Type 0) → OnOk r P → OnOk r Q → (P → Q → S) → OnOk r S
on_both (Ok x) P Q S p q then = then p q
on_both (Err e) P Q S p q then = p
