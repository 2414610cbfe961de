-- Servings whose stored bytes may be hidden.
use Rattle.std.proofs.Common.{◌≡◌, ℕ, List, true≢false, refl, sym}
use Rattle.std.specs.Prelude.{Option, Some, None, is_some, option_map}
use Rattle.ov_protocol.specs.Serving.{Serving, told_as}

pub mapped_alike : {A B : Type 0} (f : A → B) (o : Option A)
    → is_some (option_map f o) ≡ is_some o
mapped_alike f None = refl
mapped_alike f (Some a) = refl

-- what is told of a serving depends only on whether its bytes are told
pub told_alike : (one other : Option (List (List ℕ))) (s : Serving) → is_some one ≡ is_some other
    → told_as one s ≡ told_as other s
told_alike None None s same = refl
told_alike None (Some bytes) s same = absurd (true≢false (sym same))
told_alike (Some bytes) None s same = absurd (true≢false same)
told_alike (Some bytes) (Some more) s same = refl
