use Rattle.std.proofs.Common.{refl, inl, inr}
use Rattle.ov_owning.proofs.laws.new_books_are_served.Goals as goal

pub returns : goal.returns
returns c = λ k mode. (
  record { surface = refl; check = refl; history = inl refl },
  λ i unborn. inl (unborn, refl),
  λ act. inr refl,
)
