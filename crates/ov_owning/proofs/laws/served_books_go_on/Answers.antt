use Rattle.ov_owning.proofs.laws.served_books_go_on.Goals as goal

pub returns : goal.returns
returns g c = λ k b act body v q d e end left r i reads. (
  λ may.
      let (x, mode, image, serves) = left.images i may in
      (x, record { image = i; told = reads; stands = image; mode_is = mode }, serves),
  λ since.
      let (x, mode, image, one, both) = left.moments.each i since in
      (x, record { image = i; told = reads; stands = image; mode_is = mode }, one, both),
)
