-- Two modes have two bytes and two words.
use Rattle.std.proofs.Common.{◌≡◌, ℕ, List, length, refl, ap, arith}
use Rattle.ov_base.specs.declared.mode.Mode.{Mode}
use Rattle.ov_base.specs.declared.mode.Mode.TheVariants.{Full, Delta}
use Rattle.ov_base.specs.Modes.{mode_byte, mode_word}

pub one_byte : (a b : Mode) → mode_byte a ≡ mode_byte b → a ≡ b
one_byte Full Full e = refl
one_byte Full Delta e = absurd (cc e)
one_byte Delta Full e = absurd (cc e)
one_byte Delta Delta e = refl

one_length : (a b : List ℕ) → a ≡ b → length a ≡ length b
one_length a b e = ap length e

pub one_word : (a b : Mode) → mode_word a ≡ mode_word b → a ≡ b
one_word Full Full e = refl
one_word Delta Delta e = refl
one_word Full Delta e = absurd (let long : 4 ≡ 5 = one_length (mode_word Full) (mode_word Delta) e in omega (arith, long))
one_word Delta Full e = absurd (let long : 5 ≡ 4 = one_length (mode_word Delta) (mode_word Full) e in omega (arith, long))
