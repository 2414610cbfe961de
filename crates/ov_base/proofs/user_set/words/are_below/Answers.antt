use Rattle.std.proofs.Common.{◌*◌, arith, inl, inr}
use Rattle.std.proofs.lemmas.Bool.{cases_lt}
use Rattle.std.proofs.Math.Facts.{Fits-lt-pow}
use Rattle.ov_base.proofs.WordBits.{AllFit, words-IsBelow}
use Rattle.ov_base.proofs.WordLimits.{none_past, one_past}
use Rattle.ov_base.proofs.user_set.words.are_below.Goals.{else-room-lt64-via-then-room-lt64+else-words-i-ne0, else-room-lt64-via-else-room-lt64}
use Rattle.ov_base.proofs.user_set.words.are_below.Goals as goal

pub loop-i-init : goal.loop-i-init
loop-i-init c user low one = absurd (omega (arith, low))

pub returns-then-words-i-ne0-clause-past : goal.returns-then-words-i-ne0-clause-past
returns-then-words-i-ne0-clause-past c is below =
    let ws = c.args.words.now in
    let fits : AllFit ws = λ i. Fits-lt-pow (c.type_inv.words i) in
    let past = one_past ws fits c.loop-i.i c.saturating_sub-room.result c.if-room-lt64.true c.if-words-i-ne0.true in
    omega (arith, past.1, below past.0 past.2, c.saturating_sub-room.ensures)

pub loop-i-preserved : goal.loop-i-preserved
loop-i-preserved c user low one =
    let ws = c.args.words.now in
    let fits : AllFit ws = λ i. Fits-lt-pow (c.type_inv.words i) in
    elim (cases_lt user (64 * c.loop-i.i)) [
      | inl before ↦ c.loop-i.invariant user before one
      | inr here ↦ elim c.else-room-lt64.branch [
        | else-room-lt64-via-then-room-lt64+else-words-i-ne0 w ↦
            omega (arith, none_past ws fits c.loop-i.i c.saturating_sub-room.result w.if-words-i-ne0.false user (omega (arith, here, low)) one, w.if-room-lt64.true, c.saturating_sub-room.ensures)
        | else-room-lt64-via-else-room-lt64 w ↦ omega (arith, low, w.if-room-lt64.false, c.saturating_sub-room.ensures)
      ]
    ]

pub returns-clause-below : goal.returns-clause-below
returns-clause-below c is user one =
    let ws = c.args.words.now in
    let fits : AllFit ws = λ i. Fits-lt-pow (c.type_inv.words i) in
    let inside = words-IsBelow ws fits user one in
    c.loop-i.invariant user (omega (arith, inside, c.loop-i-test.false)) one
