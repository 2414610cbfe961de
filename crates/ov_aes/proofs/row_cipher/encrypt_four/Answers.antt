use Rattle.std.proofs.Common.{◌≡◌, ◌+◌, ◌∙◌, ap, arith}
use Rattle.ov_aes.specs.Cipher.{add_round_key, cipher, full_round, shift_rows, sub_bytes}
use Rattle.ov_aes.specs.Fronts.{with_last}
use Rattle.ov_aes.specs.Rows.{block_in, held_in}
use Rattle.ov_aes.proofs.OneRound.{one_more}
use Rattle.ov_aes.proofs.row_cipher.encrypt_four.Goals as goal

pub loop-n-init : goal.loop-n-init
loop-n-init c w block b keys front lb =
    c.started-rows.ensures w block b (c.args.last + b) front lb (λ k lk. c.last_bytes.ensures b k lb lk)

pub loop-n-preserved : goal.loop-n-preserved
loop-n-preserved c w block b keys front lb =
    let n = c.loop-n.n in
    c.round-next.ensures b n w lb (ap (λ t. held_in t b) c.rows_at.ensures ∙ keys.middle n b (omega arith) (omega arith) lb)
    ∙ ap (λ s. full_round s w n) (c.loop-n.invariant w block b keys front lb)
    ∙ one_more w (with_last block (c.args.last + b)) n (omega arith)

pub returns : goal.returns
unfolding cipher
returns c w block b keys front lb =
    let done : c.loop-n.n ≡ 14 = omega arith in
    let held = rw done at (c.loop-n.invariant w block b keys front lb) in
    c.blocks_of.ensures b lb
    ∙ c.last_round.ensures b 14 w lb (ap (λ t. block_in t b) c.rows_at-2.ensures ∙ keys.last b lb)
    ∙ ap (λ s. add_round_key (shift_rows (sub_bytes s)) w 14) held
