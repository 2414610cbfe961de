use Rattle.std.proofs.Common.{List, ℕ, take, drop, ◌∙◌, ap}
use Rattle.std.specs.Int.{w32, from_be_bytes}
use Rattle.ov_journal.proofs.Heading.{header_whole}
use Rattle.ov_journal.proofs.header.header_in.Goals as goal

pub returns : goal.returns
returns c =
    let first = c.array4.ensures ∙ c.split_at-2.ensures.front ∙ ap (λ (l : List ℕ). take 4 l) c.split_at.ensures.back in
    let behind = c.split_at-2.ensures.back ∙ ap (λ (l : List ℕ). drop 4 l) c.split_at.ensures.back in
    header_whole c.args.front.now _ c.requires.long (λ i. (c.type_inv.front i).fits) c.requires.gate c.requires.magic c.requires.mode
    (c.from_be_bytes.ensures ∙ ap (λ (l : List ℕ). from_be_bytes w32 l) first)
    (c.array32.ensures ∙ c.split_at-3.ensures.front ∙ ap (λ (l : List ℕ). take 32 l) behind)
    (c.array32-2.ensures ∙ c.split_at-3.ensures.back ∙ ap (λ (l : List ℕ). drop 32 l) behind)
