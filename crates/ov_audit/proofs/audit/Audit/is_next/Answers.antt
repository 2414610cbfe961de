use Rattle.std.proofs.Common.{rules, ◌≡◌, ◌+◌, ◌∙◌, ap, arith, length, subst, sym, true, ℕ}
use Rattle.std.specs.Prelude.{is_some}
use Rattle.ov_history.specs.Places.{living_at}
use Rattle.ov_history.proofs.SoundTests.{is_some-map}
use Rattle.ov_audit.specs.Seen.{Seen}
use Rattle.ov_audit.proofs.NoteLaws.{length-plain}
use Rattle.ov_audit.proofs.audit.Audit.is_next.Goals as goal

pub returns : goal.returns
returns c =
    let s = c.args.state.now.catalogue in
    let one_more : c.is_one_more.result ≡ true = search rules in
    let next : s.epoch ≡ c.self.inside.epoch + 1 =
    omega (arith, c.is_one_more.ensures.0 one_more, c.epoch.ensures) in
    let files : c.sizes.result.files ≡ length s.files = search rules in
    let noted : length c.args.self.now.notes ≡ c.len-count.result =
    omega (
      arith,
      ap (λ (seen : Seen). length seen.notes) c.self.view_is,
      length-plain c.self.inside.notes.items,
      c.len-count.ensures,
    ) in
    let there : c.is_some-there.result ≡ is_some (living_at s.files c.len-count.result) =
    c.is_some-there.ensures ∙ sym (is_some-map _ c.file_at.result) ∙ ap is_some c.file_at.ensures in (
      λ is.
          let follows = c.may_follow.ensures.0 is in (
            next ∙ ap (λ (seen : Seen). seen.epoch + 1) c.self.view_is,
            record {
              noted = omega (arith, files, noted, follows.0);
              few = omega (arith, files, noted, follows.1);
              there = λ low.
                  subst (λ (n : ℕ). is_some (living_at s.files n) ≡ true) (sym noted)
                  (sym there ∙ follows.2 (omega (arith, files, noted, low)));
            },
          ),
      λ may.
          c.may_follow.ensures.1 (
            omega (arith, files, noted, may.1.noted),
            omega (arith, files, noted, may.1.few),
            λ low.
                there ∙ subst (λ (n : ℕ). is_some (living_at s.files n) ≡ true) noted
                (may.1.there (omega (arith, files, noted, low))),
          ),
    )
