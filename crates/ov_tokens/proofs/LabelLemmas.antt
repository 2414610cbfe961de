-- The spelling of labels.
use Rattle.std.proofs.Common.{ℕ, ◌≡◌, ◌∙◌, ◌<◌, ◌^◌, ap, arith, refl, sym}
use Rattle.std.proofs.lemmas.Nat.{from_be_bytes-to_be_bytes_4}
use Rattle.std.specs.Int.{from_be_bytes, to_be_bytes, w32}
use Rattle.ov_tokens.specs.declared.label.Kind.{Kind}
use Rattle.ov_tokens.specs.declared.label.Kind.TheVariants.{Derive, Access, Surface}
use Rattle.ov_tokens.specs.declared.label.Label.{Label}
use Rattle.ov_tokens.specs.Labels.{label_bytes, label_of, tag_of, tagged}

-- two messages of a tag byte and a number that are alike have one tag and one number
pub tagged-same : (tag tag' number number' : ℕ) → number < 2 ^ 32 → number' < 2 ^ 32
    → tagged tag number ≡ tagged tag' number' → (tag ≡ tag') × (number ≡ number')
tagged-same tag tag' number number' fits fits' alike =
    let spelled : to_be_bytes w32 number ≡ to_be_bytes w32 number' = cc in (
      cc,
      sym (from_be_bytes-to_be_bytes_4 number fits) ∙ ap (λ bytes. from_be_bytes w32 bytes) spelled
          ∙ from_be_bytes-to_be_bytes_4 number' fits',
    )

-- two kinds with one tag byte are one kind
pub tag_of-same : (a b : Kind) → tag_of a ≡ tag_of b → a ≡ b
tag_of-same Derive Derive alike = refl
tag_of-same Derive Access alike = absurd (omega arith)
tag_of-same Derive Surface alike = absurd (omega arith)
tag_of-same Access Derive alike = absurd (omega arith)
tag_of-same Access Access alike = refl
tag_of-same Access Surface alike = absurd (omega arith)
tag_of-same Surface Derive alike = absurd (omega arith)
tag_of-same Surface Access alike = absurd (omega arith)
tag_of-same Surface Surface alike = refl

-- two labels with one spelling are one label
pub label_bytes-same : (a b : Label) → a.number < 2 ^ 32 → b.number < 2 ^ 32
    → label_bytes a ≡ label_bytes b → a ≡ b
label_bytes-same a b fits fits' alike =
    let parts = tagged-same (tag_of a.kind) (tag_of b.kind) a.number b.number fits fits' alike in
    ap (λ kind. label_of kind a.number) (tag_of-same a.kind b.kind parts.0)
    ∙ ap (λ number. label_of b.kind number) parts.1
