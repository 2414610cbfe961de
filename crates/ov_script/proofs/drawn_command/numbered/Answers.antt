use Rattle.std.proofs.Common.{◌≡◌, ◌∷◌, ◌∙◌, ℕ, List, sym, ap, subst, false, true, arith}
use Rattle.std.specs.Fmt.{decimal}
use Rattle.ov_base.specs.Names.{IsName}
use Rattle.ov_script.proofs.WorkloadNames.{is_numbered}
use Rattle.ov_script.proofs.drawn_command.numbered.Goals as goal

none_or_some : false ≡ true → ⊥
none_or_some e = cc

pub unreachable-requires : goal.unreachable-requires
unreachable-requires c =
    let text : c.deref.result.now ≡ c.args.letter ∷ decimal c.args.number =
    c.deref.ensures.value ∙ rw (c.in_ok-extend_from_slice.ensures.items, c.in_ok-text.ensures.items, c.as_bytes.ensures.value)
    (ap (λ (digits : List ℕ). c.args.letter ∷ digits) c.in_ok-digits.ensures.ok) in
    none_or_some (c.in-None.ensures.form.1 (subst IsName (sym text) (is_numbered c.args.letter c.args.number c.requires (omega arith))))
