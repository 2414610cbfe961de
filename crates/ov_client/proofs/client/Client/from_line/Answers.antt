use Rattle.std.proofs.Common.{◌≡◌, ◌∙◌, List, ℕ, false, refl, subst, sym, true}
use Rattle.ov_client.specs.KeyLines.{IsLineOf}
use Rattle.ov_client.proofs.KeyLines.{NoLine, at_base, at_end, at_name, at_surface, behind_base, found_so, if_none, parts_of}
use Rattle.ov_client.proofs.Spaces.{unsplit}
use Rattle.ov_client.proofs.client.Client.from_line.Goals as goal

pub returns-in_err-word-clause-none : goal.returns-in_err-word-clause-none
returns-in_err-word-clause-none c =
    if_none {P = NoLine c.args.text.now} _ (λ r is.
    let p = parts_of c.args.text.now r is in
    unsplit c.args.text.now r.name p.first c.in_err-word.ensures.none p.cut)

pub returns-in_err-name-clause-none : goal.returns-in_err-name-clause-none
returns-in_err-name-clause-none c =
    let found = c.in_ok-word.ensures.found in
    if_none {P = NoLine c.args.text.now} _ (λ r is.
    let some : false ≡ true =
    c.in_err-name.ensures.form.1 (at_name c.args.text.now _ _ found.0 found.1 r is) in absurd cc)

pub returns-in_err-base_root-clause-none : goal.returns-in_err-base_root-clause-none
returns-in_err-base_root-clause-none c =
    let found = c.in_ok-word.ensures.found in
    if_none {P = NoLine c.args.text.now} _ (λ r is.
    c.in_err-base_root.ensures.none _ _ _ (at_base c.args.text.now _ _ found.0 found.1 r is))

pub returns-in_err-rest-clause-none : goal.returns-in_err-rest-clause-none
returns-in_err-rest-clause-none c =
    let found = c.in_ok-word.ensures.found in
    if_none {P = NoLine c.args.text.now} _ (λ r is.
    c.in_err-rest.ensures.none _
    (behind_base c.args.text.now _ _ found.0 found.1 r is _ _ _ c.in_ok-base_root.ensures.found))

pub returns-in_err-surface_root-clause-none : goal.returns-in_err-surface_root-clause-none
returns-in_err-surface_root-clause-none c =
    let found = c.in_ok-word.ensures.found in
    if_none {P = NoLine c.args.text.now} _ (λ r is.
    c.in_err-surface_root.ensures.none _ _ _
    (at_surface c.args.text.now _ _ found.0 found.1 r is _ _ _ c.in_ok-base_root.ensures.found
    _ c.in_ok-rest.ensures.found))

pub returns-then-is_end-clause-found : goal.returns-then-is_end-clause-found
returns-then-is_end-clause-found c =
    let found = c.in_ok-word.ensures.found in
    let named : c.in_ok-name.name ≡ c.in_ok-word.word.now = c.in_ok-name.ensures.bytes in
    subst (IsLineOf c.args.text.now) (sym c.new.ensures)
    (subst (λ (name : List ℕ). IsLineOf c.args.text.now (record {
      name = name;
      base_root = c.in_ok-base_root.base_root;
      base = c.in_ok-base_root.base.bytes;
      surface_root = c.in_ok-surface_root.surface_root;
      surface = c.in_ok-surface_root.surface.bytes;
    })) (sym named)
    (found_so c.args.text.now _ _ found.0 found.1 _ _ _ _ _ _ _
    (c.in_ok-name.ensures.form.0 refl) c.in_ok-base_root.ensures.found
    c.in_ok-rest.ensures.found c.in_ok-surface_root.ensures.found
    (c.is_end.ensures.0 c.if-is_end.true)))

pub returns-else-is_end-clause-none : goal.returns-else-is_end-clause-none
returns-else-is_end-clause-none c = λ r is.
    let found = c.in_ok-word.ensures.found in
    let so = c.is_end.ensures.1
    (at_end c.args.text.now _ _ found.0 found.1 r is _ _ _ c.in_ok-base_root.ensures.found
    _ c.in_ok-rest.ensures.found _ _ _ c.in_ok-surface_root.ensures.found) in
    let wrong : true ≡ false = sym so ∙ c.if-is_end.false in cc wrong
