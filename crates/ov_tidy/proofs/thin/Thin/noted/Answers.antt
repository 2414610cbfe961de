use Rattle.std.proofs.Common.{◌≡◌, ℕ, Bool, ◌∙◌, ap}
use Rattle.std.specs.Prelude.{Some}
use Rattle.ov_history.specs.Catalogue.{outline}
use Rattle.ov_history.specs.Layers.{list_in}
use Rattle.ov_thinning.specs.Notes.{Thinning, has_node, list_by}
use Rattle.ov_tidy.proofs.Files.{shown_in}
use Rattle.ov_tidy.proofs.thin.Thin.noted.Goals as goal

pub returns : goal.returns
returns c =
    let list = shown_in c.self.inside.state.catalogue c.args.self.now.catalogue c.args.file c.list_of.result
    (ap (λ (t : Thinning). t.catalogue) c.self.view_is) c.requires.there c.list_of.ensures in
    let sets = c.args.self.now.catalogue.surface.sets in
    let taken = ap (λ (t : Thinning). t.taken) c.self.view_is in
    let before : c.is_there.result ≡ has_node sets (list_in (outline c.args.self.now.catalogue) c.args.file) =
    c.is_there.ensures ∙ ap (λ (l : ℕ). has_node sets l) list in
    let after : c.is_there-2.result
    ≡ has_node sets (list_by c.args.grants (list_in (outline c.args.self.now.catalogue) c.args.file) c.args.user) =
    c.is_there-2.ensures ∙ ap (λ (l : ℕ). has_node sets l) c.list_by.ensures in
    ap (λ (n : ℕ). Some (record { place = n; user = c.args.user; grants = c.args.grants; before = c.is_there.result; after = c.is_there-2.result })) taken
    ∙ ap (λ (b : Bool). Some (record { place = c.args.self.now.taken; user = c.args.user; grants = c.args.grants; before = b; after = c.is_there-2.result })) before
    ∙ ap (λ (b : Bool). Some (record {
      place = c.args.self.now.taken;
      user = c.args.user;
      grants = c.args.grants;
      before = has_node sets (list_in (outline c.args.self.now.catalogue) c.args.file);
      after = b;
    })) after
