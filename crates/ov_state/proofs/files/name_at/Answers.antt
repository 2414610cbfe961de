use Rattle.std.proofs.Common.{◌≡◌, ◌∙◌, ap, sym, Bor, None, Some}
use Rattle.std.specs.Prelude.{is_some, option_map, Option}
use Rattle.std.proofs.lemmas.Bool.{false≢true}
use Rattle.ov_history.specs.Catalogue.{Filed}
use Rattle.ov_history.specs.Places.{living_at}
use Rattle.ov_state.specs.Entries.{plain_file, plain_files}
use Rattle.ov_state.specs.declared.files.FileEntry.{FileEntry}
use Rattle.ov_state.proofs.files.name_at.Goals as goal

pub unreachable-requires : goal.unreachable-requires
unreachable-requires c =
    let none : living_at (plain_files c.args.list.now) c.args.number ≡ None =
    sym c.entry_at.ensures ∙ ap (λ (r : Option (Bor FileEntry)). option_map (λ (f : Bor FileEntry). plain_file f.now) r) c.in-None.is in
    false≢true (sym (ap (λ (o : Option Filed). is_some o) none) ∙ c.requires)

pub returns : goal.returns
returns c f is =
    let here : Some (plain_file c.in-Some.file.now) ≡ Some f =
    ap (λ (r : Option (Bor FileEntry)). option_map (λ (f : Bor FileEntry). plain_file f.now) r) (sym c.in-Some.is) ∙ c.entry_at.ensures ∙ is in
    let same : plain_file c.in-Some.file.now ≡ f = cc in
    c.copy.ensures ∙ ap (λ (g : Filed). g.name) same
