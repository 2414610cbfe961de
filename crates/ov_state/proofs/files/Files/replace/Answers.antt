use Rattle.std.proofs.Common.{List, ◌≡◌, ◌∷◌, ◌∙◌, ◌<◌, ◌≤◌, [], length, ap, arith, false, length-append}
use Rattle.std.specs.Prelude.{◌++◌, Option, Some}
use Rattle.ov_base.specs.NameLists.{is_among}
use Rattle.ov_base.specs.declared.limits.TheConstants.{MAX_FILES}
use Rattle.ov_history.specs.Catalogue.{Filed}
use Rattle.ov_history.specs.Places.{change_at, gone}
use Rattle.ov_state.specs.Entries.{filed_names, plain_file}
use Rattle.ov_state.proofs.files.Files.replace.Goals as goal

pub push-requires : goal.push-requires
push-requires c =
    let left = change_at gone c.args.file c.args.self.now.files in
    let fresh : is_among c.args.new.name (filed_names c.remove.new.self.files) ≡ false =
    c.remove.ensures.fresh c.args.new.name c.as_bytes-bytes.ensures.form c.requires.named in
    let few : length c.remove.new.self.files < MAX_FILES =
    omega (
      arith,
      ap (λ (fs : List (Option Filed)). length fs) c.remove.ensures.files,
      length-append left (Some (plain_file c.args.new) ∷ []),
      c.requires.few,
    ) in
    let room : 1 ≤ c.remove.new.self.spare = omega (arith, c.requires.room, c.remove.ensures.room) in
    record { fresh = fresh; few = few; room = room }

pub returns : goal.returns
returns c = c.push.ensures ∙ ap (λ (fs : List (Option Filed)). fs ++ Some (plain_file c.args.new) ∷ []) c.remove.ensures.files
