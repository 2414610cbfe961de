use Rattle.std.proofs.Common.{List, ◌≡◌, ◌∙◌, ◌<◌, ◌≤◌, length, ap, sym, arith, subst, true, ℕ}
use Rattle.std.specs.Prelude.{◌-◌, is_some, min, slice_index_or, slice_set, vec_capacity, vec_len, None, Option}
use Rattle.indexmap.specs.IndexMap.{spare}
use Rattle.ov_base.specs.NameLists.{is_among}
use Rattle.ov_history.specs.Catalogue.{Filed}
use Rattle.ov_history.specs.Places.{change_at, gone, living_at}
use Rattle.ov_history.proofs.ChangeLaws.{below_some, length-change_at}
use Rattle.ov_state.specs.Entries.{filed_names, numbered, plain_files, AreByNode, FileList, HasName}
use Rattle.ov_state.specs.declared.files.FileEntry.{FileEntry}
use Rattle.ov_state.proofs.FilesByNode.{by_node-among, by_node-gone}
use Rattle.ov_state.proofs.FilesByNumber.{gone_then, length-plain, not_empty, plain-gone}
use Rattle.ov_state.proofs.NamesLeft.{fresh_then, least-room}
use Rattle.ov_state.proofs.files.Files.remove.Goals as goal

module _ (list : List (Option FileEntry)) (l : FileList) (file : ℕ) (view : plain_files list ≡ l.files)
    (there : is_some (living_at l.files file) ≡ true) where
  -- the file is there among those that are kept
  kept : is_some (living_at (plain_files list) file) ≡ true
  kept = subst (λ (fs : List (Option Filed)). is_some (living_at fs file) ≡ true) (sym view) there

  within : file < length list
  within = omega (arith, below_some (plain_files list) file kept, length-plain list)

  -- and gone where its place is empty
  emptied : (old : Option FileEntry) → old ≡ slice_index_or list file old → plain_files (slice_set list file None) ≡ change_at gone file (plain_files list)
  emptied old is = plain-gone list file old within is

pub name_at-name-requires : goal.name_at-name-requires
name_at-name-requires c =
    subst (λ (fs : List (Option FileEntry)). is_some (living_at (plain_files fs) c.args.file) ≡ true) (sym c.deref.ensures.value)
    (kept c.self.inside.list.items c.args.self.now c.args.file (ap (λ (l : FileList). l.files) c.self.view_is) c.requires)

pub take_out-requires : goal.take_out-requires
take_out-requires c =
    by_node-among (plain_files c.self.inside.list.items) c.args.file c.self.inside.by_node.items c.self.invariant.1
    (kept c.self.inside.list.items c.args.self.now c.args.file (ap (λ (l : FileList). l.files) c.self.view_is) c.requires)

pub index_mut-requires : goal.index_mut-requires
index_mut-requires c = omega (arith, within c.self.inside.list.items c.args.self.now c.args.file (ap (λ (l : FileList). l.files) c.self.view_is) c.requires)

pub invariant_of-self : goal.invariant_of-self
invariant_of-self c =
    let files = plain_files c.self.inside.list.items in
    let there = kept c.self.inside.list.items c.args.self.now c.args.file (ap (λ (l : FileList). l.files) c.self.view_is) c.requires in
    let left = emptied c.self.inside.list.items c.args.self.now c.args.file (ap (λ (l : FileList). l.files) c.self.view_is) c.requires c.index_mut.result.now c.index_mut.ensures.value in
    let named = subst (λ (fs : List (Option FileEntry)). HasName (plain_files fs) c.args.file c.name_at-name.result) c.deref.ensures.value
    c.name_at-name.ensures in (
      (
        gone_then files c.self.inside.numbers.entries c.shift_remove.new.self.entries c.name_at-name.result c.args.file
            c.self.invariant.0.0 c.len-count.ensures.unique there named c.shift_remove.ensures.entries
            ∙ ap (numbered 0) (sym left),
        omega (
          arith,
          ap length left,
          length-change_at gone c.args.file files,
          c.self.invariant.0.1,
        ),
      ),
      subst (λ (fs : List (Option Filed)). AreByNode fs c.take_out.new.numbers.items) (sym left)
          (by_node-gone files c.args.file c.self.inside.by_node.items c.take_out.new.numbers.items c.self.invariant.1 c.take_out.ensures.taken),
    )

pub returns-clause-files : goal.returns-clause-files
returns-clause-files c =
    emptied c.self.inside.list.items c.args.self.now c.args.file (ap (λ (l : FileList). l.files) c.self.view_is) c.requires c.index_mut.result.now c.index_mut.ensures.value
    ∙ ap (λ (l : FileList). change_at gone c.args.file l.files) c.self.view_is

pub returns-clause-fresh : goal.returns-clause-fresh
returns-clause-fresh c = λ name form named.
    let files = plain_files c.self.inside.list.items in
    let view = ap (λ (l : FileList). l.files) c.self.view_is in
    let left = emptied c.self.inside.list.items c.args.self.now c.args.file view c.requires c.index_mut.result.now c.index_mut.ensures.value in
    ap (λ (fs : List (Option Filed)). is_among name (filed_names fs)) left
    ∙ fresh_then files c.self.inside.numbers.entries name c.args.file c.self.invariant.0.0 c.len-count.ensures.unique
    (kept c.self.inside.list.items c.args.self.now c.args.file view c.requires)
    (subst (λ (fs : List (Option Filed)). HasName fs c.args.file name) (sym view) named) (not_empty name form)

pub returns-clause-room : goal.returns-clause-room
returns-clause-room c =
    let list = vec_capacity c.self.inside.list - vec_len c.self.inside.list in
    let old = vec_capacity c.self.inside.by_node - vec_len c.self.inside.by_node in
    let new = vec_capacity c.take_out.new.numbers - vec_len c.take_out.new.numbers in
    let room = least-room list (spare c.self.inside.numbers) old (spare c.shift_remove.new.self) new c.shift_remove.ensures.room.0 c.take_out.ensures.room in
    subst (λ (n : ℕ). n ≤ min list (min (spare c.shift_remove.new.self) new)) (ap (λ (l : FileList). l.spare) c.self.view_is) room
