use Rattle.std.proofs.Common.{List, min, subst, ◌≤◌, ◌≡◌, ◌∙◌, ◌++◌, ◌∷◌, [], length, ap, sym, arith, length-append}
use Rattle.std.specs.Prelude.{if◌then◌else◌, ◌-◌, insert, vec_capacity, vec_len, Option, Some}
use Rattle.indexmap.specs.IndexMap.{spare}
use Rattle.std.proofs.Math.Nat.{min-le_left, min-le_right}
use Rattle.ov_history.specs.Catalogue.{Filed}
use Rattle.ov_state.specs.Entries.{numbered, plain_file, plain_files, AreByNode, FileList}
use Rattle.ov_state.proofs.FilesByNode.{by_node-held, by_node_then}
use Rattle.ov_state.proofs.FilesByNumber.{length-plain, numbered_then, on_ok, plain-append}
use Rattle.ov_state.proofs.files.Files.push.Goals as goal

pub overflow_cast-number : goal.overflow_cast-number
overflow_cast-number c = record { fits = omega (arith, c.self.invariant.0.1, length-plain c.self.inside.list.items) }

pushed : (c : goal.After-push) → c.push.new.self.items ≡ c.self.inside.list.items ++ Some c.args.file ∷ []
pushed c =
    let room = ap (λ (l : FileList). l.spare) c.self.view_is in
    let by_node = vec_capacity c.self.inside.by_node - vec_len c.self.inside.by_node in
    let spare_list = min-le_left (vec_capacity c.self.inside.list - vec_len c.self.inside.list) (min (spare c.self.inside.numbers) by_node) in
    c.push.ensures.items
    ∙ ap (λ b. if b then c.self.inside.list.items ++ Some c.args.file ∷ [] else c.self.inside.list.items)
    (c.push.ensures.succeeds (omega (arith, room, c.requires.room, spare_list)))

-- there is room for the number, in both
spared : (c : goal.After-push) → 1 ≤ min (spare c.self.inside.numbers) (vec_capacity c.self.inside.by_node - vec_len c.self.inside.by_node)
spared c =
    let room = ap (λ (l : FileList). l.spare) c.self.view_is in
    let rest = min (spare c.self.inside.numbers) (vec_capacity c.self.inside.by_node - vec_len c.self.inside.by_node) in
    omega (arith, room, c.requires.room, min-le_right (vec_capacity c.self.inside.list - vec_len c.self.inside.list) rest)

ordered : (c : goal.After-push) → AreByNode (plain_files c.self.inside.list.items ++ Some (plain_file c.args.file) ∷ []) c.insert.new.self.items
ordered c =
    let by_node = vec_capacity c.self.inside.by_node - vec_len c.self.inside.by_node in
    let inserted = c.insert.ensures.items
    ∙ ap (λ b. if b then insert c.self.inside.by_node.items c.count_below-place.result c.len-number.result else c.self.inside.by_node.items)
    (c.insert.ensures.succeeds (omega (arith, spared c, min-le_right (spare c.self.inside.numbers) by_node))) in
    by_node_then c.self.inside.list.items c.deref.result.now c.self.inside.by_node.items c.deref-2.result.now c.insert.new.self.items c.args.file
    c.count_below-place.result c.len-number.result _ c.deref.ensures.value c.deref-2.ensures.value (omega (arith, c.from.ensures)) (omega (arith, c.len-number.ensures))
    c.count_below-place.ensures c.self.invariant.1 inserted

inserted : (c : goal.After-push) → c.insert-2.new.self.entries ≡ numbered 0 (plain_files c.self.inside.list.items ++ Some (plain_file c.args.file) ∷ [])
inserted c =
    let by_node = vec_capacity c.self.inside.by_node - vec_len c.self.inside.by_node in
    numbered_then c.self.inside.list.items c.args.file c.self.inside.numbers.entries c.insert-2.new.self.entries c.copy.result c.len-number.result
    c.self.invariant.0.0 c.copy.ensures (omega (arith, c.len-number.ensures)) c.args.self.now.files (ap (λ (l : FileList). l.files) c.self.view_is) c.requires.fresh
    (on_ok c.insert-2.result (c.insert-2.ensures.succeeds (omega (arith, spared c, min-le_left (spare c.self.inside.numbers) by_node))) c.insert-2.ensures.entries)

pub count_below-place-requires : goal.count_below-place-requires
count_below-place-requires c =
    by_node-held c.self.inside.list.items c.deref.result.now c.self.inside.by_node.items c.deref-2.result.now c.deref.ensures.value c.deref-2.ensures.value
    c.self.invariant.1

pub invariant_of-self : goal.invariant_of-self
invariant_of-self c =
    let all = ap plain_files (pushed c) ∙ plain-append c.self.inside.list.items c.args.file in (
      (
        inserted c ∙ ap (numbered 0) (sym all),
        omega (
          arith,
          ap length all,
          length-append (plain_files c.self.inside.list.items) (Some (plain_file c.args.file) ∷ []),
          ap (λ (l : FileList). length l.files) c.self.view_is,
          c.requires.few,
        ),
      ),
      subst (λ (fs : List (Option Filed)). AreByNode fs c.insert.new.self.items) (sym all) (ordered c),
    )

pub returns : goal.returns
returns c =
    ap plain_files (pushed c) ∙ plain-append c.self.inside.list.items c.args.file
    ∙ ap (λ (l : FileList). l.files ++ Some (plain_file c.args.file) ∷ []) c.self.view_is
