use Rattle.std.proofs.Common.{List, ◌≡◌, ◌∙◌, ◌<◌, length, ap, refl, sym, arith, ℕ}
use Rattle.std.specs.Prelude.{slice_index_or, slice_set, option_map, Option}
use Rattle.ov_history.specs.Catalogue.{Filed}
use Rattle.ov_history.specs.Places.{change_at}
use Rattle.ov_history.proofs.ChangeLaws.{length-change_at}
use Rattle.ov_state.specs.Changes.{entry_rewritten, rewritten}
use Rattle.ov_state.specs.Entries.{node_of, numbered, plain_files, FileList}
use Rattle.ov_state.specs.declared.change.Rewrite.{Rewrite}
use Rattle.ov_state.specs.declared.files.FileEntry.{FileEntry}
use Rattle.ov_state.proofs.FilesByNode.{by_node-alike, node-alike}
use Rattle.ov_state.proofs.FilesByNumber.{length-plain, numbered-alike, plain-refiled}
use Rattle.ov_state.proofs.files.Files.rewrite.Goals as goal

module _ (list : List (Option FileEntry)) (l : FileList) (epoch : ℕ) (r : Rewrite) (view : plain_files list ≡ l.files)
    (low : r.file < length l.files) where
  within : r.file < length list
  within = omega (arith, low, ap (λ (fs : List (Option Filed)). length fs) view, length-plain list)

  -- the file is rewritten where its entry is written over
  written : (old now : Option FileEntry) → old ≡ slice_index_or list r.file old → now ≡ option_map (entry_rewritten epoch r) old
      → plain_files (slice_set list r.file now) ≡ change_at (option_map (rewritten epoch r)) r.file (plain_files list)
  written old now is made = plain-refiled list r.file epoch r old now within is made

pub index_mut-requires : goal.index_mut-requires
index_mut-requires c = omega (arith, within c.self.inside.list.items c.args.self.now c.args.epoch c.args.rewrite (ap (λ (l : FileList). l.files) c.self.view_is) c.requires)

pub invariant_of-self : goal.invariant_of-self
invariant_of-self c =
    let change = rewritten c.args.epoch c.args.rewrite in
    let files = plain_files c.self.inside.list.items in
    let set = written c.self.inside.list.items c.args.self.now c.args.epoch c.args.rewrite (ap (λ (l : FileList). l.files) c.self.view_is) c.requires
    c.index_mut.result.now c.refile.new.file c.index_mut.ensures.value c.refile.ensures in (
      (
        c.self.invariant.0.0 ∙ sym (ap (numbered 0) set ∙ numbered-alike 0 files change c.args.rewrite.file (λ f. refl)),
        omega (
          arith,
          ap length set,
          length-change_at (option_map change) c.args.rewrite.file files,
          c.self.invariant.0.1,
        ),
      ),
      by_node-alike files (plain_files (slice_set c.self.inside.list.items c.args.rewrite.file c.refile.new.file)) c.self.inside.by_node.items
          (λ file. ap (λ (fs : List (Option Filed)). node_of fs file) set ∙ node-alike files change c.args.rewrite.file file (λ f. refl))
          c.self.invariant.1,
    )

pub returns : goal.returns
returns c =
    written c.self.inside.list.items c.args.self.now c.args.epoch c.args.rewrite (ap (λ (l : FileList). l.files) c.self.view_is) c.requires
    c.index_mut.result.now c.refile.new.file c.index_mut.ensures.value c.refile.ensures
    ∙ ap (λ (l : FileList). change_at (option_map (rewritten c.args.epoch c.args.rewrite)) c.args.rewrite.file l.files) c.self.view_is
