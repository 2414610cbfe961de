-- One update that is copied.
use Rattle.std.proofs.Common.{◌≡◌, inl, ℕ, zero, suc, List, [], ◌∷◌, ◌++◌, length, take, refl, sym, ◌∙◌, ap, subst, arith}
use Rattle.std.specs.Prelude.{false, Err, Ok, OnOk, Option, Result, Some, slice_get}
use Rattle.std.proofs.lemmas.Option.{slice_get_within}
use Rattle.ov_disk.specs.Disk.{Image, StaysTold}
use Rattle.ov_disk.specs.Tells.{DiskTells}
use Rattle.ov_disk.proofs.Runs.{started}
use Rattle.ov_history.specs.Briefs.{Brief, brief, numbered_brief}
use Rattle.ov_history.specs.Catalogue.{numbered_at, outline}
use Rattle.ov_history.specs.Fading.{is_gone_from}
use Rattle.ov_history.specs.History.{Matrix, matrix_of}
use Rattle.ov_history.specs.Sealed.{SealedHistory, file_names_of, outer_of}
use Rattle.ov_history.specs.Sent.{SealedUpdate, numbered}
use Rattle.ov_history.proofs.Numbering.{names_are_shown, updates_are_numbered}
use Rattle.ov_history.proofs.Showing.{history_is_shown}
use Rattle.ov_history.proofs.SoundTests.{files_shown-length}
use Rattle.ov_images.specs.Images.{KeepsEither}
use Rattle.ov_record.specs.Briefs.{brief as brief_as_spelled}
use Rattle.ov_record.specs.Updates.{SealedUpdate as SpelledUpdate, sealed_update}
use Rattle.ov_record.specs.declared.update.Update.{Update}
use Rattle.ov_state.specs.Plans.{IsTaken}
use Rattle.ov_state.specs.declared.state.TheConstants.{WIDTH}
use Rattle.ov_store.specs.Opened.{Opened, Serves}
use Rattle.ov_store.specs.Updating.{GoesOnAfter, IsCallOf, LeavesEither, Updates, failed_after}
use Rattle.ov_store.specs.Wholes.{ReadsWhole, files_before}
use Rattle.ov_store.specs.declared.fault.StoreFault.{StoreFault}
use Rattle.ov_store.specs.declared.fault.StoreFault.TheVariants.{BadPlan, Disk as StoreDisk, Failed, Memory as StoreMemory, Refused}
use Rattle.ov_tidy.specs.Agreeing.{Agree}
use Rattle.ov_tidy.specs.Copies.{Adds, AnswersNext, CopiesNext, FindsAgain, IsNext, KeepsStep, copy_fault_of}
use Rattle.ov_tidy.specs.declared.copying.CopyFault.{CopyFault}
use Rattle.ov_tidy.specs.declared.copying.CopyFault.TheVariants.{Changed, Disk as DiskFailed, Memory}
use Rattle.ov_updating.specs.Updating.{HasSameStep}

-- a store has as many numbers of files as each history for which it stands
many_files : {E : Type 0} (news : DiskTells E) (s : Opened E) (h : SealedHistory) → Serves news h s
    → length s.catalogue.files ≡ length (matrix_of (outer_of h)).files
many_files news s h serves =
    sym (files_shown-length (outline s.catalogue) s.catalogue.files)
    ∙ ap (λ (m : Matrix). length m.files)
    (history_is_shown s.keys.surface s.catalogue h serves.catalogue).matrix

-- what stands behind the first so many updates is the update of that place
split_at : (us rest : List SealedUpdate) (place : ℕ) (u : SealedUpdate)
    → us ≡ take place us ++ u ∷ rest → slice_get us place ≡ Some u
split_at [] rest zero u is = absurd (cc is)
split_at [] rest (suc place) u is = absurd (cc is)
split_at (first ∷ us) rest zero u is = let same : first ≡ u = cc is in ap (λ (v : SealedUpdate). Some v) same
split_at (first ∷ us) rest (suc place) u is = split_at us rest place u (cc is)

module _ {D E : Type 0} (olds : DiskTells D) (news : DiskTells E) (old : Opened D) (place file : ℕ)
    (new : Opened E) (file_is : file ≡ length new.catalogue.files)
    (g h : SealedHistory) (u : SealedUpdate) (next : IsNext olds news old place new g h u)
    (i : Image) (read : olds.reads old.disk ≡ Some i) where
  number_is : file ≡ files_before g place
  number_is = file_is ∙ many_files news new h next.stood ∙ next.files.0

  -- the update that is found again agrees with that of the place
  pub agrees : (w : Update WIDTH) → ReadsWhole olds old place file (Ok (Some w))
      → Agree (is_gone_from g (files_before g place)) u (numbered (file_names_of h) (sealed_update w))
  agrees w found =
      let at = found g next.serves number_is i read in
      let one : Some at.update ≡ Some u = sym (split_at g.updates at.rest place at.update at.split) ∙ next.at in
      let same : at.update ≡ u = cc one in
      subst (λ (v : SealedUpdate). Agree (is_gone_from g (files_before g place)) v
      (numbered (file_names_of h) (sealed_update w))) same
      (subst (λ (n : ℕ). Agree (is_gone_from g n) at.update (numbered (file_names_of h) (sealed_update w)))
      number_is
      (subst (λ (names : List (List ℕ)). Agree (is_gone_from g file) at.update (numbered names (sealed_update w)))
      (sym next.files.1) at.whole))

  -- it is always found
  pub always_found : (offset : ℕ) → FindsAgain olds old place file (Err (Changed offset)) → ⊥
  always_found offset lost =
      let past = lost g next.serves number_is i read in
      let low = slice_get_within g.updates place u next.at in
      absurd (omega (arith, past, low))

  -- and where the store takes the update of the place, it takes the one that is found
  pub takes_found : (w : SpelledUpdate)
      → Agree (is_gone_from g (files_before g place)) u (numbered (file_names_of h) w)
      → IsTaken new.catalogue (brief u)
      → IsTaken new.catalogue (numbered_at new.catalogue (brief_as_spelled w))
  takes_found w agree taken =
      let shown : numbered_at new.catalogue (brief_as_spelled w) ≡ brief u =
      ap (λ (names : List (List ℕ)). numbered_brief names (brief_as_spelled w))
      (names_are_shown new.keys.surface new.catalogue h next.stood.catalogue)
      ∙ sym (updates_are_numbered (file_names_of h) w).0
      ∙ agree.0 in
      subst (λ (b : Brief). IsTaken new.catalogue b) (sym shown) taken

-- what comes of an update that is found again and added
pub copies_found : {D E : Type 0} (olds : DiskTells D) (news : DiskTells E) (old : Opened D)
    (place file : ℕ) (before after : Opened E) (w : Update WIDTH) (r : Result (Unit {0}) CopyFault)
    → file ≡ length before.catalogue.files → before.failed ≡ false
    → ReadsWhole olds old place file (Ok (Some w))
    → Adds news (sealed_update w) before after r → LeavesEither news (sealed_update w) before after
    → CopiesNext olds news old place before after r
copies_found olds news old place file before after w r file_is whole found adds leaves g h u next i read =
    let agree = agrees olds news old place file before file_is g h u next i read w found in (
      numbered (file_names_of h) (sealed_update w),
      agree,
      by_answer r adds,
      λ j told. leaves h next.stood whole j told,
    ) where
      by_answer : (r : Result (Unit {0}) CopyFault) → Adds news (sealed_update w) before after r
          → AnswersNext news h u (numbered (file_names_of h) (sealed_update w)) before after r
      by_answer (Ok done) adds = adds.0 h next.stood
      by_answer (Err (Changed offset)) adds = λ taken.
          adds (takes_found olds news old place file before file_is g h u next i read (sealed_update w)
          (agrees olds news old place file before file_is g h u next i read w found) taken)
      by_answer (Err DiskFailed) adds = tt
      by_answer (Err Memory) adds = tt

-- and of one that isn't found
pub copies_lost : {D E : Type 0} (olds : DiskTells D) (news : DiskTells E) (old : Opened D)
    (place file : ℕ) (before : Opened E) (fault : CopyFault)
    → file ≡ length before.catalogue.files → before.failed ≡ false
    → FindsAgain olds old place file (Err fault)
    → CopiesNext olds news old place before before (Err fault)
copies_lost olds news old place file before fault file_is whole lost g h u next i read = (
  u,
  (refl, refl),
  by_fault fault lost,
  λ j told. started news before.disk (KeepsEither before.keys h u)
      (λ x left. inl (next.stood.disk whole j told x left)),
) where
  by_fault : (fault : CopyFault) → FindsAgain olds old place file (Err fault)
      → AnswersNext news h u u before before (Err fault)
  by_fault (Changed offset) lost = λ taken.
      always_found olds news old place file before file_is g h u next i read offset lost
  by_fault DiskFailed lost = tt
  by_fault Memory lost = tt

-- a store that took an update goes on
pub adds_whole : {E : Type 0} (news : DiskTells E) (w : SpelledUpdate) (before after : Opened E)
    (r : Result (Unit {0}) CopyFault) → Adds news w before after r → OnOk r (after.failed ≡ false)
adds_whole news w before after (Ok done) adds = adds.1
adds_whole news w before after (Err fault) adds = tt

-- a call is one of which nothing is said where it fails
pub quiet_call : {D : Type 0} (tells : DiskTells D) (old new : Opened D) (P : Type 0)
    → IsCallOf tells old new P → IsCallOf tells old new ⊥
quiet_call tells old new P call = (call.0, call.1, call.2, λ none. absurd none)

pub no_call : {D : Type 0} (tells : DiskTells D) (s : Opened D) → IsCallOf tells s s ⊥
no_call tells s = (refl, refl, omega arith, λ none. absurd none)

-- a store that made an update goes on
pub goes_on : {D : Type 0} (before after : Opened D) (epoch : ℕ) (r : Result ℕ StoreFault)
    → r ≡ Ok epoch → before.failed ≡ false → GoesOnAfter r before after → after.failed ≡ false
goes_on before after epoch r is whole goes =
    goes.failed.0 ∙ ap (λ (x : Result ℕ StoreFault). failed_after before.failed x) is ∙ whole

-- why an update isn't made that the store takes: a fault of the disk, or refused memory
pub not_added : {E : Type 0} (news : DiskTells E) (w : SpelledUpdate) (before after : Opened E)
    (fault : StoreFault) (gate : ℕ) → before.failed ≡ false → Updates w before after (Err fault)
    → GoesOnAfter (Err fault) before after → Adds news w before after (Err (copy_fault_of gate fault))
not_added news w before after (Refused why) gate whole makes goes = λ taken.
    absurd (cc (makes.0, taken.0))
not_added news w before after (BadPlan place) gate whole makes goes = λ taken.
    makes.0.1 taken.1
not_added news w before after StoreDisk gate whole makes goes = tt
not_added news w before after Failed gate whole makes goes = λ taken.
    absurd (cc (goes.failed.2 refl, whole))
not_added news w before after StoreMemory gate whole makes goes = tt

-- two such calls, one after the other
pub calls_then : {D : Type 0} (tells : DiskTells D) (old mid new : Opened D) → IsCallOf tells old mid ⊥
    → IsCallOf tells mid new ⊥ → IsCallOf tells old new ⊥
calls_then tells old mid new one two =
    (two.0 ∙ one.0, two.1 ∙ one.1, omega (arith, one.2, two.2), λ none. absurd none)

-- a store is of the format of itself
pub step_still : {E : Type 0} (news : DiskTells E) (s : Opened E) → KeepsStep news s s
step_still news s i read k read_again =
    let same : i ≡ k = cc (read, read_again) in
    let own : HasSameStep i i = refl in
    subst (λ (x : Image). HasSameStep i x) same own

-- and of that from before, also after two calls
pub step_then : {E : Type 0} (news : DiskTells E) (old mid new : Opened E)
    → StaysTold (news.reads old.disk) (news.reads mid.disk) → KeepsStep news old mid
    → KeepsStep news mid new → KeepsStep news old new
step_then news old mid new told one two i read k read_new =
    let there = told i read in
    two there.0 there.1 k read_new ∙ one i read there.0 there.1

pub told_then : (old mid new : Option Image) → StaysTold old mid → StaysTold mid new → StaysTold old new
told_then old mid new one two i is = let there = one i is in two there.0 there.1
