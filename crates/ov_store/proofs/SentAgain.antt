-- An update that is read again with the bytes of its file is that of each history for which a store
-- stands.
use Rattle.std.proofs.Common.{◌≡◌, ℕ, Bool, List, [], ◌∷◌, ◌++◌, length, take, sym, ◌∙◌, ap, refl, subst}
use Rattle.std.specs.Prelude.{Err, None, Ok, Option, Result, Some, is_some, not, option_map}
use Rattle.ov_disk.specs.Disk.{Image, Told}
use Rattle.ov_disk.specs.Tells.{DiskTells}
use Rattle.ov_record.specs.Briefs.{Brief as SpelledBrief, brief as brief_as_spelled, plain_brief}
use Rattle.ov_record.specs.Updates.{sealed_update}
use Rattle.ov_record.specs.declared.brief.Brief.{Brief as Written}
use Rattle.ov_record.specs.declared.update.Update.{Update}
use Rattle.ov_history.specs.Briefs.{brief, numbered_brief, outer}
use Rattle.ov_history.specs.Catalogue.{file_shown, outline}
use Rattle.ov_history.specs.Fading.{faded_if, is_gone_from}
use Rattle.ov_history.specs.History.{File, History, Matrix, start_of, with_update}
use Rattle.ov_history.specs.Lists.{is_file}
use Rattle.ov_history.specs.Places.{living_at}
use Rattle.ov_history.specs.Sealed.{AllFit, SealedHistory, StandsFor, catalogue_of, file_names_of, outer_of}
use Rattle.ov_history.specs.Sent.{SealedUpdate, numbered}
use Rattle.ov_history.proofs.Numbering.{updates_are_numbered}
use Rattle.ov_history.proofs.Showing.{history_is_shown}
use Rattle.ov_history.proofs.SoundTests.{files_shown-length, is_some-map, shown_there}
use Rattle.ov_images.specs.Images.{Keys}
use Rattle.ov_images.specs.Records.{form_behind}
use Rattle.ov_images.proofs.Records.{room_behind}
use Rattle.ov_journal.specs.Log.{Log}
use Rattle.ov_placed.proofs.Spots.{one_front}
use Rattle.ov_placed.specs.Contents.{PlacedStore}
use Rattle.ov_state.specs.declared.state.TheConstants.{WIDTH}
use Rattle.ov_store.specs.Briefs.{FindsRecord, IsUpdateAt, body_at}
use Rattle.ov_store.specs.Opened.{IsSafe, Serves}
use Rattle.ov_store.specs.Owners.{HasTextIn, is_gone_in, with_first}
use Rattle.ov_store.specs.Wholes.{FindsWhole, IsWholeAt, ReadsWhole, files_before}
use Rattle.ov_store.specs.declared.briefs.BriefFault.{BriefFault}
use Rattle.ov_store.specs.declared.briefs.BriefFault.TheVariants.{Changed, Disk as DiskFailed}
use Rattle.ov_store.specs.declared.briefs.BriefFault.TheVariants.{Memory as NoMemory}
use Rattle.ov_store.proofs.Checked.{history_read}
use Rattle.ov_store.proofs.Looking.{store_of}
use Rattle.ov_store.proofs.NewTexts.{has_text}
use Rattle.ov_store.proofs.UpdatesAt.{first_front, front_at, none_left}

-- ---- one record

-- what is made of the brief of a record, where a disk reads this
abbrev pub SaysWhole : Option Image → List ℕ → PlacedStore → ℕ → Written WIDTH
    → Option (Update WIDTH) → Type 0
SaysWhole reads master store file b found =
    let gone = is_gone_in store.catalogue file in
    Told reads (λ d. (names : List (List ℕ)) (u : SealedUpdate)
    → brief u ≡ numbered_brief names (plain_brief b)
    → HasTextIn master store file d.blobs u
    → option_map (λ whole. faded_if gone (numbered names (sealed_update whole))) found
    ≡ Some (faded_if gone u))

module _ (reads : Option Image) (master : List ℕ) (log : Log) (store : PlacedStore) (i file : ℕ) where
  pub finds_whole : (b : Written WIDTH) (w : Update WIDTH) → FindsRecord reads log i (Ok (Some b))
      → brief_as_spelled (sealed_update w) ≡ plain_brief b
      → SaysWhole reads master store file b (Some w)
      → FindsWhole reads master log store i file (Ok (Some w))
  finds_whole b w found spelled whole = (
    found.0,
    λ d read. (
      plain_brief b,
      found.1 d read,
      λ names u named text.
          let gone = is_gone_in store.catalogue file in
          let is : Some (faded_if gone (numbered names (sealed_update w))) ≡ Some (faded_if gone u) =
          whole d read names u named text in
          let same : faded_if gone (numbered names (sealed_update w)) ≡ faded_if gone u = cc is in (
            (updates_are_numbered names (sealed_update w)).0
                ∙ ap (λ (a : SpelledBrief). numbered_brief names a) spelled ∙ sym named,
            same,
          ),
    ),
  )

  pub finds_changed : (b : Written WIDTH) (place : ℕ) → FindsRecord reads log i (Ok (Some b))
      → SaysWhole reads master store file b None
      → FindsWhole reads master log store i file (Err (Changed place))
  finds_changed b place found whole = (
    found.0,
    λ d read a begins names u named text.
        let same : a ≡ plain_brief b =
        one_front (form_behind log.step i) (room_behind log.step i) a (plain_brief b) (body_at d i)
        begins (found.1 d read) in
        let none : None ≡ Some (faded_if (is_gone_in store.catalogue file) u) =
        whole d read names u (named ∙ ap (λ (x : SpelledBrief). numbered_brief names x) same) text in
        absurd (cc none),
  )

  pub finds_fault : (fault : BriefFault) → FindsRecord reads log i (Err fault)
      → FindsWhole reads master log store i file (Err fault)
  finds_fault DiskFailed found = tt
  finds_fault (Changed place) found =
      (found.0, λ d read a begins names u named text. found.1 d read a begins)
  finds_fault NoMemory found = tt

-- the first of these updates fit
front_fit : (h : History) (us : List SealedUpdate) (rest : List SealedUpdate)
    → AllFit h (us ++ rest) → AllFit h us
front_fit h [] rest fit = tt
front_fit h (v ∷ us) rest fit =
    (fit.0, fit.1, front_fit (with_update h (outer (brief v))) us rest fit.2)

-- ---- each history for which a store stands

module _ {D : Type 0} (tells : DiskTells D) (d : D) (k : Keys) (store : PlacedStore) (f : Bool)
    (log : Log) (safe : IsSafe tells log store (store_of tells d k store f)) where
  module _ (g : SealedHistory) (serves : Serves tells g (store_of tells d k store f)) (i : Image)
      (read : tells.reads d ≡ Some i) (n file : ℕ) (file_is : file ≡ files_before g n) where
    -- the files that are gone at the history's end are those that the store hasn't
    gone_is : is_gone_in store.catalogue file ≡ is_gone_from g file
    gone_is =
        let c = store.catalogue in
        ap not
        (sym (is_some-map (file_shown (outline c)) (living_at c.files file))
        ∙ ap (λ (o : Option File). is_some o) (sym (shown_there (outline c) c.files file))
        ∙ ap (λ (m : Matrix). is_file m file) (history_is_shown k.surface c g serves.catalogue).matrix)

    -- the file that the update makes has its text in its extent
    text_at : (b : SpelledBrief) (at : IsUpdateAt g n b)
        → HasTextIn k.surface store file i.blobs at.update
    text_at b at =
        let front = take n g.updates in
        let c = catalogue_of k.surface (with_first g front) in
        let stands : StandsFor k.surface c (with_first g front) = (
          front_fit (start_of (outer_of g)) front (at.update ∷ at.rest)
              (subst (AllFit (start_of (outer_of g))) at.split serves.catalogue.0),
          refl,
        ) in
        let many : length c.files ≡ files_before g n =
        sym (files_shown-length (outline c) c.files)
        ∙ ap (λ (m : Matrix). length m.files)
        (history_is_shown k.surface c (with_first g front) stands).matrix in
        subst (λ (m : ℕ). HasTextIn k.surface store m i.blobs at.update) (many ∙ sym file_is)
        (has_text k.surface store i.blobs g serves.catalogue
        (history_read tells d k store f log safe g serves i read).bytes c front at.update at.rest
        at.split stands)

    whole_at : (w : Update WIDTH) → FindsWhole (tells.reads d) k.surface log store n file (Ok (Some w))
        → IsWholeAt g n file (sealed_update w)
    whole_at w found =
        let record_is = found.1 i read in
        let at = front_at tells d k store f log safe g serves i read n found.0 record_is.0 record_is.1 in
        let names = file_names_of (with_first g (take n g.updates)) in
        let one = record_is.2 names at.update (sym at.told) (text_at record_is.0 at) in record {
          update = at.update;
          rest = at.rest;
          split = at.split;
          more = at.more;
          whole = (
            one.0,
            subst (λ (gone : Bool). faded_if gone (numbered names (sealed_update w))
                ≡ faded_if gone at.update) gone_is one.1,
          );
        }

    never_changed : (place : ℕ)
        → FindsWhole (tells.reads d) k.surface log store n file (Err (Changed place)) → ⊥
    never_changed place found =
        let begins = first_front tells d k store f log safe g serves i read n found.0 in
        let at = front_at tells d k store f log safe g serves i read n found.0 _ begins in
        found.1 i read _ begins (file_names_of (with_first g (take n g.updates))) at.update
        (sym at.told) (text_at _ at)

  pub reads_whole : (n file : ℕ) (r : Result (Option (Update WIDTH)) BriefFault)
      → FindsWhole (tells.reads d) k.surface log store n file r
      → ReadsWhole tells (store_of tells d k store f) n file r
  reads_whole n file (Ok (Some w)) found = λ g serves file_is i read.
      whole_at g serves i read n file file_is w found
  reads_whole n file (Ok None) past = none_left tells d k store f log safe n past
  reads_whole n file (Err DiskFailed) found = tt
  reads_whole n file (Err (Changed place)) found = λ g serves file_is i read.
      never_changed g serves i read n file file_is place found
  reads_whole n file (Err NoMemory) found = tt
