-- What a reader finds of a file, after a history that is right under the masters of its keys.
use Rattle.std.proofs.Common.{◌≡◌, ◌∙◌, ℕ, Bool, true, false, List, [], ◌∷◌, length}
use Rattle.std.proofs.Common.{None, Ok, Err, refl, sym, ap}
use Rattle.std.specs.Prelude.{slice_index_or, if◌then◌else◌, bytes_eq}
use Rattle.std.proofs.lemmas.Slice.Eq.{bytes_eq-Decides}
use Rattle.ov_base.specs.declared.refusal.Refusal.TheVariants.{NoUser, NoFile, NoPath}
use Rattle.ov_tokens.specs.declared.label.Kind.TheVariants.{Derive}
use Rattle.ov_tokens.specs.Keys.{node_key}
use Rattle.ov_chain.specs.Walk.{access_along}
use Rattle.ov_surface.specs.Tags.{tag_of_file}
use Rattle.ov_wire.specs.declared.answer.Chained.{Chained}
use Rattle.ov_history.specs.Asking.{file_named, user_named}
use Rattle.ov_history.specs.Catalogue.{Catalogue, Filed, matrix_shown}
use Rattle.ov_history.specs.History.{Matrix, matrix_of}
use Rattle.ov_history.specs.Kept.{AreKept, IsKept, opened}
use Rattle.ov_history.specs.Keys.{AreTrueTokens}
use Rattle.ov_history.specs.Lists.{file_number, user_number}
use Rattle.ov_history.specs.Masters.{Masters, access_key}
use Rattle.ov_history.specs.Plain.{PlainHistory, bytes_of, history_of}
use Rattle.ov_history.specs.Refusals.{IsLegal, first_of_tests, read_refusal}
use Rattle.ov_history.specs.Rewrites.{surface_key}
use Rattle.ov_history.specs.Sealed.{catalogue_of, stored_of}
use Rattle.ov_history.specs.Sealing.{sealed}
use Rattle.ov_history.proofs.Filing.{readers_get_bytes}
use Rattle.ov_history.proofs.Keeping.{kept_shows, kept_stands_for}
use Rattle.ov_history.proofs.SoundTests.{file_is as file_is_in}
use Rattle.ov_history.proofs.Storing.{stored_is_coated}
use Rattle.ov_history.proofs.TrueHistories.{tokens_are_true}
use Rattle.ov_protocol.specs.Reading.{IsChainedFor}
use Rattle.ov_client.specs.Laws.{HoldsRootKeys}
use Rattle.ov_client.specs.Readers.{Reader, judged, keys_along, surface_along}
use Rattle.ov_client.specs.Readers.{uncovered}
use Rattle.ov_client.specs.declared.fault.ClientFault.TheVariants.{Damaged}
use Rattle.ov_client.proofs.Leading.{BeginsAt, base_chain_leads, surface_chain_leads}
use Rattle.ov_client.proofs.Staying.{IsIn, file_in, found_file}

-- ---- tests

judged_if : (b : Bool) (tag computed bytes : List ℕ) → b ≡ true
    → (if b then Ok bytes else Err (Damaged tag computed)) ≡ Ok bytes
judged_if true tag computed bytes is = refl
judged_if false tag computed bytes is = absurd (cc)

-- the third test of a read comes only where the file is there
pub file_there : (a b c : Bool)
    → first_of_tests ((NoUser, a) ∷ (NoFile, b) ∷ (NoPath, c) ∷ []) ≡ None → b ≡ false
file_there true b c none = cc
file_there false true c none = cc
file_there false false c none = refl

module _ (k : Masters) (p : PlainHistory) (legal : IsLegal (history_of p)) where
  abbrev pub shown : Catalogue
  shown = catalogue_of k.surface (sealed k p)

  abbrev pub texts : List (List ℕ)
  texts = stored_of k.surface (sealed k p)

  abbrev matrix : Matrix
  matrix = matrix_of (history_of p)

  is_kept : IsKept k p shown
  is_kept = (legal, refl)

  are_kept : AreKept k p texts
  are_kept = refl

  matrix_is : matrix_shown shown ≡ matrix
  matrix_is = (kept_shows k p shown is_kept).matrix

  -- what is shown refuses a read as the matrix does
  pub read_named : (user file : List ℕ)
      → read_refusal (matrix_shown shown) (user_named shown user) (file_named shown file)
      ≡ read_refusal matrix (user_number matrix user) (file_number matrix file)
  read_named user file =
      ap (λ (m : Matrix). read_refusal m (user_number m user) (file_number m file)) matrix_is

  pub file_is : (file : List ℕ) → file_named shown file ≡ file_number matrix file
  file_is file = ap (λ (m : Matrix). file_number m file) matrix_is

  -- a file that may be read is there
  pub there : (user n : ℕ) → read_refusal (matrix_shown shown) user n ≡ None
      → IsIn shown.files n
  there user n none =
      file_is_in n shown (file_there _ _ _ none)

  -- what is stored of a file has the file's length
  pub length_is : (n : ℕ) → IsIn shown.files n
      → length (slice_index_or texts n []) ≡ (file_in shown.files n).length
  length_is n low =
      (stored_is_coated k.surface shown texts (sealed k p) (kept_stands_for k p shown is_kept)
      are_kept).lengths
      n (file_in shown.files n) (found_file shown.files n low)

  module _ (r : Reader) (holds : HoldsRootKeys k r) (user number : ℕ) (c : Chained)
      (low : IsIn shown.files number) (is : IsChainedFor shown user number c)
      (base : c.base.root ≡ r.base_root) (surface : BeginsAt r.surface_root c.surface) where
    abbrev filed : Filed
    filed = file_in shown.files number

    tokens : AreTrueTokens k shown
    tokens = tokens_are_true k p legal

    access_is : access_along r.base c.base ≡ access_key k.base filed.node
    access_is =
        ap (λ (key : List ℕ). access_along key c.base)
        (holds.base ∙ ap (node_key Derive k.base) (sym base))
        ∙ base_chain_leads k shown user filed.node c.base tokens is.base

    surface_is : surface_along r.surface c.surface ≡ surface_key k.surface filed.surface
    surface_is =
        ap (λ (key : List ℕ). surface_along key c.surface) holds.surface
        ∙ surface_chain_leads k shown user r.surface_root filed.surface c.surface tokens surface
        is.surface

    -- the reader finds the file's bytes, and the tag is theirs
    pub judged_is : (stored : List ℕ) → stored ≡ slice_index_or texts number []
        → judged (keys_along r c) c (uncovered (keys_along r c) c.file 0 stored) ≡ Ok
        (bytes_of p number)
    judged_is stored whole =
        let readers = readers_get_bytes k p shown texts number filed is_kept are_kept
        (found_file shown.files number low) in
        let bytes : List ℕ = uncovered (keys_along r c) c.file 0 stored in
        let found : bytes ≡ opened (access_key k.base filed.node)
        (surface_key k.surface filed.surface) number (slice_index_or texts number []) =
        λ i. opened (access_is i) (surface_is i) (is.file i) (whole i) in
        let plain : bytes ≡ bytes_of p number = found ∙ readers.0 in
        let tag : tag_of_file (access_along r.base c.base) c.file bytes ≡ c.tag =
        (λ i. tag_of_file (access_is i) (is.file i) (found i)) ∙ sym readers.1 ∙ sym is.tag in
        judged_if (bytes_eq (tag_of_file (access_along r.base c.base) c.file bytes) c.tag) c.tag
        (tag_of_file (access_along r.base c.base) c.file bytes) bytes
        ((bytes_eq-Decides (tag_of_file (access_along r.base c.base) c.file bytes) c.tag).1 tag)
        ∙ ap Ok plain
