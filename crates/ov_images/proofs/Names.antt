-- The names of files behind records: those of the history that has their updates, and those that a
-- catalogue shows.
use Rattle.std.proofs.Common.{◌≡◌, ◌<◌, ℕ, List, [], ◌∷◌, length, true, refl, ◌∙◌, ap, arith}
use Rattle.std.specs.Prelude.{Option, None}
use Rattle.ov_base.proofs.Tests.{true_of_not}
use Rattle.ov_tokens.specs.declared.token.Token.{Token}
use Rattle.ov_record.specs.Briefs.{Brief as SpelledBrief, BriefEnrol as SpelledEnrol}
use Rattle.ov_record.specs.Briefs.{BriefCreate as SpelledCreate, BriefGrant as SpelledGrant}
use Rattle.ov_record.specs.Briefs.{BriefRevoke as SpelledRevoke, BriefRemove as SpelledRemove}
use Rattle.ov_record.specs.Briefs.{BriefReplace as SpelledReplace}
use Rattle.ov_history.specs.Briefs.{Brief, BriefReplace, brief, numbered_brief, outer}
use Rattle.ov_history.specs.Briefs.{spelled_brief}
use Rattle.ov_history.specs.Catalogue.{Catalogue, file_names_shown, matrix_shown, outline}
use Rattle.ov_history.specs.History.{File, Matrix, Replaced, changed, changed_all, no_one}
use Rattle.ov_history.specs.Lists.{file_names, is_file}
use Rattle.ov_history.specs.Places.{place_of}
use Rattle.ov_history.specs.Placed.{PlacedHistory, PlacedUpdate, unplaced, unplaced_all}
use Rattle.ov_history.specs.Refusals.{tests_of}
use Rattle.ov_history.specs.Sealed.{SealedHistory, file_names_of, outer_all, refusal_shown}
use Rattle.ov_history.specs.Sent.{SealedUpdate}
use Rattle.ov_history.specs.Texts.{BriefHistory, StandsBriefly, brief_all, brief_of, with_texts}
use Rattle.ov_history.specs.Texts.{zeros_of}
use Rattle.ov_history.proofs.ChangeLaws.{below_some}
use Rattle.ov_history.proofs.Numbering.{length-names, name_at, names_are_shown}
use Rattle.ov_history.proofs.SoundTests.{none_applies}
use Rattle.ov_history.proofs.TextLists.{brief-with_texts, texts_stand, zeros_fit}
use Rattle.ov_images.specs.Records.{matrix_after, matrix_with, names_after}

-- the matrix of some updates is that of the same ones with first blocks
same_matrix : (m : Matrix) (us : List SealedUpdate) (ps : List PlacedUpdate)
    → brief_all us ≡ unplaced_all ps → changed_all m (outer_all us) ≡ matrix_after m ps
same_matrix m [] [] same = refl
same_matrix m [] (p ∷ ps) same = absurd (cc same)
same_matrix m (u ∷ us) [] same = absurd (cc same)
same_matrix m (u ∷ us) (p ∷ ps) same =
    let one : brief u ≡ p.update = cc same in
    let rest : brief_all us ≡ unplaced_all ps = cc same in
    ap (λ (b : Brief). changed_all (changed m (outer b)) (outer_all us)) one
    ∙ same_matrix (matrix_with m p) us ps rest

-- the names after these updates are those of each history that has them
pub names_of_history : (g : SealedHistory) (p : PlacedHistory) → brief_of g ≡ unplaced p
    → file_names_of g ≡ names_after p.updates
names_of_history g p same =
    ap (λ (m : Matrix). file_names m.files)
    (same_matrix no_one g.updates p.updates (ap (λ (b : BriefHistory). b.updates) same))

-- a catalogue that stands for the history shows them
pub names_shown : (master : List ℕ) (c : Catalogue) (p : PlacedHistory)
    → StandsBriefly master c (unplaced p) → file_names_shown c ≡ names_after p.updates
names_shown master c p stands =
    let b : BriefHistory = unplaced p in
    let zeros : List (List ℕ) = zeros_of b in
    let g : SealedHistory = with_texts b zeros in
    names_are_shown master c g ((texts_stand master c b zeros (zeros_fit b)).0 stands)
    ∙ names_of_history g p (brief-with_texts b zeros (zeros_fit b))

-- ---- spelled updates

-- the name of a file that is replaced is one of those that are shown
pub named_below : (c : Catalogue) (name : List ℕ) (tokens : List Token) (tag : List ℕ) (size : ℕ)
    → refusal_shown c (BriefReplace (place_of name (file_names_shown c)) tokens tag size) ≡ None
    → place_of name (file_names_shown c) < length (file_names_shown c)
named_below c name tokens tag size none =
    let files : List (Option File) = (matrix_shown c).files in
    let k : ℕ = place_of name (file_names files) in
    let there : is_file (matrix_shown c) k ≡ true =
    true_of_not (is_file (matrix_shown c) k)
    (none_applies (tests_of (matrix_shown c) (outline c) c.epoch (Replaced k size)) none).0 in
    omega (arith, below_some files k there, length-names files)

-- an update that was spelled, and that a store with this catalogue doesn't refuse by number, is
-- spelled so
pub spelled_again : (c : Catalogue) (b : SpelledBrief)
    → let names = file_names_shown c in
    refusal_shown c (numbered_brief names b) ≡ None
    → spelled_brief names (numbered_brief names b) ≡ b
spelled_again c (SpelledEnrol user) none = refl
spelled_again c (SpelledCreate file list tokens tag size) none = refl
spelled_again c (SpelledGrant user file token) none = refl
spelled_again c (SpelledRevoke user file) none = refl
spelled_again c (SpelledRemove file) none = refl
spelled_again c (SpelledReplace name tokens tag size) none =
    ap (λ these. SpelledReplace these tokens tag size)
    (name_at name (file_names_shown c) (named_below c name tokens tag size none))

-- so its record tells it
pub told_again : (c : Catalogue) (b : SpelledBrief)
    → let names = file_names_shown c in
    refusal_shown c (numbered_brief names b) ≡ None
    → numbered_brief names (spelled_brief names (numbered_brief names b)) ≡ numbered_brief names b
told_again c b none =
    ap (λ (d : SpelledBrief). numbered_brief (file_names_shown c) d) (spelled_again c b none)
