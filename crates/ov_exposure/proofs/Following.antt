-- The state after one more update may be the next that an audit looks at.
use Rattle.std.proofs.Common.{◌≡◌, ◌≤◌, ◌+◌, [], ◌∷◌, length, refl, sym, ◌∙◌, ap, arith}
use Rattle.std.proofs.Common.{length-append}
use Rattle.std.specs.Prelude.{Option, Some, option_map}
use Rattle.ov_history.specs.Briefs.{brief, outer}
use Rattle.ov_history.specs.Catalogue.{Catalogue, outline}
use Rattle.ov_history.specs.History.{Created, Enrolled, File, Granted, Matrix, Removed, Replaced}
use Rattle.ov_history.specs.History.{Revoked, Update, changed, delisted, listed, matrix_of}
use Rattle.ov_history.specs.Places.{gone}
use Rattle.ov_history.specs.Sealed.{catalogue_of, outer_of, with_sealed}
use Rattle.ov_exposure.specs.Auditing.{NextMayFollow}
use Rattle.ov_exposure.proofs.Moments.{same_there}
use Rattle.ov_exposure.proofs.Noting.{new_in}
use Rattle.ov_history.proofs.ChangeLaws.{length-change_at}
use Rattle.ov_history.proofs.GoingOn.{outer_of-push}
use Rattle.ov_history.proofs.Pushing.{matrix_of-push}
use Rattle.ov_history.proofs.Showing.{history_is_shown}
use Rattle.ov_history.proofs.SoundTests.{files_shown-length}
use Rattle.ov_history.proofs.StayingFiles.{length-anew}

-- there are as many numbers after an update, or one more
abbrev IsOneMore : Matrix → Matrix → Type 0
IsOneMore m next =
    (length m.files ≤ length next.files) × (length next.files ≤ length m.files + 1)

one_more : (m : Matrix) (u : Update) → IsOneMore m (changed m u)
one_more m (Enrolled name) = (omega arith, omega arith)
one_more m (Created name list size) =
    let f : Option File = Some (record { name = name; length = size; list = list }) in
    let many = length-append m.files (f ∷ []) in (omega (arith, many), omega (arith, many))
one_more m (Granted user place) =
    let many = length-change_at (option_map (listed user)) place m.files in
    (omega (arith, many), omega (arith, many))
one_more m (Revoked user place) =
    let many = length-change_at (option_map (delisted user)) place m.files in
    (omega (arith, many), omega (arith, many))
one_more m (Removed place) =
    let many = length-change_at gone place m.files in (omega (arith, many), omega (arith, many))
one_more m (Replaced place size) =
    let many = length-anew m place size in (omega (arith, many), omega (arith, many))

pub next_may_follow : NextMayFollow
next_may_follow master g u users notes fit seen =
    let c : Catalogue = catalogue_of master (with_sealed g u) in
    let v : Update = outer (brief u) in
    let shows = history_is_shown master c (with_sealed g u) (fit, refl) in
    let many : length c.files ≡ length (matrix_of (outer_of (with_sealed g u))).files =
    sym (files_shown-length (outline c) c.files) ∙ ap (λ (m : Matrix). length m.files) shows.matrix in
    let long : length (matrix_of (outer_of (with_sealed g u))).files
    ≡ length (changed (matrix_of (outer_of g)) v).files =
    ap (λ (m : Matrix). length m.files)
    (ap matrix_of (outer_of-push g u) ∙ matrix_of-push (outer_of g) v) in
    let next = one_more (matrix_of (outer_of g)) v in record {
      noted = omega (arith, many, long, next.0, seen.0);
      few = omega (arith, many, long, next.1, seen.0);
      there =
          λ below. same_there master (with_sealed g u) fit (length notes)
          ∙ new_in g u (length notes) (omega (arith, seen.0)) (omega (arith, below, many));
    }
