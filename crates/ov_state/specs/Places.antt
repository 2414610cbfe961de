-- Where the parts of an update are in its spelling.
use Rattle.std.specs.Prelude.{◌≡◌, ℕ, List, [], ◌++◌, length}
use Rattle.ov_fields.specs.Spelling.{counted, optional, token_field}
use Rattle.ov_record.specs.Forms.{Form}
use Rattle.ov_record.specs.Spelling.{spelling}
use Rattle.ov_record.specs.Updates.{SealedUpdate, SealedCreate, SealedEnrol, SealedGrant}
use Rattle.ov_record.specs.Updates.{SealedRemove, SealedReplace, SealedRevoke}
use Rattle.ov_record.specs.Briefs.{brief}
use Rattle.ov_history.specs.Briefs.{part_place}

-- the parts of an update as they are spelled: its tokens behind their number, or its access token
-- behind a flag; an enrolment, a revocation and a removal have none
abbrev pub parts_spelled : SealedUpdate → List ℕ
parts_spelled (SealedEnrol name) = []
parts_spelled (SealedCreate name list tokens tag bytes) = counted token_field tokens
parts_spelled (SealedGrant user file token) = optional token_field token
parts_spelled (SealedRevoke user file) = []
parts_spelled (SealedRemove file) = []
parts_spelled (SealedReplace name tokens tag bytes) = counted token_field tokens

-- the parts are at these places in the spelling of their update, in each form
abbrev pub PartsStandAtTheirPlace : Type 0
PartsStandAtTheirPlace =
    (form : Form) (u : SealedUpdate)
    → (front rest : List ℕ) × (spelling form u ≡ front ++ parts_spelled u ++ rest)
    × (length front ≡ part_place form.words (brief u))
