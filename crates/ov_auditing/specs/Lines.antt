-- The lines of an audit.
use Rattle.std.specs.Prelude.{ℕ, List, [], ◌∷◌, ◌++◌, codes}
use Rattle.std.specs.Fmt.{decimal}
use Rattle.ov_exposure.specs.Exposure.{Bare, Cause, Listed, Server}
use Rattle.ov_exposure.specs.Auditing.{Finding}

-- the word of a cause
abbrev pub cause_word : Cause → List ℕ
cause_word Listed = codes "listed"
cause_word Bare = codes "bare"
cause_word Server = codes "server"

-- the line of a finding, with its LF
abbrev pub finding_line : Finding → List ℕ
finding_line x =
    codes "exposed " ++ decimal x.file ++ 32 ∷ x.name ++ 32 ∷ cause_word x.cause
    ++ 32 ∷ decimal x.epoch ++ 10 ∷ []

-- the lines of all findings
abbrev pub finding_lines : List Finding → List ℕ
finding_lines [] = []
finding_lines (x ∷ findings) = finding_line x ++ finding_lines findings
