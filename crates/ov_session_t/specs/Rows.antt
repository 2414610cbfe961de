-- Rows of settings files and of sessions.
use Rattle.std.specs.Prelude.{◌≡◌, ℕ, pos, codes, List, [], ◌∷◌, length, Some, None}
use Rattle.toml.specs.Data.{Members, get_member}
use Rattle.ov_settings.specs.declared.settings.Settings.{Settings}
use Rattle.ov_settings.specs.Settings.{AreSettings, HoldsWorkers, IsDocument, IsSettingsFile}
use Rattle.ov_settings.specs.Settings.{integer_at}
use Rattle.ov_session.specs.Exchanges.{answer_for}

-- A document of 65,536 bytes that has settings is a settings file. With a byte less for the longest
-- it would be none.
abbrev pub LongestIsSettingsFile : Type 0
LongestIsSettingsFile =
    (bytes : List ℕ) (document : Members) (s : Settings)
    → length bytes ≡ 65536 → IsDocument bytes document → AreSettings document s
    → IsSettingsFile bytes s

-- Where the key is missing 4 sessions run at the same time, and 64 may be asked for. With another
-- default or a smaller limit one of these would be no number of workers; with a greater limit 65
-- would be one.
pub record WorkersAreFourOrGiven : Type 0 where
  pub missing : (document : Members)
      → get_member (codes "workers") document ≡ None → HoldsWorkers document 4
  pub most : (document : Members)
      → integer_at document (codes "workers") ≡ Some (pos 64) → HoldsWorkers document 64
  pub over : (document : Members) → HoldsWorkers document 65 → ⊥

-- The frame of a lone kind byte says that there was no memory. A frame of no bytes would say
-- nothing.
pub record NoMemoryIsAnswered : Type 0 where
  pub none : answer_for None ≡ 0x8e ∷ []
  pub some : answer_for (Some (0x8d ∷ [])) ≡ 0x8d ∷ []
