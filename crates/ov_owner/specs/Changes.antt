-- Changes that an owner makes, as commands.
use Rattle.std.specs.Prelude.{ℕ, ◌≤◌, List, length}
use Rattle.ov_base.specs.declared.limits.TheConstants.{MAX_FILE_BYTES}
use Rattle.ov_script.specs.declared.command.Command.{Command}
use Rattle.ov_script.specs.declared.command.Command.TheVariants as commands
use Rattle.ov_owner.specs.Errands.{Errand, IsCreation, creating, enrolling, granting, removing}
use Rattle.ov_owner.specs.Errands.{replacing, revoking}
use Rattle.ov_owner.specs.declared.change.Change.{Change}
use Rattle.ov_owner.specs.declared.change.Change.TheVariants as changes

-- the errand of a change, under the base master
abbrev pub errand_of : List ℕ → Change → Errand
errand_of base (changes.Enrol user) = enrolling user.now
errand_of base (changes.Create file list bytes) = creating base file.now list.now bytes.now
errand_of base (changes.Grant user file) = granting base user.now file.now
errand_of base (changes.Revoke user file) = revoking user.now file.now
errand_of base (changes.Remove file) = removing file.now
errand_of base (changes.Replace file bytes) = replacing base file.now bytes.now

-- the command of a change
abbrev pub command_of : Change → Command
command_of (changes.Enrol user) = commands.Enrol user.now
command_of (changes.Create file list bytes) = commands.Create file.now list.now bytes.now
command_of (changes.Grant user file) = commands.Grant user.now file.now
command_of (changes.Revoke user file) = commands.Revoke user.now file.now
command_of (changes.Remove file) = commands.Remove file.now
command_of (changes.Replace file bytes) = commands.Replace file.now bytes.now

-- the limits of a creation, and of a replacement: its bytes are a file's
abbrev pub HasChangeLimits : Change → Type 0
HasChangeLimits (changes.Create file list bytes) = IsCreation list.now bytes.now
HasChangeLimits (changes.Replace file bytes) = length bytes.now ≤ MAX_FILE_BYTES
HasChangeLimits change = Unit {0}
