use Rattle.std.proofs.Common.{◌≡◌, ◌++◌, take}
use Rattle.ov_listing.specs.Texts.{users_text}
use Rattle.ov_consulting.proofs.lines.put_users.Given as goal

abbrev pub invariant-loop-user : goal.invariant-loop-user
invariant-loop-user l = l.out.items ≡ l.fn.out.items ++ users_text (take l.user-index l.users)
