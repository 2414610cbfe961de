-- The list of a creation in a script is one that an owner takes.
use Rattle.std.proofs.Common.{ℕ, List, arith}
use Rattle.ov_script.specs.Items.{IsItem}
use Rattle.ov_script.specs.declared.command.Command.TheVariants.{Create}
use Rattle.ov_script.proofs.CreateLaws.{create_names, create_short_names, create_size}
use Rattle.ov_owner.specs.Errands.{IsCreation}
use Rattle.ov_owner.proofs.WrittenLists.{names_sendable}

pub item_creation : (item file body : List ℕ) (names : List (List ℕ))
    → IsItem item (Create file names body) → IsCreation names body
item_creation item file body names is =
    let sendable = names_sendable names (create_names item file body names is)
    (omega (arith, create_short_names item file body names is)) in record {
      file = create_size item file body names is;
      few = sendable.0;
      short = sendable.1;
    }
