-- The premises of completeness, of each legal store and of right files.
use Rattle.std.proofs.Common.{refl}
use Rattle.ov_acts.specs.Laws.{KeyFilesAreEnough, LegalIsStore, LinesAreEnough}

pub legal_is_store : LegalIsStore
legal_is_store = record {
  each = λ k h g legal same.
      record { surface = refl; check = refl; legal = legal; history = same };
  own = λ k h legal. record { surface = refl; check = refl; legal = legal; history = refl };
}

pub key_files_are_enough : KeyFilesAreEnough
key_files_are_enough act file bytes body k is stores few = record {
  file = file;
  told = refl;
  masters = is;
  bytes = bytes;
  stores = stores;
  few = few;
}

pub lines_are_enough : LinesAreEnough
lines_are_enough k h user line r reader is = record {
  line = line;
  told = refl;
  reader = r;
  is = is;
  holds = reader.keys;
  roots = reader.roots;
}
