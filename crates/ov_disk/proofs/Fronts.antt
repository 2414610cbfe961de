-- A write that failed after its first bytes: a crash leaves no more of it than of the whole write.
use Rattle.std.proofs.Common.{◌≡◌, inl, inr, ℕ, ◌+◌, ◌-◌, ◌≤◌, List, length, take, drop, Result, Ok, Err, OnOk, sym, ◌∙◌, ap, subst, arith}
use Rattle.std.specs.Option.{option_map}
use Rattle.std.specs.Result.{MatchResult}
use Rattle.std.proofs.lemmas.List.{length-take, drop-drop}
use Rattle.ov_disk.specs.declared.area.Area.{Area}
use Rattle.ov_disk.specs.declared.area.Area.TheVariants.{Book, Blobs}
use Rattle.ov_disk.specs.declared.change.Change.TheVariants.{Write}
use Rattle.ov_disk.specs.Disk.{Image, bytes_of, written, Torn, TornIn, Follows, Told, StaysTold, StaysUntold}
use Rattle.ov_disk.specs.Moments.{Elapses}
use Rattle.ov_disk.specs.Tape.{Tape, failed, changed, PutsFront, reads_of, may_leave_of}
use Rattle.ov_disk.specs.TapeLaws.{torn_in_done, tape_tells}
use Rattle.ov_disk.proofs.Stops.{torn_in_same}
use Rattle.ov_disk.proofs.Tapes.{Grows, grows_time, write_reads, write_crash}

-- what fewer bytes may tear, more bytes at the same place may
torn_longer : (at n m : ℕ) (old new : List ℕ) → n ≤ m → Torn at n old new → Torn at m old new
torn_longer at n m old new le torn =
    let further : (l : List ℕ) → drop (m - n) (drop (at + n) l) ≡ drop (at + m) l = λ l. drop-drop (m - n) (at + n) l ∙ ap (λ (k : ℕ). drop k l) (omega (arith, le)) in
    record {
      before = torn.before;
      after = sym (further new) ∙ ap (drop (m - n)) torn.after ∙ further old;
      no_shorter = torn.no_shorter;
      no_longer = omega (arith, torn.no_longer, le);
    }

torn_in_longer : (area : Area) (at n m : ℕ) (i j : Image) → n ≤ m → TornIn area at n i j → TornIn area at m i j
torn_in_longer Book at n m i j le torn = (torn_longer at n m i.book j.book le torn.0, torn.1)
torn_in_longer Blobs at n m i j le torn = (torn_longer at n m i.blobs j.blobs le torn.0, torn.1)

-- what a disk tells after a write of n bytes, whether it was done or failed
pub record WriteTells (area : Area) (at n : ℕ) (old new : Tape) : Type 0 where
  pub told : StaysTold (reads_of old) (reads_of new)
  pub untold : StaysUntold (reads_of old) (reads_of new)
  pub crash : Follows (TornIn area at n) (may_leave_of old) (may_leave_of new)
  pub time : Elapses tape_tells old new

-- one that put nothing
nothing_put : (area : Area) (at n : ℕ) (old : Tape) → WriteTells area at n old (failed old)
nothing_put area at n old = record {
  told = λ i is. (i, is);
  untold = λ is. is;
  crash = λ c left. (c, left, torn_in_same area at n c);
  time = record { later = omega arith; nothing_else = λ t c le left. inl left; keeps = λ t c le left. left };
}

module _ (area : Area) (at : ℕ) (old new : Tape) (fits : Told (reads_of old) (λ i. at ≤ length (bytes_of area i))) where
  -- one that put bytes, n or fewer of them
  bytes_put : (n : ℕ) (bytes : List ℕ) → length bytes ≤ n → Grows old new (Write old.calls area at bytes) → WriteTells area at n old new
  bytes_put n bytes le grows =
      let reads : reads_of new ≡ option_map (written area at bytes) (reads_of old) = write_reads old new old.calls area at bytes grows fits in
      record {
        told = λ i is. (written area at bytes i, reads ∙ ap (option_map (written area at bytes)) is);
        untold = λ is. reads ∙ ap (option_map (written area at bytes)) is;
        crash = λ c left. let from = write_crash old new old.calls area at bytes grows c left in (from.0, from.1, torn_in_longer area at (length bytes) n from.0 c le from.2);
        time = grows_time old new (Write old.calls area at bytes) grows;
      }

  front_put : (n : ℕ) (bytes : List ℕ) → length bytes ≤ n → PutsFront area at bytes old new → WriteTells area at n old new
  front_put n bytes le (inl same) = subst (WriteTells area at n old) (sym same) (nothing_put area at n old)
  front_put n bytes le (inr put) = bytes_put n bytes le (record { first = ap (λ (t : Tape). t.first) put.1; changes = ap (λ (t : Tape). t.changes) put.1 })

  -- one that put the first of the bytes, or none
  pub after_front : (keep : ℕ) (bytes front : List ℕ) → front ≡ take keep bytes → PutsFront area at front old new → WriteTells area at (length bytes) old new
  after_front keep bytes front is put = front_put (length bytes) front (omega (arith, ap length is, length-take keep bytes)) put

  -- one that put all bytes, or none
  pub after_whole : {T E : Type 0} (bytes : List ℕ) (r : Result T E) → MatchResult r (λ _. new ≡ changed (Write old.calls area at bytes) old) (λ _. new ≡ failed old)
      → WriteTells area at (length bytes) old new
  after_whole bytes (Ok x) same = bytes_put (length bytes) bytes (omega arith) (record { first = ap (λ (t : Tape). t.first) same; changes = ap (λ (t : Tape). t.changes) same })
  after_whole bytes (Err e) same = subst (WriteTells area at (length bytes) old) (sym same) (nothing_put area at (length bytes) old)

  pub whole_reads : {T E : Type 0} (bytes : List ℕ) (r : Result T E) → MatchResult r (λ _. new ≡ changed (Write old.calls area at bytes) old) (λ _. new ≡ failed old)
      → OnOk r (reads_of new ≡ option_map (written area at bytes) (reads_of old))
  whole_reads bytes (Ok x) same =
      write_reads old new old.calls area at bytes (record { first = ap (λ (t : Tape). t.first) same; changes = ap (λ (t : Tape). t.changes) same }) fits
  whole_reads bytes (Err e) same = tt
