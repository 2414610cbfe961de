-- A first call by a book, over a store that was just begun.
use Rattle.std.proofs.Common.{◌≡◌, [], inl, inr, arith, refl, sym, subst, List, ℕ, Option}
use Rattle.std.specs.Prelude.{⊤}
use Rattle.ov_base.specs.declared.mode.Mode.{Mode}
use Rattle.ov_disk.specs.Disk.{Image, image}
use Rattle.ov_disk.specs.Tape.{Tape, fresh, may_leave_of}
use Rattle.ov_disk.specs.TapeLaws.{tape_tells}
use Rattle.ov_history.specs.Masters.{Masters}
use Rattle.ov_books.specs.Books.{Booked, blank_book}
use Rattle.ov_owner.specs.Alone.{IsLeftAlone}
use Rattle.ov_peer.specs.Alone.{IsAlone}
use Rattle.ov_peer.specs.Tells.{PeerTells}
use Rattle.ov_owning.specs.Endings.{End}
use Rattle.ov_owning.specs.Serving.{HasBook, IsByOneBook, IsOwnAnswered, LeavesServed, MayGoOn}
use Rattle.ov_owning.specs.Serving.{NewBooksAreServed}
use Rattle.ov_owning.specs.declared.job.OwnAct.{OwnAct}
use Rattle.ov_owning.specs.declared.owning.Owned.{Owned}
use Rattle.ov_protocol_t.specs.Books.{IsDiskOf, IsFirstCall, new_service}

-- the empty image
abbrev nothing : Image
nothing = image [] []

-- what is answered where some disk may have failed is answered where any may have
any_disk : (disk : Type 0) (status : ℕ) → IsOwnAnswered disk status → IsOwnAnswered ⊤ status
any_disk disk status (inl done) = inl done
any_disk disk status (inr (inl refused)) = inr (inl refused)
any_disk disk status (inr (inr (inl (is, failed)))) = inr (inr (inl (is, tt)))
any_disk disk status (inr (inr (inr (inl cut)))) = inr (inr (inr (inl cut)))
any_disk disk status (inr (inr (inr (inr failed)))) = inr (inr (inr (inr failed)))

module _ {P : Type 0} (peer : PeerTells P) (k : Masters) (mode : Mode) (new : NewBooksAreServed)
  where
    -- an empty disk has the book without intents
    abbrev empty_disk : HasBook tape_tells k mode (blank_book mode) (fresh nothing)
    empty_disk = record {
      image = nothing;
      told = refl;
      stands = (new k mode).1 nothing (inl (omega arith));
      mode_is = refl;
    }

    pub first_call : (act : OwnAct) (keys body : Option (List ℕ)) (p q : P) (disk : Tape)
        (done : Owned Tape) → disk ≡ fresh nothing → IsAlone peer → IsLeftAlone peer
        → peer.serves p (new_service k mode)
        → IsByOneBook peer tape_tells act mode keys body p q disk done.disk done.end done.code
        → IsFirstCall peer k act mode keys body q done
    first_call act keys body p q disk done same alone left serving by_one =
        let by : IsByOneBook peer tape_tells act mode keys body p q (fresh nothing) done.disk done.end
        done.code =
        subst (λ (d : Tape). IsByOneBook peer tape_tells act mode keys body p q d done.disk done.end
        done.code) same by_one in
        record {
          served = λ key.
              let leaves = by.served k (blank_book mode) (new_service k mode) empty_disk alone left
              serving (new k mode).0 key (λ c is. is) in (
                leaves,
                λ c may.
                    let (x, modes, stands, serves) = leaves.images c may in (
                      x,
                      record {
                        book = record { image = c; told = refl; stands = stands; mode_is = modes };
                        only = λ i is. is;
                      },
                      serves,
                    ),
              );
          answered = λ key file.
              any_disk _ done.code
              (by.answered k (blank_book mode) (new_service k mode) empty_disk alone serving
              (new k mode).0 key file (inr refl));
        }
