-- Rows of bad records behind one user or one file.
use Rattle.std.proofs.Common.{◌≡◌, inl, inr, ⊎_elim, ℕ, ◌+◌, List, [], ◌∷◌, ◌++◌, length}
use Rattle.std.proofs.Common.{refl, ap, arith, lit<, lit≤}
use Rattle.std.proofs.Common.{false, Ok}
use Rattle.std.specs.Prelude.{◌*◌}
use Rattle.std.specs.Int.{w32}
use Rattle.ov_base.specs.Sets.{bytes_of}
use Rattle.ov_base.proofs.SetLaws.{small-IsBelow}
use Rattle.ov_fields.specs.Reading.{Read, ◌>>=◌, all_of, bytes_at, made, many_at, number_at}
use Rattle.ov_fields.specs.Reading.{placed}
use Rattle.ov_record.specs.Briefs.{Brief, BriefCreate, BriefEnrol}
use Rattle.ov_record.specs.Forms.{set_bytes}
use Rattle.ov_record.specs.Forms.{second_form}
use Rattle.ov_record.specs.Reading.{brief_at, stored}
use Rattle.ov_record.specs.Stored.{Stored}
use Rattle.ov_record.proofs.BriefLaws.{brief_reads}
use Rattle.ov_record.proofs.UpdateLaws.{second_has_room}
use Rattle.ov_journal.specs.Runs.{run_after}
use Rattle.ov_images.specs.Images.{Keys}
use Rattle.ov_images.specs.Records.{HasRecordForm, StopsInRecord}
use Rattle.ov_images.specs.Extents.{blocks_in}
use Rattle.ov_images.specs.Images.{header_of}
use Rattle.ov_images.specs.Damage.{HasBadRecords, at_block}
use Rattle.ov_images.specs.Damage.{in_book}
use Rattle.ov_history_t.specs.Extents.{LastBlockCounts}
use Rattle.ov_history_t.specs.Extents.{BlocksInUseAreDamage}
use Rattle.ov_history_t.specs.Extents.{EndOfBlobsIsDamage}
use Rattle.ov_history_t.specs.Extents.{FirstIsLeftOver, FirstIsMissing, GateComesFirst}
use Rattle.ov_history_t.specs.Stores.{block, create, create_body, create_small}
use Rattle.ov_history_t.specs.Stores.{enrol_body}
use Rattle.ov_history_t.specs.Stores.{history, recorded, small_body}
use Rattle.ov_history_t.specs.Stores.{store, zeros}
use Rattle.ov_history_t.proofs.Blobs.{bad_store, blocks-length}
use Rattle.ov_history_t.proofs.OneFile.{create_form, one_file, one_file_kept, one_user}
use Rattle.ov_history_t.proofs.OneFile.{one_user_kept}

pub end_of_blobs_is_damage : EndOfBlobsIsDamage
unfolding bytes_of
end_of_blobs_is_damage k blobs long is =
    let bodies = enrol_body 97 ∷ create_body 1 (0 ∷ 0 ∷ []) (block 0) ∷ [] in
    bad_store k bodies blobs 2 (at_block 0) long refl (blocks-length blobs 12287 is)
    (λ master. record {
      history = one_user;
      kept = one_user_kept master 2;
      body = create_body 1 (0 ∷ 0 ∷ []) (block 0);
      rest = [];
      split = refl;
      bad = inr (inr (inr (record {
        update = create 1 [] 8193 (0 ∷ []);
        has_form = create_form;
        bytes = refl;
        fit = (refl, tt, (refl, refl, tt));
        firsts = refl;
        first = 0;
        taken = inl (λ free. omega (arith, free.0), refl);
        spot_is = refl;
      })));
    })

last_form : HasRecordForm second_form [] (create_small 110 (2147483648 ∷ []))
last_form = record {
  spelled = (
    (refl, small-IsBelow (8 * set_bytes second_form) 1 (lit< tt), lit≤ tt, tt, refl, lit≤ tt),
    ((lit< tt, tt), refl),
  );
  told = refl;
}

pub last_block_counts : LastBlockCounts
unfolding bytes_of
last_block_counts k blobs long is =
    let body = small_body 110 (128 ∷ 0 ∷ 0 ∷ 0 ∷ []) in
    bad_store k (enrol_body 97 ∷ body ∷ []) blobs 2147483648 (at_block 2147483648) long refl
    (blocks-length blobs 8796093026304 is)
    (λ master. record {
      history = one_user;
      kept = one_user_kept master 2147483648;
      body = body;
      rest = [];
      split = refl;
      bad = inr (inr (inr (record {
        update = create_small 110 (2147483648 ∷ []);
        has_form = last_form;
        bytes = refl;
        fit = (refl, tt, (refl, refl, tt));
        firsts = refl;
        first = 2147483648;
        taken = inl (λ free. omega (arith, free.0), refl);
        spot_is = refl;
      })));
    })

pub blocks_in_use_are_damage : BlocksInUseAreDamage
unfolding bytes_of
blocks_in_use_are_damage k blobs long is =
    let bodies = enrol_body 97 ∷ create_body 1 (0 ∷ 0 ∷ []) (block 0) ∷ small_body 109 (block 2)
    ∷ [] in
    bad_store k bodies blobs 4 (at_block 2) long refl (blocks-length blobs 16384 is)
    (λ master. record {
      history = one_file;
      kept = one_file_kept master 4 (lit≤ tt);
      body = small_body 109 (block 2);
      rest = [];
      split = refl;
      bad = inr (inr (inr (record {
        update = create_small 109 (2 ∷ []);
        has_form = record {
          spelled = (
            (refl, small-IsBelow (8 * set_bytes second_form) 1 (lit< tt), lit≤ tt, tt, refl, lit≤ tt),
            ((lit< tt, tt), refl),
          );
          told = refl;
        };
        bytes = refl;
        fit = (refl, tt, (refl, refl, (refl, refl, tt)));
        firsts = refl;
        first = 2;
        taken =
            inl (
              λ free. ⊎_elim (λ before. omega (arith, before)) (λ behind. omega (arith, behind))
                  free.1.0,
              refl,
            );
        spot_is = refl;
      })));
    })

-- what is read behind an update
abbrev and_firsts : ℕ → Read Brief → Read Stored
and_firsts count read = made stored (do
  a ← read
  b ← many_at (number_at w32) count a.1
  Ok ((a.0, b.0), b.1))

abbrev created : Brief
created = BriefCreate (110 ∷ []) 1 [] (zeros 32) 8193

abbrev create_with : List ℕ → List ℕ
create_with firsts = create_body 1 (0 ∷ 0 ∷ []) firsts

-- the creation is read from the front
created_first : (firsts : List ℕ) → brief_at second_form (create_with firsts) ≡ Ok (created, firsts)
unfolding bytes_of
created_first firsts = (brief_reads second_form second_has_room).again created firsts create_form.spelled.0

missing_stops : StopsInRecord second_form 1 (create_with []) 169
unfolding bytes_at many_at
missing_stops =
    ap (λ (r : Read Brief). placed 169 (all_of (and_firsts 1 r))) (created_first [])

left_over_stops : StopsInRecord second_form 1 (create_with (block 0 ++ block 3)) 173
unfolding bytes_at many_at
left_over_stops =
    ap (λ (r : Read Brief). placed 177 (all_of (and_firsts 1 r)))
    (created_first (block 0 ++ block 3))

-- the creation with another number of first blocks
miscounted : (k : Keys) (blobs firsts : List ℕ) (n at_byte : ℕ) → length k.base_check ≡ 32
    → run_after 0 (recorded (enrol_body 97 ∷ create_with firsts ∷ []))
    ≡ record { bodies = enrol_body 97 ∷ create_with firsts ∷ []; bad = false }
    → blocks_in blobs ≡ n → StopsInRecord second_form 1 (create_with firsts) at_byte
    → HasBadRecords (header_of k 2 (history []))
    (store k (enrol_body 97 ∷ create_with firsts ∷ []) blobs) (in_book (86 + 5 + at_byte))
unfolding bytes_of
miscounted k blobs firsts n at_byte long are blocks stops =
    bad_store k (enrol_body 97 ∷ create_with firsts ∷ []) blobs n (in_book (86 + 5 + at_byte)) long
    are blocks
    (λ master. record {
      history = one_user;
      kept = one_user_kept master n;
      body = create_with firsts;
      rest = [];
      split = refl;
      bad = inr (inr (inl (record {
        update = created;
        begins = record { has_form = create_form.spelled.0; rest = firsts; bytes = refl };
        fit = (refl, tt, (refl, refl, tt));
        at_byte = at_byte;
        stops = stops;
        spot_is = refl;
      })));
    })

pub first_is_missing : FirstIsMissing
first_is_missing k blobs long is =
    miscounted k blobs [] 3 169 long refl (blocks-length blobs 12288 is) missing_stops

pub first_is_left_over : FirstIsLeftOver
first_is_left_over k blobs long is =
    miscounted k blobs (block 0 ++ block 3) 6 173 long refl (blocks-length blobs 24576 is)
    left_over_stops

refused_gate : (k : Keys) (blobs : List ℕ) (n : ℕ) → length k.base_check ≡ 32 → blocks_in blobs ≡ n
    → HasBadRecords (header_of k 2 (history []))
    (store k (enrol_body 97 ∷ (enrol_body 97 ++ block 0) ∷ []) blobs) (in_book 86)
refused_gate k blobs n long blocks =
    bad_store k (enrol_body 97 ∷ (enrol_body 97 ++ block 0) ∷ []) blobs n (in_book 86) long refl
    blocks
    (λ master. record {
      history = one_user;
      kept = one_user_kept master n;
      body = enrol_body 97 ++ block 0;
      rest = [];
      split = refl;
      bad = inr (inl (record {
        update = BriefEnrol (97 ∷ []);
        begins = record { has_form = refl; rest = block 0; bytes = refl };
        unfit = λ fit. absurd (cc fit.2.0);
        spot_is = refl;
      }));
    })

enrolled_stops : StopsInRecord second_form 0 (enrol_body 98 ++ block 0) 3
unfolding bytes_at many_at
enrolled_stops =
    ap (λ (r : Read Brief). placed 7 (all_of (and_firsts 0 r)))
    ((brief_reads second_form second_has_room).again (BriefEnrol (98 ∷ [])) (block 0) refl)

pub gate_comes_first : GateComesFirst
gate_comes_first k blobs long is = (
  refused_gate k blobs 3 long (blocks-length blobs 12288 is),
  bad_store k (enrol_body 97 ∷ (enrol_body 98 ++ block 0) ∷ []) blobs 3 (in_book 94) long refl
      (blocks-length blobs 12288 is)
      (λ master. record {
        history = one_user;
        kept = one_user_kept master 3;
        body = enrol_body 98 ++ block 0;
        rest = [];
        split = refl;
        bad = inr (inr (inl (record {
          update = BriefEnrol (98 ∷ []);
          begins = record { has_form = refl; rest = block 0; bytes = refl };
          fit = (refl, tt, (refl, tt, tt));
          at_byte = 3;
          stops = enrolled_stops;
          spot_is = refl;
        })));
      }),
)
