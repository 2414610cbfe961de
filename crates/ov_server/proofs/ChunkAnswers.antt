-- What is answered to a question for stored bytes.
use Rattle.std.proofs.Common.{◌≡◌, ◌∙◌, inl, inr, ℕ, zero, suc, ◌≤◌, ◌-◌, min, List, [], ◌∷◌, ◌++◌, length, Result, Ok, Err, refl, sym, ap, subst, arith}
use Rattle.std.proofs.lemmas.List.{append-nil}
use Rattle.std.specs.Prelude.{IfSome, None, Option, Some, option_map, slice_index_or, take, drop}
use Rattle.ov_base.specs.declared.limits.TheConstants.{MAX_CHUNK_BYTES}
use Rattle.ov_base.specs.declared.refusal.Refusal.TheVariants.{NoFile as NoSuchFile}
use Rattle.ov_history.specs.Catalogue.{Catalogue, Filed}
use Rattle.ov_history.specs.Places.{living_at}
use Rattle.ov_wire.specs.declared.answer.Answer.{Answer}
use Rattle.ov_wire.specs.declared.answer.Answer.TheVariants as answers
use Rattle.ov_wire.specs.AnswerBytes.{answer_bytes}
use Rattle.ov_wire.specs.AnswerForm.{HasAnswerForm}
use Rattle.ov_wire.specs.RequestReading.{request_of}
use Rattle.ov_wire.specs.declared.request.Request.{Request}
use Rattle.ov_protocol.specs.Reading.{AnswersChunk}
use Rattle.ov_protocol.specs.Replies.{AnswersRead, made_of}
use Rattle.ov_disk.specs.Tells.{DiskTells}
use Rattle.ov_record.specs.Updates.{SealedUpdate}
use Rattle.ov_store.specs.Chunks.{Chunks, IfUnasked}
use Rattle.ov_store.specs.Opened.{Opened}
use Rattle.ov_store.specs.Updating.{IsCallOf}
use Rattle.ov_store.specs.declared.fault.ChunkFault.{ChunkFault}
use Rattle.ov_store.specs.declared.fault.ChunkFault.TheVariants.{NoFile, Moved, Disk as DiskFailed}
use Rattle.ov_peer.specs.Disks.{AsksBytes, HasBytesAt, HasUpdate}
use Rattle.ov_server.specs.Answering.{AsksServer, WritesNothing, serving_of}
use Rattle.ov_server.proofs.AnswerKinds.{other_bytes}
use Rattle.ov_server.proofs.Shown.{reading_leaves, says_read}

-- why no bytes were given
pub chunk_err : (r : Result (Unit {0}) ChunkFault) (fault why : ChunkFault) → r ≡ Err fault
    → fault ≡ why → r ≡ Err why
chunk_err r fault why is same = is ∙ ap (λ (f : ChunkFault). Err f) same

no_bytes : (bytes : List ℕ) → length bytes ≡ 0 → bytes ≡ []
no_bytes [] none = refl
no_bytes (b ∷ bytes) none = absurd (cc none)

not_some : (n : ℕ) → (1 ≤ n → ⊥) → n ≡ 0
not_some zero none = refl
not_some (suc n) none = absurd (none (omega arith))

-- what is said of the bytes of all files is said of those of one
of_file : (stored : Option (List (List ℕ))) (file start count : ℕ) (bytes : List ℕ)
    → IfSome stored (λ all. bytes ≡ take count (drop start (slice_index_or all file [])))
    → IfSome (option_map (λ all. slice_index_or all file []) stored)
    (λ one. bytes ≡ take count (drop start one))
of_file None file start count bytes are = tt
of_file (Some all) file start count bytes are = are

module _ (c : Catalogue) (stored : Option (List (List ℕ))) (file generation start count : ℕ)
    (before after : List ℕ) (result : Result (Unit {0}) ChunkFault)
    (chunks : Chunks c stored file generation start count before after result) where
  abbrev At : Option Filed → Answer → Type 0
  At o =
      AnswersChunk o (option_map (λ all. slice_index_or all file []) stored) generation start count

  -- the answer that this is
  abbrev Says : Answer → Type 0
  Says = At (living_at c.files file)

  abbrev Chunked : Result (Unit {0}) ChunkFault → Type 0
  Chunked r = Chunks c stored file generation start count before after r

  -- bytes behind the kind of an answer that has none yet are the answer that has them
  pub says_bytes : (done : Unit {0}) → result ≡ Ok done → before ≡ answer_bytes (answers.Bytes [])
      → count ≤ MAX_CHUNK_BYTES
      → (bytes : List ℕ) × Says (answers.Bytes bytes) × HasAnswerForm (answers.Bytes bytes)
      × (after ≡ answer_bytes (answers.Bytes bytes))
  says_bytes done is begun few =
      let (f, there, at_it, bytes, (many, are), new) = subst Chunked is chunks in (
        bytes,
        subst (λ o. At o (answers.Bytes bytes)) (sym there)
            (at_it, many, of_file stored file start count bytes are),
        omega (arith, many, few),
        new ∙ ap (λ (l : List ℕ). l ++ bytes) begun,
      )

  pub says_no_file : result ≡ Err NoFile → Says (answers.Refused NoSuchFile)
  says_no_file is =
      subst (λ o. At o (answers.Refused NoSuchFile)) (sym (subst Chunked is chunks).0) refl

  pub says_moved : (now : ℕ) → result ≡ Err (Moved now) → Says (answers.Moved now)
  says_moved now is =
      let (f, there, at_it, other, same) = subst Chunked is chunks in
      subst (λ o. At o (answers.Moved now)) (sym there)
      ((λ e. other (at_it ∙ e)), at_it)

  -- where no bytes are there, none were put
  pub none_put : (done : Unit {0}) → result ≡ Ok done
      → (HasBytesAt c file generation start count → ⊥) → after ≡ before
  none_put done is none =
      let (f, there, at_it, bytes, (many, are), new) = subst Chunked is chunks in
      new
      ∙ ap (λ (l : List ℕ). before ++ l)
      (no_bytes bytes
      (many ∙ not_some (min count (f.length - start)) (λ some. none (f, there, at_it, some))))
      ∙ append-nil before

  -- where the disk failed, it was asked for bytes that are there, and none were put
  pub is_there : result ≡ Err DiskFailed
      → HasBytesAt c file generation start count × (after ≡ before)
  is_there is =
      let (f, there, at_it, some, same) = subst Chunked is chunks in ((f, there, at_it, some), same)

-- where no bytes were asked of the disk all is as it was
pub unasked : (P : Type 0) (before after : List ℕ) (result last : Result (Unit {0}) ChunkFault)
    → IfUnasked before after result P → result ≡ last → IfUnasked before after last P
unasked P before after result last holds is =
    subst (λ (r : Result (Unit {0}) ChunkFault). IfUnasked before after r P) is holds

-- ---- what is said of the call

module _ {D : Type 0} (tells : DiskTells D) (s new : Opened D) (request reply : List ℕ)
    (quiet : WritesNothing tells s new) {F : Type 0} (call : IsCallOf tells s new F)
    (done : Unit {0}) where
  -- bytes are given, and where none were asked for that are there, all is as it was
  pub chunk_given : ((AsksBytes (serving_of s) request → ⊥) → new ≡ s) → (asked : Request) (is : request_of request ≡ Ok asked) (a : Answer)
      → AnswersRead (serving_of s) (Ok asked) a → HasAnswerForm a → made_of (Ok asked) a ≡ []
      → ((u : SealedUpdate) → HasUpdate (serving_of s) request u → ⊥)
      → reply ≡ answer_bytes a → AsksServer tells s new request reply (Ok done)
  chunk_given same asked is a fits form none no_update spelled = record {
    answer = inl
        (says_read tells s new request (Ok asked) is quiet same a reply fits form none spelled
        (λ u has. absurd (no_update u has)));
    memory = tt;
    any_moment = reading_leaves tells s new request quiet;
    call = (
      call.0,
      call.1,
      call.2,
      λ fault. absurd (other_bytes (serving_of s) (Ok asked) a fits (sym spelled ∙ fault.0)),
    );
  }

  -- the disk failed
  pub chunk_failed : AsksBytes (serving_of s) request → reply ≡ answer_bytes answers.DeviceFault
      → F → AsksServer tells s new request reply (Ok done)
  chunk_failed asks spelled fault = record {
    answer = inr (record {
      spelled = spelled;
      same = ap (λ (o : Opened D). serving_of o) quiet.same;
      needs = inr (asks, quiet);
      before = λ failed. quiet;
      unasked = λ none failed. absurd (none asks);
      told = λ i at. (i, quiet.disk.reads_same ∙ at);
    });
    memory = tt;
    any_moment = reading_leaves tells s new request quiet;
    call = (call.0, call.1, call.2, λ is. call.3 fault);
  }
