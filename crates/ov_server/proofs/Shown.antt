-- What a server answers by what it shows, and what it makes by that.
use Rattle.std.proofs.Common.{◌≡◌, ◌∙◌, inl, ℕ, false, List, [], Result, Ok, Err, refl, sym, ap, subst, arith, true≢false}
use Rattle.std.specs.Prelude.{IfOk, IsErr, OnErr, OnOk, Option, is_some}
use Rattle.ov_base.specs.declared.memory.Memory.{Memory}
use Rattle.ov_record.specs.Updates.{SealedUpdate}
use Rattle.ov_history.specs.Sealed.{SealedHistory}
use Rattle.ov_disk.specs.Disk.{Image}
use Rattle.ov_disk.specs.Moments.{IsUntouched}
use Rattle.ov_disk.specs.Tells.{DiskTells}
use Rattle.ov_disk.proofs.Runs.{started, untouched, weaker}
use Rattle.ov_wire.specs.declared.request.Request.{Request}
use Rattle.ov_wire.specs.declared.request.Request.TheVariants as requests
use Rattle.ov_wire.specs.declared.answer.Answer.{Answer}
use Rattle.ov_wire.specs.declared.answer.Answer.TheVariants as answers
use Rattle.ov_wire.specs.AnswerBytes.{answer_bytes}
use Rattle.ov_wire.specs.AnswerForm.{HasAnswerForm}
use Rattle.ov_wire.specs.RequestReading.{request_of}
use Rattle.ov_protocol.specs.Replies.{AnswersRead, made_of, updates_asked}
use Rattle.ov_protocol.proofs.Untold.{nothing_follows}
use Rattle.ov_store.specs.Opened.{Opened, Serves}
use Rattle.ov_store.specs.Updating.{IsCallOf}
use Rattle.ov_peer.specs.Disks.{AsksBytes, HasUpdate}
use Rattle.ov_peer.proofs.Following.{followed-nil}
use Rattle.ov_server.specs.Answering.{AsksServer, IsAnswered, IsNewFault, KeepsWith, LeavesAsked, WritesNothing, serving_of}
use Rattle.ov_server.proofs.AnswerKinds.{other_bytes}

-- this is replied, or memory was refused
abbrev pub Puts : Result Answer Memory → List ℕ → Result (Unit {0}) Memory → Type 0
Puts answer reply result =
    OnOk result ((a : Answer) × (answer ≡ Ok a) × (reply ≡ answer_bytes a))
    × OnErr result (reply ≡ [])

-- the answer that was put
pub put_is : (answer : Result Answer Memory) (a : Answer) (reply : List ℕ) → answer ≡ Ok a
    → ((x : Answer) × (answer ≡ Ok x) × (reply ≡ answer_bytes x)) → reply ≡ answer_bytes a
put_is answer a reply is (x, same, put) =
    let one : x ≡ a = cc in put ∙ ap answer_bytes one

-- another reply and result that are the same
pub puts_same : (answer : Result Answer Memory) (reply other : List ℕ)
    (result last : Result (Unit {0}) Memory) → Puts answer reply result → other ≡ reply
    → last ≡ result → Puts answer other last
puts_same answer reply other result last puts same is =
    subst (λ l. Puts answer l last) (sym same) (subst (Puts answer reply) (sym is) puts)

-- one answer that was put, or nothing where memory was refused
puts_one : (a : Answer) (reply : List ℕ) (result : Result (Unit {0}) Memory)
    → OnOk result (reply ≡ answer_bytes a) → OnErr result (reply ≡ []) → Puts (Ok a) reply result
puts_one a reply (Ok done) put none = ((a, refl, put), none)
puts_one a reply (Err why) put none = (put, none)

-- nothing is made by this answer, and the request is no update but where the disk never failed
abbrev pub MakesNone : {D : Type 0} → Opened D → List ℕ → Result Request ℕ → Answer → Type 0
MakesNone s request read a =
    (made_of read a ≡ [])
    × ((u : SealedUpdate) → HasUpdate (serving_of s) request u → s.failed ≡ false)

-- a request that is no Update has no update
pub no_update : {D : Type 0} (s : Opened D) (request : List ℕ) (u : SealedUpdate)
    → HasUpdate (serving_of s) request u → (asked : Request) → request_of request ≡ Ok asked
    → ((e : (epoch : ℕ) × (spelling : List ℕ) × (tag : List ℕ)
    × (asked ≡ requests.Update epoch spelling tag)) → ⊥)
    → ⊥
no_update s request u has asked is other =
    let same : asked ≡ requests.Update s.catalogue.epoch has.spelling has.tag =
    ok_same (request_of request) asked _ is has.is in
    other (s.catalogue.epoch, has.spelling, has.tag, same) where
      ok_same : (r : Result Request ℕ) (a b : Request) → r ≡ Ok a → r ≡ Ok b → a ≡ b
      ok_same r a b one two = cc

-- a frame that is no request has no update
pub no_frame : {D : Type 0} (s : Opened D) (request : List ℕ) (u : SealedUpdate)
    → HasUpdate (serving_of s) request u → (place : ℕ) → request_of request ≡ Err place → ⊥
no_frame s request u has place is =
    let wrong : Err place ≡ Ok (requests.Update s.catalogue.epoch has.spelling has.tag) =
    sym is ∙ has.is in cc

-- what holds of each answer
pub always : (answer : Result Answer Memory) (P : Answer → Type 0) → ((a : Answer) → P a)
    → IfOk answer P
always (Ok a) P all = all a
always (Err why) P all = tt

module _ {D : Type 0} (tells : DiskTells D) where
  -- where the disk isn't called, a crash leaves what it might have left before
  pub still_leaves : (s : Opened D) (request : List ℕ) → LeavesAsked tells request s s
  still_leaves s request g serves sound i read =
      started tells s.disk (KeepsWith s.keys g (updates_asked (request_of request)))
      (λ x left. inl (serves.disk sound i read x left))

  -- a call that changes nothing is a call of the disk without a fault
  pub still_call : (s : Opened D) (F : Type 0) → (F → ⊥) → IsCallOf tells s s F
  still_call s F never = (refl, refl, omega arith, λ fault. absurd (never fault))

  -- memory was refused
  pub forgot : (s : Opened D) (request reply : List ℕ) (why : Memory) → reply ≡ []
      → AsksServer tells s s request reply (Err why)
  forgot s request reply why none = record {
    answer = tt;
    memory = (refl, none);
    any_moment = still_leaves s request;
    call = still_call s (IsNewFault s request reply)
        (λ fault. let wrong : [] ≡ answer_bytes answers.DeviceFault = sym none ∙ fault.0 in cc);
  }

  pub forgot_by : (s : Opened D) (request reply : List ℕ) (result : Result (Unit {0}) Memory)
      → IsErr result → reply ≡ [] → AsksServer tells s s request reply result
  forgot_by s request reply (Ok done) is none = absurd (true≢false (sym is))
  forgot_by s request reply (Err why) is none = forgot s request reply why none

  -- ---- an answer that makes nothing

  -- a call that doesn't touch the store writes nothing
  pub writes_none : (s : Opened D) → WritesNothing tells s s
  writes_none s = record { same = refl; disk = untouched tells s.disk }

  -- where nothing is written, a crash leaves what it might have left before
  pub reading_leaves : (s new : Opened D) (request : List ℕ) → WritesNothing tells s new
      → LeavesAsked tells request s new
  reading_leaves s new request quiet g serves sound i read =
      weaker tells s.disk new.disk (tells.may_leave s.disk)
      (KeepsWith s.keys g (updates_asked (request_of request))) quiet.disk.any_moment
      (λ x left. inl (serves.disk sound i read x left))

  -- with a disk that wasn't written a store stands for what it stood for
  pub serves_with : (s : Opened D) (d : D) → IsUntouched tells s.disk d → (g : SealedHistory)
      → Serves tells g s → Serves tells g (record s { disk = d })
  serves_with s d quiet g serves = record {
    catalogue = serves.catalogue;
    bytes = serves.bytes;
    told = serves.told ∙ ap (λ (r : Option Image). is_some r) (sym quiet.reads_same);
    disk = λ ok i read x left.
        serves.disk ok i (sym quiet.reads_same ∙ read) x (quiet.no_more x left);
    after_fault = λ bad i read.
        let either = serves.after_fault bad i (sym quiet.reads_same ∙ read) in
        (either.0, λ x left. either.1 x (quiet.no_more x left));
  }

  still_serves : (s new : Opened D) → WritesNothing tells s new → (g : SealedHistory)
      → Serves tells g s → Serves tells g new
  still_serves s new quiet g serves =
      subst (λ (o : Opened D). Serves tells g o) (sym quiet.same)
      (serves_with s new.disk quiet.disk g serves)

  module _ (s new : Opened D) (request : List ℕ) (read : Result Request ℕ)
      (is : request_of request ≡ read) (quiet : WritesNothing tells s new)
      (same : (AsksBytes (serving_of s) request → ⊥) → new ≡ s) where
    pub says_read : (a : Answer) (reply : List ℕ) → AnswersRead (serving_of s) read a
        → HasAnswerForm a → made_of read a ≡ [] → reply ≡ answer_bytes a
        → ((u : SealedUpdate) → HasUpdate (serving_of s) request u → s.failed ≡ false)
        → IsAnswered tells s new request reply
    says_read a reply fits form none spelled sound = record {
      frame = record {
        made = [];
        replies = record {
          answer = a;
          answers = subst (λ (r : Result Request ℕ). AnswersRead (serving_of s) r a) (sym is) fits;
          form = form;
          spelled = spelled;
          makes = sym none ∙ ap (λ (r : Result Request ℕ). made_of r a) (sym is);
        };
        next = ap (λ (o : Opened D). serving_of o) quiet.same ∙ sym (nothing_follows (serving_of s));
      };
      lasts = λ g serves.
          subst (λ (h : SealedHistory). Serves tells h new) (sym (followed-nil g))
          (still_serves s new quiet g serves);
      untouched = λ nothing. quiet;
      unasked = λ none nothing. same none;
      told = λ i at. (i, quiet.disk.reads_same ∙ at);
      failed = ap (λ (o : Opened D). o.failed) quiet.same;
      sound = sound;
    }

  module _ (s : Opened D) (request : List ℕ) (read : Result Request ℕ)
      (is : request_of request ≡ read) where
    pub says : (a : Answer) (reply : List ℕ) → AnswersRead (serving_of s) read a → HasAnswerForm a
        → made_of read a ≡ [] → reply ≡ answer_bytes a
        → ((u : SealedUpdate) → HasUpdate (serving_of s) request u → s.failed ≡ false)
        → IsAnswered tells s s request reply
    says a reply fits form none spelled sound =
        says_read s s request read is (writes_none s) (λ none. refl) a reply fits form none spelled sound

    -- all that is said of the call
    pub answers_still : (answer : Result Answer Memory) (reply : List ℕ)
        (result : Result (Unit {0}) Memory)
        → IfOk answer (AnswersRead (serving_of s) read) → IfOk answer HasAnswerForm
        → IfOk answer (MakesNone s request read) → Puts answer reply result
        → AsksServer tells s s request reply result
    answers_still (Ok a) reply (Ok done) fits form (none, sound) (put, err) =
        let same : a ≡ put.0 = cc (put.1) in
        let spelled : reply ≡ answer_bytes a = put.2 ∙ ap answer_bytes (sym same) in record {
          answer = inl (says a reply fits form none spelled sound);
          memory = tt;
          any_moment = still_leaves s request;
          call = still_call s (IsNewFault s request reply)
              (λ fault. other_bytes (serving_of s) read a fits (sym spelled ∙ fault.0));
        }
    answers_still (Err why) reply (Ok done) fits form none (put, err) =
        let wrong : Err why ≡ Ok put.0 = put.1 in absurd (cc)
    answers_still answer reply (Err why) fits form none (put, err) = record {
      answer = tt;
      memory = (refl, err);
      any_moment = still_leaves s request;
      call = still_call s (IsNewFault s request reply)
          (λ fault. let wrong : [] ≡ answer_bytes answers.DeviceFault = sym err ∙ fault.0 in cc);
    }

  -- all that is said of a call that puts one answer to a request that is no Update, and leaves the
  -- server as it was
  pub answers_one : (s new : Opened D) (request : List ℕ) (asked : Request)
      → request_of request ≡ Ok asked
      → ((u : SealedUpdate) → HasUpdate (serving_of s) request u → ⊥)
      → (a : Answer) (reply : List ℕ) (result : Result (Unit {0}) Memory)
      → AnswersRead (serving_of s) (Ok asked) a → HasAnswerForm a → made_of (Ok asked) a ≡ []
      → new ≡ s → OnOk result (reply ≡ answer_bytes a) → OnErr result (reply ≡ [])
      → AsksServer tells s new request reply result
  answers_one s new request asked is other a reply result fits form none same put err =
      subst (λ (o : Opened D). AsksServer tells s o request reply result) (sym same)
      (answers_still s request (Ok asked) is (Ok a) reply result fits form
      (none, λ u has. absurd (other u has)) (puts_one a reply result put err))
