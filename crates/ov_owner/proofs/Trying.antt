-- One try, and the tries of a call.
use Rattle.std.proofs.Common.{◌≡◌, ℕ, ◌+◌, ◌<◌, ◌≤◌, ◌∙◌, List, [], ◌∷◌, ◌++◌, length, take, Result, Ok, Err, refl, sym, ap, subst, inl, inr, arith}
use Rattle.std.specs.Prelude.{◌⊎◌, ◌==◌, Bool, slice_set}
use Rattle.std.proofs.lemmas.Bool.{ne_eqb}
use Rattle.std.proofs.lemmas.List.{length-take-le, take_all, take_more_set}
use Rattle.ov_base.proofs.Tests.{lt_is_false, lt_is_true}
use Rattle.ov_record.specs.Updates.{SealedUpdate}
use Rattle.ov_wire.specs.declared.request.Request.{Request}
use Rattle.ov_wire.specs.declared.answer.Known.{Known}
use Rattle.ov_wire.specs.declared.answer.Plan.{Plan}
use Rattle.ov_wire.specs.declared.answer.Answer.{Answer}
use Rattle.ov_wire.specs.declared.answer.Answer.TheVariants as answers
use Rattle.ov_wire.specs.Requests.{HasRequestForm}
use Rattle.ov_peer.specs.Exchanges.{Answered}
use Rattle.ov_peer.specs.Tells.{PeerTells}
use Rattle.ov_owner.specs.Calls.{Concludes, Passes}
use Rattle.ov_owner.specs.Errands.{Errand, known_of, plan_of, sealed_by}
use Rattle.ov_owner.specs.Talks.{Asks, Ends, Sends, Stage, after_first, again, again_if, sends_if, start}
use Rattle.ov_owner.specs.Changes.{errand_of}
use Rattle.ov_owner.specs.declared.change.Change.{Change}
use Rattle.ov_owner.specs.declared.change.Change.TheVariants as changes
use Rattle.ov_owner.specs.declared.limits.TheConstants.{MAX_TRIES}
use Rattle.ov_owner.specs.declared.fault.OwnerFault.{OwnerFault}
use Rattle.ov_owner.specs.declared.fault.OwnerFault.TheVariants as faults
use Rattle.ov_owner.proofs.Talking.{answered_so, concludes_on, ends_so, nothing_asked, passes_on}

-- ---- the answer to the first request

module _ {P : Type 0} (peer : PeerTells P) (surface : List ℕ) (e : Errand) (tries : List ℕ)
    (least : ℕ) (p q : P) (request : Request) (ours : request ≡ e.first) (form : HasRequestForm request)
    (a : Answer) (x : Answered peer p q request (Ok a)) where
  by_first : (next : Stage) → after_first tries least (e.sealed a) ≡ next
      → Passes peer surface e (Asks tries least) p next q
  by_first next is =
      answered_so peer surface e (Asks tries least) e.first refl (subst HasRequestForm ours form) p q (Ok a) next
      (subst (λ (r : Request). Answered peer p q r (Ok a)) ours x) is

  -- nothing is sealed of the answer
  pub seal_fails : (fault : OwnerFault) → (fault ≡ faults.Memory) ⊎ (e.sealed a ≡ Err fault)
      → Concludes peer surface e (Asks tries least) p q (Err fault)
  seal_fails fault (inl memory) =
      subst (λ (f : OwnerFault). Concludes peer surface e (Asks tries least) p q (Err f)) (sym memory)
      (concludes_on peer surface e (Asks tries least) (after_first tries least (e.sealed a)) p q q (Err faults.Memory)
      (by_first (after_first tries least (e.sealed a)) refl)
      (nothing_asked peer surface e (after_first tries least (e.sealed a)) q))
  seal_fails fault (inr is) =
      ends_so peer surface e (Asks tries least) p q (Err fault)
      (by_first (Ends (Err fault)) (ap (after_first tries least) is))

  -- the epoch that is told is too low
  pub too_low : (epoch : ℕ) (u : SealedUpdate) → e.sealed a ≡ Ok (epoch, u) → epoch < least
      → Concludes peer surface e (Asks tries least) p q (Err (faults.BadReply 1))
  too_low epoch u is low =
      ends_so peer surface e (Asks tries least) p q (Err (faults.BadReply 1))
      (by_first (Ends (Err (faults.BadReply 1)))
      (ap (after_first tries least) is ∙ ap (λ (b : Bool). sends_if b tries epoch u) (lt_is_true epoch least low)))

  -- the update is sent next
  pub sends_next : (epoch : ℕ) (u : SealedUpdate) → e.sealed a ≡ Ok (epoch, u) → least ≤ epoch
      → Passes peer surface e (Asks tries least) p (Sends tries epoch u) q
  sends_next epoch u is high =
      by_first (Sends tries epoch u)
      (ap (after_first tries least) is ∙ ap (λ (b : Bool). sends_if b tries epoch u) (lt_is_false epoch least high))

-- ---- no fault of sealing is one of the link

known_never_links : (a : Answer) (seal : Known → ℕ × SealedUpdate)
    → sealed_by seal (known_of a) ≡ Err faults.Link → ⊥
known_never_links (answers.Known known) seal is = cc is
known_never_links (answers.Refused why) seal is = cc is
known_never_links answers.NoMemory seal is = cc is
known_never_links a seal is = cc is

plan_never_links : (a : Answer) (seal : Plan → ℕ × SealedUpdate)
    → sealed_by seal (plan_of a) ≡ Err faults.Link → ⊥
plan_never_links (answers.Plan plan) seal is = cc is
plan_never_links (answers.Refused why) seal is = cc is
plan_never_links answers.NoMemory seal is = cc is
plan_never_links a seal is = cc is

told_never_links : (base : List ℕ) (change : Change) (a : Answer)
    → (errand_of base change).sealed a ≡ Err faults.Link → ⊥
told_never_links base (changes.Enrol user) a is = known_never_links a _ is
told_never_links base (changes.Create file names bytes) a is = plan_never_links a _ is
told_never_links base (changes.Grant user file) a is = known_never_links a _ is
told_never_links base (changes.Revoke user file) a is = known_never_links a _ is
told_never_links base (changes.Remove file) a is = known_never_links a _ is
told_never_links base (changes.Replace file bytes) a is = plan_never_links a _ is

pub seal_never_links : (base : List ℕ) (change : Change) (a : Answer) (fault : OwnerFault)
    → (fault ≡ faults.Memory) ⊎ ((errand_of base change).sealed a ≡ Err fault) → fault ≡ faults.Link → ⊥
seal_never_links base change a fault (inl memory) is = cc (memory, is)
seal_never_links base change a fault (inr told) is = told_never_links base change a (told ∙ ap Err is)

-- ---- the tries

-- after fewer tries than there may be the owner asks again
asks_again : (tries : List ℕ) (least : ℕ) → length tries < MAX_TRIES → again tries least ≡ Asks tries least
asks_again tries least few =
    ap (λ (b : Bool). again_if b tries least) (ne_eqb (length tries) MAX_TRIES (λ same. absurd (omega arith)))

few_tries : (epochs : List ℕ) (i : ℕ) → length epochs ≡ MAX_TRIES → i < MAX_TRIES
    → length (take i epochs) < MAX_TRIES
few_tries epochs i all low = let n = length-take-le i epochs (omega arith) in omega arith

module _ {P : Type 0} (peer : PeerTells P) (surface : List ℕ) (e : Errand) (epochs : List ℕ)
    (all : length epochs ≡ MAX_TRIES) (i : ℕ) (low : i < MAX_TRIES) (least : ℕ) (p m : P)
    (so_far : Passes peer surface e start p (again (take i epochs) least) m) where
  asks_now : Passes peer surface e start p (Asks (take i epochs) least) m
  asks_now =
      subst (λ (s : Stage). Passes peer surface e start p s m)
      (asks_again (take i epochs) least (few_tries epochs i all low)) so_far

  -- the call ends at the first request
  pub ends_asking : (q : P) (result : Result ℕ OwnerFault)
      → Concludes peer surface e (Asks (take i epochs) least) m q result
      → Concludes peer surface e start p q result
  ends_asking q result ends = concludes_on peer surface e start (Asks (take i epochs) least) p m q result asks_now ends

  module _ (n : P) (epoch : ℕ) (u : SealedUpdate)
      (one : Passes peer surface e (Asks (take i epochs) least) m (Sends (take i epochs) epoch u) n) where
    sends_now : Passes peer surface e start p (Sends (take i epochs) epoch u) n
    sends_now =
        passes_on peer surface e start (Asks (take i epochs) least) (Sends (take i epochs) epoch u) p m n asks_now one

    -- the call ends at the update
    pub ends_sending : (q : P) (result : Result ℕ OwnerFault)
        → Concludes peer surface e (Sends (take i epochs) epoch u) n q result
        → Concludes peer surface e start p q result
    ends_sending q result ends =
        concludes_on peer surface e start (Sends (take i epochs) epoch u) p n q result sends_now ends

    -- the call goes on with another try
    pub goes_on : (q : P) (now : ℕ)
        → Passes peer surface e (Sends (take i epochs) epoch u) n (again (take i epochs ++ epoch ∷ []) now) q
        → Passes peer surface e start p (again (take (i + 1) (slice_set epochs i epoch)) now) q
    goes_on q now other =
        let more : take (i + 1) (slice_set epochs i epoch) ≡ take i epochs ++ epoch ∷ [] =
        take_more_set epochs i epoch (omega arith) in
        subst (λ (tries : List ℕ). Passes peer surface e start p (again tries now) q) (sym more)
        (passes_on peer surface e start (Sends (take i epochs) epoch u)
        (again (take i epochs ++ epoch ∷ []) now) p n q sends_now other)

-- after all tries the call is unsettled
pub unsettled : {P : Type 0} (peer : PeerTells P) (surface : List ℕ) (e : Errand) (epochs : List ℕ)
    (least i : ℕ) (p q : P) → length epochs ≡ MAX_TRIES → i ≡ MAX_TRIES
    → Passes peer surface e start p (again (take i epochs) least) q
    → Concludes peer surface e start p q (Err (faults.Unsettled epochs))
unsettled peer surface e epochs least i p q all is so_far =
    let whole : take i epochs ≡ epochs = take_all i epochs (omega arith) in
    let ended : again (take i epochs) least ≡ Ends (Err (faults.Unsettled epochs)) =
    ap (λ (tries : List ℕ). again tries least) whole
    ∙ ap (λ (n : ℕ). again_if (n == MAX_TRIES) epochs least) all in
    ends_so peer surface e start p q (Err (faults.Unsettled epochs))
    (subst (λ (s : Stage). Passes peer surface e start p s q) ended so_far)
