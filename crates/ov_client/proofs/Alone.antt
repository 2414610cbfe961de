-- A read of a server that nobody else updates.
use Rattle.std.proofs.Common.{◌≡◌, ◌∙◌, ℕ, List, [], ◌∷◌, length, Bool, true, false}
use Rattle.std.proofs.Common.{Option, Some, None, Result, Ok, Err, refl, sym, ap, subst, inl, inr}
use Rattle.std.proofs.Common.{◌≤◌, arith}
use Rattle.ov_base.specs.Causes.{Rose}
use Rattle.ov_base.specs.declared.limits.TheConstants.{MAX_CHUNK_BYTES}
use Rattle.ov_record.specs.Updates.{SealedUpdate}
use Rattle.ov_history.specs.FadingLaws.{IsRight}
use Rattle.ov_history.specs.Masters.{Masters}
use Rattle.ov_history.specs.Plain.{PlainHistory}
use Rattle.ov_history.specs.Sealed.{SealedHistory}
use Rattle.ov_wire.specs.Requests.{HasRequestForm, request_bytes}
use Rattle.ov_wire.specs.declared.request.Request.{Request}
use Rattle.ov_wire.specs.declared.request.Request.TheVariants as requests
use Rattle.ov_protocol.specs.Replies.{MayMake, updates_asked}
use Rattle.ov_protocol.specs.Serving.{Service, later}
use Rattle.ov_protocol.proofs.Leaving.{later-nil}
use Rattle.ov_protocol.proofs.Reading.{request_back}
use Rattle.ov_peer.specs.Alone.{IsAlone}
use Rattle.ov_peer.specs.Asks.{Along, AreRight, Ask, Leads}
use Rattle.ov_peer.specs.Leaving.{reply_makes}
use Rattle.ov_peer.specs.Tells.{IsReplyAt, PeerTells}
use Rattle.ov_client.specs.Causes.{IsClientCause}
use Rattle.ov_client.specs.Completeness.{FailsDisk, IsCompleteRead, IsReadOrCut, IsStoreUnder}
use Rattle.ov_client.specs.Laws.{AllAre, HasRoots, HoldsRootKeys, IsAnsweredOrCut, IsAsMachine}
use Rattle.ov_client.specs.Laws.{IsReadAt, MachineAnswers, is_chain, last_chain, now_if}
use Rattle.ov_client.specs.Readers.{Reader}
use Rattle.ov_client.specs.Reads.{Reads}
use Rattle.ov_client.specs.Talks.{AsksChain, AsksChunk, Ends, Goes, Stage, asked_at}
use Rattle.ov_client.specs.declared.fault.ClientFault.{ClientFault}
use Rattle.ov_client.specs.declared.fault.ClientFault.TheVariants as client
use Rattle.ov_client.proofs.Agreeing.{reads_alike}
use Rattle.ov_client.proofs.FailingDisks.{read_fails}
use Rattle.ov_client.proofs.Machine.{reads_are_the_machines}
use Rattle.ov_client.proofs.Settled.{reads_are_answered}
use Rattle.ov_client.proofs.Told.{left_so}

-- ---- what asks make

-- a request that is sent makes nothing, where it asks for no update
sent_makes : (request : Request) (made : List SealedUpdate) → HasRequestForm request
    → updates_asked (Ok request) ≡ [] → MayMake (request_bytes request) made → made ≡ []
sent_makes request made form none (inl is) = is
sent_makes request made form none (inr is) =
    is ∙ ap updates_asked (request_back request form) ∙ none

-- where nothing is made, what is served stays the same
pub same_left : (v : Service) (made : List SealedUpdate) → made ≡ [] → later v made ≡ v
same_left v made none = ap (later v) none ∙ later-nil v

-- a read asks for no update
read_asks : (r : Reader) (file : List ℕ) (stage : Stage) (request : Request)
    → asked_at r file stage ≡ Some request → updates_asked (Ok request) ≡ []
read_asks r file (AsksChain tries least) request is =
    let same : requests.Chain r.name file ≡ request = cc is in
    subst (λ (x : Request). updates_asked (Ok x) ≡ []) same refl
read_asks r file (AsksChunk tries c stored) request is =
    let same : requests.Chunk c.file c.generation (length stored) MAX_CHUNK_BYTES ≡ request =
    cc is in
    subst (λ (x : Request). updates_asked (Ok x) ≡ []) same refl
read_asks r file (Ends result) request is = absurd (cc is)

-- ---- the asks of a read

-- each was answered at what is served
abbrev AllAt : Service → List Ask → Type 0
AllAt v asks =
    (histories : List SealedHistory) × Along v asks histories v × AllAre v.history histories

read_alone : {P : Type 0} (peer : PeerTells P) → IsAlone peer
    → (r : Reader) (file : List ℕ) (asks : List Ask) (stage last : Stage) (p q : P) (v : Service)
    → Goes r file stage asks last → Leads peer p asks q → peer.serves p v
    → AllAt v asks × peer.serves q v
read_alone peer alone r file [] stage last p q v goes leads is =
    (([], refl, tt), subst (λ x. peer.serves x v) leads is)
read_alone peer alone r file (a ∷ asks) stage last p q v (next, moves, goes) (n, one, rest) is =
    let (made, at_v, goes_on) = alone p n a.request a.reply v one is in
    let may : MayMake (request_bytes moves.asks.request) made =
    subst (λ (f : List ℕ). MayMake f made) moves.asks.spelled
    (reply_makes v a.request a.reply made at_v) in
    let none : made ≡ [] = sent_makes moves.asks.request made moves.asks.form
    (read_asks r file stage moves.asks.request moves.asks.is_asked) may in
    let still : peer.serves n v = subst (peer.serves n) (same_left v made none) goes_on in
    let ((histories, along, same), end) = read_alone peer alone r file asks next last n q v goes
    rest still in
    let nothing : later v [] ≡ v = later-nil v in
    let left : later (later v []) made ≡ v =
    same_left (later v []) made none ∙ nothing in (
      (
        (later v []).history ∷ histories,
        (
          [],
          made,
          refl,
          subst (λ (w : Service). IsReplyAt w a.request a.reply made) (sym nothing) at_v,
          subst (λ (w : Service). Along w asks histories v) (sym left) along,
        ),
        (ap (λ (w : Service). w.history) nothing, same),
      ),
      end,
    )

-- ---- the history of the last Chain

now_is : (b : Bool) (g h : SealedHistory) (before : Option SealedHistory) (at_one : SealedHistory)
    → g ≡ h → (before ≡ Some at_one → at_one ≡ h) → now_if b g before ≡ Some at_one → at_one ≡ h
now_is true g h before at_one same first is =
    let one : g ≡ at_one = cc is in sym one ∙ same
now_is false g h before at_one same first is = first is

-- where all histories are this one, the last Chain was answered at it
chain_is : (h : SealedHistory) (asks : List Ask) (histories : List SealedHistory)
    (before : Option SealedHistory) (at_one : SealedHistory)
    → AllAre h histories → (before ≡ Some at_one → at_one ≡ h)
    → last_chain before asks histories ≡ Some at_one → at_one ≡ h
chain_is h [] histories before at_one same first is = first is
chain_is h (a ∷ asks) [] before at_one same first is = first is
chain_is h (a ∷ asks) (g ∷ histories) before at_one (one, same) first is =
    chain_is h asks histories (now_if (is_chain a.request) g before) at_one same
    (now_is (is_chain a.request) g h before at_one one first) is

-- each history is right that is this one, which is
pub all_right : (k : Masters) (p : PlainHistory) (g : SealedHistory)
    (histories : List SealedHistory)
    → IsRight k p g → AllAre g histories → AreRight k histories
all_right k p g [] right same = tt
all_right k p g (other ∷ histories) right (one, same) =
    let (legal, is) = subst (λ (h : SealedHistory). IsRight k p h) (sym one) right in
    ((p, legal, is), all_right k p g histories right same)

-- ---- counts of faults

-- a fault of the link comes where the count rose, also from an earlier one on
pub rose_since : (T : Type 0) (before mid now : ℕ) (fault : ClientFault) → before ≤ mid
    → IsClientCause {T = T} mid now (Err fault) → fault ≡ client.Link → Rose before now
rose_since T before mid now client.Link later cause link = omega (arith, later, cause)
rose_since T before mid now fault later cause link = absurd (cc link)

-- ---- a read

module _ {P : Type 0} (peer : PeerTells P) (p q : P) (r : Reader) (file : List ℕ) where
  abbrev Disk : Type 0
  Disk = FailsDisk peer p q

  -- what the machine answers at the history of the last Chain it answers at this one
  machine_there : (k : Masters) (h : PlainHistory) (g : SealedHistory) (asks : List Ask)
      (histories : List SealedHistory) (result : Result (List ℕ) ClientFault)
      → IsRight k h g → AllAre g histories
      → MachineAnswers k (last_chain None asks histories) r.name file result
      → IsReadAt h r.name file result
  machine_there k h g asks histories result right same (other, there, at_one, too, reads) =
      let is : there ≡ g =
      chain_is g asks histories None there same (λ none. absurd (cc none)) at_one in
      reads_alike k other h g r.name file result
      (subst (λ (x : SealedHistory). IsRight k other x) is too) right reads

  module _ (Stays Linked : Type 0) where
    by_result : (k : Masters) (h : PlainHistory) (g : SealedHistory) (asks : List Ask)
        (histories : List SealedHistory) (result : Result (List ℕ) ClientFault)
        → IsRight k h g → AllAre g histories
        → IsAsMachine k (last_chain None asks histories) r.name file result
        → IsAnsweredOrCut result → (result ≡ Err client.Device → Disk)
        → (result ≡ Err client.Link → Linked)
        → ((result ≡ Err client.Link → ⊥) → (result ≡ Err client.Memory → ⊥) → Stays)
        → IsReadOrCut h r.name file Stays Disk Linked result
    by_result k h g asks histories (Ok bytes) right same machine cut failed linked stays = (
      machine_there k h g asks histories (Ok bytes) right same machine,
      stays (λ e. cc e) (λ e. cc e),
    )
    by_result k h g asks histories (Err (client.Refused why)) right same machine cut failed linked
        stays = (
          machine_there k h g asks histories (Err (client.Refused why)) right same machine,
          stays (λ e. cc e) (λ e. cc e),
        )
    by_result k h g asks histories (Err client.Link) right same machine cut failed linked stays =
        linked refl
    by_result k h g asks histories (Err (client.BadReply place)) right same machine cut failed
        linked stays =
        absurd cut
    by_result k h g asks histories (Err (client.Damaged stored computed)) right same machine cut
        failed linked stays =
        absurd cut
    by_result k h g asks histories (Err client.Device) right same machine cut failed linked
        stays =
        failed refl
    by_result k h g asks histories (Err (client.Unsettled generations)) right same machine cut
        failed linked stays =
        absurd cut
    by_result k h g asks histories (Err client.Memory) right same machine cut failed linked
        stays =
        tt

  -- a read is the machine's, or cut off
  pub read_said : (Linked : Type 0) (k : Masters) (h : PlainHistory) (v : Service)
      (result : Result (List ℕ) ClientFault) → IsAlone peer → peer.serves p v
      → IsStoreUnder k h v → HoldsRootKeys k r → HasRoots h r → Reads peer p q r file result
      → (result ≡ Err client.Link → Linked)
      → IsReadOrCut h r.name file (peer.serves q v) Disk Linked result
  read_said Linked k h v result alone serving store holds roots
      (asks, unanswered, (m, leads, ends), (last, goes, closes)) linked =
      let ((histories, along, same), still) = read_alone peer alone r file asks
      (AsksChain [] 0) last p m v goes leads serving in
      let right : IsRight k h v.history = (store.legal, store.history) in
      by_result (peer.serves q v) Linked k h v.history asks histories result right same
      (reads_are_the_machines k r file asks unanswered result v v histories holds store.surface
      (last, goes, closes) along (all_right k h v.history histories right same))
      (reads_are_answered k r file asks unanswered result v v histories h v.history holds roots
      store.surface (last, goes, closes) along right same)
      (λ device.
      read_fails peer alone r file p q v
      (subst (λ (x : Result (List ℕ) ClientFault). Reads peer p q r file x) device
      (asks, unanswered, (m, leads, ends), (last, goes, closes))) serving)
      linked
      (λ unlinked given.
      subst (λ x. peer.serves x v)
      (left_so peer p q r file m last unanswered result unlinked given closes ends) still)

  -- every read is complete
  pub read_complete : (result : Result (List ℕ) ClientFault) → Reads peer p q r file result
      → (result ≡ Err client.Link → Rose (peer.faults p) (peer.faults q))
      → IsCompleteRead peer p q r file result
  read_complete result reads linked =
      λ k h v alone serving store holds roots.
      read_said (Rose (peer.faults p) (peer.faults q)) k h v result alone serving store holds roots
      reads linked
