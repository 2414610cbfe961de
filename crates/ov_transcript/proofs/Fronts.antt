-- Fronts of what is sent.
use Rattle.std.proofs.Common.{◌≡◌, ℕ, ◌+◌, ◌≤◌, ◌∙◌, List, [], ◌∷◌, ◌++◌, length, take, refl, sym}
use Rattle.std.proofs.Common.{ap, subst, inl, inr, arith}
use Rattle.std.proofs.Common.{append_assoc}
use Rattle.std.specs.Prelude.{min}
use Rattle.std.proofs.Math.Seq.{take-append-add}
use Rattle.std.proofs.lemmas.List.{append-nil, take-append-le, take_all, take_min}
use Rattle.ov_record.specs.Updates.{SealedUpdate}
use Rattle.ov_wire.specs.declared.request.Request.{Request}
use Rattle.ov_wire.specs.declared.request.Request.TheVariants as requests
use Rattle.ov_wire.specs.declared.answer.Answer.TheVariants.{DeviceFault}
use Rattle.ov_wire.specs.AnswerBytes.{answer_bytes}
use Rattle.ov_wire.specs.Frames.{framed}
use Rattle.ov_wire.specs.Requests.{HasRequestForm, request_bytes}
use Rattle.ov_protocol.specs.Serving.{Service, later, served}
use Rattle.ov_protocol.specs.Replies.{Replies}
use Rattle.ov_peer.specs.Asks.{Ask}
use Rattle.ov_peer.specs.Disks.{MayNeedDisk}
use Rattle.ov_peer.proofs.Needing.{needs_disk}
use Rattle.ov_transcript.specs.Talking.{IsPut}
use Rattle.ov_transcript.specs.Transcripts.{IsFrontFrom, broken_off, failed_reply, frames}
use Rattle.ov_transcript.specs.Transcripts.{frames_of, left_unless, says_refused}

-- a front of bytes, from some of what follows other bytes on
front_within : (n : ℕ) (xs ys : List ℕ) → (m : ℕ) × (take n xs ≡ take m (xs ++ ys))
front_within n xs ys =
    let short : min n (length xs) ≤ length xs = omega arith in
    (min n (length xs), sym (take-append-le (min n (length xs)) xs ys short ∙ take_min n xs))

-- nothing is a front
pub front_nothing : (v : Service) (rs : List Request) → IsFrontFrom v rs []
front_nothing v rs = ([], rs, 0, refl, refl)

-- an ask before a front
pub front_cons : (v : Service) (r : Request) (rs : List Request) (a : Ask)
    (made : List SealedUpdate)
    (bytes : List ℕ)
    → a.request ≡ request_bytes r → Replies (served v) a.request a.reply made
    → IsFrontFrom (later v made) (left_unless (says_refused a.reply) rs) bytes
    → IsFrontFrom v (r ∷ rs) (frames_of a ++ bytes)
front_cons v r rs a made bytes asked replied (asks, left, n, begins, is) = (
  a ∷ asks,
  left,
  length (frames_of a) + n,
  (made, asked, replied, begins),
  ap (λ (l : List ℕ). frames_of a ++ l) is
      ∙ sym (take-append-add (frames_of a) (frames asks ++ broken_off left) n)
      ∙ ap (take (length (frames_of a) + n))
      (sym (append_assoc (frames_of a) (frames asks) (broken_off left))),
)

-- the next request, with a front of the reply that the disk failed
front_failed : (v : Service) (r : Request) (rs : List Request) (n : ℕ)
    → IsFrontFrom v (r ∷ rs) (take n (broken_off (r ∷ rs)))
front_failed v r rs n = ([], r ∷ rs, n, refl, refl)

-- a request that needs the disk
fails_so : (r : Request) → MayNeedDisk r → failed_reply r ≡ framed (answer_bytes DeviceFault)
fails_so (requests.Update epoch spelling tag) needs = refl
fails_so (requests.Chunk file generation start count) needs = refl
fails_so r needs = absurd needs

-- what was put of a request that failed
pub front_put : (v : Service) (r : Request) (rs : List Request) (bytes : List ℕ)
    → HasRequestForm r → IsPut v (request_bytes r) bytes → IsFrontFrom v (r ∷ rs) bytes
front_put v r rs bytes form (inl (n, is)) =
    let (m, within) = front_within n (framed (request_bytes r)) (failed_reply r) in
    subst (IsFrontFrom v (r ∷ rs)) (sym (is ∙ within)) (front_failed v r rs m)
front_put v r rs bytes form (inr (reply, made, n, inr failed, is)) =
    let request = framed (request_bytes r) in
    let same : reply ≡ answer_bytes DeviceFault = failed.spelled in
    let fails : framed reply ≡ failed_reply r =
    ap framed same ∙ sym (fails_so r (needs_disk (served v) r form failed.needs)) in
    subst (IsFrontFrom v (r ∷ rs))
    (sym (is ∙ ap (λ (l : List ℕ). request ++ take n l) fails
    ∙ sym (take-append-add request (failed_reply r) n)))
    (front_failed v r rs (length request + n))
front_put v r rs bytes form (inr (reply, made, n, inl replied, is)) =
    let request = framed (request_bytes r) in
    let left = left_unless (says_refused reply) rs in
    let (m, within) = front_within n (framed reply) (broken_off left) in (
      record { request = request_bytes r; reply = reply } ∷ [],
      left,
      length request + m,
      (made, refl, replied, refl),
      is ∙ ap (λ (l : List ℕ). request ++ l) within
          ∙ sym (take-append-add request (framed reply ++ broken_off left) m)
          ∙ ap (take (length request + m))
          (sym (append_assoc request (framed reply) (broken_off left))
          ∙ ap (λ (l : List ℕ). l ++ broken_off left) (sym (append-nil (request ++ framed reply)))),
    )

-- an ask that was replied so is a front by itself
pub front_one : (v : Service) (r : Request) (rs : List Request) (a : Ask) (made : List SealedUpdate)
    → a.request ≡ request_bytes r → Replies (served v) a.request a.reply made
    → IsFrontFrom v (r ∷ rs) (frames (a ∷ []))
front_one v r rs a made asked replied =
    front_cons v r rs a made [] asked replied
    (front_nothing (later v made) (left_unless (says_refused a.reply) rs))

-- an ask at which the disk failed
pub front_broken : (v : Service) (r : Request) (rs : List Request) (a : Ask) → MayNeedDisk r
    → a.request ≡ request_bytes r → a.reply ≡ answer_bytes DeviceFault
    → IsFrontFrom v (r ∷ rs) (frames (a ∷ []))
front_broken v r rs a needs asked replied =
    let request = framed (request_bytes r) in
    let all : framed a.request ++ framed a.reply ≡ request ++ failed_reply r =
    λ i. framed (asked i) ++ (ap framed replied ∙ sym (fails_so r needs)) i in
    subst (IsFrontFrom v (r ∷ rs))
    (take_all (length (request ++ failed_reply r)) (request ++ failed_reply r) (omega arith)
    ∙ sym all ∙ sym (append-nil (frames_of a)))
    (front_failed v r rs (length (request ++ failed_reply r)))
