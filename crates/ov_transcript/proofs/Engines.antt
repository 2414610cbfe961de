-- Talks whose asks are the requests of a list, one after the other.
use Rattle.std.proofs.Common.{◌≡◌, ℕ, ◌∙◌, List, [], ◌∷◌, ◌++◌, Option, refl, sym, subst, inl, inr}
use Rattle.std.proofs.Common.{append_assoc}
use Rattle.std.specs.Prelude.{◌⊎◌}
use Rattle.std.proofs.lemmas.List.{append-nil}
use Rattle.ov_record.specs.Updates.{SealedUpdate}
use Rattle.ov_wire.specs.declared.request.Request.{Request}
use Rattle.ov_wire.specs.declared.answer.Answer.TheVariants.{DeviceFault}
use Rattle.ov_wire.specs.AnswerBytes.{answer_bytes}
use Rattle.ov_wire.specs.Requests.{HasRequestForm, request_bytes}
use Rattle.ov_protocol.specs.Serving.{Service, later, served}
use Rattle.ov_protocol.specs.Replies.{Replies}
use Rattle.ov_peer.specs.Asks.{Ask}
use Rattle.ov_peer.specs.Tells.{IsReplyAt}
use Rattle.ov_peer.specs.Disks.{MayNeedDisk}
use Rattle.ov_owner.specs.Alone.{AnsweredAlone}
use Rattle.ov_transcript.specs.Talking.{ArePut}
use Rattle.ov_transcript.specs.Transcripts.{Begins, IsFrontFrom, frames, frames_of, left_unless}
use Rattle.ov_transcript.specs.Transcripts.{says_refused}
use Rattle.ov_transcript.proofs.Fronts.{front_broken, front_cons}

-- the asks lead from one stage to another
abbrev pub GoesBy : {S : Type 0} → (S → Ask → S → Type 0) → S → List Ask → S → Type 0
GoesBy moves stage [] last = stage ≡ last
GoesBy {S} moves stage (a ∷ asks) last = (next : S) × moves stage a next
    × GoesBy moves next asks last

-- What one ask of a talk is: it asks the next request. That was replied as it is at the history,
-- and the talk goes on with the requests that are left; or the disk failed, and the talk is cut
-- off.
pub record IsStepBy {S : Type 0} (due : S → Service → List Request → Type 0) (cut : S → Type 0)
    (next : S) (v : Service) (rs : List Request) (a : Ask) (made : List SealedUpdate) : Type 0 where
  pub request : Request
  pub more : List Request
  pub is_next : rs ≡ request ∷ more
  pub asked : a.request ≡ request_bytes request
  pub goes_on : (Replies (served v) a.request a.reply made
      × due next (later v made) (left_unless (says_refused a.reply) more))
      ⊎ (MayNeedDisk request × (a.reply ≡ answer_bytes DeviceFault) × cut next)

-- what is due at a stage is the next request
pub record IsNext (rs : List Request) (frame : List ℕ) : Type 0 where
  pub request : Request
  pub more : List Request
  pub is_next : rs ≡ request ∷ more
  pub form : HasRequestForm request
  pub asked : frame ≡ request_bytes request

module _ {S : Type 0} (moves : S → Ask → S → Type 0)
    (due : S → Service → List Request → Type 0) (cut : S → Type 0)
    (steps : (stage next : S) (v : Service) (rs : List Request) (a : Ask) (made : List SealedUpdate)
    → due stage v rs → moves stage a next → IsReplyAt v a.request a.reply made
    → IsStepBy due cut next v rs a made)
    (nothing_more : (stage next : S) (a : Ask) → cut stage → moves stage a next → ⊥) where
  -- a talk that was cut off has no more asks
  cut_ends : (stage final : S) (asks : List Ask) → cut stage → GoesBy moves stage asks final
      → (asks ≡ []) × cut final
  cut_ends stage final [] is same = (refl, subst cut same is)
  cut_ends stage final (a ∷ asks) is (next, m, goes) = absurd (nothing_more stage next a is m)

  -- where nothing is left to ask at the end, all requests were asked
  module _ (final : S) (m : Service)
      (done : (v : Service) (rs : List Request) → due final v rs → rs ≡ [])
      (not_cut : cut final → ⊥) where
    pub whole : (stage : S) (v : Service) (rs : List Request) (asks : List Ask) → due stage v rs
        → GoesBy moves stage asks final → AnsweredAlone v asks m → Begins v rs asks []
    whole stage v rs [] is same alone = done v rs (subst (λ (s : S). due s v rs) same is)
    whole stage v rs (a ∷ asks) is (next, moved, goes) (made, replied, alone) =
        let step = steps stage next v rs a made is moved replied in
        subst (λ (l : List Request). Begins v l (a ∷ asks) []) (sym step.is_next)
        (by_case step.request step.more step.asked step.goes_on
        (λ left then. whole next (later v made) left asks then goes alone)) where
          by_case : (r : Request) (more : List Request) → a.request ≡ request_bytes r
              → (Replies (served v) a.request a.reply made
              × due next (later v made) (left_unless (says_refused a.reply) more))
              ⊎ (MayNeedDisk r × (a.reply ≡ answer_bytes DeviceFault) × cut next)
              → ((left : List Request) → due next (later v made) left
              → Begins (later v made) left asks [])
              → Begins v (r ∷ more) (a ∷ asks) []
          by_case r more asked (inl (replies, then)) rest =
              (made, asked, replies, rest (left_unless (says_refused a.reply) more) then)
          by_case r more asked (inr (needs, failed, ends)) rest =
              absurd (not_cut (cut_ends next final asks ends goes).1)

  -- what was put is a front in any case
  module _ (final : S) (m : Service) (unanswered : Option (List ℕ)) (put : List ℕ)
      (are : ArePut m unanswered put)
      (last : (v : Service) (rs : List Request) → v ≡ m → due final v rs → IsFrontFrom v rs put)
      (after_cut : cut final → put ≡ []) where
    pub fronts : (stage : S) (v : Service) (rs : List Request) (asks : List Ask) → due stage v rs
        → GoesBy moves stage asks final → AnsweredAlone v asks m
        → IsFrontFrom v rs (frames asks ++ put)
    fronts stage v rs [] is same alone = last v rs alone (subst (λ (s : S). due s v rs) same is)
    fronts stage v rs (a ∷ asks) is (next, moved, goes) (made, replied, alone) =
        let step = steps stage next v rs a made is moved replied in
        subst (λ (l : List Request). IsFrontFrom v l (frames (a ∷ asks) ++ put)) (sym step.is_next)
        (by_case step.request step.more step.asked step.goes_on
        (λ left then. fronts next (later v made) left asks then goes alone)) where
          by_case : (r : Request) (more : List Request) → a.request ≡ request_bytes r
              → (Replies (served v) a.request a.reply made
              × due next (later v made) (left_unless (says_refused a.reply) more))
              ⊎ (MayNeedDisk r × (a.reply ≡ answer_bytes DeviceFault) × cut next)
              → ((left : List Request) → due next (later v made) left
              → IsFrontFrom (later v made) left (frames asks ++ put))
              → IsFrontFrom v (r ∷ more) (frames (a ∷ asks) ++ put)
          by_case r more asked (inl (replies, then)) rest =
              subst (IsFrontFrom v (r ∷ more)) (sym (append_assoc (frames_of a) (frames asks) put))
              (front_cons v r more a made (frames asks ++ put) asked replies
              (rest (left_unless (says_refused a.reply) more) then))
          by_case r more asked (inr (needs, failed, ends)) rest =
              let (none, ended) = cut_ends next final asks ends goes in
              let all : frames (a ∷ asks) ++ put ≡ frames (a ∷ []) =
              (λ i. frames (a ∷ none i) ++ (after_cut ended) i) ∙ append-nil (frames (a ∷ [])) in
              subst (IsFrontFrom v (r ∷ more)) (sym all)
              (front_broken v r more a needs asked failed)
