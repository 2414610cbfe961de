-- The transcript of an update has one ask or two.
use Rattle.std.proofs.Common.{◌≡◌, Bool, true, false, List, [], ◌∷◌, refl, ap, subst, inl, inr}
use Rattle.std.specs.Prelude.{◌⊎◌}
use Rattle.ov_record.specs.Updates.{SealedUpdate}
use Rattle.ov_wire.specs.declared.request.Request.{Request}
use Rattle.ov_wire.specs.Requests.{request_bytes}
use Rattle.ov_protocol.specs.Serving.{Service, later, served}
use Rattle.ov_protocol.specs.Replies.{Replies}
use Rattle.ov_peer.specs.Asks.{Ask}
use Rattle.ov_transcript.specs.Transcripts.{Begins, left_unless, says_refused}
use Rattle.ov_transcript.proofs.Refusing.{left_none}

-- a question that was refused
pub record IsRefusedAsk (v : Service) (first : Request) (asks : List Ask) : Type 0 where
  pub one : Ask
  pub is : asks ≡ one ∷ []
  pub made : List SealedUpdate
  pub asked : one.request ≡ request_bytes first
  pub replies : Replies (served v) one.request one.reply made
  pub refused : says_refused one.reply ≡ true

-- a question that wasn't, and an update
pub record AreTwoAsks (v : Service) (first second : Request) (asks : List Ask) : Type 0 where
  pub one : Ask
  pub other : Ask
  pub is : asks ≡ one ∷ other ∷ []
  pub made : List SealedUpdate
  pub asked : one.request ≡ request_bytes first
  pub replies : Replies (served v) one.request one.reply made
  pub free : says_refused one.reply ≡ false
  pub more : List SealedUpdate
  pub asked_then : other.request ≡ request_bytes second
  pub replies_then : Replies (served (later v made)) other.request other.reply more

-- nothing is asked of no requests
nothing : (v : Service) (asks : List Ask) → Begins v [] asks [] → asks ≡ []
nothing v [] begins = refl
nothing v (a ∷ asks) begins = absurd begins

module _ (v : Service) (first second : Request) where
  by_second : (a : Ask) (made : List SealedUpdate) (rest : List Ask) → a.request
      ≡ request_bytes first
      → Replies (served v) a.request a.reply made → says_refused a.reply ≡ false
      → Begins (later v made) (second ∷ []) rest [] → AreTwoAsks v first second (a ∷ rest)
  by_second a made [] asked replies free begins = absurd (cc begins)
  by_second a made (b ∷ rest) asked replies free (more, asked_then, replies_then, begins) =
      let none : rest ≡ [] =
      nothing (later (later v made) more) rest
      (subst (λ (l : List Request). Begins (later (later v made) more) l rest [])
      (left_none (says_refused b.reply)) begins) in
      record {
        one = a;
        other = b;
        is = ap (λ (l : List Ask). a ∷ b ∷ l) none;
        made = made;
        asked = asked;
        replies = replies;
        free = free;
        more = more;
        asked_then = asked_then;
        replies_then = replies_then;
      }

  pub one_or_two : (asks : List Ask) → Begins v (first ∷ second ∷ []) asks []
      → IsRefusedAsk v first asks ⊎ AreTwoAsks v first second asks
  one_or_two [] begins = absurd (cc begins)
  one_or_two (a ∷ rest) (made, asked, replies, begins) = by_kind (says_refused a.reply) refl where
    by_kind : (b : Bool) → says_refused a.reply ≡ b
        → IsRefusedAsk v first (a ∷ rest) ⊎ AreTwoAsks v first second (a ∷ rest)
    by_kind true is =
        let none : rest ≡ [] =
        nothing (later v made) rest
        (subst (λ (b : Bool). Begins (later v made) (left_unless b (second ∷ [])) rest []) is
        begins) in
        inl (record {
          one = a;
          is = ap (λ (l : List Ask). a ∷ l) none;
          made = made;
          asked = asked;
          replies = replies;
          refused = is;
        })
    by_kind false is =
        inr (by_second a made rest asked replies is
        (subst (λ (b : Bool). Begins (later v made) (left_unless b (second ∷ [])) rest []) is
        begins))
