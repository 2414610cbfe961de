-- A peer that gives the replies that it was made with.
use Rattle.std.specs.Prelude.{◌≡◌, ◌⊎◌, ℕ, ◌+◌, ◌-◌, ◌^◌, List, Contains, slice_get, min, Some}
use Rattle.std.specs.Prelude.{Bool, true, false, Result, Ok, Err}
use Rattle.ov_wire.specs.Frames.{IsFrame}
use Rattle.ov_peer.specs.declared.fault.PeerFault.{PeerFault}
use Rattle.ov_peer.specs.declared.fault.PeerFault.TheVariants.{Link, Memory}

-- the replies, the numbers of the asks that fail, how many asks there were, and how many failed
pub record Playing : Type 0 where
  pub replies : List (List ℕ)
  pub fails : List ℕ
  pub asks : ℕ
  pub faults : ℕ

-- a count after one more, which stays at its last value
abbrev pub one_more : ℕ → ℕ
one_more count = min (count + 1) (2 ^ 64 - 1)

-- the next ask isn't one of those that fail, and this is the reply to it, which is a frame
pub record HasReply (p : Playing) (reply : List ℕ) : Type 0 where
  pub stands : Contains p.fails p.asks → ⊥
  pub is_next : slice_get p.replies p.asks ≡ Some reply
  pub frame : IsFrame reply

-- whether the next ask has a reply, with the reply where it has; memory may be refused
abbrev pub PutsNext : Playing → List ℕ → Result Bool PeerFault → Type 0
PutsNext p reply (Ok true) = HasReply p reply
PutsNext p reply (Ok false) = (other : List ℕ) → HasReply p other → ⊥
PutsNext p reply (Err Link) = ⊥
PutsNext p reply (Err Memory) = Unit {0}

-- the ask got its reply
abbrev pub GivesReply : Playing → List ℕ → Playing → Type 0
GivesReply p reply q = HasReply p reply × (q ≡ record p { asks = one_more p.asks })

-- the ask failed, since it has no reply
abbrev pub GivesNone : Playing → Playing → Type 0
GivesNone p q =
    ((reply : List ℕ) → HasReply p reply → ⊥)
    × (q ≡ record p { asks = one_more p.asks; faults = one_more p.faults })

-- an ask that failed: it has no reply, or memory was refused, and then it wasn't asked
abbrev pub FailsAsk : Playing → Playing → Type 0
FailsAsk p q = GivesNone p q ⊎ (q ≡ p)

-- what is answered to an ask, exactly
abbrev pub Plays : Playing → Playing → List ℕ → Result (Unit {0}) PeerFault → Type 0
Plays p q reply (Ok done) = GivesReply p reply q
Plays p q reply (Err Link) = GivesNone p q
Plays p q reply (Err Memory) = q ≡ p
