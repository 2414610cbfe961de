-- Why a question has no answer, by what the peer replied.
use Rattle.std.specs.Prelude.{◌≡◌, ◌≢◌, ◌⊎◌, ℕ, zero, suc, List}
use Rattle.std.specs.Prelude.{Option, Some, None, Result, Ok, Err}
use Rattle.ov_base.specs.declared.limits.TheConstants.{MAX_FILES, MAX_USERS}
use Rattle.ov_base.specs.declared.refusal.Refusal.TheVariants.{NoFile}
use Rattle.ov_peer.specs.Exchanges.{Answered}
use Rattle.ov_peer.specs.Tells.{PeerTells}
use Rattle.ov_wire.specs.declared.answer.Answer.{Answer}
use Rattle.ov_wire.specs.declared.answer.Answer.TheVariants as answers
use Rattle.ov_wire.specs.declared.answer.Welcome.{Welcome}
use Rattle.ov_wire.specs.declared.request.Request.{Request}
use Rattle.ov_wire.specs.declared.request.Request.TheVariants as requests
use Rattle.ov_listing.specs.Questions.{IsNoPage, listed_in, welcome_in}
use Rattle.ov_listing.specs.declared.fault.ListingFault.{ListingFault}
use Rattle.ov_listing.specs.declared.fault.ListingFault.TheVariants.{BadReply, Unsettled}
use Rattle.ov_listing.specs.declared.shown.Shown.{Shown}

-- ---- wrong replies

-- the number behind the last that a store can have, of users or of files
abbrev pub IsTooHigh : ℕ → ℕ → Type 0
IsTooHigh part number =
    ((part ≡ 1) × (number ≡ MAX_USERS)) ⊎ ((part ≡ 5) × (number ≡ MAX_FILES))

-- the answer is a page with an entry
abbrev pub HasEntry : Answer → Type 0
HasEntry answer = (entry : List ℕ) × (answer ≡ answers.PageOf (Some entry))

-- The answer to this question is wrong at this place: at 0 where it is of another kind, at 1 where
-- a page has one entry more than a store can have, and at 2 where an entry shows neither a name nor
-- that a file is gone. That there is no such file is no wrong answer for a list: a file can be
-- removed after its page was shown.
abbrev pub IsWrongAnswer : Request → Answer → ℕ → Type 0
IsWrongAnswer requests.Hello answer place = welcome_in answer ≡ Err (BadReply place)
IsWrongAnswer (requests.List file) answer place = listed_in answer ≡ Err (BadReply place)
IsWrongAnswer (requests.Page part number) answer place =
    IsNoPage answer place ⊎ ((place ≡ 1) × IsTooHigh part number × HasEntry answer)
IsWrongAnswer request answer place = ⊥

-- the reply doesn't read as an answer to the question, from this place on; or the answer is wrong
abbrev pub IsWrongAt : Request → Result Answer ℕ → ℕ → Type 0
IsWrongAt request (Ok answer) place = IsWrongAnswer request answer place
IsWrongAt request (Err at) place = place ≡ at

-- the last reply of the peer is wrong at this place
pub record RepliesWrong {P : Type 0} (peer : PeerTells P) (q : P) (place : ℕ) : Type 0 where
  pub before : P
  pub request : Request
  pub read : Result Answer ℕ
  pub answered : Answered peer before q request read
  pub wrong : IsWrongAt request read place

-- a fault blames a reply only where the peer's last one is wrong there
abbrev pub BlamesReply : {P : Type 0} → PeerTells P → P → ListingFault → Type 0
BlamesReply peer q (BadReply place) = RepliesWrong peer q place
BlamesReply peer q fault = Unit {0}

-- ---- stores that change

-- the peer was asked for mode and epoch, and answered so
abbrev pub Greets : {P : Type 0} → PeerTells P → P → P → Welcome → Type 0
Greets peer p q welcome = Answered peer p q requests.Hello (Ok (answers.Welcome welcome))

-- the last answer of the peer has another epoch than this one
pub record MovesFrom {P : Type 0} (peer : PeerTells P) (epoch : ℕ) (q : P) : Type 0 where
  pub before : P
  pub last : Welcome
  pub greets : Greets peer before q last
  pub moved : last.epoch ≢ epoch

-- the last answer of the peer is that the file whose list was asked for isn't there
pub record RefusesList {P : Type 0} (peer : PeerTells P) (q : P) : Type 0 where
  pub before : P
  pub file : List ℕ
  pub refuses : Answered peer before q (requests.List file) (Ok (answers.Refused NoFile))

-- A try saw the store change: it asked for the epoch first, and its last answer has another one, or
-- refuses the list of a file.
pub record SeesChange {P : Type 0} (peer : PeerTells P) (p q : P) : Type 0 where
  pub first : Welcome
  pub behind : P
  pub begins : Greets peer p behind first
  pub ends : MovesFrom peer first.epoch q ⊎ RefusesList peer q

-- there were so many tries, one behind the other, and each saw the store change
abbrev pub SeesChanges : {P : Type 0} → PeerTells P → ℕ → P → P → Type 0
SeesChanges peer zero p q = q ≡ p
SeesChanges {P} peer (suc tries) p q =
    (m : P) × SeesChanges peer tries p m × SeesChange peer m q

-- a fault says that the store changed only where each of nine tries saw that
abbrev pub BlamesChanges : {P : Type 0} → PeerTells P → P → P → ListingFault → Type 0
BlamesChanges peer p q Unsettled = SeesChanges peer 9 p q
BlamesChanges peer p q fault = Unit {0}

-- inner: where nothing came of a question, a list was refused
abbrev pub IsNoneByRefusal : {T P : Type 0} → PeerTells P → P → Option T → Type 0
IsNoneByRefusal peer q (Some found) = Unit {0}
IsNoneByRefusal peer q None = RefusesList peer q

-- inner: a try of which nothing came saw the store change
abbrev pub IsNoneByChange : {T P : Type 0} → PeerTells P → P → P → Option T → Type 0
IsNoneByChange peer p q (Some found) = Unit {0}
IsNoneByChange peer p q None = SeesChange peer p q

-- inner: the page of this number has an entry
pub record HasPage {P : Type 0} (peer : PeerTells P) (part number : ℕ) (q : P) : Type 0 where
  pub before : P
  pub answer : Answer
  pub answered : Answered peer before q (requests.Page part number) (Ok answer)
  pub named : HasEntry answer

-- inner: where something was shown, its page has an entry
abbrev pub IsOnPage : {P : Type 0} → PeerTells P → ℕ → ℕ → P → Option Shown → Type 0
IsOnPage peer part number q (Some shown) = HasPage peer part number q
IsOnPage peer part number q None = Unit {0}

-- inner: of the pages that were asked for the last has an entry
abbrev pub HasLastPage : {P : Type 0} → PeerTells P → ℕ → ℕ → P → Type 0
HasLastPage peer part zero q = Unit {0}
HasLastPage peer part (suc number) q = HasPage peer part number q
