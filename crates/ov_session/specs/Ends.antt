-- What a session did, and how it ended.
use Rattle.std.specs.Prelude.{◌≡◌, ◌≢◌, ◌≤◌, ◌⊎◌, ℕ, List, [], ◌∷◌, ◌++◌, length, min, take}
use Rattle.std.specs.Io.KnownBytes.{Appends, Consumes, IsAtEnd}
use Rattle.ov_base.specs.Causes.{Rose}
use Rattle.ov_wire.specs.Frames.{IsBadLength, IsCut, IsUnfinished, framed, later}
use Rattle.ov_session.specs.declared.end.SessionEnd.{SessionEnd}
use Rattle.ov_session.specs.declared.end.SessionEnd.TheVariants as ends
use Rattle.ov_session.specs.Exchanges.{Exchange, Leads, answer_for, answers, requests}
use Rattle.ov_session.specs.Links.{Link}
use Rattle.ov_session.specs.Tells.{AskerTells}

-- The bytes that were taken are frames and what comes behind them. The frames were asked in order,
-- one exchange each, but for the last ones, which weren't asked.
pub record Asked {A : Type 0} (tells : AskerTells A) (a b : A) (old new : Link)
    (exchanges : List Exchange) (taken : List ℕ) (unasked : List (List ℕ)) (rest : List ℕ)
    : Type 0 where
  pub asked : Leads tells a exchanges b
  pub read : Consumes old.left new.left taken
  pub cut : IsCut taken (requests exchanges ++ unasked) rest

-- Exactly one answer was written for each exchange, in order, and no other bytes.
pub record Answered (old new : Link) (exchanges : List Exchange) : Type 0 where
  pub bytes : List ℕ
  pub cut : IsCut bytes (answers exchanges) []
  pub written : Appends old.written new.written bytes

-- all frames that were read were asked and answered
pub record AnswersAll {A : Type 0} (tells : AskerTells A) (a b : A) (old new : Link)
    (taken rest : List ℕ) : Type 0 where
  pub exchanges : List Exchange
  pub asked : Asked tells a b old new exchanges taken [] rest
  pub answered : Answered old new exchanges

-- the input ended between two frames
pub record EndsBetween {A : Type 0} (tells : AskerTells A) (a b : A) (old new : Link) : Type 0 where
  pub taken : List ℕ
  pub all : AnswersAll tells a b old new taken []
  pub at_end : IsAtEnd new.left

-- a length field outside its limits came, at this place of the input
pub record EndsAtLength {A : Type 0} (tells : AskerTells A) (a b : A) (old new : Link) (place : ℕ)
    : Type 0 where
  pub taken : List ℕ
  pub rest : List ℕ
  pub all : AnswersAll tells a b old new taken rest
  pub bad : IsBadLength rest
  pub stands : place ≡ later 0 (requests all.exchanges)

-- the input ended inside a frame, after this many bytes; a number past the last one of 64 bits
-- stays there
pub record EndsInside {A : Type 0} (tells : AskerTells A) (a b : A) (old new : Link) (place : ℕ)
    : Type 0 where
  pub taken : List ℕ
  pub rest : List ℕ
  pub all : AnswersAll tells a b old new taken rest
  pub inside : IsUnfinished rest
  pub some : rest ≢ []
  pub at_end : IsAtEnd new.left
  pub stands : place ≡ min (length taken) 18446744073709551615

-- the stream couldn't be read
pub record EndsReading {A : Type 0} (tells : AskerTells A) (a b : A) (old new : Link) : Type 0 where
  pub taken : List ℕ
  pub rest : List ℕ
  pub all : AnswersAll tells a b old new taken rest
  pub inside : IsUnfinished rest
  pub rose : Rose old.read_faults new.read_faults

-- the stream couldn't be written: the answers before the last exchange's were, and a front of that
-- one
pub record EndsWriting {A : Type 0} (tells : AskerTells A) (a b : A) (old new : Link) : Type 0 where
  pub before : List Exchange
  pub last : Exchange
  pub taken : List ℕ
  pub unasked : List (List ℕ)
  pub rest : List ℕ
  pub asked : Asked tells a b old new (before ++ last ∷ []) taken unasked rest
  pub bytes : List ℕ
  pub cut : IsCut bytes (answers before) []
  pub front : ℕ
  pub written : Appends old.written new.written
      (bytes ++ take front (framed (answer_for last.reply)))
  pub rose : Rose old.write_faults new.write_faults

-- No memory for reading on. What was taken and not asked is at most an unfinished frame and one
-- piece behind it.
pub record EndsWanting {A : Type 0} (tells : AskerTells A) (a b : A) (old new : Link) : Type 0 where
  pub taken : List ℕ
  pub part : List ℕ
  pub piece : List ℕ
  pub all : AnswersAll tells a b old new taken (part ++ piece)
  pub inside : IsUnfinished part
  pub most : length piece ≤ 8192

-- the asker has asked as often as it may, and wasn't asked this request
pub record EndsSpent {A : Type 0} (tells : AskerTells A) (a b : A) (old new : Link) : Type 0 where
  pub exchanges : List Exchange
  pub taken : List ℕ
  pub request : List ℕ
  pub unasked : List (List ℕ)
  pub rest : List ℕ
  pub asked : Asked tells a b old new exchanges taken (request ∷ unasked) rest
  pub answered : Answered old new exchanges
  pub no_more : tells.spent b

-- what a session did that ended so
abbrev pub Serves : {A : Type 0} → AskerTells A → A → A → Link → Link → SessionEnd → Type 0
Serves tells a b old new ends.End = EndsBetween tells a b old new
Serves tells a b old new (ends.Bad place) =
    EndsAtLength tells a b old new place ⊎ EndsInside tells a b old new place
Serves tells a b old new ends.LinkFault =
    EndsReading tells a b old new ⊎ EndsWriting tells a b old new
Serves tells a b old new ends.Spent = EndsSpent tells a b old new
Serves tells a b old new ends.Memory = EndsWanting tells a b old new
