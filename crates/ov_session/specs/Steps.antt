-- Inner: no public contract needs this. What the parts of a session do.
use Rattle.std.specs.Prelude.{◌≡◌, ◌≢◌, ℕ, List, [], ◌∷◌, ◌++◌, length, min, take, false, Option, Result, Ok, Err}
use Rattle.std.specs.Io.KnownBytes.{Appends, Consumes}
use Rattle.ov_base.specs.Causes.{HasCause, Rose}
use Rattle.ov_io.specs.Putting.{Puts}
use Rattle.ov_wire.specs.Frames.{Decoding, IsCut, IsFrame, Takes, framed}
use Rattle.ov_wire.specs.declared.fault.FeedFault.{FeedFault}
use Rattle.ov_wire.specs.declared.fault.FeedFault.TheVariants as feeds
use Rattle.ov_session.specs.declared.end.SessionEnd.{SessionEnd}
use Rattle.ov_session.specs.declared.end.SessionEnd.TheVariants as ends
use Rattle.ov_session.specs.declared.one.Stop.{Stop}
use Rattle.ov_session.specs.declared.one.Stop.TheVariants as stops
use Rattle.ov_session.specs.Ends.{Answered, Serves}
use Rattle.ov_session.specs.Exchanges.{Exchange, Leads, answer_for, answers, requests}
use Rattle.ov_session.specs.Links.{IsLater, Link}
use Rattle.ov_session.specs.Tells.{AskerTells}

-- only the writing half of the stream was touched
pub record IsWriting (old new : Link) : Type 0 where
  pub left : new.left ≡ old.left
  pub reads : new.read_faults ≡ old.read_faults

-- a frame was put behind its length field, or a front of that
pub record PutsFrame {E : Type 0} (old new : Link) (frame : List ℕ)
    (result : Result (Unit {0}) E) : Type 0 where
  pub half : IsWriting old new
  pub written : Puts old.written new.written result (framed frame)
  pub cause : HasCause old.write_faults new.write_faults result

-- a frame was asked, and its answer written
pub record AnswersIt {A : Type 0} (tells : AskerTells A) (a b : A) (old new : Link) (frame : List ℕ)
    : Type 0 where
  pub reply : Option (List ℕ)
  pub asked : tells.asks a frame reply b
  pub fits : IsFrame (answer_for reply)
  pub written : Appends old.written new.written (framed (answer_for reply))

-- a frame was asked, and its answer wasn't written whole
pub record BreaksOff {A : Type 0} (tells : AskerTells A) (a b : A) (old new : Link) (frame : List ℕ)
    : Type 0 where
  pub reply : Option (List ℕ)
  pub asked : tells.asks a frame reply b
  pub front : ℕ
  pub written : Appends old.written new.written (take front (framed (answer_for reply)))
  pub rose : Rose old.write_faults new.write_faults

-- what becomes of one frame
abbrev pub AnswersFrame : {A : Type 0} → AskerTells A → A → A → Link → Link → List ℕ
    → Result (Unit {0}) Stop → Type 0
AnswersFrame tells a b old new frame (Ok done) = AnswersIt tells a b old new frame
AnswersFrame tells a b old new frame (Err stops.Link) = BreaksOff tells a b old new frame
AnswersFrame tells a b old new frame (Err stops.Spent) = (b ≡ a) × tells.spent a × (new ≡ old)

-- these frames were asked, and their answers written
pub record AnswersThem {A : Type 0} (tells : AskerTells A) (a b : A) (old new : Link)
    (frames : List (List ℕ)) : Type 0 where
  pub exchanges : List Exchange
  pub same : frames ≡ requests exchanges
  pub asked : Leads tells a exchanges b
  pub answered : Answered old new exchanges

-- the first of these frames were asked, and the answer to the last one asked wasn't written whole
pub record StopsWriting {A : Type 0} (tells : AskerTells A) (a b : A) (old new : Link)
    (frames : List (List ℕ)) : Type 0 where
  pub before : List Exchange
  pub last : Exchange
  pub unasked : List (List ℕ)
  pub same : frames ≡ requests (before ++ last ∷ []) ++ unasked
  pub asked : Leads tells a (before ++ last ∷ []) b
  pub bytes : List ℕ
  pub cut : IsCut bytes (answers before) []
  pub front : ℕ
  pub written : Appends old.written new.written
      (bytes ++ take front (framed (answer_for last.reply)))
  pub rose : Rose old.write_faults new.write_faults

-- the first of these frames were asked and answered, and then the asker was spent
pub record StopsSpent {A : Type 0} (tells : AskerTells A) (a b : A) (old new : Link)
    (frames : List (List ℕ)) : Type 0 where
  pub exchanges : List Exchange
  pub request : List ℕ
  pub unasked : List (List ℕ)
  pub same : frames ≡ requests exchanges ++ request ∷ unasked
  pub asked : Leads tells a exchanges b
  pub answered : Answered old new exchanges
  pub no_more : tells.spent b

-- what becomes of frames
abbrev pub AnswersFrames : {A : Type 0} → AskerTells A → A → A → Link → Link → List (List ℕ)
    → Result (Unit {0}) Stop → Type 0
AnswersFrames tells a b old new frames (Ok done) = AnswersThem tells a b old new frames
AnswersFrames tells a b old new frames (Err stops.Link) = StopsWriting tells a b old new frames
AnswersFrames tells a b old new frames (Err stops.Spent) =
    StopsSpent tells a b old new frames

-- a decoder at the start of a stream
abbrev pub fresh : Decoding
fresh = record { start = 0; rest = []; bad = false }

-- Up to here a session has answered all frames that it read, and its decoder has taken all bytes.
pub record Going {A : Type 0} (tells : AskerTells A) (a b : A) (old new : Link)
    (decoding : Decoding) (count : ℕ) : Type 0 where
  pub exchanges : List Exchange
  pub taken : List ℕ
  pub asked : Leads tells a exchanges b
  pub answered : Answered old new exchanges
  pub read : Consumes old.left new.left taken
  pub fed : Takes fresh decoding taken [] (requests exchanges)
  pub counted : count ≡ min (length taken) 18446744073709551615
  pub later : IsLater old new

-- the session goes on, or it ended
abbrev pub SessionGoesOn : {A : Type 0} → AskerTells A → A → A → Link → Link → Decoding → ℕ
    → Result (Unit {0}) SessionEnd → Type 0
SessionGoesOn tells a b old new decoding count (Ok done) = Going tells a b old new decoding count
SessionGoesOn tells a b old new decoding count (Err ending) = Serves tells a b old new ending

-- how a session ends where the input does, by what came of a frame and the number of bytes
abbrev pub IsEndOf : List ℕ → ℕ → SessionEnd → Type 0
IsEndOf rest count ends.End = rest ≡ []
IsEndOf rest count (ends.Bad place) = (rest ≢ []) × (place ≡ count)
IsEndOf rest count ends.LinkFault = ⊥
IsEndOf rest count ends.Spent = ⊥
IsEndOf rest count ends.Memory = ⊥

-- how a session ends that stops so
abbrev pub end_of : Stop → SessionEnd
end_of stops.Link = ends.LinkFault
end_of stops.Spent = ends.Spent

-- how a session goes on by what a decoder answered
abbrev pub go_on : Result (Unit {0}) FeedFault → Result (Unit {0}) SessionEnd
go_on (Ok done) = Ok tt
go_on (Err (feeds.BadFrame place)) = Err (ends.Bad place)
go_on (Err feeds.Memory) = Err ends.Memory
