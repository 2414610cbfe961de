-- What was put of an ask that failed, and how many bytes frames have.
use Rattle.std.proofs.Common.{◌≡◌, ◌∙◌, ℕ, ◌+◌, ◌≤◌, List, [], ◌∷◌, ◌++◌, length, length-append, take, Option, Some, None, sym, ap, arith}
use Rattle.std.specs.Prelude.{◌⊎◌, min}
use Rattle.std.proofs.lemmas.List.{length-take}
use Rattle.ov_record.specs.Updates.{SealedUpdate}
use Rattle.ov_script.specs.declared.command.Command.{Command}
use Rattle.ov_history.specs.Masters.{Masters}
use Rattle.ov_history.specs.Plain.{PlainHistory}
use Rattle.ov_wire.specs.Frames.{framed}
use Rattle.ov_protocol.specs.Serving.{Service, later}
use Rattle.ov_peer.specs.Asks.{Ask}
use Rattle.ov_peer.specs.Tells.{IsReplyAt}
use Rattle.ov_transcript.specs.Transcripts.{Transcribed, frames, frames_of}

-- what was put of the ask that failed, if one did, and what is served then
abbrev pub IsPutOn : Service → Option (List ℕ) → List ℕ → Service → Type 0
IsPutOn w None bytes last = (bytes ≡ []) × (w ≡ last)
IsPutOn w (Some request) bytes last =
    ((n : ℕ) × (bytes ≡ take n (framed request)) × (w ≡ last))
    ⊎ ((reply : List ℕ) × (made : List SealedUpdate) × (n : ℕ) × IsReplyAt w request reply made
    × (bytes ≡ framed request ++ take n (framed reply)) × (later w made ≡ last))

-- ---- lengths

framed_length : (frame : List ℕ) → length (framed frame) ≡ 4 + length frame
framed_length frame = omega arith

pub front_short : (n : ℕ) (frame : List ℕ) → length (take n (framed frame)) ≤ 4 + length frame
front_short n frame =
    let taken : length (take n (framed frame)) ≡ min n (length (framed frame)) =
    length-take n (framed frame) in
    let whole = framed_length frame in
    omega (arith, taken, whole)

-- how many bytes the frames of an ask add
pub ask_length : (a : Ask) (asks : List Ask)
    → length (frames (a ∷ asks)) ≡ 8 + length a.request + length a.reply + length (frames asks)
ask_length a asks =
    omega (
      arith,
      length-append (frames_of a) (frames asks),
      length-append (framed a.request) (framed a.reply),
    )

-- the frames of a request that failed, with those of its reply as far as they were put
pub failed_short : (request reply : List ℕ) (n : ℕ)
    → length (framed request ++ take n (framed reply)) ≤ 8 + length request + length reply
failed_short request reply n =
    let short = front_short n reply in
    let whole = framed_length request in
    let all = length-append (framed request) (take n (framed reply)) in
    omega (arith, short, whole, all)

-- ---- nothing is no transcript

pub transcripts_have_bytes : (k : Masters) (p : PlainHistory) (command : Command) (bytes : List ℕ)
    → bytes ≡ [] → Transcribed k p command bytes → ⊥
transcripts_have_bytes k p command bytes none ([], begins, is) = cc begins
transcripts_have_bytes k p command bytes none (a ∷ asks, begins, is) =
    let long = ask_length a asks in
    let same : length (frames (a ∷ asks)) ≡ 0 = ap length (sym is ∙ none) in
    omega (arith, long, same)
