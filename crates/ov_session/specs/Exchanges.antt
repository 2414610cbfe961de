-- What a session asks for the frames that it reads, and what it sends for the replies.
use Rattle.std.specs.Prelude.{◌≡◌, ℕ, List, [], ◌∷◌, map, Option, Some, None}
use Rattle.ov_wire.specs.declared.answer.Answer.TheVariants.{NoMemory}
use Rattle.ov_wire.specs.AnswerBytes.{answer_bytes}
use Rattle.ov_session.specs.Tells.{AskerTells}

-- a request and its reply, or none where memory was refused, as frames without their length fields
pub record Exchange : Type 0 where
  pub request : List ℕ
  pub reply : Option (List ℕ)

-- the exchanges lead from one asker to another, one ask each
abbrev pub Leads : {A : Type 0} → AskerTells A → A → List Exchange → A → Type 0
Leads tells a [] b = a ≡ b
Leads {A} tells a (e ∷ more) b = (m : A) × tells.asks a e.request e.reply m × Leads tells m more b

-- the frame that is sent for a reply: itself, or that there was no memory
abbrev pub answer_for : Option (List ℕ) → List ℕ
answer_for (Some reply) = reply
answer_for None = answer_bytes NoMemory

-- the frames that were asked, in order
abbrev pub requests : List Exchange → List (List ℕ)
requests exchanges = map (λ e. e.request) exchanges

-- the frames that are sent for them, one each
abbrev pub answers : List Exchange → List (List ℕ)
answers exchanges = map (λ e. answer_for e.reply) exchanges
