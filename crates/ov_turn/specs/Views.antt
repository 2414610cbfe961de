-- What a seat at the table knows, and what becomes of it by each step.
use Rattle.std.specs.Prelude.{ℕ, ◌+◌, ◌-◌, ◌||◌, Bool, false, List, [], ◌∷◌, ◌++◌, Some, None}
use Rattle.ov_peer.specs.Tells.{AnswererTells}
use Rattle.ov_turn.specs.declared.view.Entry.{Entry}
use Rattle.ov_turn.specs.declared.view.Stage.{Stage}
use Rattle.ov_turn.specs.declared.view.Stage.TheVariants.{Idle, Waiting, Serving, Raised}
use Rattle.ov_turn.specs.declared.view.View.{View}
use Rattle.ov_turn.specs.Logs.{entry}

module _ {A : Type 0} where
  -- a seat that stands for so many passes, from this number on, which haven't asked
  abbrev pub opened : AnswererTells A → A → ℕ → ℕ → View A
  opened tells start number parts = record {
    start = Some start;
    parts = parts;
    knowledge = record { number = number; seen = []; told = tells.epoch_of start; failed = false };
    calls = 0;
    past = 0;
    stage = Idle;
    base = [];
    stuck = false;
    taken_in = [];
  }

  -- a seat that drew this ticket
  abbrev pub drawn : View A → ℕ → View A
  drawn v ticket = record v { calls = v.calls + 1; stage = Waiting ticket }

  -- a seat that took the value as these updates had left it, with the disk failed in one where the
  -- test says so
  abbrev pub serving : View A → ℕ → List Entry → Bool → View A
  serving v ticket log stuck = record v { stage = Serving ticket; base = log; stuck = stuck }

  -- a seat whose call accepted an update
  abbrev pub raised : View A → ℕ → List ℕ → View A
  raised v ticket spelling = record v {
    stage = Raised ticket;
    knowledge = record v.knowledge {
      seen = v.base ++ entry v.knowledge.number v.calls spelling ∷ [];
    };
  }

  -- the updates that the value in hand has accepted
  abbrev pub log_in_hand : Stage → View A → List Entry
  log_in_hand Idle v = v.knowledge.seen
  log_in_hand (Waiting ticket) v = v.knowledge.seen
  log_in_hand (Serving ticket) v = v.base
  log_in_hand (Raised ticket) v = v.knowledge.seen

  -- a seat that passed its turn on, and in whose update the disk failed where the test says so
  abbrev pub rested : View A → Bool → View A
  rested v failed = record v {
    stage = Idle;
    stuck = false;
    knowledge = record v.knowledge {
      seen = log_in_hand v.stage v;
      failed = failed || v.knowledge.failed;
    };
  }

  -- a seat that was told this epoch
  abbrev pub informed : View A → ℕ → View A
  informed v epoch = record v { knowledge = record v.knowledge { told = epoch } }

  -- a seat that is cut in two: it stands for one pass, and a new seat for the others
  abbrev pub first_part : View A → View A
  first_part v = record v { parts = 1 }

  abbrev pub other_parts : View A → View A
  other_parts v = record v {
    parts = v.parts - 1;
    knowledge = record v.knowledge { number = v.knowledge.number + 1 };
  }

  -- the first of two seats takes the second in, which is spent
  abbrev pub joined : View A → View A → View A
  joined v w = record v {
    parts = v.parts + w.parts;
    past = v.past + (w.past + w.calls);
    taken_in = w.knowledge ∷ v.taken_in;
  }

  abbrev pub spent : View A
  spent = record {
    start = None;
    parts = 0;
    knowledge = record { number = 0; seen = []; told = 0; failed = false };
    calls = 0;
    past = 0;
    stage = Idle;
    base = [];
    stuck = false;
    taken_in = [];
  }
