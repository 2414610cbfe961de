-- The reader that an owner makes for a user.
use Rattle.std.specs.Prelude.{◌≡◌, ℕ, List, true, Result, Ok, Err}
use Rattle.ov_base.specs.declared.refusal.Refusal.TheVariants.{NoUser}
use Rattle.ov_tokens.specs.declared.label.Kind.TheVariants.{Derive, Surface}
use Rattle.ov_tokens.specs.Keys.{node_key}
use Rattle.ov_record.specs.Updates.{SealedUpdate}
use Rattle.ov_history.specs.History.{matrix_of}
use Rattle.ov_history.specs.Lists.{is_user, user_number}
use Rattle.ov_history.specs.Masters.{Masters}
use Rattle.ov_history.specs.Plain.{PlainHistory, history_of}
use Rattle.ov_history.specs.Refusals.{IsLegal}
use Rattle.ov_history.specs.Sealing.{IsSealedAs}
use Rattle.ov_wire.specs.declared.answer.Answer.{Answer}
use Rattle.ov_wire.specs.declared.answer.Known.{Known}
use Rattle.ov_protocol.specs.Serving.{Service, later}
use Rattle.ov_client.specs.Laws.{HasRoots, HoldsRootKeys}
use Rattle.ov_client.specs.Readers.{Reader}
use Rattle.ov_owner.specs.Errands.{known_of}
use Rattle.ov_owner.specs.declared.fault.OwnerFault.{OwnerFault}
use Rattle.ov_owner.specs.declared.fault.OwnerFault.TheVariants as faults

-- the reader of this name with the roots of these numbers, and their keys under the masters
abbrev pub reader_of : Masters → List ℕ → Known → Reader
reader_of k user known = record {
  name = user;
  base_root = known.base_root;
  base = node_key Derive k.base known.base_root;
  surface_root = known.surface_root;
  surface = node_key Surface k.surface known.surface_root;
}

-- the reader of this name by the numbers that were told, or why the call ends
abbrev pub reader_by : Masters → List ℕ → Result Known OwnerFault → Result Reader OwnerFault
reader_by k user (Ok known) = Ok (reader_of k user known)
reader_by k user (Err fault) = Err fault

-- the reader by the numbers in an answer, or why the call ends
abbrev pub reader_in : Masters → List ℕ → Answer → Result Reader OwnerFault
reader_in k user answer = reader_by k user (known_of answer)

-- whether the name is a user's at this history
abbrev pub HasUser : PlainHistory → List ℕ → Type 0
HasUser p name =
    let m = matrix_of (history_of p) in is_user m (user_number m name) ≡ true

-- the reader is of this user, who is there, and holds the keys of the user's two roots
pub record IsReaderAt (k : Masters) (p : PlainHistory) (user : List ℕ) (r : Reader) : Type 0 where
  pub name : r.name ≡ user
  pub enrolled : HasUser p user
  pub roots : HasRoots p r
  pub keys : HoldsRootKeys k r

-- what is served is this history, with what others made of it, and there it is so, where the
-- history is right under these masters
abbrev pub IsSoThere : Masters → Service → (Service → Type 0) → (PlainHistory → Type 0) → Type 0
IsSoThere k v Then IsSo =
    (others : List SealedUpdate) × Then (later v others)
    × ((p : PlainHistory) → v.surface ≡ k.surface → IsLegal (history_of p)
    → IsSealedAs k p (later v others).history → IsSo p)

-- the reader holds just this user's two root keys at what is served, and a user who is refused
-- isn't there
abbrev pub IsReaderOf : Masters → Service → (Service → Type 0) → List ℕ → Result Reader OwnerFault
    → Type 0
IsReaderOf k v Then user (Ok r) = IsSoThere k v Then (λ p. IsReaderAt k p user r)
IsReaderOf k v Then user (Err (faults.Refused why)) =
    IsSoThere k v Then (λ p. (why ≡ NoUser) × (HasUser p user → ⊥))
IsReaderOf k v Then user (Err fault) = Unit {0}
