-- The machine answers reads alike at all legal histories for which one sealed history is right.
use Rattle.std.proofs.Common.{◌≡◌, ◌∙◌, ℕ, true, List, Some, None, Result, Ok, Err, subst}
use Rattle.ov_base.proofs.Tests.{true_of_not}
use Rattle.ov_history.specs.FadingLaws.{IsRight}
use Rattle.ov_history.specs.History.{History, Matrix, matrix_of}
use Rattle.ov_history.specs.Lists.{file_number, is_file, user_number}
use Rattle.ov_history.specs.Masters.{Masters}
use Rattle.ov_history.specs.Plain.{PlainHistory, bytes_of, history_of}
use Rattle.ov_history.specs.Refusals.{read_refusal}
use Rattle.ov_history.specs.Sealed.{SealedHistory}
use Rattle.ov_history.proofs.Fading.{right_histories_read_alike}
use Rattle.ov_client.specs.Laws.{IsReadAt}
use Rattle.ov_client.specs.declared.fault.ClientFault.{ClientFault}
use Rattle.ov_client.specs.declared.fault.ClientFault.TheVariants as client
use Rattle.ov_client.proofs.Opening.{file_there}

-- a file that may be read is there
pub read_is_file : (m : Matrix) (user file : ℕ) → read_refusal m user file ≡ None
    → is_file m file ≡ true
read_is_file m user file none = true_of_not (is_file m file) (file_there _ _ _ none)

-- the machine answers a read alike at all legal histories for which one history is right
pub reads_alike : (k : Masters) (p q : PlainHistory) (g : SealedHistory) (user file : List ℕ)
    (result : Result (List ℕ) ClientFault)
    → IsRight k p g → IsRight k q g → IsReadAt p user file result → IsReadAt q user file result
reads_alike k p q g user file (Ok bytes) right too (none, is) =
    let (same, read) = right_histories_read_alike k p q g right too in
    let m : Matrix = matrix_of (history_of p) in
    let n : ℕ = file_number m file in
    subst (λ (h : History). (read_refusal (matrix_of h) (user_number (matrix_of h) user)
    (file_number (matrix_of h) file) ≡ None)
    × (bytes ≡ bytes_of q (file_number (matrix_of h) file))) same
    (none, is ∙ read n (read_is_file m (user_number m user) n none))
reads_alike k p q g user file (Err (client.Refused why)) right too is =
    let (same, read) = right_histories_read_alike k p q g right too in
    subst (λ (h : History). read_refusal (matrix_of h) (user_number (matrix_of h) user)
    (file_number (matrix_of h) file) ≡ Some why) same is
reads_alike k p q g user file (Err client.Link) right too is = absurd is
reads_alike k p q g user file (Err (client.BadReply place)) right too is = absurd is
reads_alike k p q g user file (Err (client.Damaged stored computed)) right too is = absurd is
reads_alike k p q g user file (Err client.Device) right too is = absurd is
reads_alike k p q g user file (Err (client.Unsettled generations)) right too is = absurd is
reads_alike k p q g user file (Err client.Memory) right too is = absurd is
