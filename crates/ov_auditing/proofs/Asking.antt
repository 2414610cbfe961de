-- Words ask for one audit, and what it promises over a loan of the disk is promised of the disk.
use Rattle.std.proofs.Common.{MutBor, ◌≡◌, ◌⊎◌, ◌∙◌, Bool, List, [], ◌∷◌, Option, Some, None, refl, subst, sym, ℕ, true, false}
use Rattle.std.specs.Prelude.{codes, IfSome, String}
use Rattle.std.specs.declared.alloc.Global.{Global}
use Rattle.ov_answering.specs.Ending.{LeavesAsAtStart}
use Rattle.ov_answering.proofs.Loans.{lent_disk, lent_leaves}
use Rattle.ov_base.specs.Causes.{Rose}
use Rattle.ov_disk.specs.Disk.{Image, Told}
use Rattle.ov_disk.specs.Tells.{DiskTells}
use Rattle.ov_history.specs.FadingLaws.{IsRight}
use Rattle.ov_history.specs.Masters.{Masters}
use Rattle.ov_history.specs.Plain.{PlainHistory}
use Rattle.ov_history.specs.Sealed.{SealedHistory}
use Rattle.ov_images.specs.Images.{Keeps, keys_of}
use Rattle.ov_machine.specs.Machine.{AreMasters}
use Rattle.ov_script.specs.WrittenLists.{IsList}
use Rattle.ov_auditing.proofs.ListTexts.{is_list, list_once}
use Rattle.ov_auditing.specs.AuditWords.{IsAudit, server_words}
use Rattle.ov_auditing.specs.Promises.{ForEachKept, TellsOf}
use Rattle.ov_auditing.specs.declared.audit_words.Asked.{Asked}

server_once : (one other : Bool) → server_words one ≡ server_words other → one ≡ other
server_once true true same = refl
server_once true false same = absurd (cc same)
server_once false true same = absurd (cc same)
server_once false false same = refl

pub one_audit : (one other : Asked) (words : List (String Global)) → IsAudit one words
    → IsAudit other words → one ≡ other
one_audit one other words (list, names, is) (text, others, so) =
    let whole : codes "audit" ∷ list ∷ server_words one.server
    ≡ codes "audit" ∷ text ∷ server_words other.server = sym is ∙ so in
    let lists : list ≡ text = cc whole in
    let servers : server_words one.server ≡ server_words other.server = cc whole in
    let same : one.names ≡ other.names =
    list_once text one.names other.names
    (subst (λ (t : List ℕ). IsList t one.names) lists (is_list list one.names names))
    (is_list text other.names others) in
    let helps : one.server ≡ other.server = server_once one.server other.server servers in
    λ j. record { names = same j; server = helps j }

-- What holds of the audit that was read holds of each that the words ask for.
pub of_each_asked : (image : Option Image) (words : List (String Global)) (keys : Option (List ℕ))
    (own : Asked) → IsAudit own words → (P Q : Asked → Masters → SealedHistory → Type 0)
    → IfSome keys (λ file. (k : Masters) → AreMasters file k → Told image (λ i.
    (p : PlainHistory) (g : SealedHistory) → IsRight k p g → Keeps (keys_of k) g i → P own k g))
    → ((k : Masters) (g : SealedHistory) → P own k g → Q own k g)
    → ForEachKept image words keys Q
of_each_asked image words keys own is P Q holds so asked other = by_cases keys holds where
  by_cases : (keys : Option (List ℕ))
      → IfSome keys (λ file. (k : Masters) → AreMasters file k → Told image (λ i.
      (p : PlainHistory) (g : SealedHistory) → IsRight k p g → Keeps (keys_of k) g i → P own k g))
      → IfSome keys (λ file. (k : Masters) → AreMasters file k → Told image (λ i.
      (p : PlainHistory) (g : SealedHistory) → IsRight k p g → Keeps (keys_of k) g i → Q asked k g))
  by_cases None holds = tt
  by_cases (Some file) holds = λ k are i read p g right keeps.
      subst (λ (a : Asked). Q a k g) (one_audit own asked words is other)
      (so k g (holds k are i read p g right keeps))

-- ---- over a loan of the disk

module _ {D : Type 0} (tells : DiskTells D) (first last : MutBor D) (final : D)
    (back : last.now ≡ final) where
  pub lent_tells : (image : Option Image) (words : List (String Global)) (keys : Option (List ℕ))
      (own : Asked) → IsAudit own words → (status : ℕ) (old new : Option (List ℕ))
      (keys_rose out_rose : Type 0)
      → IfSome keys (λ file. (k : Masters) → AreMasters file k → Told image (λ i.
      (p : PlainHistory) (g : SealedHistory) → IsRight k p g → Keeps (keys_of k) g i
      → TellsOf own k g status old new
      (keys_rose ⊎ (out_rose ⊎ Rose (tells.faults first.now) (tells.faults last.now)))))
      → ForEachKept image words keys (λ asked k g. TellsOf asked k g status old new
      (keys_rose ⊎ (out_rose ⊎ Rose (tells.faults first.now) (tells.faults final))))
  lent_tells image words keys own is status old new keys_rose out_rose holds =
      let over : D → Asked → Masters → SealedHistory → Type 0 =
      λ d asked k g. TellsOf asked k g status old new
      (keys_rose ⊎ (out_rose ⊎ Rose (tells.faults first.now) (tells.faults d))) in
      of_each_asked image words keys own is (over last.now) (over final) holds
      (λ k g told. subst (λ (d : D). over d own k g) back told)

  pub lent_quiet : LeavesAsAtStart (lent_disk tells) first last
      → LeavesAsAtStart tells first.now final
  lent_quiet leaves =
      subst (λ (d : D). LeavesAsAtStart tells first.now d) back
      (lent_leaves tells first last (tells.may_leave first.now) leaves)
