-- What a stop leaves of a server, from before its store was begun.
use Rattle.std.proofs.Common.{◌≡◌, ◌⊎◌, inl, inr, ℕ, List, subst}
use Rattle.ov_base.specs.declared.mode.Mode.{Mode}
use Rattle.ov_history.specs.Sealed.{SealedHistory}
use Rattle.ov_disk.specs.Disk.{Only, Told}
use Rattle.ov_disk.specs.Tells.{DiskTells}
use Rattle.ov_disk.proofs.Runs.{then_on, weaker}
use Rattle.ov_images.specs.Images.{IsImageOf, Keys}
use Rattle.ov_protocol.specs.Updating.{updates_of}
use Rattle.ov_store.specs.Beginning.{IsBegun, LeavesHistory}
use Rattle.ov_store.specs.Opened.{Opened}
use Rattle.ov_host.specs.Lasting.{Endures, StoreGoesOn, KeepsAll, KeepsSome, Survives}

module _ {D : Type 0} (tells : DiskTells D) where
  pub survives_from : (k : Keys) (mode : Mode) (disk : D) (s last : Opened D) (list : List (List ℕ))
      → IsBegun tells k mode (tells.reads disk) s → LeavesHistory tells k mode disk s.disk
      → StoreGoesOn tells s list last
      → Told (tells.reads disk) (λ i. Only i (tells.may_leave disk) → (g : SealedHistory) → g.mode ≡ mode → IsImageOf k g i
      → Survives tells k g (updates_of list) last.failed disk last.disk)
  survives_from k mode disk s last list begun first on i told only g mode_is stands =
      let us = updates_of list in
      let same : s.keys ≡ k = begun.new.0 in
      let (j, told_s) = begun.told i told in
      let e : Endures tells g us s last =
      on.endures g ((begun.found i told).each g mode_is stands) begun.new.1 j told_s in
      let before = first i told only g mode_is stands in record {
        any_moment = then_on tells disk s.disk last.disk (λ c. IsImageOf k g c ⊎ KeepsSome k g us last.failed c)
            (KeepsSome s.keys g us last.failed)
            (weaker tells disk s.disk (IsImageOf k g) (λ c. IsImageOf k g c ⊎ KeepsSome k g us last.failed c) before (λ c is. inl is))
            e.any_moment (λ c keeps. inr (subst (λ (h : Keys). KeepsSome h g us last.failed c) same keeps));
        at_end = λ c left. subst (λ (h : Keys). KeepsAll h g us last.failed c) same (e.at_end c left);
      }
