use Rattle.std.proofs.Common.{◌≡◌, ◌∙◌, [], ap, inl, refl, subst, sym}
use Rattle.std.specs.Prelude.{IfSome, IsSome}
use Rattle.ov_disk.specs.Tells.{DiskTells}
use Rattle.ov_history.specs.Masters.{Masters}
use Rattle.ov_history.specs.Sealed.{KeepsBytes, SealedHistory, StandsFor}
use Rattle.ov_images.specs.Images.{Keys, keys_of}
use Rattle.ov_protocol.proofs.Leaving.{later-nil}
use Rattle.ov_server.proofs.Alone.{are_alone}
use Rattle.ov_server.specs.Locally.{IsServedBy}
use Rattle.ov_store.specs.Opened.{Opened, Serves}
use Rattle.ov_acts.specs.Laws.{service_under}
use Rattle.ov_protocol_t.proofs.premises.a_server_in_this_process_is_alone.Goals as goal

pub returns-clause-asked : goal.returns-clause-asked
returns-clause-asked g c = are_alone g.D.Disk.tells

pub returns-clause-failed : goal.returns-clause-failed
returns-clause-failed g c = λ p q request v same serves. (
  [],
  inl refl,
  subst (λ w. IsServedBy q w) (sym (later-nil v))
      (subst (λ s. IsServedBy s v) (sym same) serves),
)

-- a store that stands for a history is served as just that one
served_so : {D : Type 0} (tells : DiskTells D) (k : Masters) (g : SealedHistory) (s : Opened D)
    → s.keys ≡ keys_of k → IsSome (tells.reads s.disk) → Serves tells g s
    → IsServedBy s (service_under k g)
served_so tells k g s same told stands =
    let own : s.keys.surface ≡ k.surface = ap (λ (x : Keys). x.surface) same in (
      record {
        stands = subst (λ m. StandsFor m s.catalogue g) own stands.catalogue;
        keeps = subst (λ m. IfSome s.stored (λ bytes. KeepsBytes m bytes g)) own stands.bytes;
        surface = own;
        base_check = ap (λ (x : Keys). x.base_check) same;
      },
      stands.told ∙ told,
    )

pub returns-clause-serves : goal.returns-clause-serves
returns-clause-serves g c = λ k h sealed s same told stands legal is.
    let serves = served_so g.D.Disk.tells k sealed s same told stands in (
      serves,
      record {
        service = service_under k sealed;
        serves = serves;
        store = record { surface = refl; check = refl; legal = legal; history = is };
      },
    )
