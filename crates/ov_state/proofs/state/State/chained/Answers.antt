use Rattle.std.proofs.Common.{◌*◌, Contains, ap, refl, rules, subst, sym}
use Rattle.ov_base.specs.Sets.{single}
use Rattle.ov_history.specs.Chains.{IsBaseChain, IsSurfaceChain}
use Rattle.ov_state.specs.Contents.{Held}
use Rattle.ov_state.specs.declared.chained.Chained.{Chained}
use Rattle.ov_state.proofs.Readers.{IsReader, chained_of, listed_reads}
use Rattle.ov_state.proofs.state.State.chained.Goals as goal

pub base_chain-requires : goal.base_chain-requires
base_chain-requires g c =
    let limit = 64 * g.row.W in
    let reader : IsReader limit c.args.self.now.catalogue c.args.user c.entry-entry.result.now =
    listed_reads limit c.args.self.now.catalogue c.args.user c.args.file c.entry-entry.result.now c.known.ensures c.entry-entry.ensures.kept
    c.requires.user c.requires.listed in
    let own = subst (λ (h : Held). IsReader limit h.catalogue c.args.user c.entry-entry.result.now) (sym c.self.view_is) reader in
    (search rules, (own.low, (own.base, (own.node, own.holder))))

pub surface_chain-requires-clause-rooted : goal.surface_chain-requires-clause-rooted
surface_chain-requires-clause-rooted g c =
    subst (λ (h : Held). Contains h.catalogue.surface.sets (single c.args.user)) (sym c.self.view_is)
    (c.known.ensures.sound.surface.rooted c.args.user c.requires.user)

pub surface_chain-requires-clause-node : goal.surface_chain-requires-clause-node
surface_chain-requires-clause-node g c =
    let limit = 64 * g.row.W in
    let reader : IsReader limit c.args.self.now.catalogue c.args.user c.entry-entry.result.now =
    listed_reads limit c.args.self.now.catalogue c.args.user c.args.file c.entry-entry.result.now c.known.ensures c.entry-entry.ensures.kept
    c.requires.user c.requires.listed in
    (subst (λ (h : Held). IsReader limit h.catalogue c.args.user c.entry-entry.result.now) (sym c.self.view_is) reader).covered

pub surface_chain-requires-clause-member : goal.surface_chain-requires-clause-member
surface_chain-requires-clause-member g c =
    let limit = 64 * g.row.W in
    let reader : IsReader limit c.args.self.now.catalogue c.args.user c.entry-entry.result.now =
    listed_reads limit c.args.self.now.catalogue c.args.user c.args.file c.entry-entry.result.now c.known.ensures c.entry-entry.ensures.kept
    c.requires.user c.requires.listed in
    (subst (λ (h : Held). IsReader limit h.catalogue c.args.user c.entry-entry.result.now) (sym c.self.view_is) reader).member

pub returns : goal.returns
returns g c =
    let f = c.entry-entry.result.now in
    let chained : Chained = record {
      epoch = c.self.inside.epoch;
      file = c.args.file;
      length = f.length;
      generation = f.generation;
      tag = f.tag;
      base = c.in_ok-base.base;
      surface = c.in_ok-surface.surface;
    } in
    chained_of c.args.self.now.catalogue c.args.user c.args.file f chained c.entry-entry.ensures.kept
    (ap (λ (h : Held). h.catalogue.epoch) c.self.view_is) refl refl refl refl
    (subst (λ (h : Held). IsBaseChain h.catalogue.base h.catalogue.grants c.args.user f.node c.in_ok-base.base) c.self.view_is c.in_ok-base.ensures)
    (subst (λ (h : Held). IsSurfaceChain h.catalogue.surface c.args.user f.surface c.in_ok-surface.surface) c.self.view_is c.in_ok-surface.ensures)
