use Rattle.std.proofs.Common.{◌≡◌, ◌*◌, sym, ◌∙◌, ap, subst, length, rules, false}
use Rattle.std.specs.Prelude.{IfNone, Option}
use Rattle.std.proofs.lemmas.Result.{err_from_is_err_and}
use Rattle.ov_base.specs.NameLists.{is_among}
use Rattle.ov_base.specs.declared.refusal.Refusal.{Refusal}
use Rattle.ov_graph.specs.declared.cover.Cover.{Cover}
use Rattle.ov_record.specs.Briefs.{BriefCreate as SpelledCreate}
use Rattle.ov_state.specs.Entries.{filed_names}
use Rattle.ov_state.specs.Plans.{IsFaultOf}
use Rattle.ov_state.specs.declared.fault.PrepareFault.{PrepareFault}
use Rattle.ov_state.proofs.Creating.{create-room, refused_before, refused_spent, not_refused, users_there}
use Rattle.ov_state.proofs.CreationChange.{creation}
use Rattle.ov_state.proofs.FileRoom.{refused_site}
use Rattle.ov_state.proofs.state.State.plan_create.Goals as goal

pub returns-in-Some : goal.returns-in-Some
returns-in-Some g c =
    refused_before (64 * g.row.W) c.args.surface.now.bytes c.args.self.now.catalogue c.args.name c.args.list c.args.tokens c.args.tag c.args.size
    c.known.ensures c.in-Some.why
    (sym c.refusal_create.ensures.why ∙ c.in-Some.is)

pub site-requires : goal.site-requires
site-requires g c =
    let below = users_there c.args.self.now.catalogue c.args.name c.args.list c.args.size
    (sym c.refusal_create.ensures.why ∙ c.in_default.is) in
    search rules

pub returns-in_err-site : goal.returns-in_err-site
returns-in_err-site g c =
    let room = create-room (64 * g.row.W) c.args.surface.now.bytes c.args.self.now.catalogue c.args.name c.args.list c.args.tokens c.args.tag c.args.size
    c.known.ensures (sym c.refusal_create.ensures.why ∙ c.in_default.is) in
    let s = c.args.self.now.catalogue in
    let asked = SpelledCreate c.args.name c.args.list c.args.tokens c.args.tag c.args.size in
    let none = refused_site s c.args.list g.row.W asked room
    c.in_err-site.field-0.0 c.in_err-site.ensures.err in
    let p = err_from_is_err_and c.from_residual.result c.from_residual.ensures.1 in
    rw p.1 (subst (λ (fault : PrepareFault). IsFaultOf g.row.W s asked fault) (sym p.2) none)

pub returns-then-is_spent : goal.returns-then-is_spent
returns-then-is_spent g c =
    refused_spent (64 * g.row.W) c.args.surface.now.bytes c.args.self.now.catalogue c.args.name c.args.list c.args.tokens c.args.tag c.args.size
    c.known.ensures
    (sym c.refusal_create.ensures.why ∙ c.in_default.is) c.in_ok-site.ensures.ok.few (sym c.is_spent.ensures ∙ c.if-is_spent.true)

pub returns-then-as_slice : goal.returns-then-as_slice
returns-then-as_slice g c = (
  not_refused (64 * g.row.W) c.args.surface.now.bytes c.args.self.now.catalogue c.args.name c.args.list c.args.tokens c.args.tag c.args.size
      c.known.ensures
      (sym c.refusal_create.ensures.why ∙ c.in_default.is) c.in_ok-site.ensures.ok.few (sym c.is_spent.ensures ∙ c.if-is_spent.false),
  λ parts.
      c.if-as_slice.true
      (ap length c.as_slice.ensures ∙ parts
      ∙ ap (λ (cover : Cover). length cover.from) (sym c.in_ok-site.ensures.ok.cover) ∙ sym (ap length c.as_slice-2.ensures)),
  c.tokens_place.ensures,
)

pub returns : goal.returns
returns g c =
    let names = filed_names c.args.self.now.catalogue.files in
    let fresh : is_among c.args.name names ≡ false =
    subst (λ (r : Option Refusal). IfNone r (is_among c.args.name names ≡ false)) c.in_default.is c.refusal_create.ensures.fresh in
    creation (64 * g.row.W) c.args.surface.now.bytes c.args.self.now.catalogue c.args.name c.args.list c.args.tokens c.args.tag c.args.size
    c.in_ok-site.site c.in_ok-creation.field-0 c.known.ensures c.in_ok-site.ensures.ok c.in_ok-creation.ensures fresh
    (not_refused (64 * g.row.W) c.args.surface.now.bytes c.args.self.now.catalogue c.args.name c.args.list c.args.tokens c.args.tag c.args.size
    c.known.ensures
    (sym c.refusal_create.ensures.why ∙ c.in_default.is) c.in_ok-site.ensures.ok.few (sym c.is_spent.ensures ∙ c.if-is_spent.false))
    (sym (ap length c.as_slice.ensures) ∙ c.if-as_slice.false ∙ ap length c.as_slice-2.ensures
    ∙ ap (λ (cover : Cover). length cover.from) c.in_ok-site.ensures.ok.cover)
    c.requires
