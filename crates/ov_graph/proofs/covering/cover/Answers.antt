use Rattle.std.proofs.Common.{◌<◌, ◌+◌, ◌++◌, ◌∙◌, ℕ, List, rules, arith, ap, length, length-append, subst, sym}
use Rattle.std.specs.Prelude.{All}
use Rattle.ov_base.specs.Sets.{empty}
use Rattle.ov_graph.specs.declared.covering.Candidate.{Candidate}
use Rattle.ov_graph.specs.Cover.{kept}
use Rattle.ov_graph.specs.Candidates.{nodes_of}
use Rattle.ov_graph.proofs.CoverLaws.{cover-none}
use Rattle.ov_graph.proofs.SortLaws.{sorted_cover, sorted_inside}
use Rattle.ov_graph.proofs.covering.cover.Goals as goal

pub returns-then-count-lt2 : goal.returns-then-count-lt2
returns-then-count-lt2 g c = c.new.ensures ∙ sym (cover-none _ c.args.set.now (omega arith))

pub keep-requires : goal.keep-requires
keep-requires g c =
    let all : List ℕ = c.args.sets.now ++ c.args.before.now in
    let inside = sorted_inside all c.args.set.now c.in_ok-found.found.items c.sort.new.candidates.items c.in_ok-found.ensures c.in_ok-sort.ensures.same in
    let nodes : All (λ (x : Candidate). x.node < length c.args.sets.now + length c.args.before.now) c.sort.new.candidates.items =
    subst (λ n. All (λ (x : Candidate). x.node < n) c.sort.new.candidates.items) (length-append c.args.sets.now c.args.before.now) inside in
    (search rules, (search rules, subst (λ xs. All (λ (x : Candidate). x.node < length c.args.sets.now + length c.args.before.now) xs) (sym c.deref.ensures.value) nodes))

pub returns : goal.returns
returns g c =
    let all : List ℕ = c.args.sets.now ++ c.args.before.now in
    let cover = sorted_cover all c.args.set.now c.in_ok-found.found.items c.sort.new.candidates.items c.in_ok-found.ensures c.in_ok-sort.ensures.same c.in_ok-sort.ensures.sorted c.in_ok-sort.ensures.stable in
    let same = ap (λ cs. kept all empty (nodes_of cs)) c.deref.ensures.value ∙ cover in
    search (rules, same)
