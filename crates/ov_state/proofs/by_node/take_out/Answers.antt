use Rattle.std.proofs.Common.{◌≡◌, ◌∙◌, ◌<◌, List, None, Some, ℕ, ap, arith, length, sym}
use Rattle.std.specs.Prelude.{slice_index, Option}
use Rattle.ov_graph.specs.Contents.{node_of}
use Rattle.ov_graph.proofs.ListLaws.{Contains-place, node_none, node_some}
use Rattle.ov_state.proofs.by_node.take_out.Goals as goal

-- what was found in a slice of the numbers is found among the numbers
found : (numbers slice : List ℕ) (number : ℕ) (result answer : Option ℕ) → slice ≡ numbers → result ≡ node_of slice number → result ≡ answer
    → node_of numbers number ≡ answer
found numbers slice number result answer same is at = ap (λ ns. node_of ns number) (sym same) ∙ sym is ∙ at

pub unreachable-requires : goal.unreachable-requires
unreachable-requires c =
    let numbers = c.args.numbers.now.items in
    let none : node_of numbers c.args.number ≡ None =
    found numbers c.as_slice.result.now c.args.number c.place_of.result None c.as_slice.ensures.value c.place_of.ensures c.in-None.is in
    let (n, below, same) = Contains-place numbers c.args.number c.requires in
    node_none numbers c.args.number none n below same

pub remove-requires : goal.remove-requires
remove-requires c =
    let numbers = c.args.numbers.now.items in
    let some : node_of numbers c.args.number ≡ Some c.in-Some.place =
    found numbers c.as_slice.result.now c.args.number c.place_of.result (Some c.in-Some.place) c.as_slice.ensures.value c.place_of.ensures c.in-Some.is in
    omega (arith, (node_some numbers c.args.number c.in-Some.place some).0)

pub returns-clause-taken : goal.returns-clause-taken
returns-clause-taken c =
    let numbers = c.args.numbers.now.items in
    let some : node_of numbers c.args.number ≡ Some c.in-Some.place =
    found numbers c.as_slice.result.now c.args.number c.place_of.result (Some c.in-Some.place) c.as_slice.ensures.value c.place_of.ensures c.in-Some.is in
    let there : (c.in-Some.place < length numbers) × (slice_index numbers c.in-Some.place ≡ c.args.number) =
    node_some numbers c.args.number c.in-Some.place some in
    (c.in-Some.place, there.0, there.1, c.remove.ensures.items)

pub returns-clause-room : goal.returns-clause-room
returns-clause-room c = omega (arith, c.remove.ensures.capacity, c.remove.ensures.len)
