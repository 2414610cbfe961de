use Rattle.std.proofs.Common.{◌≡◌, ◌+◌, ◌++◌, ◌≤◌, take, vec_len, vec_capacity}
use Rattle.ov_graph.specs.Contents.{joined}
use Rattle.ov_graph.proofs.rows.append.Given as goal

abbrev pub invariant-loop-n : goal.invariant-loop-n
invariant-loop-n l = record {
  items : l.edges.items ≡ l.initial.edges.items ++ joined (take l.n l.from) (take l.n l.tokens);
  len : vec_len l.edges ≡ vec_len l.initial.edges + l.n;
  capacity : vec_capacity l.initial.edges ≤ vec_capacity l.edges;
}
