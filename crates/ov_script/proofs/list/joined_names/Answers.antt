use Rattle.ov_script.proofs.ListReading.{one_more_read, last_read, no_name_first, no_name_last}
use Rattle.ov_script.proofs.list.joined_names.Goals as goal

pub returns-then-not-branch-clause-none : goal.returns-then-not-branch-clause-none
returns-then-not-branch-clause-none c =
    let found = c.in-Some.ensures.found in
    no_name_first _ _ _ _ _ c.names.invariant found.0 found.1 (rw c.if-not-branch.true at c.in_ok-insert-in-Some.ensures)

pub names-preserved : goal.names-preserved
names-preserved c =
    let found = c.in-Some.ensures.found in
    let named = rw c.if-not-branch.false at c.in_ok-insert-in-Some.ensures in
    one_more_read _ _ _ _ _ _ c.names.invariant found.1 named.0 named.1

pub returns-then-not-branch-2-clause-none : goal.returns-then-not-branch-2-clause-none
returns-then-not-branch-2-clause-none c =
    no_name_last _ _ _ c.names.invariant c.in-None.ensures.none (rw c.if-not-branch-2.true at c.in_ok-insert-in-None.ensures)

pub returns-in-None-clause-found : goal.returns-in-None-clause-found
returns-in-None-clause-found c =
    let named = rw c.if-not-branch-2.false at c.in_ok-insert-in-None.ensures in
    last_read _ _ _ _ c.names.invariant named.0 named.1
