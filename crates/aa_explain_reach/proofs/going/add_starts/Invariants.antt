use Rattle.std.proofs.Common.{◌≡◌, ◌++◌, List}
use Rattle.aa_explain_reach.specs.declared.start.Start.{Start}
use Rattle.aa_explain_reach.specs.code.Going.{AddsNodes}
use Rattle.aa_explain_reach.proofs.going.add_starts.Given as goal

-- the places of the first starts were added
abbrev pub invariant-loop-start : goal.invariant-loop-start
invariant-loop-start l =
    (done : List Start) × (done ++ l.start-iterator.rest.items ≡ l.fn.starts.items) × AddsNodes l.from done l.initial.nodes.items l.nodes.items
