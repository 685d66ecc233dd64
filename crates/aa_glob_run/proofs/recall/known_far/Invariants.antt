use Rattle.std.proofs.Common.{◌-◌, ◌≤◌, length}
use Rattle.aa_glob_nfa.specs.OfTables.{graph_of}
use Rattle.aa_glob_run.specs.code.Memos.{IsRecalling}
use Rattle.aa_glob_run.proofs.recall.known_far.Given as goal

abbrev pub invariant-loop-far : goal.invariant-loop-far
invariant-loop-far l = record {
  within : l.far.place ≤ length l.text;
  recalling : IsRecalling (graph_of l.tables) l.text l.far.place (length l.tables.states) l.memo l.far.number l.initial.steps l.steps;
}

-- the bytes that are left
abbrev pub decreases-loop-far : goal.decreases-loop-far
decreases-loop-far l = length l.text - l.far.place
