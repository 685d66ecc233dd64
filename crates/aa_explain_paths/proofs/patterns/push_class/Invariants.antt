use Rattle.std.proofs.Common.{◌≡◌, ◌++◌}
use Rattle.std.specs.Prelude.{replicate}
use Rattle.aa_explain_paths.proofs.patterns.push_class.Given as goal

abbrev pub invariant-loop : goal.invariant-loop
invariant-loop l = l.classes.items ≡ l.initial.classes.items ++ replicate l.counter l.class
