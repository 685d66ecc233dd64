use Rattle.std.proofs.Common.{List, ℕ, take, ◌++◌}
use Rattle.aa_glob.specs.Built.{IsBuilt}
use Rattle.aa_glob.proofs.builder.AutomatonBuilder.add_each.Given as goal

-- the patterns so far were added
abbrev pub invariant-loop-pattern : goal.invariant-loop-pattern
invariant-loop-pattern l = (patterns : List (List ℕ)) → IsBuilt l.initial.added patterns → IsBuilt l.added (patterns ++ take l.pattern-index l.more)
