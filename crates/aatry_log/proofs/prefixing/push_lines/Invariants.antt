use Rattle.std.proofs.Common.{◌≡◌, ◌++◌, length, flat_map}
use Rattle.aa_set_commands.specs.Lines.{lines}
use Rattle.aatry_log.specs.Prefixed.{prefixed}
use Rattle.aatry_log.proofs.prefixing.push_lines.Given as goal

-- what was appended and the lines that are left make all
abbrev pub invariant-loop-line : goal.invariant-loop-line
invariant-loop-line l = l.out.items ++ flat_map (prefixed l.fn.prefix) (lines l.rest) ≡ l.initial.out.items ++ flat_map (prefixed l.fn.prefix) (lines l.fn.text)

abbrev pub decreases-loop-line : goal.decreases-loop-line
decreases-loop-line l = length l.rest
