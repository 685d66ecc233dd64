use Rattle.std.proofs.Common.{◌≡◌, ◌++◌, drop}
use Rattle.aatry_log.specs.Apart.{kept_text}
use Rattle.aatry_logs.specs.Apart.{seen_lines}
use Rattle.aatry_log.proofs.apart.push_kept.Given as goal

-- what was told and the lines that are left make all
abbrev pub invariant-loop-line : goal.invariant-loop-line
invariant-loop-line l =
    l.out.items ++ kept_text l.fn.teller.form l.kind (seen_lines (drop l.line-index l.lines))
    ≡ l.initial.out.items ++ kept_text l.fn.teller.form l.kind (seen_lines l.lines)
