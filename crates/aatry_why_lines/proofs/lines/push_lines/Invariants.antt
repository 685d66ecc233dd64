use Rattle.std.proofs.Common.{◌≡◌, ◌++◌, length}
use Rattle.std.specs.Prelude.{flat_map}
use Rattle.aatry_why_lines.specs.Lines.{line_at}
use Rattle.aatry_why_lines.specs.Written.{seen_rules}
use Rattle.aatry_why_lines.proofs.lines.push_lines.Given as goal

-- the text so far, with the lines of the indexes that are left, is all; and the finder is one of the rules' folder
abbrev pub invariant-loop-rest : goal.invariant-loop-rest
invariant-loop-rest l = record {
  told :
      l.out.items ++ flat_map (line_at l.teller.form (seen_rules l.written) l.words) l.rest
      ≡ l.initial.out.items ++ flat_map (line_at l.teller.form (seen_rules l.written) l.words) l.indexes;
  folder : l.finder ≡ (seen_rules l.written).below;
}

abbrev pub decreases-loop-rest : goal.decreases-loop-rest
decreases-loop-rest l = length l.rest
