use Rattle.std.proofs.Common.{◌≡◌, ◌++◌, drop, take}
use Rattle.std.specs.Map.{lookup}
use Rattle.std.specs.Str.{bytes_eq}
use Rattle.aa_history.specs.Machine.{with_number}
use Rattle.aa_history.specs.SeenMarks.{seen_marks}
use Rattle.aa_history.proofs.marks.set_among.Given as goal

-- no mark was changed yet, and none of those before the place has the name
abbrev pub invariant-loop-place : goal.invariant-loop-place
invariant-loop-place l = record {
  same : l.marks.items ≡ l.initial.marks.items;
  name : l.name ≡ l.initial.name;
  behind : with_number l.name.items l.number (seen_marks l.initial.marks.items)
      ≡ seen_marks (take l.place l.initial.marks.items) ++ with_number l.name.items l.number (seen_marks (drop l.place l.initial.marks.items));
  none : lookup (λ other. bytes_eq other l.name.items) (seen_marks l.initial.marks.items)
      ≡ lookup (λ other. bytes_eq other l.name.items) (seen_marks (drop l.place l.initial.marks.items));
}
