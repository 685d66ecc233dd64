use Rattle.std.proofs.Common.{◌≡◌, ◌++◌, drop}
use Rattle.aa_set_answers.specs.Children.{lines_from}
use Rattle.aatry_who.specs.Letting.{child_lines}
use Rattle.aatry_who.specs.Sought.{seen_sought}
use Rattle.aatry_who.proofs.letting.push_children.Given as goal

-- the text so far, with the lines of what is left, is all
abbrev pub invariant-loop-place : goal.invariant-loop-place
invariant-loop-place l =
    let line = child_lines l.teller.form (seen_sought l.sought) l.entry in
    l.text.items ++ lines_from line l.place (drop l.place l.children) ≡ l.initial.text.items ++ lines_from line 0 l.children
