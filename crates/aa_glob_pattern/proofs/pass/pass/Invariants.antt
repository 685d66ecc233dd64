use Rattle.std.proofs.Common.{◌≡◌, length}
use Rattle.aa_glob_pattern.specs.Left.{left_in}
use Rattle.aa_glob_pattern.specs.code.Passes.{IsLeft, IsPassed, TellsSome}
use Rattle.aa_glob_pattern.proofs.pass.pass.Given as goal

-- the text is read as far as here, and what is active so far is passed
abbrev pub invariant-loop-element : goal.invariant-loop-element
invariant-loop-element l =
    (length l.active ≡ length l.fn.active)
    × IsLeft l.text l.at (left_in l.elements)
    × (length l.places.after.beginnings ≡ l.elements.depth)
    × TellsSome l.at l.active l.some
    × IsPassed l.text l.first l.byte l.at l.places l.fn.active l.active

abbrev pub decreases-loop-element : goal.decreases-loop-element
decreases-loop-element l = length (left_in l.elements)
