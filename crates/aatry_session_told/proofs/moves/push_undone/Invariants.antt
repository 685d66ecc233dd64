use Rattle.std.proofs.Common.{◌≡◌, ◌++◌, codes, flat_map, length, reverse}
use Rattle.aatry_session_told.specs.History.{move_line}
use Rattle.aatry_session_told.proofs.moves.push_undone.Given as goal

-- the text so far, with the lines of the changes that are left, is all
abbrev pub invariant-loop-text : goal.invariant-loop-text
invariant-loop-text l =
    l.out.items ++ flat_map (move_line (codes "undone: ")) (reverse l.rest) ≡ l.initial.out.items ++ flat_map (move_line (codes "undone: ")) (reverse l.texts)

abbrev pub decreases-loop-text : goal.decreases-loop-text
decreases-loop-text l = length l.rest
