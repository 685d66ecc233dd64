use Rattle.std.proofs.Common.{◌≡◌, ◌++◌, codes, drop, flat_map}
use Rattle.aatry_session_told.specs.History.{move_line}
use Rattle.aatry_session_told.proofs.moves.push_redone.Given as goal

-- the text so far, with the lines of the changes that are left, is all
abbrev pub invariant-loop-text : goal.invariant-loop-text
invariant-loop-text l =
    l.out.items ++ flat_map (move_line (codes "redone: ")) (drop l.text-index l.texts) ≡ l.initial.out.items ++ flat_map (move_line (codes "redone: ")) l.texts
