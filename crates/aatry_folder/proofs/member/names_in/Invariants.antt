use Rattle.std.proofs.Common.{◌≡◌, ◌++◌}
use Rattle.std.specs.Prelude.{map, string_bytes}
use Rattle.std.specs.Vec.Iter.{into_iter_items}
use Rattle.aatry_folder.specs.Members.{names_in, texts_of}
use Rattle.aatry_folder.proofs.member.names_in.Given as goal

-- the names of the members that were gone through, and behind them those of the members that are left
abbrev pub invariant-loop-member : goal.invariant-loop-member
invariant-loop-member l =
    names_in l.folder (texts_of l.fn.members) ≡ texts_of l.names ++ names_in l.folder (map string_bytes (into_iter_items l.member-iterator))
