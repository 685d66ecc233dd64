use Rattle.std.proofs.Common.{◌≡◌, ◌++◌, length, map, string_bytes}
use Rattle.aa_start.specs.Gathering.{texts_of}
use Rattle.aatry_folder.specs.PolicyFolders.{unread_below}
use Rattle.aatry_folder.proofs.policy_folder.push_each_unread.Given as goal

-- the names so far, with those of the files that are left, are all
abbrev pub invariant-loop-rest : goal.invariant-loop-rest
invariant-loop-rest l =
    texts_of l.top ++ unread_below (map string_bytes l.rest) l.left ≡ texts_of l.initial.top ++ unread_below (map string_bytes l.names) l.unread

abbrev pub decreases-loop-rest : goal.decreases-loop-rest
decreases-loop-rest l = length l.rest
