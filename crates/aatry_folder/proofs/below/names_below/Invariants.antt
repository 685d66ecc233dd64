use Rattle.std.proofs.Common.{◌-◌, ◌≤◌, [], ◌∷◌, take, vec_len}
use Rattle.aatry_folder.specs.Members.{texts_of}
use Rattle.aatry_folder.specs.NamesBelow.{AreFound, most_names}
use Rattle.aatry_folder.specs.code.Step.{IsListing}
use Rattle.aatry_folder.proofs.below.names_below.Given as goal

-- what comes of the names before the next one stands behind the base's members, and nothing else
abbrev pub invariant-loop-next : goal.invariant-loop-next
invariant-loop-next g l = record {
  listed : IsListing (g.F.Folders.told l.folders) l.base ([] ∷ take l.next (texts_of l.names)) (texts_of l.names);
  found : AreFound (g.F.Folders.told l.folders) l.base [] (texts_of l.names);
  within : vec_len l.names ≤ most_names;
  behind : l.next ≤ vec_len l.names;
}

abbrev pub decreases-loop-next : goal.decreases-loop-next
decreases-loop-next g l = most_names - l.next
