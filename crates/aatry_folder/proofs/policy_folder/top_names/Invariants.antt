use Rattle.std.proofs.Common.{◌≡◌, ◌++◌, drop, map, string_bytes}
use Rattle.aa_start.specs.Gathering.{texts_of}
use Rattle.aatry_folder.specs.PolicyFolders.{top_names}
use Rattle.aatry_folder.proofs.policy_folder.top_names.Given as goal

-- the names so far, with those at the top of the ones that are left, are all
abbrev pub invariant-loop-name : goal.invariant-loop-name
invariant-loop-name l = texts_of l.top ++ top_names (map string_bytes (drop l.name-index l.names)) ≡ top_names (map string_bytes l.names)
