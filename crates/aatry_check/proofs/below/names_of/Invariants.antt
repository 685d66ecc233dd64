use Rattle.std.proofs.Common.{◌≡◌, ◌++◌, drop, map}
use Rattle.aa_start.specs.Gathering.{texts_of}
use Rattle.aatry_folder.specs.Loadings.{file_names, seen_top}
use Rattle.aatry_check.proofs.below.names_of.Given as goal

-- the names so far, with those of the files that are left, are all
abbrev pub invariant-loop-file : goal.invariant-loop-file
invariant-loop-file l = texts_of l.names ++ file_names (map seen_top (drop l.file-index l.top)) ≡ file_names (map seen_top l.top)
