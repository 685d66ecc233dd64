use Rattle.std.proofs.Common.{◌≡◌, ◌++◌, map, string_bytes}
use Rattle.std.specs.List.{All}
use Rattle.aa_start.specs.Gathering.{texts_of}
use Rattle.aatry_folder.specs.Loadings.{IsAsked, file_names, seen_top}
use Rattle.aatry_folder.proofs.loading.asked.Given as goal

-- the files so far are asked for, and their names, with those that are left, are all
abbrev pub invariant-loop-name : goal.invariant-loop-name
invariant-loop-name g l = record {
  named : file_names (map seen_top l.top.items) ++ map string_bytes l.name-iterator.rest.items ≡ texts_of l.fn.names;
  each : All (IsAsked (g.F.Folders.told l.folders) l.base) (map seen_top l.top.items);
}
