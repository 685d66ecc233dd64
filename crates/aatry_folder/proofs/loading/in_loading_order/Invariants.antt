use Rattle.std.proofs.Common.{◌≡◌, ◌++◌, map}
use Rattle.aatry_folder.specs.Loadings.{disabled, in_force, seen_top}
use Rattle.aatry_folder.proofs.loading.in_loading_order.Given as goal

-- the files so far, with those of the ones that are left, are all of their kind
abbrev pub invariant-loop-file : goal.invariant-loop-file
invariant-loop-file l = record {
  first : map seen_top l.first.items ++ in_force (map seen_top l.file-iterator.rest.items) ≡ in_force (map seen_top l.fn.files.items);
  last : map seen_top l.last.items ++ disabled (map seen_top l.file-iterator.rest.items) ≡ disabled (map seen_top l.fn.files.items);
}
