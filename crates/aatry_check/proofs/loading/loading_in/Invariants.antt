use Rattle.std.proofs.Common.{◌≡◌, length, map}
use Rattle.aatry_check.specs.Loading.{loading_in}
use Rattle.aatry_folder.specs.Loadings.{seen_top}
use Rattle.aatry_check.proofs.loading.loading_in.Given as goal

-- the files that are left say as all do
abbrev pub invariant-loop-rest : goal.invariant-loop-rest
invariant-loop-rest l = loading_in (map seen_top l.rest) l.name ≡ loading_in (map seen_top l.top) l.name

abbrev pub decreases-loop-rest : goal.decreases-loop-rest
decreases-loop-rest l = length l.rest
