use Rattle.std.proofs.Common.{◌≡◌, ◌++◌, false, length, map}
use Rattle.aa_set_manager.specs.Manager.{new_manager_in}
use Rattle.aatry_folder.specs.Loadings.{file_names, seen_top}
use Rattle.aatry_policy.specs.Origins.{origins_of}
use Rattle.aatry_policy.specs.Policies.{loaded, outcomes}
use Rattle.aatry_policy.specs.Profiles.{read_profiles}
use Rattle.aatry_policy.proofs.policy.load.Given as goal

-- the files so far, and those that are left, make what all make
abbrev pub invariant-loop-rest : goal.invariant-loop-rest
invariant-loop-rest l =
    let top = map seen_top l.top in
    let rest = map seen_top l.rest in
    record {
      reads : l.manager.settings.language ≡ l.language;
      set : loaded l.files l.manager rest ≡ loaded l.files (new_manager_in l.language false) top;
      came : l.outcomes.items ++ outcomes l.files l.manager rest ≡ outcomes l.files (new_manager_in l.language false) top;
      origins : l.origins.items ++ origins_of (read_profiles l.language l.files (file_names rest) (outcomes l.files l.manager rest))
          ≡ origins_of (read_profiles l.language l.files (file_names top) (outcomes l.files (new_manager_in l.language false) top));
    }

abbrev pub decreases-loop-rest : goal.decreases-loop-rest
decreases-loop-rest l = length l.rest
