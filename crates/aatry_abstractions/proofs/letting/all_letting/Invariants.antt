use Rattle.std.proofs.Common.{◌≡◌, map, take}
use Rattle.std.specs.Prelude.{flat_map}
use Rattle.aa_profile_data.specs.SeenRequests.{request_of}
use Rattle.aatry_abstractions.specs.Letting.{letting_of}
use Rattle.aatry_abstractions.specs.Probes.{probed}
use Rattle.aatry_abstractions.specs.SeenLetting.{seen_letting}
use Rattle.aatry_abstractions.proofs.letting.all_letting.Given as goal

-- the abstractions among the files so far
abbrev pub invariant-loop-place : goal.invariant-loop-place
invariant-loop-place l =
    map seen_letting l.found.items ≡ flat_map (letting_of l.language (probed l.files) (map request_of l.requests)) (take l.place l.files)
