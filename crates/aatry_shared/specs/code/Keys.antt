-- Changes as keys of a table.
use Rattle.std.specs.Prelude.{ℕ, Bool, List, ◌++◌}
use Rattle.std.specs.Hash as fed
use Rattle.aatry_shared.specs.SeenSharing.{seen_change}
use Rattle.aatry_shared.specs.Sharing.{Change, same_change}
use Rattle.aatry_shared.specs.declared.change.Change.{Change as CodeChange}

-- what is hashed of a change: equal changes have equal hashes
abbrev pub hashed : Change → List (List ℕ)
hashed change = fed.slice fed.u8 change.text ++ (fed.usize change.place.file ++ fed.usize change.place.at)

-- two changes of the code are the same
abbrev pub same_key : CodeChange → CodeChange → Bool
same_key one other = same_change (seen_change one) (seen_change other)
