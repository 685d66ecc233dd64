-- Definitions for the law on shared changes.
use Rattle.std.specs.Prelude.{◌≡◌, List, filter, length}
use Rattle.std.specs.List.{Contains}
use Rattle.aatry_shared.specs.Sharing.{Group, Having, names_of, same_change}

-- the change that a part has is among some once, and names the part
pub record IsNamedOnce (groups : List Group) (having : Having) : Type 0 where
  pub once : length (filter (λ group. same_change having.change group.change) groups) ≡ 1
  pub named : Contains (names_of having.change groups) having.name
