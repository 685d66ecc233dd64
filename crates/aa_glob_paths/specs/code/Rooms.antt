-- For which states there is room in the buffers that are kept from step to step.
use Rattle.std.specs.Prelude.{◌≡◌, ℕ}
use Rattle.aa_glob_paths.specs.declared.fronts.Fronts.{Fronts}

-- both fronts have room for so many states
pub record HasRoom (room : ℕ) (fronts : Fronts) : Type 0 where
  pub here : fronts.here.room ≡ room
  pub next : fronts.next.room ≡ room
