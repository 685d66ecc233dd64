-- The two folders that are compared, and how a line is printed that only one of them has.
use Rattle.std.specs.Prelude.{◌≡◌, ℕ, List, codes}
use Rattle.aatry_shared.specs.declared.side.Side.{Side}
use Rattle.aatry_shared.specs.declared.side.Side.TheVariants.{New, Old}
use Rattle.aatry_shared.specs.declared.side.Finders.{Finders}
use Rattle.aatry_policy.specs.FolderParts.{FolderParts}

-- the sign before such a line
abbrev pub sign : Side → List ℕ
sign Old = codes "- "
sign New = codes "+ "

-- the kind of its record: the new folder has less, or more
abbrev pub kind : Side → List ℕ
kind Old = codes "less"
kind New = codes "more"

-- Places are found in these two folders.
abbrev pub FindIn : FolderParts → FolderParts → Finders → Type 0
FindIn old new finders = (finders.of_old ≡ old.below) × (finders.of_new ≡ new.below)
