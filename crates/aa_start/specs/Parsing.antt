-- What `clap` makes of words, by what these ask for.
use Rattle.std.specs.Prelude.{◌≡◌, Bool, true, false, List, [], ◌∷◌, fold}
use Rattle.aa_start.specs.Options.{Asked, ForHelp, ForThis, ForVersion, Nothing}
use Rattle.clap.specs.Words.{App, Row, Text, fault_of, matches_of}
use Rattle.clap.specs.Simple.{built}
use Rattle.clap.specs.Faults.{check_fault}
use Rattle.clap.specs.Walk.{with_default}
use Rattle.clap.specs.Kinds.{Kinds}
use Rattle.clap.specs.declared.error.kind.ErrorKind.{ErrorKind}
use Rattle.clap.specs.declared.error.kind.ErrorKind.TheVariants as kind

-- the kinds of error that say that words ask for nothing that exists
abbrev pub is_bad : ErrorKind → Bool
is_bad kind.DisplayHelp = false
is_bad kind.DisplayVersion = false
is_bad kind.OutOfMemory = false
is_bad other = true

-- a kind of error that says that words ask for nothing that exists
abbrev pub AreBad : Kinds → Type 0
AreBad kinds = (k : ErrorKind) × (kinds ≡ k ∷ []) × (is_bad k ≡ true)

-- the rows of an App with the defaults of its rules
abbrev pub with_defaults : App → List Row → List Row
with_defaults line rows = fold with_default rows (built line).top.rules

-- The parse gives what is asked for, where nothing more is wanted of it, or fails as is asked for.
abbrev pub IsReadAs : {A : Type 0} → App → (A → List Row → Type 0) → List Text → Asked A → Type 0
IsReadAs line Shows words (ForThis given) = (rows : List Row) × Shows given rows × (matches_of line words ≡ with_defaults line rows)
    × (fault_of line words ≡ check_fault (built line).top (with_defaults line rows) false)
IsReadAs line Shows words ForHelp = fault_of line words ≡ kind.DisplayHelp ∷ []
IsReadAs line Shows words ForVersion = fault_of line words ≡ kind.DisplayVersion ∷ []
IsReadAs line Shows words Nothing = AreBad (fault_of line words)
