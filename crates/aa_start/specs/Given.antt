-- What a program makes of what words ask for.
use Rattle.std.specs.Prelude.{◌≡◌, ◌⊎◌, true, List, [], Result, Ok, Err}
use Rattle.aa_start.specs.Options.{Asked, ForHelp, ForThis, ForVersion, Nothing}
use Rattle.aa_start.specs.declared.fault.ArgumentFault.{ArgumentFault}
use Rattle.aa_start.specs.declared.fault.ArgumentFault.TheVariants.{Help, Version, Bad, Memory}
use Rattle.clap.specs.Words.{App, IsAmong, Row, Text, fault_of, is_simple, is_simple_and_free, matches_of}
use Rattle.clap.specs.declared.error.kind.ErrorKind.{ErrorKind}
use Rattle.clap.specs.declared.error.kind.ErrorKind.TheVariants as kind

-- Where a thing is asked for it is given, help and the version are given where they are asked for, and all else is refused. Memory may run out at
-- any time.
abbrev pub IsGivenFor : {A B : Type 0} → (B → A) → Asked A → Result B ArgumentFault → Type 0
IsGivenFor meant (ForThis asked) (Ok given) = meant given ≡ asked
IsGivenFor meant ForHelp (Err (Help text)) = Unit {0}
IsGivenFor meant ForVersion (Err (Version text)) = Unit {0}
IsGivenFor meant Nothing (Err Bad) = Unit {0}
IsGivenFor meant asked (Err Memory) = Unit {0}
IsGivenFor meant asked result = ⊥

-- what an error of the parse is to the program
abbrev pub IsFaultFor : ErrorKind → ArgumentFault → Type 0
IsFaultFor kind.DisplayHelp (Help text) = Unit {0}
IsFaultFor kind.DisplayHelp Memory = Unit {0}
IsFaultFor kind.DisplayHelp fault = ⊥
IsFaultFor kind.DisplayVersion (Version text) = Unit {0}
IsFaultFor kind.DisplayVersion Memory = Unit {0}
IsFaultFor kind.DisplayVersion fault = ⊥
IsFaultFor kind.OutOfMemory Memory = Unit {0}
IsFaultFor kind.OutOfMemory fault = ⊥
IsFaultFor other Bad = Unit {0}
IsFaultFor other fault = ⊥

-- the parse of words fails, by a fault of a kind that can occur there, or for want of memory
abbrev pub FailsAs : App → List Text → ArgumentFault → Type 0
FailsAs line words fault = is_simple_and_free line ≡ true
    → (k : ErrorKind) × ((k ≡ kind.OutOfMemory) ⊎ IsAmong k (fault_of line words)) × IsFaultFor k fault

-- the parse of words succeeds, and gives these rows
abbrev pub GivesRows : App → List Text → List Row → Type 0
GivesRows line words rows = is_simple_and_free line ≡ true → is_simple line ≡ true → (fault_of line words ≡ []) × (rows ≡ matches_of line words)
