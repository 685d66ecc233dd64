-- What is ready before the first command is read, or why nothing is.
use Rattle.std.specs.Prelude.{◌≡◌, List, Result, Ok, Err, Vec, String, drop, All}
use Rattle.aa_text_files.specs.Files.{File}
use Rattle.aaset_program.specs.declared.fault.Fault.{Fault}
use Rattle.aaset_program.specs.declared.fault.Fault.TheVariants.{BadArguments, NoMemory, Untaken}
use Rattle.aaset_program.specs.declared.stop.Stop.{Stop}
use Rattle.aaset_program.specs.declared.stop.Stop.TheVariants.{Failed, Shown}
use Rattle.aaset_program.specs.declared.ready.Ready.{Ready}
use Rattle.aa_profile_parsing.specs.Languages.{word_of}
use Rattle.aa_start.specs.Arguments.{Asked, ForHelp, ForRun, ForVersion, Nothing, Run, asked}
use Rattle.aa_start.specs.Gathering.{IsFirstFault, IsReadBelow, IsTakable, names_of, texts_of}
use Rattle.aa_start.specs.Known.{Known}
use Rattle.aa_start.specs.Names.{AreGoodNames}
use Rattle.aa_start.specs.declared.gathering.GatherFault.TheVariants as files

-- the files of a run: those of its names, in their order, with the bytes that lie below its folder, where they are known
pub record AreFilesOf (known : Known) (run : Run) (files : List File) : Type 0 where
  pub names : names_of files ≡ run.names
  pub good : AreGoodNames run.names
  pub takable : All IsTakable files
  pub read : All (IsReadBelow known run.base) files

-- What is asked for is prepared: for a run its files, its language and its mode, or its first name that can't be taken; help and the version are
-- texts to be written, and all else is bad. Memory may run out at any time.
abbrev pub IsPrepared : Known → Asked → Result Ready Stop → Type 0
IsPrepared known (ForRun run) (Ok ready) =
    AreFilesOf known run ready.files × (word_of ready.language ≡ run.language) × (ready.force_complain ≡ run.force_complain)
IsPrepared known (ForRun run) (Err (Failed (Untaken name))) = IsFirstFault known run.base run.names (files.Untaken name)
IsPrepared known ForHelp (Err (Shown text)) = Unit {0}
IsPrepared known ForVersion (Err (Shown text)) = Unit {0}
IsPrepared known Nothing (Err (Failed BadArguments)) = Unit {0}
IsPrepared known asked (Err (Failed NoMemory)) = Unit {0}
IsPrepared known asked result = ⊥

-- The words of the start ask for it, all but the first, which is the program's own name. Where they can't be had, that is the fault.
abbrev pub ArePrepared : {A B : Type 0} → Known → Result (Vec (String A) B) Fault → Result Ready Stop → Type 0
ArePrepared known (Ok words) prepared = IsPrepared known (asked (drop 1 (texts_of words))) prepared
ArePrepared known (Err fault) prepared = prepared ≡ Err (Failed fault)
