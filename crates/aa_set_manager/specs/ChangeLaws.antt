-- What every change keeps.
use Rattle.std.specs.Prelude.{◌≡◌, true, List, IfOk}
use Rattle.aa_text_files.specs.Files.{File}
use Rattle.aa_decide_ready.specs.Entries.{Loaded}
use Rattle.aa_decide_ready.specs.Named.{have_distinct_names}
use Rattle.aa_set_commands.specs.Command.{PolicyChange}
use Rattle.aa_set_manager.specs.Changes.{changed}
use Rattle.aa_set_manager.specs.declared.settings.Settings.{Settings}

-- no change gives two entries one name
abbrev pub ChangesKeepNamesApart : Type 0
ChangesKeepNamesApart =
    (files : List File) (settings : Settings) (entries : List Loaded) (change : PolicyChange)
    → have_distinct_names entries ≡ true
    → IfOk (changed files settings entries change) (λ set. have_distinct_names set ≡ true)
