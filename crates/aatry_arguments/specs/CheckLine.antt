-- The command line after `check`, as it is described to `clap`.
use Rattle.std.specs.Prelude.{false, codes}
use Rattle.aa_start.specs.Lines.{bare_line, value_rule, words_rule}
use Rattle.aa_start.specs.Options.{base_letter}
use Rattle.clap.specs.Words.{App, Rule, with_rule}

-- the folder of policy
abbrev pub base_rule : Rule
base_rule = value_rule (codes "DIR") base_letter

-- the names, of which there may be none
abbrev pub name_rule : Rule
name_rule = words_rule (codes "NAME") false

-- the command line, with its arguments
abbrev pub check_line : App
check_line = with_rule (with_rule (bare_line (codes "aatry check")) base_rule) name_rule
