-- The command line, as it is described to `clap`.
use Rattle.std.specs.Prelude.{true, codes}
use Rattle.aa_start.specs.Lines.{bare_line, flag_rule, named_value_rule, value_rule, with_version, words_rule}
use Rattle.aa_start.specs.Options.{base_letter}
use Rattle.aa_start.specs.Arguments.{complain_letter, language_name}
use Rattle.clap.specs.Words.{App, Rule, with_rule}
use Rattle.clap.specs.Simple.{on_top}

-- the word of the language by which files are read
abbrev pub language_rule : Rule
language_rule = named_value_rule (codes "LANGUAGE") language_name

-- whether every profile is taken in complain mode
abbrev pub complain_rule : Rule
complain_rule = flag_rule (codes "COMPLAIN") complain_letter

-- the folder of the names
abbrev pub base_rule : Rule
base_rule = value_rule (codes "DIR") base_letter

-- the names: one at least
abbrev pub name_rule : Rule
name_rule = words_rule (codes "NAME") true

-- the command line without its arguments; the program prints its version
abbrev pub versioned_line : App
versioned_line = on_top with_version (bare_line (codes "aaset"))

-- the command line, with its arguments
abbrev pub command_line : App
command_line = with_rule (with_rule (with_rule (with_rule versioned_line complain_rule) language_rule) base_rule) name_rule
