-- The command line after `diff`, as it is described to `clap`.
use Rattle.std.specs.Prelude.{false, codes}
use Rattle.aa_start.specs.Lines.{bare_line, named_value_rule, words_rule}
use Rattle.clap.specs.Words.{App, Rule, with_rule}

-- the log
abbrev pub log_rule : Rule
log_rule = named_value_rule (codes "LOG") (codes "log")

-- the file of questions
abbrev pub questions_rule : Rule
questions_rule = named_value_rule (codes "QUESTIONS") (codes "questions")

-- the folders
abbrev pub folder_rule : Rule
folder_rule = words_rule (codes "FOLDER") false

-- the command line, with its arguments
abbrev pub diff_line : App
diff_line = with_rule (with_rule (with_rule (bare_line (codes "aatry diff")) log_rule) questions_rule) folder_rule
