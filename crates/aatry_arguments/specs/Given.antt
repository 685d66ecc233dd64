-- What the program makes of the words of its arguments.
use Rattle.std.specs.Prelude.{◌≡◌, option_map, string_bytes}
use Rattle.aa_start.specs.Texts.{texts}
use Rattle.aatry_arguments.specs.AskingWords.{AskingAsked, asking_with}
use Rattle.aatry_arguments.specs.CheckWords.{CheckAsked, check_with}
use Rattle.aatry_arguments.specs.Arguments.{CommandAsked, ForCheck, ForDiff, ForDiffAll, ForLog, ForPaths, ForReach, ForRules, ForSession, ForTest, ForWho, ForWhy}
use Rattle.aatry_arguments.specs.DiffAllWords.{PathComparisonAsked, path_comparison_with}
use Rattle.aatry_arguments.specs.DiffWords.{ComparisonAsked, LogAt, QuestionsAt, SourceAsked, comparison_with}
use Rattle.aatry_arguments.specs.Forms.{CallAsked}
use Rattle.aatry_arguments.specs.LogWords.{LogLinesAsked, LogTellingAsked, LogsAsked, lines_with, logs_with, telling_with}
use Rattle.aatry_arguments.specs.PathsWords.{AllPathsAsked, paths_with}
use Rattle.aatry_arguments.specs.ReachWords.{ReachAsked, reach_with}
use Rattle.aatry_arguments.specs.RulesWords.{RulesCheckAsked, rules_check_with}
use Rattle.aatry_arguments.specs.SessionWords.{SessionAsked, session_with}
use Rattle.aatry_arguments.specs.TestWords.{TestAsked, test_with}
use Rattle.aatry_arguments.specs.declared.arguments.AllPaths.{AllPaths}
use Rattle.aatry_arguments.specs.declared.arguments.Asking.{Asking}
use Rattle.aatry_arguments.specs.declared.arguments.Call.{Call}
use Rattle.aatry_arguments.specs.declared.arguments.Check.{Check}
use Rattle.aatry_arguments.specs.declared.arguments.Comparison.{Comparison}
use Rattle.aatry_arguments.specs.declared.arguments.LogLines.{LogLines}
use Rattle.aatry_arguments.specs.declared.arguments.LogTelling.{LogTelling}
use Rattle.aatry_arguments.specs.declared.arguments.Logs.{Logs}
use Rattle.aatry_arguments.specs.declared.arguments.PathComparison.{PathComparison}
use Rattle.aatry_arguments.specs.declared.arguments.Reach.{Reach}
use Rattle.aatry_arguments.specs.declared.arguments.RequestSource.{RequestSource}
use Rattle.aatry_arguments.specs.declared.arguments.RequestSource.TheVariants.{Log, Questions}
use Rattle.aatry_arguments.specs.declared.arguments.RulesCheck.{RulesCheck}
use Rattle.aatry_arguments.specs.declared.arguments.Session.{Session}
use Rattle.aatry_arguments.specs.declared.arguments.Test.{Test}
use Rattle.aatry_arguments.specs.declared.arguments.Command.{Command}
use Rattle.aatry_arguments.specs.declared.arguments.Command.TheVariants as command
use Rattle.aa_start.specs.declared.fault.ArgumentFault.{ArgumentFault}
use Rattle.aa_start.specs.declared.fault.ArgumentFault.TheVariants.{Help, Version, Memory}

-- the check that is meant
abbrev pub meant_check : Check → CheckAsked
meant_check check = check_with (string_bytes check.base) (texts check.names)

-- the check for rules that decide nothing that is meant
abbrev pub meant_rules : RulesCheck → RulesCheckAsked
meant_rules rules = rules_check_with rules.included rules.limit (meant_check rules.check)

-- the test that is meant
abbrev pub meant_test : Test → TestAsked
meant_test test = test_with (string_bytes test.base) (texts test.paths) test.accept

-- the asking that is meant
abbrev pub meant_asking : Asking → AskingAsked
meant_asking asking = asking_with (string_bytes asking.base) (texts asking.words)

-- the question about all paths that is meant
abbrev pub meant_paths : AllPaths → AllPathsAsked
meant_paths paths = paths_with paths.always paths.names paths.limit (meant_asking paths.asking)

-- the question under which profiles programs may run that is meant
abbrev pub meant_reach : Reach → ReachAsked
meant_reach reach = reach_with reach.dot reach.limit (meant_asking reach.asking)

-- which lines of logs are meant
abbrev pub meant_lines : LogLines → LogLinesAsked
meant_lines lines = lines_with lines.denied (option_map (λ name. name.items) lines.profile) lines.since

-- how the requests of logs are meant to be reported
abbrev pub meant_telling : LogTelling → LogTellingAsked
meant_telling telling = telling_with telling.strict telling.rules telling.globs

-- the logs that are meant
abbrev pub meant_logs : Logs → LogsAsked
meant_logs logs = logs_with (string_bytes logs.base) (texts logs.paths) (meant_telling logs.telling) (meant_lines logs.lines)

-- the source of requests that is meant
abbrev pub meant_source : RequestSource → SourceAsked
meant_source (Log path) = LogAt (string_bytes path)
meant_source (Questions path) = QuestionsAt (string_bytes path)

-- the comparison that is meant
abbrev pub meant_comparison : Comparison → ComparisonAsked
meant_comparison comparison =
    comparison_with (string_bytes comparison.old) (string_bytes comparison.new) (option_map meant_source comparison.source)
    comparison.stat

-- the comparison for all paths that is meant
abbrev pub meant_path_comparison : PathComparison → PathComparisonAsked
meant_path_comparison comparison =
    path_comparison_with (string_bytes comparison.old) (string_bytes comparison.new) (texts comparison.who) comparison.stat comparison.quiet_audit
    comparison.limit

-- the session that is meant
abbrev pub meant_session : Session → SessionAsked
meant_session session = session_with (string_bytes session.base)

-- the command that is meant
abbrev pub meant_command : Command → CommandAsked
meant_command (command.Check check) = ForCheck (meant_check check)
meant_command (command.CheckRules rules) = ForRules (meant_rules rules)
meant_command (command.Test test) = ForTest (meant_test test)
meant_command (command.Who asking) = ForWho (meant_asking asking)
meant_command (command.Why asking) = ForWhy (meant_asking asking)
meant_command (command.Paths paths) = ForPaths (meant_paths paths)
meant_command (command.Reach reach) = ForReach (meant_reach reach)
meant_command (command.Log logs) = ForLog (meant_logs logs)
meant_command (command.Diff comparison) = ForDiff (meant_comparison comparison)
meant_command (command.DiffAll comparison) = ForDiffAll (meant_path_comparison comparison)
meant_command (command.Session session) = ForSession (meant_session session)

-- the call that is meant
abbrev pub meant_call : Call → CallAsked
meant_call call = record { language = call.language; form = call.form; verbose = call.verbose; command = meant_command call.command }

-- help is given, if memory allows
abbrev pub IsHelp : ArgumentFault → Type 0
IsHelp (Help text) = Unit {0}
IsHelp Memory = Unit {0}
IsHelp fault = ⊥

-- the fault of another command, from the fault of words that are read like those after `check`: help is on that command
abbrev pub IsPassedOn : ArgumentFault → ArgumentFault → Type 0
IsPassedOn (Help other) fault = IsHelp fault
IsPassedOn fault passed = passed ≡ fault

-- the version is given, if memory allows
abbrev pub IsVersion : ArgumentFault → Type 0
IsVersion (Version text) = Unit {0}
IsVersion Memory = Unit {0}
IsVersion fault = ⊥
