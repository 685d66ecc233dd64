-- What is wrong with a file of policy, in words.
use Rattle.std.specs.Prelude.{ℕ, List, codes}
use Rattle.aa_glob_syntax.specs.PatternError as pattern
use Rattle.aa_profile_parsing.specs.declared.profile_error.ProfileRefusal.{ProfileRefusal}
use Rattle.aa_profile_parsing.specs.declared.profile_error.ProfileRefusal.TheVariants as refusal
use Rattle.aa_profile_parsing.specs.declared.fault.GrammarRefusal.{GrammarRefusal}
use Rattle.aa_profile_parsing.specs.declared.fault.GrammarRefusal.TheVariants as grammar
use Rattle.aa_text_files.specs.TextError as text

-- what is wrong with its grammar
abbrev pub words_of_grammar : GrammarRefusal → List ℕ
words_of_grammar grammar.BadToken = codes "unexpected token or end of file"
words_of_grammar grammar.OpenBlock = codes "this brace isn't closed"
words_of_grammar grammar.BadFlag = codes "there is no such flag, or two mode flags conflict"
words_of_grammar grammar.BadAccess = codes "the access has an invalid letter or exec word"
words_of_grammar grammar.WriteAppend = codes "the access has both `w` and `a`"
words_of_grammar grammar.TwoExec = codes "the access has two different exec words"
words_of_grammar grammar.ExecQualifier = codes "a deny rule has an exec word, or another rule a bare `x`"
words_of_grammar grammar.TargetWithoutExec = codes "this rule can have no target"
words_of_grammar grammar.BadCapability = codes "there is no such capability"
words_of_grammar grammar.BadNetwork = codes "there is no such domain, type or protocol, or it isn't allowed here"
words_of_grammar grammar.TwiceNamed = codes "this name is already used"
words_of_grammar grammar.NestedChild = codes "a child or hat is nested in another"
words_of_grammar grammar.LateAssignment = codes "a variable is assigned after the first profile"
words_of_grammar grammar.NoProfile = codes "the file has no profile"
words_of_grammar grammar.BadName = codes "no profile, child, hat or target can have this name"
words_of_grammar grammar.LeftOut = codes "AppArmor has this; here it isn't read"
words_of_grammar grammar.Memory = codes "memory ran out"

-- what is wrong by whatever a file is refused for
abbrev pub words_of : ProfileRefusal → List ℕ
words_of (refusal.Pattern error) = pattern.words_of error
words_of (refusal.Text error) = text.words_of error
words_of (refusal.Grammar error) = words_of_grammar error
words_of refusal.TooManyRules = codes "the file has more than 16,384 patterns, each expansion counted"
words_of refusal.ManyStates = codes "the patterns of its exec rules have more than 8,192 different beginnings"
words_of refusal.ExecConflict = codes "this rule and an earlier one disagree on where a program runs"
words_of refusal.Memory = codes "memory ran out"
