-- Rules with one letter less than another.
use Rattle.std.specs.Prelude.{ℕ, Bool, ◌==◌, if◌then◌else◌, None, is_some}
use Rattle.aa_profile_data.specs.Access.{EXEC, has, without}
use Rattle.aa_profile_data.specs.declared.profile.FileRule.{FileRule}

-- a rule on files has a letter: in its access, or, where that is `x`, by an exec word
abbrev pub has_letter : ℕ → FileRule → Bool
has_letter letter rule = if letter == EXEC then is_some rule.exec else has rule.access.0 letter

-- a rule on files without a letter
abbrev pub but_letter : ℕ → FileRule → FileRule
but_letter letter rule = record {
  pattern = rule.pattern;
  access = record { 0 = without rule.access.0 letter };
  exec = if letter == EXEC then None else rule.exec;
  rank = rule.rank;
  link = rule.link;
  owner = rule.owner;
  deny = rule.deny;
  audit = rule.audit;
}
