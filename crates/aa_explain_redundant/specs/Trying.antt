-- The patterns by which paths are told apart where written rules are tried.
use Rattle.std.specs.Prelude.{ℕ, List}
use Rattle.std.specs.List.{filter}
use Rattle.aa_explain_paths.specs.Meant.{unasked_patterns}
use Rattle.aa_explain_paths.specs.Telling.{telling_patterns}
use Rattle.aa_profile_data.specs.FileRules.{file_patterns}
use Rattle.aa_explain_redundant.specs.Left.{Numbered, WrittenRules, is_made_of, numbered, rules_among}

-- the patterns of the rules on files that were made of some written rules
abbrev pub tried_patterns : List ℕ → List Numbered → List (List ℕ)
tried_patterns tried rules = file_patterns (rules_among (filter (is_made_of tried) rules))

-- the patterns of all rules on files, those of the written rules that are tried, and those of paths that the kernel never asks about
abbrev pub trying_patterns : WrittenRules → List ℕ → List (List ℕ)
trying_patterns rules tried = telling_patterns rules.rules (tried_patterns tried (numbered rules)) unasked_patterns
