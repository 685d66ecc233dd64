-- The patterns by which it depends on the path of a program what its start leads to, before a change and behind it.
use Rattle.std.specs.Prelude.{ℕ, List, ◌++◌}
use Rattle.aa_decide_ready.specs.Slots.{filled}
use Rattle.aa_explain_paths.specs.Meant.{unasked_patterns}
use Rattle.aa_explain_paths.specs.Telling.{classes_among, telling_among}
use Rattle.aa_explain_reach.specs.Patterns.{attachment_patterns, start_rules, wanted_patterns}
use Rattle.aa_explain_start_changes.specs.Starters.{Starters}
use Rattle.aa_profile_data.specs.FileRules.{file_patterns}
use Rattle.aa_profile_data.specs.declared.profile.Rule.{Rule}

-- the rules of both that speak of the start of programs
abbrev pub both_rules : Starters → List Rule
both_rules starters = start_rules starters.old.asker ++ start_rules starters.new.asker

-- the pattern of all absolute paths, and those of the attachments that count, of both
abbrev pub both_others : Starters → List (List ℕ)
both_others starters =
    attachment_patterns (filled starters.old.slots) starters.old.asker ++ attachment_patterns (filled starters.new.slots) starters.new.asker

-- those of which one matches each absolute path whose program either starts
abbrev pub both_wanted : Starters → List (List ℕ)
both_wanted starters = wanted_patterns starters.old.asker ++ wanted_patterns starters.new.asker

-- all patterns that tell paths apart, and their classes
abbrev pub change_patterns : Starters → List (List ℕ)
change_patterns starters = telling_among (file_patterns (both_rules starters) ++ both_others starters) (both_wanted starters) unasked_patterns

abbrev pub change_classes : Starters → List ℕ
change_classes starters = classes_among (file_patterns (both_rules starters) ++ both_others starters) (both_wanted starters) unasked_patterns
