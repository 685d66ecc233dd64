use Rattle.aa_profile.specs.ReadPatterns.{HasReadPatterns}
use Rattle.aa_profile_data.specs.Conflicts.{profile_agrees}
use Rattle.aatry_policy.proofs.LoadLemmas.{folder-apart, folder-entries}
use Rattle.aatry_policy.proofs.LoadedLemmas.{loaded-fit, loaded-named, loaded-parts, loaded-passes}
use Rattle.aatry_policy.proofs.loaded.what_folders_load.Goals as goal

pub returns-clause-names_apart : goal.returns-clause-names_apart
returns-clause-names_apart c = folder-apart c.what_changes_keep.ensures

pub returns-clause-file_names : goal.returns-clause-file_names
returns-clause-file_names c =
    loaded-named c.what_changes_keep.ensures c.how_profiles_are_named.ensures.each_name_is_as_the_grammar_says c.how_profiles_are_named.ensures.no_two_children_have_one_name

pub returns-clause-states : goal.returns-clause-states
returns-clause-states c = folder-entries c.what_changes_keep.ensures

pub returns-clause-rules_agree : goal.returns-clause-rules_agree
returns-clause-rules_agree c = loaded-passes c.what_changes_keep.ensures profile_agrees c.which_rules_agree.ensures

pub returns-clause-patterns_read : goal.returns-clause-patterns_read
returns-clause-patterns_read c = loaded-fit HasReadPatterns c.which_patterns_read.ensures c.what_changes_keep.ensures

pub returns-clause-parts : goal.returns-clause-parts
returns-clause-parts c = loaded-parts
