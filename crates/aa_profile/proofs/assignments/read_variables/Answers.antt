use Rattle.std.proofs.Common.{map}
use Rattle.aa_profile_grammar.specs.SeenFiles.{seen_assignment}
use Rattle.aa_profile_parsing.specs.SeenTokens.{seen_tokens}
use Rattle.aa_profile.proofs.AssignmentLemmas.{file-expands}
use Rattle.aa_profile.proofs.assignments.read_variables.Goals as goal

pub returns-clause-expand : goal.returns-clause-expand
returns-clause-expand c =
    file-expands c.in_ok-variables.variables (map seen_assignment c.args.assignments.now) (seen_tokens c.args.patterns.now)
    c.what_a_text_leads_to.ensures.undefined_name_is_found_at_once c.what_a_text_leads_to.ensures.no_cyclic_variable_no_cycle c.in_ok-variables.ensures.ok c.in_ok-check_names.ensures.ok c.in_ok-check_cycles.ensures.ok
