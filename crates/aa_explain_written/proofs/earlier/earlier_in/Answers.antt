use Rattle.std.proofs.Common.{◌≡◌, ◌∙◌, [], map, Ok, ap, refl, sym}
use Rattle.std.proofs.lemmas.Result.{IfOk-weaker}
use Rattle.aa_explain_written.proofs.VariableLemmas.{variables-made}
use Rattle.aa_explain_written.specs.EarlierRules.{earlier_in, earlier_with}
use Rattle.aa_profile.proofs.AssignmentLemmas.{file-expands}
use Rattle.aa_profile.specs.Assignments.{all_assigned, variables_of}
use Rattle.aa_profile_grammar.specs.SeenFiles.{seen_assignment, seen_file, seen_profile}
use Rattle.aa_profile_parsing.specs.SeenTokens.{seen_tokens}
use Rattle.aa_profile_grammar.specs.PatternTokens.{of_profiles}
use Rattle.aa_explain_written.proofs.earlier.earlier_in.Goals as goal

pub earlier_with-requires-clause-expand : goal.earlier_with-requires-clause-expand
earlier_with-requires-clause-expand c =
    let assignments = map seen_assignment c.args.file.now.assignments.items in
    let patterns = of_profiles (map seen_profile c.args.file.now.profiles.items) in
    let assigned : all_assigned [] assignments ≡ Ok c.in_ok-variables.variables = rw c.deref-2.ensures.value at c.in_ok-variables.ensures.ok in
    let none = variables-made c.args.language (seen_file c.args.file.now) c.in_ok-variables.variables c.args.place assigned c.requires.refused in
    let tokens : seen_tokens c.deref-3.result.now ≡ patterns =
    ap seen_tokens c.deref-3.ensures.value ∙ c.in_ok-patterns.ensures ∙ ap (λ profiles. of_profiles (map seen_profile profiles)) c.deref.ensures.value
    in
    rw tokens
    (file-expands c.in_ok-variables.variables assignments patterns c.what_a_text_leads_to.ensures.undefined_name_is_found_at_once c.what_a_text_leads_to.ensures.no_cyclic_variable_no_cycle assigned none.0 none.1)

pub returns : goal.returns
returns c =
    let assignments = map seen_assignment c.args.file.now.assignments.items in
    let patterns = of_profiles (map seen_profile c.args.file.now.profiles.items) in
    let assigned : all_assigned [] assignments ≡ Ok c.in_ok-variables.variables = rw c.deref-2.ensures.value at c.in_ok-variables.ensures.ok in
    let none = variables-made c.args.language (seen_file c.args.file.now) c.in_ok-variables.variables c.args.place assigned c.requires.refused in
    let own : variables_of assignments patterns ≡ Ok c.in_ok-variables.variables = rw (variables_of, assigned, none.0, none.1) refl in
    let same : earlier_in c.args.language (seen_file c.args.file.now) c.args.place ≡ earlier_with c.args.language c.in_ok-variables.variables (seen_file c.args.file.now) c.args.place = rw (earlier_in, own) refl in
    IfOk-weaker c.earlier_with.result (λ found. found ≡ earlier_with c.args.language c.in_ok-variables.variables (seen_file c.args.file.now) c.args.place)
    (λ found. found ≡ earlier_in c.args.language (seen_file c.args.file.now) c.args.place) (λ found is. is ∙ sym same) c.earlier_with.ensures
