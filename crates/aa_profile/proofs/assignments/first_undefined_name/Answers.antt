use Rattle.std.proofs.Common.{sym, ap, map, ◌∙◌}
use Rattle.std.specs.Option.{option_map}
use Rattle.aa_profile_grammar.specs.SeenFiles.{seen_assignment}
use Rattle.aa_profile_parsing.specs.Tokens.{place_of}
use Rattle.aa_profile_parsing.specs.SeenTokens.{seen_tokens}
use Rattle.aa_profile.proofs.AssignmentLemmas.{first_undefined-pattern, first_undefined-value}
use Rattle.aa_profile.proofs.assignments.first_undefined_name.Goals as goal

pub returns-in-Some : goal.returns-in-Some
returns-in-Some c =
    sym (first_undefined-value c.args.variables.now (map seen_assignment c.args.assignments.now) (seen_tokens c.args.patterns.now) c.in-Some.place (sym c.in-Some.ensures))

pub returns-in-None : goal.returns-in-None
returns-in-None c =
    c.first_undefined.ensures
    ∙ sym (ap (option_map place_of) (first_undefined-pattern c.args.variables.now (map seen_assignment c.args.assignments.now) (seen_tokens c.args.patterns.now) (sym c.in-None.ensures)))
