use Rattle.std.proofs.Common.{◌∙◌, sym, ap, map, Some}
use Rattle.std.proofs.lemmas.Result.{err_from_is_err_and}
use Rattle.aa_profile_grammar.specs.SeenFiles.{seen_head}
use Rattle.aa_profile_rules.specs.SeenRules.{seen_rule}
use Rattle.aa_profile_grammar.specs.PatternTokens.{of_head, of_rules}
use Rattle.aa_profile.proofs.ProfileLemmas.{first_bad_front}
use Rattle.aa_profile.proofs.profiles.read_child.Goals as goal

pub returns-in_err-attachments-clause-refused : goal.returns-in_err-attachments-clause-refused
returns-in_err-attachments-clause-refused c =
    let p = err_from_is_err_and c.from_residual.result c.from_residual.ensures.1 in
    let child = c.args.child.now in
    rw p.1 (λ other.
    first_bad_front c.args.table.now (of_head (seen_head child.head)) (of_rules (map seen_rule child.rules.items)) c.in_err-attachments.field-0.0 (c.in_err-attachments.ensures.refused (λ e. other (p.2 ∙ e)))
    ∙ ap Some (sym p.2))
