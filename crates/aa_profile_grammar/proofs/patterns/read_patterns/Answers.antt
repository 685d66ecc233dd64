use Rattle.std.proofs.Common.{◌∙◌, sym, ap, map}
use Rattle.std.specs.Option.{option_map}
use Rattle.std.proofs.lemmas.Result.{IfErr-weaker, IfOk-weaker}
use Rattle.aa_text_tokens.specs.SeenSplicedTokens.{seen_spliced}
use Rattle.aa_profile_parsing.specs.Tokens.{place_of, text_of}
use Rattle.aa_text_variables.specs.Expansions.{expansions}
use Rattle.aa_glob_syntax.specs.Slashes.{collapsed}
use Rattle.aa_profile_grammar.specs.Patterns.{refusal_of_expansions}
use Rattle.aa_profile_parsing.specs.ProfileError.{placed}
use Rattle.aa_profile_grammar.proofs.PatternLemmas.{both, patterns_told, refusals_told}
use Rattle.aa_profile_grammar.proofs.patterns.read_patterns.Goals as goal

pub returns-clause-ok : goal.returns-clause-ok
returns-clause-ok c =
    let ex = expansions c.args.table.now (text_of (seen_spliced c.args.token)) in
    let told = c.in_ok-texts.ensures.texts in
    let same = ap refusal_of_expansions told ∙ refusals_told ex in
    both c.read_expansions.result _ _ _ (λ patterns items fine. items ∙ ap (map collapsed) told ∙ patterns_told ex (sym same ∙ fine)) c.read_expansions.ensures.ok c.read_expansions.ensures.fine

pub returns-clause-fine : goal.returns-clause-fine
returns-clause-fine c =
    let ex = expansions c.args.table.now (text_of (seen_spliced c.args.token)) in
    let told = c.in_ok-texts.ensures.texts in
    let same = ap refusal_of_expansions told ∙ refusals_told ex in
    IfOk-weaker c.read_expansions.result _ _ (λ patterns fine. ap (option_map (λ refusal. placed refusal (place_of (seen_spliced c.args.token)))) (sym same ∙ fine)) c.read_expansions.ensures.fine

pub returns-clause-refused : goal.returns-clause-refused
returns-clause-refused c =
    let ex = expansions c.args.table.now (text_of (seen_spliced c.args.token)) in
    let told = c.in_ok-texts.ensures.texts in
    let same = ap refusal_of_expansions told ∙ refusals_told ex in
    IfErr-weaker c.read_expansions.result _ _ (λ error told other. ap (option_map (λ refusal. placed refusal (place_of (seen_spliced c.args.token)))) (sym same) ∙ rw c.place_of.ensures at (told other)) c.read_expansions.ensures.refused
