use Rattle.std.proofs.Common.{◌≡◌, ◌∙◌, Ok, ap, sym}
use Rattle.aa_explain_written.proofs.ReadingLemmas.{refused-written}
use Rattle.aa_profile.proofs.GrammarLemmas.{assignments-valued}
use Rattle.aa_profile_grammar.specs.SeenFiles.{seen_file}
use Rattle.aa_profile_parsing.specs.SeenTokens.{seen_tokens}
use Rattle.aa_text_tokens.specs.Splicing.{spliced}
use Rattle.aa_explain_written.proofs.earlier.earlier_in_file.Goals as goal

pub earlier_in-requires-clause-valued : goal.earlier_in-requires-clause-valued
earlier_in-requires-clause-valued c = assignments-valued c.args.language (seen_tokens c.deref.result.now) (seen_file c.in_ok-file.file) c.in_ok-file.ensures.ok

pub earlier_in-requires-clause-refused : goal.earlier_in-requires-clause-refused
earlier_in-requires-clause-refused c =
    let cut : spliced c.args.files.now c.args.name.now ≡ Ok (seen_tokens c.deref.result.now) = c.in_ok-tokens.ensures.ok ∙ ap (λ tokens. Ok (seen_tokens tokens)) (sym c.deref.ensures.value) in
    refused-written c.args.language c.args.files.now c.args.name.now (seen_tokens c.deref.result.now) (seen_file c.in_ok-file.file) c.args.place cut c.in_ok-file.ensures.ok c.requires
