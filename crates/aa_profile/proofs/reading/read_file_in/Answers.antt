use Rattle.std.proofs.Common.{◌≡◌, true}
use Rattle.std.specs.List.{list_all}
use Rattle.std.proofs.lemmas.Result.{IfOk-weaker}
use Rattle.aa_profile_grammar.specs.SeenFiles.{seen_file}
use Rattle.aa_profile_parsing.specs.SeenTokens.{seen_tokens}
use Rattle.aa_profile_data.specs.Numbers.{profile_has_known_numbers}
use Rattle.aa_profile.proofs.GrammarLemmas.{assignments-valued}
use Rattle.aa_profile.proofs.NameLemmas.{ProfilesFit, profiles-fit}
use Rattle.aa_profile.proofs.NumberLemmas.{profiles-known}
use Rattle.aa_profile.proofs.ReadingLemmas.{AllAgree, fit-told, read-agree}
use Rattle.aa_profile.proofs.reading.read_file_in.Goals as goal

pub read_written-requires : goal.read_written-requires
read_written-requires c = assignments-valued c.args.language (seen_tokens c.deref.result.now) (seen_file c.in_ok-file.file) c.in_ok-file.ensures.ok

pub returns-clause-distinct : goal.returns-clause-distinct
returns-clause-distinct c =
    IfOk-weaker c.read_written.result _ _ (λ read fit. fit.distinct) (fit-told c.args.language ProfilesFit (λ variables tokens written is fine. profiles-fit c.args.language variables tokens written is) (seen_tokens c.deref.result.now) (seen_file c.in_ok-file.file) c.read_written.result c.in_ok-file.ensures.ok c.read_written.ensures.ok)

pub returns-clause-named : goal.returns-clause-named
returns-clause-named c =
    IfOk-weaker c.read_written.result _ _ (λ read fit. fit.named) (fit-told c.args.language ProfilesFit (λ variables tokens written is fine. profiles-fit c.args.language variables tokens written is) (seen_tokens c.deref.result.now) (seen_file c.in_ok-file.file) c.read_written.result c.in_ok-file.ensures.ok c.read_written.ensures.ok)

pub returns-clause-children : goal.returns-clause-children
returns-clause-children c =
    IfOk-weaker c.read_written.result _ _ (λ read fit. fit.children) (fit-told c.args.language ProfilesFit (λ variables tokens written is fine. profiles-fit c.args.language variables tokens written is) (seen_tokens c.deref.result.now) (seen_file c.in_ok-file.file) c.read_written.result c.in_ok-file.ensures.ok c.read_written.ensures.ok)

pub returns-clause-numbers : goal.returns-clause-numbers
returns-clause-numbers c =
    fit-told c.args.language (λ profiles. list_all profile_has_known_numbers profiles ≡ true) (λ variables tokens written is fine. profiles-known c.which_numbers_rules_have.ensures c.args.language variables tokens written is) (seen_tokens c.deref.result.now) (seen_file c.in_ok-file.file) c.read_written.result c.in_ok-file.ensures.ok c.read_written.ensures.ok

pub returns-clause-agree : goal.returns-clause-agree
returns-clause-agree c = fit-told c.args.language AllAgree (read-agree c.args.language) (seen_tokens c.deref.result.now) (seen_file c.in_ok-file.file) c.read_written.result c.in_ok-file.ensures.ok c.read_written.ensures.ok
