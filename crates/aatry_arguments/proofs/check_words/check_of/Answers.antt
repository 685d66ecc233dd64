use Rattle.std.proofs.Common.{◌≡◌, ◌≤◌, List, [], ℕ, map, string_bytes, length, codes, refl, sym, ap, subst, ◌∙◌, arith}
use Rattle.std.specs.Prelude.{unwrap_or, Ok}
use Rattle.std.proofs.lemmas.List.{length-map}
use Rattle.aa_start.specs.Given.{IsGivenFor}
use Rattle.aa_start.specs.Options.{Asked, default_base}
use Rattle.aa_start.specs.Texts.{words_of}
use Rattle.aa_start.proofs.FaultLemmas.{fault_answers, memory_given}
use Rattle.aa_start.proofs.LineLemmas.{fails_of, kinds_asked, rows_asked, rows_of_line, text_or, words_or}
use Rattle.aa_start.proofs.RowLemmas.{value_shown, words_shown}
use Rattle.clap.specs.Lexer.{usize_max}
use Rattle.clap.specs.Words.{first_of, all_of, app_of, fault_of, found_of, matches_of, rows_of}
use Rattle.clap.proofs.WalkLemmas.{first_value-rows, raw_values-rows}
use Rattle.aatry_arguments.specs.CheckLine.{check_line}
use Rattle.aatry_arguments.specs.CheckWords.{CheckAsked, asked_check, check_with}
use Rattle.aatry_arguments.specs.Given.{meant_check}
use Rattle.aatry_arguments.proofs.CheckLemmas.{Shows, check_read, is_free, is_simple_line, wants_nothing}
use Rattle.aatry_arguments.proofs.check_words.check_of.Goals as goal

pub returns-in-Err-parse : goal.returns-in-Err-parse
returns-in-Err-parse c =
    let words = map string_bytes c.args.words.now in
    let counted : length words ≡ length c.args.words.now = length-map c.args.words.now string_bytes in
    let fits : length words ≤ usize_max = omega arith in
    let kinds = kinds_asked check_line Shows words (asked_check words) wants_nothing (check_read words fits) in
    fault_answers meant_check (asked_check words) (fault_of check_line words) c.in-Err-parse.fault kinds
    (fails_of (app_of c.in-Ok.command) check_line words c.in-Err-parse.fault c.in-Ok.ensures is_free c.in-Err-parse.ensures.err)

pub returns-in-Ok-check_with_names : goal.returns-in-Ok-check_with_names
returns-in-Ok-check_with_names c =
    let words = map string_bytes c.args.words.now in
    let counted : length words ≡ length c.args.words.now = length-map c.args.words.now string_bytes in
    let fits : length words ≤ usize_max = omega arith in
    let found = found_of c.in-Ok-parse.matches in
    let rows = rows_of_line (app_of c.in-Ok.command) check_line words (rows_of found) c.in-Ok.ensures is_free is_simple_line c.in-Ok-parse.ensures.ok in
    let check = rows_asked check_line Shows words (asked_check words) wants_nothing (check_read words fits) rows.0 in
    let names : words_of c.unwrap_or-names.result.now ≡ check.0.names =
    ap (λ given. words_of given.now) c.unwrap_or-names.ensures ∙ words_or c.get_strs.result _ refl
    ∙ ap (λ names. unwrap_or names []) (c.get_strs.ensures ∙ raw_values-rows found (codes "NAME") ∙ ap (all_of (codes "NAME")) rows.1)
    ∙ words_shown (codes "NAME") check.0.names (matches_of check_line words) check.2.0 in
    let base : c.unwrap_or-base.result.now ≡ check.0.base =
    ap (λ text. text.now) c.unwrap_or-base.ensures ∙ text_or c.get_str.result _
    ∙ ap (λ text. unwrap_or text default_base) (c.get_str.ensures ∙ first_value-rows found (codes "DIR") ∙ ap (first_of (codes "DIR")) rows.1
    ∙ value_shown (codes "DIR") check.2.1.0 (matches_of check_line words) check.2.1.1) ∙ sym check.2.1.2 in
    subst (λ (a : Asked CheckAsked). IsGivenFor meant_check a (Ok c.in-Ok-check_with_names.check)) (sym check.1) (c.in-Ok-check_with_names.ensures ∙ check_is base names)
  where
    check_is : {s t : List ℕ} {ns ms : List (List ℕ)} → s ≡ t → ns ≡ ms → check_with s ns ≡ check_with t ms
    check_is base names = rw (base, names) refl

pub returns : goal.returns
returns c = memory_given meant_check (asked_check (map string_bytes c.args.words.now))
