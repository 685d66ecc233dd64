use Rattle.std.proofs.Common.{◌≡◌, ◌≤◌, ℕ, List, [], Option, map, string_bytes, length, codes, refl, sym, ap, subst, ◌∙◌, arith}
use Rattle.std.specs.Prelude.{unwrap_or}
use Rattle.std.proofs.lemmas.List.{length-map}
use Rattle.aa_start.specs.Given.{IsGivenFor}
use Rattle.aa_start.specs.Options.{Asked, Open, asked_then}
use Rattle.aa_start.specs.Texts.{words_of}
use Rattle.aa_start.proofs.FaultLemmas.{fault_answers}
use Rattle.aa_start.proofs.LineLemmas.{fails_of, kinds_asked, rows_asked, rows_of_line, words_or}
use Rattle.aa_start.proofs.RowLemmas.{value_shown, words_shown}
use Rattle.clap.specs.Lexer.{usize_max}
use Rattle.clap.specs.Words.{all_of, app_of, fault_of, first_of, found_of, matches_of, rows_of}
use Rattle.clap.proofs.WalkLemmas.{first_value-rows, raw_values-rows}
use Rattle.aatry_arguments.specs.DiffLine.{diff_line}
use Rattle.aatry_arguments.specs.DiffAllWords.{asked_of}
use Rattle.aatry_arguments.specs.DiffWords.{DiffGiven, bare_given, given_behind, given_with}
use Rattle.aatry_arguments.specs.Given.{meant_path_comparison}
use Rattle.aatry_arguments.proofs.AskedLemmas.{fault_given}
use Rattle.aatry_arguments.proofs.DiffLemmas.{Shows, diff_read, is_free, is_simple_line, wants_nothing}
use Rattle.aatry_arguments.proofs.diff_all_words.all_by.Goals as goal

pub returns-in-Err-parse : goal.returns-in-Err-parse
returns-in-Err-parse c =
    let words = map string_bytes c.args.words.now in
    let counted : length words ≡ length c.args.words.now = length-map c.args.words.now string_bytes in
    let fits : length words ≤ usize_max = omega arith in
    let given = given_behind (Open bare_given) words in
    let kinds = kinds_asked diff_line Shows words given wants_nothing (diff_read words fits) in
    fault_given (λ given. given) meant_path_comparison (asked_of c.args.stat c.args.quiet_audit c.args.limit) given c.in-Err-parse.fault c.passed_on.result
    (fault_answers (λ given. given) given (fault_of diff_line words) c.in-Err-parse.fault kinds
    (fails_of (app_of c.in-Ok.command) diff_line words c.in-Err-parse.fault c.in-Ok.ensures is_free c.in-Err-parse.ensures.err)) c.passed_on.ensures

pub returns : goal.returns
returns c =
    let words = map string_bytes c.args.words.now in
    let counted : length words ≡ length c.args.words.now = length-map c.args.words.now string_bytes in
    let fits : length words ≤ usize_max = omega arith in
    let found = found_of c.in-Ok-parse.matches in
    let rows = rows_of_line (app_of c.in-Ok.command) diff_line words (rows_of found) c.in-Ok.ensures is_free is_simple_line c.in-Ok-parse.ensures.ok in
    let given = rows_asked diff_line Shows words (given_behind (Open bare_given) words) wants_nothing (diff_read words fits) rows.0 in
    let log = c.get_str-log.ensures ∙ first_value-rows found (codes "LOG") ∙ ap (first_of (codes "LOG")) rows.1
    ∙ value_shown (codes "LOG") given.0.log (matches_of diff_line words) given.2.1 in
    let questions = c.get_str-questions.ensures ∙ first_value-rows found (codes "QUESTIONS") ∙ ap (first_of (codes "QUESTIONS")) rows.1
    ∙ value_shown (codes "QUESTIONS") given.0.questions (matches_of diff_line words) given.2.2 in
    let folders : words_of c.unwrap_or-others.result.now ≡ given.0.folders =
    ap (λ given. words_of given.now) c.unwrap_or-others.ensures ∙ words_or c.get_strs.result _ refl
    ∙ ap (λ names. unwrap_or names []) (c.get_strs.ensures ∙ raw_values-rows found (codes "FOLDER") ∙ ap (all_of (codes "FOLDER")) rows.1)
    ∙ words_shown (codes "FOLDER") given.0.folders (matches_of diff_line words) given.2.0 in
    let is = given_is log questions folders in
    subst (λ (a : Asked DiffGiven). IsGivenFor meant_path_comparison (asked_then (asked_of c.args.stat c.args.quiet_audit c.args.limit) a) c.path_comparison_or_fault.result) (sym given.1)
    (subst (λ g. IsGivenFor meant_path_comparison (asked_of c.args.stat c.args.quiet_audit c.args.limit g) c.path_comparison_or_fault.result) is c.path_comparison_or_fault.ensures)
  where
    given_is : {l m q r : Option (List ℕ)} {s t : List (List ℕ)} → l ≡ m → q ≡ r → s ≡ t → given_with l q s ≡ given_with m r t
    given_is log questions folders = rw (log, questions, folders) refl
