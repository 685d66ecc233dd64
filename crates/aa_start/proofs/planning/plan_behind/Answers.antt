use Rattle.std.proofs.Common.{◌≡◌, ◌≤◌, ℕ, Bool, true, false, List, Option, [], map, string_bytes, length, codes, None, Some, refl, sym, ap, subst, ◌∙◌, arith}
use Rattle.std.specs.Prelude.{unwrap_or, Err, Ok}
use Rattle.std.proofs.lemmas.List.{length-map}
use Rattle.aa_start.specs.Options.{asked_then, default_base}
use Rattle.aa_start.specs.declared.fault.ArgumentFault.TheVariants.{Bad}
use Rattle.aa_start.specs.Texts.{words_of}
use Rattle.aa_start.proofs.FaultLemmas.{fault_answers, memory_given}
use Rattle.aa_start.proofs.LineLemmas.{fails_of, rows_of_line, text_or, words_or}
use Rattle.aa_profile_parsing.specs.Languages.{language_named, word_of}
use Rattle.aa_profile_parsing.specs.declared.language.Language.{Language}
use Rattle.aa_start.specs.Arguments.{Asked, ForRun, Run, asked, asked_by_language, asked_in}
use Rattle.aa_start.specs.CommandLine.{command_line}
use Rattle.aa_start.specs.Plan.{IsPlanFor, run_of, run_with}
use Rattle.aa_start.proofs.RunLemmas.{asked_anyhow, asked_is, default_language, fault_by_language, is_free, is_simple_line, kinds_for, matched, truth, word_named}
use Rattle.aa_start.proofs.planning.plan_behind.Goals as goal
use Rattle.clap.specs.Lexer.{usize_max}
use Rattle.clap.specs.Matches.{one_text}
use Rattle.clap.specs.Walk.{one_of}
use Rattle.clap.specs.Words.{first_of, all_of, app_of, fault_of, found_of, rows_of}
use Rattle.clap.proofs.WalkLemmas.{first_value-rows, one_text-rows, raw_values-rows}

pub returns-in-Err-parse : goal.returns-in-Err-parse
returns-in-Err-parse c =
    let words = map string_bytes c.args.words.now in
    let counted : length words ≡ length c.args.words.now = length-map c.args.words.now string_bytes in
    let fits : length words ≤ usize_max = omega arith in
    subst (λ (a : Asked). IsPlanFor a (Err c.in-Err-parse.fault)) (sym (asked_is words))
    (fault_by_language (asked_anyhow words) c.in-Err-parse.fault
    (fault_answers run_of (asked_anyhow words) (fault_of command_line words) c.in-Err-parse.fault (kinds_for words fits)
    (fails_of (app_of c.in-Ok.command) command_line words c.in-Err-parse.fault c.in-Ok.ensures is_free c.in-Err-parse.ensures.err)))

-- a run that words ask for is asked for by the language of its word
by_language : (words : List (List ℕ)) (run : Run) (language : Option Language) → asked_anyhow words ≡ ForRun run → language_named run.language ≡ language
    → asked words ≡ asked_in language run
by_language words run language anyhow is = asked_is words ∙ ap (asked_then asked_by_language) anyhow ∙ ap (λ found. asked_in found run) is

pub returns-in_default : goal.returns-in_default
returns-in_default c =
    let words = map string_bytes c.args.words.now in
    let counted : length words ≡ length c.args.words.now = length-map c.args.words.now string_bytes in
    let fits : length words ≤ usize_max = omega arith in
    let found = found_of c.in-Ok-parse.matches in
    let rows = rows_of_line (app_of c.in-Ok.command) command_line words (rows_of found) c.in-Ok.ensures is_free is_simple_line c.in-Ok-parse.ensures.ok in
    let run = matched words fits rows.0 in
    let word : c.unwrap_or-word.result.now ≡ run.0.language =
    ap (λ text. text.now) c.unwrap_or-word.ensures ∙ text_or c.get_str.result _
    ∙ ap (λ text. unwrap_or text default_language) (c.get_str.ensures ∙ first_value-rows found (codes "LANGUAGE") ∙ ap (first_of (codes "LANGUAGE")) rows.1) ∙ run.2.3 in
    let none : language_named run.0.language ≡ None = ap language_named (sym (c.as_bytes.ensures.value ∙ word)) ∙ sym c.named.ensures ∙ c.in_default.is in
    subst (λ (a : Asked). IsPlanFor a (Err Bad)) (sym (by_language words run.0 None run.1 none)) tt

pub returns-in-Ok-planned : goal.returns-in-Ok-planned
returns-in-Ok-planned c =
    let words = map string_bytes c.args.words.now in
    let counted : length words ≡ length c.args.words.now = length-map c.args.words.now string_bytes in
    let fits : length words ≤ usize_max = omega arith in
    let found = found_of c.in-Ok-parse.matches in
    let rows = rows_of_line (app_of c.in-Ok.command) command_line words (rows_of found) c.in-Ok.ensures is_free is_simple_line c.in-Ok-parse.ensures.ok in
    let run = matched words fits rows.0 in
    let word : c.unwrap_or-word.result.now ≡ run.0.language =
    ap (λ text. text.now) c.unwrap_or-word.ensures ∙ text_or c.get_str.result _
    ∙ ap (λ text. unwrap_or text default_language) (c.get_str.ensures ∙ first_value-rows found (codes "LANGUAGE") ∙ ap (first_of (codes "LANGUAGE")) rows.1) ∙ run.2.3 in
    let some : language_named run.0.language ≡ Some c.in-Some.language =
    ap language_named (sym (c.as_bytes.ensures.value ∙ word)) ∙ sym c.named.ensures ∙ c.in-Some.is in
    let names : words_of c.unwrap_or-names.result.now ≡ run.0.names =
    ap (λ given. words_of given.now) c.unwrap_or-names.ensures ∙ words_or c.get_strs.result _ refl
    ∙ ap (λ names. unwrap_or names []) (c.get_strs.ensures ∙ raw_values-rows found (codes "NAME") ∙ ap (all_of (codes "NAME")) rows.1) ∙ run.2.0 in
    let base : c.unwrap_or-base.result.now ≡ run.0.base =
    ap (λ text. text.now) c.unwrap_or-base.ensures ∙ text_or c.get_str-2.result _
    ∙ ap (λ text. unwrap_or text default_base) (c.get_str-2.ensures ∙ first_value-rows found (codes "DIR") ∙ ap (first_of (codes "DIR")) rows.1) ∙ run.2.2 in
    let mode : c.get_flag-force_complain.result ≡ run.0.force_complain =
    flag_is run.0.force_complain c.get_flag-force_complain.result (one_text found (codes "COMPLAIN"))
    (one_text-rows found (codes "COMPLAIN") ∙ ap (one_of (codes "COMPLAIN")) rows.1 ∙ run.2.1)
    c.get_flag-force_complain.ensures.value c.get_flag-force_complain.ensures.other in
    subst (λ (a : Asked). IsPlanFor a (Ok c.in-Ok-planned.plan)) (sym (by_language words run.0 (Some c.in-Some.language) run.1 some))
    (c.in-Ok-planned.ensures ∙ run_is c.in-Some.language (word_named run.0.language c.in-Some.language some) mode base names)
  where
    flag_is : (force result : Bool) (text : Option (List ℕ)) → text ≡ Some (truth force) → (text ≡ Some (codes "true") → result ≡ true)
        → (text ≡ Some (codes "false") → result ≡ false) → result ≡ force
    flag_is true result text is on off = on is
    flag_is false result text is on off = off is

    run_is : (language : Language) {l : List ℕ} {a b : Bool} {s t : List ℕ} {ns ms : List (List ℕ)} → word_of language ≡ l → a ≡ b → s ≡ t → ns ≡ ms
        → run_with language a s ns ≡ record { language = l; force_complain = b; base = t; names = ms }
    run_is language spoken mode base names = λ i. record { language = spoken i; force_complain = mode i; base = base i; names = names i }

pub returns : goal.returns
returns c = memory_given run_of (asked (map string_bytes c.args.words.now))
