-- Where the rule leads that a request for the start of a program lacks.
use Rattle.std.proofs.Common.{◌≡◌, ◌∙◌, ℕ, ◌-◌, ◌^◌, ◌≤◌, Bool, true, false, not, ◌||◌, List, [], ◌∷◌, ◌++◌, Option, None, Some, refl, sym, ap, arith}
use Rattle.std.specs.Prelude.{bit_and, is_some}
use Rattle.std.specs.Int.{bit_at}
use Rattle.std.specs.List.{list_any}
use Rattle.std.proofs.lemmas.Bool.{false≢true}
use Rattle.std.proofs.lemmas.Bool.Decides.{nat_tests}
use Rattle.std.proofs.lemmas.Nat.Bits.{bit_at-zero, bit_at_and, bit_at_or}
use Rattle.aa_glob.specs.Laws.{quoted}
use Rattle.aa_glob_syntax.specs.Reading.{HasNoFirstFault}
use Rattle.aa_profile_data.specs.Access.{APPEND, EXEC, WRITE, common, covered, has, union, without}
use Rattle.aa_profile_data.specs.Request.{ForFile, Request}
use Rattle.aa_profile_data.specs.Cover.{covers_exec}
use Rattle.aa_profile_data.specs.declared.profile.FileRule.{FileRule}
use Rattle.aa_profile_data.specs.declared.profile.Rank.{Rank}
use Rattle.aa_profile_data.specs.declared.profile.Rank.TheVariants.{Last, Loose, Plain}
use Rattle.aa_profile_data.specs.declared.profile.Rule.{Rule}
use Rattle.aa_profile_data.specs.declared.profile.Rule.TheVariants.{Cap, File, Net, Other}
use Rattle.aa_profile_data.specs.declared.profile.Transition.{Transition}
use Rattle.aa_decide_rules.specs.Choices.{Leads, Missing, choice, choice_of, leads_aloud}
use Rattle.aa_decide_rules.specs.ExecRules.{ExecRule, Leading, applies_to, exec_rules, said_by, said_of}
use Rattle.aa_decide_rules.specs.Verdict.{allows, applies, covered_by_file, covers, denied, denies, granted, missing, with_covered, with_rule}
use Rattle.aa_explain_rules.specs.Missing.{file_rule_for, inherit, lacked, letters_for, missing_rule, transition_for}
use Rattle.aa_explain_rules.specs.Narrower.{but_letter}
use Rattle.aa_explain_rules.proofs.MissingLemmas.{MatchesItself, file-applies, file-made, lacking, lacking-low, made}
use Rattle.aa_explain_rules.proofs.NarrowLemmas.{lacked-missing}

-- the bit of `x`
has-bit : (set : ℕ) → has set EXEC ≡ true → 1 ≤ bit_at set 6
has-bit set h =
    let same : bit_and set 64 ≡ 64 = grind (arith, nat_tests) in
    let whole : bit_at (bit_and set 64) 6 ≡ bit_at 64 6 = ap (λ n. bit_at n 6) same in
    let one : bit_at 64 6 ≡ 1 = refl in
    let own = bit_at_and set 64 6 in
    omega arith

has-not : (set : ℕ) → bit_at set 6 ≡ 0 → has set EXEC ≡ false
has-not set none = by (has set EXEC) refl
  where
    by : (b : Bool) → has set EXEC ≡ b → b ≡ false
    by true e = let some = has-bit set e in absurd (omega arith)
    by false e = refl

module _ (letters : ℕ) (owned : Bool) (path : List ℕ) (asks : 1 ≤ bit_at letters 6) where
  abbrev asked : Request
  asked = ForFile letters owned path

  more : (test : Rule → Bool) (set : ℕ) (rule : Rule) → bit_at set 6 ≤ bit_at (with_rule asked test set rule) 6
  more test set rule = by (test rule) refl
    where
      by : (b : Bool) → test rule ≡ b → bit_at set 6 ≤ bit_at (with_rule asked test set rule) 6
      by true e = let is : with_rule asked test set rule ≡ union set (covers asked rule) = rw (with_rule, e) refl in let same = ap (λ n. bit_at n 6) is in let both = bit_at_or set (covers asked rule) 6 in omega arith
      by false e = let is : with_rule asked test set rule ≡ set = rw (with_rule, e) refl in let same = ap (λ n. bit_at n 6) is in omega arith

  grows : (test : Rule → Bool) (set : ℕ) (rules : List Rule) → bit_at set 6 ≤ bit_at (with_covered asked test set rules) 6
  grows test set [] = omega arith
  grows test set (rule ∷ rules) = let first = more test set rule in let rest = grows test (with_rule asked test set rule) rules in omega arith

  own-covers : (test : Rule → Bool) (set : ℕ) (rule : Rule) → test rule ≡ true → bit_at (covers asked rule) 6 ≤ bit_at (with_rule asked test set rule) 6
  own-covers test set rule e = let is : with_rule asked test set rule ≡ union set (covers asked rule) = rw (with_rule, e) refl in let same = ap (λ n. bit_at n 6) is in let both = bit_at_or set (covers asked rule) 6 in omega arith

  -- where no rule covers `x`, the first doesn't
  first-not : (d g : ℕ) (rule : Rule) (rules : List Rule) → bit_at (with_covered asked denies d (rule ∷ rules)) 6 ≡ 0 → bit_at (with_covered asked allows g (rule ∷ rules)) 6 ≡ 0
      → bit_at (covers asked rule) 6 ≡ 0
  first-not d g rule rules none nothing = by (denies rule) refl
    where
      by : (b : Bool) → denies rule ≡ b → bit_at (covers asked rule) 6 ≡ 0
      by true e = let own = own-covers denies d rule e in let rest = grows denies (with_rule asked denies d rule) rules in omega arith
      by false e = let let_it : allows rule ≡ true = ap not e in let own = own-covers allows g rule let_it in let rest = grows allows (with_rule asked allows g rule) rules in omega arith

  -- a rule on files that applies and doesn't cover it has neither an exec word nor a bare `x`
  no-exec : (rule : FileRule) → applies asked (File rule) ≡ true → bit_at (covers asked (File rule)) 6 ≡ 0 → (is_some rule.exec ≡ false) × (has rule.access.0 EXEC ≡ false)
  no-exec rule there none = by (is_some rule.exec) refl (has rule.access.0 WRITE) refl
    where
      covered_is : covers asked (File rule) ≡ common letters (covered_by_file rule)
      covered_is = rw (covers, there) refl

      empty : bit_at (covered_by_file rule) 6 ≡ 0
      empty = let own = bit_at_and letters (covered_by_file rule) 6 in let same = ap (λ n. bit_at n 6) covered_is in omega arith

      by : (b : Bool) → is_some rule.exec ≡ b → (w : Bool) → has rule.access.0 WRITE ≡ w → (is_some rule.exec ≡ false) × (has rule.access.0 EXEC ≡ false)
      by true e w f =
          let nothing : bit_at (covered_by_file rule) 6 ≡ 0 = empty in
          let is : covered_by_file rule ≡ union (covered rule.access.0) EXEC = rw (covered_by_file, e) refl in
          let same = ap (λ n. bit_at n 6) is in
          let one : bit_at EXEC 6 ≡ 1 = refl in
          let both = bit_at_or (covered rule.access.0) EXEC 6 in
          absurd (omega arith)
      by false e true f =
          let nothing : bit_at (covered_by_file rule) 6 ≡ 0 = empty in
          let is : covered_by_file rule ≡ union rule.access.0 APPEND = rw (covered_by_file, e, f) refl in
          let same = ap (λ n. bit_at n 6) is in
          let both = bit_at_or rule.access.0 APPEND 6 in
          let none : bit_at rule.access.0 6 ≡ 0 = omega arith in
          (e, has-not rule.access.0 none)
      by false e false f =
          let is : covered_by_file rule ≡ rule.access.0 = rw (covered_by_file, e, f) refl in
          let none : bit_at rule.access.0 6 ≡ 0 = sym (ap (λ n. bit_at n 6) is) ∙ empty in
          (e, has-not rule.access.0 none)

  -- so it says nothing of the start of the program
  said-nothing : (flag : Bool) (rule : FileRule) → is_some rule.exec ≡ false → has rule.access.0 EXEC ≡ false → said_of flag owned path (File rule) ≡ None
  said-nothing flag rule wordless none = by (applies_to owned path rule) refl rule.deny refl rule.exec refl
    where
      by : (a : Bool) → applies_to owned path rule ≡ a → (d : Bool) → rule.deny ≡ d → (x : Option Transition) → rule.exec ≡ x → said_of flag owned path (File rule) ≡ None
      by false a d e x f = rw (said_of, a) refl
      by true a true e x f = rw (said_of, a, said_by, e, covers_exec, wordless, none) refl
      by true a false e None f = rw (said_of, a, said_by, e, f) refl
      by true a false e (Some to) f = let some : is_some rule.exec ≡ true = ap is_some f in absurd (false≢true (sym wordless ∙ some))

  said-none : (flag : Bool) (rule : Rule) → bit_at (covers asked rule) 6 ≡ 0 → said_of flag owned path rule ≡ None
  said-none flag (File rule) none = by (applies asked (File rule)) refl
    where
      by : (a : Bool) → applies asked (File rule) ≡ a → said_of flag owned path (File rule) ≡ None
      by false e = rw (said_of, e) refl
      by true e = let without_exec = no-exec rule e none in said-nothing flag rule without_exec.0 without_exec.1
  said-none flag (Cap rule) none = refl
  said-none flag (Net rule) none = refl
  said-none flag (Other rule) none = refl

  none-said : (flag : Bool) (d g : ℕ) (rules : List Rule) → bit_at (with_covered asked denies d rules) 6 ≡ 0 → bit_at (with_covered asked allows g rules) 6 ≡ 0 → exec_rules flag owned path rules ≡ []
  none-said flag d g [] none nothing = refl
  none-said flag d g (rule ∷ rules) none nothing =
      let first : said_of flag owned path rule ≡ None = said-none flag rule (first-not d g rule rules none nothing) in
      let rest = none-said flag (with_rule asked denies d rule) (with_rule asked allows g rule) rules none nothing in
      ap (λ said. elim said [ None ↦ exec_rules flag owned path rules | Some said ↦ said ∷ exec_rules flag owned path rules ]) first ∙ rest

-- what rules say before others
exec-append : (flag owned : Bool) (path : List ℕ) (rules others : List Rule) → exec_rules flag owned path (rules ++ others) ≡ exec_rules flag owned path rules ++ exec_rules flag owned path others
exec-append flag owned path [] others = refl
exec-append flag owned path (rule ∷ rules) others =
    ap (λ rest. elim (said_of flag owned path rule) [ None ↦ rest | Some said ↦ said ∷ rest ]) (exec-append flag owned path rules others) ∙ by (said_of flag owned path rule)
  where
    by : (said : Option ExecRule) → elim said [ None ↦ exec_rules flag owned path rules ++ exec_rules flag owned path others | Some said ↦ said ∷ (exec_rules flag owned path rules ++ exec_rules flag owned path others) ]
        ≡ elim said [ None ↦ exec_rules flag owned path rules | Some said ↦ said ∷ exec_rules flag owned path rules ] ++ exec_rules flag owned path others
    by None = refl
    by (Some said) = refl

one-leads : (rank : Rank) (audited : Bool) → (logged : Bool) × (choice_of (Leading inherit rank audited ∷ []) ≡ Leads inherit logged)
one-leads Last audited = (list_any (leads_aloud Last) (Leading inherit Last audited ∷ []), refl)
one-leads Loose audited = (list_any (leads_aloud Loose) (Leading inherit Loose audited ∷ []), refl)
one-leads Plain audited = (list_any (leads_aloud Plain) (Leading inherit Plain audited ∷ []), refl)

-- What a request lacks has `x`: then it asks for it, and no rule covers it.
module _ (letters : ℕ) (owned : Bool) (path : List ℕ) (rules : List Rule) (none : denied (ForFile letters owned path) rules ≡ 0) (lacks : has (missing (ForFile letters owned path) rules) EXEC ≡ true) where
  abbrev start : Request
  start = ForFile letters owned path

  bits : (1 ≤ bit_at letters 6) × (bit_at (granted start rules) 6 ≡ 0)
  bits =
      let some = has-bit (missing start rules) lacks in
      let is : missing start rules ≡ lacking letters (granted start rules) = ap (λ d. without letters (union d (without (granted start rules) d))) none in
      let same = ap (λ n. bit_at n 6) is in
      let low = lacking-low letters (granted start rules) 6 (omega arith) in
      (omega arith, omega arith)

  nothing-said : (flag : Bool) → exec_rules flag owned path rules ≡ []
  nothing-said flag = none-said letters owned path bits.0 flag 0 0 rules (ap (λ n. bit_at n 6) none ∙ bit_at-zero 6) bits.1

  behind : (flag : Bool) (rule : Rule) → exec_rules flag owned path (rules ++ rule ∷ []) ≡ exec_rules flag owned path (rule ∷ [])
  behind flag rule = exec-append flag owned path rules (rule ∷ []) ∙ ap (λ said. said ++ exec_rules flag owned path (rule ∷ [])) (nothing-said flag)

  pub leads-behind : MatchesItself → HasNoFirstFault (quoted path) → (flag : Bool)
      → (logged : Bool) × (choice flag owned path (rules ++ File (file_rule_for owned path (missing start rules)) ∷ []) ≡ Leads inherit logged)
  leads-behind matched fine flag =
      let own = file_rule_for owned path (missing start rules) in
      let there : applies_to owned path own ≡ true = file-applies matched letters owned path (missing start rules) fine in
      let word : own.exec ≡ Some inherit = rw (transition_for, lacks) refl in
      let said : said_of flag owned path (File own) ≡ Some (Leading inherit own.rank (flag || false)) = rw (said_of, there, said_by, word) refl in
      let list : exec_rules flag owned path (File own ∷ []) ≡ Leading inherit own.rank (flag || false) ∷ [] =
      ap (λ said. elim said [ None ↦ [] | Some said ↦ said ∷ [] ]) said in
      let (logged, is) = one-leads own.rank (flag || false) in
      (logged, ap choice_of (behind flag (File own) ∙ list) ∙ is)

  pub missing-behind : (flag : Bool) → has (without (letters_for (missing start rules)) EXEC) EXEC ≡ false
      → choice flag owned path (rules ++ File (but_letter EXEC (file_rule_for owned path (missing start rules))) ∷ []) ≡ Missing
  missing-behind flag bare =
      let own = but_letter EXEC (file_rule_for owned path (missing start rules)) in
      let said : said_of flag owned path (File own) ≡ None = said-nothing letters owned path bits.0 flag own refl bare in
      let list : exec_rules flag owned path (File own ∷ []) ≡ [] = ap (λ said. elim said [ None ↦ [] | Some said ↦ said ∷ [] ]) said in
      ap choice_of (behind flag (File own) ∙ list)

-- the rule that such a request lacks
module _ (letters : ℕ) (owned : Bool) (path : List ℕ) (rules : List Rule) where
  abbrev question : Request
  question = ForFile letters owned path

  lacks-exec : denied question rules ≡ 0 → has (lacked question rules) EXEC ≡ true → has (missing question rules) EXEC ≡ true
  lacks-exec none h = ap (λ n. has n EXEC) (sym (lacked-missing question rules none)) ∙ h

  pub missing-leads : MatchesItself → (rule : Rule) → missing_rule question rules ≡ Some rule → has (lacked question rules) EXEC ≡ true
      → (flag : Bool) → (logged : Bool) × (choice flag owned path (rules ++ rule ∷ []) ≡ Leads inherit logged)
  missing-leads matched rule h lacks flag =
      let own = made question rules rule h in
      let (is, fine) = file-made letters owned path (missing question rules) rule own.1 in
      let (logged, leads) = leads-behind letters owned path rules own.0 (lacks-exec own.0 lacks) matched fine flag in
      (logged, ap (λ rule. choice flag owned path (rules ++ rule ∷ [])) is ∙ leads)

  pub missing-leads-not : (rule : FileRule) → missing_rule question rules ≡ Some (File rule) → has (lacked question rules) EXEC ≡ true
      → (flag : Bool) → choice flag owned path (rules ++ File (but_letter EXEC rule) ∷ []) ≡ Missing
  missing-leads-not rule h lacks flag =
      let own = made question rules (File rule) h in
      let needs = missing question rules in
      let made_for : File rule ≡ File (file_rule_for owned path needs) = (file-made letters owned path needs (File rule) own.1).0 in
      let is : rule ≡ file_rule_for owned path needs = cc in
      let gone : bit_at (2 ^ 8 - 1 - EXEC) 6 ≡ 0 = refl in
      let both = bit_at_and (letters_for needs) (2 ^ 8 - 1 - EXEC) 6 in
      let none : bit_at (without (letters_for needs) EXEC) 6 ≡ 0 = omega arith in
      ap (λ rule. choice flag owned path (rules ++ File (but_letter EXEC rule) ∷ [])) is
      ∙ missing-behind letters owned path rules own.0 (lacks-exec own.0 lacks) flag (has-not (without (letters_for needs) EXEC) none)
