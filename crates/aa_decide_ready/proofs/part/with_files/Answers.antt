use Rattle.std.proofs.Common.{◌≡◌, List, ℕ, ◌++◌, ◌∷◌, ◌∙◌, [], append_assoc, ap, length, subst, sym, take, arith}
use Rattle.std.specs.Prelude.{get_or}
use Rattle.std.proofs.Math.Seq.{take-length}
use Rattle.std.proofs.lemmas.List.{take_more}
use Rattle.aa_glob.specs.Built.{IsBuilt}
use Rattle.aa_profile_data.specs.FileRules.{file_patterns}
use Rattle.aa_decide_ready.proofs.PartLemmas.{file_patterns-append}
use Rattle.aa_decide_ready.proofs.part.with_files.Goals as goal

pub loop-rule-preserved : goal.loop-rule-preserved
loop-rule-preserved c = λ patterns built.
    let rules = c.args.rules.now in
    let at = c.loop-rule.rule-index in
    let rule = c.rule-item.result in
    subst (λ (l : List (List ℕ)). IsBuilt c.in_ok-added.added l)
    (append_assoc patterns (file_patterns (take at rules)) (file_patterns (rule ∷ []))
    ∙ ap (λ l. patterns ++ l)
    (ap (λ r. file_patterns (take at rules) ++ file_patterns (r ∷ [])) c.rule-item.is
    ∙ sym (file_patterns-append (take at rules) (get_or rules at rule ∷ []))
    ∙ ap file_patterns (sym (take_more rules at rule c.loop-rule-test.true))))
    (c.in_ok-added.ensures (patterns ++ file_patterns (take at rules)) (c.loop-rule.invariant patterns built))

pub returns : goal.returns
returns c = λ patterns built.
    let rules = c.args.rules.now in
    let end : c.loop-rule.rule-index ≡ length rules = omega arith in
    subst (λ (l : List _). IsBuilt c.loop-rule.added (patterns ++ file_patterns l)) (ap (λ n. take n rules) end ∙ take-length rules) (c.loop-rule.invariant patterns built)
