use Rattle.std.proofs.Common.{◌≡◌, List, ℕ, ◌++◌, ◌∷◌, [], ◌∙◌, append_assoc, ap, length, subst, sym, take, arith}
use Rattle.std.proofs.lemmas.List.{take_more}
use Rattle.std.proofs.Math.Seq.{take-length}
use Rattle.aa_glob.specs.Built.{IsBuilt}
use Rattle.aa_glob.proofs.builder.AutomatonBuilder.add_each.Goals as goal

pub loop-pattern-preserved : goal.loop-pattern-preserved
loop-pattern-preserved c = λ patterns built.
    let more = c.args.more.now in
    let at = c.loop-pattern.pattern-index in
    let pattern = c.pattern-item.result in
    subst (λ (l : List (List ℕ)). IsBuilt c.in_ok-added.added l)
    (append_assoc patterns (take at more) (pattern ∷ []) ∙ ap (λ l. patterns ++ l) (ap (λ p. take at more ++ p ∷ []) c.pattern-item.is ∙ sym (take_more more at pattern c.loop-pattern-test.true)))
    (c.in_ok-added.ensures (patterns ++ take at more) (c.loop-pattern.invariant patterns built))

pub returns : goal.returns
returns c = λ patterns built.
    let more = c.args.more.now in
    let end : c.loop-pattern.pattern-index ≡ length more = omega arith in
    subst (λ (l : List (List ℕ)). IsBuilt c.loop-pattern.added (patterns ++ l)) (ap (λ n. take n more) end ∙ take-length more) (c.loop-pattern.invariant patterns built)
