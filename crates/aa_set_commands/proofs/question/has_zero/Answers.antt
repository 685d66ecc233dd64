use Rattle.std.proofs.Common.{length, sym, ap, ◌==◌, ◌∙◌, arith}
use Rattle.std.specs.List.{list_any}
use Rattle.std.proofs.lemmas.List.{take_all}
use Rattle.aa_set_commands.proofs.LineLemmas.{none_before, some_at}
use Rattle.aa_set_commands.proofs.question.has_zero.Goals as goal

pub returns-in-Some : goal.returns-in-Some
returns-in-Some c = let first = c.in-Some.ensures in sym (some_at (λ b. b == 0) c.args.word.now _ first.0.high first.1)

pub returns-in-None : goal.returns-in-None
returns-in-None c =
    let word = c.args.word.now in
    sym (ap (list_any (λ b. b == 0)) (sym (take_all (length word) word (omega arith)))
    ∙ none_before (λ b. b == 0) word (length word) (omega arith) (λ k below. c.in-None.ensures k (omega arith) below))
