use Rattle.std.proofs.Common.{◌≡◌, ◌≤◌, ◌++◌, [], length, map, subst, sym, ◌∙◌}
use Rattle.aa_text_expansion.specs.Joining.{cut_off}
use Rattle.aa_text_expansion.specs.code.Made.{listed_at, with_ends}
use Rattle.aa_text_expansion.specs.code.Written.{Waits, ends_of, rest_at, rests}
use Rattle.aa_text_expansion.proofs.StepLemmas.{both-adds}
use Rattle.aa_text_expansion.proofs.writing.Writing.part.Goals as goal

pub wait-requires-2-clause-stacked : goal.wait-requires-2-clause-stacked
wait-requires-2-clause-stacked c = (c.in_ok-wait.ensures []).stacked

pub wait-requires-2-clause-within : goal.wait-requires-2-clause-within
wait-requires-2-clause-within c = subst (λ cells. c.args.rest ≤ length cells) (sym (c.in_ok-wait.ensures []).cells) c.requires.within

pub returns : goal.returns
returns c = λ lists.
    let cells = c.args.self.now.cells.items in
    let first = listed_at lists c.args.first in
    let second = with_ends (listed_at lists c.args.second) (rest_at (rests lists cells) c.args.rest) in
    let copy : c.in_ok-copy.copy.items ≡ c.args.text.items = c.in_ok-copy.ensures.items ∙ c.as_slice.ensures.value in
    let one : Waits lists c.args.self.now (ends_of c.args.text second.texts) second.steps c.wait.new.self =
    subst (λ text. Waits lists c.args.self.now (cut_off (map (λ end. text ++ end) second.texts)) second.steps c.wait.new.self) copy (c.in_ok-wait.ensures lists)
    in
    both-adds lists c.args.self.now c.wait.new.self c.wait-2.new.self _ _ _ _ one
    (subst (λ all. Waits lists c.wait.new.self (ends_of c.args.text (with_ends first (rest_at (rests lists all) c.args.rest)).texts) (with_ends first (rest_at (rests lists all) c.args.rest)).steps c.wait-2.new.self)
    (c.in_ok-wait.ensures []).cells (c.in_ok-wait-2.ensures lists))
