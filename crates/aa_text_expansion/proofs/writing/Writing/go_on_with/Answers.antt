use Rattle.std.proofs.Common.{◌≡◌, [], length, refl, subst, ◌∙◌}
use Rattle.aa_text_expansion.specs.code.Made.{listed_at, with_ends}
use Rattle.aa_text_expansion.specs.code.Written.{Waits, ends_of, rest_at, rests}
use Rattle.aa_text_expansion.specs.declared.writing.Writing.{Writing}
use Rattle.aa_text_expansion.proofs.StepLemmas.{linked-adds, stacked-linked}
use Rattle.aa_text_expansion.proofs.writing.Writing.go_on_with.Goals as goal

pub wait-requires-clause-stacked : goal.wait-requires-clause-stacked
wait-requires-clause-stacked c =
    stacked-linked [] c.args.self.now (record { cells = c.push.new.self; waiting = c.args.self.now.waiting; done = c.args.self.now.done }) (record { list = c.args.second; rest = c.args.rest })
    c.requires.stacked c.requires.within c.in_ok-push.ensures.items refl

pub returns : goal.returns
returns c = λ lists.
    let linked : Writing = record { cells = c.push.new.self; waiting = c.args.self.now.waiting; done = c.args.self.now.done } in
    let cells = c.push.new.self.items in
    let first = listed_at lists c.args.first in
    let last : c.len-last.result ≡ length cells = c.len-last.ensures ∙ c.push.new.self.ok.0 in
    linked-adds lists c.args.self.now linked c.wait.new.self (record { list = c.args.second; rest = c.args.rest }) c.args.text.items first c.requires.stacked c.in_ok-push.ensures.items refl refl
    (subst (λ n. Waits lists linked (ends_of c.args.text (with_ends first (rest_at (rests lists cells) n)).texts) (with_ends first (rest_at (rests lists cells) n)).steps c.wait.new.self) last
    (c.in_ok-wait.ensures lists))
