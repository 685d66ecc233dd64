use Rattle.aa_glob.proofs.GrowthLemmas.{follows-met, follows-numbered}
use Rattle.aa_glob_syntax.specs.Cursor.{meaning}
use Rattle.std.proofs.Common.{◌∙◌, ap, sym}
use Rattle.std.proofs.lemmas.Result.{IfOk-weaker}
use Rattle.aa_glob.specs.Tree.{next}
use Rattle.aa_glob.proofs.growing.Growing.state_behind.Goals as goal

pub new_state-requires-clause-walked : goal.new_state-requires-clause-walked
new_state-requires-clause-walked c =
    (c.requires.0, c.requires.1, follows-numbered c.requires.0 c.requires.1 c.args.self.now c.number_of.new.numbers c.args.walk.now c.in_ok-number.ensures.kept c.requires.2)

pub returns-in-Some : goal.returns-in-Some
returns-in-Some c patterns trail follows =
    let g = record c.args.self.now { numbers = c.number_of.new.numbers } in
    let walk = c.args.walk.now in
    follows-met c.how_beginnings_are_gathered.ensures.known_trail_is_met patterns trail g walk (meaning c.args.element) c.in_ok-number.number c.in-Some.state
    c.in_ok-number.ensures.within c.in_ok-number.ensures.number
    (sym (c.next.ensures ∙ ap (λ place. next c.args.self.now.tree place c.in_ok-number.number) c.state.ensures) ∙ c.in-Some.is)
    (follows-numbered patterns trail c.args.self.now c.number_of.new.numbers walk c.in_ok-number.ensures.kept follows)

pub returns-in-None : goal.returns-in-None
returns-in-None c =
    IfOk-weaker c.new_state.result _ _ (
    λ state leads patterns trail follows. leads patterns trail
    (follows-numbered patterns trail c.args.self.now c.number_of.new.numbers c.args.walk.now c.in_ok-number.ensures.kept follows)
    ) c.new_state.ensures
