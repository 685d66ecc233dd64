use Rattle.std.proofs.Common.{◌≡◌, true, sym, ◌∙◌, ap, subst}
use Rattle.std.proofs.lemmas.Bool.{both_ways}
use Rattle.std.proofs.lemmas.List.Elements.{All-contains}
use Rattle.aa_glob_nfa.specs.Tables.{state_at}
use Rattle.std.specs.Prelude.{All, Contains}
use Rattle.aa_glob_nfa.proofs.tables.Tables.ends_of.Goals as goal

pub returns-then-ends-clause-only : goal.returns-then-ends-clause-only
returns-then-ends-clause-only c =
    subst (λ ends. All (λ e. Contains ends e × (e.state ≡ c.args.state)) c.ends_at.result.now) c.deref.ensures.value c.ends_at.ensures.only

pub returns-else-ends-clause-each : goal.returns-else-ends-clause-each
returns-else-ends-clause-each c = λ end h is.
    let states = c.args.self.now.states in
    let ends = All-contains (λ e. (state_at states e.state).ends ≡ true) c.args.self.now.ends.items end c.requires.sound.each_end h in
    let none = ap (λ q. (state_at states q).ends) is ∙ sym c.ends.ensures ∙ c.if-ends.false in
    absurd (both_ways _ none ends)
