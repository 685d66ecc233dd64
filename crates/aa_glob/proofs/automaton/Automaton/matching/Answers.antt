use Rattle.std.proofs.Common.{◌≡◌, ◌≤◌, ◌*◌, ◌+◌, ◌∙◌, List, ℕ, subst, sym}
use Rattle.std.specs.Prelude.{Option, Some, length}
use Rattle.std.proofs.lemmas.Result.{IfOk-weaker, on_ok_weaker}
use Rattle.aa_glob.proofs.BuiltLemmas.{bytes-of, graph-states, matching-found}
use Rattle.aa_glob.specs.Automata.{IsAutomatonOf, IsGraphOf}
use Rattle.aa_glob_nfa.specs.Graphs.{Graph}
use Rattle.aa_glob.proofs.VisitLemmas.{all-read, first-read, none-counted, none-first}
use Rattle.aa_glob.proofs.automaton.Automaton.matching.Goals as goal

graph_of : (seen : Option Graph) (g : Graph) (patterns : List (List ℕ)) → seen ≡ Some g → IsAutomatonOf seen patterns → IsGraphOf g patterns
graph_of seen g patterns is automaton = subst (λ (s : Option Graph). IsAutomatonOf s patterns) is automaton

pub returns-in-Some-clause-found : goal.returns-in-Some-clause-found
returns-in-Some-clause-found c =
    IfOk-weaker c.ends_reached.result _ _ (
    λ found told patterns automaton.
    matching-found c.what_reaches_a_state.ensures.reaching_the_end_is_matching c.in-Some.nfa patterns c.args.path.now found.items (bytes-of c.args.path.now c.type_inv.path) told
    (graph_of c.args.self.now c.in-Some.nfa patterns (sym c.self.view_is ∙ c.in-Some.is) automaton)
    ) c.ends_reached.ensures.found

pub returns-in-Some-clause-steps : goal.returns-in-Some-clause-steps
returns-in-Some-clause-steps c patterns states automaton has =
    let graph = graph_of c.args.self.now c.in-Some.nfa patterns (sym c.self.view_is ∙ c.in-Some.is) automaton in
    let one : states ≡ length c.in-Some.nfa.entries = c.how_many_states_there_are.ensures.states_have_one_count patterns states (length c.in-Some.nfa.entries) has (graph-states c.in-Some.nfa patterns graph) in
    let counted = c.ends_reached.ensures.steps in
    (counted.0, counted.1, subst (λ (n : ℕ). counted.0 ≤ (length c.args.path.now + 1) * n) (sym one) counted.2, counted.3)

pub returns-in-Some-clause-all : goal.returns-in-Some-clause-all
returns-in-Some-clause-all c patterns automaton =
    let graph = graph_of c.args.self.now c.in-Some.nfa patterns (sym c.self.view_is ∙ c.in-Some.is) automaton in
    on_ok_weaker c.ends_reached.result
    (all-read c.what_reaches_a_state.ensures.reaching_is_reading c.in-Some.nfa patterns graph c.args.path.now c.args.steps.now c.ends_reached.new.steps (bytes-of c.args.path.now c.type_inv.path))
    c.ends_reached.ensures.all

pub returns-in-Some-clause-first : goal.returns-in-Some-clause-first
returns-in-Some-clause-first c patterns automaton =
    let graph = graph_of c.args.self.now c.in-Some.nfa patterns (sym c.self.view_is ∙ c.in-Some.is) automaton in
    first-read c.what_reaches_a_state.ensures.reaching_is_reading c.in-Some.nfa patterns graph c.args.path.now c.args.steps.now c.ends_reached.new.steps (bytes-of c.args.path.now c.type_inv.path)
    c.ends_reached.ensures.first

pub returns-in-None-clause-all : goal.returns-in-None-clause-all
returns-in-None-clause-all c patterns automaton =
    none-counted patterns c.args.path.now c.args.steps.now (subst (λ (s : Option Graph). IsAutomatonOf s patterns) (sym c.self.view_is ∙ c.in-None.is) automaton)

pub returns-in-None-clause-first : goal.returns-in-None-clause-first
returns-in-None-clause-first c patterns automaton =
    none-first patterns c.args.path.now c.args.steps.now (subst (λ (s : Option Graph). IsAutomatonOf s patterns) (sym c.self.view_is ∙ c.in-None.is) automaton)
