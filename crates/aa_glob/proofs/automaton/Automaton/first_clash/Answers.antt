use Rattle.std.proofs.Common.{◌≡◌, ◌∙◌, arith, List, ℕ, subst, sym}
use Rattle.std.specs.Prelude.{Option, Some}
use Rattle.std.proofs.lemmas.Result.{IfOk-weaker}
use Rattle.aa_glob.proofs.ClashLemmas.{clashes-are, end-within, graph-laid}
use Rattle.aa_glob.specs.Automata.{IsAutomatonOf, IsGraphOf}
use Rattle.aa_glob_nfa.specs.Graphs.{Graph}
use Rattle.aa_glob_pairs.proofs.LeastLemmas.{least_as}
use Rattle.aa_glob_pairs.specs.Clashes.{IsLeast}
use Rattle.aa_glob_pairs.specs.Graphs.{ClashesAt}
use Rattle.aa_glob_syntax.specs.Overlap.{ClashesAmong}
use Rattle.aa_glob.proofs.automaton.Automaton.first_clash.Goals as goal

graph_of : (seen : Option Graph) (g : Graph) (patterns : List (List ℕ)) → seen ≡ Some g → IsAutomatonOf seen patterns → IsGraphOf g patterns
graph_of seen g patterns is automaton = subst (λ (s : Option Graph). IsAutomatonOf s patterns) is automaton

pub first_clash-requires-clause-later : goal.first_clash-requires-clause-later
first_clash-requires-clause-later c =
    let patterns = (c.requires).0 in
    graph-laid c.in-Some.nfa patterns (graph_of c.args.self.now c.in-Some.nfa patterns (sym c.self.view_is ∙ c.in-Some.is) (c.requires).1)

pub first_clash-requires-clause-classes : goal.first_clash-requires-clause-classes
first_clash-requires-clause-classes c q p ends =
    let patterns = (c.requires).0 in
    let graph = graph_of c.args.self.now c.in-Some.nfa patterns (sym c.self.view_is ∙ c.in-Some.is) (c.requires).1 in
    omega (arith, end-within c.in-Some.nfa patterns graph q p ends, (c.requires).2)

pub returns-in-Some : goal.returns-in-Some
returns-in-Some c =
    let g = c.in-Some.nfa in
    let classes = c.args.classes.now in
    IfOk-weaker c.first_clash.result (λ found. IsLeast found (ClashesAt g classes))
    (λ found. (patterns : List (List ℕ)) → IsAutomatonOf c.args.self.now patterns → IsLeast found (ClashesAmong patterns classes))
    (λ found least patterns automaton.
    least_as found (ClashesAt g classes) (ClashesAmong patterns classes)
    (clashes-are c.what_reaches_a_state.ensures.reaching_the_end_is_matching g patterns classes (graph_of c.args.self.now g patterns (sym c.self.view_is ∙ c.in-Some.is) automaton)) least)
    c.first_clash.ensures
