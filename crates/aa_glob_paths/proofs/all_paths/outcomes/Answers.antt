use Rattle.std.proofs.Common.{◌≡◌, ◌∙◌, [], List, ℕ, ap, subst, sym, arith}
use Rattle.std.proofs.lemmas.Result.{IfOk-weaker}
use Rattle.std.specs.Option.{option_copied}
use Rattle.std.specs.Prelude.{Option, Some}
use Rattle.aa_glob_nfa.specs.Graphs.{EndsAt, Graph}
use Rattle.aa_glob_pairs.specs.Graphs.{IsLaid}
use Rattle.aa_glob.proofs.ClashLemmas.{end-within, graph-laid}
use Rattle.aa_glob.specs.Automata.{IsAutomatonOf, IsGraphOf}
use Rattle.aa_glob_paths.specs.Reachable.{AreMoreThan}
use Rattle.aa_glob_paths.specs.AllPaths.{TellAllPaths}
use Rattle.aa_glob_paths.specs.code.AllTexts.{TellAllTexts}
use Rattle.aa_glob_paths.proofs.PathLemmas.{more-texts, none-told, paths-told, some_weaker}
use Rattle.aa_glob_paths.proofs.all_paths.outcomes.Goals as goal

graph_is : (seen : Option Graph) (g : Graph) (patterns : List (List ℕ)) → seen ≡ Some g → IsAutomatonOf seen patterns → IsGraphOf g patterns
graph_is seen g patterns is automaton = subst (λ (s : Option Graph). IsAutomatonOf s patterns) is automaton

pub outcomes_in-requires-clause-classed : goal.outcomes_in-requires-clause-classed
outcomes_in-requires-clause-classed c =
    let g = c.in-Some.nfa.now in
    let patterns = (c.requires).0 in
    let graph = graph_is c.args.automaton.now g patterns (sym c.nfa.ensures ∙ ap option_copied c.in-Some.is) (c.requires).1 in
    record {
      sound = c.tables.ensures.sound;
      sorted = c.tables.ensures.sorted;
      each_pattern = λ q p ends. omega (arith, end-within g patterns graph q p (subst (λ (h : Graph). EndsAt h q p) c.tables.ensures.graph ends), (c.requires).2);
    }

pub outcomes_in-requires-clause-later : goal.outcomes_in-requires-clause-later
outcomes_in-requires-clause-later c =
    let g = c.in-Some.nfa.now in
    let patterns = (c.requires).0 in
    let graph = graph_is c.args.automaton.now g patterns (sym c.nfa.ensures ∙ ap option_copied c.in-Some.is) (c.requires).1 in
    subst IsLaid (sym c.tables.ensures.graph) (graph-laid g patterns graph)

pub returns-in-None-clause-told : goal.returns-in-None-clause-told
returns-in-None-clause-told c patterns automaton =
    let none : patterns ≡ [] = subst (λ (s : Option Graph). IsAutomatonOf s patterns) (sym c.nfa.ensures ∙ ap option_copied c.in-None.is) automaton in
    let told = subst (TellAllPaths [] c.args.classes.now) (sym c.new.ensures.items) (none-told c.args.classes.now) in
    subst (λ (p : List (List ℕ)). TellAllPaths p c.args.classes.now c.new.result.items) (sym none) told

pub returns-in-Some-clause-told : goal.returns-in-Some-clause-told
returns-in-Some-clause-told c =
    let g = c.in-Some.nfa.now in
    let classes = c.args.classes.now in
    IfOk-weaker c.outcomes_in.result _ _ (λ found.
    some_weaker _ _ (λ outcomes told patterns automaton.
    paths-told c.what_reaches_a_state.ensures.reaching_the_end_is_matching g patterns classes outcomes.items
    (graph_is c.args.automaton.now g patterns (sym c.nfa.ensures ∙ ap option_copied c.in-Some.is) automaton)
    (subst (λ (h : Graph). TellAllTexts h classes outcomes.items) c.tables.ensures.graph told)) found)
    c.outcomes_in.ensures.told

pub returns-in-Some-clause-full : goal.returns-in-Some-clause-full
returns-in-Some-clause-full c =
    let g = c.in-Some.nfa.now in
    let limit = c.args.limit in
    IfOk-weaker c.outcomes_in.result _ _ (λ found full patterns automaton none.
    more-texts c.what_reaches_a_state.ensures.reaching_is_reading g patterns limit
    (graph_is c.args.automaton.now g patterns (sym c.nfa.ensures ∙ ap option_copied c.in-Some.is) automaton)
    (subst (λ (h : Graph). AreMoreThan h limit) c.tables.ensures.graph (full none)))
    c.outcomes_in.ensures.full
