use Rattle.std.proofs.Common.{◌≡◌, ◌∙◌, ℕ, List, subst, sym}
use Rattle.aa_glob.proofs.StateLemmas.{states-built}
use Rattle.aa_glob.specs.Built.{IsBuilt}
use Rattle.aa_glob.specs.States.{state_count}
use Rattle.aa_glob.specs.Tree.{places}
use Rattle.aa_glob_pattern.specs.Beginnings.{HasStates}
use Rattle.aa_glob.proofs.builder.AutomatonBuilder.states.Goals as goal

told : (c : goal.After-places) (patterns : List (List ℕ)) → IsBuilt c.args.self.now patterns
    → HasStates patterns (places c.self.inside.growing.tree) × (places c.self.inside.growing.tree ≡ state_count patterns)
told c patterns built =
    let laws = c.how_beginnings_are_gathered.ensures in
    states-built laws.first_text_is_begun laws.known_trail_is_met laws.new_trail_is_added laws.next_text_is_begun laws.whole_text_is_there
    c.how_many_states_there_are.ensures.states_have_one_count c.self.inside.growing c.self.inside.patterns patterns c.if-self-eq0.false
    (subst (λ b. IsBuilt b patterns) (sym c.self.view_is) built)

pub returns-else-self-eq0-clause-states : goal.returns-else-self-eq0-clause-states
returns-else-self-eq0-clause-states c patterns built = subst (HasStates patterns) (sym c.places.ensures) (told c patterns built).0

pub returns-else-self-eq0-clause-counted : goal.returns-else-self-eq0-clause-counted
returns-else-self-eq0-clause-counted c patterns built = c.places.ensures ∙ (told c patterns built).1
