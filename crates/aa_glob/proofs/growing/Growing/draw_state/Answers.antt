use Rattle.aa_glob.proofs.GrowthLemmas.{adds_state, ways_fit}
use Rattle.aa_glob.specs.Walks.{source_states}
use Rattle.aa_glob_syntax.specs.Cursor.{meaning}
use Rattle.std.proofs.Common.{ap, ◌∙◌, refl, subst, ℕ}
use Rattle.aa_glob.specs.Tree.{HasOneMore}
use Rattle.aa_glob.proofs.growing.Growing.draw_state.Goals as goal

pub draw_to-requires-clause-from : goal.draw_to-requires-clause-from
draw_to-requires-clause-from c =
    ways_fit c.args.self.now.drawing c.add_state.new.drawing c.in_ok-state.ensures.added.0 (meaning c.args.element) c.args.walk.now
    c.requires.there c.requires.groups c.in_ok-state.ensures.added.2

pub returns-clause-grows : goal.returns-clause-grows
returns-clause-grows c =
    let walk = c.args.walk.now in
    let e = meaning c.args.element in
    record {
      entry = c.in_ok-state.ensures.added.0;
      suits = c.in_ok-state.ensures.added.1;
      adds =
          adds_state c.args.self.now.drawing c.add_state.new.drawing c.draw_to.new.drawing c.in_ok-state.ensures.added.0 (source_states e walk) c.in_ok-state.state
          c.in_ok-state.ensures.added.2 c.in_ok-state.ensures.number c.in_ok-draw_to.ensures;
      ends = c.in_ok-draw_to.ensures.ends ∙ ap (λ g. g.ends) c.in_ok-state.ensures.added.2;
      more = subst (λ (state : ℕ). HasOneMore c.args.self.now.tree state c.args.number c.add.new.self) c.state.ensures c.in_ok-add.ensures.ways;
      place = c.requires.places;
      places_more = c.in_ok-add.ensures.places;
      numbers = refl;
    }
