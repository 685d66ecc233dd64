use Rattle.std.proofs.Common.{List, subst, sym, ◌<◌, ◌-◌, length, ◌≡◌, get_or}
use Rattle.std.specs.List.{All}
use Rattle.aa_glob.specs.Walks.{source_states, Standing}
use Rattle.aa_glob_syntax.specs.Elements.{Comma}
use Rattle.aa_glob.specs.declared.walk.Group.{Group}
use Rattle.aa_glob.proofs.SeenLemmas.{beginning_there}
use Rattle.aa_glob.proofs.walk.Walk.draw_from_beginning.Goals as goal

pub draw_way-requires-in-Some-clause-from : goal.draw_way-requires-in-Some-clause-from
draw_way-requires-in-Some-clause-from c =
    let there = subst (λ (walk : Standing). All (λ q. q < length c.args.drawing.now.entries) (source_states Comma walk)) (sym c.self.view_is) c.requires.from in
    let some = subst (λ (gs : List Group). 0 < length gs) c.deref.ensures.value c.in-Some.ensures.item.3.0 in
    let last = subst (λ (gs : List Group). (d : Group) → c.in-Some.group.now ≡ get_or gs (length gs - 1) d) c.deref.ensures.value c.in-Some.ensures.item.3.1 in
    beginning_there (length c.args.drawing.now.entries) c.self.inside.state c.self.inside.groups.items c.in-Some.group.now some last there
