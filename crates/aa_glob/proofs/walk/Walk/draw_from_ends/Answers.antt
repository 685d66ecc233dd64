use Rattle.std.proofs.Common.{List, subst, sym, ap, ◌<◌, ◌-◌, length, ◌≡◌, get_or, ℕ}
use Rattle.std.specs.List.{All}
use Rattle.aa_glob.specs.Walks.{source_states, Standing}
use Rattle.aa_glob_syntax.specs.Elements.{Close}
use Rattle.aa_glob.specs.declared.walk.Group.{Group}
use Rattle.aa_glob.specs.Ways.{AddsWays}
use Rattle.aa_glob.proofs.SeenLemmas.{ends_drawn, ends_there}
use Rattle.aa_glob.proofs.walk.Walk.draw_from_ends.Goals as goal

pub draw_ways-requires-clause-from : goal.draw_ways-requires-clause-from
draw_ways-requires-clause-from c =
    let there = subst (λ (walk : Standing). All (λ q. q < length c.args.drawing.now.entries) (source_states Close walk)) (sym c.self.view_is) c.requires.from in
    let some = subst (λ (gs : List Group). 0 < length gs) c.deref.ensures.value c.in-Some.ensures.item.3.0 in
    let last = subst (λ (gs : List Group). (d : Group) → c.in-Some.group.now ≡ get_or gs (length gs - 1) d) c.deref.ensures.value c.in-Some.ensures.item.3.1 in
    let all = ends_there (length c.args.drawing.now.entries) c.self.inside.state c.self.inside.groups.items c.in-Some.group.now some last there in
    subst (λ (n : ℕ). All (λ q. q < n) c.deref-in-Some.result.now) (ap length (sym c.in_ok-draw_way.ensures.entries)) (subst (λ (ends : List ℕ). All (λ q. q < length c.args.drawing.now.entries) ends) (sym c.deref-in-Some.ensures.value) all)

pub returns-in_ok-draw_ways-in-Some : goal.returns-in_ok-draw_ways-in-Some
returns-in_ok-draw_ways-in-Some c =
    let some = subst (λ (gs : List Group). 0 < length gs) c.deref.ensures.value c.in-Some.ensures.item.3.0 in
    let last = subst (λ (gs : List Group). (d : Group) → c.in-Some.group.now ≡ get_or gs (length gs - 1) d) c.deref.ensures.value c.in-Some.ensures.item.3.1 in
    subst (λ (walk : Standing). AddsWays c.args.drawing.now c.draw_ways.new.drawing (source_states Close walk) c.args.state) c.self.view_is
    (ends_drawn c.self.inside.state c.args.state c.self.inside.groups.items c.in-Some.group.now c.args.drawing.now c.draw_way.new.drawing c.draw_ways.new.drawing some last c.in_ok-draw_way.ensures
    (subst (λ (ends : List ℕ). AddsWays c.draw_way.new.drawing c.draw_ways.new.drawing ends c.args.state) c.deref-in-Some.ensures.value c.in_ok-draw_ways-in-Some.ensures))
