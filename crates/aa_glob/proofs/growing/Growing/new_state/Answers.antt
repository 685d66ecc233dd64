use Rattle.aa_glob.proofs.GrowthLemmas.{IfOk-both, follows-grown}
use Rattle.aa_glob.specs.code.Growths.{FollowsTo}
use Rattle.aa_glob_syntax.specs.Cursor.{meaning}
use Rattle.std.proofs.Common.{ℕ, subst, sym}
use Rattle.aa_glob.proofs.growing.Growing.new_state.Goals as goal

pub returns : goal.returns
returns c =
    let walk = c.args.walk.now in
    let e = meaning c.args.element in
    IfOk-both c.draw_state.result c.draw_state.ensures.state c.draw_state.ensures.grows (
    λ state is grows patterns trail follows.
    subst (λ (q : ℕ). FollowsTo patterns e trail c.draw_state.new.self walk q) (sym is)
    (follows-grown c.how_beginnings_are_gathered.ensures.new_trail_is_added c.how_graphs_are_drawn.ensures.added_is_drawn patterns trail c.args.self.now c.draw_state.new.self walk e c.args.number
    c.requires.within c.requires.number c.requires.free grows follows)
    )
