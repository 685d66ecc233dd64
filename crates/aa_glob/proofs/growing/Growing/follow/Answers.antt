use Rattle.std.proofs.Common.{refl}
use Rattle.aa_glob_syntax.specs.Cursor.{meaning}
use Rattle.aa_glob_pattern.specs.Left.{left_in}
use Rattle.aa_glob.proofs.FollowLemmas.{following-end, following-more, following-start}
use Rattle.aa_glob.proofs.growing.Growing.follow.Goals as goal

pub loop-element-init : goal.loop-element-init
loop-element-init c =
    following-start c.which_elements_stand.ensures.whole_trails_are_elements c.args.self.now c.args.text.now c.new-walk.result (left_in c.of-elements.result)
    c.new-walk.ensures c.of-elements.ensures.all

pub go_on-requires : goal.go_on-requires
go_on-requires c = let grown = c.requires.grown in (grown.0, c.loop-element.invariant.trail, c.loop-element.invariant.each grown.0 grown.1)

pub loop-element-preserved : goal.loop-element-preserved
loop-element-preserved c =
    following-more c.args.self.now c.loop-element.self c.go_on.new.self c.args.text.now c.loop-element.walk c.go_on.new.walk
    (left_in c.loop-element.elements) (left_in c.next.new.self) (meaning c.in-Some.element) c.in-Some.ensures.found c.in_ok-go_on.ensures c.loop-element.invariant

pub returns : goal.returns
returns c =
    following-end c.args.self.now c.loop-element.self c.args.text.now c.loop-element.walk (left_in c.loop-element.elements) c.state.result
    (c.in_default.ensures.end refl) c.state.ensures c.loop-element.invariant
