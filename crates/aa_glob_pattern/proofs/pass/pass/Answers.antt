use Rattle.std.proofs.Common.{◌≡◌, ◌∙◌, ◌+◌, ◌<◌, ap, arith, drop, length, refl, subst, sym, [], ◌∷◌}
use Rattle.std.proofs.lemmas.List.{length-set}
use Rattle.aa_glob_syntax.specs.Cursor.{meaning}
use Rattle.aa_glob_pattern.specs.Elements.{elements_of}
use Rattle.aa_glob_pattern.specs.Left.{left_in}
use Rattle.aa_glob_pattern.specs.Active.{is_among, known_at, next_past}
use Rattle.aa_glob_pattern.specs.code.Passes.{known_of}
use Rattle.aa_glob_pattern.specs.code.Places.{AreAt}
use Rattle.aa_glob_pattern.proofs.PassLemmas.{all-read, first-active, known_at-more, active-all, passed-first, passed-more, tells-first, tells-more}
use Rattle.aa_glob_pattern.specs.Reads.{known}
use Rattle.aa_glob_pattern.specs.Trails.{depth_behind}
use Rattle.aa_glob_pattern.proofs.pass.pass.Goals as goal

pub loop-element-init : goal.loop-element-init
loop-element-init c =
    let text = c.args.text.now in
    let active = c.args.active.now in
    let room = c.requires.room in
    let some : 0 < length active = omega arith in
    let left = sym c.of-elements.ensures.all in
    let few = c.of-elements.ensures.few in
    let count = ap length left in (
      length-set active 0 c.args.first,
      (omega arith, left, omega (arith, few, count)),
      c.beginning-places.ensures.depth ∙ sym c.of-elements.ensures.depth,
      tells-first active c.args.first some,
      λ past first active_before. (
        c.beginning-places.ensures.known past c.args.byte (active_before 0 (omega arith)) first,
        passed-first text past c.args.byte active c.args.first some (first ∙ first-active text c.args.byte past) active_before,
      ),
    )

pub loop-element-preserved : goal.loop-element-preserved
loop-element-preserved c =
    let text = c.args.text.now in
    let at = c.loop-element.at in
    let active = c.loop-element.active in
    let e = meaning c.in-Some.element in
    let rest = left_in c.next.new.self in
    let was = c.loop-element.invariant in
    let found : drop at (elements_of text) ≡ e ∷ rest = was.1.1 ∙ c.in-Some.ensures.found in
    let more = known_at-more (elements_of text) at (known []) e rest found in
    let count = ap length c.in-Some.ensures.found in
    let left = was.1.2 in
    let room = c.requires.room in
    let same = was.0 in
    let within : at + 1 < length active = omega (arith, count, left, room, same) in (
      length-set active (at + 1) c.here-here.result ∙ was.0,
      (more.2, more.1, omega (arith, count, left)),
      c.behind-places.ensures.depth ∙ ap (λ n. depth_behind n e) was.2 ∙ sym c.in-Some.ensures.depth,
      tells-more at active c.loop-element.some c.here-here.result c.either-some.result within c.either-some.ensures was.3,
      λ past first active_before.
          let passed = was.4 past first active_before in
          let own = passed.1.1 (at + 1) (omega arith) more.2 ∙ ap (λ k. is_among k.here past) more.0 in
          let known_there = c.behind-places.ensures.known past (known_of text at) passed.0 own in
          let there = subst (λ k. AreAt past c.args.byte k c.behind-places.result) (sym more.0) known_there in
          (there, passed-more text past c.args.byte at active c.here-here.result within (c.here-here.ensures ∙ there.1.0) passed.1),
    )

pub returns-clause-active : goal.returns-clause-active
returns-clause-active c =
    let was = c.loop-element.invariant in
    let all = all-read c.args.text.now c.loop-element.at (left_in c.loop-element.elements) was.1 (c.in_default.ensures.end refl) in
    λ past first active_before at short. (was.4 past first active_before).1.0 at (omega arith) short

pub returns-clause-whole : goal.returns-clause-whole
returns-clause-whole c =
    let was = c.loop-element.invariant in
    let all = all-read c.args.text.now c.loop-element.at (left_in c.loop-element.elements) was.1 (c.in_default.ensures.end refl) in
    let whole = ap (known_at (known []) (elements_of c.args.text.now)) all ∙ active-all c.args.text.now in
    λ past first active_before. c.here.ensures ∙ (was.4 past first active_before).0.1.0 ∙ ap (λ k. k.here (next_past c.args.byte past)) whole

pub returns-clause-some : goal.returns-clause-some
returns-clause-some c =
    let was = c.loop-element.invariant in
    let all = all-read c.args.text.now c.loop-element.at (left_in c.loop-element.elements) was.1 (c.in_default.ensures.end refl) in
    λ unset at short. was.3 unset at (omega arith)
