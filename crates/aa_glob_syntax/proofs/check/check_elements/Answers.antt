use Rattle.std.proofs.Common.{◌≡◌, ◌∙◌, ◌*◌, ◌∷◌, ◌&&◌, [], ap, arith, length, refl, subst, true}
use Rattle.aa_glob_syntax.specs.Cursor.{elements_from, left, meaning}
use Rattle.aa_glob_syntax.specs.Elements.{elements}
use Rattle.aa_glob_syntax.specs.Faults.{is_byte, spelled}
use Rattle.aa_glob_syntax.specs.Symbols.{symbols}
use Rattle.aa_glob_syntax.proofs.FaultLemmas.{AreKnown, known-behind, known-behind_literals, room-behind, room-behind_literals}
use Rattle.aa_glob_syntax.proofs.check.check_elements.Goals as goal

pub loop-next-init : goal.loop-next-init
loop-next-init c =
    let at = c.after_literals-at in
    let text = c.args.text.now in
    let es = elements at.result.context (symbols at.result.rest.now) in
    let known : AreKnown (spelled text) (record { exact = true; prefix = 0 }) [] (spelled text) = (refl, refl, omega arith) in
    let more = known-behind_literals (spelled text) (record { exact = true; prefix = 0 }) (record { exact = true; prefix = at.result.count }) [] text at.result.count (spelled text) es at.ensures.within at.ensures.elements refl (omega arith) known in
    (rw c.none-groups.ensures more, at.ensures.fewer)

pub facts_behind_literals-facts-requires : goal.facts_behind_literals-facts-requires
facts_behind_literals-facts-requires c =
    let before = c.loop-next in
    let next = c.in-Some.next in
    let middle = c.facts_behind in
    let shorter = rw c.in-Some.is at c.in_ok-next.ensures.shorter in
    let room =
    room-behind (before.facts.exact && is_byte (meaning next.element)) before.facts.prefix middle.result.prefix (left before.at.context before.at.rest.now) (left next.context next.rest.now) (2 * length c.args.text.now) middle.ensures.prefix shorter before.invariant.1 in
    let fewer = c.after_literals-at-in-Some.ensures.fewer in
    let short = c.requires in
    omega (arith, room, fewer, short)

pub loop-next-preserved : goal.loop-next-preserved
loop-next-preserved c =
    let all = spelled c.args.text.now in
    let before = c.loop-next in
    let next = c.in-Some.next in
    let at = c.after_literals-at-in-Some in
    let e = meaning next.element in
    let ds = elements next.context (symbols next.rest.now) in
    let es = elements at.result.context (symbols at.result.rest.now) in
    let groups = c.in_ok-groups.groups.commas in
    let middle = c.facts_behind in
    let after = c.facts_behind_literals-facts in
    let found : elements before.at.context (symbols before.at.rest.now) ≡ e ∷ ds = c.in_ok-next.ensures.ok ∙ ap elements_from c.in-Some.is in
    let shorter = rw c.in-Some.is at c.in_ok-next.ensures.shorter in
    let room = room-behind (before.facts.exact && is_byte e) before.facts.prefix middle.result.prefix (left before.at.context before.at.rest.now) (left next.context next.rest.now) (2 * length c.args.text.now) middle.ensures.prefix shorter before.invariant.1 in
    let known = known-behind all before.facts middle.result before.groups.commas groups e ds middle.ensures.exact middle.ensures.prefix (c.in_ok-groups.ensures.ok ds) (subst (AreKnown all before.facts before.groups.commas) found before.invariant.0) in (
      known-behind_literals all middle.result after.result groups next.rest.now at.result.count ds es at.ensures.within at.ensures.elements after.ensures.exact after.ensures.prefix known,
      room-behind_literals middle.result.exact middle.result.prefix after.result.prefix at.result.count (left next.context next.rest.now) (left at.result.context at.result.rest.now) (2 * length c.args.text.now) after.ensures.prefix at.ensures.fewer room,
    )
