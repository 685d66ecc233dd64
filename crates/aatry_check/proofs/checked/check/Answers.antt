use Rattle.std.proofs.Common.{◌≡◌, ◌∙◌, ◌≤◌, ◌++◌, ap, append_assoc, arith, map, string_bytes, subst, sym, take}
use Rattle.aatry_check.proofs.CheckLemmas.{next_left, next_taken, tells_one_more}
use Rattle.aatry_folder.specs.Loadings.{seen_top}
use Rattle.aatry_check.specs.Checks.{Tells, TellsEach, refused_count, refused_in}
use Rattle.aatry_check.proofs.checked.check.Goals as goal

pub loop-name-preserved : goal.loop-name-preserved
loop-name-preserved c =
    let so_far = c.loop-name.invariant in
    let form = c.args.teller.form in
    let language = c.args.language in
    let files = c.args.files.now in
    let unread = c.args.unread.now in
    let base = c.args.base.now in
    let top = map seen_top c.args.top.now in
    let names = c.args.names.now in
    let i = c.loop-name.name-index in
    let name = c.name-item.result in
    let text = c.as_bytes-in-loop-name.ensures.value in
    let own = c.in_ok-refused.ensures.told in
    let few : c.in_ok-refused.field-0 ≤ 1 = c.in_ok-refused.ensures.few in
    let one : c.in_ok-refused.field-0 ≡ refused_in language files (string_bytes name) = c.in_ok-refused.ensures.refused ∙ ap (refused_in language files) text in
    let left = ap (refused_count language files) (next_left string_bytes names i name c.loop-name-test.true c.name-item.is) in
    let told_below = c.as_bytes.result.now in
    let tells = subst (λ b. Tells form language files unread b top (string_bytes name) own.0) c.as_bytes.ensures.value (subst (λ n. Tells form language files unread told_below top n own.0) text own.2) in
    record {
      few = omega (arith, so_far.few, few);
      refused = omega (arith, so_far.refused, one, left);
      told = (
        so_far.told.0 ++ own.0,
        own.1 ∙ ap (λ t. t ++ own.0) so_far.told.1 ∙ append_assoc c.args.out.now.items so_far.told.0 own.0,
        subst (λ ns. TellsEach form language files unread base top ns (so_far.told.0 ++ own.0)) (sym (next_taken string_bytes names i name c.loop-name-test.true c.name-item.is))
            (tells_one_more form language files unread base top (map string_bytes (take i names)) so_far.told.0 (string_bytes name) own.0 so_far.told.2 tells),
      );
    }
