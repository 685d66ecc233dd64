use Rattle.std.proofs.Common.{◌≡◌, ◌<◌, ap, sym, subst, get_or, set, length-set, get_or-set_same, get_or-set_other, inl, inr, ◌∙◌, arith}
use Rattle.std.proofs.lemmas.Bool.{cases_eq}
use Rattle.aa_glob_nfa.specs.code.Blocks.{Begins, unknown}
use Rattle.aa_glob_nfa.proofs.ways.find_firsts.Goals as goal

pub loop-block-preserved : goal.loop-block-preserved
loop-block-preserved c =
    let ways = c.args.ways.now in
    let old = c.loop-block.firsts.items in
    let at = c.loop-block.block in
    let first = c.first_of_block.result in
    record {
      found = λ block d low known. elim (cases_eq block at) [
        | inl same ↦
            let is : get_or (set old at first) block d ≡ first =
            ap (λ n. get_or (set old at first) n d) same ∙ get_or-set_same old at first d (omega (arith, c.loop-block.invariant.len, c.loop-block-test.true)) in
            let begins : Begins ways at first = c.first_of_block.ensures (subst (λ n. n < unknown) is known) in
            rw is (subst (λ n. Begins ways n first) (sym same) begins)
        | inr other ↦
            let is : get_or (set old at first) block d ≡ get_or old block d = get_or-set_other old at block first d other in
            rw is (c.loop-block.invariant.found block d (omega arith) (subst (λ n. n < unknown) is known))
      ];
      len = length-set old at first ∙ c.loop-block.invariant.len;
    }

pub returns : goal.returns
returns c = λ block d low known. c.loop-block.invariant.found block d (omega (arith, c.loop-block.invariant.len, c.loop-block-test.false)) known
