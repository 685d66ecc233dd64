use Rattle.std.proofs.Common.{◌≡◌, length, map, take, ◌∙◌, ap, subst, arith}
use Rattle.std.proofs.Math.Seq.{take-length}
use Rattle.std.specs.Prelude.{Contains}
use Rattle.aa_glob_run.specs.code.Ends.{Gets}
use Rattle.std.proofs.lemmas.List.{map_more}
use Rattle.aa_glob_nfa.specs.declared.state.End.{End}
use Rattle.aa_glob_run.proofs.PatternLemmas.{gets_more, gets_ends}
use Rattle.aa_glob_run.proofs.patterns.push_found.Goals as goal

pub loop-end-preserved : goal.loop-end-preserved
loop-end-preserved c =
    let ends = c.ends_of-end-items.result.now in
    let i = c.loop-end.end-index in
    let d : End = record { state = 0; pattern = 0 } in
    let found = map (λ e. e.pattern) (take i ends) in
    rw (map_more (λ e. e.pattern) ends i d c.loop-end-test.true)
    (gets_more c.args.found.now.items c.loop-end.found.items c.push.new.self.items found _ c.loop-end.invariant c.in_ok-push.ensures.items)

pub returns : goal.returns
returns c =
    let ends = c.ends_of-end-items.result.now in
    let end : c.loop-end.end-index ≡ length ends = omega arith in
    let all : take c.loop-end.end-index ends ≡ ends = ap (λ n. take n ends) end ∙ take-length ends in
    gets_ends c.args.tables.now c.args.state c.args.found.now.items c.loop-end.found.items ends c.ends_of-end-items.ensures.only c.ends_of-end-items.ensures.each
    (subst (λ l. Gets c.args.found.now.items c.loop-end.found.items (Contains (map (λ e. e.pattern) l))) all c.loop-end.invariant)
