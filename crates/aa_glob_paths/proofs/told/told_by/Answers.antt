use Rattle.std.proofs.Common.{◌≤◌, length, get_or, take, subst, arith}
use Rattle.std.proofs.lemmas.List.{take_all, take_more}
use Rattle.aa_bytes.specs.Bytes.{slash}
use Rattle.aa_glob_nfa.specs.OfTables.{graph_of}
use Rattle.aa_glob_paths.specs.code.Told.{TellsSet}
use Rattle.aa_glob_paths.proofs.ToldLemmas.{keeps-ends, put-there, set-more, was-there}
use Rattle.aa_glob_paths.proofs.told.told_by.Goals as goal

pub loop-state-init : goal.loop-state-init
loop-state-init c = record {
  ends = (
    was-there c.insert.new.self c.insert-2.new.self 47 0 c.insert-2.ensures (put-there c.new-told.result c.insert.new.self 0 c.insert.ensures),
    put-there c.insert.new.self c.insert-2.new.self slash c.insert-2.ensures,
  );
  tells = λ q among. absurd (omega (arith, among.1));
}

pub loop-state-preserved : goal.loop-state-preserved
loop-state-preserved c =
    let g = graph_of c.args.tables.now in
    let set = c.args.set.now in
    let i = c.loop-state.state-index in
    let before = c.loop-state.invariant in
    let here = c.tell_ways.ensures in
    rw (take_more set i 0 c.loop-state-test.true)
    (record {
      ends = keeps-ends c.loop-state.told c.tell_ways.new.told here.keeps before.ends;
      tells = set-more g c.args.bytes.now c.loop-state.told c.tell_ways.new.told (take i set) (get_or set i 0) here.keeps before.tells here.tells;
    })

pub returns-clause-tells : goal.returns-clause-tells
returns-clause-tells c =
    let end : length c.args.set.now ≤ c.loop-state.state-index = omega arith in
    subst (TellsSet (graph_of c.args.tables.now) c.args.bytes.now c.loop-state.told) (take_all c.loop-state.state-index c.args.set.now end) c.loop-state.invariant.tells
