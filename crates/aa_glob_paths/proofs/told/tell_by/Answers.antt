use Rattle.std.proofs.Common.{◌≤◌, length, get_or, take, subst, arith}
use Rattle.std.proofs.lemmas.List.{take_all, take_more}
use Rattle.aa_glob_nfa.specs.OfTables.{graph_of}
use Rattle.aa_glob_nfa.specs.Tables.{LeadsAway}
use Rattle.aa_glob_nfa.specs.declared.state.Way.{Way}
use Rattle.aa_glob_paths.specs.code.Told.{TellsWays}
use Rattle.aa_glob_paths.proofs.ToldLemmas.{by-more, keeps-ends, keeps-same, keeps-then}
use Rattle.aa_glob_paths.proofs.told.tell_by.Goals.{then-way-from, else-way-from}
use Rattle.aa_glob_paths.proofs.told.tell_by.Goals as goal

pub loop-way-preserved : goal.loop-way-preserved
loop-way-preserved c =
    let g = graph_of c.args.tables.now in
    let bytes = c.args.bytes.now in
    let ways = c.args.ways.now in
    let i = c.loop-way.way-index in
    let d : Way = record { from = 0; by = 0; to = 0 } in
    let before = c.loop-way.invariant in
    rw (take_more ways i d c.loop-way-test.true)
    (elim c.if-way-from.branch [
      | then-way-from w ↦
          rw (w.told-is)
          (record {
            ends = keeps-ends c.loop-way.told w.tell_entry.new.told w.tell_entry.ensures.keeps before.ends;
            keeps = keeps-then c.args.told.now c.loop-way.told w.tell_entry.new.told before.keeps w.tell_entry.ensures.keeps;
            tells = by-more g bytes c.loop-way.told w.tell_entry.new.told (take i ways) (get_or ways i d) c.args.from w.tell_entry.ensures.keeps before.tells (λ same. w.tell_entry.ensures.tells);
          })
      | else-way-from w ↦
          rw (w.told-is)
          (record {
            ends = before.ends;
            keeps = before.keeps;
            tells = by-more g bytes c.loop-way.told c.loop-way.told (take i ways) (get_or ways i d) c.args.from (keeps-same c.loop-way.told) before.tells (λ same. absurd (w.if-way-from.false same));
          })
    ])

pub returns-clause-tells : goal.returns-clause-tells
returns-clause-tells c =
    let end : length c.args.ways.now ≤ c.loop-way.way-index = omega arith in
    subst (λ ways. TellsWays (LeadsAway ways c.args.from) (graph_of c.args.tables.now) c.args.bytes.now c.loop-way.told) (take_all c.loop-way.way-index c.args.ways.now end)
    c.loop-way.invariant.tells
