use Rattle.std.proofs.Common.{take, get_or, sym, ◌∙◌}
use Rattle.std.proofs.lemmas.List.{take_more}
use Rattle.aa_glob_nfa.specs.declared.state.Way.{Way}
use Rattle.aa_glob_nfa.proofs.LeadLemmas.{none_more, none_yet, one_more}
use Rattle.aa_glob_nfa.proofs.leading.lead_by.Goals.{then-may_lead+in_ok-enter, else-may_lead}
use Rattle.aa_glob_nfa.proofs.leading.lead_by.Goals as goal

pub loop-way-init : goal.loop-way-init
loop-way-init c = none_yet c.args.tables.now c.args.byte c.args.from c.args.here.now c.args.next.now

pub loop-way-preserved : goal.loop-way-preserved
loop-way-preserved c =
    let t = c.args.tables.now in
    let ways = c.args.ways.now in
    let i = c.loop-way.way-index in
    let d : Way = record { from = 0; by = 0; to = 0 } in
    let way = get_or ways i d in
    let before = c.loop-way.invariant in
    rw (take_more ways i d c.loop-way-test.true)
    (elim c.if-may_lead.branch [
      | then-may_lead+in_ok-enter w ↦
          rw (w.here-is, w.next-is)
          (one_more t c.args.byte c.args.from (take i ways) way _ _ _ _ _ _ (sym c.may_lead.ensures ∙ w.if-may_lead.true) before w.in_ok-enter.ensures)
      | else-may_lead w ↦
          rw (w.here-is, w.next-is)
          (none_more t c.args.byte c.args.from (take i ways) way _ _ _ _ (c.requires.each i d c.loop-way-test.true) (sym c.may_lead.ensures ∙ w.if-may_lead.false) before)
    ])
