use Rattle.std.proofs.Common.{◌∙◌, ap₂, ◌⊎◌, ◌<◌, arith, length, refl, subst, sym, List}
use Rattle.std.proofs.lemmas.Option.{get_or_from_slice_get, slice_get_read}
use Rattle.aa_glob_nfa.proofs.TableLemmas.{length-entries_in}
use Rattle.aa_glob_pairs.proofs.ProgressLemmas.{clashes_all, clashes_none, column_within, follows_all, follows_none, meeting_passed, meeting_visited}
use Rattle.aa_glob_pairs.specs.Below.{can_clash}
use Rattle.aa_glob_pairs.specs.Clashes.{Clash, Lowers}
use Rattle.aa_glob_pairs.specs.Pairs.{classed}
use Rattle.aa_glob_pairs.specs.declared.ends.Ending.{Ending}
use Rattle.aa_glob_pairs.proofs.GainLemmas.{front_same}
use Rattle.aa_glob_pairs.specs.Waiting.{row_at}
use Rattle.aa_glob_pairs.proofs.meeting.meet.Goals as goal

pub index-requires : goal.index-requires
index-requires c =
    let t = c.args.tables.now in
    let g = classed t c.args.classes.now c.args.belows.now in
    let old = c.args.meeting.now in
    let size = length-entries_in t.classes.items 0 t.states in
    let column = column_within g c.args.row c.args.at c.args.column old c.requires.ready.later c.requires.column c.requires.met in
    omega (arith, column, c.requires.met.marks, old.seen.ok.0)

pub index_mut-requires : goal.index_mut-requires
index_mut-requires c =
    let t = c.args.tables.now in
    let g = classed t c.args.classes.now c.args.belows.now in
    let old = c.args.meeting.now in
    let size = length-entries_in t.classes.items 0 t.states in
    let column = column_within g c.args.row c.args.at c.args.column old c.requires.ready.later c.requires.column c.requires.met in
    omega (arith, column, c.requires.met.marks, old.seen.ok.0)

pub at-requires : goal.at-requires
at-requires c = omega (arith, c.requires.row, c.requires.ready.each_below.count, length-entries_in c.args.tables.now.classes.items 0 c.args.tables.now.states)

pub at-requires-2 : goal.at-requires-2
at-requires-2 c =
    let t = c.args.tables.now in
    let g = classed t c.args.classes.now c.args.belows.now in
    let old = c.args.meeting.now in
    let size = length-entries_in t.classes.items 0 t.states in
    let column = column_within g c.args.row c.args.at c.args.column old c.requires.ready.later c.requires.column c.requires.met in
    omega (arith, column, c.requires.ready.each_below.count)

pub returns-then-index-row-clause-met : goal.returns-then-index-row-clause-met
returns-then-index-row-clause-met c =
    let t = c.args.tables.now in
    let g = classed t c.args.classes.now c.args.belows.now in
    let old = c.args.meeting.now in
    let size = length-entries_in t.classes.items 0 t.states in
    let column = column_within g c.args.row c.args.at c.args.column old c.requires.ready.later c.requires.column c.requires.met in
    let within : c.args.column < length old.seen.items = omega (arith, column, c.requires.met.marks) in
    let seen =
    get_or_from_slice_get old.seen.items c.args.column c.index.result.now 0
    (slice_get_read old.seen.items (length old.seen.items) c.args.column c.index.result.now refl within c.index.ensures)
    in
    meeting_passed g c.args.row c.args.at c.args.column old c.requires.column c.requires.met (seen ∙ c.if-index-row.true)

pub returns-then-not-can_clash-clause-met : goal.returns-then-not-can_clash-clause-met
returns-then-not-can_clash-clause-met c =
    let t = c.args.tables.now in
    let g = classed t c.args.classes.now c.args.belows.now in
    let old = c.args.meeting.now in
    let size = length-entries_in t.classes.items 0 t.states in
    let column = column_within g c.args.row c.args.at c.args.column old c.requires.ready.later c.requires.column c.requires.met in
    let inside : c.args.row < length g.graph.entries = omega (arith, c.requires.row, size) in
    let off = ap₂ can_clash (sym c.at.ensures) (sym c.at-2.ensures) ∙ sym c.can_clash.ensures ∙ c.if-not-can_clash.true in
    meeting_visited g c.args.row c.args.at c.args.column old _ inside c.requires.column column c.requires.met (follows_none g c.args.row c.args.column old.waiting off) refl
    (clashes_none g c.requires.ready.each_below c.args.row c.args.column old.found inside column off)

pub put_node-requires-clause-is_state : goal.put_node-requires-clause-is_state
put_node-requires-clause-is_state c =
    let t = c.args.tables.now in
    let g = classed t c.args.classes.now c.args.belows.now in
    let old = c.args.meeting.now in
    let size = length-entries_in t.classes.items 0 t.states in
    let column = column_within g c.args.row c.args.at c.args.column old c.requires.ready.later c.requires.column c.requires.met in
    omega (arith, column, size)

pub returns-clause-met : goal.returns-clause-met
returns-clause-met c =
    let t = c.args.tables.now in
    let g = classed t c.args.classes.now c.args.belows.now in
    let old = c.args.meeting.now in
    let size = length-entries_in t.classes.items 0 t.states in
    let column = column_within g c.args.row c.args.at c.args.column old c.requires.ready.later c.requires.column c.requires.met in
    let inside : c.args.row < length g.graph.entries = omega (arith, c.requires.row, size) in
    let may = ap₂ can_clash (sym c.at.ensures) (sym c.at-2.ensures) ∙ sym c.can_clash.ensures ∙ c.if-not-can_clash.false in
    let n = c.args.first.now in
    let o = c.put_node.new.node in
    meeting_visited g c.args.row c.args.at c.args.column old _ inside c.requires.column column c.requires.met
    (follows_all g c.args.row c.args.column n.moves o.moves old.waiting c.visit.new.waiting c.requires.first.moves c.in_ok-put_node.ensures.moves may c.in_ok-visit.ensures) refl
    (clashes_all g c.args.row c.args.column n.ends.items o.ends.items old.found c.lower_both.new.found c.requires.first.ends c.in_ok-put_node.ensures.ends
    (subst (λ (l : List Ending). Lowers old.found c.lower_both.new.found (λ k. Clash l o.ends.items k ⊎ Clash o.ends.items l k)) c.deref.ensures.value
    (subst (λ (l : List Ending). Lowers old.found c.lower_both.new.found (λ k. Clash c.deref.result.now l k ⊎ Clash l c.deref.result.now k)) c.deref-2.ensures.value
    c.lower_both.ensures)))

pub returns-then-index-row-clause-front : goal.returns-then-index-row-clause-front
returns-then-index-row-clause-front c = let row = row_at c.args.meeting.now.waiting c.args.row in front_same row row refl

pub returns-then-not-can_clash-clause-front : goal.returns-then-not-can_clash-clause-front
returns-then-not-can_clash-clause-front c = let row = row_at c.args.meeting.now.waiting c.args.row in front_same row row refl

pub returns-clause-front : goal.returns-clause-front
returns-clause-front c = c.in_ok-visit.ensures.fronts c.args.row
