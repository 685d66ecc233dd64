use Rattle.aa_glob_nfa.specs.Graphs.{Leads}
use Rattle.aa_glob_nfa.specs.OfTables.{graph_of}
use Rattle.aa_glob_pairs.proofs.MoveLemmas.{gets_led_then, moves_gathered}
use Rattle.aa_glob_nfa.proofs.LeavingLemmas.{leads_both}
use Rattle.aa_glob_nfa.specs.Tables.{LeadsAway, LeadsOn}
use Rattle.aa_glob_pairs.specs.declared.moves.Moves.{Moves}
use Rattle.aa_glob_pairs.proofs.moves.put_moves.Goals as goal

pub returns : goal.returns
returns c =
    let t = c.args.tables.now in
    let g = graph_of t in
    let none : Moves = record { free = c.clear.new.self; steps = c.clear-2.new.self } in
    moves_gathered g c.args.state none c.lead_away.new.moves c.stay.new.moves c.clear.ensures.items c.clear-2.ensures.items
    (gets_led_then g none c.lead_on.new.moves c.lead_away.new.moves (LeadsOn t.states c.args.state) (LeadsAway t.ways.items c.args.state) (Leads g c.args.state) c.in_ok-lead_on.ensures c.in_ok-lead_away.ensures
    (λ x. leads_both t c.args.state x c.requires.is_state)) c.in_ok-stay.ensures
