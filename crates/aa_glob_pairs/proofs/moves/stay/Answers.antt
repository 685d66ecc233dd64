use Rattle.std.proofs.Common.{◌∙◌, ap, refl}
use Rattle.aa_glob_nfa.specs.Entries.{stays_at}
use Rattle.aa_glob_nfa.specs.OfTables.{graph_of}
use Rattle.aa_glob_nfa.specs.Tables.{set_of}
use Rattle.aa_glob_pairs.proofs.MoveLemmas.{entry_by_gate, gets_stay_none, gets_stay_step, no_bytes_stay}
use Rattle.aa_glob_pairs.specs.Bytes.{is_among}
use Rattle.aa_glob_pairs.proofs.moves.stay.Goals as goal

pub returns-in_ok-push : goal.returns-in_ok-push
returns-in_ok-push c =
    let t = c.args.tables.now in
    let entry = entry_by_gate t c.args.state c.gate.result c.requires.is_state c.gate.ensures in
    gets_stay_step (graph_of t) c.args.moves.now (record { free = c.args.moves.now.free; steps = c.push.new.self }) c.args.state c.in-Some.bytes refl c.in_ok-push.ensures.items
    (λ b. ap (λ e. stays_at e b) entry ∙ c.bytes_staying.ensures (set_of t.classes.items c.args.state) b ∙ ap (λ o. is_among o b) c.in-Some.is)

pub returns-in_default : goal.returns-in_default
returns-in_default c =
    let t = c.args.tables.now in
    let entry = entry_by_gate t c.args.state c.gate.result c.requires.is_state c.gate.ensures in
    gets_stay_none (graph_of t) c.args.moves.now c.args.state
    (λ b. ap (λ e. stays_at e b) entry ∙ c.bytes_staying.ensures (set_of t.classes.items c.args.state) b ∙ no_bytes_stay c.bytes_staying.result b c.in_default.not-Some)
