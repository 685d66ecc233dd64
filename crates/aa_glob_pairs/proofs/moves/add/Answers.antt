use Rattle.std.proofs.Common.{◌∙◌, refl, sym}
use Rattle.aa_glob_nfa.specs.OfTables.{graph_of}
use Rattle.aa_glob_pairs.proofs.MoveLemmas.{gets_free, gets_step}
use Rattle.aa_glob_pairs.proofs.moves.add.Goals as goal

pub returns-in_ok-push : goal.returns-in_ok-push
returns-in_ok-push c =
    let old = c.args.moves.now in
    gets_free (graph_of c.args.tables.now) old (record { free = c.push.new.self; steps = old.steps }) c.args.to (sym c.is_free.ensures ∙ c.if-is_free.true) c.in_ok-push.ensures.items refl

pub returns-in_ok-push-2 : goal.returns-in_ok-push-2
returns-in_ok-push-2 c =
    let old = c.args.moves.now in
    gets_step (graph_of c.args.tables.now) old (record { free = old.free; steps = c.push-else-is_free.new.self }) c.args.to c.bytes_taken.result (sym c.is_free.ensures ∙ c.if-is_free.false)
    c.bytes_taken.ensures refl c.in_ok-push-2.ensures.items
