use Rattle.std.proofs.Common.{◌≡◌, true, refl, sym, ◌∙◌}
use Rattle.std.proofs.lemmas.Result.{on_ok_weaker}
use Rattle.aa_glob_nfa.specs.OfTables.{graph_of}
use Rattle.aa_glob_nfa.specs.Runs.{StaysAt}
use Rattle.aa_glob_nfa.proofs.FrontLemmas.{Adds-as, Adds-tested}
use Rattle.aa_glob_nfa.proofs.leading.stay.Goals as goal

pub returns-then-stays : goal.returns-then-stays
returns-then-stays c =
    let front = c.args.front.now in
    on_ok_weaker c.insert.result (λ is. Adds-as front c.insert.new.self (λ x. (x ≡ c.args.number) × (true ≡ true)) (StaysAt (graph_of c.args.tables.now) c.args.byte c.args.number)
    (Adds-tested c.args.number true front c.insert.new.self is)
    (λ r kind. (kind.0, sym c.stays.ensures ∙ c.if-stays.true))
    (λ r kind. (kind.0, refl))) c.insert.ensures
