use Rattle.std.proofs.Common.{◌≡◌, ◌&&◌, not, false, length, inr, subst, sym, ◌∙◌, arith}
use Rattle.std.proofs.lemmas.Result.{on_ok_weaker}
use Rattle.std.specs.List.{list_any}
use Rattle.aa_glob_nfa.specs.OfTables.{graph_of}
use Rattle.aa_glob_nfa.specs.Runs.{LeadsTo}
use Rattle.aa_glob_paths.specs.Found.{FoundSet, IsStateSet, set_at}
use Rattle.aa_glob_paths.specs.Reachable.{is_settled, matters}
use Rattle.aa_glob_paths.proofs.FoundLemmas.{found-placed, placed-next}
use Rattle.aa_glob_paths.proofs.LiveLemmas.{over-unkept}
use Rattle.aa_glob_paths.proofs.closing.follow_byte.Goals as goal

pub returns-then-are_kept-clause-more : goal.returns-then-are_kept-clause-more
returns-then-are_kept-clause-more c =
    let t = c.args.tables.now in
    let to = c.deref-then-are_kept.result.now in
    let same = sym c.deref-then-are_kept.ensures.value in
    let one : FoundSet = record { set = to; origin = record { from = c.args.from; byte = c.args.byte } } in
    let leads = subst (λ set. LeadsTo (graph_of t) set c.args.byte to) c.set.ensures (subst (LeadsTo (graph_of t) _ c.args.byte) same c.in_ok-next_set.ensures.leads) in
    on_ok_weaker c.place.result (λ placed. found-placed (graph_of t) (length t.states) c.args.sets.now c.place.new.self one c.requires.found placed (record {
      states = subst (IsStateSet (length t.states)) same c.in_ok-next_set.ensures.set;
      from = c.requires.within;
      is_byte = omega arith;
      leads = leads;
      up_to = c.requires.up_to;
    })) c.place.ensures

pub returns-then-are_kept-clause-followed : goal.returns-then-are_kept-clause-followed
returns-then-are_kept-clause-followed c =
    let t = c.args.tables.now in
    let g = graph_of t in
    let to = c.deref-then-are_kept.result.now in
    let same = sym c.deref-then-are_kept.ensures.value in
    let one : FoundSet = record { set = to; origin = record { from = c.args.from; byte = c.args.byte } } in
    let leads = subst (λ set. LeadsTo g set c.args.byte to) c.set.ensures (subst (LeadsTo g _ c.args.byte) same c.in_ok-next_set.ensures.leads) in
    on_ok_weaker c.place.result (λ placed.
    let more = found-placed g (length t.states) c.args.sets.now c.place.new.self one c.requires.found placed (record {
      states = subst (IsStateSet (length t.states)) same c.in_ok-next_set.ensures.set;
      from = c.requires.within;
      is_byte = omega arith;
      leads = leads;
      up_to = c.requires.up_to;
    }) in
    placed-next g c.args.wanted.now c.args.settled.now c.args.sets.now c.place.new.self one placed more.grows more.up_to c.requires.within leads) c.place.ensures

pub returns-else-are_kept-clause-followed : goal.returns-else-are_kept-clause-followed
returns-else-are_kept-clause-followed c =
    let g = graph_of c.args.tables.now in
    let to = c.next_set.new.fronts.set.items in
    let leads = subst (λ set. LeadsTo g set c.args.byte to) c.set.ensures c.in_ok-next_set.ensures.leads in
    let wanted = c.args.wanted.now in
    let settled = c.args.settled.now in
    let none = subst (λ states. (list_any (matters wanted) states && not (list_any (is_settled settled) states)) ≡ false) c.deref.ensures.value
    (sym c.are_kept.ensures ∙ c.if-are_kept.false) in
    inr (over-unkept g wanted settled (set_at c.args.sets.now c.args.from) to c.args.byte leads none)
