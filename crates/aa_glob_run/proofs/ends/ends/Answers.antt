use Rattle.std.proofs.Common.{◌≡◌, ◌≤◌, ◌+◌, ◌*◌, suc, length, reverse, take, ap, subst, sym, ◌∙◌, arith}
use Rattle.std.proofs.Math.Seq.{take-length}
use Rattle.std.proofs.lemmas.List.Elements.{All-get_or}
use Rattle.aa_glob_nfa.specs.Graphs.{IsFound, Reaches}
use Rattle.aa_glob_nfa.specs.OfTables.{graph_of}
use Rattle.aa_glob_nfa.specs.Fronts.{IsLive}
use Rattle.aa_glob_nfa.specs.Runs.{HasRun, IsWhole}
use Rattle.aa_glob_nfa.specs.Steps.{IsCounted, counted}
use Rattle.aa_glob_nfa.specs.Visits.{CountsVisits}
use Rattle.aa_glob_nfa.proofs.FrontLemmas.{length_distinct}
use Rattle.aa_glob_nfa.proofs.RunLemmas.{counted_some}
use Rattle.aa_glob_nfa.proofs.VisitLemmas.{counts_first, counts_more}
use Rattle.aa_glob_run.proofs.PatternLemmas.{OnOk-from, found_all}
use Rattle.std.proofs.lemmas.Result.{IfOk-weaker}
use Rattle.aa_glob_run.proofs.RecallLemmas.{recalled_end}
use Rattle.aa_glob_run.specs.code.Memos.{IsRecalling, front_at, fronts_in}
use Rattle.aa_glob_run.proofs.ends.ends.Goals as goal

pub returns-in_default-clause-found : goal.returns-in_default-clause-found
returns-in_default-clause-found c =
    let g = graph_of c.args.tables.now in
    let text = c.args.text.now in
    IfOk-weaker c.patterns_of.result _ (λ patterns. IsFound g text patterns.items)
    (λ patterns ends. found_all g text c.states.result.now patterns.items (subst (IsWhole g (reverse text)) (sym c.states.ensures.states) c.in_ok-run.ensures.whole) ends)
    c.patterns_of.ensures.found

pub returns-then-far-text-clause-found : goal.returns-then-far-text-clause-found
returns-then-far-text-clause-found c =
    let g = graph_of c.args.tables.now in
    let text = c.args.text.now in
    let end : c.in-Some.far.place ≡ length text = c.if-far-text.true in
    let whole = subst (λ l. IsWhole g (reverse l) (front_at c.args.memo.now c.in-Some.far.number)) (ap (λ n. take n text) end ∙ take-length text) c.in-Some.ensures.1.whole in
    IfOk-weaker c.patterns_of-then-far-text.result _ (λ patterns. IsFound g text patterns.items)
    (λ patterns ends. found_all g text c.front-live.result.now patterns.items (subst (IsWhole g (reverse text)) (sym c.front-live.ensures) whole) ends)
    c.patterns_of-then-far-text.ensures.found

pub returns-then-far-text-clause-steps : goal.returns-then-far-text-clause-steps
returns-then-far-text-clause-steps c =
    let t = c.args.tables.now in
    let g = graph_of t in
    let room = length t.states in
    let memo = c.args.memo.now in
    let far = c.in-Some.far in
    let live = front_at memo far.number in
    let recalling = subst (λ s. IsRecalling g c.args.text.now far.place room memo far.number s c.known_far.new.steps) c.as_many-counted.ensures c.in-Some.ensures.1 in
    let is_live : IsLive room live = All-get_or (IsLive room) (fronts_in memo) far.number _ recalling.within c.requires.memo.lists in
    let end : far.place ≡ length c.args.text.now = c.if-far-text.true in
    counted_some _ _ _ (subst (λ n. IsCounted 1 ((n + 1) * room) c.args.steps.now c.visited.new.self) end
    (recalled_end g (reverse (take far.place c.args.text.now)) room far.place c.args.steps.now c.known_far.new.steps c.visited.new.self live recalling.run.running
    (length_distinct room live is_live.0 is_live.1) (c.visited.ensures ∙ ap (λ l. counted c.known_far.new.steps (length l)) c.front-live.ensures)))

pub returns-then-far-text-clause-visits : goal.returns-then-far-text-clause-visits
returns-then-far-text-clause-visits c =
    let t = c.args.tables.now in
    let g = graph_of t in
    let room = length t.states in
    let memo = c.args.memo.now in
    let far = c.in-Some.far in
    let live = front_at memo far.number in
    let recalling = subst (λ s. IsRecalling g c.args.text.now far.place room memo far.number s c.known_far.new.steps) c.as_many-counted.ensures c.in-Some.ensures.1 in
    let is_live : IsLive room live = All-get_or (IsLive room) (fronts_in memo) far.number _ recalling.within c.requires.memo.lists in
    let end : far.place ≡ length c.args.text.now = c.if-far-text.true in
    OnOk-from c.patterns_of-then-far-text.result _ (subst (λ n. IsCounted 1 ((n + 1) * room) c.args.steps.now c.visited.new.self) end
    (recalled_end g (reverse (take far.place c.args.text.now)) room far.place c.args.steps.now c.known_far.new.steps c.visited.new.self live recalling.run.running
    (length_distinct room live is_live.0 is_live.1) (c.visited.ensures ∙ ap (λ l. counted c.known_far.new.steps (length l)) c.front-live.ensures)))

pub returns-then-far-text-clause-all : goal.returns-then-far-text-clause-all
returns-then-far-text-clause-all c =
    let t = c.args.tables.now in
    let g = graph_of t in
    let room = length t.states in
    let memo = c.args.memo.now in
    let text = c.args.text.now in
    let far = c.in-Some.far in
    let live = front_at memo far.number in
    let recalling = subst (λ s. IsRecalling g text far.place room memo far.number s c.known_far.new.steps) c.as_many-counted.ensures c.in-Some.ensures.1 in
    let is_live : IsLive room live = All-get_or (IsLive room) (fronts_in memo) far.number _ recalling.within c.requires.memo.lists in
    let end : far.place ≡ length text = c.if-far-text.true in
    OnOk-from c.patterns_of-then-far-text.result _ (subst (λ n. CountsVisits (Reaches g) text (suc n) c.args.steps.now c.visited.new.self) end
    (counts_more g text live far.place c.args.steps.now c.known_far.new.steps c.visited.new.self recalling.run.counts recalling.whole is_live.0
    (c.visited.ensures ∙ ap (λ l. counted c.known_far.new.steps (length l)) c.front-live.ensures)))

pub returns-then-far-text-clause-first : goal.returns-then-far-text-clause-first
returns-then-far-text-clause-first c =
    let t = c.args.tables.now in
    let g = graph_of t in
    let room = length t.states in
    let memo = c.args.memo.now in
    let text = c.args.text.now in
    let far = c.in-Some.far in
    let live = front_at memo far.number in
    let recalling = subst (λ s. IsRecalling g text far.place room memo far.number s c.known_far.new.steps) c.as_many-counted.ensures c.in-Some.ensures.1 in
    let is_live : IsLive room live = All-get_or (IsLive room) (fronts_in memo) far.number _ recalling.within c.requires.memo.lists in
    let within : far.place ≤ length text = c.in-Some.ensures.0 in
    counts_first g text (suc far.place) c.args.steps.now c.visited.new.self (omega (arith, within))
    (counts_more g text live far.place c.args.steps.now c.known_far.new.steps c.visited.new.self recalling.run.counts recalling.whole is_live.0
    (c.visited.ensures ∙ ap (λ l. counted c.known_far.new.steps (length l)) c.front-live.ensures))

pub returns-clause-found : goal.returns-clause-found
returns-clause-found c =
    let g = graph_of c.args.tables.now in
    let room = length c.args.tables.now.states in
    let text = c.args.text.now in
    let far = c.in-Some.far in
    let has : HasRun g text far.place room c.in_ok-here-2.here c.in_ok-next-2.next c.as_many-counted.result c.known_far.new.steps =
    rw (c.in_ok-here-2.ensures, c.in_ok-next-2.ensures, c.len-count.ensures, c.front-live.ensures) c.in-Some.ensures.1.run in
    let whole = c.in_ok-run_on.ensures.whole c.as_many-counted.result has in
    IfOk-weaker c.patterns_of-2.result _ (λ patterns. IsFound g text patterns.items)
    (λ patterns ends. found_all g text c.states-2.result.now patterns.items (subst (IsWhole g (reverse text)) (sym c.states-2.ensures.states) whole) ends)
    c.patterns_of-2.ensures.found
