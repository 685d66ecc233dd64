use Rattle.std.proofs.Common.{◌≡◌, ◌≢◌, ℕ, ◌<◌, ◌≤◌, ◌+◌, ◌-◌, ◌*◌, suc, drop, get_or, length, take, ap, subst, ◌∙◌, arith}
use Rattle.std.proofs.lemmas.List.{get_or-drop, get_or-take, length-drop, length-take-le}
use Rattle.aa_glob_nfa.specs.OfTables.{graph_of}
use Rattle.aa_glob_nfa.specs.Steps.{counted}
use Rattle.aa_glob_nfa.proofs.VisitLemmas.{counts_none}
use Rattle.aa_glob_run.proofs.RecallLemmas.{recalled_passed, recalled_start}
use Rattle.aa_glob_run.specs.code.Memos.{Notes, front_at, fronts_in}
use Rattle.aa_glob_run.proofs.recall.known_far.Goals as goal

pub loop-far-init : goal.loop-far-init
loop-far-init c =
    let t = c.args.tables.now in
    let g = graph_of t in
    let some : 0 < length (fronts_in c.args.memo.now) = omega (arith, c.len.ensures, c.if-len-eq0.false) in
    let whole = c.requires.memo.start some in
    record {
      within = omega arith;
      recalling = record {
        within = some;
        whole = whole;
        run = record {
          running = recalled_start g (length t.states) c.args.steps.now (front_at c.args.memo.now 0) whole;
          counts = counts_none g c.args.text.now c.args.steps.now;
        };
      };
    }

pub loop-far-preserved : goal.loop-far-preserved
loop-far-preserved c =
    let t = c.args.tables.now in
    let memo = c.args.memo.now in
    let text = c.args.text.now in
    let i = c.loop-far.far.place in
    let from = c.loop-far.far.number in
    let to = c.in-Some.number in
    let passed = c.places_passed-places in
    let inv = c.loop-far.invariant.recalling in
    let lives : length (front_at memo from) ≢ 0 = omega (arith, ap length c.front-live.ensures, c.if-live-gt0.true) in
    let steps : c.visited_at.new.self ≡ counted c.loop-far.steps (length (front_at memo from) * passed.result) =
    c.visited_at.ensures ∙ ap (λ l. counted c.loop-far.steps (length l * passed.result)) c.front-live.ensures in
    let left : length (drop (i + 1) text) ≡ length text - (i + 1) = length-drop (i + 1) text in
    let longer : length (take (length text - (i + 1)) (drop (i + 1) text)) ≡ length text - (i + 1) = length-take-le (length text - (i + 1)) (drop (i + 1) text) (omega (arith, left)) in
    let most = passed.ensures.within in
    let within : i + passed.result ≤ length text = omega (arith, most, longer, c.loop-far-test.true) in
    let kept : (j : ℕ) → suc j < passed.result → Notes memo.moves.items to (get_or text (i + 1 + j) 0) to =
    λ j low.
    let before : j < length text - (i + 1) = omega (arith, most, longer, low) in
    let same : get_or (take (length text - (i + 1)) (drop (i + 1) text)) j 0 ≡ get_or text (i + 1 + j) 0 =
    get_or-take (length text - (i + 1)) (drop (i + 1) text) j 0 before ∙ get_or-drop (i + 1) text j 0 in
    subst (λ b. Notes memo.moves.items to b to) same (passed.ensures.kept j low)
    in
    record {
      within = within;
      recalling =
          recalled_passed (graph_of t) text i (length t.states) passed.result memo from to c.args.steps.now c.loop-far.steps c.visited_at.new.self c.requires.memo (λ j. let fits = c.type_inv.text j in omega (arith, fits)) within passed.ensures.some
          passed.ensures.one inv lives c.in-Some.ensures kept steps;
    }
