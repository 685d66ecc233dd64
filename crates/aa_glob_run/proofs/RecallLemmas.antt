-- How a run comes on by what is remembered.
use Rattle.std.proofs.Common.{◌≡◌, ◌≢◌, ℕ, zero, suc, ◌+◌, ◌-◌, ◌*◌, ◌<◌, ◌≤◌, List, [], ◌∷◌, get_or, length, reverse, take, refl, sym, subst, ◌∙◌, ap, inl, inr, arith}
use Rattle.std.proofs.lemmas.Bool.{cases_eq}
use Rattle.std.proofs.lemmas.List.Elements.{All-get_or}
use Rattle.std.proofs.lemmas.Nat.{mul-le}
use Rattle.std.proofs.Math.Nat.{mul-suc}
use Rattle.std.specs.Prelude.{Contains}
use Rattle.aa_glob_nfa.specs.Fronts.{IsLive}
use Rattle.aa_glob_nfa.specs.Graphs.{Graph, Reaches}
use Rattle.aa_glob_nfa.specs.Graphs.Reaches.{begins}
use Rattle.aa_glob_nfa.specs.Steps.{counted, IsCounted}
use Rattle.aa_glob_nfa.specs.Runs.{IsRunning, IsWhole}
use Rattle.aa_glob_nfa.specs.Visits.{CountsVisits}
use Rattle.aa_glob_nfa.proofs.FrontLemmas.{length_distinct}
use Rattle.aa_glob_nfa.proofs.RunLemmas.{begun-whole, more_visits, reverse-longer}
use Rattle.aa_glob_nfa.proofs.StepLemmas.{counted-counted}
use Rattle.aa_glob_nfa.proofs.VisitLemmas.{counts_more}
use Rattle.aa_glob_run.specs.code.Memos.{IsRecalling, Notes, Remembers, front_at, fronts_in}
use Rattle.aa_glob_run.specs.declared.memo.Memo.{Memo}

-- before a text, where some state lives
pub recalled_start : (g : Graph) (room old : ℕ) (live : List ℕ) → IsWhole g [] live → IsRunning g [] room 0 (record { states = live; room = room }) (record { states = []; room = room }) old old
recalled_start g room old live whole =
    let there : Contains live 0 = whole.each 0 begins in
    record {
      begun = begun-whole g [] live whole;
      room_here = refl;
      empty = refl;
      visits = 0;
      some = λ none. omega (arith, there.1);
      few = omega arith;
      steps = refl;
    }

-- behind a byte
pub recalled_more : (g : Graph) (past : List ℕ) (room places c old mid new : ℕ) (from to : List ℕ)
    → IsRunning g past room places (record { states = from; room = room }) (record { states = []; room = room }) old mid → length from ≢ 0 → length from ≤ room
    → new ≡ counted mid (length from) → IsWhole g (c ∷ past) to
    → IsRunning g (c ∷ past) room (places + 1) (record { states = to; room = room }) (record { states = []; room = room }) old new
recalled_more g past room places c old mid new from to running some fits steps whole = record {
  begun = begun-whole g (c ∷ past) to whole;
  room_here = refl;
  empty = refl;
  visits = running.visits + length from;
  some = λ none. absurd (some (omega (arith, none)));
  few = more_visits places room running.visits (length from) running.few fits;
  steps = steps ∙ ap (λ s. counted s (length from)) running.steps ∙ counted-counted old running.visits (length from);
}

-- at the end of the text
pub recalled_end : (g : Graph) (past : List ℕ) (room places old mid new : ℕ) (live : List ℕ)
    → IsRunning g past room places (record { states = live; room = room }) (record { states = []; room = room }) old mid → length live ≤ room
    → new ≡ counted mid (length live) → IsCounted 1 ((places + 1) * room) old new
recalled_end g past room places old mid new live running fits steps =
    let some : 1 ≤ running.visits + length live = elim (cases_eq running.visits 0) [
      | inl none ↦ let lives = running.some none in omega arith
      | inr visited ↦ omega arith
    ] in (
      running.visits + length live,
      some,
      more_visits places room running.visits (length live) running.few fits,
      steps ∙ ap (λ s. counted s (length live)) running.steps ∙ counted-counted old running.visits (length live),
    )

-- the steps of a run that ends before the text does
pub recalled_far : (g : Graph) (past : List ℕ) (room places n old mid new : ℕ) (live : List ℕ)
    → IsRunning g past room places (record { states = live; room = room }) (record { states = []; room = room }) old mid → length live ≤ room
    → new ≡ counted mid (length live) → places < n → IsCounted 0 ((n + 1) * room) old new
recalled_far g past room places n old mid new live running fits steps before =
    let some = recalled_end g past room places old mid new live running fits steps in
    let more : (places + 1) * room ≤ (n + 1) * room = mul-le (places + 1) room (n + 1) room (omega arith) (omega arith) in
    let few = some.2 in
    (some.0, omega arith, omega (arith, few, more), some.3)

-- a move that is known: one byte more is passed
pub recalled_move : (g : Graph) (text : List ℕ) (i room : ℕ) (memo : Memo) (from to old mid new : ℕ) → Remembers g room memo → i < length text → get_or text i 0 < 256
    → IsRecalling g text i room memo from old mid → length (front_at memo from) ≢ 0 → Notes memo.moves.items from (get_or text i 0) to
    → new ≡ counted mid (length (front_at memo from)) → IsRecalling g text (i + 1) room memo to old new
recalled_move g text i room memo from to old mid new remembers within small recalling lives notes steps =
    let past = reverse (take i text) in
    let live = front_at memo from in
    let is_live : IsLive room live = All-get_or (IsLive room) (fronts_in memo) from _ recalling.within remembers.lists in
    let fits : length live ≤ room = length_distinct room live is_live.0 is_live.1 in
    let right = remembers.known from (get_or text i 0) to recalling.within small notes in
    let whole = right.1 past recalling.whole in
    let longer = reverse-longer text i 0 within in
    let one_more : suc i ≡ i + 1 = omega arith in
    record {
      within = right.0;
      whole = rw longer whole;
      run = record {
        running = rw longer (recalled_more g past room i (get_or text i 0) old mid new live (front_at memo to) recalling.run.running lives fits steps whole);
        counts = subst (λ places. CountsVisits (Reaches g) text places old new) one_more (counts_more g text live i old mid new recalling.run.counts recalling.whole is_live.0 steps);
      };
    }

-- so many bytes more are passed, each of which keeps the list
pub recalled_kept : (g : Graph) (text : List ℕ) (n i room : ℕ) (memo : Memo) (at old mid : ℕ) → Remembers g room memo → i + n ≤ length text → ((j : ℕ) → get_or text j 0 < 256)
    → IsRecalling g text i room memo at old mid → length (front_at memo at) ≢ 0 → ((j : ℕ) → j < n → Notes memo.moves.items at (get_or text (i + j) 0) at)
    → IsRecalling g text (i + n) room memo at old (counted mid (length (front_at memo at) * n))
recalled_kept g text zero i room memo at old mid remembers within small recalling lives kept =
    let here : i ≡ i + 0 = omega arith in
    let none : 0 ≡ length (front_at memo at) * 0 = omega arith in
    subst (λ v. IsRecalling g text (i + 0) room memo at old (counted mid v)) none (subst (λ p. IsRecalling g text p room memo at old mid) here recalling)
recalled_kept g text (suc n) i room memo at old mid remembers within small recalling lives kept =
    let live = length (front_at memo at) in
    let here : i + 0 ≡ i = omega arith in
    let first = recalled_move g text i room memo at at old mid (counted mid live) remembers (omega (arith, within)) (small i) recalling lives
    (subst (λ j. Notes memo.moves.items at (get_or text j 0) at) here (kept 0 (omega arith))) refl in
    let others = recalled_kept g text n (i + 1) room memo at old (counted mid live) remembers (omega (arith, within)) small first lives
    (λ j low. let shifted : i + suc j ≡ i + 1 + j = omega arith in subst (λ p. Notes memo.moves.items at (get_or text p 0) at) shifted (kept (suc j) (omega (arith, low)))) in
    let place : i + 1 + n ≡ i + suc n = omega arith in
    let visits : live + live * n ≡ live * suc n = let product = mul-suc live n in omega (arith, product) in
    subst (λ p. IsRecalling g text p room memo at old (counted mid (live * suc n))) place
    (subst (λ v. IsRecalling g text (i + 1 + n) room memo at old v) (counted-counted mid live (live * n) ∙ ap (counted mid) visits) others)

-- a move, and so many bytes more that keep the list to which it leads; more than none where it leads to the list itself alone
pub recalled_passed : (g : Graph) (text : List ℕ) (i room places : ℕ) (memo : Memo) (from to old mid new : ℕ) → Remembers g room memo → ((j : ℕ) → get_or text j 0 < 256)
    → i + places ≤ length text → 0 < places → (from ≢ to → places ≡ 1) → IsRecalling g text i room memo from old mid → length (front_at memo from) ≢ 0
    → Notes memo.moves.items from (get_or text i 0) to → ((j : ℕ) → suc j < places → Notes memo.moves.items to (get_or text (i + 1 + j) 0) to)
    → new ≡ counted mid (length (front_at memo from) * places) → IsRecalling g text (i + places) room memo to old new
recalled_passed g text i room places memo from to old mid new remembers small within some one recalling lives notes kept steps = elim (cases_eq from to) [
  | inl same ↦
      let live = length (front_at memo from) in
      let n = places - 1 in
      let first = recalled_move g text i room memo from to old mid (counted mid live) remembers (omega (arith, within, some)) (small i) recalling lives notes refl in
      let alike : length (front_at memo to) ≡ live = ap (λ k. length (front_at memo k)) (sym same) in
      let others = recalled_kept g text n (i + 1) room memo to old (counted mid live) remembers (omega (arith, within, some)) small first
      (subst (λ l. l ≢ 0) (sym alike) lives) (λ j low. kept j (omega (arith, low, some))) in
      let place : i + 1 + n ≡ i + places = omega (arith, some) in
      let all : suc n ≡ places = omega (arith, some) in
      let visits : live + length (front_at memo to) * n ≡ live * places = ap (λ l. live + l * n) alike ∙ (let product = mul-suc live n in omega (arith, product)) ∙ ap (λ k. live * k) all in
      subst (λ p. IsRecalling g text p room memo to old new) place
      (subst (λ v. IsRecalling g text (i + 1 + n) room memo to old v) (counted-counted mid live (length (front_at memo to) * n) ∙ ap (counted mid) visits ∙ sym steps) others)
  | inr other ↦
      let live = length (front_at memo from) in
      let only : places ≡ 1 = one other in
      let visits : live * places ≡ live = ap (λ k. live * k) only ∙ omega arith in
      subst (λ p. IsRecalling g text (i + p) room memo to old new) (sym only)
      (recalled_move g text i room memo from to old mid new remembers (omega (arith, within, some)) (small i) recalling lives notes (steps ∙ ap (counted mid) visits))
]
