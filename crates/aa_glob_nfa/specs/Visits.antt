-- How many visits a run makes: at each place of a text, which are before its bytes and at its end, one of each state that is reached there. It
-- applies to whatever is live after texts, states or beginnings of patterns; a text is written with its last byte first.
use Rattle.std.specs.Prelude.{◌≡◌, ◌≢◌, ◌↔◌, ℕ, zero, suc, ◌+◌, ◌≤◌, List, length, reverse, take, Contains, AllPairs}
use Rattle.aa_glob_nfa.specs.Steps.{counted}

-- these are all of a kind, each once
pub record AreEach {X : Type 0} (Kind : X → Type 0) (xs : List X) : Type 0 where
  pub members : (x : X) → Contains xs x ↔ Kind x
  pub apart : AllPairs (λ x y. x ≢ y) xs

-- so many visits are made at the first places of a text: at each of these as many as are live after the bytes before it
abbrev pub AreVisits : {X : Type 0} → (List ℕ → X → Type 0) → List ℕ → ℕ → ℕ → Type 0
AreVisits Lives text zero visits = visits ≡ 0
AreVisits {X} Lives text (suc place) visits =
    (earlier : ℕ) × AreVisits Lives text place earlier
    × (living : List X) × AreEach (Lives (reverse (take place text))) living × (visits ≡ earlier + length living)

-- the visits at so many first places of a text were added to a count
abbrev pub CountsVisits : {X : Type 0} → (List ℕ → X → Type 0) → List ℕ → ℕ → ℕ → ℕ → Type 0
CountsVisits Lives text places old new = (visits : ℕ) × AreVisits Lives text places visits × (new ≡ counted old visits)

-- the visits at some first places of a text were added to a count: at none, at all, or at some
abbrev pub CountsFirstVisits : {X : Type 0} → (List ℕ → X → Type 0) → List ℕ → ℕ → ℕ → Type 0
CountsFirstVisits Lives text old new = (places : ℕ) × (places ≤ suc (length text)) × CountsVisits Lives text places old new

-- the visits at all places of a text were added to a count
abbrev pub CountsAllVisits : {X : Type 0} → (List ℕ → X → Type 0) → List ℕ → ℕ → ℕ → Type 0
CountsAllVisits Lives text old new = CountsVisits Lives text (suc (length text)) old new
