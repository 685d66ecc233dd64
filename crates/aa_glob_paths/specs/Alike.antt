-- Bytes that no state tells apart.
use Rattle.std.specs.Prelude.{◌≡◌, ℕ, ◌^◌, ◌<◌, List, Contains, codes}
use Rattle.aa_glob_nfa.specs.Entries.{stays_at, takes_byte}
use Rattle.aa_glob_nfa.specs.Graphs.{entry_of, Graph, Leads}

-- two bytes lead into the same states, and stay in the same states
abbrev pub AreAlike : Graph → ℕ → ℕ → Type 0
AreAlike g c d =
    (r : ℕ) → (takes_byte (entry_of g r) c ≡ takes_byte (entry_of g r) d) × (stays_at (entry_of g r) c ≡ stays_at (entry_of g r) d)

-- each byte is like one of these
abbrev pub StandForAll : Graph → List ℕ → Type 0
StandForAll g bytes = (c : ℕ) → c < 2 ^ 8 → (b : ℕ) × Contains bytes b × AreAlike g b c

-- from each state of a set two bytes lead into the same states, and both stay in it or neither does
abbrev pub AreAlikeFrom : Graph → List ℕ → ℕ → ℕ → Type 0
AreAlikeFrom g set c d =
    (q : ℕ) → Contains set q
    → ((r : ℕ) → Leads g q r → takes_byte (entry_of g r) c ≡ takes_byte (entry_of g r) d) × (stays_at (entry_of g q) c ≡ stays_at (entry_of g q) d)

-- each byte is like one of these, as far as a set's states are concerned
abbrev pub StandForAllFrom : Graph → List ℕ → List ℕ → Type 0
StandForAllFrom g set bytes = (c : ℕ) → c < 2 ^ 8 → (b : ℕ) × Contains bytes b × AreAlikeFrom g set b c

-- the printable bytes, in the order in which texts are written with them: letters and digits first, and those last that have a meaning to shells
abbrev pub printed : List ℕ
printed = codes "abcdefghijklmnopqrstuvwxyzABCDEFGHIJKLMNOPQRSTUVWXYZ0123456789._-+/,:=@%~!#^$&'()*;<>?[]`{|}\"\\ "

-- each printable byte is like one of these that is printable
abbrev pub StandForPrinted : Graph → List ℕ → Type 0
StandForPrinted g bytes = (c : ℕ) → Contains printed c → (b : ℕ) × Contains bytes b × Contains printed b × AreAlike g b c
