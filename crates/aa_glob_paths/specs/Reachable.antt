-- To which sets of states texts of bytes lead, as far as they matter, and nothing after them is settled.
use Rattle.std.specs.Prelude.{◌≡◌, ◌↔◌, ◌⊎◌, ℕ, ◌^◌, ◌<◌, ◌≤◌, Bool, true, false, List, [], ◌∷◌, length, slice_index_or, All, AllPairs}
use Rattle.aa_glob_nfa.specs.Graphs.{AreBytes, Graph, Leads, Reaches}
use Rattle.aa_glob_nfa.specs.Runs.{IsWhole, LeadsTo}
use Rattle.aa_glob_paths.specs.Found.{AreByLength, FoundSet, IsFoundBehind, IsFoundWithin, origin_at, set_at}

-- a state is marked
abbrev pub is_marked : List Bool → ℕ → Bool
is_marked marks r = slice_index_or marks r false

-- a state matters
abbrev pub matters : List Bool → ℕ → Bool
matters wanted r = is_marked wanted r

-- a state is settled: texts that continue after it aren't looked for
abbrev pub is_settled : List Bool → ℕ → Bool
is_settled settled r = is_marked settled r

-- a state that leads to one that matters does so too
abbrev pub IsKeptBack : Graph → List Bool → Type 0
IsKeptBack g wanted = (q r : ℕ) → Leads g q r → matters wanted r ≡ true → matters wanted q ≡ true

-- after a text, which is written with its last byte first, a state is live that matters
abbrev pub LivesOn : Graph → List Bool → List ℕ → Type 0
LivesOn g wanted past = (r : ℕ) × Reaches g past r × (matters wanted r ≡ true)

-- after a text no settled state is live
abbrev pub IsUnsettled : Graph → List Bool → List ℕ → Type 0
IsUnsettled g settled past = (r : ℕ) → Reaches g past r → is_settled settled r ≡ true → ⊥

-- after a text and after each beginning of it no settled state is live
abbrev pub StaysUnsettled : Graph → List Bool → List ℕ → Type 0
StaysUnsettled g settled [] = IsUnsettled g settled []
StaysUnsettled g settled (c ∷ past) = IsUnsettled g settled (c ∷ past) × StaysUnsettled g settled past

-- the set of a number is live after some text of bytes, by which it was found
abbrev pub HasText : Graph → List FoundSet → ℕ → Type 0
HasText g found n = (past : List ℕ) × AreBytes past × IsWhole g past (set_at found n) × IsFoundBehind found n past

-- one of the sets is live after the text, and was found by one that is no longer
abbrev pub HasSet : Graph → List FoundSet → List ℕ → Type 0
HasSet g found past = (n : ℕ) × (n < length found) × IsWhole g past (set_at found n) × IsFoundWithin found n past

-- These are the sets that are live after texts of bytes: each text after which a state is live that matters, and after no beginning of which a
-- settled one is, has its set among them, which was found by one of the shortest of its texts, and each of them has a text. They are in the order of
-- the lengths of the texts by which they were found.
pub record AreReachable (g : Graph) (wanted settled : List Bool) (found : List FoundSet) : Type 0 where
  pub each_text : (past : List ℕ) → AreBytes past → LivesOn g wanted past → StaysUnsettled g settled past → HasSet g found past
  pub each_set : (n : ℕ) → n < length found → HasText g found n
  pub by_length : AreByLength found

-- two texts lead to the same states
abbrev pub LeadAlike : Graph → List ℕ → List ℕ → Type 0
LeadAlike g past other = (r : ℕ) → Reaches g past r ↔ Reaches g other r

-- there are more texts of bytes than so many, no two of which lead to the same states
pub record AreMoreThan (g : Graph) (limit : ℕ) : Type 0 where
  pub texts : List (List ℕ)
  pub more : limit < length texts
  pub bytes : All AreBytes texts
  pub apart : AllPairs (λ past other. LeadAlike g past other → ⊥) texts

-- after any text that leads to a set, and one more byte, no state is live that matters, or a settled one is
abbrev pub IsOver : Graph → List Bool → List Bool → List ℕ → ℕ → Type 0
IsOver g wanted settled from c = (past : List ℕ) → IsWhole g past from → LivesOn g wanted (c ∷ past) → IsUnsettled g settled (c ∷ past) → ⊥

-- one of the sets follows that of a number by a byte, and was found from it or from an earlier one
abbrev pub HasNext : Graph → List FoundSet → ℕ → ℕ → Type 0
HasNext g found n c = (to : ℕ) × (to < length found) × ((origin_at found to).from ≤ n) × LeadsTo g (set_at found n) c (set_at found to)

-- the set of a number is followed by a byte: one of the sets follows, or nothing that matters, or something that is settled
abbrev pub IsFollowed : Graph → List Bool → List Bool → List FoundSet → ℕ → ℕ → Type 0
IsFollowed g wanted settled found n c = HasNext g found n c ⊎ IsOver g wanted settled (set_at found n) c

-- each of the sets is followed by each byte
abbrev pub IsClosed : Graph → List Bool → List Bool → List FoundSet → Type 0
IsClosed g wanted settled found = (n c : ℕ) → n < length found → c < 2 ^ 8 → IsFollowed g wanted settled found n c
