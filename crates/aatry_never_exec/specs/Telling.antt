-- What is told whether a program that somebody starts ever runs unconfined (docs/aatry.md, "`aatry never exec`").
use Rattle.std.specs.Prelude.{ℕ, Bool, true, false, if◌then◌else◌, List, [], ◌∷◌, ◌++◌, codes, flat_map, slice_get, Option, None, Some}
use Rattle.std.specs.List.{list_any}
use Rattle.aa_decide_ready.specs.Entries.{Loaded}
use Rattle.aa_explain_reach.specs.declared.reached.Reached.{Reached as Node}
use Rattle.aatry_never_exec.specs.Chain.{answer_of, chain_to}
use Rattle.aatry_reach.specs.Finding.{Found}
use Rattle.aatry_reach.specs.Telling.{node_told}
use Rattle.aatry_never_exec.specs.declared.chain.Answer.{Answer}
use Rattle.aatry_never_exec.specs.declared.chain.Answer.TheVariants as answer
use Rattle.aatry_reach.specs.declared.finding.Finding.{Finding}
use Rattle.aatry_reach.specs.declared.finding.Finding.TheVariants.{Absent, Reached}
use Rattle.aatry_report.specs.Fields.{Number, Text, Word, Words, told}
use Rattle.aatry_report.specs.declared.form.Form.{Form}

-- the answer for who is asked about, in a word and a sentence
abbrev pub answer_told : Form → List ℕ → Answer → List ℕ
answer_told form name answer.Absent =
    told form (codes "exec")
    (Word (codes "answer") (codes "absent") ∷ Words (codes ": nobody has the name ") ∷ Text (codes "name") name ∷ [])
answer_told form name (answer.Never count) =
    told form (codes "exec")
    (Word (codes "answer") (codes "never") ∷ Words (codes ": no program that ") ∷ Text (codes "name") name
    ∷ Words (codes " starts ever runs unconfined (places: ") ∷ Number (codes "places") count ∷ Words (codes ")") ∷ [])
answer_told form name (answer.Runs number) =
    told form (codes "exec")
    (Word (codes "answer") (codes "no") ∷ Words (codes ": a program that ") ∷ Text (codes "name") name ∷ Words (codes " starts may run unconfined") ∷ [])
answer_told form name answer.Many =
    told form (codes "exec")
    (Word (codes "answer") (codes "many") ∷ Words (codes ": it isn't known whether a program that ") ∷ Text (codes "name") name
    ∷ Words (codes " starts ever runs unconfined") ∷ [])

-- what `aatry reach` tells of the node of a number
abbrev pub link_told : Form → List (Option Loaded) → List ℕ → List Node → Option Node → List ℕ
link_told form slots name nodes None = []
link_told form slots name nodes (Some node) = node_told form slots (codes "chain") name nodes node

abbrev pub number_told : Form → List (Option Loaded) → List ℕ → List Node → ℕ → List ℕ
number_told form slots name nodes number = link_told form slots name nodes (slice_get nodes number)

-- the same of those of some numbers
abbrev pub chain_told : Form → List (Option Loaded) → List ℕ → List Node → List ℕ → List ℕ
chain_told form slots name nodes numbers = flat_map (number_told form slots name nodes) numbers

-- the chain of starts by which a program runs unconfined, where one does
abbrev pub chain_by : Form → List (Option Loaded) → List ℕ → List Node → Answer → List ℕ
chain_by form slots name nodes answer.Absent = []
chain_by form slots name nodes (answer.Never count) = []
chain_by form slots name nodes (answer.Runs number) = chain_told form slots name nodes (chain_to nodes number)
chain_by form slots name nodes answer.Many = []

abbrev pub chain_of : Form → List (Option Loaded) → List ℕ → Finding → List ℕ
chain_of form slots name Absent = []
chain_of form slots name (Reached reach) = chain_by form slots name reach.nodes.items (answer_of (Reached reach))

-- what is told of a name: the answer, and below it the chain, unless names alone are to be told
abbrev pub found_told : Form → Bool → List (Option Loaded) → Found → List ℕ
found_told form names slots found =
    answer_told form found.name (answer_of found.finding) ++ (if names then [] else chain_of form slots found.name found.finding)

abbrev pub all_told : Form → Bool → List (Option Loaded) → List Found → List ℕ
all_told form names slots found = flat_map (found_told form names slots) found

-- a program runs unconfined, or nobody has the name
abbrev pub is_refuting : Answer → Bool
is_refuting answer.Absent = true
is_refuting (answer.Never count) = false
is_refuting (answer.Runs number) = true
is_refuting answer.Many = false

-- it isn't known whether one does
abbrev pub is_many : Answer → Bool
is_many answer.Absent = false
is_many (answer.Never count) = false
is_many (answer.Runs number) = false
is_many answer.Many = true

-- the same of one of some
abbrev pub is_refuted : List Found → Bool
is_refuted found = list_any (λ (f : Found). is_refuting (answer_of f.finding)) found

abbrev pub has_many : List Found → Bool
has_many found = list_any (λ (f : Found). is_many (answer_of f.finding)) found
