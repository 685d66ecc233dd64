-- What the answers mean whether a program that somebody starts ever runs unconfined, and which words ask it.
use Rattle.std.specs.Prelude.{◌≡◌, ℕ, ◌<◌, ◌^◌, true, List, [], ◌∷◌, ◌++◌, length, slice_get, Option, None, Some}
use Rattle.aa_decide.specs.Exec.{Asker, Unconfined}
use Rattle.aa_decide.specs.SeenExec.{seen_to}
use Rattle.aa_decide_ready.specs.Entries.{Loaded}
use Rattle.aa_decide_ready.specs.Slots.{filled}
use Rattle.aa_explain_reach.specs.Chains.{Ends}
use Rattle.aa_explain_reach.specs.Reach.{HasTooMany, IsReached}
use Rattle.aa_explain_reach.specs.declared.reach.Reach.{Reach}
use Rattle.aa_explain_reach.specs.declared.reached.Reached.{Reached as Node}
use Rattle.aatry_claims.specs.Words.{path_words}
use Rattle.aatry_never_exec.specs.Chain.{chain_to, reach_answer}
use Rattle.aatry_never_exec.specs.NeverExec.{ask_exec}
use Rattle.aatry_reach.specs.Finding.{IsReachOf}
use Rattle.aatry_never_exec.specs.declared.chain.Answer.TheVariants.{Many, Never, Runs}

-- some chain of starts, of which this one starts the first, ends unconfined
abbrev pub SomeRunsUnconfined : List Loaded → Option Asker → Type 0
SomeRunsUnconfined entries who = (starts : ℕ) × Ends entries who starts Unconfined

-- Where the answer is `never`, none does, however long it is.
abbrev pub NeverMeansNone : Type 0
NeverMeansNone =
    (slots : List (Option Loaded)) (limit : ℕ) (who : Option Asker) (reach : Reach) (count : ℕ)
    → IsReachOf slots limit who reach → reach_answer reach ≡ Never count → SomeRunsUnconfined (filled slots) who → ⊥

-- Where it is `no`, one does.
abbrev pub NoMeansSome : Type 0
NoMeansSome =
    (slots : List (Option Loaded)) (limit : ℕ) (who : Option Asker) (reach : Reach) (number : ℕ)
    → IsReachOf slots limit who reach → reach_answer reach ≡ Runs number → SomeRunsUnconfined (filled slots) who

-- Where it isn't known, and the nodes are no more than a list of the code has, the paths of someone are too many who starts programs where one of them is, or
-- of who is asked about.
abbrev pub ManyMeansTooMany : Type 0
ManyMeansTooMany =
    (slots : List (Option Loaded)) (limit : ℕ) (who : Option Asker) (reach : Reach)
    → IsReachOf slots limit who reach → length reach.nodes.items < 2 ^ 64 → reach_answer reach ≡ Many
    → (from : Option ℕ) × HasTooMany slots who limit reach.nodes.items from

-- the node of a number is reached from this one, or by the starts of who is asked about
abbrev pub IsReachedFrom : List (Option Loaded) → Option Asker → List Node → Option ℕ → ℕ → Type 0
IsReachedFrom slots who nodes from number = (node : Node) × (slice_get nodes number ≡ Some node) × (node.from ≡ from) × IsReached slots who nodes number node

-- each of the nodes of some numbers is reached from the one before it, and the first from this one
abbrev pub AreReachedInTurn : List (Option Loaded) → Option Asker → List Node → Option ℕ → List ℕ → Type 0
AreReachedInTurn slots who nodes from [] = Unit {0}
AreReachedInTurn slots who nodes from (number ∷ numbers) =
    IsReachedFrom slots who nodes from number × AreReachedInTurn slots who nodes (Some number) numbers

-- a program runs unconfined at the node of a number
abbrev pub RunsUnconfinedAt : List (Option Loaded) → List Node → ℕ → Type 0
RunsUnconfinedAt slots nodes number = (node : Node) × (slice_get nodes number ≡ Some node) × (seen_to slots node.start.to ≡ Some Unconfined)

-- the last of some numbers is that of a node where one does
abbrev pub EndUnconfined : List (Option Loaded) → List Node → List ℕ → Type 0
EndUnconfined slots nodes numbers = (front : List ℕ) × (last : ℕ) × (numbers ≡ front ++ last ∷ []) × RunsUnconfinedAt slots nodes last

-- The chain that is told then is one: by the starts of who is asked about the first of its nodes is reached, each other from the one before it, and a
-- program runs unconfined at the last.
abbrev pub ChainsAreReached : Type 0
ChainsAreReached =
    (slots : List (Option Loaded)) (limit : ℕ) (who : Option Asker) (reach : Reach) (number : ℕ)
    → IsReachOf slots limit who reach → reach_answer reach ≡ Runs number
    → AreReachedInTurn slots who reach.nodes.items None (chain_to reach.nodes.items number)
    × EndUnconfined slots reach.nodes.items (chain_to reach.nodes.items number)

-- Words that ask it claim nothing of an access: so none that claims something is taken for another.
abbrev pub ExecIsNoAccess : Type 0
ExecIsNoAccess = (words : List (List ℕ)) → ask_exec words ≡ true → path_words words ≡ None
