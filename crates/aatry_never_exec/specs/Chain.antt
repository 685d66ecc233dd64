-- Whether a program that somebody starts ever runs unconfined, and by which chain of starts it does (docs/aatry.md, "`aatry never exec`").
use Rattle.std.specs.Prelude.{ℕ, suc, Bool, true, false, ◌&&◌, nat_le, if◌then◌else◌, List, [], ◌∷◌, ◌++◌, length, slice_get, Option, None, Some}
use Rattle.aa_bytes.specs.Texts.{is_empty}
use Rattle.aa_decide_rules.specs.declared.exec_verdict.ExecTo.{ExecTo}
use Rattle.aa_decide_rules.specs.declared.exec_verdict.ExecTo.TheVariants as to
use Rattle.aa_explain_reach.specs.declared.reach.Reach.{Reach}
use Rattle.aa_explain_reach.specs.declared.reached.Reached.{Reached as Node}
use Rattle.aatry_never_exec.specs.declared.chain.Answer.{Answer}
use Rattle.aatry_never_exec.specs.declared.chain.Answer.TheVariants as answer
use Rattle.aatry_reach.specs.declared.finding.Finding.{Finding}
use Rattle.aatry_reach.specs.declared.finding.Finding.TheVariants.{Absent, Reached}

-- what runs at a place runs unconfined
abbrev pub is_unconfined : ExecTo → Bool
is_unconfined to.Unconfined = true
is_unconfined (to.Profile slot child) = false
is_unconfined (to.Stack base members) = false
is_unconfined to.Null = false
is_unconfined to.Nowhere = false

-- the number of the first of some nodes that is such a place, if there is one: they are numbered from this one on
abbrev pub unconfined_from : ℕ → List Node → Option ℕ
unconfined_from number [] = None
unconfined_from number (node ∷ nodes) = if is_unconfined node.start.to then Some number else unconfined_from (suc number) nodes

-- all that are reached are known: all nodes were gone on from, and of none it isn't known where that leads
abbrev pub is_whole : Reach → Bool
is_whole reach = is_empty reach.unknown.items && nat_le (length reach.nodes.items) reach.left

-- The answer, by a place that is unconfined, if one is reached, whether all are known, and how many are reached: such a place alone says that a program
-- runs unconfined, and where there is none, none ever does if all are known.
abbrev pub answer_by : Option ℕ → Bool → ℕ → Answer
answer_by (Some number) whole count = answer.Runs number
answer_by None true count = answer.Never count
answer_by None false count = answer.Many

abbrev pub reach_answer : Reach → Answer
reach_answer reach = answer_by (unconfined_from 0 reach.nodes.items) (is_whole reach) (length reach.nodes.items)

abbrev pub answer_of : Finding → Answer
answer_of Absent = answer.Absent
answer_of (Reached reach) = reach_answer reach

-- the number of the node that one is come to from, if it is one
abbrev pub origin : Option Node → Option ℕ
origin None = None
origin (Some node) = node.from

abbrev pub before : List Node → ℕ → Option ℕ
before nodes number = origin (slice_get nodes number)

-- The numbers of the nodes by which one is come to, in their order, and its own: none where who is asked about starts the first. They are as many as some
-- nodes at most.
abbrev pub chain_within : List Node → List Node → Option ℕ → List ℕ
chain_within [] nodes from = []
chain_within (node ∷ more) nodes None = []
chain_within (node ∷ more) nodes (Some number) = chain_within more nodes (before nodes number) ++ number ∷ []

-- the same of all nodes, none of which is come to by itself
abbrev pub chain_to : List Node → ℕ → List ℕ
chain_to nodes number = chain_within nodes nodes (Some number)
