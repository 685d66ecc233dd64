-- What the answers mean whether a program ever runs unconfined.
use Rattle.std.proofs.Common.{◌≡◌, ◌∙◌, ℕ, zero, suc, ◌+◌, ◌<◌, ◌≤◌, Bool, true, false, ◌&&◌, if◌then◌else◌, List, [], ◌∷◌, ◌++◌, length, ap, arith, refl, subst, sym}
use Rattle.std.specs.Prelude.{Contains, None, Option, Some, nat_le, slice_get}
use Rattle.std.specs.Option.{option_map}
use Rattle.std.proofs.lemmas.Bool.{leb-false, leb-true}
use Rattle.std.proofs.lemmas.Option.{get_or_from_slice_get, slice_get-get_or, slice_get_within}
use Rattle.aa_bytes.specs.Texts.{is_empty}
use Rattle.aa_decide.specs.Exec.{Asker, Base, Stacked, Started, Unconfined, Under}
use Rattle.aa_decide.specs.SeenExec.{seen_base, seen_to}
use Rattle.aa_decide_ready.specs.Entries.{Loaded}
use Rattle.aa_decide_ready.specs.Slots.{entry_at, filled}
use Rattle.aa_decide_rules.specs.declared.exec_verdict.ExecTo.{ExecTo}
use Rattle.aa_decide_rules.specs.declared.exec_verdict.ExecTo.TheVariants as to
use Rattle.aa_profile_data.specs.Stacks.{parts_of}
use Rattle.aa_explain_reach.specs.Chains.{Ends, NodesEndChains, NoneRunsUnconfined}
use Rattle.aa_explain_reach.specs.Reach.{AreReached, HasTooMany, IsBefore, IsReached, IsStarterOf}
use Rattle.aa_explain_reach.specs.declared.reached.Reached.{Reached as Node}
use Rattle.aatry_never_exec.specs.Chain.{answer_by, before, chain_within, is_unconfined, is_whole, origin, unconfined_from}
use Rattle.aatry_never_exec.specs.Laws.{AreReachedInTurn, ChainsAreReached, IsReachedFrom, ManyMeansTooMany, NeverMeansNone, NoMeansSome}
use Rattle.aatry_never_exec.specs.declared.chain.Answer.TheVariants as answer

-- a place that is seen to be unconfined is told as such, and the other way round
unconfined-told : (slots : List (Option Loaded)) (code : ExecTo) → seen_to slots code ≡ Some Unconfined → is_unconfined code ≡ true
unconfined-told slots (to.Profile slot child) seen = absurd (by (entry_at slots slot) seen)
  where
    by : (found : Option Loaded) → option_map (λ entry. Under entry child) found ≡ Some Unconfined → ⊥
    by None seen = cc
    by (Some entry) seen = cc
unconfined-told slots to.Unconfined seen = refl
unconfined-told slots (to.Stack None members) seen = absurd cc
unconfined-told slots (to.Stack (Some base) members) seen = absurd (by (parts_of members.now) (seen_base slots base) seen)
  where
    by : (names : List (List ℕ)) (found : Option Base) → option_map (λ b. Stacked (Some b) names) found ≡ Some Unconfined → ⊥
    by names None seen = cc
    by names (Some b) seen = cc
unconfined-told slots to.Null seen = absurd cc
unconfined-told slots to.Nowhere seen = absurd cc

told-unconfined : (slots : List (Option Loaded)) (code : ExecTo) → is_unconfined code ≡ true → seen_to slots code ≡ Some Unconfined
told-unconfined slots (to.Profile slot child) is = absurd cc
told-unconfined slots to.Unconfined is = refl
told-unconfined slots (to.Stack base members) is = absurd cc
told-unconfined slots to.Null is = absurd cc
told-unconfined slots to.Nowhere is = absurd cc

-- where none is found, no node is one
none-there : (nodes : List Node) (first : ℕ) → unconfined_from first nodes ≡ None
    → (at : ℕ) (node : Node) → slice_get nodes at ≡ Some node → is_unconfined node.start.to ≡ true → ⊥
none-there [] first none at node there is = cc
none-there (one ∷ nodes) first none at node there is = by (is_unconfined one.start.to) refl none at there (none-there nodes (suc first))
  where
    Later : Type 0
    Later = unconfined_from (suc first) nodes ≡ None → (at : ℕ) (node : Node) → slice_get nodes at ≡ Some node → is_unconfined node.start.to ≡ true → ⊥

    by : (own : Bool) → is_unconfined one.start.to ≡ own → (if own then Some first else unconfined_from (suc first) nodes) ≡ None
        → (at : ℕ) → slice_get (one ∷ nodes) at ≡ Some node → Later → ⊥
    by true own none at there later = cc
    by false own none zero there later =
        let same : one ≡ node = cc in
        let told : is_unconfined one.start.to ≡ true = ap (λ (n : Node). is_unconfined n.start.to) same ∙ is in
        cc
    by false own none (suc at) there later = later none at node there is

-- where one is found, that node is one
found-there : (nodes : List Node) (first number : ℕ) → unconfined_from first nodes ≡ Some number
    → (at : ℕ) × (number ≡ first + at) × (node : Node) × (slice_get nodes at ≡ Some node) × (is_unconfined node.start.to ≡ true)
found-there [] first number found = absurd cc
found-there (one ∷ nodes) first number found = by (is_unconfined one.start.to) refl found (found-there nodes (suc first) number)
  where
    Found : ℕ → List Node → Type 0
    Found from list = (at : ℕ) × (number ≡ from + at) × (node : Node) × (slice_get list at ≡ Some node) × (is_unconfined node.start.to ≡ true)

    by : (own : Bool) → is_unconfined one.start.to ≡ own → (if own then Some first else unconfined_from (suc first) nodes) ≡ Some number
        → (unconfined_from (suc first) nodes ≡ Some number → Found (suc first) nodes) → Found first (one ∷ nodes)
    by true own found later =
        let same : number ≡ first = cc in
        (zero, omega (arith, same), one, refl, own)
    by false own found later =
        let (at, same, node, there, is) = later found in
        (suc at, omega (arith, same), node, there, is)

-- what an answer says of what is reached
never-case : (found : Option ℕ) (whole : Bool) (count told : ℕ) → answer_by found whole count ≡ answer.Never told → (found ≡ None) × (whole ≡ true)
never-case (Some number) whole count told is = absurd cc
never-case None true count told is = (refl, refl)
never-case None false count told is = absurd cc

runs-case : (found : Option ℕ) (whole : Bool) (count told : ℕ) → answer_by found whole count ≡ answer.Runs told → found ≡ Some told
runs-case (Some number) whole count told is = cc
runs-case None true count told is = absurd cc
runs-case None false count told is = absurd cc

whole-case : (unknown : List (Option ℕ)) (count left : ℕ) → (is_empty unknown && nat_le count left) ≡ true → (unknown ≡ []) × (count ≤ left)
whole-case [] count left is = (refl, leb-true count left is)
whole-case (one ∷ unknown) count left is = absurd cc

many-case : (found : Option ℕ) (whole : Bool) (count : ℕ) → answer_by found whole count ≡ answer.Many → whole ≡ false
many-case (Some number) whole count is = absurd cc
many-case None true count is = absurd cc
many-case None false count is = refl

pub many-means-too-many : ManyMeansTooMany
many-means-too-many slots limit who reach right few is =
    by reach.unknown.items right.reached.too_many (many-case (unconfined_from 0 reach.nodes.items) (is_whole reach) (length reach.nodes.items) is)
  where
    by : (unknown : List (Option ℕ)) → ((from : Option ℕ) → Contains unknown from → HasTooMany slots who limit reach.nodes.items from)
        → (is_empty unknown && nat_le (length reach.nodes.items) reach.left) ≡ false → (from : Option ℕ) × HasTooMany slots who limit reach.nodes.items from
    by [] many whole =
        let left : reach.left < length reach.nodes.items = leb-false (length reach.nodes.items) reach.left whole in
        absurd (omega (arith, left, right.all left, few))
    by (from ∷ unknown) many whole =
        let first : Contains (from ∷ unknown) from = (zero, omega arith, refl) in
        (from, many from first)

pub never-means-none : NoneRunsUnconfined → NeverMeansNone
never-means-none law slots limit who reach count right is some =
    let nodes = reach.nodes.items in
    let case = never-case (unconfined_from 0 nodes) (is_whole reach) (length nodes) count is in
    let whole = whole-case reach.unknown.items (length nodes) reach.left case.1 in
    let reached = subst (λ unknown. AreReached slots who limit nodes unknown reach.left) whole.0 right.reached in
    law slots who limit nodes reach.left reached whole.1 (none nodes case.0) some.0 some.1
  where
    none : (nodes : List Node) → unconfined_from 0 nodes ≡ None → (node : Node) → Contains nodes node → seen_to slots node.start.to ≡ Some Unconfined → ⊥
    none nodes is node (at, within, there) seen =
        none-there nodes 0 is at node (slice_get-get_or nodes at node within ∙ ap Some there) (unconfined-told slots node.start.to seen)

-- the node that is found
found-node : (nodes : List Node) (whole : Bool) (count number : ℕ) → answer_by (unconfined_from 0 nodes) whole count ≡ answer.Runs number
    → (node : Node) × (slice_get nodes number ≡ Some node) × (is_unconfined node.start.to ≡ true)
found-node nodes whole count number is =
    let (at, same, node, there, unconfined) = found-there nodes 0 number (runs-case (unconfined_from 0 nodes) whole count number is) in
    let own : at ≡ number = omega (arith, same) in
    (node, subst (λ n. slice_get nodes n ≡ Some node) own there, unconfined)

same-place : (one other : Started) → Some one ≡ Some other → one ≡ other
same-place one other same = cc

pub no-means-some : NodesEndChains → NoMeansSome
no-means-some law slots limit who reach number right is =
    let nodes = reach.nodes.items in
    let (node, there, unconfined) = found-node nodes (is_whole reach) (length nodes) number is in
    let among : Contains nodes node = (number, slice_get_within nodes number node there, get_or_from_slice_get nodes number node node there) in
    let (starts, place, seen, ends) = law slots who limit nodes reach.unknown.items reach.left right.reached node among in
    (starts, subst (Ends (filled slots) who starts) (same-place place Unconfined (sym seen ∙ told-unconfined slots node.start.to unconfined)) ends)

module _ (slots : List (Option Loaded)) (who : Option Asker) (nodes : List Node) where
  -- one more is reached from the last of some
  more-in-turn : (from : Option ℕ) (front : List ℕ) (last number : ℕ) → AreReachedInTurn slots who nodes from (front ++ last ∷ [])
      → IsReachedFrom slots who nodes (Some last) number → AreReachedInTurn slots who nodes from ((front ++ last ∷ []) ++ number ∷ [])
  more-in-turn from [] last number turn is = (turn.0, (is, tt))
  more-in-turn from (one ∷ front) last number turn is = (turn.0, more-in-turn (Some one) front last number turn.1 is)

  -- a chain to a node ends with its number
  ends-with : (more : List Node) (number : ℕ) → number < length more → (front : List ℕ) × (chain_within more nodes (Some number) ≡ front ++ number ∷ [])
  ends-with [] number low = absurd (omega (arith, low))
  ends-with (one ∷ more) number low = (chain_within more nodes (before nodes number), refl)

  -- none is come to before the first
  none-before : (more : List Node) → chain_within more nodes None ≡ []
  none-before [] = refl
  none-before (one ∷ more) = refl

  in-turn : ((number : ℕ) (node : Node) → slice_get nodes number ≡ Some node → IsReached slots who nodes number node)
      → (more : List Node) (number : ℕ) (node : Node) → slice_get nodes number ≡ Some node → number < length more
      → AreReachedInTurn slots who nodes None (chain_within more nodes (Some number))
  in-turn each [] number node there low = absurd (omega (arith, low))
  in-turn each (one ∷ more) number node there low =
      let reached = each number node there in
      subst (λ from. AreReachedInTurn slots who nodes None (chain_within more nodes from ++ number ∷ [])) (sym (ap origin there))
      (by node.from reached.starter refl reached.before reached.is_starter (in-turn each more))
    where
      by : (from : Option ℕ) (starter : Option Asker) → node.from ≡ from → IsBefore from number → IsStarterOf slots who nodes from starter
          → ((number : ℕ) (node : Node) → slice_get nodes number ≡ Some node → number < length more
          → AreReachedInTurn slots who nodes None (chain_within more nodes (Some number)))
          → AreReachedInTurn slots who nodes None (chain_within more nodes from ++ number ∷ [])
      by None starter is earlier starts rest =
          subst (λ c. AreReachedInTurn slots who nodes None (c ++ number ∷ [])) (sym (none-before more)) ((node, there, is, each number node there), tt)
      by (Some own) starter is earlier starts rest =
          let short : own < length more = omega (arith, earlier, low) in
          let (front, same) = ends-with more own short in
          let turn = subst (AreReachedInTurn slots who nodes None) same (rest own starts.0 starts.1 short) in
          subst (λ c. AreReachedInTurn slots who nodes None (c ++ number ∷ [])) (sym same)
          (more-in-turn None front own number turn (node, there, is, each number node there))

pub chains-reached : ChainsAreReached
chains-reached slots limit who reach number right is =
    let nodes = reach.nodes.items in
    let (node, there, unconfined) = found-node nodes (is_whole reach) (length nodes) number is in
    let low = slice_get_within nodes number node there in
    let (front, same) = ends-with slots who nodes nodes number low in (
      in-turn slots who nodes right.reached.each_node nodes number node there low,
      (front, number, same, (node, there, told-unconfined slots node.start.to unconfined)),
    )
