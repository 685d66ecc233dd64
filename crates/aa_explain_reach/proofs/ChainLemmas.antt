-- Chains of starts end at nodes.
use Rattle.std.proofs.Common.{◌≡◌, ℕ, zero, suc, ◌<◌, List, ◌++◌, refl, sym, ◌∙◌, ap, subst, inl, inr, arith}
use Rattle.std.specs.Prelude.{Contains, None, Option, Some, slice_get}
use Rattle.std.specs.Option.{option_map}
use Rattle.std.proofs.lemmas.Option.{slice_get_within}
use Rattle.aa_decide.specs.Exec.{Asker, Base, Nowhere, Null, OnProfile, OnUnconfined, Stacked, Started, Unconfined, Under}
use Rattle.aa_decide.specs.SeenExec.{seen_base, seen_to}
use Rattle.aa_decide_rules.specs.declared.exec_verdict.ExecTo.{ExecTo}
use Rattle.aa_decide_rules.specs.declared.exec_verdict.ExecTo.TheVariants as to
use Rattle.aa_decide_rules.specs.declared.exec_verdict.StackBase.{StackBase}
use Rattle.aa_decide_rules.specs.declared.exec_verdict.StackBase.TheVariants as base
use Rattle.aa_decide_ready.specs.Entries.{Loaded}
use Rattle.aa_decide_ready.specs.Slots.{entry_at, filled}
use Rattle.aa_profile_data.specs.Stacks.{parts_of}
use Rattle.aa_profile_data.proofs.PlaceLemmas.{Contains-to_get}
use Rattle.aa_explain_reach.specs.Starts.{IsStart, LeadsTo}
use Rattle.aa_explain_reach.specs.Chains.{ChainsEndAtNodes, Ends, NodesEndChains, NoneRunsUnconfined}
use Rattle.aa_explain_reach.specs.Reach.{IsBefore, IsReached, IsStarterOf}
use Rattle.aa_explain_reach.specs.Starters.{alone, base_starters, member_starters, stand_starters, starters, starters_at}
use Rattle.aa_explain_reach.specs.declared.reached.Reached.{Reached}

module _ (slots : List (Option Loaded)) where
  some-of : (one other : Started) → Some one ≡ Some other → one ≡ other
  some-of one other same = cc

  -- by what a stack is seen to be on
  stand-seen : (members : List (List ℕ)) (found : StackBase) (base : Option Base) (started : Started) → seen_base slots found ≡ base
      → option_map (λ b. Stacked (Some b) members) base ≡ Some started
      → stand_starters slots (Some found) ++ member_starters (filled slots) members ≡ starters (filled slots) started
  stand-seen members found None started is seen = absurd cc
  stand-seen members (base.Profile slot child) (Some b) started is seen = by (entry_at slots slot) is
    where
      by : (entry : Option Loaded) → option_map (λ e. OnProfile e child) entry ≡ Some b
          → alone (option_map (λ e. record { entry = e; child = child }) entry) ++ member_starters (filled slots) members ≡ starters (filled slots) started
      by None is = absurd cc
      by (Some e) is =
          let own : OnProfile e child ≡ b = cc in
          ap (λ x. base_starters (Some x) ++ member_starters (filled slots) members) own
          ∙ ap (starters (filled slots)) (some-of (Stacked (Some b) members) started seen)
  stand-seen members base.Unconfined (Some b) started is seen =
      let own : OnUnconfined ≡ b = cc in
      ap (λ x. base_starters (Some x) ++ member_starters (filled slots) members) own
      ∙ ap (starters (filled slots)) (some-of (Stacked (Some b) members) started seen)

  -- by where a program is seen to run
  starters-seen : (code : ExecTo) (started : Started) → seen_to slots code ≡ Some started → starters_at slots code ≡ starters (filled slots) started
  starters-seen (to.Profile slot child) started seen = by (entry_at slots slot) seen
    where
      by : (found : Option Loaded) → option_map (λ entry. Under entry child) found ≡ Some started
          → alone (option_map (λ entry. record { entry = entry; child = child }) found) ≡ starters (filled slots) started
      by None seen = absurd cc
      by (Some entry) seen = ap (starters (filled slots)) (some-of (Under entry child) started seen)
  starters-seen to.Unconfined started seen = ap (starters (filled slots)) (some-of Unconfined started seen)
  starters-seen (to.Stack None members) started seen = ap (starters (filled slots)) (some-of (Stacked None (parts_of members.now)) started seen)
  starters-seen (to.Stack (Some base) members) started seen = stand-seen (parts_of members.now) base (seen_base slots base) started refl seen
  starters-seen to.Null started seen = ap (starters (filled slots)) (some-of Null started seen)
  starters-seen to.Nowhere started seen = ap (starters (filled slots)) (some-of Nowhere started seen)

pub chains-end : ChainsEndAtNodes
chains-end slots who limit nodes left reached all zero to ends = absurd ends
chains-end slots who limit nodes left reached all (suc more) to (inl first) = elim (reached.gone_on None who tt refl) [
  | inl none ↦ absurd (omega (arith, none.1))
  | inr leads ↦ leads first.0 first.1 to first.2
]
chains-end slots who limit nodes left reached all (suc more) to (inr later) =
    let node = chains-end slots who limit nodes left reached all more later.0 later.1 in
    let there = Contains-to_get nodes node.0 node.1 in
    let low = slice_get_within nodes there.0 node.0 there.1 in
    let starts = subst (λ l. Contains l later.2) (sym (starters-seen slots node.0.start.to later.0 node.2)) later.3 in
    elim (reached.gone_on (Some there.0) later.2 (omega (arith, low, all)) (node.0, there.1, starts)) [
      | inl none ↦ absurd (omega (arith, none.1))
      | inr leads ↦ leads later.4.0 later.4.1 to later.4.2
    ]

pub none-unconfined : NoneRunsUnconfined
none-unconfined slots who limit nodes left reached all none starts ends =
    let node = chains-end slots who limit nodes left reached all starts Unconfined ends in
    none node.0 node.1 node.2

-- each node ends a chain, by those before it
ends-below : (slots : List (Option Loaded)) (who : Option Asker) (nodes : List Reached)
    → ((number : ℕ) (node : Reached) → slice_get nodes number ≡ Some node → IsReached slots who nodes number node)
    → (bound number : ℕ) (node : Reached) → number < bound → slice_get nodes number ≡ Some node
    → (starts : ℕ) × (to : Started) × (seen_to slots node.start.to ≡ Some to) × Ends (filled slots) who starts to
ends-below slots who nodes each zero number node low at = absurd (omega (arith, low))
ends-below slots who nodes each (suc bound) number node low at =
    let is = each number node at in
    by node.from is.starter is.before is.is_starter is.is_start (ends-below slots who nodes each bound)
  where
    by : (from : Option ℕ) (starter : Option Asker) → IsBefore from number → IsStarterOf slots who nodes from starter → IsStart slots starter node.start
        → ((number : ℕ) (node : Reached) → number < bound → slice_get nodes number ≡ Some node
        → (starts : ℕ) × (to : Started) × (seen_to slots node.start.to ≡ Some to) × Ends (filled slots) who starts to)
        → (starts : ℕ) × (to : Started) × (seen_to slots node.start.to ≡ Some to) × Ends (filled slots) who starts to
    by None starter before same start rest =
        (suc zero, start.to, start.seen, inl (node.start.path.items, node.start.owned, subst (λ s. LeadsTo (filled slots) s node.start.owned node.start.path.items start.to) same start.leads))
    by (Some earlier) starter before is start rest =
        let chain = rest earlier is.0 (omega (arith, before, low)) is.1 in
        let starts = subst (λ l. Contains l starter) (starters-seen slots is.0.start.to chain.1 chain.2) is.2 in
        (suc chain.0, start.to, start.seen, inr (chain.1, chain.3, starter, starts, (node.start.path.items, node.start.owned, start.leads)))

pub nodes-end : NodesEndChains
nodes-end slots who limit nodes unknown left reached node among =
    let at = Contains-to_get nodes node among in
    ends-below slots who nodes reached.each_node (suc at.0) at.0 node (omega arith) at.1
