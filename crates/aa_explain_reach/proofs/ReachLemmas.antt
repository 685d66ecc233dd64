-- Nodes that are gone on from, one after the other.
use Rattle.std.proofs.Common.{◌≡◌, ◌⊎◌, ℕ, suc, ◌+◌, ◌<◌, ◌≤◌, List, [], ◌∷◌, ◌++◌, length, sym, ◌∙◌, ap, subst, inl, inr, arith, length-append}
use Rattle.std.specs.Prelude.{Contains, None, Option, Some, slice_get}
use Rattle.std.proofs.lemmas.Bool.{cases_lt}
use Rattle.std.proofs.lemmas.Option.{slice_get_within}
use Rattle.aa_decide.specs.Exec.{Asker}
use Rattle.aa_decide_ready.specs.Entries.{Loaded}
use Rattle.aa_explain_reach.specs.Starts.{IsStart}
use Rattle.aa_explain_reach.proofs.AlikeLemmas.{in-front}
use Rattle.aa_glob_nfa.proofs.RunLemmas.{slice_get-append}
use Rattle.aa_glob_nfa.proofs.ListLemmas.{Contains-first}
use Rattle.aa_profile_data.proofs.PlaceLemmas.{Contains-from_get}
use Rattle.aa_explain_reach.specs.Reach.{AreReached, HasTooMany, IsBefore, IsReached, IsStarterOf, LeadsAmong}
use Rattle.aa_explain_reach.specs.Starters.{starters_at}
use Rattle.aa_explain_reach.specs.code.Going.{GoesOn}
use Rattle.aa_explain_reach.specs.declared.reached.Reached.{Reached}
use Rattle.aa_explain_reach.proofs.ListLemmas.{get-cases, one-only}

module _ (slots : List (Option Loaded)) (who : Option Asker) where
  -- nodes behind others change nothing of who starts programs from these
  starter-more : (nodes fresh : List Reached) (from : Option ℕ) (starter : Option Asker) → IsStarterOf slots who nodes from starter
      → IsStarterOf slots who (nodes ++ fresh) from starter
  starter-more nodes fresh None starter is = is
  starter-more nodes fresh (Some number) starter is =
      (is.0, slice_get-append nodes fresh number (slice_get_within nodes number is.0 is.1) ∙ is.1, is.2)

  starter-less : (nodes fresh : List Reached) (from : Option ℕ) (starter : Option Asker) → IsBefore from (length nodes)
      → IsStarterOf slots who (nodes ++ fresh) from starter → IsStarterOf slots who nodes from starter
  starter-less nodes fresh None starter before is = is
  starter-less nodes fresh (Some number) starter before is = (is.0, sym (slice_get-append nodes fresh number before) ∙ is.1, is.2)

  before-more : (from : Option ℕ) (one other : ℕ) → one ≤ other → IsBefore from one → IsBefore from other
  before-more None one other more before = tt
  before-more (Some number) one other more before = omega (arith, more, before)

  same-node : (one other : Reached) → Some one ≡ Some other → one ≡ other
  same-node one other same = cc

  module _ (limit : ℕ) where
    -- at first who starts the first of all was gone on from
    pub reached-first : (nodes : List Reached) (unknown : List (Option ℕ)) → GoesOn slots limit None (who ∷ []) [] nodes [] unknown
        → AreReached slots who limit nodes unknown 0
    reached-first nodes unknown goes = record {
      each_node = λ number node at.
          let is = goes.each node (subst (λ l. Contains l node) goes.appended (Contains-from_get nodes number node at)) in
          let own : is.1 ≡ who = sym (one-only who is.1 is.2) in
          record {
            before = subst (λ f. IsBefore f number) (sym is.0) tt;
            starter = is.1;
            is_starter = subst (λ f. IsStarterOf slots who nodes f is.1) (sym is.0) own;
            is_start = is.3;
          };
      gone_on = λ from starter before is. first from starter before is;
      too_many = λ from at. elim (goes.too_many from at) [
        | inl none ↦ absurd (omega (arith, none.1))
        | inr is ↦ record {
          starter = is.1;
          is_starter = subst (λ f. IsStarterOf slots who nodes f is.1) (sym is.0) (sym (one-only who is.1 is.2));
          too_many = is.3;
        }
      ];
      apart = goes.apart (λ i j d before within. absurd (omega (arith, within)));
      within = omega arith;
    }
      where
        first : (from : Option ℕ) (starter : Option Asker) → IsBefore from 0 → IsStarterOf slots who nodes from starter
            → Contains unknown from ⊎ LeadsAmong slots nodes starter
        first None starter before is = goes.gone_on starter (subst (λ s. Contains (s ∷ []) starter) is (Contains-first starter []))
        first (Some number) starter before is = absurd (omega (arith, before))

    -- one node more was gone on from
    module _ (nodes : List Reached) (unknown : List (Option ℕ)) (at : ℕ) (reached : AreReached slots who limit nodes unknown at) (node : Reached)
        (here : slice_get nodes at ≡ Some node) (fresh : List Reached) (told : List (Option ℕ))
        (goes : GoesOn slots limit (Some at) (starters_at slots node.start.to) nodes (nodes ++ fresh) unknown told)
        (each : (one : Reached) → Contains fresh one
        → (one.from ≡ Some at) × (starter : Option Asker) × Contains (starters_at slots node.start.to) starter × IsStart slots starter one.start) where
      low : at < length nodes
      low = slice_get_within nodes at node here

      still : slice_get (nodes ++ fresh) at ≡ Some node
      still = slice_get-append nodes fresh at low ∙ here

      among : (starter : Option Asker) → LeadsAmong slots nodes starter → LeadsAmong slots (nodes ++ fresh) starter
      among starter leads path owned to is = let there = leads path owned to is in (there.0, in-front nodes fresh there.0 there.1, there.2)

      node-next : (number : ℕ) (one : Reached) → slice_get (nodes ++ fresh) number ≡ Some one → IsReached slots who (nodes ++ fresh) number one
      node-next number one is = elim (get-cases nodes fresh number one is) [
        | inl old ↦
            let was = reached.each_node number one old in
            record {
              before = was.before;
              starter = was.starter;
              is_starter = starter-more nodes fresh one.from was.starter was.is_starter;
              is_start = was.is_start;
            }
        | inr new ↦
            let own = each one new.1 in
            let later : at < number = omega (arith, low, new.0) in
            record {
              before = subst (λ f. IsBefore f number) (sym own.0) later;
              starter = own.1;
              is_starter = subst (λ f. IsStarterOf slots who (nodes ++ fresh) f own.1) (sym own.0) (node, still, own.2);
              is_start = own.3;
            }
      ]

      before-as : (from : Option ℕ) (starter : Option Asker) → IsBefore from at → IsStarterOf slots who (nodes ++ fresh) from starter
          → Contains told from ⊎ LeadsAmong slots (nodes ++ fresh) starter
      before-as from starter before is =
          elim (reached.gone_on from starter before (starter-less nodes fresh from starter (before-more from at (length nodes) (omega (arith, low)) before) is)) [
            | inl known ↦ inl (goes.kept from known)
            | inr leads ↦ inr (among starter leads)
          ]

      gone-next : (from : Option ℕ) (starter : Option Asker) → IsBefore from (suc at) → IsStarterOf slots who (nodes ++ fresh) from starter
          → Contains told from ⊎ LeadsAmong slots (nodes ++ fresh) starter
      gone-next None starter before is = before-as None starter tt is
      gone-next (Some number) starter before is = elim (cases_lt number at) [
        | inl earlier ↦ before-as (Some number) starter earlier is
        | inr late ↦
            let same : number ≡ at = omega (arith, before, late) in
            let own : is.0 ≡ node = same-node is.0 node (sym is.1 ∙ ap (slice_get (nodes ++ fresh)) same ∙ still) in
            let starts : Contains (starters_at slots node.start.to) starter = subst (λ (n : Reached). Contains (starters_at slots n.start.to) starter) own is.2 in
            elim (goes.gone_on starter starts) [
              | inl known ↦ inl (subst (λ n. Contains told (Some n)) (sym same) known)
              | inr leads ↦ inr leads
            ]
      ]

      many-next : (from : Option ℕ) → Contains told from → HasTooMany slots who limit (nodes ++ fresh) from
      many-next from known = elim (goes.too_many from known) [
        | inl old ↦
            let was = reached.too_many from old in
            record { starter = was.starter; is_starter = starter-more nodes fresh from was.starter was.is_starter; too_many = was.too_many }
        | inr new ↦ record {
          starter = new.1;
          is_starter = subst (λ f. IsStarterOf slots who (nodes ++ fresh) f new.1) (sym new.0) (node, still, new.2);
          too_many = new.3;
        }
      ]

      reached-more : AreReached slots who limit (nodes ++ fresh) told (suc at)
      reached-more = record {
        each_node = node-next;
        gone_on = gone-next;
        too_many = many-next;
        apart = goes.apart reached.apart;
        within = omega (arith, low, length-append nodes fresh);
      }

    pub reached-next : (nodes new : List Reached) (unknown told : List (Option ℕ)) (at : ℕ) (node : Reached) → AreReached slots who limit nodes unknown at
        → slice_get nodes at ≡ Some node → GoesOn slots limit (Some at) (starters_at slots node.start.to) nodes new unknown told
        → AreReached slots who limit new told (at + 1)
    reached-next nodes new unknown told at node reached here goes =
        let more : suc at ≡ at + 1 = omega arith in
        subst (AreReached slots who limit new told) more
        (subst (λ n. AreReached slots who limit n told (suc at)) (sym goes.appended)
        (reached-more nodes unknown at reached node here goes.fresh told
        (subst (λ n. GoesOn slots limit (Some at) (starters_at slots node.start.to) nodes n unknown told) goes.appended goes) goes.each))
