-- Nodes that are added to others.
use Rattle.std.proofs.Common.{◌≡◌, ℕ, Bool, true, false, ◌||◌, List, [], ◌∷◌, ◌++◌, refl, sym, ◌∙◌, ap, append_assoc, subst, inl, inr, arith}
use Rattle.std.specs.Prelude.{Contains, Option}
use Rattle.std.proofs.lemmas.List.Elements.{All-contains}
use Rattle.aa_decide.specs.Exec.{Asker}
use Rattle.aa_decide.specs.SeenExec.{seen_to}
use Rattle.aa_decide_rules.specs.declared.exec_verdict.ExecTo.{ExecTo}
use Rattle.aa_decide_ready.specs.Entries.{Loaded}
use Rattle.aa_decide_ready.specs.Slots.{filled}
use Rattle.aa_explain_reach.specs.Patterns.{start_patterns}
use Rattle.aa_explain_reach.specs.Places.{same_to}
use Rattle.aa_explain_reach.specs.Starts.{AreStartsOf, IsStart}
use Rattle.aa_explain_reach.specs.declared.start.Start.{Start}
use Rattle.aa_explain_reach.proofs.AlikeLemmas.{in-back, in-front}
use Rattle.aa_explain_reach.proofs.PutLemmas.{behind-cases, pairs-behind, to-seen}
use Rattle.aa_glob_nfa.proofs.ListLemmas.{Contains-cons_cases, Contains-first, Contains-later}
use Rattle.aa_glob_paths.specs.TooMany.{AreMoreTextsThan}
use Rattle.aa_explain_reach.specs.Reach.{AreApart, LeadsAmong}
use Rattle.aa_explain_reach.specs.code.Going.{AddsNodes, GoesOn, has_node}
use Rattle.aa_explain_reach.specs.declared.reached.Reached.{Reached}
use Rattle.aa_explain_reach.proofs.ListLemmas.{append-cases, none-behind, one-only}

-- where one of some nodes is a place, it is found
found-node : (to : ExecTo) (nodes : List Reached) → has_node to nodes ≡ true → (node : Reached) × Contains nodes node × (same_to node.start.to to ≡ true)
found-node to [] none = absurd cc
found-node to (one ∷ nodes) some = by (same_to one.start.to to) refl some (found-node to nodes)
  where
    by : (b : Bool) → same_to one.start.to to ≡ b → (b || has_node to nodes) ≡ true
        → (has_node to nodes ≡ true → (node : Reached) × Contains nodes node × (same_to node.start.to to ≡ true))
        → (node : Reached) × Contains (one ∷ nodes) node × (same_to node.start.to to ≡ true)
    by true is some rest = (one, Contains-first one nodes, is)
    by false is some rest = let found = rest some in (found.0, Contains-later one nodes found.0 found.1, found.2)

-- where none is, each is another
none-node : (to : ExecTo) (nodes : List Reached) → has_node to nodes ≡ false → (node : Reached) → Contains nodes node → same_to node.start.to to ≡ false
none-node to [] none node at = absurd (omega (arith, at.1))
none-node to (one ∷ nodes) none node at = by (same_to one.start.to to) refl none (none-node to nodes)
  where
    by : (b : Bool) → same_to one.start.to to ≡ b → (b || has_node to nodes) ≡ false
        → (has_node to nodes ≡ false → (node : Reached) → Contains nodes node → same_to node.start.to to ≡ false)
        → same_to node.start.to to ≡ false
    by true is none rest = absurd cc
    by false is none rest = elim (Contains-cons_cases one nodes node at) [
      | inl same ↦ ap (λ (n : Reached). same_to n.start.to to) (sym same) ∙ is
      | inr more ↦ rest none node more
    ]

module _ (from : Option ℕ) where
  -- a start to a place that is there adds nothing
  pub adds-known : (start : Start) (nodes : List Reached) → has_node start.to nodes ≡ true → AddsNodes from (start ∷ []) nodes nodes
  adds-known start nodes some = record {
    fresh = [];
    appended = none-behind nodes;
    each = λ node at. absurd (omega (arith, at.1));
    told = λ own at.
        let found = found-node start.to nodes some in
        (found.0, found.1, λ slots. to-seen slots found.0.start.to start.to found.2 ∙ ap (λ (s : Start). seen_to slots s.to) (one-only start own at));
    apart = λ apart. apart;
  }

  -- any other one adds one
  pub adds-new : (start : Start) (nodes new : List Reached) (node : Reached) → has_node start.to nodes ≡ false → node.from ≡ from → node.start ≡ start
      → new ≡ nodes ++ node ∷ [] → AddsNodes from (start ∷ []) nodes new
  adds-new start nodes new node none of is appended = record {
    fresh = node ∷ [];
    appended = appended;
    each = λ one at.
        let same = one-only node one at in
        subst (λ (n : Reached). (n.from ≡ from) × Contains (start ∷ []) n.start) same (of, subst (Contains (start ∷ [])) (sym is) (Contains-first start []));
    told = λ own at. (
      node,
      subst (λ l. Contains l node) (sym appended) (in-back nodes (node ∷ []) node (Contains-first node [])),
      λ slots. ap (λ (s : Start). seen_to slots s.to) (is ∙ one-only start own at),
    );
    apart = λ apart.
        subst AreApart (sym appended)
        (pairs-behind (λ (one later : Reached). same_to one.start.to later.start.to ≡ false) nodes node
        (λ n at. ap (λ (s : Start). same_to n.start.to s.to) is ∙ none-node start.to nodes none n at) apart);
  }

  pub adds-none : (nodes : List Reached) → AddsNodes from [] nodes nodes
  adds-none nodes = record {
    fresh = [];
    appended = none-behind nodes;
    each = λ node at. absurd (omega (arith, at.1));
    told = λ start at. absurd (omega (arith, at.1));
    apart = λ apart. apart;
  }

  -- one start more
  pub adds-then : (done : List Start) (start : Start) (a b c : List Reached) → AddsNodes from done a b → AddsNodes from (start ∷ []) b c
      → AddsNodes from (done ++ start ∷ []) a c
  adds-then done start a b c first second = record {
    fresh = first.fresh ++ second.fresh;
    appended = second.appended ∙ ap (λ l. l ++ second.fresh) first.appended ∙ append_assoc a first.fresh second.fresh;
    each = λ node at. elim (append-cases first.fresh second.fresh node at) [
      | inl front ↦ let is = first.each node front in (is.0, in-front done (start ∷ []) node.start is.1)
      | inr back ↦ let is = second.each node back in (is.0, in-back done (start ∷ []) node.start is.1)
    ];
    told = λ own at. elim (behind-cases done start own at) [
      | inl before ↦
          let found = first.told own before in
          (found.0, subst (λ l. Contains l found.0) (sym second.appended) (in-front b second.fresh found.0 found.1), found.2)
      | inr same ↦ second.told own (subst (λ s. Contains (s ∷ []) own) same (Contains-first own []))
    ];
    apart = λ apart. second.apart (first.apart apart);
  }

module _ (slots : List (Option Loaded)) (limit : ℕ) (from : Option ℕ) where
  -- nodes that stay
  among-more : (starter : Option Asker) (nodes fresh new : List Reached) → new ≡ nodes ++ fresh → LeadsAmong slots nodes starter → LeadsAmong slots new starter
  among-more starter nodes fresh new appended among path owned to leads =
      let there = among path owned to leads in
      (there.0, subst (λ l. Contains l there.0) (sym appended) (in-front nodes fresh there.0 there.1), there.2)

  -- the starts by someone are too many
  pub goes-unknown : (starter : Option Asker) (nodes : List Reached) (unknown told : List (Option ℕ))
      → AreMoreTextsThan (start_patterns (filled slots) starter) limit → told ≡ unknown ++ from ∷ []
      → GoesOn slots limit from (starter ∷ []) nodes nodes unknown told
  goes-unknown starter nodes unknown told many appended = record {
    fresh = [];
    appended = none-behind nodes;
    each = λ node at. absurd (omega (arith, at.1));
    kept = λ number at. subst (λ l. Contains l number) (sym appended) (in-front unknown (from ∷ []) number at);
    too_many = λ number at. elim (append-cases unknown (from ∷ []) number (subst (λ l. Contains l number) appended at)) [
      | inl old ↦ inl old
      | inr new ↦ inr (sym (one-only from number new), starter, Contains-first starter [], many)
    ];
    gone_on = λ own at. inl (subst (λ l. Contains l from) (sym appended) (in-back unknown (from ∷ []) from (Contains-first from [])));
    apart = λ apart. apart;
  }

  -- they are known, and their places were added
  pub goes-known : (starter : Option Asker) (starts : List Start) (nodes new : List Reached) (unknown : List (Option ℕ))
      → AreStartsOf slots starter starts → AddsNodes from starts nodes new → GoesOn slots limit from (starter ∷ []) nodes new unknown unknown
  goes-known starter starts nodes new unknown are adds = record {
    fresh = adds.fresh;
    appended = adds.appended;
    each = λ node at.
        let is = adds.each node at in
        (is.0, starter, Contains-first starter [], All-contains (IsStart slots starter) starts node.start are.each_start is.1);
    kept = λ number at. at;
    too_many = λ number at. inl at;
    gone_on = λ own at. inr (subst (LeadsAmong slots new) (one-only starter own at)
        (λ path owned to leads.
        let has = are.each_place path owned to leads in
        let there = adds.told has.start has.among in
        (there.0, there.1, there.2 slots ∙ has.seen)));
    apart = adds.apart;
  }

  pub goes-none : (nodes : List Reached) (unknown : List (Option ℕ)) → GoesOn slots limit from [] nodes nodes unknown unknown
  goes-none nodes unknown = record {
    fresh = [];
    appended = none-behind nodes;
    each = λ node at. absurd (omega (arith, at.1));
    kept = λ number at. at;
    too_many = λ number at. inl at;
    gone_on = λ starter at. absurd (omega (arith, at.1));
    apart = λ apart. apart;
  }

  -- those by one more
  pub goes-then : (done : List (Option Asker)) (starter : Option Asker) (a b c : List Reached) (u v w : List (Option ℕ))
      → GoesOn slots limit from done a b u v → GoesOn slots limit from (starter ∷ []) b c v w → GoesOn slots limit from (done ++ starter ∷ []) a c u w
  goes-then done starter a b c u v w first second = record {
    fresh = first.fresh ++ second.fresh;
    appended = second.appended ∙ ap (λ l. l ++ second.fresh) first.appended ∙ append_assoc a first.fresh second.fresh;
    each = λ node at. elim (append-cases first.fresh second.fresh node at) [
      | inl front ↦ let is = first.each node front in (is.0, is.1, in-front done (starter ∷ []) is.1 is.2, is.3)
      | inr back ↦ let is = second.each node back in (is.0, is.1, in-back done (starter ∷ []) is.1 is.2, is.3)
    ];
    kept = λ number at. second.kept number (first.kept number at);
    too_many = λ number at. elim (second.too_many number at) [
      | inl before ↦ elim (first.too_many number before) [
        | inl old ↦ inl old
        | inr is ↦ inr (is.0, is.1, in-front done (starter ∷ []) is.1 is.2, is.3)
      ]
      | inr is ↦ inr (is.0, is.1, in-back done (starter ∷ []) is.1 is.2, is.3)
    ];
    gone_on = λ own at. elim (behind-cases done starter own at) [
      | inl before ↦ elim (first.gone_on own before) [
        | inl told ↦ inl (second.kept from told)
        | inr among ↦ inr (among-more own b second.fresh c second.appended among)
      ]
      | inr same ↦ second.gone_on own (subst (λ s. Contains (s ∷ []) own) same (Contains-first own []))
    ];
    apart = λ apart. second.apart (first.apart apart);
  }
