-- Policy sets that are alike answer the start of a program alike.
use Rattle.std.proofs.Common.{◌≡◌, ℕ, ◌<◌, ◌^◌, Bool, true, false, List, Option, None, Some, refl, sym, ap, subst, ◌∙◌}
use Rattle.std.specs.Option.{option_map}
use Rattle.std.specs.List.{All}
use Rattle.aa_decide.specs.Attachment.{attached}
use Rattle.aa_decide.specs.Exec.{Asker, ExecAnswer, Started, Unconfined, by_choice, confined_start, exec_answer, led_by, missing, started}
use Rattle.aa_decide.specs.Exec.{own_start, unconfined_start, under}
use Rattle.aa_decide_rules.specs.Choices.{Choice, Denied as DeniedByRule, Leads, Missing, choice}
use Rattle.aa_decide_rules.specs.Verdict.{verdict}
use Rattle.aa_decide_rules.specs.declared.judgement.Mediation.{Mediation}
use Rattle.aa_decide_rules.specs.declared.judgement.Mediation.TheVariants.{Complaining, Enforcing}
use Rattle.aa_decide_ready.specs.Confinement.{confined as confined_in, in_state, mode_at}
use Rattle.aa_decide_ready.specs.Entries.{Loaded}
use Rattle.aa_decide_ready.specs.Ready.{audits, decided, rules_at}
use Rattle.aa_decide_ready.specs.Sections.{section_at}
use Rattle.aa_decide_ready.specs.declared.entry.State.{State}
use Rattle.aa_decide_ready.specs.declared.entry.State.TheVariants.{Disabled, Modes}
use Rattle.aa_explain.proofs.AttachedAlikeLemmas.{FitLaw, RankLaw}
use Rattle.aa_explain.proofs.LedAlikeLemmas.{LeadAlike, attached-alike, transition-alike, under_it}
use Rattle.aa_explain.proofs.NamedLemmas.{asker-named, named-is}
use Rattle.aa_explain.proofs.TwinLemmas.{same-confined}
use Rattle.aa_explain.specs.AlikePolicies.{AreAlikePolicies, AreConfinedAlike, AskAlike, HaveOneName, HaveReadRules, StartAlike, mode_in}
use Rattle.aa_profile_data.specs.Request.{Request}
use Rattle.aa_profile_data.specs.ExecWords.{row}
use Rattle.aa_profile_data.specs.ConflictLaws.{HasReadPattern}
use Rattle.aa_profile_data.specs.Conflicts.{agree}
use Rattle.aa_profile_data.specs.SameRules.{HaveSameRules}
use Rattle.aa_profile_data.specs.declared.profile.Mode.{Mode}
use Rattle.aa_profile_data.specs.declared.profile.Mode.TheVariants.{Complain, Enforce, Unconfined as UnconfinedMode}
use Rattle.aa_profile_data.specs.declared.profile.Rule.{Rule}

-- what is told of rules in another order: they decide the same, and choose the same where they agree and read
abbrev pub VerdictLaw : Type 0
VerdictLaw =
    (mediation : Mediation) (audit : Bool) (rules others : List Rule) (request : Request)
    → HaveSameRules rules others → verdict mediation audit rules request ≡ verdict mediation audit others request

abbrev pub ChoiceLaw : Type 0
ChoiceLaw =
    (flag owned : Bool) (path : List ℕ) (rules others : List Rule)
    → HaveSameRules rules others → agree rules ≡ true → All HasReadPattern rules → All (λ b. b < 2 ^ 8) path
    → choice flag owned path rules ≡ choice flag owned path others

-- two that are confined alike say the same of a request
pub decided-alike : VerdictLaw → (one other : Asker) (mediation : Mediation) (request : Request) → AreConfinedAlike one other
    → decided one.entry.profile one.child mediation request ≡ decided other.entry.profile other.child mediation request
decided-alike law one other mediation request alike =
    law mediation (audits one.entry.profile one.child) (rules_at one.entry.profile one.child) (rules_at other.entry.profile other.child) request alike.rules
    ∙ ap (λ audit. verdict mediation audit (rules_at other.entry.profile other.child) request) alike.audit

module _ (entries others : List Loaded) where
  -- an answer of which nothing depends on the policy set
  missing-alike : (mediation : Mediation) → StartAlike entries others (missing mediation) (missing mediation)
  missing-alike Enforcing = record { verdict = refl; to = tt; scrub = refl }
  missing-alike Complaining = record { verdict = refl; to = tt; scrub = refl }

  -- the program runs where a transition leads, and how it is answered where that is nowhere
  carried-alike : (mediation : Mediation) (audited scrub : Bool) (here there : Option Started) → LeadAlike entries others here there
      → StartAlike entries others (elim here [ None ↦ missing mediation | Some to ↦ started audited to scrub ])
      (elim there [ None ↦ missing mediation | Some to ↦ started audited to scrub ])
  carried-alike mediation audited scrub None None lead = missing-alike mediation
  carried-alike mediation audited scrub (Some here) (Some there) lead = record { verdict = refl; to = lead; scrub = refl }
  carried-alike mediation audited scrub None (Some there) lead = absurd lead
  carried-alike mediation audited scrub (Some here) None lead = absurd lead

module _ (fit : FitLaw) (rank : RankLaw) (choices : ChoiceLaw) where
  module _ (path : List ℕ) (entries others : List Loaded) (alike : AreAlikePolicies entries others) where
    -- who is confined by nothing
    unconfined-alike : StartAlike entries others (unconfined_start path entries) (unconfined_start path others)
    unconfined-alike = by (attached path entries) (attached path others) (attached-alike fit rank path entries others alike)
      where
        by : (one other : Option Loaded) → LeadAlike entries others (option_map under_it one) (option_map under_it other)
            → StartAlike entries others (elim one [ None ↦ started false Unconfined false | Some entry ↦ started false (under_it entry) false ])
            (elim other [ None ↦ started false Unconfined false | Some entry ↦ started false (under_it entry) false ])
        by None None lead = record { verdict = refl; to = tt; scrub = refl }
        by (Some one) (Some other) lead = record { verdict = refl; to = lead; scrub = refl }
        by None (Some other) lead = absurd lead
        by (Some one) None lead = absurd lead

    -- who is confined by its name alone
    own-alike : (here there : Asker) → HaveOneName entries others here there → StartAlike entries others (own_start path entries here) (own_start path others there)
    own-alike here there same = by (attached path entries) (attached path others) (attached-alike fit rank path entries others alike)
      where
        by : (one other : Option Loaded) → LeadAlike entries others (option_map under_it one) (option_map under_it other)
            → StartAlike entries others (elim one [ None ↦ started false (under here) false | Some entry ↦ started false (under_it entry) false ])
            (elim other [ None ↦ started false (under there) false | Some entry ↦ started false (under_it entry) false ])
        by None None lead = record { verdict = refl; to = same; scrub = refl }
        by (Some one) (Some other) lead = record { verdict = refl; to = lead; scrub = refl }
        by None (Some other) lead = absurd lead
        by (Some one) None lead = absurd lead

    -- by what the rules say together
    choice-alike : (one other : Asker) → HaveOneName entries others one other → (mediation : Mediation) (choice : Choice)
        → StartAlike entries others (by_choice path entries one mediation choice) (by_choice path others other mediation choice)
    choice-alike one other same mediation (DeniedByRule audited) = record { verdict = refl; to = tt; scrub = refl }
    choice-alike one other same mediation Missing = missing-alike entries others mediation
    choice-alike one other same mediation (Leads transition audited) =
        carried-alike entries others mediation audited (row transition.word).scrubs (led_by path entries one transition) (led_by path others other transition)
        (transition-alike fit rank path entries others alike one other same transition)

    -- by what confines who asks
    abbrev pub start_in : List Loaded → Bool → Asker → State → ExecAnswer
    start_in set owned who state = confined_start owned path set who (in_state who.entry.profile state who.child)

    -- what the rules of who asks say together
    abbrev pub chosen : Bool → Asker → Choice
    chosen owned who = choice (audits who.entry.profile who.child) owned path (rules_at who.entry.profile who.child)

    -- in one mode
    mode-alike : (owned : Bool) (one other : Asker) → HaveOneName entries others one other → chosen owned one ≡ chosen owned other → (mode : Mode)
        → StartAlike entries others (confined_start owned path entries one (confined_in (section_at one.entry.profile one.child) mode))
        (confined_start owned path others other (confined_in (section_at other.entry.profile other.child) mode))
    mode-alike owned one other same chose Enforce =
        subst (λ said. StartAlike entries others (by_choice path entries one Enforcing (chosen owned one)) (by_choice path others other Enforcing said)) chose
        (choice-alike one other same Enforcing (chosen owned one))
    mode-alike owned one other same chose Complain =
        subst (λ said. StartAlike entries others (by_choice path entries one Complaining (chosen owned one)) (by_choice path others other Complaining said)) chose
        (choice-alike one other same Complaining (chosen owned one))
    mode-alike owned one other same chose UnconfinedMode = own-alike one other same

    asked-alike : HaveReadRules entries → All (λ b. b < 2 ^ 8) path → (owned : Bool) (one other : Asker) → HaveOneName entries others one other
        → StartAlike entries others (exec_answer entries (Some one) owned path) (exec_answer others (Some other) owned path)
    asked-alike read bytes owned one other same = by one.entry.state refl other.entry.state refl confined.mode
      where
        confined : AreConfinedAlike one other
        confined = same-confined entries others alike one other same

        there : (agree (rules_at one.entry.profile one.child) ≡ true) × All HasReadPattern (rules_at one.entry.profile one.child)
        there = read one (named-is same.name.profile entries one.entry (asker-named same.name entries one same.here).0).0

        chosen-same : chosen owned one ≡ chosen owned other
        chosen-same =
            choices (audits one.entry.profile one.child) owned path (rules_at one.entry.profile one.child) (rules_at other.entry.profile other.child)
            confined.rules there.0 there.1 bytes
            ∙ ap (λ audit. choice audit owned path (rules_at other.entry.profile other.child)) confined.audit

        joined : (state stands : State) → one.entry.state ≡ state → other.entry.state ≡ stands
            → StartAlike entries others (start_in entries owned one state) (start_in others owned other stands)
            → StartAlike entries others (exec_answer entries (Some one) owned path) (exec_answer others (Some other) owned path)
        joined state stands e f start =
            subst (λ state. StartAlike entries others (start_in entries owned one state) (exec_answer others (Some other) owned path)) (sym e)
            (subst (λ stands. StartAlike entries others (start_in entries owned one state) (start_in others owned other stands)) (sym f) start)

        by : (state : State) → one.entry.state ≡ state → (stands : State) → other.entry.state ≡ stands
            → mode_in one.entry.state one.child ≡ mode_in other.entry.state other.child
            → StartAlike entries others (exec_answer entries (Some one) owned path) (exec_answer others (Some other) owned path)
        by Disabled e Disabled f mode = joined Disabled Disabled e f unconfined-alike
        by Disabled e (Modes modes) f mode =
            let none : None ≡ Some (mode_at modes other.child) =
            ap (λ state. mode_in state one.child) (sym e) ∙ mode ∙ ap (λ state. mode_in state other.child) f in
            absurd (cc)
        by (Modes modes) e Disabled f mode =
            let none : Some (mode_at modes one.child) ≡ None =
            ap (λ state. mode_in state one.child) (sym e) ∙ mode ∙ ap (λ state. mode_in state other.child) f in
            absurd (cc)
        by (Modes modes) e (Modes others_modes) f mode =
            let both : Some (mode_at modes one.child) ≡ Some (mode_at others_modes other.child) =
            ap (λ state. mode_in state one.child) (sym e) ∙ mode ∙ ap (λ state. mode_in state other.child) f in
            let same_mode : mode_at modes one.child ≡ mode_at others_modes other.child = cc in
            joined (Modes modes) (Modes others_modes) e f
            (subst
            (λ mode. StartAlike entries others (start_in entries owned one (Modes modes)) (confined_start owned path others other (confined_in (section_at other.entry.profile other.child) mode)))
            same_mode
            (mode-alike owned one other same chosen-same (mode_at modes one.child)))

    pub start-alike : HaveReadRules entries → All (λ b. b < 2 ^ 8) path → (owned : Bool) (who other : Option Asker)
        → AskAlike entries others who other
        → StartAlike entries others (exec_answer entries who owned path) (exec_answer others other owned path)
    start-alike read bytes owned None None same = unconfined-alike
    start-alike read bytes owned (Some one) (Some other) same = asked-alike read bytes owned one other same
    start-alike read bytes owned None (Some other) same = absurd same
    start-alike read bytes owned (Some one) None same = absurd same
