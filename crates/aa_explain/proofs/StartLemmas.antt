-- A program starts by rules that lead to who starts it.
use Rattle.std.proofs.Common.{◌≡◌, ◌≢◌, ◌∙◌, ℕ, Bool, List, Option, None, Some, refl, sym, ap}
use Rattle.aa_profile_data.specs.declared.profile.Mode.{Mode}
use Rattle.aa_profile_data.specs.declared.profile.Mode.TheVariants.{Complain, Enforce, Unconfined as UnconfinedMode}
use Rattle.aa_profile_data.specs.declared.profile.Profile.{Profile}
use Rattle.aa_decide.specs.Exec.{Asker, Under, by_choice, confined_start, exec_answer, missing as missing_start, own_start, unconfined_start}
use Rattle.aa_decide.specs.Attachment.{attached}
use Rattle.aa_decide_rules.specs.declared.verdict.Answer.TheVariants.{Allow}
use Rattle.aa_decide_rules.specs.Choices.{Leads, Missing, choice}
use Rattle.aa_decide_ready.specs.Ready.{audits, rules_at}
use Rattle.aa_decide_ready.specs.Sections.{Section, section_at}
use Rattle.aa_decide_rules.specs.declared.judgement.Mediation.{Mediation}
use Rattle.aa_decide_rules.specs.declared.judgement.Mediation.TheVariants.{Complaining, Enforcing}
use Rattle.aa_decide_ready.specs.Confinement.{By, confined, in_state, mode_at}
use Rattle.aa_decide_ready.specs.Entries.{Loaded}
use Rattle.aa_decide_ready.specs.declared.entry.State.{State}
use Rattle.aa_decide_ready.specs.declared.entry.State.TheVariants.{Disabled, Modes}
use Rattle.aa_explain.specs.StartLaws.{AsksRules}
use Rattle.aa_explain_rules.specs.Missing.{inherit}

-- what is asked are the rules of who asks
own-section : (profile : Profile) (state : State) (child : Option ℕ) (section : Section) (mediation : Mediation) → in_state profile state child ≡ By section mediation
    → section ≡ section_at profile child
own-section profile Disabled child section mediation h = absurd (cc)
own-section profile (Modes modes) child section mediation h = by (mode_at modes child) h
  where
    own : Section
    own = section_at profile child

    by : (mode : Mode) → confined own mode ≡ By section mediation → section ≡ own
    by Enforce h = let is : own ≡ section = cc in sym is
    by Complain h = let is : own ≡ section = cc in sym is
    by UnconfinedMode h = absurd (cc)

-- by them a program starts as they say together
start-by : (entries : List Loaded) (who : Asker) (owned : Bool) (path : List ℕ) (section : Section) (mediation : Mediation)
    → in_state who.entry.profile who.entry.state who.child ≡ By section mediation
    → exec_answer entries (Some who) owned path ≡ by_choice path entries who mediation (choice (audits who.entry.profile who.child) owned path (rules_at who.entry.profile who.child))
start-by entries who owned path section mediation asked =
    ap (confined_start owned path entries who) asked
    ∙ ap (λ section. by_choice path entries who mediation (choice section.audit owned path section.rules)) (own-section who.entry.profile who.entry.state who.child section mediation asked)

-- who asks by rules that lead there is let, and runs the program under its own profile
pub lets-start : (entries : List Loaded) (who : Asker) (owned : Bool) (path : List ℕ)
    → ((flag : Bool) → (logged : Bool) × (choice flag owned path (rules_at who.entry.profile who.child) ≡ Leads inherit logged))
    → (exec_answer entries (Some who) owned path).verdict.answer ≡ Allow
lets-start entries who owned path leads = by who.entry.state refl (leads (audits who.entry.profile who.child))
  where
    unconfined : (found : Option Loaded) → attached path entries ≡ found → (unconfined_start path entries).verdict.answer ≡ Allow
    unconfined None e = rw (unconfined_start, e) refl
    unconfined (Some entry) e = rw (unconfined_start, e) refl

    by_name : (found : Option Loaded) → attached path entries ≡ found → (own_start path entries who).verdict.answer ≡ Allow
    by_name None e = rw (own_start, e) refl
    by_name (Some entry) e = rw (own_start, e) refl

    in_mode : (mode : Mode) → (logged : Bool) × (choice (audits who.entry.profile who.child) owned path (rules_at who.entry.profile who.child) ≡ Leads inherit logged)
        → (confined_start owned path entries who (confined (section_at who.entry.profile who.child) mode)).verdict.answer ≡ Allow
    in_mode Enforce (logged, is) = ap (λ choice. (by_choice path entries who Enforcing choice).verdict.answer) is
    in_mode Complain (logged, is) = ap (λ choice. (by_choice path entries who Complaining choice).verdict.answer) is
    in_mode UnconfinedMode (logged, is) = by_name (attached path entries) refl

    by : (s : State) → who.entry.state ≡ s → (logged : Bool) × (choice (audits who.entry.profile who.child) owned path (rules_at who.entry.profile who.child) ≡ Leads inherit logged)
        → (exec_answer entries (Some who) owned path).verdict.answer ≡ Allow
    by Disabled e is =
        ap (λ state. (confined_start owned path entries who (in_state who.entry.profile state who.child)).verdict.answer) e ∙ unconfined (attached path entries) refl
    by (Modes modes) e is =
        ap (λ state. (confined_start owned path entries who (in_state who.entry.profile state who.child)).verdict.answer) e ∙ in_mode (mode_at modes who.child) is

pub starts-under : (entries : List Loaded) (who : Asker) (owned : Bool) (path : List ℕ)
    → ((flag : Bool) → (logged : Bool) × (choice flag owned path (rules_at who.entry.profile who.child) ≡ Leads inherit logged))
    → AsksRules who → (exec_answer entries (Some who) owned path).to ≡ Under who.entry who.child
starts-under entries who owned path leads (section, mediation, asked) =
    let (logged, is) = leads (audits who.entry.profile who.child) in
    ap (λ answer. answer.to) (start-by entries who owned path section mediation asked ∙ ap (by_choice path entries who mediation) is)

-- who asks by rules that lead nowhere isn't let
pub not-started : (entries : List Loaded) (who : Asker) (owned : Bool) (path : List ℕ)
    → ((flag : Bool) → choice flag owned path (rules_at who.entry.profile who.child) ≡ Missing)
    → AsksRules who → (exec_answer entries (Some who) owned path).verdict.answer ≢ Allow
not-started entries who owned path nowhere (section, mediation, asked) allowed =
    stopped mediation
    (sym (ap (λ answer. answer.verdict.answer) (start-by entries who owned path section mediation asked ∙ ap (by_choice path entries who mediation) (nowhere (audits who.entry.profile who.child))))
    ∙ allowed)
  where
    stopped : (mediation : Mediation) → (missing_start mediation).verdict.answer ≡ Allow → ⊥
    stopped Enforcing h = cc
    stopped Complaining h = cc
