-- Policy sets that are alike answer every question alike.
use Rattle.std.proofs.Common.{◌≡◌, ℕ, ◌<◌, ◌^◌, Bool, true, false, cond, List, ◌++◌, codes, Option, None, Some, Result, Ok, Err, refl, sym}
use Rattle.std.proofs.Common.{ap, subst, ◌∙◌}
use Rattle.std.specs.Prelude.{slice_get}
use Rattle.std.specs.List.{All}
use Rattle.std.specs.Option.{option_map}
use Rattle.std.specs.Str.{bytes_eq}
use Rattle.aa_bytes.specs.Quoting.{written_text}
use Rattle.aa_decide.specs.Exec.{Asker, Base, ExecAnswer, Nowhere, Null, OnProfile, OnUnconfined, Stacked, Started, Unconfined, Under, exec_answer, named_asker}
use Rattle.aa_decide_rules.specs.LogLines.{exec_line}
use Rattle.aa_decide_rules.specs.declared.verdict.Answer.{Answer}
use Rattle.aa_decide_rules.specs.declared.verdict.Verdict.{Verdict}
use Rattle.aa_decide_rules.specs.declared.judgement.Mediation.{Mediation}
use Rattle.aa_decide_rules.specs.declared.judgement.Mediation.TheVariants.{Complaining, Enforcing}
use Rattle.aa_decide_ready.specs.Confinement.{confined, in_state, mode_at}
use Rattle.aa_decide_ready.specs.Entries.{Loaded}
use Rattle.aa_decide_ready.specs.Ready.{decided}
use Rattle.aa_decide_ready.specs.Sections.{section_at}
use Rattle.aa_decide_ready.specs.declared.entry.State.{State}
use Rattle.aa_decide_ready.specs.declared.entry.State.TheVariants.{Disabled, Modes}
use Rattle.aa_explain.specs.AlikePolicies.{AreAlikePolicies, AreConfinedAlike, AreThereAlike, AskAlike, HaveOneName, HaveReadRules, RunAlike}
use Rattle.aa_explain.specs.AlikePolicies.{StandAlike, StartAlike, mode_in}
use Rattle.aa_explain.specs.NamedAskers.{IsChildNamed, IsNamed}
use Rattle.aa_profile_data.specs.FullNames.{FullName, full_name}
use Rattle.aa_profile_data.specs.Request.{Request}
use Rattle.aa_profile_data.specs.declared.profile.Mode.{Mode}
use Rattle.aa_profile_data.specs.declared.profile.Mode.TheVariants.{Complain as InComplain, Enforce as InEnforce, Unconfined as InUnconfined}
use Rattle.aa_profile_data.specs.declared.profile.Profile.{Profile}
use Rattle.aa_set_answers.specs.Answers.{answered, base_name, confined_answer, exec_told, scrub_text, stack_text, started_text, told_by, told_verdict, who_asks}
use Rattle.aa_set_answers.specs.Askers.{asker}
use Rattle.aa_set_answers.specs.ProfileNames.{behind_profile, full_name_at}
use Rattle.aa_set_answers.specs.declared.answers.Answered.{Answered}
use Rattle.aa_set_commands.specs.Question.{OfAccess, OfExec, Question}
use Rattle.aa_set_commands.specs.Refusal.{plain}
use Rattle.aa_set_commands.specs.declared.refusal.Refusal.{Refusal}
use Rattle.aa_set_commands.specs.declared.refusal.RefusalKind.TheVariants.{Absent}
use Rattle.aatry_diff.specs.Paths.{AsksOfBytes}

-- what the laws say of policy sets that are alike, and of who has a full name
abbrev pub NameLaw : Type 0
NameLaw = (entries : List Loaded) (name : FullName) (who : Asker) → named_asker entries name ≡ Some who → IsNamed entries name who

abbrev pub VerdictLaw : Type 0
VerdictLaw =
    (one other : Asker) (mediation : Mediation) (request : Request) → AreConfinedAlike one other
    → decided one.entry.profile one.child mediation request ≡ decided other.entry.profile other.child mediation request

abbrev pub StartLaw : Type 0
StartLaw =
    (entries others : List Loaded) (who other : Option Asker) (owned : Bool) (path : List ℕ)
    → AreAlikePolicies entries others → HaveReadRules entries → AskAlike entries others who other → All (λ b. b < 2 ^ 8) path
    → StartAlike entries others (exec_answer entries who owned path) (exec_answer others other owned path)

-- those that have one full name have one text of it
children-told : (one other : Profile) (child place : Option ℕ) (name : Option (List ℕ)) → one.name ≡ other.name
    → IsChildNamed one child name → IsChildNamed other place name → full_name_at one child ≡ full_name_at other place
children-told one other None None None names here there = names
children-told one other (Some child) (Some place) (Some name) names (first, at, named) (second, stands, same) =
    let own : behind_profile (slice_get one.children child) ≡ codes "//" ++ name = ap behind_profile at ∙ ap (λ text. codes "//" ++ text) named in
    let theirs : behind_profile (slice_get other.children place) ≡ codes "//" ++ name = ap behind_profile stands ∙ ap (λ text. codes "//" ++ text) same in
    let behind = own ∙ sym theirs in
    λ i. names i ++ behind i
children-told one other None None (Some name) names here there = absurd here
children-told one other None (Some place) None names here there = absurd there
children-told one other None (Some place) (Some name) names here there = absurd here
children-told one other (Some child) None None names here there = absurd here
children-told one other (Some child) None (Some name) names here there = absurd there
children-told one other (Some child) (Some place) None names here there = absurd here

module _ (law : NameLaw) (entries others : List Loaded) where
  name-told : (one other : Asker) → HaveOneName entries others one other
      → full_name_at one.entry.profile one.child ≡ full_name_at other.entry.profile other.child
  name-told one other same =
      let here = law entries same.name one same.here in
      let there = law others same.name other same.there in
      children-told one.entry.profile other.entry.profile one.child other.child same.name.child (here.profile ∙ sym there.profile) here.child there.child

  -- what a stack is on is named alike
  base-named : (base other : Option Base) → StandAlike entries others base other → option_map base_name base ≡ option_map base_name other
  base-named None None same = refl
  base-named (Some (OnProfile entry child)) (Some (OnProfile other place)) same =
      ap (λ (name : List ℕ). Some name) (name-told (record { entry = entry; child = child }) (record { entry = other; child = place }) same)
  base-named (Some OnUnconfined) (Some OnUnconfined) same = refl
  base-named (Some (OnProfile entry child)) (Some OnUnconfined) same = absurd same
  base-named (Some OnUnconfined) (Some (OnProfile other place)) same = absurd same
  base-named None (Some other) same = absurd same
  base-named (Some base) None same = absurd same

  -- where a program runs is told alike
  run-told : (answer : Answer) (scrub : Bool) (one other : Started) → RunAlike entries others one other
      → started_text answer one scrub ≡ started_text answer other scrub
  run-told answer scrub (Under entry child) (Under other place) same =
      ap (λ name. codes "allow to " ++ written_text name ++ scrub_text scrub)
      (name-told (record { entry = entry; child = child }) (record { entry = other; child = place }) same)
  run-told answer scrub Unconfined Unconfined same = refl
  run-told answer scrub (Stacked base members) (Stacked other names) (bases, same) =
      let named = base-named base other bases in
      λ i. stack_text (named i) (same i) scrub
  run-told answer scrub Null Null same = refl
  run-told answer scrub Nowhere Nowhere same = refl
  run-told answer scrub one other same = absurd same

  -- so is all of the answer
  start-told : (who path : List ℕ) (one other : ExecAnswer) → StartAlike entries others one other → exec_told who path one ≡ exec_told who path other
  start-told who path one other same =
      let verdicts = same.verdict in
      let scrubs = same.scrub in
      let text : started_text one.verdict.answer one.to one.scrub ≡ started_text other.verdict.answer other.to other.scrub =
      (λ i. started_text (verdicts i).answer one.to (scrubs i)) ∙ run-told other.verdict.answer other.scrub one.to other.to same.to in
      λ i. record { answer = Some (verdicts i).answer; text = text i; logged = exec_line who path (verdicts i) }

-- a request is answered by what confines who asks
abbrev pub answer_in : Asker → Request → State → Option Verdict
answer_in who request state = confined_answer (in_state who.entry.profile state who.child) request

-- the same by the mode
abbrev pub answer_in_mode : Asker → Request → Mode → Option Verdict
answer_in_mode who request mode = confined_answer (confined (section_at who.entry.profile who.child) mode) request

confined-in-mode : VerdictLaw → (one other : Asker) (request : Request) → AreConfinedAlike one other
    → (mode : Mode) → answer_in_mode one request mode ≡ answer_in_mode other request mode
confined-in-mode law one other request alike InEnforce = ap (λ verdict. Some verdict) (law one other Enforcing request alike)
confined-in-mode law one other request alike InComplain = ap (λ verdict. Some verdict) (law one other Complaining request alike)
confined-in-mode law one other request alike InUnconfined = refl

confined-same : VerdictLaw → (one other : Asker) (request : Request) → AreConfinedAlike one other
    → answer_in one request one.entry.state ≡ answer_in other request other.entry.state
confined-same law one other request alike = by one.entry.state other.entry.state alike.mode
  where
    by : (state stands : State) → mode_in state one.child ≡ mode_in stands other.child → answer_in one request state ≡ answer_in other request stands
    by Disabled Disabled mode = refl
    by Disabled (Modes modes) mode = absurd (cc)
    by (Modes modes) Disabled mode = absurd (cc)
    by (Modes modes) (Modes more) mode =
        let same : mode_at modes one.child ≡ mode_at more other.child = cc in
        confined-in-mode law one other request alike (mode_at modes one.child) ∙ ap (answer_in_mode other request) same

-- those that have one full name in policy sets that are alike are confined alike
one-confined : (entries others : List Loaded) → AreAlikePolicies entries others → (one other : Asker) → HaveOneName entries others one other
    → AreConfinedAlike one other
one-confined entries others alike one other same =
    subst (λ found. AreThereAlike (Some one) found) same.there
    (subst (λ found. AreThereAlike found (named_asker others same.name)) same.here (alike.alike same.name))

-- what a question is answered, by who asks, if it is there
abbrev pub answer_by : List Loaded → Question → Option (Option Asker) → Result Answered Refusal
answer_by entries question found = elim found [
  | None ↦ Err (plain Absent)
  | Some asker ↦ Ok (told_by entries question asker)
]

-- who asks, by the word that is asked by
abbrev pub asks_by : Bool → Option Asker → Option (Option Asker)
asks_by word found = cond word (Some None) (option_map (λ (a : Asker). Some a) found)

module _ (names : NameLaw) (verdicts : VerdictLaw) (starts : StartLaw)
    (entries others : List Loaded) (alike : AreAlikePolicies entries others) (read : HaveReadRules entries) where
  told-same : (question : Question) → AsksOfBytes question → (one other : Option Asker) → AskAlike entries others one other
      → told_by entries question one ≡ told_by others question other
  told-same (OfAccess who request) bytes None None asks = refl
  told-same (OfAccess who request) bytes (Some one) (Some other) asks =
      ap (told_verdict who request) (confined-same verdicts one other request (one-confined entries others alike one other asks))
  told-same (OfAccess who request) bytes None (Some other) asks = absurd asks
  told-same (OfAccess who request) bytes (Some one) None asks = absurd asks
  told-same (OfExec who owned path) bytes one other asks =
      start-told names entries others who path (exec_answer entries one owned path) (exec_answer others other owned path)
      (starts entries others one other owned path alike read asks bytes)

  pub answered-same : (question : Question) → AsksOfBytes question → answered entries question ≡ answered others question
  answered-same question bytes =
      by (bytes_eq (who_asks question) (codes "unconfined")) (named_asker entries (full_name (who_asks question))) refl (named_asker others (full_name (who_asks question))) refl
      (alike.alike (full_name (who_asks question)))
    where
      by : (word : Bool)
          → (one : Option Asker) → named_asker entries (full_name (who_asks question)) ≡ one
          → (other : Option Asker) → named_asker others (full_name (who_asks question)) ≡ other
          → AreThereAlike one other
          → answer_by entries question (asks_by word one) ≡ answer_by others question (asks_by word other)
      by true one e other f there = ap (λ (told : Answered). Ok told) (told-same question bytes None None tt)
      by false None e None f there = refl
      by false (Some one) e (Some other) f there =
          ap (λ (told : Answered). Ok told)
          (told-same question bytes (Some one) (Some other) (record { name = full_name (who_asks question); here = e; there = f }))
      by false None e (Some other) f there = absurd there
      by false (Some one) e None f there = absurd there
