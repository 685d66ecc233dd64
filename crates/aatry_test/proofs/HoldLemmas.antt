-- Where all assertions hold, they do by commands and assertions alone.
use Rattle.std.proofs.Common.{◌≡◌, ◌∙◌, ◌+◌, ℕ, Bool, true, false, List, [], ◌∷◌, ap, arith, cond, count_by, inl, inr, refl, subst, sym}
use Rattle.std.specs.List.{filter}
use Rattle.std.proofs.lemmas.Bool.{cases_Bool}
use Rattle.std.proofs.lemmas.List.Sums.{sum_by-cons}
use Rattle.aa_profile_parsing.specs.declared.language.Language.{Language}
use Rattle.aa_set_manager.specs.Manager.{Managed, new_manager_in}
use Rattle.aa_text_files.specs.Files.{File}
use Rattle.aatry_test.specs.Asserting.{IsAsserted}
use Rattle.aatry_test.specs.AssertionLaws.{DependOnSteps, is_step}
use Rattle.aatry_test.specs.Running.{AreAsserted, Asserted, GoesOn, IsAssertedAt, IsLineOf, asserted_at, nothing_asserted}
use Rattle.aatry_transcripts.specs.Transcripts.{assertion_in, command_in, is_assertion, is_command}

-- a command or an assertion is a step, and nothing else is
command-step : (line : List ℕ) (lines : List (List ℕ)) → is_command line ≡ true → filter is_step (line ∷ lines) ≡ line ∷ filter is_step lines
command-step line lines command = rw command refl

assertion-step : (line : List ℕ) (lines : List (List ℕ)) → is_command line ≡ false → is_assertion line ≡ true → filter is_step (line ∷ lines) ≡ line ∷ filter is_step lines
assertion-step line lines other assertion = rw (other, assertion) refl

no-step : (line : List ℕ) (lines : List (List ℕ)) → is_command line ≡ false → is_assertion line ≡ false → filter is_step (line ∷ lines) ≡ filter is_step lines
no-step line lines other none = rw (other, none) refl

module _ (language : Language) (files : List File) (path : List ℕ) where
  -- behind a line that holds a command, or an assertion that holds
  abbrev HoldsAt : Bool → Managed → List ℕ → Managed → Type 0
  HoldsAt true managed line after = GoesOn files managed (command_in line) after
  HoldsAt false managed line after = (told : List ℕ) × IsAsserted language files managed.machine.now (assertion_in line) true told × (after ≡ managed)

  -- all of these lines do, in turn
  abbrev AllHold : Managed → List (List ℕ) → Type 0
  AllHold managed [] = Unit {0}
  AllHold managed (line ∷ lines) = (after : Managed) × HoldsAt (is_command line) managed line after × AllHold after lines

  -- an assertion that comes to nothing failing holds
  holds-at : (number : ℕ) (managed : Managed) (line : List ℕ) (after : Managed) (own : Asserted) → IsAssertedAt language files path number managed line after own
      → own.failing ≡ 0 → HoldsAt false managed line after
  holds-at number managed line after own at none = by at.holds at.asked at.comes
    where
      by : (holds : Bool) → IsAsserted language files managed.machine.now (assertion_in line) holds at.told → own ≡ asserted_at path number line holds at.told
          → HoldsAt false managed line after
      by true asked is = (at.told, asked, at.stays)
      by false asked is = let one : own.failing ≡ 1 = ap (λ a. a.failing) is in absurd (omega (arith, one, none))

  hold-steps : (number : ℕ) (managed : Managed) (lines : List (List ℕ)) (all : Asserted) → AreAsserted language files path number managed lines all
      → all.failing ≡ 0 → AllHold managed (filter is_step lines)
  hold-steps number managed [] all asserted none = tt
  hold-steps number managed (line ∷ lines) all asserted none =
      let after = asserted.0 in
      let first = asserted.1 in
      let rest = asserted.2 in
      let own = asserted.4 in
      let sum : first.failing + rest.failing ≡ 0 = sym (ap (λ a. a.failing) asserted.3) ∙ none in
      let one : first.failing ≡ 0 = omega (arith, sum) in
      let next = hold-steps (number + 1) after lines rest asserted.5 (omega (arith, sum)) in
      elim (cases_Bool (is_command line)) [
        | inl command ↦
            let goes = subst (λ b. IsLineOf b (is_assertion line) language files path number managed line after first) command own in
            subst (AllHold managed) (sym (command-step line lines command)) (after, subst (λ b. HoldsAt b managed line after) (sym command) goes.0, next)
        | inr other ↦
            let beside = subst (λ b. IsLineOf b (is_assertion line) language files path number managed line after first) other own in
            elim (cases_Bool (is_assertion line)) [
              | inl assertion ↦
                  let at = subst (λ b. IsLineOf false b language files path number managed line after first) assertion beside in
                  subst (AllHold managed) (sym (assertion-step line lines other assertion))
                  (after, subst (λ b. HoldsAt b managed line after) (sym other) (holds-at number managed line after first at one), next)
              | inr neither ↦
                  let stays = subst (λ b. IsLineOf false b language files path number managed line after first) neither beside in
                  subst (AllHold managed) (sym (no-step line lines other neither)) (subst (λ m. AllHold m (filter is_step lines)) stays.0 next)
            ]
      ]

  -- nothing and nothing is nothing
  put : (number : ℕ) (managed : Managed) (line : List ℕ) (lines : List (List ℕ)) (after : Managed)
      → IsLineOf (is_command line) (is_assertion line) language files path number managed line after nothing_asserted
      → AreAsserted language files path (number + 1) after lines nothing_asserted → AreAsserted language files path number managed (line ∷ lines) nothing_asserted
  put number managed line lines after own more = (after, nothing_asserted, nothing_asserted, refl, own, more)

  steps-hold : (number : ℕ) (managed : Managed) (lines : List (List ℕ)) → AllHold managed (filter is_step lines)
      → AreAsserted language files path number managed lines nothing_asserted
  steps-hold number managed [] hold = refl
  steps-hold number managed (line ∷ lines) hold = elim (cases_Bool (is_command line)) [
    | inl command ↦
        let is = subst (AllHold managed) (command-step line lines command) hold in
        let goes = subst (λ b. HoldsAt b managed line is.0) command is.1 in
        put number managed line lines is.0
        (subst (λ b. IsLineOf b (is_assertion line) language files path number managed line is.0 nothing_asserted) (sym command) (goes, refl))
        (steps-hold (number + 1) is.0 lines is.2)
    | inr other ↦ elim (cases_Bool (is_assertion line)) [
      | inl assertion ↦
          let is = subst (AllHold managed) (assertion-step line lines other assertion) hold in
          let holds = subst (λ b. HoldsAt b managed line is.0) other is.1 in
          let at : IsAssertedAt language files path number managed line is.0 nothing_asserted =
          record { holds = true; told = holds.0; asked = holds.1; comes = refl; stays = holds.2 } in
          put number managed line lines is.0
          (subst (λ b. IsLineOf b (is_assertion line) language files path number managed line is.0 nothing_asserted) (sym other)
          (subst (λ b. IsLineOf false b language files path number managed line is.0 nothing_asserted) (sym assertion) at))
          (steps-hold (number + 1) is.0 lines is.2)
      | inr neither ↦
          let is = subst (AllHold managed) (no-step line lines other neither) hold in
          put number managed line lines managed
          (subst (λ b. IsLineOf b (is_assertion line) language files path number managed line managed nothing_asserted) (sym other)
          (subst (λ b. IsLineOf false b language files path number managed line managed nothing_asserted) (sym neither) (refl, refl)))
          (steps-hold (number + 1) managed lines is)
    ]
  ]

counted-next : (line : List ℕ) (lines : List (List ℕ)) → count_by is_assertion (line ∷ lines) ≡ cond (is_assertion line) 1 0 + count_by is_assertion lines
counted-next line lines = sum_by-cons (λ l. cond (is_assertion l) 1 0) line lines

none-counted : (line : List ℕ) (lines : List (List ℕ)) → is_assertion line ≡ false → count_by is_assertion (line ∷ lines) ≡ count_by is_assertion lines
none-counted line lines none =
    let is : count_by is_assertion (line ∷ lines) ≡ 0 + count_by is_assertion lines =
    counted-next line lines ∙ ap (λ b. cond b 1 0 + count_by is_assertion lines) none in
    omega (arith, is)

-- assertions are steps
count-steps : (lines : List (List ℕ)) → count_by is_assertion (filter is_step lines) ≡ count_by is_assertion lines
count-steps [] = refl
count-steps (line ∷ lines) =
    let next = counted-next line (filter is_step lines) ∙ ap (λ n. cond (is_assertion line) 1 0 + n) (count-steps lines) ∙ sym (counted-next line lines) in
    elim (cases_Bool (is_command line)) [
      | inl command ↦ ap (count_by is_assertion) (command-step line lines command) ∙ next
      | inr other ↦ elim (cases_Bool (is_assertion line)) [
        | inl assertion ↦ ap (count_by is_assertion) (assertion-step line lines other assertion) ∙ next
        | inr neither ↦ ap (count_by is_assertion) (no-step line lines other neither) ∙ count-steps lines ∙ sym (none-counted line lines neither)
      ]
    ]

pub depend_on_steps : DependOnSteps
depend_on_steps language files path lines others all (inl none) holds same =
    inl (sym (count-steps others) ∙ ap (count_by is_assertion) same ∙ count-steps lines ∙ none.0, refl)
depend_on_steps language files path lines others all (inr each) holds same =
    let begin = new_manager_in language false in
    inr (steps-hold language files path 1 begin others
    (subst (AllHold language files path begin) (sym same) (hold-steps language files path 1 begin lines all each holds)))
