-- The text of what the code answered, by slots.
use Rattle.std.specs.Prelude.{ℕ, Bool, List, [], Option, None, Some}
use Rattle.aa_decide_ready.specs.Entries.{Loaded}
use Rattle.aa_decide.specs.SeenExec.{seen_base, seen_to}
use Rattle.aa_decide_rules.specs.declared.exec_verdict.ExecVerdict.{ExecVerdict}
use Rattle.aa_decide_rules.specs.declared.exec_verdict.StackBase.{StackBase}
use Rattle.aa_set_answers.specs.Answers.{base_name, stack_text, started_text}

-- under what stack a program runs; nothing, where the slot of its base isn't filled
abbrev pub seen_stack_text : List (Option Loaded) → Option StackBase → List (List ℕ) → Bool → List ℕ
seen_stack_text slots None members scrub = stack_text None members scrub
seen_stack_text slots (Some base) members scrub = elim (seen_base slots base) [
  | None ↦ []
  | Some base ↦ stack_text (Some (base_name base)) members scrub
]

-- under which profile a program runs; nothing, where the slot of its profile isn't filled
abbrev pub seen_text : List (Option Loaded) → ExecVerdict → List ℕ
seen_text slots verdict = elim (seen_to slots verdict.to) [
  | None ↦ []
  | Some to ↦ started_text verdict.verdict.answer to verdict.scrub
]
