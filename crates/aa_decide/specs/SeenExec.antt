-- The asker that starts a program, and the answer, as the definitions see them: slots stand for the entries in them.
use Rattle.std.specs.Prelude.{◌≡◌, ℕ, List, Option, None, Some}
use Rattle.std.specs.Option.{option_map}
use Rattle.aa_decide_ready.specs.Entries.{Loaded}
use Rattle.aa_decide.specs.Exec.{Asker, Base, ExecAnswer, Nowhere, Null, OnProfile, OnUnconfined, Stacked, Started, Unconfined, Under}
use Rattle.aa_decide_ready.specs.Slots.{entry_at}
use Rattle.aa_decide_rules.specs.declared.exec_verdict.ExecTo.{ExecTo}
use Rattle.aa_decide_rules.specs.declared.exec_verdict.ExecTo.TheVariants as to
use Rattle.aa_decide_rules.specs.declared.exec_verdict.ExecVerdict.{ExecVerdict}
use Rattle.aa_decide_rules.specs.declared.exec_verdict.StackBase.{StackBase}
use Rattle.aa_decide_rules.specs.declared.exec_verdict.StackBase.TheVariants as base
use Rattle.aa_profile_data.specs.Stacks.{parts_of}
use Rattle.aa_decide.specs.declared.asker.Asker.{Asker as FoundAsker}
use Rattle.aa_decide.specs.declared.asker.Who.{Who}
use Rattle.aa_decide.specs.declared.asker.Who.TheVariants as who

-- the asker, as the code has it
abbrev pub seen_asker : FoundAsker → Asker
seen_asker asker = record { entry = asker.entry.now; child = asker.child }

-- the asker's slot holds its entry
abbrev pub IsIn : List (Option Loaded) → FoundAsker → Type 0
IsIn slots asker = entry_at slots asker.slot ≡ Some asker.entry.now

-- the asker of a loaded profile: one whose slot isn't filled is no one in particular
abbrev pub asker_in : List (Option Loaded) → Who → Option Asker
asker_in slots who.Unconfined = None
asker_in slots (who.Entry slot child) = option_map (λ entry. record { entry = entry; child = child }) (entry_at slots slot)

-- the base of a stack, if its slot is filled
abbrev pub seen_base : List (Option Loaded) → StackBase → Option Base
seen_base slots (base.Profile slot child) = option_map (λ entry. OnProfile entry child) (entry_at slots slot)
seen_base slots base.Unconfined = Some OnUnconfined

-- a stack of these members, if the slot of its base is filled
abbrev pub seen_stacked : List (Option Loaded) → List (List ℕ) → Option StackBase → Option Started
seen_stacked slots members None = Some (Stacked None members)
seen_stacked slots members (Some base) = option_map (λ base. Stacked (Some base) members) (seen_base slots base)

-- under which profile the program runs, if its slot is filled
abbrev pub seen_to : List (Option Loaded) → ExecTo → Option Started
seen_to slots (to.Profile slot child) = option_map (λ entry. Under entry child) (entry_at slots slot)
seen_to slots to.Unconfined = Some Unconfined
seen_to slots (to.Stack base members) = seen_stacked slots (parts_of members.now) base
seen_to slots to.Null = Some Null
seen_to slots to.Nowhere = Some Nowhere

-- the base that the code found is the base of the definitions, if there is one, and then in a filled slot
abbrev pub IsBase : List (Option Loaded) → Option StackBase → Option Base → Type 0
IsBase slots found base = option_map (seen_base slots) found ≡ option_map (λ base. Some base) base

-- what the code found is where the definitions lead, if they lead somewhere, and then in a filled slot
abbrev pub IsDestination : List (Option Loaded) → Option ExecTo → Option Started → Type 0
IsDestination slots found started = option_map (seen_to slots) found ≡ option_map (λ started. Some started) started

-- the answer of the code, if the slot is filled
abbrev pub seen_answer : List (Option Loaded) → ExecVerdict → Option ExecAnswer
seen_answer slots found = option_map (λ to. record { verdict = found.verdict; to = to; scrub = found.scrub }) (seen_to slots found.to)

-- the code's answer is that of the definitions
abbrev pub IsAnswer : List (Option Loaded) → ExecVerdict → ExecAnswer → Type 0
IsAnswer slots found answer = seen_answer slots found ≡ Some answer
