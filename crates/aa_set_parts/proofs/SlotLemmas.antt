-- What the code does to slots, and what they then stand for.
use Rattle.std.proofs.Common.{◌≡◌, ℕ, zero, suc, ◌+◌, ◌-◌, ◌<◌, ◌≤◌, Bool, true, false, List, [], ◌∷◌, ◌++◌, length, take, slice_index_or, slice_set, Option, None, Some, refl, sym, ap, ◌∙◌, arith}
use Rattle.std.specs.Prelude.{if◌then◌else◌}
use Rattle.std.specs.Option.{is_some}
use Rattle.std.proofs.lemmas.List.{length_push, length-take-le, take_more}
use Rattle.aa_decide_ready.specs.Indexes.{profile_in}
use Rattle.aa_decide_ready.specs.Entries.{Loaded, can_be_in}
use Rattle.aa_decide_ready.specs.declared.entry.State.{State}
use Rattle.aa_set_parts.specs.Parts.{is_state, put_in}
use Rattle.aa_set_parts.specs.declared.parts.Content.{Content}
use Rattle.aa_set_parts.specs.declared.parts.Content.TheVariants.{InState, Whole}
use Rattle.aa_set_parts.specs.declared.parts.Part.{Part}
use Rattle.aa_set_parts.specs.Slots.{content_at, onto, trimmed, with_content}

-- a slot that is there is filled or emptied
pub trimmed-set : (k : ℕ) (content : Option Loaded) (slots : List (Option Loaded)) → k < length slots → trimmed (slice_set slots k content) ≡ with_content k content slots
trimmed-set k content [] h = absurd (omega arith)
trimmed-set zero content (old ∷ slots) h = refl
trimmed-set (suc k) content (old ∷ slots) h = ap (onto old) (trimmed-set k content slots (omega arith))

-- what a slot holds that is there
pub content-read : (k : ℕ) (slots : List (Option Loaded)) (given : Option Loaded) → k < length slots → content_at k slots ≡ slice_index_or slots k given
content-read k [] given h = absurd (omega arith)
content-read zero (old ∷ slots) given h = refl
content-read (suc k) (old ∷ slots) given h = content-read k slots given (omega arith)

-- an empty slot at the end plays no part
pub trimmed-push : (slots : List (Option Loaded)) → trimmed (slots ++ None ∷ []) ≡ trimmed slots
trimmed-push [] = refl
trimmed-push (slot ∷ slots) = ap (onto slot) (trimmed-push slots)

-- slots that end with a filled one stand for themselves
trimmed-filled : (slots : List (Option Loaded)) (entry : Loaded) → trimmed (slots ++ Some entry ∷ []) ≡ slots ++ Some entry ∷ []
trimmed-filled [] entry = refl
trimmed-filled (Some other ∷ slots) entry = ap (λ rest. Some other ∷ rest) (trimmed-filled slots entry)
trimmed-filled (None ∷ []) entry = refl
trimmed-filled (None ∷ slot ∷ slots) entry = ap (onto None) (trimmed-filled (slot ∷ slots) entry)

empty : (slot : Option Loaded) → is_some slot ≡ false → slot ≡ None
empty None h = refl
empty (Some entry) h = absurd (cc)

-- one empty slot fewer
pub trimmed-less : (slots : List (Option Loaded)) (end : ℕ) (given : Option Loaded) → 0 < end → end ≤ length slots → is_some (slice_index_or slots (end - 1) given) ≡ false
    → trimmed (take (end - 1) slots) ≡ trimmed (take end slots)
trimmed-less slots end given h k is =
    let up : end ≡ end - 1 + 1 = omega arith in
    sym (
    ap (λ n. trimmed (take n slots)) up
    ∙ ap trimmed (take_more slots (end - 1) given (omega arith) ∙ ap (λ (slot : Option Loaded). take (end - 1) slots ++ slot ∷ []) (empty (slice_index_or slots (end - 1) given) is))
    ∙ trimmed-push (take (end - 1) slots)
    )

ends : (slots : List (Option Loaded)) (last : Option Loaded) → is_some last ≡ true → length (trimmed (slots ++ last ∷ [])) ≡ length slots + 1
ends slots None h = absurd (cc)
ends slots (Some entry) h = ap length (trimmed-filled slots entry) ∙ length_push slots (Some entry)

-- as many slots as there are up to a filled one
pub trimmed-at : (slots : List (Option Loaded)) (end : ℕ) (given : Option Loaded) → 0 < end → end ≤ length slots → is_some (slice_index_or slots (end - 1) given) ≡ true
    → length (trimmed (take end slots)) ≡ end
trimmed-at slots end given h k is =
    let up : end ≡ end - 1 + 1 = omega arith in
    let long : length (take (end - 1) slots) ≡ end - 1 = length-take-le (end - 1) slots (omega arith) in
    ap (λ n. length (trimmed (take n slots))) up
    ∙ ap (λ slots. length (trimmed slots)) (take_more slots (end - 1) given (omega arith))
    ∙ ends (take (end - 1) slots) (slice_index_or slots (end - 1) given) is
    ∙ omega arith

-- a state that comes to a slot's entry leaves its profile
pub state-keeps : (part : Part) (held : Option Loaded) → is_state part ≡ true → profile_in (put_in part.content held) ≡ profile_in held
state-keeps part held state = by part.content held state
  where
    in-state : (state : State) (entry : Loaded) (can : Bool) → Some (if can then record entry { state = state } else entry).profile ≡ Some entry.profile
    in-state state entry true = refl
    in-state state entry false = refl

    by : (content : Content) (held : Option Loaded) → elim content [ Whole content ↦ false | InState state ↦ true ] ≡ true → profile_in (put_in content held) ≡ profile_in held
    by (Whole content) held state = absurd (cc)
    by (InState state) None is = refl
    by (InState state) (Some entry) is = in-state state entry (can_be_in state entry)
