-- Laws on the exchange of parts.
use Rattle.std.proofs.Common.{◌≡◌, ℕ, Bool, true, false, List, [], ◌∷◌, ◌++◌, length, Option, None, Some, refl, sym, ap, ◌∙◌, arith}
use Rattle.std.proofs.lemmas.List.{length_push}
use Rattle.aa_decide_ready.specs.Entries.{Loaded, fits, state_left, with_state}
use Rattle.aa_decide_ready.specs.declared.entry.State.{State}
use Rattle.aa_set_parts.specs.Parts.{Reaching, after, back, exchanged, left, put_in, taken_out}
use Rattle.aa_set_parts.specs.Slots.{content_at, trimmed, with_content}
use Rattle.aa_set_parts.specs.SlotLaws.{content-trimmed, content-with, trimmed-again, with-again, with-settled, with-trimmed}
use Rattle.aa_set_parts.specs.declared.parts.Content.{Content}
use Rattle.aa_set_parts.specs.declared.parts.Content.TheVariants.{InState, Whole}
use Rattle.aa_set_parts.specs.declared.parts.Part.{Part}

-- An entry is in its old state again, and gives up the other one again for it.
abbrev IsAgain : State → Loaded → Type 0
IsAgain state entry =
    (with_state (state_left state entry) (with_state state entry) ≡ entry)
    × (state_left (state_left state entry) (with_state state entry) ≡ state)

state-again : (state : State) (entry : Loaded) → IsAgain state entry
state-again state entry = by (fits entry.profile entry.state) (fits entry.profile state) refl refl
  where
    by : (own other : Bool) → fits entry.profile entry.state ≡ own → fits entry.profile state ≡ other → IsAgain state entry
    by true true h k = (rw (h, k) rw (k, h) refl, rw (h, k) rw (k, h) refl)
    by true false h k = (rw (h, k) rw (h, k) refl, rw (h, k) rw (h, k) refl)
    by false other h k = (rw (h) rw (h) refl, rw (h) rw (h) refl)

-- a second exchange gives a slot back what it held
put-again : (content : Content) (held : Option Loaded) → put_in (taken_out content held) (put_in content held) ≡ held
put-again (Whole content) held = refl
put-again (InState state) None = refl
put-again (InState state) (Some entry) = ap (λ (entry : Loaded). Some entry) (state-again state entry).0

-- a second exchange gives a part back what it held
taken-again : (content : Content) (held : Option Loaded) → taken_out (taken_out content held) (put_in content held) ≡ content
taken-again (Whole content) held = refl
taken-again (InState state) None = refl
taken-again (InState state) (Some entry) = ap (λ (state : State). InState state) (state-again state entry).1

pub same_part : {slot : ℕ} {a b : Content} → a ≡ b → ◌≡◌ {A = Part} (record { slot = slot; content = a }) (record { slot = slot; content = b })
same_part {slot} p = λ i. record { slot = slot; content = p i }

pub same_reaching : {parts others : List Part} {reach : ℕ} → parts ≡ others
    → ◌≡◌ {A = Reaching} (record { parts = parts; reach = reach }) (record { parts = others; reach = reach })
same_reaching {parts} {others} {reach} p = λ i. record { parts = p i; reach = reach }

-- empty slots at the end play no part in an exchange
pub exchanged-trimmed : (part : Part) (slots : List (Option Loaded)) → exchanged part (trimmed slots) ≡ exchanged part slots
exchanged-trimmed part slots =
    ap (λ held. with_content part.slot (put_in part.content held) (trimmed slots)) (content-trimmed part.slot slots)
    ∙ with-trimmed part.slot (put_in part.content (content_at part.slot slots)) slots

pub left-trimmed : (part : Part) (slots : List (Option Loaded)) → left part (trimmed slots) ≡ left part slots
left-trimmed part slots = same_part (ap (taken_out part.content) (content-trimmed part.slot slots))

pub exchanged-settled : (part : Part) (slots : List (Option Loaded)) → trimmed (exchanged part slots) ≡ exchanged part slots
exchanged-settled part slots = with-settled part.slot (put_in part.content (content_at part.slot slots)) slots

pub after-trimmed : (slots : List (Option Loaded)) (parts : List Part) → after (trimmed slots) parts ≡ after slots parts
after-trimmed slots [] = trimmed-again slots
after-trimmed slots (part ∷ parts) = ap (λ there. after there parts) (exchanged-trimmed part slots)

-- one part exchanged twice
exchanged-again : (part : Part) (slots : List (Option Loaded)) → exchanged (left part slots) (exchanged part slots) ≡ trimmed slots
exchanged-again part slots =
    ap (λ held. with_content part.slot (put_in (taken_out part.content (content_at part.slot slots)) held) (exchanged part slots))
    (content-with part.slot (put_in part.content (content_at part.slot slots)) slots)
    ∙ ap (λ content. with_content part.slot content (exchanged part slots)) (put-again part.content (content_at part.slot slots))
    ∙ with-again part.slot (put_in part.content (content_at part.slot slots)) slots

left-again : (part : Part) (slots : List (Option Loaded)) → left (left part slots) (exchanged part slots) ≡ part
left-again part slots =
    same_part (
    ap (taken_out (taken_out part.content (content_at part.slot slots)))
    (content-with part.slot (put_in part.content (content_at part.slot slots)) slots)
    ∙ taken-again part.content (content_at part.slot slots)
    )

after-push : (slots : List (Option Loaded)) (parts : List Part) (part : Part) → after slots (parts ++ part ∷ []) ≡ exchanged part (after slots parts)
after-push slots [] part = exchanged-settled part slots ∙ sym (exchanged-trimmed part slots)
after-push slots (first ∷ parts) part = after-push (exchanged first slots) parts part

back-push : (slots : List (Option Loaded)) (parts : List Part) (part : Part)
    → back slots (parts ++ part ∷ []) ≡ left part (after slots parts) ∷ back slots parts
back-push slots [] part = ap (λ (one : Part). one ∷ []) (sym (left-trimmed part slots))
back-push slots (first ∷ parts) part = ap (λ rest. rest ++ left first slots ∷ []) (back-push (exchanged first slots) parts part)

-- turning twice gives back what the slots represent
pub parts-return : (slots : List (Option Loaded)) (parts : List Part) → after (after slots parts) (back slots parts) ≡ trimmed slots
parts-return slots [] = trimmed-again slots
parts-return slots (part ∷ parts) =
    let there : List (Option Loaded) = exchanged part slots in
    after-push (after there parts) (back there parts) (left part slots)
    ∙ ap (exchanged (left part slots)) (parts-return there parts)
    ∙ exchanged-trimmed (left part slots) there
    ∙ exchanged-again part slots

-- turning twice gives back the parts
pub parts-restore : (slots : List (Option Loaded)) (parts : List Part) → back (after slots parts) (back slots parts) ≡ parts
parts-restore slots [] = refl
parts-restore slots (part ∷ parts) =
    let there : List (Option Loaded) = exchanged part slots in
    back-push (after there parts) (back there parts) (left part slots)
    ∙ ap (λ (one : Part). one ∷ back (after there parts) (back there parts))
    (ap (left (left part slots)) (parts-return there parts) ∙ left-trimmed (left part slots) there ∙ left-again part slots)
    ∙ ap (λ rest. part ∷ rest) (parts-restore there parts)

-- as many parts lead back
pub length-back : (slots : List (Option Loaded)) (parts : List Part) → length (back slots parts) ≡ length parts
length-back slots [] = refl
length-back slots (part ∷ parts) =
    length_push (back (exchanged part slots) parts) (left part slots) ∙ let rest = length-back (exchanged part slots) parts in omega (arith)
