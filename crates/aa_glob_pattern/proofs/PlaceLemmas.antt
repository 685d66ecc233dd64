-- What is known at a place, one element later.
use Rattle.std.proofs.Common.{◌≡◌, ◌∙◌, ℕ, Bool, ◌||◌, List, [], ◌∷◌, None, Some, refl, sym, ap}
use Rattle.std.proofs.Math.Bool.{and-false, or-false}
use Rattle.aa_glob_syntax.specs.Cursor.{meaning}
use Rattle.aa_glob_syntax.specs.Elements.{Close, Comma}
use Rattle.aa_glob_syntax.specs.declared.element.Element.{Element as Found}
use Rattle.aa_glob_syntax.specs.declared.element.Element.TheVariants as found
use Rattle.aa_glob_pattern.specs.Active.{is_among, next_past, Past}
use Rattle.aa_glob_pattern.specs.code.Places.{active_beginnings, active_behind, active_ends}
use Rattle.aa_glob_pattern.specs.Reads.{either, element_behind, Known, known_behind, KnownGroup, leading, Texts}

among-either : (past : Past) (first second : Texts) → is_among (either first second) past ≡ (is_among first past || is_among second past)
among-either None first second = refl
among-either (Some past) first second = refl

-- what leads to a comma and to a closing brace
pub comma-leads : (past : Past) (here : Texts) (gs : List KnownGroup) (top : Bool) (rest : List Bool) → top ∷ rest ≡ active_beginnings past gs → top ≡ is_among (leading Comma here gs) past
comma-leads past here [] top rest is = absurd (cc)
comma-leads past here (g ∷ gs) top rest is = cc

pub close-leads : (past : Past) (here : Texts) (gs : List KnownGroup) (top : Bool) (rest : List Bool) → top ∷ rest ≡ active_ends past gs → (is_among here past || top) ≡ is_among (leading Close here gs) past
close-leads past here [] top rest is = absurd (cc)
close-leads past here (g ∷ gs) top rest is =
    let same : top ≡ is_among g.ends past = cc in
    ap (λ b. is_among here past || b) same ∙ sym (among-either past here g.ends)

-- whether the place behind it is active
active-among : (element : Found) (byte : ℕ) (past : Past) (lead : Texts)
    → active_behind element byte (is_among lead past) (lead (next_past byte past)) (is_among (element_behind (meaning element) lead) past)
    ≡ element_behind (meaning element) lead (next_past byte past)
active-among (found.Byte b) byte None lead = and-false _
active-among found.Inside byte None lead = and-false _
active-among (found.Class class) byte None lead = and-false _
active-among found.Star byte None lead = ap (λ c. lead [] || c) (and-false _) ∙ or-false (lead [])
active-among found.DoubleStar byte None lead = ap (λ c. lead [] || c) (and-false _) ∙ or-false (lead [])
active-among found.Open byte None lead = refl
active-among found.Comma byte None lead = refl
active-among found.Close byte None lead = refl
active-among (found.Byte b) byte (Some past) lead = refl
active-among found.Inside byte (Some past) lead = refl
active-among (found.Class class) byte (Some past) lead = refl
active-among found.Star byte (Some past) lead = refl
active-among found.DoubleStar byte (Some past) lead = refl
active-among found.Open byte (Some past) lead = refl
active-among found.Comma byte (Some past) lead = refl
active-among found.Close byte (Some past) lead = refl

-- The place behind an element is active where the past reads it.
pub active-at : (element : Found) (byte : ℕ) (past : Past) (k : Known) (before_leads now_leads own active : Bool)
    → before_leads ≡ is_among (leading (meaning element) k.here k.groups) past
    → now_leads ≡ is_among (leading (meaning element) k.here k.groups) (Some (next_past byte past))
    → own ≡ is_among (known_behind (meaning element) k).here past
    → active ≡ active_behind element byte before_leads now_leads own
    → active ≡ (known_behind (meaning element) k).here (next_past byte past)
active-at element byte past k before_leads now_leads own active leads_before leads_now is_own is_active =
    is_active ∙ rw (leads_before, leads_now, is_own) (active-among element byte past (leading (meaning element) k.here k.groups))
