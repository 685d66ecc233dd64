-- A past that reads no beginning of a text reads none with more bytes.
use Rattle.std.proofs.Common.{◌≡◌, ◌∙◌, ℕ, zero, suc, ◌≤◌, Bool, false, not, ◌==◌, ◌||◌, ◌&&◌, List, [], ◌∷◌, ◌++◌, length, drop, take, reverse, Some, refl, sym, ap, arith}
use Rattle.std.proofs.Math.Bool.{and-false}
use Rattle.std.proofs.lemmas.List.{reverse-append, take-append-drop}
use Rattle.aa_bytes.specs.ByteSets.{has, is_inside}
use Rattle.aa_glob_syntax.specs.Elements.{Element, Single, Open, Comma, Close, Fault}
use Rattle.aa_glob_syntax.specs.Items.{Byte, Set, Star, DoubleStar, Group}
use Rattle.aa_glob_pattern.proofs.PassLemmas.{active-all}
use Rattle.aa_glob_pattern.proofs.PlainLemmas.{ArePlain, IsPlain, plain-of}
use Rattle.aa_glob_pattern.specs.Elements.{elements_of}
use Rattle.aa_glob_pattern.specs.Active.{AreActive, AreUnset, known_at}
use Rattle.aa_glob_pattern.specs.Reads.{element_behind, Known, known, known_behind, known_groups, KnownGroup, leading, reads, Texts}
use Rattle.aa_glob_pattern.specs.Trails.{trail_of}

-- a past reads neither the beginnings of groups nor the ends of their alternatives
abbrev AreUnread : List ℕ → List KnownGroup → Type 0
AreUnread past [] = Unit
AreUnread past (g ∷ gs) = (g.beginning past ≡ false) × (g.ends past ≡ false) × AreUnread past gs

-- a past reads nothing of what is known
abbrev IsUnread : List ℕ → Known → Type 0
IsUnread past k = (k.here past ≡ false) × AreUnread past k.groups

neither : {b c : Bool} → b ≡ false → c ≡ false → (b || c) ≡ false
neither first second = rw (first, second) refl

nor_with : (b : Bool) {c : Bool} → c ≡ false → (b && c) ≡ false
nor_with b none = rw none (and-false b)

-- so it is with what leads to an element, and with the groups behind one
unread-leading : (e : Element) (past : List ℕ) (here : Texts) (gs : List KnownGroup) → here past ≡ false → AreUnread past gs → leading e here gs past ≡ false
unread-leading (Single item) past here gs none unread = none
unread-leading Open past here gs none unread = none
unread-leading Comma past here [] none unread = none
unread-leading Comma past here (g ∷ gs) none unread = unread.0
unread-leading Close past here [] none unread = none
unread-leading Close past here (g ∷ gs) none unread = neither none unread.1
unread-leading (Fault error) past here gs none unread = none

unread-groups : (e : Element) (past : List ℕ) (here : Texts) (gs : List KnownGroup) → here past ≡ false → AreUnread past gs → AreUnread past (known_groups e here gs)
unread-groups (Single item) past here gs none unread = unread
unread-groups Open past here gs none unread = (none, refl, unread)
unread-groups Comma past here [] none unread = tt
unread-groups Comma past here (g ∷ gs) none unread = (unread.0, neither none unread.1, unread.2)
unread-groups Close past here [] none unread = tt
unread-groups Close past here (g ∷ gs) none unread = unread.2
unread-groups (Fault error) past here gs none unread = unread

-- an element that the past doesn't read is not read with one byte more, where nothing that leads to it is
unread-behind : (e : Element) (c : ℕ) (past : List ℕ) (lead : Texts) → IsPlain e → lead past ≡ false → lead (c ∷ past) ≡ false → element_behind e lead past ≡ false
    → element_behind e lead (c ∷ past) ≡ false
unread-behind (Single (Byte b)) c past lead plain before now own = nor_with (c == b) before
unread-behind (Single (Set set)) c past lead plain before now own = nor_with (has set c) before
unread-behind (Single Star) c past lead plain before now own = neither now (nor_with (is_inside c) own)
unread-behind (Single DoubleStar) c past lead plain before now own = neither now (nor_with (not (c == 0)) own)
unread-behind (Single (Group first second others)) c past lead plain before now own = absurd plain
unread-behind Open c past lead plain before now own = now
unread-behind Comma c past lead plain before now own = now
unread-behind Close c past lead plain before now own = now
unread-behind (Fault error) c past lead plain before now own = refl

-- a past reads no beginning
abbrev ReadsNone : List ℕ → Known → List Element → Type 0
ReadsNone past k es = (at : ℕ) → at ≤ length es → (known_at k es at).here past ≡ false

-- With one byte more it reads none either.
none-more : (es : List Element) (c : ℕ) (past : List ℕ) (k : Known) → ArePlain es → IsUnread past k → IsUnread (c ∷ past) k → ReadsNone past k es → ReadsNone (c ∷ past) k es
none-more es c past k plain before now none zero short = now.0
none-more [] c past k plain before now none (suc at) short = absurd (omega arith)
none-more (e ∷ es) c past k plain before now none (suc at) short =
    let lead = leading e k.here k.groups in
    let own : element_behind e lead past ≡ false = none (suc zero) (omega arith) in
    let behind = unread-behind e c past lead plain.0 (unread-leading e past k.here k.groups before.0 before.1) (unread-leading e (c ∷ past) k.here k.groups now.0 now.1) own in
    none-more es c past (known_behind e k) plain.1
    (own, unread-groups e past k.here k.groups before.0 before.1)
    (behind, unread-groups e (c ∷ past) k.here k.groups now.0 now.1)
    (λ at' short'. none (suc at') (omega arith)) at (omega arith)

-- nor with more bytes
none-later : (es : List Element) (more past : List ℕ) → ArePlain es → ReadsNone past (known []) es → ReadsNone (more ++ past) (known []) es
none-later es [] past plain none = none
none-later es (c ∷ more) past plain none =
    let rest = none-later es more past plain none in
    none-more es c (more ++ past) (known []) plain (rest zero (omega arith), tt) (refl, tt) rest

-- Where nothing is active behind the first bytes, the whole path doesn't read the whole text.
pub never-whole : (text : List ℕ) (at : ℕ) (path : List ℕ) (active : List Bool) → AreActive text (Some (reverse (take at path))) active → AreUnset text active
    → reads (trail_of text) (reverse path) ≡ false
never-whole text at path active active_groups unset =
    let es = elements_of text in
    let past = reverse (take at path) in
    let none : ReadsNone past (known []) es = λ i short. sym (active_groups i short) ∙ unset i short in
    let all : reverse (drop at path) ++ past ≡ reverse path = sym (reverse-append (take at path) (drop at path)) ∙ ap reverse (take-append-drop at path) in
    let later = none-later es (reverse (drop at path)) past (plain-of text) none in
    ap (λ (k : Known). k.here (reverse path)) (sym (active-all text)) ∙ ap (λ p. (known_at (known []) es (length es)).here p) (sym all) ∙ later (length es) (omega arith)
