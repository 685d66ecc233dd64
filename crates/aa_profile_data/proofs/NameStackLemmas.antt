-- No name is a stack.
use Rattle.std.proofs.Common.{◌≡◌, ℕ, Bool, true, false, List, [], ◌∷◌, ◌++◌, Option, None, Some, codes, drop, take, refl, sym, ap, ◌∙◌}
use Rattle.std.specs.Prelude.{◌==◌, ◌&&◌, ◌||◌, not, if◌then◌else◌}
use Rattle.std.specs.List.{list_all, onto_first}
use Rattle.std.specs.Str.{bytes_eq}
use Rattle.std.proofs.lemmas.Bool.{and_parts, eqb-true}
use Rattle.std.proofs.lemmas.Slice.Eq.{bytes_eq-Decides}
use Rattle.std.proofs.lemmas.List.{take-append-drop}
use Rattle.aa_bytes.specs.Bytes.{ampersand, colon, slash}
use Rattle.aa_bytes.specs.Texts.{begins, begins_with}
use Rattle.aa_profile_data.specs.FullNames.{FullName, are_names, full_name, is_full_name}
use Rattle.aa_profile_data.specs.Names.{is_name, is_name_byte, is_top_name, slashes_are_within}
use Rattle.aa_profile_data.specs.Stacks.{are_full_names, parts_of, stack_of, stack_of_names}
use Rattle.aa_profile_data.proofs.FullNameLemmas.{cut_behind}
use Rattle.aa_profile_data.proofs.StackLemmas.{cut-behind, cut-here, parts-some}

-- behind each slash of a name stands a byte that is none
name-within : (text : List ℕ) → is_name text ≡ true → slashes_are_within text ≡ true
name-within text named =
    (and_parts (begins (λ b. not (b == colon || b == ampersand)) text && list_all is_name_byte text) (slashes_are_within text) named).1

top-within : (text : List ℕ) → is_top_name text ≡ true → slashes_are_within text ≡ true
top-within text named = name-within text (and_parts (is_name text) (not (bytes_eq text (codes "unconfined"))) named).0

-- what is behind `&` is no name
open-unnamed : (b : ℕ) (bs : List ℕ) → (b == ampersand) ≡ true → is_full_name (b ∷ bs) ≡ false
open-unnamed b bs e = by (full_name bs).child refl
  where
    by : (child : Option (List ℕ)) → (full_name bs).child ≡ child → is_full_name (b ∷ bs) ≡ false
    by None none = let same : b ≡ ampersand = eqb-true b ampersand e in rw (same, none) refl
    by (Some child) some = let same : b ≡ ampersand = eqb-true b ampersand e in rw (same, some) refl

-- a text of which no child is named is its profile's name
whole : (name : List ℕ) → (full_name name).child ≡ None → (full_name name).profile ≡ name
whole [] none = refl
whole (b ∷ bs) none = by (begins_with (codes "//") (b ∷ bs)) refl (whole bs)
  where
    by : (t : Bool) → begins_with (codes "//") (b ∷ bs) ≡ t → ((full_name bs).child ≡ None → (full_name bs).profile ≡ bs) → (full_name (b ∷ bs)).profile ≡ b ∷ bs
    by true e more = let wrong : Some (drop 2 (b ∷ bs)) ≡ None = rw (full_name, e) at none in absurd (cc)
    by false e more = let others : (full_name bs).child ≡ None = rw (full_name, e) at none in rw (full_name, e) (ap (λ (rest : List ℕ). b ∷ rest) (more others))

-- where slashes stand within a text, no child is named
alone : (name : List ℕ) → slashes_are_within name ≡ true → (full_name name).child ≡ None
alone [] within = refl
alone (b ∷ []) within = by (b == slash) refl
  where
    by : (t : Bool) → (b == slash) ≡ t → (full_name (b ∷ [])).child ≡ None
    by true e = rw e refl
    by false e = rw e refl
alone (b ∷ c ∷ name) within = by (b == slash) (c == slash) refl refl (alone (c ∷ name))
  where
    behind : begins_with (codes "//") (b ∷ c ∷ name) ≡ false → (slashes_are_within (c ∷ name) ≡ true → (full_name (c ∷ name)).child ≡ None)
        → (full_name (b ∷ c ∷ name)).child ≡ None
    behind off more = ap (λ (n : FullName). n.child) (cut_behind b (c ∷ name) off) ∙ more (and_parts _ (slashes_are_within (c ∷ name)) within).1

    by : (s t : Bool) → (b == slash) ≡ s → (c == slash) ≡ t → (slashes_are_within (c ∷ name) ≡ true → (full_name (c ∷ name)).child ≡ None)
        → (full_name (b ∷ c ∷ name)).child ≡ None
    by true true e f more = let wrong : false ≡ true = rw (slashes_are_within, e, f) at within in absurd (cc)
    by true false e f more = behind (rw (e, f) refl) more
    by false t e f more = behind (rw e refl) more

-- what stands behind a name where a text is cut: `//&`, and more
module _ (rest : List ℕ) where
  abbrev cut : List ℕ
  cut = slash ∷ slash ∷ ampersand ∷ rest

  -- with it behind the name of a profile, a child is named that begins with `&`
  child-plain : (name : List ℕ) → (full_name name).child ≡ None → slashes_are_within name ≡ true → (full_name (name ++ cut)).child ≡ Some (ampersand ∷ rest)
  child-plain [] none within = refl
  child-plain (b ∷ []) none within = by (b == slash) refl
    where
      by : (t : Bool) → (b == slash) ≡ t → (full_name (b ∷ cut)).child ≡ Some (ampersand ∷ rest)
      by true e = let wrong : false ≡ true = rw (slashes_are_within, e) at within in absurd (cc)
      by false e = rw e refl
  child-plain (b ∷ c ∷ name) none within = by (begins_with (codes "//") (b ∷ c ∷ name)) refl (child-plain (c ∷ name))
    where
      by : (t : Bool) → begins_with (codes "//") (b ∷ c ∷ name) ≡ t
          → ((full_name (c ∷ name)).child ≡ None → slashes_are_within (c ∷ name) ≡ true → (full_name (c ∷ name ++ cut)).child ≡ Some (ampersand ∷ rest))
          → (full_name (b ∷ c ∷ name ++ cut)).child ≡ Some (ampersand ∷ rest)
      by true e more = let wrong : Some name ≡ None = rw (full_name, e) at none in absurd (cc)
      by false e more = rw (full_name, e) (more (rw (full_name, e) at none) (and_parts _ (slashes_are_within (c ∷ name)) within).1)

  -- behind the full name of a child, the child's name goes on
  child-more : (name child : List ℕ) → (full_name name).child ≡ Some child → (full_name (name ++ cut)).child ≡ Some (child ++ cut)
  child-more [] child some = absurd (cc)
  child-more (b ∷ []) child some = by (b == slash) refl
    where
      by : (t : Bool) → (b == slash) ≡ t → (full_name (b ∷ cut)).child ≡ Some (child ++ cut)
      by true e = let wrong : None ≡ Some child = rw e at some in absurd (cc)
      by false e = let wrong : None ≡ Some child = rw e at some in absurd (cc)
  child-more (b ∷ c ∷ name) child some = by (begins_with (codes "//") (b ∷ c ∷ name)) refl (child-more (c ∷ name) child)
    where
      by : (t : Bool) → begins_with (codes "//") (b ∷ c ∷ name) ≡ t
          → ((full_name (c ∷ name)).child ≡ Some child → (full_name (c ∷ name ++ cut)).child ≡ Some (child ++ cut))
          → (full_name (b ∷ c ∷ name ++ cut)).child ≡ Some (child ++ cut)
      by true e more =
          let is : Some name ≡ Some child = rw (full_name, e) at some in
          let same : name ≡ child = cc in
          rw (full_name, e) (ap (λ (text : List ℕ). Some (text ++ cut)) same)
      by false e more = rw (full_name, e) (more (rw (full_name, e) at some))

  -- and then slashes don't stand within it
  slashes-cut : (name : List ℕ) → slashes_are_within (name ++ cut) ≡ true → false ≡ true
  slashes-cut [] within = within
  slashes-cut (b ∷ name) within = slashes-cut name (and_parts _ (slashes_are_within (name ++ cut)) within).1

  -- so that is no full name
  cut-unnamed : (name : List ℕ) → is_full_name name ≡ true → is_full_name (name ++ cut) ≡ true → false ≡ true
  cut-unnamed name named fine = by (full_name name).child refl
    where
      child-named : (child : List ℕ) → (full_name (name ++ cut)).child ≡ Some child → is_name child ≡ true
      child-named child is =
          let both = rw (is_full_name, are_names, is) at fine in
          (and_parts (is_top_name (full_name (name ++ cut)).profile) (is_name child) both).1

      by : (child : Option (List ℕ)) → (full_name name).child ≡ child → false ≡ true
      by None none =
          let top : is_top_name (full_name name).profile ≡ true = rw (is_full_name, are_names, none) at named in
          let own : is_top_name name ≡ true = rw (whole name none) at top in
          let within : slashes_are_within name ≡ true = top-within name own in
          let wrong : is_name (ampersand ∷ rest) ≡ true = child-named (ampersand ∷ rest) (child-plain name none within) in absurd (cc)
      by (Some child) some =
          let named = child-named (child ++ cut) (child-more name child some) in
          slashes-cut child (name-within (child ++ cut) named)

-- a text that is cut is its first part, `//&`, and more
first-cut : (text first other : List ℕ) (more : List (List ℕ)) → parts_of text ≡ first ∷ other ∷ more → (rest : List ℕ) × (text ≡ first ++ cut rest)
first-cut [] first other more is = absurd (cc)
first-cut (b ∷ bs) first other more is = by (begins_with (codes "//&") (b ∷ bs)) refl (parts-some 0 bs) (first-cut bs)
  where
    by : (t : Bool) → begins_with (codes "//&") (b ∷ bs) ≡ t → (own : List ℕ) × (others : List (List ℕ)) × (parts_of bs ≡ own ∷ others)
        → ((own other : List ℕ) (more : List (List ℕ)) → parts_of bs ≡ own ∷ other ∷ more → (rest : List ℕ) × (bs ≡ own ++ cut rest))
        → (rest : List ℕ) × (b ∷ bs ≡ first ++ cut rest)
    by true e some behind =
        let here : [] ∷ parts_of (drop 3 (b ∷ bs)) ≡ first ∷ other ∷ more = sym (cut-here (b ∷ bs) e) ∙ is in
        let none : [] ≡ first = cc in
        let begins = (bytes_eq-Decides (take 3 (b ∷ bs)) (codes "//&")).0 e in
        let all : b ∷ bs ≡ cut (drop 3 (b ∷ bs)) = sym (take-append-drop 3 (b ∷ bs)) ∙ ap (λ (front : List ℕ). front ++ drop 3 (b ∷ bs)) begins in
        (drop 3 (b ∷ bs), all ∙ ap (λ (front : List ℕ). front ++ cut (drop 3 (b ∷ bs))) none)
    by false e (own, others, some) behind =
        let there : (b ∷ own) ∷ others ≡ first ∷ other ∷ more = sym (cut-behind b bs e ∙ ap (onto_first b) some) ∙ is in
        let front : b ∷ own ≡ first = cc in
        let rests : others ≡ other ∷ more = cc in
        let (rest, all) = behind own other more (some ∙ ap (λ (parts : List (List ℕ)). own ∷ parts) rests) in
        (rest, ap (λ (text : List ℕ). b ∷ text) all ∙ ap (λ (text : List ℕ). text ++ cut rest) front)

-- so a full name is no stack
pub full_names-alone : (text : List ℕ) → is_full_name text ≡ true → stack_of text ≡ None
full_names-alone [] named = refl
full_names-alone (b ∷ bs) named = by (b == ampersand) refl
  where
    within : (are : Bool) → are_full_names (b ∷ bs) ≡ are → (first : List ℕ) × (more : List (List ℕ)) × (parts_of (b ∷ bs) ≡ first ∷ more)
        → (if are then stack_of_names (parts_of (b ∷ bs)) else None) ≡ None
    within false fine some = refl
    within true fine (first, [], some) = ap stack_of_names some
    within true fine (first, other ∷ more, some) =
        let all : list_all is_full_name (first ∷ other ∷ more) ≡ true = sym (ap (list_all is_full_name) some) ∙ fine in
        let own = (and_parts (is_full_name first) (list_all is_full_name (other ∷ more)) all).0 in
        let (rest, is) = first-cut (b ∷ bs) first other more some in
        let wrong = cut-unnamed rest first own (sym (ap is_full_name is) ∙ named) in
        absurd (cc)

    by : (t : Bool) → (b == ampersand) ≡ t → stack_of (b ∷ bs) ≡ None
    by true e = let wrong : true ≡ false = sym named ∙ open-unnamed b bs e in absurd (cc)
    by false e = rw e (within (are_full_names (b ∷ bs)) refl (parts-some 0 (b ∷ bs)))

-- nor is the name of a profile, a child or a hat
pub names-alone : (text : List ℕ) → is_top_name text ≡ true → stack_of text ≡ None
names-alone text named =
    let none = alone text (top-within text named) in
    full_names-alone text (rw (is_full_name, are_names, none, whole text none) named)
