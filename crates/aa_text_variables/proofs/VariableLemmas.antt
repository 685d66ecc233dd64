-- What is kept of variables, in the words of their definitions.
use Rattle.std.proofs.Common.{◌≡◌, ℕ, Bool, true, false, List, [], ◌∷◌, ◌++◌, ◌+◌, ◌<◌, zero, suc, length, drop, get_or, set, arith, refl, sym, ap, ◌∙◌}
use Rattle.std.specs.Prelude.{Vec, Option, None, Some, is_some, map, Ok, Err, if◌then◌else◌, cond, nat_lt, option_map, slice_get}
use Rattle.std.specs.declared.cmp.Ordering.{Ordering}
use Rattle.std.specs.declared.cmp.Ordering.TheVariants.{Less, Equal, Greater}
use Rattle.std.specs.BTreeMap.{insert_entry}
use Rattle.std.specs.Cmp.Lexicographic.{slice_cmp}
use Rattle.std.specs.Ordering.{is_eq, match_ordering, nat_cmp}
use Rattle.std.specs.Str.{bytes_eq}
use Rattle.std.proofs.lemmas.Bool.Decides.{nat_tests}
use Rattle.std.proofs.lemmas.List.{length-map}
use Rattle.std.proofs.lemmas.Map.Text.{is_eq-slice_cmp}
use Rattle.std.proofs.lemmas.Option.{slice_get-map, slice_get_read}
use Rattle.std.proofs.lemmas.Slice.Eq.{bytes_eq-Decides}
use Rattle.aa_text_variables.specs.Variables.{Variable, named, is_defined, same_texts, after_append, after_define, with_added}
use Rattle.aa_text_variables.specs.code.VariableIndexes.{index_of}
use Rattle.aa_text_variables.specs.code.VariablesMap.{ArePlaced, as_variable, as_variables, place_of}
use Rattle.aa_text_variables.specs.declared.variables.Values.{Values}
use Rattle.aa_text_variables.proofs.AreVariablesLemmas.{names-apart}
use Rattle.aa_text_variables.proofs.IndexLemmas.{named-from_none}
use Rattle.aa_text_files.specs.declared.text_error.TextRefusal.TheVariants.{AppendUndefined, Redefined}

-- a name is its own
name-own : (name : List ℕ) → bytes_eq name name ≡ true
name-own name = (bytes_eq-Decides name name).1 refl

-- the variable of a name stands at its index
pub named-at : (variables : List Variable) (name : List ℕ) (index : ℕ) → index_of variables name ≡ Some index
    → (variable : Variable) × (slice_get variables index ≡ Some variable) × (named name variables ≡ Some variable)
named-at [] name index h = absurd cc
named-at (v ∷ vs) name index h = by (bytes_eq name v.name) refl (index_of vs name) refl h (named-at vs name)
  where
    by : (b : Bool) → bytes_eq name v.name ≡ b → (found : Option ℕ) → index_of vs name ≡ found → index_of (v ∷ vs) name ≡ Some index
        → ((inner : ℕ) → index_of vs name ≡ Some inner → (variable : Variable) × (slice_get vs inner ≡ Some variable) × (named name vs ≡ Some variable))
        → (variable : Variable) × (slice_get (v ∷ vs) index ≡ Some variable) × (named name (v ∷ vs) ≡ Some variable)
    by true b found e h rest =
        let there : Some 0 ≡ Some index = rw b at h in
        let same : index ≡ 0 = cc in
        (v, rw same refl, rw b refl)
    by false b None e h rest = let there : None ≡ Some index = rw (b, e) at h in absurd cc
    by false b (Some inner) e h rest =
        let there : Some (suc inner) ≡ Some index = rw (b, e) at h in
        let same : index ≡ suc inner = cc in
        let found = rest inner e in
        (found.0, rw same found.1, rw b found.2)

-- the variable of an entry
pub variable-at : {A : Type 0} (entries : List (Vec ℕ A × Values)) (variables : List Variable) (index : ℕ) (entry : Vec ℕ A × Values) → as_variables entries ≡ variables → index < length variables
    → entry ≡ get_or entries index entry → slice_get variables index ≡ Some (as_variable entry)
variable-at entries variables index entry seen within e =
    let inside : index < length entries = omega (arith, ap length seen, length-map entries as_variable) in
    ap (λ all. slice_get all index) (sym seen) ∙ slice_get-map as_variable entries index ∙ ap (option_map as_variable) (slice_get_read entries (length entries) index entry refl inside e)

-- `=` on a variable that is there
pub after_define-at : (variables : List Variable) (name : List ℕ) (index : ℕ) (variable : Variable) (words others : List (List ℕ)) (same : Bool) → index_of variables name ≡ Some index
    → slice_get variables index ≡ Some variable → others ≡ variable.defined → same ≡ same_texts words others
    → after_define variables name words ≡ (if same then Ok variables else Err Redefined)
after_define-at variables name index variable words others same has there o s =
    let found = named-at variables name index has in
    let one : Some found.0 ≡ Some variable = sym found.1 ∙ there in
    let is : found.0 ≡ variable = cc in
    let named_so : named name variables ≡ Some variable = found.2 ∙ ap Some is in
    rw (named_so, after_define, ← o, ← s) refl

-- `+=` on a variable that isn't there
pub after_append-none : (variables : List Variable) (name : List ℕ) (words : List (List ℕ)) → index_of variables name ≡ None → after_append variables name words ≡ Err AppendUndefined
after_append-none variables name words none = let absent : is_defined name variables ≡ false = ap is_some (named-from_none variables name none) in rw absent refl

-- a variable that is there is defined
pub is_defined-at : (variables : List Variable) (name : List ℕ) (index : ℕ) → index_of variables name ≡ Some index → is_defined name variables ≡ true
is_defined-at variables name index has = ap is_some (named-at variables name index has).2

-- values put behind those of the variable at a name's index are put behind those of the name
with_added-at : (variables : List Variable) (name : List ℕ) (words : List (List ℕ)) (index : ℕ) (variable : Variable) → index_of variables name ≡ Some index → slice_get variables index ≡ Some variable
    → set variables index (record { name = variable.name; defined = variable.defined; added = variable.added ++ words }) ≡ with_added name words variables
with_added-at [] name words index variable has there = absurd cc
with_added-at (v ∷ vs) name words index variable has there = by (bytes_eq name v.name) refl (index_of vs name) refl has there (with_added-at vs name words)
  where
    by : (b : Bool) → bytes_eq name v.name ≡ b → (found : Option ℕ) → index_of vs name ≡ found → index_of (v ∷ vs) name ≡ Some index → slice_get (v ∷ vs) index ≡ Some variable
        → ((inner : ℕ) (other : Variable) → index_of vs name ≡ Some inner → slice_get vs inner ≡ Some other
        → set vs inner (record { name = other.name; defined = other.defined; added = other.added ++ words }) ≡ with_added name words vs)
        → set (v ∷ vs) index (record { name = variable.name; defined = variable.defined; added = variable.added ++ words }) ≡ with_added name words (v ∷ vs)
    by true b found e has there rest =
        let first : Some 0 ≡ Some index = rw b at has in
        let same : index ≡ 0 = cc in
        let here : Some v ≡ Some variable = rw same at there in
        let is : variable ≡ v = cc in
        rw (same, b, is) refl
    by false b None e has there rest = let wrong : None ≡ Some index = rw (b, e) at has in absurd cc
    by false b (Some inner) e has there rest =
        let next : Some (suc inner) ≡ Some index = rw (b, e) at has in
        let same : index ≡ suc inner = cc in
        let here : slice_get vs inner ≡ Some variable = rw same at there in
        rw (same, b) (ap (◌∷◌ v) (rest inner variable e here))

-- `+=` on a variable that is there
pub after_append-at : (variables after : List Variable) (name : List ℕ) (words : List (List ℕ)) (index : ℕ) (variable : Variable) → index_of variables name ≡ Some index → slice_get variables index ≡ Some variable
    → after ≡ set variables index (record { name = variable.name; defined = variable.defined; added = variable.added ++ words }) → after_append variables name words ≡ Ok after
after_append-at variables after name words index variable has there e =
    rw (is_defined-at variables name index has) (ap Ok (sym (with_added-at variables name words index variable has there) ∙ sym e))

-- names keep their indexes
index-set : (variables : List Variable) (index : ℕ) (variable other : Variable) → slice_get variables index ≡ Some variable → other.name ≡ variable.name
    → (name : List ℕ) → index_of (set variables index other) name ≡ index_of variables name
index-set [] index variable other there same name = refl
index-set (v ∷ vs) zero variable other there same name =
    let here : Some v ≡ Some variable = there in
    let is : variable ≡ v = cc in
    rw (same, is) refl
index-set (v ∷ vs) (suc index) variable other there same name =
    ap (λ found. if bytes_eq name v.name then Some 0 else option_map suc found) (index-set vs index variable other there same name)

pub placed-set : {A : Type 0} (variables : List Variable) (places : List (Vec ℕ A × ℕ)) (index : ℕ) (variable other : Variable) → slice_get variables index ≡ Some variable → other.name ≡ variable.name
    → ArePlaced variables places → ArePlaced (set variables index other) places
placed-set variables places index variable other there same placed name = placed name ∙ sym (index-set variables index variable other there same name)

-- a name's index where one more variable comes
index-push : (variables : List Variable) (more : Variable) (name : List ℕ) → index_of variables more.name ≡ None
    → index_of (variables ++ more ∷ []) name ≡ cond (bytes_eq more.name name) (Some (length variables)) (index_of variables name)
index-push [] more name none = by (bytes_eq name more.name) refl (bytes_eq more.name name) refl
  where
    by : (b : Bool) → bytes_eq name more.name ≡ b → (d : Bool) → bytes_eq more.name name ≡ d → index_of (more ∷ []) name ≡ cond (bytes_eq more.name name) (Some 0) None
    by true b true d = rw (b, d) refl
    by true b false d = let wrong : bytes_eq name more.name ≡ false = names-apart more.name name d in let clash : true ≡ false = sym b ∙ wrong in absurd cc
    by false b true d = let wrong : bytes_eq more.name name ≡ false = names-apart name more.name b in let clash : true ≡ false = sym d ∙ wrong in absurd cc
    by false b false d = rw (b, d) refl
index-push (v ∷ vs) more name none = by (bytes_eq more.name v.name) refl none (index-push vs more name)
  where
    by : (c : Bool) → bytes_eq more.name v.name ≡ c → index_of (v ∷ vs) more.name ≡ None
        → (index_of vs more.name ≡ None → index_of (vs ++ more ∷ []) name ≡ cond (bytes_eq more.name name) (Some (length vs)) (index_of vs name))
        → index_of (v ∷ vs ++ more ∷ []) name ≡ cond (bytes_eq more.name name) (Some (suc (length vs))) (index_of (v ∷ vs) name)
    by true c none rest = let wrong : Some 0 ≡ None = rw c at none in absurd cc
    by false c none rest = two (bytes_eq name v.name) refl (bytes_eq more.name name) refl (rest (no (index_of vs more.name) refl (rw c at none)))
      where
        no : (found : Option ℕ) → index_of vs more.name ≡ found → option_map suc (index_of vs more.name) ≡ None → index_of vs more.name ≡ None
        no None e h = e
        no (Some inner) e h = let wrong : Some (suc inner) ≡ None = rw e at h in absurd cc

        two : (b : Bool) → bytes_eq name v.name ≡ b → (d : Bool) → bytes_eq more.name name ≡ d → index_of (vs ++ more ∷ []) name ≡ cond (bytes_eq more.name name) (Some (length vs)) (index_of vs name)
            → index_of (v ∷ vs ++ more ∷ []) name ≡ cond (bytes_eq more.name name) (Some (suc (length vs))) (index_of (v ∷ vs) name)
        two true b true d behind =
            let same : more.name ≡ name = (bytes_eq-Decides more.name name).0 d in
            let clash : true ≡ false = sym b ∙ ap (λ n. bytes_eq n v.name) (sym same) ∙ c in
            absurd cc
        two true b false d behind = rw (b, d) refl
        two false b true d behind = let later : index_of (vs ++ more ∷ []) name ≡ Some (length vs) = behind ∙ rw d refl in rw (b, d, later) refl
        two false b false d behind = let later : index_of (vs ++ more ∷ []) name ≡ index_of vs name = behind ∙ rw d refl in rw (b, d, later) refl

-- a key is compared by its bytes
abbrev by_bytes : {A : Type 0} → Vec ℕ A → Vec ℕ A → Ordering
by_bytes key other = slice_cmp nat_cmp key.items other.items

-- what a map has for each name once a key came that it hadn't
place-inserted : {A : Type 0} (places : List (Vec ℕ A × ℕ)) (key : Vec ℕ A) (place : ℕ) → place_of key.items places ≡ None
    → (name : List ℕ) → place_of name (insert_entry by_bytes places key place) ≡ cond (bytes_eq key.items name) (Some place) (place_of name places)
place-inserted [] key place none name = one (bytes_eq key.items name) refl (bytes_eq name key.items) refl
  where
    one : (d : Bool) → bytes_eq key.items name ≡ d → (b : Bool) → bytes_eq name key.items ≡ b
        → cond (is_eq (slice_cmp nat_cmp name key.items)) (Some place) None ≡ cond (bytes_eq key.items name) (Some place) None
    one true d true b = rw (is_eq-slice_cmp name key.items, b, d) refl
    one true d false b = let wrong : bytes_eq key.items name ≡ false = names-apart name key.items b in let clash : true ≡ false = sym d ∙ wrong in absurd cc
    one false d true b = let wrong : bytes_eq name key.items ≡ false = names-apart key.items name d in let clash : true ≡ false = sym b ∙ wrong in absurd cc
    one false d false b = rw (is_eq-slice_cmp name key.items, b, d) refl
place-inserted {A} (entry ∷ entries) key place none name = by (by_bytes key entry.0) refl none (place-inserted entries key place)
  where
    own : cond (is_eq (slice_cmp nat_cmp name key.items)) (Some place) (place_of name (entry ∷ entries)) ≡ cond (bytes_eq key.items name) (Some place) (place_of name (entry ∷ entries))
    own = one (bytes_eq key.items name) refl (bytes_eq name key.items) refl
      where
        one : (d : Bool) → bytes_eq key.items name ≡ d → (b : Bool) → bytes_eq name key.items ≡ b
            → cond (is_eq (slice_cmp nat_cmp name key.items)) (Some place) (place_of name (entry ∷ entries)) ≡ cond (bytes_eq key.items name) (Some place) (place_of name (entry ∷ entries))
        one true d true b = rw (is_eq-slice_cmp name key.items, b, d) refl
        one true d false b = let wrong : bytes_eq key.items name ≡ false = names-apart name key.items b in let clash : true ≡ false = sym d ∙ wrong in absurd cc
        one false d true b = let wrong : bytes_eq name key.items ≡ false = names-apart key.items name d in let clash : true ≡ false = sym b ∙ wrong in absurd cc
        one false d false b = rw (is_eq-slice_cmp name key.items, b, d) refl

    by : (order : Ordering) → by_bytes key entry.0 ≡ order → place_of key.items (entry ∷ entries) ≡ None
        → (place_of key.items entries ≡ None → (name : List ℕ) → place_of name (insert_entry by_bytes entries key place) ≡ cond (bytes_eq key.items name) (Some place) (place_of name entries))
        → place_of name (match_ordering (by_bytes key entry.0) ((key, place) ∷ entry ∷ entries) ((entry.0, place) ∷ entries) (entry ∷ insert_entry by_bytes entries key place))
        ≡ cond (bytes_eq key.items name) (Some place) (place_of name (entry ∷ entries))
    by Less o none rest = rw o own
    by Equal o none rest = let wrong : Some entry.1 ≡ None = rw o at none in absurd cc
    by Greater o none rest = rw o (behind (bytes_eq name entry.0.items) refl (bytes_eq key.items name) refl (rest (rw o at none) name))
      where
        behind : (b : Bool) → bytes_eq name entry.0.items ≡ b → (d : Bool) → bytes_eq key.items name ≡ d
            → place_of name (insert_entry by_bytes entries key place) ≡ cond (bytes_eq key.items name) (Some place) (place_of name entries)
            → cond (is_eq (slice_cmp nat_cmp name entry.0.items)) (Some entry.1) (place_of name (insert_entry by_bytes entries key place))
            ≡ cond (bytes_eq key.items name) (Some place) (cond (is_eq (slice_cmp nat_cmp name entry.0.items)) (Some entry.1) (place_of name entries))
        behind true b true d later =
            let same : key.items ≡ name = (bytes_eq-Decides key.items name).0 d in
            let equal : is_eq (by_bytes key entry.0) ≡ true = is_eq-slice_cmp key.items entry.0.items ∙ ap (λ n. bytes_eq n entry.0.items) same ∙ b in
            let clash : false ≡ true = rw o at equal in
            absurd cc
        behind true b false d later = rw (is_eq-slice_cmp name entry.0.items, b, d) refl
        behind false b true d later = rw (is_eq-slice_cmp name entry.0.items, b, d) (later ∙ rw d refl)
        behind false b false d later = rw (is_eq-slice_cmp name entry.0.items, b, d) (later ∙ rw d refl)

-- a variable comes whose name isn't there
pub placed-push : {A : Type 0} (variables : List Variable) (places after : List (Vec ℕ A × ℕ)) (key : Vec ℕ A) (place : ℕ) (more : Variable) → ArePlaced variables places → more.name ≡ key.items
    → index_of variables more.name ≡ None → place ≡ length variables → after ≡ insert_entry by_bytes places key place → ArePlaced (variables ++ more ∷ []) after
placed-push variables places after key place more placed own none at e name =
    ap (place_of name) e
    ∙ place-inserted places key place (placed key.items ∙ ap (index_of variables) (sym own) ∙ none) name
    ∙ rw (placed name, at, ← own) (sym (index-push variables more name none))

-- a name that no variable has has no index
pub index-from_none : (variables : List Variable) (name : List ℕ) → named name variables ≡ None → index_of variables name ≡ None
index-from_none variables name none = by (index_of variables name) refl
  where
    by : (found : Option ℕ) → index_of variables name ≡ found → index_of variables name ≡ None
    by None e = e
    by (Some index) e = let there = (named-at variables name index e).2 in let wrong : None ≡ Some (named-at variables name index e).0 = sym none ∙ there in absurd cc

-- a variable that isn't there is put last
pub after_define-new : (variables : List Variable) (name : List ℕ) (words : List (List ℕ)) → named name variables ≡ None
    → after_define variables name words ≡ Ok (variables ++ record { name = name; defined = words; added = [] } ∷ [])
after_define-new variables name words h = rw (h, after_define) refl

-- The variable that comes last in the map comes last among the variables.
pub as_variables-push : {A : Type 0} (entries : List (Vec ℕ A × Values)) (name : Vec ℕ A) (values : Values)
    → as_variables (entries ++ (name, values) ∷ []) ≡ as_variables entries ++ as_variable (name, values) ∷ []
as_variables-push [] name values = refl
as_variables-push (e ∷ es) name values = ap (◌∷◌ (as_variable e)) (as_variables-push es name values)

-- texts of which some are left, where none are left of the others
pub same_texts-short : {X : Type 0} (f : X → List ℕ) (texts : List X) (at : ℕ) (others : List (List ℕ))
    → at < length texts → length others < 1 → false ≡ same_texts (map f (drop at texts)) others
same_texts-short f [] at others within short = absurd (omega arith)
same_texts-short f (t ∷ ts) zero [] within short = refl
same_texts-short f (t ∷ ts) zero (o ∷ os) within short = absurd (omega arith)
same_texts-short f (t ∷ ts) (suc at) others within short = same_texts-short f ts at others (omega arith) short

-- one place further on in a list that is longer by one
pub shifted : (at len : ℕ) → cond (nat_lt (1 + at) (suc len)) (Some (1 + at)) None ≡ option_map suc (cond (nat_lt at len) (Some at) None)
shifted at len = by (nat_lt at len) refl
  where
    by : (within : Bool) → nat_lt at len ≡ within → cond (nat_lt (1 + at) (suc len)) (Some (1 + at)) None ≡ option_map suc (cond (nat_lt at len) (Some at) None)
    by true w = let next : nat_lt (1 + at) (suc len) ≡ true = grind (arith, nat_tests) in let one : 1 + at ≡ suc at = omega arith in rw (w, next, one) refl
    by false w = let next : nat_lt (1 + at) (suc len) ≡ false = grind (arith, nat_tests) in rw (w, next) refl
