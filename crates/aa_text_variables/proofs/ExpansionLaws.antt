-- What the expansions of texts are.
use Rattle.std.proofs.Common.{◌≡◌, ℕ, Bool, true, false, ◌&&◌, ◌==◌, List, [], ◌∷◌, ◌++◌, ◌+◌, ◌*◌, ◌≤◌, zero, suc, length, map, arith, length-append, refl, sym, ap, ◌∙◌}
use Rattle.std.specs.Prelude.{None, Some, flat_map}
use Rattle.std.specs.List.{list_all, list_any}
use Rattle.std.specs.Str.{bytes_eq}
use Rattle.std.proofs.lemmas.Bool.{or_parts, or_right}
use Rattle.std.proofs.lemmas.List.{length-map}
use Rattle.std.proofs.lemmas.Slice.Eq.{bytes_eq-Decides}
use Rattle.aa_bytes.specs.Bytes.{backslash, closing_brace, opening_brace, at_sign}
use Rattle.aa_text_expansion.specs.Choices.{choice_count, choices}
use Rattle.aa_text_expansion.specs.Parts.{Part, Byte, Name, Unclosed, parts, parts_behind}
use Rattle.aa_text_variables.specs.Variables.{Variable, named}
use Rattle.aa_text_variables.specs.Expansions.{expansions, has_chain, is_cyclic, values, values_within, words_behind_parts, words_named, words_of}
use Rattle.aa_text_variables.specs.ExpansionLaws.{is_byte, is_name}
use Rattle.aa_text_variables.proofs.IndexLemmas.{values_within-no_words}
use Rattle.aa_text_variables.proofs.TestLemmas.{any-neither_left, any-neither_right}

-- ---- a text that names nothing

-- a name that was opened is no byte, whether it is closed or not
name-no_byte : (name text : List ℕ) → list_all is_byte (parts_behind (Some name) text) ≡ true → true ≡ false
name-no_byte name [] h = sym h
name-no_byte name (b ∷ bs) h = by (b == closing_brace) refl (name-no_byte (name ++ b ∷ []) bs)
  where
    by : (t : Bool) → (b == closing_brace) ≡ t → (list_all is_byte (parts_behind (Some (name ++ b ∷ [])) bs) ≡ true → true ≡ false) → true ≡ false
    by true e rest = let there : false ≡ true = rw e at h in sym there
    by false e rest = rest (rw e at h)

-- the one choice for bytes alone is their text
pub choices-plain : (values : List ℕ → List (List ℕ)) (text : List ℕ) → list_all is_byte (parts_behind None text) ≡ true
    → choices values (parts_behind None text) ≡ text ∷ []
choices-plain values [] h = refl
choices-plain values (b ∷ []) h = refl
choices-plain values (b ∷ c ∷ bs) h = by (b == at_sign && c == opening_brace) refl (b == backslash) refl (choices-plain values bs) (choices-plain values (c ∷ bs))
  where
    by : (name : Bool) → (b == at_sign && c == opening_brace) ≡ name → (slash : Bool) → (b == backslash) ≡ slash
        → (list_all is_byte (parts_behind None bs) ≡ true → choices values (parts_behind None bs) ≡ bs ∷ [])
        → (list_all is_byte (parts_behind None (c ∷ bs)) ≡ true → choices values (parts_behind None (c ∷ bs)) ≡ (c ∷ bs) ∷ [])
        → choices values (parts_behind None (b ∷ c ∷ bs)) ≡ (b ∷ c ∷ bs) ∷ []
    by true e slash f two one = let wrong : true ≡ false = name-no_byte [] bs (rw e at h) in absurd cc
    by false e true f two one = rw (e, f) (ap (λ rests. map (λ rest. b ∷ rest) (map (λ rest. c ∷ rest) rests)) (two (rw (e, f) at h)))
    by false e false f two one = rw (e, f) (ap (map (λ rest. b ∷ rest)) (one (rw (e, f) at h)))

-- ---- how many there are

-- lists of one length, one behind the other
length-flat_map_same : {X Y : Type 0} (f : X → List Y) (size : ℕ) → ((x : X) → length (f x) ≡ size) → (xs : List X) → length (flat_map f xs) ≡ length xs * size
length-flat_map_same f size h [] = omega arith
length-flat_map_same f size h (x ∷ xs) =
    let both : length (f x ++ flat_map f xs) ≡ length (f x) + length (flat_map f xs) = length-append (f x) (flat_map f xs) in
    let first : length (f x) ≡ size = h x in
    let rest : length (flat_map f xs) ≡ length xs * size = length-flat_map_same f size h xs in
    omega arith

-- there are as many choices as are counted
pub choices-count : (values : List ℕ → List (List ℕ)) (ps : List Part) → length (choices values ps) ≡ choice_count (λ name. length (values name)) ps
choices-count values [] = refl
choices-count values (Byte b ∷ ps) = length-map (choices values ps) (λ rest. b ∷ rest) ∙ choices-count values ps
choices-count values (Name name ∷ ps) =
    length-flat_map_same (λ value. map (λ rest. value ++ rest) (choices values ps)) (choice_count (λ name. length (values name)) ps)
    (λ value. length-map (choices values ps) (λ rest. value ++ rest) ∙ choices-count values ps) (values name)
choices-count values (Unclosed ∷ ps) = refl

-- ---- what they depend on

-- a text is the same as itself
same-text : (text : List ℕ) → bytes_eq text text ≡ true
same-text text = (bytes_eq-Decides text text).1 refl

-- where two ways to give values agree on the names of parts, so do the choices
pub choices-agree : (f g : List ℕ → List (List ℕ)) (ps : List Part) → ((name : List ℕ) → list_any (is_name name) ps ≡ true → f name ≡ g name) → choices f ps ≡ choices g ps
choices-agree f g [] h = refl
choices-agree f g (Byte b ∷ ps) h = ap (map (λ rest. b ∷ rest)) (choices-agree f g ps h)
choices-agree f g (Name name ∷ ps) h =
    let here : f name ≡ g name = h name (rw (same-text name) refl) in
    let rest : choices f ps ≡ choices g ps = choices-agree f g ps (λ other named. h other (or_right (bytes_eq other name) (list_any (is_name other) ps) named)) in
    ap (λ values. flat_map (λ value. map (λ rest. value ++ rest) (choices f ps)) values) here
    ∙ ap (λ rests. flat_map (λ value. map (λ rest. value ++ rest) rests) (g name)) rest
choices-agree f g (Unclosed ∷ ps) h = refl

-- ---- the values of variables

-- the lists that two functions give to those that fail a test
flat_map-agree : {X Y : Type 0} (test : X → Bool) (f g : X → List Y) → ((x : X) → test x ≡ false → f x ≡ g x) → (xs : List X) → list_any test xs ≡ false → flat_map f xs ≡ flat_map g xs
flat_map-agree test f g h [] none = refl
flat_map-agree test f g h (x ∷ xs) none =
    let here : f x ≡ g x = h x (or_parts (test x) (list_any test xs) none).0 in
    let rest : flat_map f xs ≡ flat_map g xs = flat_map-agree test f g h xs (any-neither_right test (x ∷ []) xs none) in
    cc

-- where no word behind parts passes a test, no word of a name among them does
pub words-of_named : (variables : List Variable) (test : List ℕ → Bool) (ps : List Part) (name : List ℕ) → list_any test (words_behind_parts variables ps) ≡ false
    → list_any (is_name name) ps ≡ true → list_any test (words_named variables name) ≡ false
words-of_named variables test [] name h k = absurd cc
words-of_named variables test (Byte b ∷ ps) name h k = words-of_named variables test ps name h k
words-of_named variables test (Name other ∷ ps) name h k =
    by (bytes_eq name other) refl (words-of_named variables test ps name (any-neither_right test (words_named variables other) (words_behind_parts variables ps) h))
  where
    by : (b : Bool) → bytes_eq name other ≡ b → (list_any (is_name name) ps ≡ true → list_any test (words_named variables name) ≡ false)
        → list_any test (words_named variables name) ≡ false
    by true e rest =
        let same : name ≡ other = (bytes_eq-Decides name other).0 e in
        ap (λ n. list_any test (words_named variables n)) same ∙ any-neither_left test (words_named variables other) (words_behind_parts variables ps) h
    by false e rest = rest (rw e at k)
words-of_named variables test (Unclosed ∷ ps) name h k = words-of_named variables test ps name h k

-- where each text passes a test and none does, there is none
pub all-none : {X : Type 0} (xs : List X) → list_any (λ x. true) xs ≡ false → xs ≡ []
all-none [] h = refl
all-none (x ∷ xs) h = absurd cc

-- the values of a name that leads over few variables, as they are over so many at most, or over more
pub values-at_any_depth : (variables : List Variable) (size : ℕ) (name : List ℕ) → list_any (has_chain variables size) (words_named variables name) ≡ false
    → (depth deeper : ℕ) → size ≤ depth → size ≤ deeper → values_within variables depth name ≡ values_within variables deeper name
values-at_any_depth variables zero name h depth deeper k l =
    let none : words_named variables name ≡ [] = all-none (words_named variables name) h in
    values_within-no_words variables depth name none ∙ sym (values_within-no_words variables deeper name none)
values-at_any_depth variables (suc size) name h zero deeper k l = absurd (omega arith)
values-at_any_depth variables (suc size) name h (suc depth) zero k l = absurd (omega arith)
values-at_any_depth variables (suc size) name h (suc depth) (suc deeper) k l =
    let below : size ≤ depth = omega arith in
    let deeper_below : size ≤ deeper = omega arith in
    flat_map-agree (has_chain variables (suc size)) (λ word. choices (values_within variables depth) (parts word)) (λ word. choices (values_within variables deeper) (parts word))
    (λ word short. choices-agree (values_within variables depth) (values_within variables deeper) (parts word)
    (λ other named. values-at_any_depth variables size other (words-of_named variables (has_chain variables size) (parts word) other short named) depth deeper below deeper_below))
    (words_named variables name) h

-- the values of a variable that does not lead to itself
pub values-of_variable : (variables : List Variable) (name : List ℕ) (variable : Variable) → named name variables ≡ Some variable → is_cyclic variables variable ≡ false
    → values variables name ≡ flat_map (expansions variables) (words_of variable)
values-of_variable variables name variable h k =
    let words : words_named variables name ≡ words_of variable = rw (h, words_named) refl in
    let short : list_any (has_chain variables (length variables)) (words_named variables name) ≡ false = ap (list_any (has_chain variables (length variables))) words ∙ k in
    values-at_any_depth variables (length variables) name short (length variables) (suc (length variables)) (omega arith) (omega arith)
    ∙ ap (flat_map (expansions variables)) words
