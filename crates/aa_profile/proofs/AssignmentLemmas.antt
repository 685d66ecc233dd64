-- What a file's assignments define, and what its names lead to.
use Rattle.std.proofs.Common.{◌≡◌, ℕ, Bool, true, false, List, [], ◌∷◌, ◌++◌, map, Option, None, Some, Result, Ok, Err, refl, sym, ap, ◌∙◌, ◌<◌, length, append_assoc, arith, inl, inr}
use Rattle.std.specs.Prelude.{find, nat_lt, position, slice_get}
use Rattle.std.specs.List.{flat_map, list_any, position_or_len}
use Rattle.std.specs.Option.{option_map}
use Rattle.std.specs.Str.{bytes_eq}
use Rattle.std.proofs.lemmas.Bool.{or_parts}
use Rattle.std.proofs.lemmas.Bool.Decides.{nat_tests}
use Rattle.std.proofs.lemmas.List.{map-append}
use Rattle.std.proofs.lemmas.List.Concat.{flat_map-append}
use Rattle.std.proofs.lemmas.List.Folds.{find_at}
use Rattle.std.proofs.lemmas.Option.{slice_get_cases, slice_get_past}
use Rattle.aa_text_variables.specs.Expansions.{expansion_refusal, is_cyclic, leads_to_cycle, leads_to_undefined, words_of}
use Rattle.aa_text_tokens.specs.Splicing.{Placed}
use Rattle.aa_text_variables.specs.Variables.{Variable, after_append, after_define, is_defined, named, names_undefined, same_texts, with_added}
use Rattle.aa_text_files.specs.declared.text_error.Place.{Place}
use Rattle.aa_text_files.specs.declared.text_error.TextRefusal.{TextRefusal}
use Rattle.aa_text_files.specs.declared.text_error.TextRefusal.TheVariants.{Cycle, Undefined}
use Rattle.aa_profile.specs.Assignments.{all_assigned, assigned, cycle, first_of, first_undefined, naming, undefined_name}
use Rattle.aa_profile.specs.code.FileReadingProgress.{first_undefined_value}
use Rattle.aa_profile_grammar.specs.Patterns.{have_expansions}
use Rattle.aa_profile_grammar.specs.Preamble.{Assignment}
use Rattle.aa_profile_parsing.specs.Tokens.{place_of, text_of}
use Rattle.aa_profile_parsing.specs.ProfileError.{placed}
use Rattle.aa_profile_parsing.specs.declared.profile_error.ProfileRefusal.TheVariants.{Text}

-- what is found in some tokens is found in them and others
pub find-front : {X : Type 0} (p : X → Bool) (xs ys : List X) (x : X) → find p xs ≡ Some x → find p (xs ++ ys) ≡ Some x
find-front p [] ys x h = absurd (cc)
find-front p (y ∷ xs) ys x h = by (p y) refl h (find-front p xs ys x)
  where
    by : (b : Bool) → p y ≡ b → find p (y ∷ xs) ≡ Some x → (find p xs ≡ Some x → find p (xs ++ ys) ≡ Some x) → find p (y ∷ xs ++ ys) ≡ Some x
    by true b h rest = let there : Some y ≡ Some x = rw b at h in rw b there
    by false b h rest = let there : find p xs ≡ Some x = rw b at h in rw b (rest there)

-- where nothing is found in some, the others decide
pub find-behind : {X : Type 0} (p : X → Bool) (xs ys : List X) → find p xs ≡ None → find p (xs ++ ys) ≡ find p ys
find-behind p [] ys h = refl
find-behind p (y ∷ xs) ys h = by (p y) refl h (find-behind p xs ys)
  where
    by : (b : Bool) → p y ≡ b → find p (y ∷ xs) ≡ None → (find p xs ≡ None → find p (xs ++ ys) ≡ find p ys) → find p (y ∷ xs ++ ys) ≡ find p ys
    by true b h rest = let there : Some y ≡ None = rw b at h in absurd (cc)
    by false b h rest = let there : find p xs ≡ None = rw b at h in rw b (rest there)

-- the first value that names a variable that isn't defined comes before the patterns
pub first_undefined-value : (variables : List Variable) (assignments : List Assignment) (patterns : List Placed) (place : Place)
    → first_undefined_value variables assignments ≡ Some place
    → option_map place_of (first_undefined variables (flat_map (λ assignment. assignment.values) assignments ++ patterns)) ≡ Some place
first_undefined-value variables [] patterns place h = absurd (cc)
first_undefined-value variables (assignment ∷ assignments) patterns place h =
    by (first_undefined variables assignment.values) refl (first_undefined-value variables assignments patterns place)
  where
    others : List Placed
    others = flat_map (λ assignment. assignment.values) assignments

    test : Placed → Bool
    test token = names_undefined variables (text_of token)

    by : (found : Option Placed) → first_undefined variables assignment.values ≡ found
        → (first_undefined_value variables assignments ≡ Some place → option_map place_of (first_undefined variables (others ++ patterns)) ≡ Some place)
        → option_map place_of (first_undefined variables ((assignment.values ++ others) ++ patterns)) ≡ Some place
    by None e rest =
        let there : first_undefined_value variables assignments ≡ Some place = rw (e, first_undefined_value) at h in
        rw append_assoc (ap (option_map place_of) (find-behind test assignment.values (others ++ patterns) e) ∙ rest there)
    by (Some token) e rest =
        let there : Some (place_of token) ≡ Some place = rw (e, first_undefined_value) at h in
        rw append_assoc (ap (option_map place_of) (find-front test assignment.values (others ++ patterns) token e) ∙ there)

-- where no value does, the patterns decide
pub first_undefined-pattern : (variables : List Variable) (assignments : List Assignment) (patterns : List Placed)
    → first_undefined_value variables assignments ≡ None
    → first_undefined variables (flat_map (λ assignment. assignment.values) assignments ++ patterns) ≡ first_undefined variables patterns
first_undefined-pattern variables [] patterns h = refl
first_undefined-pattern variables (assignment ∷ assignments) patterns h =
    by (first_undefined variables assignment.values) refl (first_undefined-pattern variables assignments patterns)
  where
    others : List Placed
    others = flat_map (λ assignment. assignment.values) assignments

    test : Placed → Bool
    test token = names_undefined variables (text_of token)

    by : (found : Option Placed) → first_undefined variables assignment.values ≡ found
        → (first_undefined_value variables assignments ≡ None → first_undefined variables (others ++ patterns) ≡ first_undefined variables patterns)
        → first_undefined variables ((assignment.values ++ others) ++ patterns) ≡ first_undefined variables patterns
    by None e rest =
        let there : first_undefined_value variables assignments ≡ None = rw (e, first_undefined_value) at h in
        rw append_assoc (find-behind test assignment.values (others ++ patterns) e ∙ rest there)
    by (Some token) e rest = let there : Some (place_of token) ≡ None = rw (e, first_undefined_value) at h in absurd (cc)

-- nothing is found where nothing comes of it
none-of : {X Y : Type 0} (f : X → Y) (found : Option X) → option_map f found ≡ None → found ≡ None
none-of f None h = refl
none-of f (Some x) h = absurd (cc)

-- tests of texts that none of some, and none of others, passes
none-append : {X : Type 0} (p : X → Bool) (xs ys : List X) → list_any p xs ≡ false → list_any p ys ≡ false → list_any p (xs ++ ys) ≡ false
none-append p [] ys h k = k
none-append p (x ∷ xs) ys h k = let parts = or_parts (p x) (list_any p xs) h in rw (parts.0, none-append p xs ys parts.1 k) refl

none-front : {X : Type 0} (p : X → Bool) (xs ys : List X) → list_any p (xs ++ ys) ≡ false → list_any p xs ≡ false
none-front p [] ys h = refl
none-front p (x ∷ xs) ys h = let parts = or_parts (p x) (list_any p (xs ++ ys)) h in rw (parts.0, none-front p xs ys parts.1) refl

none-behind : {X : Type 0} (p : X → Bool) (xs ys : List X) → list_any p (xs ++ ys) ≡ false → list_any p ys ≡ false
none-behind p [] ys h = h
none-behind p (x ∷ xs) ys h = none-behind p xs ys (or_parts (p x) (list_any p (xs ++ ys)) h).1

module _ (test : List ℕ → Bool) where
  -- no word of the variables passes
  abbrev None-passes : List Variable → Type 0
  None-passes variables = list_any test (flat_map words_of variables) ≡ false

  with_added-none : (name : List ℕ) (words : List (List ℕ)) (variables : List Variable) → None-passes variables → list_any test words ≡ false → None-passes (with_added name words variables)
  with_added-none name words [] h k = h
  with_added-none name words (variable ∷ variables) h k =
      by (bytes_eq name variable.name) refl (with_added-none name words variables (none-behind test (words_of variable) (flat_map words_of variables) h) k)
    where
      front : list_any test (words_of variable) ≡ false
      front = none-front test (words_of variable) (flat_map words_of variables) h

      by : (b : Bool) → bytes_eq name variable.name ≡ b → None-passes (with_added name words variables) → None-passes (with_added name words (variable ∷ variables))
      by true b rest =
          rw b (none-append test (variable.defined ++ (variable.added ++ words)) (flat_map words_of variables)
          (none-append test variable.defined (variable.added ++ words) (none-front test variable.defined variable.added front)
          (none-append test variable.added words (none-behind test variable.defined variable.added front) k))
          (none-behind test (words_of variable) (flat_map words_of variables) h))
      by false b rest = rw b (none-append test (words_of variable) (flat_map words_of (with_added name words variables)) front rest)

  define-none : (variables next : List Variable) (name : List ℕ) (words : List (List ℕ)) → None-passes variables → list_any test words ≡ false
      → after_define variables name words ≡ Ok next → None-passes next
  define-none variables next name words h k done = by (named name variables) refl
    where
      by : (found : Option Variable) → named name variables ≡ found → None-passes next
      by None e =
          let there : Ok (variables ++ record { name = name; defined = words; added = [] } ∷ []) ≡ Ok next = rw (e, after_define) at done in
          let same : variables ++ record { name = name; defined = words; added = [] } ∷ [] ≡ next = cc in
          rw (← same, flat_map-append) (none-append test (flat_map words_of variables) ((words ++ []) ++ []) h (none-append test (words ++ []) [] (none-append test words [] k refl) refl))
      by (Some variable) e = kept (same_texts words variable.defined) refl
        where
          kept : (b : Bool) → same_texts words variable.defined ≡ b → None-passes next
          kept true b = let there : Ok variables ≡ Ok next = rw (e, b, after_define) at done in let same : variables ≡ next = cc in rw (← same) h
          kept false b = let there = rw (e, b, after_define) at done in absurd (cc)

  append-none : (variables next : List Variable) (name : List ℕ) (words : List (List ℕ)) → None-passes variables → list_any test words ≡ false
      → after_append variables name words ≡ Ok next → None-passes next
  append-none variables next name words h k done = by (is_defined name variables) refl
    where
      by : (b : Bool) → is_defined name variables ≡ b → None-passes next
      by true b =
          let there : Ok (with_added name words variables) ≡ Ok next = rw (b, after_append) at done in
          let same : with_added name words variables ≡ next = cc in
          rw (← same) (with_added-none name words variables h k)
      by false b = let there = rw (b, after_append) at done in absurd (cc)

  assigned-none : (variables next : List Variable) (assignment : Assignment) → None-passes variables → list_any test (map text_of assignment.values) ≡ false
      → assigned variables assignment ≡ Ok next → None-passes next
  assigned-none variables next assignment h k done = by assignment.append refl
    where
      by : (b : Bool) → assignment.append ≡ b → None-passes next
      by true b = append-none variables next (text_of assignment.sign) (map text_of assignment.values) h k (rw b at done)
      by false b = define-none variables next (text_of assignment.sign) (map text_of assignment.values) h k (rw b at done)

  all_assigned-none : (variables final : List Variable) (assignments : List Assignment) → None-passes variables
      → list_any test (map text_of (flat_map (λ assignment. assignment.values) assignments)) ≡ false
      → all_assigned variables assignments ≡ Ok final → None-passes final
  all_assigned-none variables final [] h k done = let same : variables ≡ final = cc in rw (← same) h
  all_assigned-none variables final (assignment ∷ assignments) h k done = by (assigned variables assignment) refl (λ next. all_assigned-none next final assignments)
    where
      others : List Placed
      others = flat_map (λ assignment. assignment.values) assignments

      split : list_any test (map text_of assignment.values ++ map text_of others) ≡ false
      split = rw map-append at k

      by : (r : Result (List Variable) TextRefusal) → assigned variables assignment ≡ r
          → ((next : List Variable) → None-passes next → list_any test (map text_of others) ≡ false → all_assigned next assignments ≡ Ok final → None-passes final)
          → None-passes final
      by (Err refusal) e more = let there = rw (e, all_assigned) at done in absurd (cc)
      by (Ok next) e more =
          let there : all_assigned next assignments ≡ Ok final = rw (e, all_assigned) at done in
          more next (assigned-none variables next assignment h (none-front test (map text_of assignment.values) (map text_of others) split) e)
          (none-behind test (map text_of assignment.values) (map text_of others) split) there

-- where no token is found none passes
found-none : (variables : List Variable) (tokens : List Placed) → first_undefined variables tokens ≡ None → list_any (names_undefined variables) (map text_of tokens) ≡ false
found-none variables [] h = refl
found-none variables (token ∷ tokens) h = by (names_undefined variables (text_of token)) refl (found-none variables tokens)
  where
    by : (b : Bool) → names_undefined variables (text_of token) ≡ b → (first_undefined variables tokens ≡ None → list_any (names_undefined variables) (map text_of tokens) ≡ false)
        → list_any (names_undefined variables) (map text_of (token ∷ tokens)) ≡ false
    by true b rest = let there : Some token ≡ None = rw b at h in absurd (cc)
    by false b rest = let there : first_undefined variables tokens ≡ None = rw b at h in rw (b, rest there) refl

-- texts that name nothing undefined have expansions, where no word of a variable names anything undefined and none leads to itself
patterns-expand : (variables : List Variable) (patterns : List Placed)
    → ((text : List ℕ) → names_undefined variables text ≡ false → leads_to_undefined variables text ≡ false)
    → ((text : List ℕ) → leads_to_cycle variables text ≡ false)
    → list_any (names_undefined variables) (map text_of patterns) ≡ false → have_expansions variables patterns ≡ true
patterns-expand variables [] defined acyclic h = refl
patterns-expand variables (pattern ∷ patterns) defined acyclic h =
    let parts = or_parts (names_undefined variables (text_of pattern)) (list_any (names_undefined variables) (map text_of patterns)) h in
    let fine = defined (text_of pattern) parts.0 in
    let ends = acyclic (text_of pattern) in
    let one : expansion_refusal variables (text_of pattern) ≡ None = rw (fine, ends) refl in
    rw (one, patterns-expand variables patterns defined acyclic parts.1) refl

-- The patterns of a file have expansions, where its names are defined and no variable leads to itself.
pub file-expands : (variables : List Variable) (assignments : List Assignment) (patterns : List Placed)
    → ((variables : List Variable) (text : List ℕ) → list_any (names_undefined variables) (flat_map words_of variables) ≡ false → names_undefined variables text ≡ false → leads_to_undefined variables text ≡ false)
    → ((variables : List Variable) (text : List ℕ) → find (is_cyclic variables) variables ≡ None → leads_to_cycle variables text ≡ false)
    → all_assigned [] assignments ≡ Ok variables → undefined_name variables assignments patterns ≡ None → cycle variables assignments ≡ None
    → have_expansions variables patterns ≡ true
file-expands variables assignments patterns defined acyclic assigned named ends =
    let values : List Placed = flat_map (λ assignment. assignment.values) assignments in
    let none = found-none variables (naming assignments patterns) (none-of (λ token. placed (Text Undefined) (place_of token)) (first_undefined variables (naming assignments patterns)) named) in
    let split : list_any (names_undefined variables) (map text_of values ++ map text_of patterns) ≡ false = rw map-append at none in
    let words = all_assigned-none (names_undefined variables) [] variables assignments refl (none-front (names_undefined variables) (map text_of values) (map text_of patterns) split) assigned in
    let no_cycle : find (is_cyclic variables) variables ≡ None = none-of (λ variable. record { refusal = Text Cycle; place = option_map (λ assignment. place_of assignment.sign) (first_of variable.name assignments) }) (find (is_cyclic variables) variables) ends in
    patterns-expand variables patterns (λ text. defined variables text words) (λ text. acyclic variables text no_cycle)
    (none-behind (names_undefined variables) (map text_of values) (map text_of patterns) split)

-- The place of the first variable that leads to itself, and the refusal.
position-find : {X : Type 0} (p : X → Bool) (xs : List X) (at : ℕ) → position p xs ≡ Some at → (find p xs ≡ slice_get xs at) × (at < length xs)
position-find p xs at h = by (nat_lt (position_or_len p xs) (length xs)) refl
  where
    by : (b : Bool) → nat_lt (position_or_len p xs) (length xs) ≡ b → (find p xs ≡ slice_get xs at) × (at < length xs)
    by true b =
        let there : Some (position_or_len p xs) ≡ Some at = rw b at h in
        let same : position_or_len p xs ≡ at = cc in
        (find_at p xs ∙ ap (slice_get xs) same, grind (arith, nat_tests))
    by false b = let there : None ≡ Some at = rw b at h in absurd (cc)

position-none : {X : Type 0} (p : X → Bool) (xs : List X) → position p xs ≡ None → find p xs ≡ None
position-none p xs h = by (nat_lt (position_or_len p xs) (length xs)) refl
  where
    by : (b : Bool) → nat_lt (position_or_len p xs) (length xs) ≡ b → find p xs ≡ None
    by true b = let there : Some (position_or_len p xs) ≡ None = rw b at h in absurd (cc)
    by false b = find_at p xs ∙ slice_get_past xs (position_or_len p xs) (grind (arith, nat_tests))

pub cycle-none : (variables : List Variable) (assignments : List Assignment) → position (is_cyclic variables) variables ≡ None → cycle variables assignments ≡ None
cycle-none variables assignments h = rw (position-none (is_cyclic variables) variables h) refl

pub cycle-named : (variables : List Variable) (assignments : List Assignment) (at : ℕ) (name : List ℕ) → position (is_cyclic variables) variables ≡ Some at
    → Some name ≡ option_map (λ variable. variable.name) (slice_get variables at)
    → cycle variables assignments ≡ Some (record { refusal = Text Cycle; place = option_map (λ assignment. place_of assignment.sign) (first_of name assignments) })
cycle-named variables assignments at name h named = by (slice_get variables at) refl
  where
    by : (found : Option Variable) → slice_get variables at ≡ found
        → cycle variables assignments ≡ Some (record { refusal = Text Cycle; place = option_map (λ assignment. place_of assignment.sign) (first_of name assignments) })
    by None e = let there : Some name ≡ None = rw e at named in absurd (cc)
    by (Some variable) e =
        let there : Some name ≡ Some variable.name = rw e at named in
        let same : name ≡ variable.name = cc in
        let first : find (is_cyclic variables) variables ≡ Some variable = (position-find (is_cyclic variables) variables at h).0 ∙ e in
        rw (first, same) refl

pub cycle-unnamed : {X : Type 0} (variables : List Variable) (at : ℕ) → position (is_cyclic variables) variables ≡ Some at
    → None ≡ option_map (λ variable. variable.name) (slice_get variables at) → X
cycle-unnamed {X = X} variables at h named = by (slice_get variables at) refl
  where
    by : (found : Option Variable) → slice_get variables at ≡ found → X
    by None e =
        let within = (position-find (is_cyclic variables) variables at h).1 in
        elim (slice_get_cases variables at).1 [
          | inl found ↦ let there : None ≡ Some found.0 = sym e ∙ found.2 in absurd (cc)
          | inr past ↦ let beyond = past.0 in absurd (omega arith)
        ]
    by (Some variable) e = let there : None ≡ Some variable.name = rw e at named in absurd (cc)
