-- Lists of numbers as keys of a map in the order in which they were put in, and one more.
use Rattle.std.proofs.Common.{◌≡◌, ◌≢◌, ℕ, ◌<◌, Bool, true, false, true≢false, cond, List, [], ◌∷◌, ◌++◌, length, Option, None, Some, refl, sym, ◌∙◌, ap, inl, inr, arith, length-append}
use Rattle.std.proofs.lemmas.List.{get_or_default, map-append}
use Rattle.std.proofs.lemmas.List.Elements.{All-cons, All-map, All-nil}
use Rattle.std.proofs.lemmas.Slice.Eq.{bytes_eq-Decides}
use Rattle.std.specs.Prelude.{All, Contains, Vec}
use Rattle.std.specs.Cmp.Lexicographic.{same_text}
use Rattle.std.specs.Str.{bytes_eq}
use Rattle.std.specs.Map.{lookup}
use Rattle.std.specs.Option.{is_some}
use Rattle.aa_glob_nfa.proofs.ListLemmas.{Contains-first, Contains-later, Contains-map}
use Rattle.aa_glob_paths.specs.Found.{FoundSet, no_set, set_at}
use Rattle.aa_glob_paths.specs.code.Closing.{HasPlaced}
use Rattle.aa_glob_paths.specs.code.Views.{all_found, found_of}
use Rattle.aa_glob_paths.specs.declared.origin.Origin.{Origin}
use Rattle.aa_glob_paths.proofs.FoundLemmas.{at-last}

-- what is kept under a list of numbers
module _ {A V : Type 0} where
  abbrev pub kept_at : List ℕ → List (Vec ℕ A × V) → Option V
  kept_at key entries = lookup (λ other. bytes_eq key other.items) entries

  -- a list under which something is kept is a key
  pub key-kept : (key : List ℕ) (entries : List (Vec ℕ A × V)) → is_some (kept_at key entries) ≡ true
      → (entry : Vec ℕ A × V) × Contains entries entry × (entry.0.items ≡ key)
  key-kept key [] is = absurd (cc)
  key-kept key (entry ∷ entries) is = by (bytes_eq key entry.0.items) refl (key-kept key entries)
    where
      by : (same : Bool) → bytes_eq key entry.0.items ≡ same
          → (is_some (kept_at key entries) ≡ true → (found : Vec ℕ A × V) × Contains entries found × (found.0.items ≡ key))
          → (found : Vec ℕ A × V) × Contains (entry ∷ entries) found × (found.0.items ≡ key)
      by true same rest = (entry, Contains-first entry entries, sym (same_text key entry.0.items (sym same)))
      by false other rest_of =
          let rest = rest_of (sym (ap (λ b. is_some (cond b (Some entry.1) (kept_at key entries))) other) ∙ is) in
          (rest.0, Contains-later entry entries rest.0 rest.1, rest.2)

  -- one under which nothing is kept differs from all keys
  pub none-kept : (key : List ℕ) (entries : List (Vec ℕ A × V)) → is_some (kept_at key entries) ≡ false → All (λ entry. entry.0.items ≢ key) entries
  none-kept key [] none = All-nil (λ (entry : Vec ℕ A × V). entry.0.items ≢ key)
  none-kept key (entry ∷ entries) none = by (bytes_eq key entry.0.items) refl (none-kept key entries)
    where
      by : (same : Bool) → bytes_eq key entry.0.items ≡ same → (is_some (kept_at key entries) ≡ false → All (λ e. e.0.items ≢ key) entries)
          → All (λ e. e.0.items ≢ key) (entry ∷ entries)
      by true same rest = absurd (let yes = ap (λ b. is_some (cond b (Some entry.1) (kept_at key entries))) same in let wrong = sym yes ∙ none in cc)
      by false other rest = All-cons (λ (e : Vec ℕ A × V). e.0.items ≢ key) entry entries
          (λ is. true≢false (sym ((bytes_eq-Decides key entry.0.items).1 (sym is)) ∙ other))
          (rest (sym (ap (λ b. is_some (cond b (Some entry.1) (kept_at key entries))) other) ∙ none))

module _ {A : Type 0} where
  -- a set that is kept has a number
  number-kept : (set : List ℕ) (entries : List (Vec ℕ A × Origin)) → is_some (kept_at set entries) ≡ true
      → (n : ℕ) × (n < length (all_found entries)) × (set_at (all_found entries) n ≡ set)
  number-kept set entries is =
      let kept = key-kept set entries is in
      let at = Contains-map found_of entries kept.0 kept.1 in
      (at.0, at.1, ap (λ (f : FoundSet). f.set) (get_or_default (all_found entries) at.0 no_set (found_of kept.0) at.1 ∙ at.2) ∙ kept.2)

  pub placed-kept : (entries : List (Vec ℕ A × Origin)) (one : FoundSet) → is_some (kept_at one.set entries) ≡ true → HasPlaced (all_found entries) (all_found entries) one
  placed-kept entries one is =
      let at = number-kept one.set entries is in
      record { number = at.0; within = at.1; there = at.2; only = inl refl }

  pub placed-new : (entries more : List (Vec ℕ A × Origin)) (key : Vec ℕ A) (origin : Origin) → is_some (kept_at key.items entries) ≡ false → more ≡ entries ++ (key, origin) ∷ []
      → HasPlaced (all_found entries) (all_found more) (record { set = key.items; origin = origin })
  placed-new entries more key origin none is =
      let one : FoundSet = record { set = key.items; origin = origin } in
      let longer : all_found more ≡ all_found entries ++ one ∷ [] = ap all_found is ∙ map-append found_of entries ((key, origin) ∷ []) in
      record {
        number = length (all_found entries);
        within = omega (arith, ap length longer, length-append (all_found entries) (one ∷ []));
        there = ap (λ l. set_at l (length (all_found entries))) longer ∙ ap (λ (f : FoundSet). f.set) (at-last (all_found entries) one);
        only = inr (longer, All-map (λ (f : FoundSet). f.set ≢ key.items) found_of entries (none-kept key.items entries none));
      }

pub not_some : {V : Type 0} (kept : Option V) → is_some kept ≡ false → kept ≡ None
not_some None h = refl
not_some (Some value) h = absurd (cc)
