-- What a map over vectors says of its keys, said of their bytes.
use Rattle.std.proofs.Common.{◌≡◌, ℕ, Bool, true, false, List, Option, Some, refl, sym, subst, ap, ◌∙◌}
use Rattle.std.specs.Prelude.{Vec, if◌then◌else◌}
use Rattle.std.specs.Map.{AreApart, IsKeyTest, KeepsOthers, lookup}
use Rattle.std.specs.Cmp.Lexicographic.{slice_cmp}
use Rattle.std.specs.Ordering.{is_eq, nat_cmp}
use Rattle.std.specs.Str.{bytes_eq}
use Rattle.std.proofs.Math.Path.{fun_ext}
use Rattle.std.proofs.lemmas.Map.Text.{is_eq-slice_cmp}
use Rattle.std.proofs.lemmas.Slice.Eq.{bytes_eq-Decides}

module _ {A : Type 0} where
  -- two vectors have the same bytes
  abbrev pub same_bytes : Vec ℕ A → Vec ℕ A → Bool
  same_bytes one two = bytes_eq one.items two.items

  -- the number that stands with a name in some entries
  abbrev pub number_in : List (Vec ℕ A × ℕ) → List ℕ → Option ℕ
  number_in entries name = lookup (λ other. bytes_eq name other.items) entries

  -- two vectors are alike in the order of their bytes
  abbrev pub alike : Vec ℕ A → Vec ℕ A → Bool
  alike one two = is_eq (slice_cmp nat_cmp one.items two.items)

  -- which is where they have the same bytes
  alike-same_bytes : alike ≡ same_bytes
  alike-same_bytes = fun_ext (λ one. fun_ext (λ two. is_eq-slice_cmp one.items two.items))

  -- a name is found by order where it is found by its bytes
  pub found-by-order : (entries : List (Vec ℕ A × ℕ)) (name : List ℕ) → lookup (λ (other : Vec ℕ A). is_eq (slice_cmp nat_cmp name other.items)) entries ≡ number_in entries name
  found-by-order entries name = ap (λ (test : Vec ℕ A → Bool). lookup test entries) (fun_ext (λ (other : Vec ℕ A). is_eq-slice_cmp name other.items))

  -- which vectors have the bytes of a name is a test of one key
  name-test : (name : List ℕ) → IsKeyTest same_bytes (λ (key : Vec ℕ A). bytes_eq name key.items)
  name-test name one two h = ap (λ text. bytes_eq text two.items) ((bytes_eq-Decides name one.items).0 h)

  -- no vector has the bytes of two names
  names-apart : (key : Vec ℕ A) (name : List ℕ) → bytes_eq key.items name ≡ false → AreApart (same_bytes key) (λ other. bytes_eq name other.items)
  names-apart key name apart other h = by (bytes_eq name other.items) refl
    where
      by : (b : Bool) → bytes_eq name other.items ≡ b → bytes_eq name other.items ≡ false
      by false e = e
      by true e =
          let same : key.items ≡ name = (bytes_eq-Decides key.items other.items).0 h ∙ sym ((bytes_eq-Decides name other.items).0 e) in
          let there : true ≡ false = sym ((bytes_eq-Decides key.items name).1 same) ∙ apart in
          absurd cc

  -- one entry changed: by the names, it is this one's number that changed
  pub gives-number : (old new : List (Vec ℕ A × ℕ)) (key : Vec ℕ A) (number : ℕ) → lookup (same_bytes key) new ≡ Some number → KeepsOthers same_bytes (same_bytes key) old new
      → (name : List ℕ) → number_in new name ≡ (if bytes_eq key.items name then Some number else number_in old name)
  unfolding KeepsOthers
  gives-number old new key number here others name = by (bytes_eq key.items name) refl
    where
      by : (b : Bool) → bytes_eq key.items name ≡ b → number_in new name ≡ (if b then Some number else number_in old name)
      by true e = ap (number_in new) (sym ((bytes_eq-Decides key.items name).0 e)) ∙ here
      by false e = others (λ other. bytes_eq name other.items) (name-test name) (names-apart key name e)

  -- the same, where it is the order of keys that tells them apart
  pub gives-number-by-order : (old new : List (Vec ℕ A × ℕ)) (key : Vec ℕ A) (number : ℕ) → lookup (alike key) new ≡ Some number → KeepsOthers alike (alike key) old new
      → (name : List ℕ) → number_in new name ≡ (if bytes_eq key.items name then Some number else number_in old name)
  gives-number-by-order old new key number here others =
      gives-number old new key number (subst (λ (same : Vec ℕ A → Vec ℕ A → Bool). lookup (same key) new ≡ Some number) alike-same_bytes here) (subst (λ (same : Vec ℕ A → Vec ℕ A → Bool). KeepsOthers same (same key) old new) alike-same_bytes others)
