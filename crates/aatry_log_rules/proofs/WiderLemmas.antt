-- The texts of wider rules that are told, by their bytes.
use Rattle.std.proofs.Common.{◌≡◌, ◌∙◌, ℕ, Bool, true, false, ◌||◌, List, [], ◌∷◌, ◌++◌, ap, inl, inr, map, refl, sym}
use Rattle.std.specs.Prelude.{Vec}
use Rattle.std.specs.List.{list_any}
use Rattle.std.specs.Str.{bytes_eq}
use Rattle.std.specs.declared.alloc.Global.{Global}
use Rattle.std.proofs.lemmas.Bool.{cases_Bool}
use Rattle.std.proofs.lemmas.List.{map-append}
use Rattle.indexmap.specs.IndexSet.{insert_key}
use Rattle.aatry_log_rules.specs.SeenWider.{seen_texts}
use Rattle.aatry_log_rules.specs.Wider.{has_text, with_told}

-- whether one is told
pub has-seen : (text : List ℕ) (texts : List (Vec ℕ Global)) → list_any (λ other. bytes_eq text other.items) texts ≡ has_text text (seen_texts texts)
has-seen text [] = refl
has-seen text (other ∷ texts) = ap (λ told. bytes_eq text other.items || told) (has-seen text texts)

-- those that are told with one more
abbrev same_text : Vec ℕ Global → Vec ℕ Global → Bool
same_text text other = bytes_eq text.items other.items

pub noted-seen : (texts : List (Vec ℕ Global)) (text : Vec ℕ Global) → seen_texts (insert_key same_text texts text) ≡ with_told text.items (seen_texts texts)
noted-seen texts text =
    let seen = has-seen text.items texts in
    elim (cases_Bool (list_any (same_text text) texts)) [
      | inl there ↦ rw (there, sym seen ∙ there) refl
      | inr new ↦ rw (new, sym seen ∙ new) (map-append (λ other. other.items) texts (text ∷ []))
    ]
