-- Something is told of questions exactly where one is answered otherwise.
use Rattle.std.proofs.Common.{◌≡◌, ℕ, ◌==◌, Bool, true, false, ◌&&◌, List, [], ◌∷◌, ◌++◌, codes, flat_map, length, map, refl, sym, ap, ◌∙◌}
use Rattle.std.proofs.Math.Dec.{eqb-suc-zero}
use Rattle.std.proofs.lemmas.List.{length-map}
use Rattle.serde_json.specs.Data.{object}
use Rattle.serde_json.specs.Written.{compact_text}
use Rattle.aa_bytes.specs.Bytes.{line_feed}
use Rattle.aa_bytes.specs.Texts.{is_empty}
use Rattle.aa_decide_ready.specs.Entries.{Loaded}
use Rattle.aatry_diff.specs.Differences.{causes, difference_lines, difference_text, told_differences, told_question}
use Rattle.aatry_diff.specs.Differing.{Difference, difference_of, differing}
use Rattle.aatry_diff.specs.Folders.{BothFolders}
use Rattle.aatry_report.specs.Fields.{Said, in_line, told, with_fields}
use Rattle.aatry_report.specs.Records.{record_of}
use Rattle.aatry_report.specs.declared.form.Form.{Form}
use Rattle.aatry_report.specs.declared.form.Form.TheVariants.{Lines, Records}
use Rattle.aatry_requests.specs.Tallies.{Tally}

-- a text with another behind it is empty where both are
empty-both : (text more : List ℕ) → is_empty (text ++ more) ≡ (is_empty text && is_empty more)
empty-both [] more = refl
empty-both (b ∷ text) more = refl

-- one that ends in something isn't
filled : (front behind : List ℕ) → is_empty behind ≡ false → is_empty (front ++ behind) ≡ false
filled [] behind h = h
filled (b ∷ front) behind h = refl

-- something is told of anything that is told
told-filled : (form : Form) (kind : List ℕ) (fields : List Said) → is_empty (told form kind fields) ≡ false
told-filled Lines kind fields = filled (flat_map in_line fields) (line_feed ∷ []) refl
told-filled Records kind fields = filled (compact_text (object (with_fields fields (record_of kind)))) (line_feed ∷ []) refl

module _ (form : Form) (folders : BothFolders) where
  difference-told : (difference : Difference) → is_empty (difference_text form folders difference) ≡ false
  difference-told difference =
      let behind = causes form folders difference.tally.question in
      empty-both (told_question form difference) behind ∙ ap (λ b. b && is_empty behind) (told-filled form (codes "question") _)

  all-told : (found : List Difference) → is_empty (told_differences form folders found) ≡ (length found == 0)
  all-told [] = refl
  all-told (difference ∷ found) =
      let behind = told_differences form folders found in
      empty-both (difference_text form folders difference) behind ∙ ap (λ b. b && is_empty behind) (difference-told difference)
      ∙ sym (eqb-suc-zero (length found))

-- something is told of questions where one is answered otherwise
pub some-told : (form : Form) (folders : BothFolders) (old new : List Loaded) (tallies : List Tally)
    → is_empty (difference_lines form folders old new tallies) ≡ (length (differing old new tallies) == 0)
some-told form folders old new tallies =
    let asked = differing old new tallies in
    all-told form folders (map (difference_of old new) asked) ∙ ap (λ n. n == 0) (length-map asked (difference_of old new))

-- one holds where both do
pub both-first : (a b : Bool) → (a && b) ≡ true → a ≡ true
both-first true b both = refl
both-first false b both = both

-- a text that is empty is none
pub empty-none : (text : List ℕ) → is_empty text ≡ true → text ≡ []
empty-none [] empty = refl
empty-none (b ∷ text) empty = absurd (cc)
