-- In a text that reads as a pattern each element stands as it may.
use Rattle.std.proofs.Common.{◌≡◌, ◌≢◌, ◌∙◌, ◌≤◌, ◌<◌, ℕ, ◌+◌, ◌-◌, ◌==◌, List, [], ◌∷◌, Ok, sym, inl, inr, arith}
use Rattle.std.proofs.lemmas.Bool.{cases_Bool, eq-eqb, false≢true}
use Rattle.aa_bytes.specs.Bytes.{comma}
use Rattle.aa_glob_syntax.specs.Elements.{Element, Single, Open, Comma, Close, Fault, elements}
use Rattle.aa_glob_syntax.specs.Items.{Byte}
use Rattle.aa_glob_syntax.specs.Reading.{deepest, group, items_of, pieces, reading}
use Rattle.aa_glob_syntax.specs.Symbols.{symbols}
use Rattle.aa_glob_syntax.specs.declared.context.Context.TheVariants.{Elsewhere}
use Rattle.aa_glob_pattern.proofs.GroupLemmas.{not_outside}
use Rattle.aa_glob_pattern.proofs.WalkLemmas.{fine-comma, fine-group, fine-onto, fine-whole, HasNoFault, reading-whole, too_deep}
use Rattle.aa_glob_pattern.specs.Elements.{EachMayStand, elements_of}
use Rattle.aa_glob_pattern.specs.Trails.{grouped}

stand-in : (es : List Element) (depth : ℕ) → depth ≤ deepest → HasNoFault depth (pieces depth es) → EachMayStand depth (grouped depth es)
stand-in [] depth few fine = tt
stand-in (Single item ∷ es) depth few fine = (tt, stand-in es depth few (fine-onto item (pieces depth es) depth fine))
stand-in (Open ∷ es) depth few fine = elim (cases_Bool (depth == deepest)) [
  | inl full ↦ absurd (rw full at fine)
  | inr less ↦
      let differs : depth ≢ 16 = λ same. false≢true (sym less ∙ eq-eqb depth deepest same) in
      let most : depth ≤ 16 = few in
      let deeper : depth < 16 = omega arith in
      let more : depth + 1 ≤ 16 = omega arith in
      (deeper, stand-in es (depth + 1) more (fine-group (pieces (depth + 1) es) depth (too_deep depth (group (pieces (depth + 1) es)) fine).0))
]
stand-in (Comma ∷ es) depth few fine = elim (cases_Bool (depth == 0)) [
  | inl outside ↦
      let itself = rw outside at fine in
      rw outside (tt, stand-in es depth few (fine-onto (Byte comma) (pieces depth es) depth itself))
  | inr within ↦
      let cuts = rw within at fine in
      let some : 0 < depth = not_outside depth within in
      rw within (some, stand-in es depth few (fine-comma (pieces depth es) depth cuts))
]
stand-in (Close ∷ es) depth few fine =
    let most : depth ≤ 16 = few in
    let less : depth - 1 ≤ 16 = omega arith in
    (not_outside depth fine.0, stand-in es (depth - 1) less fine.1)
stand-in (Fault error ∷ es) depth few fine = absurd fine

-- In a text that reads as a pattern each element stands as it may.
pub may_stand-of : (text : List ℕ) → reading text ≡ Ok (items_of text) → EachMayStand 0 (elements_of text)
may_stand-of text is_read =
    let es = elements Elsewhere (symbols text) in
    let few : 0 ≤ 16 = omega arith in
    stand-in es 0 few (fine-whole (pieces 0 es) (items_of text) (reading-whole text (items_of text) is_read))
