-- What is told of changes, one by one.
use Rattle.std.proofs.Common.{◌≡◌, ℕ, zero, suc, ◌+◌, List, [], ◌∷◌, ◌++◌, drop, arith, refl, ap, ◌∙◌}
use Rattle.std.specs.Prelude.{slice_get}
use Rattle.aatry_folder.specs.PolicyFiles.{PolicyFiles}
use Rattle.aatry_report.specs.declared.form.Form.{Form}
use Rattle.aatry_shared.specs.SharedLines.{shared_lines}
use Rattle.aatry_shared.specs.Sharing.{Group}
use Rattle.aatry_shared.specs.code.Steps.{group_text_at}

module _ (form : Form) (old new : PolicyFiles) where
  lines-from : (groups : List Group) (place : ℕ)
      → shared_lines form old new (drop place groups)
      ≡ group_text_at form old new (slice_get groups place) ++ shared_lines form old new (drop (suc place) groups)
  lines-from [] zero = refl
  lines-from [] (suc place) = refl
  lines-from (group ∷ groups) zero = refl
  lines-from (group ∷ groups) (suc place) = lines-from groups place

  -- what is told of the change at a place, and of those behind it
  pub lines-step : (groups : List Group) (place : ℕ)
      → shared_lines form old new (drop place groups)
      ≡ group_text_at form old new (slice_get groups place) ++ shared_lines form old new (drop (place + 1) groups)
  lines-step groups place =
      let next : suc place ≡ place + 1 = omega arith in
      lines-from groups place ∙ ap (λ n. group_text_at form old new (slice_get groups place) ++ shared_lines form old new (drop n groups)) next
