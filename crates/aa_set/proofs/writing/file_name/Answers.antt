use Rattle.std.proofs.Common.{◌≡◌, ℕ, zero, suc, List, [], ◌∷◌, None, refl}
use Rattle.std.specs.Prelude.{slice_get}
use Rattle.std.specs.Option.{option_map}
use Rattle.aa_text_files.specs.Files.{File, name_at}
use Rattle.aa_set.proofs.writing.file_name.Goals as goal

-- no file has no name
name_at-none : (files : List File) (file : ℕ) → None ≡ option_map (λ f. f.0) (slice_get files file) → [] ≡ name_at files file
name_at-none [] file h = refl
name_at-none (f ∷ files) zero h = absurd (cc)
name_at-none (f ∷ files) (suc file) h = name_at-none files file h

pub returns-in-None : goal.returns-in-None
returns-in-None c = name_at-none c.args.files.now c.args.file c.in-None.ensures
