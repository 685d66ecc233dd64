-- Full names, cut at a place or behind it.
use Rattle.std.proofs.Common.{◌≡◌, ℕ, true, false, List, [], ◌∷◌, Some, codes, drop, refl}
use Rattle.aa_bytes.specs.Texts.{begins_with}
use Rattle.aa_profile_data.specs.FullNames.{full_name}

-- a text that begins with `//` is cut there
pub cut_here : (text : List ℕ) → begins_with (codes "//") text ≡ true → full_name text ≡ record { profile = []; child = Some (drop 2 text) }
cut_here [] h = absurd (cc)
cut_here (b ∷ bs) h = rw h refl

-- another one is cut behind its first byte
pub cut_behind : (b : ℕ) (bs : List ℕ) → begins_with (codes "//") (b ∷ bs) ≡ false → full_name (b ∷ bs) ≡ record { profile = b ∷ (full_name bs).profile; child = (full_name bs).child }
cut_behind b bs h = rw h refl
