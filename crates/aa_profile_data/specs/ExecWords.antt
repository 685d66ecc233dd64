-- The exec words of rules (apparmor.d(5), "Execute Rules"; docs/policy.md, "Exec words").
use Rattle.std.specs.Prelude.{ℕ, Bool, true, false, List, [], ◌∷◌, find, Option, None, Some, codes}
use Rattle.std.specs.Str.{bytes_eq}
use Rattle.aa_profile_data.specs.declared.exec_word.Destination.{Destination}
use Rattle.aa_profile_data.specs.declared.exec_word.Destination.TheVariants as to
use Rattle.aa_profile_data.specs.declared.exec_word.ExecWord.{ExecWord}
use Rattle.aa_profile_data.specs.declared.exec_word.ExecWord.TheVariants.{Child, ChildInherit, ChildInheritScrub, ChildScrub, ChildUnconfined, ChildUnconfinedScrub, Inherit, Profile, ProfileInherit, ProfileInheritScrub, ProfileScrub, ProfileUnconfined, ProfileUnconfinedScrub, Unconfined, UnconfinedScrub}
use Rattle.aa_profile_data.specs.declared.exec_word.Row.{Row as CodeRow}

-- What an exec word means: its text; where it leads; where it leads if there is no such profile, child or hat; and whether the program's environment
-- is scrubbed, wherever it leads.
pub record Row : Type 0 where
  pub text : List ℕ
  pub destination : Destination
  pub fallback : Option Destination
  pub scrubs : Bool

-- a row of the code
abbrev pub seen_row : CodeRow → Row
seen_row r = record { text = r.text.now; destination = r.destination; fallback = r.fallback; scrubs = r.scrubs }

-- The one table of exec words. The letter before `x` says where the word leads, or the one before that where a fallback follows; one written with a
-- capital scrubs.
abbrev pub row : ExecWord → Row
row Inherit = record { text = codes "ix"; destination = to.Inherit; fallback = None; scrubs = false }
row Unconfined = record { text = codes "ux"; destination = to.Unconfined; fallback = None; scrubs = false }
row UnconfinedScrub = record { text = codes "Ux"; destination = to.Unconfined; fallback = None; scrubs = true }
row Profile = record { text = codes "px"; destination = to.Profile; fallback = None; scrubs = false }
row ProfileScrub = record { text = codes "Px"; destination = to.Profile; fallback = None; scrubs = true }
row Child = record { text = codes "cx"; destination = to.Child; fallback = None; scrubs = false }
row ChildScrub = record { text = codes "Cx"; destination = to.Child; fallback = None; scrubs = true }
row ProfileInherit = record { text = codes "pix"; destination = to.Profile; fallback = Some to.Inherit; scrubs = false }
row ProfileInheritScrub = record { text = codes "Pix"; destination = to.Profile; fallback = Some to.Inherit; scrubs = true }
row ChildInherit = record { text = codes "cix"; destination = to.Child; fallback = Some to.Inherit; scrubs = false }
row ChildInheritScrub = record { text = codes "Cix"; destination = to.Child; fallback = Some to.Inherit; scrubs = true }
row ProfileUnconfined = record { text = codes "pux"; destination = to.Profile; fallback = Some to.Unconfined; scrubs = false }
row ProfileUnconfinedScrub = record { text = codes "PUx"; destination = to.Profile; fallback = Some to.Unconfined; scrubs = true }
row ChildUnconfined = record { text = codes "cux"; destination = to.Child; fallback = Some to.Unconfined; scrubs = false }
row ChildUnconfinedScrub = record { text = codes "CUx"; destination = to.Child; fallback = Some to.Unconfined; scrubs = true }

-- each exec word
abbrev pub words : List ExecWord
words =
    Inherit ∷ Unconfined ∷ UnconfinedScrub ∷ Profile ∷ ProfileScrub ∷ Child ∷ ChildScrub ∷ ProfileInherit ∷ ProfileInheritScrub ∷ ChildInherit ∷ ChildInheritScrub ∷ ProfileUnconfined
    ∷ ProfileUnconfinedScrub ∷ ChildUnconfined ∷ ChildUnconfinedScrub ∷ []

-- the exec word among these whose text this is
abbrev pub word_among : List ExecWord → List ℕ → Option ExecWord
word_among words text = find (λ word. bytes_eq (row word).text text) words

-- the exec word of a text, where it is one
abbrev pub exec_word : List ℕ → Option ExecWord
exec_word text = word_among words text

-- two words are the same
abbrev pub same_word : ExecWord → ExecWord → Bool
same_word word other = bytes_eq (row word).text (row other).text
