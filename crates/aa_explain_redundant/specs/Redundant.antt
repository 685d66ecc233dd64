-- Written rules without which nothing is answered otherwise.
use Rattle.std.specs.Prelude.{◌≡◌, ◌⊎◌, ℕ, Bool, false, true, List, [], ◌∷◌, ◌++◌, Contains}
use Rattle.aa_decide_rules.specs.Choices.{choice}
use Rattle.aa_explain_changes.specs.Sides.{Side, side_verdict}
use Rattle.aa_explain_paths.specs.Claims.{single_letters}
use Rattle.aa_explain_paths.specs.Meant.{may_be_asked}
use Rattle.aa_glob_nfa.specs.Graphs.{AreBytes}
use Rattle.aa_explain_redundant.specs.Left.{WrittenRules, can_be_told, left, numbered}

-- all rules, and those that are left, as sides
abbrev pub whole_side : WrittenRules → Side
whole_side rules = record { audit = rules.audit; rules = rules.rules }

abbrev pub side_left : WrittenRules → List ℕ → Side
side_left rules gone = record { audit = rules.audit; rules = left rules gone }

-- Two sides give the same verdict on a path: on each letter of a file, with tag and mask, and on the start of its program, whoever owns it.
pub record SayTheSame (one other : Side) (path : List ℕ) : Type 0 where
  pub letters : (owned : Bool) (letter : ℕ) → Contains single_letters letter → side_verdict one path owned letter ≡ side_verdict other path owned letter
  pub starts : (owned : Bool) → choice one.audit owned path one.rules ≡ choice other.audit owned path other.rules

-- Two sides differ on a path: a letter of a file is answered or logged otherwise, or the start of its program is, of one owner at least.
pub record IsLetterOtherwise (one other : Side) (path : List ℕ) : Type 0 where
  pub owned : Bool
  pub letter : ℕ
  pub single : Contains single_letters letter
  pub otherwise : side_verdict one path owned letter ≡ side_verdict other path owned letter → ⊥

pub record IsStartOtherwise (one other : Side) (path : List ℕ) : Type 0 where
  pub owned : Bool
  pub otherwise : choice one.audit owned path one.rules ≡ choice other.audit owned path other.rules → ⊥

abbrev pub IsSaidOtherwise : Side → Side → List ℕ → Type 0
IsSaidOtherwise one other path = IsLetterOtherwise one other path ⊎ IsStartOtherwise one other path

-- Without these written rules, all together, the answers on each path that the kernel may ask about stay.
abbrev pub AnswersStay : WrittenRules → List ℕ → Type 0
AnswersStay rules gone = (path : List ℕ) → AreBytes path → may_be_asked path ≡ true → SayTheSame (whole_side rules) (side_left rules gone) path

-- a path that the kernel may ask about, on which an answer differs without these written rules
pub record IsAnsweredOtherwise (rules : WrittenRules) (gone path : List ℕ) : Type 0 where
  pub bytes : AreBytes path
  pub asked : may_be_asked path ≡ true
  pub otherwise : IsSaidOtherwise (whole_side rules) (side_left rules gone) path

abbrev pub AnswersChange : WrittenRules → List ℕ → Type 0
AnswersChange rules gone = (path : List ℕ) × IsAnsweredOtherwise rules gone path

-- A written rule is reported next: answers stay without it and those that are reported before.
pub record IsToldNext (rules : WrittenRules) (told : List ℕ) (number : ℕ) : Type 0 where
  pub can : can_be_told (numbered rules) told number ≡ true
  pub stay : AnswersStay rules (told ++ number ∷ [])

-- A written rule isn't reported next: answers change without it. Or no rule on files was made of it, or it is reported already.
abbrev pub IsNotToldNext : WrittenRules → List ℕ → ℕ → Type 0
IsNotToldNext rules told number = AnswersChange rules (told ++ number ∷ []) ⊎ (can_be_told (numbered rules) told number ≡ false)

-- The reports of written rules that are tried one after another, where some are reported before: one that is reported is gone for those after it.
abbrev pub AreToldBehind : WrittenRules → List ℕ → List ℕ → List ℕ → Type 0
AreToldBehind rules told [] all = all ≡ told
AreToldBehind rules told (number ∷ tried) all =
    (IsToldNext rules told number × AreToldBehind rules (told ++ number ∷ []) tried all)
    ⊎ (IsNotToldNext rules told number × AreToldBehind rules told tried all)

-- These are reported of the written rules that are tried; and all of them can be taken away together.
pub record AreToldOf (rules : WrittenRules) (tried told : List ℕ) : Type 0 where
  pub sound : AnswersStay rules told
  pub exact : AreToldBehind rules [] tried told
