-- Whether one text reads two trails, as a test. Both are read backwards: the text's last byte, or none, leads back to a pair of trails that are no
-- longer, and what leads back to the start is a text.
use Rattle.std.specs.Prelude.{ℕ, suc, zero, ◌+◌, ◌^◌, Bool, true, false, ◌==◌, ◌||◌, ◌&&◌, not, if◌then◌else◌, List, [], ◌∷◌, ◌++◌, length}
use Rattle.std.specs.List.{list_any}
use Rattle.aa_bytes.specs.ByteSets.{has, is_inside}
use Rattle.aa_glob_syntax.specs.Elements.{Element, Single, Open, Comma, Close, Fault}
use Rattle.aa_glob_syntax.specs.Items.{Item, Byte, Set, Star, DoubleStar, Group}
use Rattle.aa_glob_pattern.specs.Trails.{sources, Trail, trail_of}

-- a star, which may match no byte
abbrev pub is_star : Item → Bool
is_star (Byte b) = false
is_star (Set set) = false
is_star Star = true
is_star DoubleStar = true
is_star (Group first second others) = false

-- an element that is read without a byte
abbrev pub is_free : Element → Bool
is_free (Single item) = is_star item
is_free Open = true
is_free Comma = true
is_free Close = true
is_free (Fault error) = false

-- an element that is read by this byte alone
abbrev pub takes : Element → ℕ → Bool
takes (Single (Byte b)) c = c == b
takes (Single (Set set)) c = has set c
takes _ c = false

-- a star that continues over this byte
abbrev pub goes_over : Element → ℕ → Bool
goes_over (Single Star) c = is_inside c
goes_over (Single DoubleStar) c = not (c == 0)
goes_over _ c = false

-- the trails to which a trail leads back without a byte
abbrev pub back_freely : Trail → List Trail
back_freely [] = []
back_freely (e ∷ trail) = if is_free e then sources (e ∷ trail) else []

-- the trails to which a trail leads back by a byte: itself, where a star continues over it
abbrev pub back_over : ℕ → Trail → List Trail
back_over c [] = []
back_over c (e ∷ trail) = (if takes e c then sources (e ∷ trail) else []) ++ (if goes_over e c then (e ∷ trail) ∷ [] else [])

-- some two trails pass a test
abbrev pub some_pass : (Trail → Trail → Bool) → List Trail → List Trail → Bool
some_pass test firsts seconds = list_any (λ s. list_any (test s) seconds) firsts

-- some number below this one passes a test
abbrev pub some_below : ℕ → (ℕ → Bool) → Bool
some_below zero test = false
some_below (suc n) test = test n || some_below n test

-- no element was read
abbrev pub is_start : Trail → Bool
is_start [] = true
is_start (e ∷ trail) = false

-- one text reads both trails, found by at most so many steps back
abbrev pub share_text : ℕ → Trail → Trail → Bool
share_text zero s t = false
share_text (suc n) s t =
    is_start s && is_start t
    || (some_pass (share_text n) (back_freely s) (t ∷ [])
    || (some_pass (share_text n) (s ∷ []) (back_freely t)
    || some_below (2 ^ 8) (λ c. some_pass (share_text n) (back_over c s) (back_over c t))))

-- Two patterns overlap, as a test: one text reads both to their ends. Each step back makes a trail shorter, or needn't be taken, so there are no
-- more steps than elements.
abbrev pub overlaps : List ℕ → List ℕ → Bool
overlaps one other = share_text (suc (length (trail_of one) + length (trail_of other))) (trail_of one) (trail_of other)
