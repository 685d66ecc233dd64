-- What is known of a past at a place in a pattern's text, and how it continues after an element.
use Rattle.std.specs.Prelude.{◌≡◌, ℕ, Bool, ◌==◌, ◌||◌, ◌&&◌, not, List, map, Some}
use Rattle.aa_bytes.specs.ByteSets.{has, is_inside}
use Rattle.aa_glob_syntax.specs.Cursor.{class_set}
use Rattle.aa_glob_syntax.specs.Elements.{Element}
use Rattle.aa_glob_syntax.specs.declared.element.Element.{Element as Found}
use Rattle.aa_glob_syntax.specs.declared.element.Element.TheVariants.{Byte, Inside, Class, Star, DoubleStar, Open, Comma, Close}
use Rattle.aa_glob_pattern.specs.Active.{is_among, next_past, Past}
use Rattle.aa_glob_pattern.specs.declared.place.Place.{Place}
use Rattle.aa_glob_pattern.specs.declared.places.Places.{Places}
use Rattle.aa_glob_pattern.specs.Reads.{Known, known_behind, KnownGroup}

-- Whether the place after an element is active for a past with this byte at its end: by whether what leads to the element is, for the past before
-- and for this one, and by whether the element itself was for the past before.
abbrev pub active_behind : Found → ℕ → Bool → Bool → Bool → Bool
active_behind (Byte b) byte before now own = byte == b && before
active_behind Inside byte before now own = is_inside byte && before
active_behind (Class class) byte before now own = has (class_set class) byte && before
active_behind Star byte before now own = now || is_inside byte && own
active_behind DoubleStar byte before now own = now || not (byte == 0) && own
active_behind Open byte before now own = now
active_behind Comma byte before now own = now
active_behind Close byte before now own = now

-- for which open groups a past reads the beginning of the alternatives, and for which one of their ends so far
abbrev pub active_beginnings : Past → List KnownGroup → List Bool
active_beginnings past gs = map (λ (g : KnownGroup). is_among g.beginning past) gs

abbrev pub active_ends : Past → List KnownGroup → List Bool
active_ends past gs = map (λ (g : KnownGroup). is_among g.ends past) gs

-- the place has what is known of this past
abbrev pub IsAt : Past → Known → Place → Type 0
IsAt past k place =
    (place.here ≡ is_among k.here past) × (place.beginnings ≡ active_beginnings past k.groups) × (place.ends ≡ active_ends past k.groups)

-- a place turns into the one after an element, which is active or not
abbrev pub GoesOver : Place → Element → Bool → Place → Type 0
GoesOver before e active after =
    (past : Past) (k : Known) → IsAt past k before → active ≡ is_among (known_behind e k).here past → IsAt past (known_behind e k) after

-- the places have what is known of a past and of the one that continues it by this byte
abbrev pub AreAt : Past → ℕ → Known → Places → Type 0
AreAt past byte k places = IsAt past k places.before × IsAt (Some (next_past byte past)) k places.after
