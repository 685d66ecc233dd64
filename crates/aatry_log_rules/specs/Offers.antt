-- Abstractions that allow some of the wanted requests of an asker, as they are printed.
use Rattle.std.specs.Prelude.{ℕ, ◌-◌, ◌==◌, Bool, false, if◌then◌else◌, List, [], ◌∷◌, ◌++◌, Option, None, Some, codes, count_by, flat_map, length, slice_get, take}
use Rattle.std.specs.Fmt.{decimal}
use Rattle.std.specs.Str.{bytes_eq}
use Rattle.aatry_abstractions.specs.Letting.{Letting}
use Rattle.aatry_log_rules.specs.Wanted.{Wanted}
use Rattle.aatry_report.specs.Fields.{Member, Number, Text, Words, told}
use Rattle.aatry_report.specs.declared.form.Form.{Form}
use Rattle.aatry_report.specs.declared.form.Form.TheVariants.{Lines, Records}

-- a wanted request, if there is one, is the asker's
abbrev pub is_wanted_by : List ℕ → Option Wanted → Bool
is_wanted_by who None = false
is_wanted_by who (Some wanted) = bytes_eq wanted.who who

-- how many of these indexes are those of wanted requests of the asker
abbrev pub own_count : List Wanted → List ℕ → List ℕ → ℕ
own_count wanted who places = count_by (λ place. is_wanted_by who (slice_get wanted place)) places

-- An abstraction that allows some of the asker's wanted requests, and how many.
pub record Offer : Type 0 where
  pub name : List ℕ
  pub number : ℕ

-- an abstraction that allows any
abbrev pub offer_if : List ℕ → ℕ → List Offer
offer_if name number = if number == 0 then [] else record { name = name; number = number } ∷ []

abbrev pub offer_of : List Wanted → List ℕ → Letting → List Offer
offer_of wanted who letting = offer_if letting.name (own_count wanted who letting.places)

-- the abstractions that allow any, in their order
abbrev pub offers_of : List Wanted → List ℕ → List Letting → List Offer
offers_of wanted who lettings = flat_map (offer_of wanted who) lettings

-- how many lines there are of them at most
abbrev pub most_lines : ℕ
most_lines = 5

-- how many more there are
abbrev pub others_line : ℕ → List ℕ
others_line number = if number == 0 then [] else codes "#   and " ++ decimal number ++ codes " more would let some of these\n"

-- an abstraction as it is included, in a comment, and how many it allows; or the record of it, with the path of the asker's file
abbrev pub offer_text : Form → (path who : List ℕ) → Offer → List ℕ
offer_text form path who offer =
    told form (codes "abstraction")
    (Words (codes "#   include <") ∷ Text (codes "name") offer.name ∷ Words (codes "> would let ") ∷ Number (codes "lets") offer.number
    ∷ Words (codes " of these") ∷ Member (codes "profile") who ∷ Member (codes "file") path ∷ [])

-- the first few, and how many more there are
abbrev pub first_offers : Form → (path who : List ℕ) → List Offer → List ℕ
first_offers form path who offers = flat_map (offer_text form path who) (take most_lines offers) ++ others_line (length offers - most_lines)

-- the lines or records of abstractions: the first few lines and how many more there are, or all records
abbrev pub offers_text : Form → List ℕ → List ℕ → List Offer → List ℕ
offers_text Lines path who offers = first_offers Lines path who offers
offers_text Records path who offers = flat_map (offer_text Records path who) offers

-- the lines or records of abstractions that allow some of the wanted requests
abbrev pub offers : Form → List Wanted → List Letting → List ℕ → List ℕ → List ℕ
offers form wanted lettings path who = offers_text form path who (offers_of wanted who lettings)
