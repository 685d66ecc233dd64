-- The table of kinds (docs/policy.md, "Tables").
use Rattle.std.specs.Prelude.{ℕ, Bool, nat_le, ◌==◌, if◌then◌else◌, List, [], ◌∷◌, Option, codes, slice_get}
use Rattle.aa_profile_data.specs.TableNames.{number_in}

-- Their names, each at the index that is its number: six types, followed by three protocols (apparmor.d(5), "Network Rules").
abbrev pub names : List (List ℕ)
names =
    codes "stream" ∷ codes "dgram" ∷ codes "seqpacket" ∷ codes "rdm" ∷ codes "raw" ∷ codes "packet" ∷
    codes "tcp" ∷ codes "udp" ∷ codes "icmp" ∷ []

abbrev pub kind_number : List ℕ → Option ℕ
kind_number name = number_in names name

abbrev pub kind_name : ℕ → Option (List ℕ)
kind_name number = slice_get names number

-- the type to which a protocol belongs; that of a type is itself
abbrev pub type_of : ℕ → ℕ
type_of kind =
    if kind == 6 then 0 else
    if kind == 7 then 1 else
    if kind == 8 then 4 else
    kind

-- the kinds after the types are protocols
abbrev pub is_protocol : ℕ → Bool
is_protocol kind = nat_le 6 kind
