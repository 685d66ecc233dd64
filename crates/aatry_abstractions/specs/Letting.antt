-- Which abstractions allow which requests.
use Rattle.std.specs.Prelude.{ℕ, ◌+◌, Bool, true, false, if◌then◌else◌, List, [], ◌∷◌, Option, None, Some, flat_map, length}
use Rattle.std.specs.List.Sorted.{IsPermutation, IsSortedBy}
use Rattle.std.specs.Ordering.{is_lt, nat_cmp}
use Rattle.aa_decide_rules.specs.declared.verdict.Answer.{Answer}
use Rattle.aa_decide_rules.specs.declared.verdict.Answer.TheVariants.{Allow, Complain, Deny, Refuse}
use Rattle.aa_decide_rules.specs.Verdict.{verdict}
use Rattle.aa_decide_rules.specs.declared.judgement.Mediation.TheVariants.{Enforcing}
use Rattle.aa_profile_data.specs.Request.{Request}
use Rattle.aa_profile_data.specs.declared.profile.Profile.{Profile}
use Rattle.aa_profile_parsing.specs.declared.language.Language.{Language}
use Rattle.aa_text_files.specs.Files.{File}
use Rattle.aatry_abstractions.specs.Probes.{abstraction, is_abstraction, probed}

abbrev pub is_allow : Answer → Bool
is_allow Allow = true
is_allow Complain = false
is_allow Deny = false
is_allow Refuse = false

-- the rules of a profile allow a request by themselves
abbrev pub lets : Profile → Request → Bool
lets profile request = is_allow (verdict Enforcing profile.audit profile.rules request).answer

-- the indexes of the requests that a profile allows, where the first has this index
abbrev pub places_let : Profile → ℕ → List Request → List ℕ
places_let profile place [] = []
places_let profile place (request ∷ requests) =
    if lets profile request then place ∷ places_let profile (place + 1) requests else places_let profile (place + 1) requests

-- An abstraction that allows some requests: its name, how many rules it has, and the indexes of the requests, from 0.
pub record Letting : Type 0 where
  pub name : List ℕ
  pub size : ℕ
  pub places : List ℕ

-- an abstraction that allows any request
abbrev pub letting : List ℕ → ℕ → List ℕ → List Letting
letting name size [] = []
letting name size (place ∷ places) = record { name = name; size = size; places = place ∷ places } ∷ []

-- an abstraction, if it can be read and allows any request
abbrev pub letting_by : List ℕ → List Request → Option Profile → List Letting
letting_by name requests None = []
letting_by name requests (Some profile) = letting name (length profile.rules) (places_let profile 0 requests)

-- a file, if it is an abstraction that allows any request
abbrev pub letting_of : Language → List File → List Request → File → List Letting
letting_of language files requests file =
    if is_abstraction file.0 then letting_by file.0 requests (abstraction language files file.0) else []

-- the abstractions of a folder that allow some of these requests, in the order of its files
abbrev pub lettings : Language → List File → List Request → List Letting
lettings language files requests = flat_map (letting_of language (probed files) requests) files

-- one has fewer rules than another
abbrev pub is_narrower : Letting → Letting → Bool
is_narrower one other = is_lt (nat_cmp one.size other.size)

-- the same abstractions, ordered by how many rules they have
pub record IsNarrowestFirst (found told : List Letting) : Type 0 where
  pub same : IsPermutation found told
  pub rises : IsSortedBy is_narrower told
