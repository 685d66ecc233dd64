-- Where loaded profiles were read, and where their rules are written.
use Rattle.std.proofs.Common.{◌≡◌, ℕ, zero, suc, ◌+◌, Bool, true, false, cond, List, [], ◌∷◌, ◌++◌, length, map, Option, None, Some, Ok, slice_get, refl, sym, ap, subst, ◌∙◌, arith}
use Rattle.std.proofs.Math.Nat.{add-zero, zero-add}
use Rattle.std.proofs.lemmas.List.{append-nil, map-append}
use Rattle.std.proofs.lemmas.List.Elements.{All-append, All-cons, All-head, All-nil, All-tail, Contains-append_right}
use Rattle.std.specs.List.{All, Contains}
use Rattle.std.specs.Option.{option_map}
use Rattle.std.specs.Str.{bytes_eq}
use Rattle.aa_decide_ready.specs.Entries.{Loaded}
use Rattle.aa_decide_ready.specs.Named.{entry_named, profiles_of}
use Rattle.aa_decide_ready.specs.Ready.{child_rules, rules_at}
use Rattle.aa_profile.specs.Assignments.{variables_of}
use Rattle.aa_profile.specs.FilePlaces.{file_places_in}
use Rattle.aa_profile.specs.FileReading.{file_profiles_in}
use Rattle.aa_profile.specs.PlaceLaws.{AreChildrenMadeAt, AreFileMadeAt, AreMadeAt, AreProfilesMadeAt, IsChildMadeAt, IsProfileMadeAt, children_in, rules_in}
use Rattle.aa_profile_data.specs.declared.profile.Child.{Child}
use Rattle.aa_profile_data.specs.declared.profile.Profile.{Profile}
use Rattle.aa_profile_grammar.specs.Blocks.{Child as WrittenChild, Profile as WrittenProfile}
use Rattle.aa_profile_grammar.specs.Files.{File as WrittenFile, file}
use Rattle.aa_profile_parsing.specs.declared.language.Language.{Language}
use Rattle.aa_profile_grammar.specs.PatternTokens.{of_profiles}
use Rattle.aa_profile_grammar.specs.declared.places.ProfilePlaces.{ProfilePlaces}
use Rattle.aa_profile_grammar.specs.declared.places.SectionPlaces.{SectionPlaces}
use Rattle.aa_set_manager.specs.ChangeLaws.{ChangesKeepNamesApart}
use Rattle.aa_set_answers.specs.Laws.{StandsAt}
use Rattle.aa_text_files.specs.Files.{File}
use Rattle.aa_text_tokens.specs.Splicing.{Placed, spliced}
use Rattle.aa_text_variables.specs.Variables.{Variable}
use Rattle.aa_set_manager.specs.Changes.{loaded as taken_by}
use Rattle.aatry_folder.specs.Loadings.{file_names}
use Rattle.aatry_policy.proofs.LoadLemmas.{file-is, folder-profiles, taken}
use Rattle.aatry_policy.proofs.ReadLemmas.{IsRead, all-read, placed}
use Rattle.aatry_policy.specs.FolderParts.{parts_in}
use Rattle.aatry_policy.specs.Folders.{Folder, origins_in, outcomes_in, policy_in, read_in}
use Rattle.aatry_policy.specs.Origins.{file_origins, origin_in, origins_of, places_by, places_in, rule_places, section_rules}
use Rattle.aatry_policy.specs.Parts.{child_part, child_parts, profile_part, profile_parts, set_parts}
use Rattle.aatry_policy.specs.PlaceLaws.{AreReadAt, AreWrittenIn, IsFoundAt, IsPartWritten, IsReadAt}
use Rattle.aatry_policy.specs.Profiles.{FileProfiles, file_at, profiles_in}
use Rattle.aatry_policy.specs.declared.origins.Origin.{Origin}

-- what is known of the places of a file that is read
abbrev pub FilesAreMade : Type 0
FilesAreMade =
    (language : Language) (files : List File) (name : List ℕ) (profiles : List Profile) (places : List ProfilePlaces)
    → file_profiles_in language files name ≡ Ok profiles
    → file_places_in language files name ≡ Some places
    → AreFileMadeAt language files name profiles places

same-length : (language : Language) (variables : List Variable) (written : List WrittenProfile) (profiles : List Profile) (places : List ProfilePlaces)
    → AreProfilesMadeAt language variables written profiles places → length profiles ≡ length places
same-length language variables [] [] [] made = refl
same-length language variables [] [] (own ∷ places) made = absurd made
same-length language variables [] (profile ∷ profiles) [] made = absurd made
same-length language variables [] (profile ∷ profiles) (own ∷ places) made = absurd made
same-length language variables (source ∷ written) [] [] made = absurd made
same-length language variables (source ∷ written) [] (own ∷ places) made = absurd made
same-length language variables (source ∷ written) (profile ∷ profiles) [] made = absurd made
same-length language variables (source ∷ written) (profile ∷ profiles) (own ∷ places) made = ap suc (same-length language variables written profiles places made.1)

-- the profiles of a file, each beside its own origin
module _ (language : Language) (files : List File) (name : List ℕ) (all : List Profile) (stands : List ProfilePlaces)
    (read : file_profiles_in language files name ≡ Ok all) (there : file_places_in language files name ≡ Some stands) where
  file-read : (at : ℕ) (profiles : List Profile) (places : List ProfilePlaces) → length profiles ≡ length places
      → ((k : ℕ) → slice_get profiles k ≡ slice_get all (at + k)) → ((k : ℕ) → slice_get places k ≡ slice_get stands (at + k))
      → AreReadAt language files (map taken profiles) (file_origins name profiles places)
  file-read at [] [] same these those = tt
  file-read at [] (own ∷ places) same these those = absurd (omega arith)
  file-read at (profile ∷ profiles) [] same these those = absurd (omega arith)
  file-read at (profile ∷ profiles) (own ∷ places) same these those =
      let fewer : length profiles ≡ length places = omega arith in (
        record {
          profiles = all;
          places = stands;
          at = at;
          own = own;
          read = read;
          among = ap (slice_get all) (sym (add-zero at)) ∙ sym (these 0);
          stand = there;
          beside = ap (slice_get stands) (sym (add-zero at)) ∙ sym (those 0);
          kept = refl;
          named = refl;
        },
        file-read (at + 1) profiles places fewer (λ k. these (suc k) ∙ ap (slice_get all) (more k)) (λ k. those (suc k) ∙ ap (slice_get stands) (more k)),
      )
    where
      more : (k : ℕ) → at + suc k ≡ at + 1 + k
      more k = omega arith

read-append : (language : Language) (files : List File) (entries more : List Loaded) (origins others : List Origin)
    → AreReadAt language files entries origins → AreReadAt language files more others → AreReadAt language files (entries ++ more) (origins ++ others)
read-append language files [] more [] others own rest = rest
read-append language files [] more (origin ∷ origins) others own rest = absurd own
read-append language files (entry ∷ entries) more [] others own rest = absurd own
read-append language files (entry ∷ entries) more (origin ∷ origins) others own rest = (own.0, read-append language files entries more origins others own.1 rest)

-- however they are loaded
alike : (language : Language) (files : List File) (force_complain : Bool) (profiles : List Profile) (origins : List Origin)
    → AreReadAt language files (map taken profiles) origins → AreReadAt language files (map (taken_by force_complain) profiles) origins
alike language files force_complain [] [] all = tt
alike language files force_complain [] (origin ∷ origins) all = absurd all
alike language files force_complain (profile ∷ profiles) [] all = absurd all
alike language files force_complain (profile ∷ profiles) (origin ∷ origins) all = (all.0, alike language files force_complain profiles origins all.1)

-- those of one file
pub file-own : FilesAreMade → (language : Language) (files : List File) (name : List ℕ) (profiles : List Profile) (force_complain : Bool)
    → file_profiles_in language files name ≡ Ok profiles → AreReadAt language files (map (taken_by force_complain) profiles) (origins_of (file_at language files name))
file-own made language files name profiles force_complain read =
    let (places, there) = placed language files name profiles read in
    let (tokens, written, variables, cut, spells, with, each) = made language files name profiles places read there in
    subst (AreReadAt language files (map (taken_by force_complain) profiles))
    (sym (ap origins_of (file-is language files name profiles places read there) ∙ append-nil (file_origins name profiles places)))
    (alike language files force_complain profiles (file_origins name profiles places)
    (file-read language files name profiles places read there 0 profiles places (same-length language variables written.profiles profiles places each)
    (λ k. ap (slice_get profiles) (sym (zero-add k))) (λ k. ap (slice_get places) (sym (zero-add k)))))

-- those of all files that are read
files-read : FilesAreMade → (language : Language) (files : List File) (read : List FileProfiles) → All (IsRead language files) read
    → AreReadAt language files (map taken (profiles_in read)) (origins_of read)
files-read made language files [] is = tt
files-read made language files (file ∷ read) is =
    let (own, there) = All-head (IsRead language files) file read is in
    let (tokens, written, variables, cut, spells, with, each) = made language files file.name file.profiles file.places own there in
    subst (λ entries. AreReadAt language files entries (origins_of (file ∷ read))) (sym (map-append taken file.profiles (profiles_in read)))
    (read-append language files (map taken file.profiles) (map taken (profiles_in read)) (file_origins file.name file.profiles file.places) (origins_of read)
    (file-read language files file.name file.profiles file.places own there 0 file.profiles file.places
    (same-length language variables written.profiles file.profiles file.places each)
    (λ k. ap (slice_get file.profiles) (sym (zero-add k))) (λ k. ap (slice_get file.places) (sym (zero-add k))))
    (files-read made language files read (All-tail (IsRead language files) file read is)))

-- in whatever state they are
in-states : (language : Language) (files : List File) (entries : List Loaded) (origins : List Origin)
    → AreReadAt language files (map taken (profiles_of entries)) origins → AreReadAt language files entries origins
in-states language files [] [] all = tt
in-states language files [] (origin ∷ origins) all = absurd all
in-states language files (entry ∷ entries) [] all = absurd all
in-states language files (entry ∷ entries) (origin ∷ origins) all = (all.0, in-states language files entries origins all.1)

-- those that a folder loads
pub folder-read : ChangesKeepNamesApart → FilesAreMade → (folder : Folder) → AreReadAt folder.language folder.files (policy_in folder) (origins_in folder)
folder-read keeps made folder =
    in-states folder.language folder.files (policy_in folder) (origins_in folder)
    (subst (λ (profiles : List Profile). AreReadAt folder.language folder.files (map taken profiles) (origins_in folder)) (sym (folder-profiles keeps folder))
    (files-read made folder.language folder.files (read_in folder) (all-read folder.language folder.files (file_names folder.top) (outcomes_in folder))))

-- the first origin of a name
pub found-at : (language : Language) (files : List File) (name : List ℕ) (entries : List Loaded) (origins : List Origin) (entry : Loaded)
    → AreReadAt language files entries origins → entry_named name entries ≡ Some entry → IsFoundAt language files origins name entry.profile
found-at language files name [] [] entry all is = absurd (cc)
found-at language files name [] (origin ∷ origins) entry all is = absurd all
found-at language files name (other ∷ entries) [] entry all is = absurd all
found-at language files name (other ∷ entries) (origin ∷ origins) entry all is =
    by (bytes_eq other.profile.name name) refl (found-at language files name entries origins entry all.1) is
  where
    tested : (same : Bool) → bytes_eq other.profile.name name ≡ same
        → origin_in name (origin ∷ origins) ≡ cond same (Some origin) (origin_in name origins)
    tested same e = ap (λ b. cond b (Some origin) (origin_in name origins)) (ap (λ n. bytes_eq n name) all.0.named ∙ e)

    by : (same : Bool) → bytes_eq other.profile.name name ≡ same
        → (entry_named name entries ≡ Some entry → IsFoundAt language files origins name entry.profile)
        → cond same (Some other) (entry_named name entries) ≡ Some entry → IsFoundAt language files (origin ∷ origins) name entry.profile
    by true e rest one =
        let own : other ≡ entry = cc in
        (origin, tested true e, subst (λ (o : Loaded). IsReadAt language files o.profile origin) own all.0)
    by false e rest one = let (found, first, read) = rest one in (found, tested false e ∙ first, read)

-- one of some profiles with its places, and what it is made of
nth-profile : (language : Language) (variables : List Variable) (written : List WrittenProfile) (profiles : List Profile) (places : List ProfilePlaces) (at : ℕ)
    (profile : Profile) (own : ProfilePlaces) → AreProfilesMadeAt language variables written profiles places
    → slice_get profiles at ≡ Some profile → slice_get places at ≡ Some own
    → (source : WrittenProfile) × Contains written source × IsProfileMadeAt language variables source profile own
nth-profile language variables [] [] [] at profile own made is there = absurd (cc)
nth-profile language variables [] [] (one ∷ places) at profile own made is there = absurd made
nth-profile language variables [] (one ∷ profiles) [] at profile own made is there = absurd made
nth-profile language variables [] (one ∷ profiles) (other ∷ places) at profile own made is there = absurd made
nth-profile language variables (source ∷ written) [] [] at profile own made is there = absurd made
nth-profile language variables (source ∷ written) [] (one ∷ places) at profile own made is there = absurd made
nth-profile language variables (source ∷ written) (one ∷ profiles) [] at profile own made is there = absurd made
nth-profile language variables (source ∷ written) (one ∷ profiles) (other ∷ places) zero profile own made is there =
    let first : one ≡ profile = cc in
    let beside : other ≡ own = cc in
    (source, (0, omega arith, refl), subst (λ p. IsProfileMadeAt language variables source p own) first (subst (IsProfileMadeAt language variables source one) beside made.0))
nth-profile language variables (source ∷ written) (one ∷ profiles) (other ∷ places) (suc at) profile own made is there =
    let (found, among, rest) = nth-profile language variables written profiles places at profile own made.1 is there in
    (found, Contains-append_right (source ∷ []) written found among, rest)

-- one of some children and hats with its places, and what it is made of
abbrev IsChildAt : Language → List Variable → List WrittenChild → List SectionPlaces → ℕ → Child → Type 0
IsChildAt language variables written places at child =
    (source : WrittenChild) × (own : SectionPlaces) × (slice_get written at ≡ Some source) × (slice_get places at ≡ Some own)
    × IsChildMadeAt language variables source child own

nth-child : (language : Language) (variables : List Variable) (written : List WrittenChild) (children : List Child) (places : List SectionPlaces) (at : ℕ) (child : Child)
    → AreChildrenMadeAt language variables written children places → slice_get children at ≡ Some child → IsChildAt language variables written places at child
nth-child language variables [] [] [] at child made is = absurd (cc)
nth-child language variables [] [] (one ∷ places) at child made is = absurd made
nth-child language variables [] (one ∷ children) [] at child made is = absurd made
nth-child language variables [] (one ∷ children) (other ∷ places) at child made is = absurd made
nth-child language variables (source ∷ written) [] [] at child made is = absurd made
nth-child language variables (source ∷ written) [] (one ∷ places) at child made is = absurd made
nth-child language variables (source ∷ written) (one ∷ children) [] at child made is = absurd made
nth-child language variables (source ∷ written) (one ∷ children) (own ∷ places) zero child made is =
    let first : one ≡ child = cc in
    (source, own, refl, refl, subst (λ c. IsChildMadeAt language variables source c own) first made.0)
nth-child language variables (source ∷ written) (one ∷ children) (own ∷ places) (suc at) child made is = nth-child language variables written children places at child made.1 is

-- the rules of a profile that was read, or of the child or hat at a place of it
pub written-in : FilesAreMade → (language : Language) (files : List File) (profile : Profile) (origin : Origin) (child : Option ℕ)
    → IsReadAt language files profile origin → StandsAt profile child
    → AreWrittenIn language files origin.file child (rules_at profile child) (rule_places (Some origin) child)
written-in made language files profile origin child is stands =
    let (tokens, written, variables, cut, spells, with, each) = made language files origin.file is.profiles is.places is.read is.stand in
    let (source, among, own) = nth-profile language variables written.profiles is.profiles is.places is.at profile is.own each is.among is.beside in
    subst (λ p. AreWrittenIn language files origin.file child (rules_at profile child) (places_by p child)) (sym is.kept)
    (by child stands tokens written variables cut spells with source among own)
  where
    by : (child : Option ℕ) → StandsAt profile child → (tokens : List Placed) (written : WrittenFile) (variables : List Variable)
        → spliced files origin.file ≡ Ok tokens → file language tokens ≡ Ok written
        → variables_of written.assignments (of_profiles written.profiles) ≡ Ok variables
        → (source : WrittenProfile) → Contains written.profiles source → IsProfileMadeAt language variables source profile is.own
        → AreWrittenIn language files origin.file child (rules_at profile child) (places_in is.own child)
    by None stands tokens written variables cut spells with source among own = (
      variables,
      rules_in source.members,
      record { tokens = tokens; written = written; profile = source; spelled = cut; made = spells; with = with; among = among; is = refl },
      own.0,
    )
    by (Some place) stands tokens written variables cut spells with source among own =
        let (inner, beside, first, second, rules) =
        nth-child language variables (children_in source.members) profile.children is.own.children place stands.0 own.2 stands.1 in (
          variables,
          inner.rules,
          record {
            tokens = tokens;
            written = written;
            profile = source;
            spelled = cut;
            made = spells;
            with = with;
            among = among;
            is = ap (option_map (λ (c : WrittenChild). c.rules)) first;
          },
          subst (λ (o : Option Child). AreMadeAt language variables inner.rules (child_rules o) (section_rules (slice_get is.own.children place))) (sym stands.1)
              (subst (λ (o : Option SectionPlaces). AreMadeAt language variables inner.rules stands.0.rules (section_rules o)) (sym second) rules.0),
        )

-- the parts of a profile that was read
module _ (made : FilesAreMade) (language : Language) (files : List File) (entry : Loaded) (origin : Origin) (is : IsReadAt language files entry.profile origin) where
  abbrev profile : Profile
  profile = entry.profile

  children-written : (at : ℕ) (children : List Child) → ((k : ℕ) → slice_get children k ≡ slice_get profile.children (at + k))
      → All (IsPartWritten language files) (child_parts (Some origin) entry at children)
  children-written at [] same = All-nil (IsPartWritten language files)
  children-written at (child ∷ children) same =
      let there : slice_get profile.children at ≡ Some child = ap (slice_get profile.children) (sym (add-zero at)) ∙ sym (same 0) in
      All-cons (IsPartWritten language files) (child_part (Some origin) entry at child) (child_parts (Some origin) entry (at + 1) children) (
        Some at,
        subst (λ (o : Option Child). AreWrittenIn language files origin.file (Some at) (child_rules o) (rule_places (Some origin) (Some at))) there
            (written-in made language files profile origin (Some at) is (child, there)),
      )
      (children-written (at + 1) children (λ k. same (suc k) ∙ ap (slice_get profile.children) (more k)))
    where
      more : (k : ℕ) → at + suc k ≡ at + 1 + k
      more k = omega arith

  parts-written : All (IsPartWritten language files) (profile_parts (Some origin) entry)
  parts-written =
      All-cons (IsPartWritten language files) (profile_part (Some origin) entry) (child_parts (Some origin) entry 0 profile.children)
      (None, written-in made language files profile origin None is tt)
      (children-written 0 profile.children (λ k. ap (slice_get profile.children) (sym (zero-add k))))

-- those of a policy set
set-written : FilesAreMade → (language : Language) (files : List File) (entries : List Loaded) (origins : List Origin) → AreReadAt language files entries origins
    → All (IsPartWritten language files) (set_parts entries origins)
set-written made language files [] [] all = All-nil (IsPartWritten language files)
set-written made language files [] (origin ∷ origins) all = absurd all
set-written made language files (entry ∷ entries) [] all = absurd all
set-written made language files (entry ∷ entries) (origin ∷ origins) all =
    All-append (IsPartWritten language files) (profile_parts (Some origin) entry) (set_parts entries origins)
    (parts-written made language files entry origin all.0) (set-written made language files entries origins all.1)

pub folder-written : ChangesKeepNamesApart → FilesAreMade → (folder : Folder) → All (IsPartWritten folder.language folder.files) (parts_in folder)
folder-written keeps made folder = set-written made folder.language folder.files (policy_in folder) (origins_in folder) (folder-read keeps made folder)

pub named-at : ChangesKeepNamesApart → FilesAreMade → (folder : Folder) (name : List ℕ) (entry : Loaded) → entry_named name (policy_in folder) ≡ Some entry
    → IsFoundAt folder.language folder.files (origins_in folder) name entry.profile
named-at keeps made folder name entry is = found-at folder.language folder.files name (policy_in folder) (origins_in folder) entry (folder-read keeps made folder) is
