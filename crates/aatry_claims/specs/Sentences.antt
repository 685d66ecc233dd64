-- What is told of who is asked about (docs/aatry.md, "`aatry never` and `aatry always`").
use Rattle.std.specs.Prelude.{ℕ, Bool, true, false, if◌then◌else◌, List, [], ◌∷◌, ◌++◌, Option, None, Some, codes}
use Rattle.aa_explain_paths.specs.Answers.{Breaking, seen_breaking}
use Rattle.aa_explain_paths.specs.declared.question.Claim.{Claim}
use Rattle.aa_explain_paths.specs.declared.question.Claim.TheVariants.{Always, Never}
use Rattle.aa_explain_paths.specs.declared.question.PathAnswer.{PathAnswer}
use Rattle.aa_explain_paths.specs.declared.question.PathAnswer.TheVariants.{Fails, Holds, TooMany}
use Rattle.aa_profile_data.specs.Access.{letters_of}
use Rattle.aa_profile_data.specs.declared.profile.Mode.{Mode}
use Rattle.aa_profile_data.specs.declared.profile.Mode.TheVariants as mode
use Rattle.aatry_policy.specs.Parts.{Part}
use Rattle.aatry_report.specs.Fields.{Bytes, Member, MemberWord, Number, Said, Text, Word, Words, told}
use Rattle.aatry_report.specs.Shown.{shown}
use Rattle.aatry_report.specs.declared.form.Form.{Form}
use Rattle.aatry_claims.specs.Claimed.{Claimed}
use Rattle.aatry_claims.specs.Found.{Found}
use Rattle.aatry_claims.specs.Letters.{letter_words}
use Rattle.aatry_claims.specs.declared.found.Finding.{Finding}
use Rattle.aatry_claims.specs.declared.found.Finding.TheVariants.{Absent, ByRules}

-- the word of an answer where the claim holds
abbrev pub claim_word : Claim → List ℕ
claim_word Never = codes "never"
claim_word Always = codes "always"

-- whether the file is the task's user's, in a word
abbrev pub owner_word : Bool → List ℕ
owner_word true = codes "owner"
owner_word false = codes "other"

-- whose file it is, after its path, where it is the task's user's
abbrev pub owner_note : Bool → List ℕ
owner_note owned = if owned then codes ", of the owner" else []

-- nobody has a name
abbrev pub absent_told : Form → List ℕ → List ℕ
absent_told form name = told form (codes "absent") (Words (codes "absent: nobody has the name ") ∷ Text (codes "name") name ∷ [])

-- the words on a mode, where it isn't enforce mode; there is none where it is disabled
abbrev pub mode_words : Option Mode → List ℕ
mode_words (Some mode.Enforce) = []
mode_words (Some mode.Complain) = codes "; it is in complain mode, and asked as in enforce mode"
mode_words (Some mode.Unconfined) = codes "; it is in mode unconfined, and none of its rules is asked"
mode_words None = codes "; it is disabled, and none of its rules is asked"

abbrev pub mode_note : Option Part → List ℕ
mode_note None = []
mode_note (Some part) = mode_words part.section.mode

-- the mode in a word, or `disabled`; and in the record
abbrev pub mode_word : Option Mode → List ℕ
mode_word (Some mode.Enforce) = codes "enforce"
mode_word (Some mode.Complain) = codes "complain"
mode_word (Some mode.Unconfined) = codes "unconfined"
mode_word None = codes "disabled"

abbrev pub mode_field : Option Part → Said
mode_field None = Words []
mode_field (Some part) = MemberWord (codes "mode") (mode_word part.section.mode)

-- the words between letters, and on which paths are meant, where the claim holds
abbrev pub holds_between : Claim → List ℕ
holds_between Never = codes " or "
holds_between Always = codes " and "

abbrev pub holds_which : Claim → List ℕ
holds_which Never = codes " no path that "
holds_which Always = codes " each path that "

-- the words behind the name of one for whom the claim holds
abbrev pub holds_words : Claimed → List ℕ
holds_words claimed =
    codes " may " ++ letter_words claimed.words.letters (holds_between claimed.claim) ++ holds_which claimed.claim ++ shown claimed.words.pattern
    ++ codes " matches (kinds of paths: "

-- the claim holds for who has a name, by the words behind that, and those on the mode
unfoldable pub holds_by : Form → (answer name words : List ℕ) → ℕ → (note : List ℕ) → Said → List ℕ
holds_by form answer name words count note mode =
    told form (codes "paths")
    (Word (codes "answer") answer ∷ Words (codes ": ") ∷ Text (codes "who") name ∷ Bytes words ∷ Number (codes "kinds") count ∷ Words (codes ")")
    ∷ Words note ∷ mode ∷ [])

abbrev pub holds_told : Form → Claimed → Found → ℕ → List ℕ
holds_told form claimed found count =
    holds_by form (claim_word claimed.claim) found.name (holds_words claimed) count (mode_note found.part) (mode_field found.part)

-- the words on what a path that breaks the claim allows or doesn't allow, and those between its letters
abbrev pub breaking_may : Claim → List ℕ
breaking_may Never = codes " may "
breaking_may Always = codes " may not "

abbrev pub breaking_between : Claim → List ℕ
breaking_between Never = codes " and "
breaking_between Always = codes " or "

-- the words before a path that breaks the claim
abbrev pub breaking_words : Claim → ℕ → List ℕ
breaking_words claim letters = breaking_may claim ++ letter_words letters (breaking_between claim) ++ codes " "

-- a path breaks the claim for who has a name, by the words between them, whose file it is, and its letters
unfoldable pub breaking_by : Form → (name words path owned letters note : List ℕ) → Said → List ℕ
breaking_by form name words path owned letters note mode =
    told form (codes "paths")
    (Word (codes "answer") (codes "no") ∷ Words (codes ": ") ∷ Text (codes "who") name ∷ Bytes words ∷ Text (codes "path") path ∷ Words (codes " (")
    ∷ Word (codes "owned") owned ∷ Words (codes ")") ∷ Words note ∷ Member (codes "letters") letters ∷ mode ∷ [])

abbrev pub breaking_told : Form → Claim → Found → Breaking → List ℕ
breaking_told form claim found breaking =
    breaking_by form found.name (breaking_words claim breaking.letters) breaking.path (owner_word breaking.owned) (letters_of breaking.letters)
    (mode_note found.part) (mode_field found.part)

-- what is told of who is asked about, by what is found
abbrev pub finding_told : Form → Claimed → Found → Finding → List ℕ
finding_told form claimed found Absent =
    told form (codes "paths")
    (Word (codes "answer") (codes "absent") ∷ Words (codes ": nobody has the name ") ∷ Text (codes "who") found.name ∷ [])
finding_told form claimed found (ByRules (Holds count)) = holds_told form claimed found count
finding_told form claimed found (ByRules (Fails breaking)) = breaking_told form claimed.claim found (seen_breaking breaking)
finding_told form claimed found (ByRules TooMany) =
    told form (codes "paths")
    (Word (codes "answer") (codes "many") ∷ Words (codes ": ") ∷ Text (codes "who") found.name
    ∷ Words (codes " has too many different paths: see --limit") ∷ Words (mode_note found.part) ∷ mode_field found.part ∷ [])

abbrev pub found_told : Form → Claimed → Found → List ℕ
found_told form claimed found = finding_told form claimed found found.finding

-- the claim holds for who was asked about
abbrev pub rules_hold : PathAnswer → Bool
rules_hold (Holds count) = true
rules_hold (Fails breaking) = false
rules_hold TooMany = false

abbrev pub is_held : Finding → Bool
is_held Absent = false
is_held (ByRules answer) = rules_hold answer

-- the claim is undecided, since there were too many paths
abbrev pub is_undecided : Finding → Bool
is_undecided (ByRules TooMany) = true
is_undecided (ByRules (Holds count)) = false
is_undecided (ByRules (Fails breaking)) = false
is_undecided Absent = false
