-- The commands, and the options of each; and the first option among some that is unknown, or that a command doesn't take.
use Rattle.std.specs.Prelude.{ℕ, Bool, ◌||◌, if◌then◌else◌, List, [], ◌∷◌, Option, Some, None, codes}
use Rattle.std.specs.Str.{bytes_eq}
use Rattle.aatry_hints.specs.Options.{is_known, is_word_of}
use Rattle.aatry_hints.specs.Parts.{Given, Part, Plain}

-- the commands, as help lists them
abbrev pub commands : List (List ℕ)
commands =
    codes "check" ∷ codes "why" ∷ codes "log" ∷ codes "who" ∷ codes "never" ∷ codes "always" ∷ codes "reach" ∷ codes "diff" ∷ codes "session" ∷ codes "test" ∷ []

-- the options that every command takes
abbrev pub common_options : List (List ℕ)
common_options = codes "--language" ∷ codes "--color" ∷ codes "--help" ∷ codes "-h" ∷ []

-- the options that some take: of `check`, of `why` and `who`, of `log`, of `never` and `always`, of `reach`, and of `diff`
abbrev pub check_options : List (List ℕ)
check_options = codes "-b" ∷ codes "--json" ∷ codes "--verbose" ∷ codes "--rules" ∷ codes "--included" ∷ codes "--limit" ∷ []

abbrev pub asking_options : List (List ℕ)
asking_options = codes "-b" ∷ codes "--json" ∷ codes "--verbose" ∷ []

abbrev pub log_options : List (List ℕ)
log_options =
    codes "-b" ∷ codes "--json" ∷ codes "--verbose" ∷ codes "--denied" ∷ codes "--profile" ∷ codes "--since" ∷ codes "--rules" ∷ codes "--globs"
    ∷ codes "--strict" ∷ []

abbrev pub claim_options : List (List ℕ)
claim_options = codes "-b" ∷ codes "--json" ∷ codes "--verbose" ∷ codes "--names" ∷ codes "--limit" ∷ []

abbrev pub reach_options : List (List ℕ)
reach_options = codes "-b" ∷ codes "--json" ∷ codes "--verbose" ∷ codes "--dot" ∷ codes "--limit" ∷ []

abbrev pub diff_options : List (List ℕ)
diff_options =
    codes "--json" ∷ codes "--verbose" ∷ codes "--log" ∷ codes "--questions" ∷ codes "--stat" ∷ codes "--all" ∷ codes "--quiet-audit" ∷ codes "--limit" ∷ []

-- the options that a command takes beside those of every command; none where no command has the name
abbrev pub own_options : List ℕ → Option (List (List ℕ))
own_options command =
    if bytes_eq command (codes "check") then Some check_options else
    if bytes_eq command (codes "why") then Some asking_options else
    if bytes_eq command (codes "log") then Some log_options else
    if bytes_eq command (codes "who") then Some asking_options else
    if bytes_eq command (codes "never") then Some claim_options else
    if bytes_eq command (codes "always") then Some claim_options else
    if bytes_eq command (codes "reach") then Some reach_options else
    if bytes_eq command (codes "diff") then Some diff_options else
    if bytes_eq command (codes "session") then Some (codes "-b" ∷ []) else
    if bytes_eq command (codes "test") then Some (codes "-b" ∷ codes "--accept" ∷ []) else None

-- the options by the word in place of a command, if there is one
abbrev pub own_options_by : Option (List ℕ) → Option (List (List ℕ))
own_options_by None = None
own_options_by (Some command) = own_options command

-- a command with these options of its own takes an option
abbrev pub is_taken : List (List ℕ) → List ℕ → Bool
is_taken own name = is_word_of common_options name || is_word_of own name

-- the first part that has the form of an option and is none
abbrev pub unknown_in : List Part → Option (List ℕ)
unknown_in [] = None
unknown_in (Given name value ∷ more) = if is_known name then unknown_in more else Some name
unknown_in (Plain word ∷ more) = unknown_in more

-- the first option among some parts that a command with these options of its own doesn't take
abbrev pub not_taken_in : List (List ℕ) → List Part → Option (List ℕ)
not_taken_in own [] = None
not_taken_in own (Given name value ∷ more) = if is_taken own name then not_taken_in own more else Some name
not_taken_in own (Plain word ∷ more) = not_taken_in own more

-- the first option that the command doesn't take, if there is such a command
abbrev pub not_taken_by : Option (List (List ℕ)) → List Part → Option (List ℕ)
not_taken_by None parts = None
not_taken_by (Some own) parts = not_taken_in own parts
