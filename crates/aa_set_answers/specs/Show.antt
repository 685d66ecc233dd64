-- The lines that show a loaded profile, or a child or hat of it (docs/commands.md, "What is loaded").
use Rattle.std.specs.Prelude.{ℕ, Bool, if◌then◌else◌, List, [], ◌∷◌, ◌++◌, flat_map, Option, None, Some, codes, slice_get}
use Rattle.aa_bytes.specs.Bytes.{line_feed}
use Rattle.aa_profile_data.specs.declared.profile.Child.{Child}
use Rattle.aa_profile_data.specs.declared.profile.Rule.{Rule}
use Rattle.aa_bytes.specs.Quoting.{written_text}
use Rattle.aa_decide_ready.specs.Entries.{Loaded}
use Rattle.aa_set_answers.specs.Children.{lines_of_children}
use Rattle.aa_set_answers.specs.RuleLines.{rule_line, text_if}
use Rattle.aa_set_answers.specs.States.{written_state}

-- the first line, for a hat too: the full name and the state, and whether the flag `audit` is set
abbrev pub head_line : Loaded → Option ℕ → Bool → List ℕ
head_line loaded child audit = codes "profile " ++ written_state loaded child ++ text_if audit (codes " audit") ++ line_feed ∷ []

-- an attachment
abbrev pub attachment_text : List ℕ → List ℕ
attachment_text pattern = codes "attach " ++ written_text pattern

-- the line of an attachment
abbrev pub attachment_line : List ℕ → List ℕ
attachment_line pattern = codes "  " ++ attachment_text pattern ++ line_feed ∷ []

-- the lines of the attachments, and of the rules
abbrev pub body_lines : List (List ℕ) → List Rule → List ℕ
body_lines attachments rules = flat_map attachment_line attachments ++ flat_map rule_line rules

-- the word before the full name of a child or a hat
abbrev pub child_word : Bool → List ℕ
child_word hat = if hat then codes "  hat " else codes "  child "

-- the line of the child or hat at an index of a profile
abbrev pub child_line : Loaded → ℕ → Child → List ℕ
child_line loaded place child = child_word child.hat ++ written_state loaded (Some place) ++ line_feed ∷ []

-- the lines of a child or a hat itself; none where there is none
abbrev pub own_lines : Loaded → ℕ → Option Child → List ℕ
own_lines loaded place None = []
own_lines loaded place (Some child) = head_line loaded (Some place) child.audit ++ body_lines child.attachments child.rules

-- the lines of a profile, followed by those of its children and hats; or the lines of its child or hat at an index
abbrev pub show_lines : Loaded → Option ℕ → List ℕ
show_lines loaded None =
    head_line loaded None loaded.profile.audit
    ++ body_lines loaded.profile.attachments loaded.profile.rules ++ lines_of_children (child_line loaded) loaded.profile.children
show_lines loaded (Some place) = own_lines loaded place (slice_get loaded.profile.children place)
