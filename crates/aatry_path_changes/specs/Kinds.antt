-- In a word, what a change of policy changes of a profile, child or hat.
use Rattle.std.specs.Prelude.{Bool, false, true, not, ◌||◌, if◌then◌else◌, List, map, Option, None, Some, is_some}
use Rattle.std.specs.List.{list_any}
use Rattle.aa_bytes.specs.Texts.{is_empty}
use Rattle.aa_explain_changes.specs.declared.asking.FileChanges.{FileChanges}
use Rattle.aa_explain_changes.specs.declared.rules.RuleChange.{RuleChange as CodeRuleChange}
use Rattle.aa_explain_diff.specs.Features.{same_state}
use Rattle.aa_explain_changes.specs.declared.change.Change.{Change}
use Rattle.aa_explain_changes.specs.declared.change.Change.TheVariants.{Gained, Lost, Otherwise, Same}
use Rattle.aa_explain_start_changes.specs.declared.changes.StartChange.{StartChange}
use Rattle.aa_profile_data.specs.declared.profile.Mode.{Mode}
use Rattle.aa_profile_data.specs.declared.profile.Mode.TheVariants.{Complain, Enforce, Unconfined}
use Rattle.aatry_path_changes.specs.Finding.{Both, Finding, Found, OfAbsent, OfBoth, OfGone, OfNew}
use Rattle.aatry_path_changes.specs.Others.{has_gained, has_lost, is_gained, is_lost}
use Rattle.aatry_path_changes.specs.Starts.{has_gained_start, has_lost_start}
use Rattle.aatry_path_changes.specs.declared.kinds.Kind.{Kind}
use Rattle.aatry_path_changes.specs.declared.kinds.Kind.TheVariants as kind

-- a path is told of one of some rules
abbrev pub some_told : List CodeRuleChange → Bool
some_told changes = list_any (λ (c : CodeRuleChange). is_some c.change) changes

-- something is answered otherwise of files
abbrev pub differs_in_files : FileChanges → Bool
differs_in_files files = some_told files.old.items || some_told files.new.items

-- What a change of the mode alone changes: in complain mode more is let through than in enforce mode, and all is where no rule is asked, in mode unconfined or
-- disabled.
abbrev pub mode_change : Option Mode → Option Mode → Change
mode_change None None = Same
mode_change None (Some Enforce) = Lost
mode_change None (Some Complain) = Lost
mode_change None (Some Unconfined) = Otherwise
mode_change (Some Enforce) None = Gained
mode_change (Some Enforce) (Some Enforce) = Same
mode_change (Some Enforce) (Some Complain) = Gained
mode_change (Some Enforce) (Some Unconfined) = Gained
mode_change (Some Complain) None = Gained
mode_change (Some Complain) (Some Enforce) = Lost
mode_change (Some Complain) (Some Complain) = Same
mode_change (Some Complain) (Some Unconfined) = Gained
mode_change (Some Unconfined) None = Otherwise
mode_change (Some Unconfined) (Some Enforce) = Lost
mode_change (Some Unconfined) (Some Complain) = Lost
mode_change (Some Unconfined) (Some Unconfined) = Same

abbrev pub change_of_mode : Both → Change
change_of_mode both = mode_change both.part.section.mode both.other.section.mode

-- more is let through, beside files, by the mode or of what is no file; and less is
abbrev pub gained_beside : Both → Bool
gained_beside both = is_gained (change_of_mode both) || has_gained both.others

abbrev pub lost_beside : Both → Bool
lost_beside both = is_lost (change_of_mode both) || has_lost both.others

-- the modes differ, or something is answered otherwise of what is no file
abbrev pub differs_beside : Both → Bool
differs_beside both = not (same_state both.part.section.mode both.other.section.mode) || not (is_empty both.others)

-- by what is allowed now that wasn't, what isn't any more that was, and what else is answered otherwise
abbrev pub kind_by : Bool → Bool → Bool → Kind
kind_by gained lost otherwise =
    if gained then (if lost then kind.Both else kind.Wider) else if lost then kind.Narrower else if otherwise then kind.Otherwise else kind.Same

-- by what changes of files, and by the starts of programs that lead elsewhere
abbrev pub kind_with : Both → FileChanges → List StartChange → Kind
kind_with both files starts =
    kind_by ((files.gained || gained_beside both) || has_gained_start starts) ((files.lost || lost_beside both) || has_lost_start starts)
    ((differs_beside both || differs_in_files files) || not (is_empty starts))

abbrev pub kind_of_known : Both → Option FileChanges → Option (List StartChange) → Kind
kind_of_known both (Some files) (Some starts) = kind_with both files starts
kind_of_known both None starts = kind.TooMany
kind_of_known both (Some files) None = kind.TooMany

abbrev pub kind_of_both : Both → Kind
kind_of_both both = kind_of_known both both.files both.starts

-- what is found, in a word
abbrev pub kind_of : Finding → Kind
kind_of OfAbsent = kind.Absent
kind_of (OfGone part) = kind.Gone
kind_of (OfNew part) = kind.New
kind_of (OfBoth both) = kind_of_both both

abbrev pub is_same : Kind → Bool
is_same kind.Same = true
is_same kind.Wider = false
is_same kind.Narrower = false
is_same kind.Both = false
is_same kind.Otherwise = false
is_same kind.Gone = false
is_same kind.New = false
is_same kind.TooMany = false
is_same kind.Absent = false

-- paths are too many, of files or of starts
abbrev pub is_unknown : Both → Bool
is_unknown both = not (is_some both.files) || not (is_some both.starts)

-- nothing is known of the paths of somebody
abbrev pub is_undecided : Finding → Bool
is_undecided OfAbsent = false
is_undecided (OfGone part) = false
is_undecided (OfNew part) = false
is_undecided (OfBoth both) = is_unknown both

-- it is known that something differs of somebody: he is gone or new, or nobody has the name, or something is answered otherwise
abbrev pub files_differ : Option FileChanges → Bool
files_differ None = false
files_differ (Some files) = differs_in_files files

abbrev pub starts_differ : Option (List StartChange) → Bool
starts_differ None = false
starts_differ (Some starts) = not (is_empty starts)

abbrev pub both_differ : Both → Bool
both_differ both =
    if is_unknown both then (differs_beside both || files_differ both.files) || starts_differ both.starts else not (is_same (kind_of_both both))

abbrev pub is_otherwise : Finding → Bool
is_otherwise OfAbsent = true
is_otherwise (OfGone part) = true
is_otherwise (OfNew part) = true
is_otherwise (OfBoth both) = both_differ both

-- the same of somebody among some
abbrev pub has_undecided : List Found → Bool
has_undecided found = list_any (λ (f : Found). is_undecided f.finding) found

abbrev pub has_otherwise : List Found → Bool
has_otherwise found = list_any (λ (f : Found). is_otherwise f.finding) found

-- what is found of each, in a word
abbrev pub kinds_of : List Found → List Kind
kinds_of found = map (λ (f : Found). kind_of f.finding) found
