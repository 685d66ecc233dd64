-- The rules that allow the requests of logs, as they are printed (docs/aatry.md).
use Rattle.std.specs.Prelude.{◌≡◌, ℕ, Bool, List, [], ◌∷◌, ◌++◌, if◌then◌else◌, Option, None, Some, flat_map, map}
use Rattle.aa_decide_ready.specs.Entries.{Loaded}
use Rattle.aatry_abstractions.specs.Letting.{IsNarrowestFirst, Letting, lettings}
use Rattle.aatry_log_rules.specs.Findings.{finding_of}
use Rattle.aatry_log_rules.specs.Found.{rule_text}
use Rattle.aatry_log_rules.specs.Gathered.{IsGathered, Wants}
use Rattle.aatry_log_rules.specs.Headings.{file_for, heading_text, is_of}
use Rattle.aatry_log_rules.specs.Offers.{offers}
use Rattle.aatry_log_rules.specs.Unlet.{question_of, unlet_text}
use Rattle.aatry_log_rules.specs.Wider.{told_with, wider_for, wider_text}
use Rattle.aatry_log_rules.specs.Wanted.{IsByWho, Wanted}
use Rattle.aatry_log_rules.specs.declared.finding.Finding.{Finding}
use Rattle.aatry_log_rules.specs.declared.finding.Finding.TheVariants as finding
use Rattle.aatry_log_rules.specs.declared.finding.NoRule.TheVariants.{Denied}
use Rattle.aatry_policy.specs.Folders.{Folder, origins_in, policy_in}
use Rattle.aatry_policy.specs.declared.origins.Origin.{Origin}
use Rattle.aatry_report.specs.declared.form.Form.{Form}
use Rattle.aatry_requests.specs.Tallies.{Tally}

-- the finding for a wanted request, by the path of the file: the rule, or why there is none
abbrev pub finding_text : Form → List ℕ → Wanted → Finding → Option (List ℕ) → List ℕ
finding_text form path wanted (finding.Missing rule) wider = rule_text form path wanted rule wider
finding_text form path wanted (finding.None reason) wider = unlet_text form reason (question_of wanted) wanted.times

-- the finding followed by the wider rule, if one is asked for, there is one, and it isn't printed yet
abbrev pub found_text : Form → List ℕ → Wanted → Finding → Option (List ℕ) → List (List ℕ) → List ℕ
found_text form path wanted found wider told = finding_text form path wanted found wider ++ wider_text form told wider

-- What the printing of rules needs: its form, whether wider rules are asked for, the folder's path, where its profiles were read, the policy set,
-- all wanted requests, and the abstractions that allow some of them.
pub record Telling : Type 0 where
  pub form : Form
  pub globs : Bool
  pub base : List ℕ
  pub origins : List Origin
  pub entries : List Loaded
  pub wanted : List Wanted
  pub lettings : List Letting

-- the heading of an asker's rules, and the abstractions that allow some of its wanted requests
abbrev pub opening : Telling → List ℕ → List ℕ → List ℕ
opening telling path who = heading_text telling.form path who ++ offers telling.form telling.wanted telling.lettings path who

-- the heading and the abstractions, where the last rule was another asker's
abbrev pub opening_behind : Telling → Option (List ℕ) → List ℕ → List ℕ → List ℕ
opening_behind telling last path who = if is_of last who then [] else opening telling path who

-- the wider rules that are printed for the asker: none yet, where the last rule was another asker's
abbrev pub told_of : Option (List ℕ) → List ℕ → List (List ℕ) → List (List ℕ)
told_of last who told = if is_of last who then told else []

-- the finding for a wanted request, and the wider rule than that, if there is one and it is asked for
abbrev pub found_for : Telling → Wanted → Finding
found_for telling wanted = finding_of telling.entries wanted

abbrev pub wider_of : Telling → Wanted → Option (List ℕ)
wider_of telling wanted = wider_for telling.globs wanted.request (found_for telling wanted)

-- A wanted request, after the heading of its asker, where the last rule was another asker's; these wider rules are printed for the last asker.
abbrev pub wanted_text : Telling → Option (List ℕ) → List (List ℕ) → Wanted → List ℕ
wanted_text telling last told wanted =
    let path = file_for telling.base telling.origins wanted.who in
    opening_behind telling last path wanted.who
    ++ found_text telling.form path wanted (found_for telling wanted) (wider_of telling wanted) (told_of last wanted.who told)

-- the wider rules that are printed for the asker after that
abbrev pub told_behind : Telling → Option (List ℕ) → List (List ℕ) → Wanted → List (List ℕ)
told_behind telling last told wanted = told_with (wider_of telling wanted) (told_of last wanted.who told)

-- all wanted requests, in this order
abbrev pub wanted_texts : Telling → Option (List ℕ) → List (List ℕ) → List Wanted → List ℕ
wanted_texts telling last told [] = []
wanted_texts telling last told (wanted ∷ more) =
    wanted_text telling last told wanted ++ wanted_texts telling (Some wanted.who) (told_behind telling last told wanted) more

-- a request of which a rule denies something
abbrev pub denied_one : Form → Tally → List ℕ
denied_one form tally = unlet_text form Denied tally.question tally.times

abbrev pub denied_text : Form → List Tally → List ℕ
denied_text form tallies = flat_map (denied_one form) tallies

-- the abstractions of a folder that allow some of the wanted requests, the narrowest first
abbrev pub AreOffered : Folder → List Wanted → List Letting → Type 0
AreOffered folder wanted found = IsNarrowestFirst (lettings folder.language folder.files (map (λ one. one.request) wanted)) found

-- the printing of wanted requests in a folder, in this order, with these abstractions
abbrev pub telling_of : Form → Bool → Folder → List Wanted → List Letting → Telling
telling_of form globs folder wanted found = record {
  form = form;
  globs = globs;
  base = folder.base;
  origins = origins_in folder;
  entries = policy_in folder;
  wanted = wanted;
  lettings = found;
}

-- A text is followed by the rules that allow some requests which lack something, by their askers, with abstractions that allow some, and with wider
-- rules where these are asked for, and the requests of which a rule denies something; so many have an asker that isn't in the folder.
pub record AreRulesTold (form : Form) (globs : Bool) (folder : Folder) (tallies : List Tally) (before text : List ℕ) (nobody : ℕ) : Type 0 where
  pub wants : Wants
  pub gathered : IsGathered (policy_in folder) tallies wants
  pub wanted : List Wanted
  pub order : IsByWho wants.wanted wanted
  pub found : List Letting
  pub offered : AreOffered folder wanted found
  pub text_is : text ≡ before ++ wanted_texts (telling_of form globs folder wanted found) None [] wanted ++ denied_text form wants.denied
  pub counted : nobody ≡ wants.nobody
