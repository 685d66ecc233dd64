-- What a comparison of two folders that were read comes to, by their paths.
use Rattle.std.proofs.Common.{◌≡◌, Bool, Option, ◌∙◌}
use Rattle.aa_profile_parsing.specs.declared.language.Language.{Language}
use Rattle.aa_start.specs.Gathering.{names_of}
use Rattle.aa_start.specs.Known.{Known}
use Rattle.aatry_arguments.specs.DiffWords.{ComparisonAsked}
use Rattle.aatry_diff.specs.Below.{IsComparedBelow, IsGathered}
use Rattle.aatry_diff.specs.Comparing.{diff_notes, diff_text, is_unchanged}
use Rattle.aatry_folder.specs.Loadings.{AreTop}
use Rattle.aatry_folder.specs.PolicyFolders.{AreBelow, tried_names}
use Rattle.aatry_folder.specs.Reports.{Report, failed_by}
use Rattle.aatry_folder.specs.Told.{ToldFolders}
use Rattle.aatry_policy.specs.Folders.{Folder, folder_at}
use Rattle.aatry_report.specs.declared.form.Form.{Form}
use Rattle.aatry_requests.specs.Gathering.{Gathered}

pub compared : (form : Form) (verbose : Bool) (language : Language) (folders : ToldFolders) (known : Known) (asked : ComparisonAsked) (report : Report)
    (before after : Folder) (requests : Option Gathered)
    → before.language ≡ language → after.language ≡ language → before.base ≡ asked.old → after.base ≡ asked.new
    → AreBelow folders known asked.old before.files before.unread → AreBelow folders known asked.new after.files after.unread
    → AreTop folders asked.old (tried_names (names_of before.files) before.unread) before.top → AreTop folders asked.new (tried_names (names_of after.files) after.unread) after.top
    → IsGathered known asked.source requests
    → report.text ≡ diff_text form verbose asked.stat before after requests → report.notes ≡ diff_notes before after
    → report.failed ≡ failed_by (is_unchanged before after requests)
    → IsComparedBelow form verbose language folders known asked report
compared form verbose language folders known asked report before after requests read also old-base new-base old-below new-below old-top new-top gathered told noted failed =
    let old : before ≡ folder_at language asked.old before.files before.unread before.top =
    λ i. record { language = read i; files = before.files; unread = before.unread; base = old-base i; top = before.top } in
    let new : after ≡ folder_at language asked.new after.files after.unread after.top =
    λ i. record { language = also i; files = after.files; unread = after.unread; base = new-base i; top = after.top } in
    record {
      old_files = before.files;
      new_files = after.files;
      old_unread = before.unread;
      new_unread = after.unread;
      old_below = old-below;
      new_below = new-below;
      old_top = before.top;
      new_top = after.top;
      old_loaded = old-top;
      new_loaded = new-top;
      requests = requests;
      gathered = gathered;
      told = told ∙ (λ i. diff_text form verbose asked.stat (old i) (new i) requests);
      noted = noted ∙ (λ i. diff_notes (old i) (new i));
      counted = failed ∙ (λ i. failed_by (is_unchanged (old i) (new i) requests));
    }
