-- What a comparison of two folders comes to, by how they are loaded, and by their paths.
use Rattle.std.proofs.Common.{◌≡◌, ℕ, Bool, List, subst}
use Rattle.aa_decide_ready.specs.Entries.{Loaded}
use Rattle.aa_profile_parsing.specs.declared.language.Language.{Language}
use Rattle.aa_start.specs.Gathering.{names_of}
use Rattle.aa_start.specs.Known.{Known}
use Rattle.aatry_arguments.specs.DiffAllWords.{PathComparisonAsked}
use Rattle.aatry_folder.specs.Loadings.{AreTop}
use Rattle.aatry_folder.specs.PolicyFolders.{AreBelow, tried_names}
use Rattle.aatry_folder.specs.Told.{ToldFolders}
use Rattle.aatry_claims.specs.Never.{PathsReport}
use Rattle.aatry_policy.specs.FolderParts.{FolderParts}
use Rattle.aatry_policy.specs.Folders.{Folder, folder_at}
use Rattle.aatry_report.specs.declared.form.Form.{Form}
use Rattle.aatry_uncertain.specs.LeftOutHeads.{LeftOutHead}
use Rattle.aatry_diff_paths.specs.Below.{ArePathsCompared, How, IsCompared, IsFoundTold, how_of}

-- what is found and told is of what equals it
pub told-by : (form : Form) (how : How) (heads heads' : List LeftOutHead) (old old' new new' : FolderParts) (old-set old-set' new-set new-set' : List Loaded)
    (who who' : List (List ℕ)) (before before' after : List ℕ) (otherwise undecided : Bool)
    → heads ≡ heads' → old ≡ old' → new ≡ new' → old-set ≡ old-set' → new-set ≡ new-set' → who ≡ who' → before ≡ before'
    → IsFoundTold form how heads old new old-set new-set who before after otherwise undecided
    → IsFoundTold form how heads' old' new' old-set' new-set' who' before' after otherwise undecided
told-by form how heads heads' old old' new new' old-set old-set' new-set new-set' who who' before before' after otherwise undecided
    same-heads same-old same-new same-old-set same-new-set same-who same-before told =
    subst (λ (b : List ℕ). IsFoundTold form how heads' old' new' old-set' new-set' who' b after otherwise undecided) same-before
    (subst (λ (w : List (List ℕ)). IsFoundTold form how heads' old' new' old-set' new-set' w before after otherwise undecided) same-who
    (subst (λ (s : List Loaded). IsFoundTold form how heads' old' new' old-set' s who before after otherwise undecided) same-new-set
    (subst (λ (s : List Loaded). IsFoundTold form how heads' old' new' s new-set who before after otherwise undecided) same-old-set
    (subst (λ (n : FolderParts). IsFoundTold form how heads' old' n old-set new-set who before after otherwise undecided) same-new
    (subst (λ (o : FolderParts). IsFoundTold form how heads' o new old-set new-set who before after otherwise undecided) same-old
    (subst (λ (h : List LeftOutHead). IsFoundTold form how h old new old-set new-set who before after otherwise undecided) same-heads told))))))

pub compared : (form : Form) (verbose : Bool) (language : Language) (folders : ToldFolders) (known : Known) (asked : PathComparisonAsked) (told : PathsReport)
    (before after : Folder)
    → before.language ≡ language → after.language ≡ language → before.base ≡ asked.old → after.base ≡ asked.new
    → AreBelow folders known asked.old before.files before.unread → AreBelow folders known asked.new after.files after.unread
    → AreTop folders asked.old (tried_names (names_of before.files) before.unread) before.top → AreTop folders asked.new (tried_names (names_of after.files) after.unread) after.top
    → IsCompared form verbose (how_of asked) asked.who before after told
    → ArePathsCompared form verbose language folders known asked told
compared form verbose language folders known asked told before after read also old-base new-base old-below new-below old-top new-top right =
    let old : before ≡ folder_at language asked.old before.files before.unread before.top =
    λ i. record { language = read i; files = before.files; unread = before.unread; base = old-base i; top = before.top } in
    let new : after ≡ folder_at language asked.new after.files after.unread after.top =
    λ i. record { language = also i; files = after.files; unread = after.unread; base = new-base i; top = after.top } in
    record {
      old_files = before.files;
      new_files = after.files;
      old_unread = before.unread;
      new_unread = after.unread;
      old_below = old-below;
      new_below = new-below;
      old_top = before.top;
      new_top = after.top;
      old_loaded = old-top;
      new_loaded = new-top;
      compared =
          subst (λ (n : Folder). IsCompared form verbose (how_of asked) asked.who (folder_at language asked.old before.files before.unread before.top) n told) new
          (subst (λ (o : Folder). IsCompared form verbose (how_of asked) asked.who o after told) old right);
    }
