use Rattle.std.proofs.Common.{◌≡◌, ◌∙◌, ℕ, List, [], subst, sym}
use Rattle.std.specs.Prelude.{IfSome}
use Rattle.std.proofs.lemmas.Result.{IfOk-weaker}
use Rattle.aa_explain_paths.specs.Meant.{unasked_patterns}
use Rattle.aa_explain_paths.specs.Telling.{classes_among, telling_among}
use Rattle.aa_glob_paths.specs.AllPaths.{TellAllPaths}
use Rattle.aa_glob_paths.specs.TooMany.{AreMoreTextsThan}
use Rattle.aa_profile_data.specs.FileRules.{file_patterns}
use Rattle.aa_explain_redundant.specs.Left.{numbered}
use Rattle.aa_explain_redundant.specs.Seen.{seen_written}
use Rattle.aa_explain_redundant.specs.Trying.{tried_patterns}
use Rattle.aa_explain_redundant.proofs.asking.trying_outcomes.Goals as goal

pub standing_paths-requires : goal.standing_paths-requires
standing_paths-requires c = (file_patterns c.args.rules.rules.now, c.in_ok-files.ensures [] c.in_ok-none.ensures, sym c.file_count.ensures.counted)

pub returns-clause-told : goal.returns-clause-told
returns-clause-told c =
    let files = file_patterns c.args.rules.rules.now in
    let wanted = tried_patterns c.args.tried.now (numbered (seen_written c.args.rules)) in
    let is : c.deref.result.now ≡ unasked_patterns = c.deref.ensures.value ∙ c.in_ok-unasked.ensures in
    IfOk-weaker c.standing_paths.result _ _
    (λ found told.
    subst (λ (u : List (List ℕ)). IfSome found (λ outcomes. TellAllPaths (telling_among files wanted u) (classes_among files wanted u) outcomes.items)) is
    (subst (λ (w : List (List ℕ)). IfSome found (λ outcomes. TellAllPaths (telling_among files w c.deref.result.now) (classes_among files w c.deref.result.now) outcomes.items)) c.requires
    (told files (c.in_ok-files.ensures [] c.in_ok-none.ensures) (sym c.file_count.ensures.counted))))
    c.standing_paths.ensures.told

pub returns-clause-full : goal.returns-clause-full
returns-clause-full c =
    let files = file_patterns c.args.rules.rules.now in
    let wanted = tried_patterns c.args.tried.now (numbered (seen_written c.args.rules)) in
    let is : c.deref.result.now ≡ unasked_patterns = c.deref.ensures.value ∙ c.in_ok-unasked.ensures in
    IfOk-weaker c.standing_paths.result _ _
    (λ found full none.
    subst (λ (u : List (List ℕ)). AreMoreTextsThan (telling_among files wanted u) c.args.limit) is
    (subst (λ (w : List (List ℕ)). AreMoreTextsThan (telling_among files w c.deref.result.now) c.args.limit) c.requires
    (full files (c.in_ok-files.ensures [] c.in_ok-none.ensures) (sym c.file_count.ensures.counted) none)))
    c.standing_paths.ensures.full
