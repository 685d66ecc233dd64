use Rattle.std.proofs.Common.{◌≡◌, ◌∙◌, ◌++◌, ℕ, List, [], arith, length, length-append, subst}
use Rattle.std.specs.Prelude.{IfSome}
use Rattle.std.proofs.lemmas.Result.{IfOk-weaker}
use Rattle.aa_explain_paths.specs.Meant.{unasked_patterns}
use Rattle.aa_explain_paths.specs.Telling.{classes_among, telling_among}
use Rattle.aa_glob_paths.specs.AllPaths.{TellAllPaths}
use Rattle.aa_glob_paths.specs.TooMany.{AreMoreTextsThan}
use Rattle.aa_profile_data.specs.FileRules.{file_patterns}
use Rattle.aa_explain_reach.proofs.standing.standing_among.Goals as goal

pub standing_paths-requires : goal.standing_paths-requires
standing_paths-requires c =
    let files = file_patterns c.args.rules.now in
    let others = c.args.others.now in
    let counted : length (files ++ others) ≡ c.in-Some.count = omega (arith, length-append files others, c.in-Some.ensures.1, c.file_count.ensures.counted) in
    (files ++ others, c.in_ok-all.ensures files (c.in_ok-files.ensures [] c.in_ok-none.ensures), counted)

pub returns-clause-told : goal.returns-clause-told
returns-clause-told c =
    let files = file_patterns c.args.rules.now in
    let others = c.args.others.now in
    let wanted = c.args.wanted.now in
    let counted : length (files ++ others) ≡ c.in-Some.count = omega (arith, length-append files others, c.in-Some.ensures.1, c.file_count.ensures.counted) in
    let built = c.in_ok-all.ensures files (c.in_ok-files.ensures [] c.in_ok-none.ensures) in
    let is : c.deref.result.now ≡ unasked_patterns = c.deref.ensures.value ∙ c.in_ok-unasked.ensures in
    IfOk-weaker c.standing_paths.result _ _
    (λ found told.
    subst (λ (u : List (List ℕ)). IfSome found (λ outcomes. TellAllPaths (telling_among (files ++ others) wanted u) (classes_among (files ++ others) wanted u) outcomes.items)) is
    (told (files ++ others) built counted))
    c.standing_paths.ensures.told

pub returns-clause-full : goal.returns-clause-full
returns-clause-full c =
    let files = file_patterns c.args.rules.now in
    let others = c.args.others.now in
    let wanted = c.args.wanted.now in
    let counted : length (files ++ others) ≡ c.in-Some.count = omega (arith, length-append files others, c.in-Some.ensures.1, c.file_count.ensures.counted) in
    let built = c.in_ok-all.ensures files (c.in_ok-files.ensures [] c.in_ok-none.ensures) in
    let is : c.deref.result.now ≡ unasked_patterns = c.deref.ensures.value ∙ c.in_ok-unasked.ensures in
    IfOk-weaker c.standing_paths.result _ _
    (λ found full none.
    subst (λ (u : List (List ℕ)). AreMoreTextsThan (telling_among (files ++ others) wanted u) c.args.limit) is (full (files ++ others) built counted none))
    c.standing_paths.ensures.full
