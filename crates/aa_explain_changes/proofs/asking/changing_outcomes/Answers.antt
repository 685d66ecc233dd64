use Rattle.std.proofs.Common.{◌≡◌, ◌∙◌, ◌++◌, ℕ, List, [], arith, length, length-append, subst}
use Rattle.std.specs.Prelude.{IfSome}
use Rattle.std.proofs.lemmas.Result.{IfOk-weaker}
use Rattle.aa_explain_changes.specs.Lone.{lone_patterns}
use Rattle.aa_explain_changes.specs.Sides.{seen_sides}
use Rattle.aa_explain_paths.specs.Meant.{unasked_patterns}
use Rattle.aa_explain_paths.specs.Telling.{classes_among, telling_among}
use Rattle.aa_glob_paths.specs.AllPaths.{TellAllPaths}
use Rattle.aa_glob_paths.specs.TooMany.{AreMoreTextsThan}
use Rattle.aa_profile_data.specs.FileRules.{file_patterns}
use Rattle.aa_explain_changes.proofs.asking.changing_outcomes.Goals as goal

pub standing_paths-requires : goal.standing_paths-requires
standing_paths-requires c =
    let before = file_patterns c.args.sides.old.rules.now in
    let now = file_patterns c.args.sides.new.rules.now in
    let counted : length (before ++ now) ≡ c.in-Some.count =
    omega (arith, length-append before now, c.in-Some.ensures.1, c.file_count.ensures.counted, c.file_count-2.ensures.counted) in
    (before ++ now, c.in_ok-both.ensures before (c.in_ok-before.ensures [] c.in_ok-none.ensures), counted)

pub returns-clause-told : goal.returns-clause-told
returns-clause-told c =
    let before = file_patterns c.args.sides.old.rules.now in
    let now = file_patterns c.args.sides.new.rules.now in
    let files = before ++ now in
    let lone = lone_patterns (seen_sides c.args.sides) in
    let counted : length files ≡ c.in-Some.count =
    omega (arith, length-append before now, c.in-Some.ensures.1, c.file_count.ensures.counted, c.file_count-2.ensures.counted) in
    let built = c.in_ok-both.ensures before (c.in_ok-before.ensures [] c.in_ok-none.ensures) in
    let is : c.deref.result.now ≡ unasked_patterns = c.deref.ensures.value ∙ c.in_ok-unasked.ensures in
    IfOk-weaker c.standing_paths.result _ _
    (λ found told.
    subst (λ (u : List (List ℕ)). IfSome found (λ outcomes. TellAllPaths (telling_among files lone u) (classes_among files lone u) outcomes.items)) is
    (subst (λ (w : List (List ℕ)). IfSome found (λ outcomes. TellAllPaths (telling_among files w c.deref.result.now) (classes_among files w c.deref.result.now) outcomes.items)) c.requires
    (told files built counted)))
    c.standing_paths.ensures.told

pub returns-clause-full : goal.returns-clause-full
returns-clause-full c =
    let before = file_patterns c.args.sides.old.rules.now in
    let now = file_patterns c.args.sides.new.rules.now in
    let files = before ++ now in
    let lone = lone_patterns (seen_sides c.args.sides) in
    let counted : length files ≡ c.in-Some.count =
    omega (arith, length-append before now, c.in-Some.ensures.1, c.file_count.ensures.counted, c.file_count-2.ensures.counted) in
    let built = c.in_ok-both.ensures before (c.in_ok-before.ensures [] c.in_ok-none.ensures) in
    let is : c.deref.result.now ≡ unasked_patterns = c.deref.ensures.value ∙ c.in_ok-unasked.ensures in
    IfOk-weaker c.standing_paths.result _ _
    (λ found full none.
    subst (λ (u : List (List ℕ)). AreMoreTextsThan (telling_among files lone u) c.args.limit) is
    (subst (λ (w : List (List ℕ)). AreMoreTextsThan (telling_among files w c.deref.result.now) c.args.limit) c.requires (full files built counted none)))
    c.standing_paths.ensures.full
