use Rattle.std.proofs.Common.{◌≡◌, ◌∙◌, [], subst, sym}
use Rattle.std.specs.List.{All}
use Rattle.std.proofs.lemmas.Result.{IfOk-weaker}
use Rattle.aa_glob_paths.specs.AllPaths.{IsOutcome, TellAllPaths}
use Rattle.aa_glob_paths.specs.TooMany.{AreMoreTextsThan}
use Rattle.aa_profile_data.specs.FileRules.{file_patterns}
use Rattle.aa_explain_paths.specs.Meant.{unasked_patterns}
use Rattle.aa_explain_paths.specs.SeenAsked.{seen_asked}
use Rattle.aa_explain_paths.specs.Telling.{all_classes, telling_patterns}
use Rattle.aa_explain_paths.proofs.BreakingLemmas.{answer-standing}
use Rattle.aa_explain_paths.proofs.asking.ask_relevant.Goals as goal

pub standing_paths-requires : goal.standing_paths-requires
standing_paths-requires c = (file_patterns c.args.relevant.now, c.in_ok-files.ensures [] c.in_ok-none.ensures, sym c.file_count.ensures.counted)

pub returns-in-None : goal.returns-in-None
returns-in-None c =
    let is : c.deref.result.now ≡ unasked_patterns = c.deref.ensures.value ∙ c.in_ok-unasked.ensures in
    subst (λ u. AreMoreTextsThan (telling_patterns c.args.relevant.now c.args.question.patterns.now u) c.args.limit) is
    (c.in_ok-found.ensures.full (file_patterns c.args.relevant.now) (c.in_ok-files.ensures [] c.in_ok-none.ensures) (sym c.file_count.ensures.counted) c.in-None.is)

pub answer_by-requires : goal.answer_by-requires
answer_by-requires c =
    let rules = c.args.relevant.now in
    let patterns = c.args.question.patterns.now in
    let is : c.deref.result.now ≡ unasked_patterns = c.deref.ensures.value ∙ c.in_ok-unasked.ensures in
    let told : TellAllPaths (telling_patterns rules patterns c.deref.result.now) (all_classes rules patterns c.deref.result.now) c.in-Some.paths.items =
    rw c.in-Some.is at c.in_ok-found.ensures.told (file_patterns rules) (c.in_ok-files.ensures [] c.in_ok-none.ensures) (sym c.file_count.ensures.counted) in
    subst (λ u. All (IsOutcome (telling_patterns rules patterns u) (all_classes rules patterns u)) c.in-Some.paths.items) is told.each_outcome

pub returns : goal.returns
returns c =
    let rules = c.args.relevant.now in
    let patterns = c.args.question.patterns.now in
    let is : c.deref.result.now ≡ unasked_patterns = c.deref.ensures.value ∙ c.in_ok-unasked.ensures in
    let told : TellAllPaths (telling_patterns rules patterns c.deref.result.now) (all_classes rules patterns c.deref.result.now) c.in-Some.paths.items =
    rw c.in-Some.is at c.in_ok-found.ensures.told (file_patterns rules) (c.in_ok-files.ensures [] c.in_ok-none.ensures) (sym c.file_count.ensures.counted) in
    IfOk-weaker c.answer_by.result _ _
    (λ answer seen. answer-standing c.outcomes_stand_for_all.ensures.all rules (seen_asked c.args.question) c.in-Some.paths.items
    (subst (λ u. TellAllPaths (telling_patterns rules patterns u) (all_classes rules patterns u) c.in-Some.paths.items) is told) c.args.limit answer seen)
    c.answer_by.ensures
