use Rattle.std.proofs.Common.{◌≡◌, ◌∙◌, sym, true, false}
use Rattle.std.proofs.lemmas.Result.{IfOk-weaker}
use Rattle.aa_glob_pattern.specs.Shared.{overlaps}
use Rattle.aa_profile_data.specs.Conflicts.{conflict, same_transition}
use Rattle.aa_profile_data.specs.Ranks.{same_rank}
use Rattle.aa_profile_data.specs.declared.profile.Rule.TheVariants.{File}
use Rattle.aa_explain_written.proofs.LeadLemmas.{file_conflict}
use Rattle.aa_explain_written.proofs.conflicts.file_rules_conflict.Goals as goal

pub returns : goal.returns
returns c =
    let alike : same_rank c.args.one.now.rank c.args.other.now.rank ≡ true = cc in
    let differ : same_transition c.in-Some-Some.here c.in-Some-Some.there ≡ false = cc in
    let same : conflict (File c.args.one.now) (File c.args.other.now) ≡ overlaps c.args.one.now.pattern c.args.other.now.pattern =
    file_conflict c.args.one.now c.args.other.now c.in-Some-Some.here c.in-Some-Some.there c.if-one.false c.if-other.false c.in-Some-Some.is-0 c.in-Some-Some.is-1 alike differ
    in
    IfOk-weaker c.overlap.result (λ found. found ≡ overlaps c.args.one.now.pattern c.args.other.now.pattern) (λ found. found ≡ conflict (File c.args.one.now) (File c.args.other.now))
    (λ found is. is ∙ sym same) c.overlap.ensures
