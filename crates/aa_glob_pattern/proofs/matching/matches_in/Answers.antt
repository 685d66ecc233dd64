use Rattle.std.proofs.Common.{◌≡◌, ◌∙◌, ◌+◌, ℕ, List, ◌<◌, length, None, ap, get_or, refl, reverse, Some, subst, sym, take, ◌∷◌, []}
use Rattle.std.proofs.lemmas.Bool.{not-true}
use Rattle.std.proofs.lemmas.List.{reverse-append, take_more}
use Rattle.aa_glob_pattern.specs.Active.{AreActive}
use Rattle.aa_glob_pattern.specs.Reads.{reads}
use Rattle.aa_glob_pattern.specs.Trails.{trail_of}
use Rattle.aa_glob_pattern.proofs.UnreadLemmas.{never-whole}
use Rattle.aa_glob_pattern.proofs.matching.matches_in.Goals as goal

-- one byte more was read
reverse-more : (path : List ℕ) (at : ℕ) → at < length path → get_or path at 0 ∷ reverse (take at path) ≡ reverse (take (at + 1) path)
reverse-more path at within = sym (ap reverse (take_more path at 0 within) ∙ reverse-append (take at path) (get_or path at 0 ∷ []))

pub loop-byte-init : goal.loop-byte-init
loop-byte-init c = (c.pass-passed.auto.active, c.pass-passed.ensures.active None refl c.requires.unset, c.pass-passed.ensures.whole None refl c.requires.unset, c.pass-passed.ensures.some)

pub loop-byte-preserved : goal.loop-byte-preserved
loop-byte-preserved c =
    let past = reverse (take c.loop-byte.byte-index c.args.path.now) in
    let more = reverse-more c.args.path.now c.loop-byte.byte-index c.loop-byte-test.true in
    let was = c.loop-byte.invariant in
    let passed = c.pass-passed-in-loop-byte in (
      passed.auto.active ∙ was.0,
      subst (λ p. AreActive c.args.text.now (Some p) passed.new.active) more (passed.ensures.active (Some past) refl was.1),
      passed.ensures.whole (Some past) refl was.1 ∙ ap (reads (trail_of c.args.text.now)) more,
      passed.ensures.some,
    )

pub returns-then-not-passed : goal.returns-then-not-passed
returns-then-not-passed c =
    let at = c.loop-byte.byte-index in
    let was = c.loop-byte.invariant in
    let unread = never-whole c.args.text.now at c.args.path.now c.loop-byte.active was.1 (was.3 (not-true c.loop-byte.passed.some c.if-not-passed.true)) in
    sym unread ∙ c.what_reads_to_the_end_matches.ensures c.args.text.now c.args.path.now c.requires.reads
