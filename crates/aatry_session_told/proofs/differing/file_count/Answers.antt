use Rattle.std.proofs.Common.{◌<◌, [], arith, length}
use Rattle.std.proofs.lemmas.List.Sums.{sum_by-drop_more}
use Rattle.aa_text_files.specs.Files.{File}
use Rattle.aatry_session_told.specs.Differing.{counted}
use Rattle.aatry_session_told.proofs.differing.file_count.Goals as goal

pub loop-place-preserved : goal.loop-place-preserved
loop-place-preserved c =
    let files = c.args.files.now in
    let place = c.loop-place.place in
    let within : place < length files = omega arith in
    record {
      counted = omega (
        arith,
        c.loop-place.invariant.counted,
        c.counted_at-count.ensures.counted,
        sum_by-drop_more (λ (file : File). counted file.0) files place ([], []) within,
      );
      few = omega (arith, c.loop-place.invariant.few, c.counted_at-count.ensures.few);
    }
