use Rattle.std.proofs.Common.{◌≡◌, ◌∙◌, ◌++◌, ◌∷◌, ◌-◌, [], ℕ, List, append_assoc, ap, drop, length, map, string_bytes, subst, sym, take}
use Rattle.std.proofs.lemmas.Bool.{or_parts}
use Rattle.aatry_arguments.proofs.LanguageLemmas.{parts_of}
use Rattle.aatry_logs.specs.Gathered.{AreGathered, is_input, left_at, log_file}
use Rattle.aatry_logs.specs.code.Reading.{left_by, was_read_by}
use Rattle.aatry_log_lines.specs.Selections.{seen_selection}
use Rattle.aatry_logs.specs.Inputs.{IsGatheredFrom}
use Rattle.aatry_logs.specs.LogRequests.{seen_logs}
use Rattle.aatry_logs.proofs.GatheredLemmas.{left_then}
use Rattle.aatry_logs.proofs.gathered.gather_logs.Goals as goal

-- one log more
pub loop-rest-preserved : goal.loop-rest-preserved
loop-rest-preserved g c =
    let so_far = c.loop-rest.invariant in
    let rest = c.loop-rest.rest.now in
    let path : List ℕ = string_bytes c.path-item.result in
    let more : List (List ℕ) = map string_bytes (take (length rest - 1) (drop 1 rest)) in
    let parts : map string_bytes rest ≡ path ∷ more = ap (map string_bytes) (parts_of rest c.path-item.result c.in-len1-up.len_at_least c.path-item.is) in
    let known = g.D.FileSystem.known c.args.disk.now in
    let was_read = c.loop-rest.was_read in
    let now_read = c.take_log.new.was_read in
    let left = g.S.Source.left c.loop-rest.input in
    let now_left = g.S.Source.left c.take_log.new.input in
    let selection = seen_selection c.args.selection in
    let before = seen_logs c.loop-rest.logs in
    let next = seen_logs c.take_log.new.logs in
    let read : now_read ≡ was_read_by was_read path = c.in_ok-take_log.ensures.read ∙ ap (was_read_by was_read) c.as_str.ensures.value in
    let taken : IsGatheredFrom selection (log_file path) (left_at known (left_by was_read left) path) before next =
    subst (λ path. IsGatheredFrom selection (log_file path) (left_at known (left_by was_read left) path) before next) c.as_str.ensures.value c.in_ok-take_log.ensures.taken in
    let behind = left_then path was_read now_read left now_left read (λ unread. ap g.S.Source.left (c.take_log.ensures.unread unread)) in
    record {
      taken = λ after others. so_far.taken after (subst (λ paths. AreGathered selection known (left_by was_read left) paths before after) (sym parts)
          (next, taken, subst (λ left. AreGathered selection known left more next after) behind others));
      unread = λ unread. c.take_log.ensures.unread unread ∙ so_far.unread (or_parts (is_input path) was_read (sym read ∙ unread)).1;
      begins = (so_far.begins.0 ++ path ∷ [], so_far.begins.1 ∙ ap (λ others. so_far.begins.0 ++ others) parts ∙ sym (append_assoc so_far.begins.0 (path ∷ []) more));
    }
