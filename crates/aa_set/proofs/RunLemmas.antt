-- Runs of lines, one line after another.
use Rattle.std.proofs.Common.{◌≡◌, ℕ, ◌+◌, Bool, false, cond, List, [], ◌∷◌, ◌++◌, length, take, map, count_by, Option, refl, sym, ap, ◌∙◌, subst, arith, append_assoc, append-nil, inl, inr}
use Rattle.std.specs.List.{flat_map, list_any, slice_split}
use Rattle.std.proofs.lemmas.Bool.{cases_lt, cond-false, lt-leb}
use Rattle.std.proofs.lemmas.List.{length-take-le, take_all, map_push}
use Rattle.std.proofs.lemmas.List.Concat.{flat_map-append}
use Rattle.std.proofs.lemmas.List.Sums.{sum_by-append}
use Rattle.std.specs.Io.KnownBytes.{Appends}
use Rattle.aa_bytes.specs.Texts.{is_empty}
use Rattle.aa_set_manager.specs.Manager.{Managed}
use Rattle.aa_set_commands.specs.Lines.{is_line_feed, lines, without_empty_last}
use Rattle.aa_set.specs.Reply.{reply_text, is_refusal, is_acceptance}
use Rattle.aa_set.specs.Run.{replies_to, after_lines, flagged, replies, IsAnswered}
use Rattle.aa_set_manager.specs.Outcomes.{Outcome, line_outcome}
use Rattle.aa_set.specs.code.Session.{IsAfter, IsCut, Follows}
use Rattle.aa_set_commands.specs.Streams.{WritesBehind}
use Rattle.aa_set_manager.specs.declared.reply.Reply.{Reply}
use Rattle.aa_set_commands.specs.Limits.{longest_line}
use Rattle.aa_set.specs.declared.session.Session.{Session}
use Rattle.aa_set.specs.declared.session.Summary.{Summary}
use Rattle.aa_set.proofs.StreamLemmas.{WritesBehind-same, WritesBehind-trans, WritesBehind-flushed}
use Rattle.aa_set.proofs.LineLemmas.{take-of_front, nothing_held}
use Rattle.aa_set.proofs.LinesLemmas.{joined, split-append, split-front, split-whole, joined-last, without_empty_last-empty, without_empty_last-filled}

abbrev Files : Type 0
Files = List (List ℕ × List ℕ)

abbrev Lines : Type 0
Lines = List (List ℕ × Bool)

-- the replies to further lines come behind those to the first
pub replies_to-append : (files : Files) (m : Managed) (xs ys : Lines) → replies_to files m (xs ++ ys) ≡ replies_to files m xs ++ replies_to files (after_lines files m xs) ys
replies_to-append files m [] ys = refl
replies_to-append files m (x ∷ xs) ys = ap (λ rest. (line_outcome files m x.0 x.1).reply ∷ rest) (replies_to-append files (line_outcome files m x.0 x.1).managed xs ys)

-- the manager after further lines is one that went on from the first
pub after_lines-append : (files : Files) (m : Managed) (xs ys : Lines) → after_lines files m (xs ++ ys) ≡ after_lines files (after_lines files m xs) ys
after_lines-append files m [] ys = refl
after_lines-append files m (x ∷ xs) ys = after_lines-append files (line_outcome files m x.0 x.1).managed xs ys

-- of a line that is too long, no byte behind the first that is too many matters
pub outcome-front : (files : Files) (m : Managed) (line : List ℕ) (flag : Bool) → line_outcome files m (take (longest_line + 1) line) flag ≡ line_outcome files m line flag
outcome-front files m line flag = elim (cases_lt longest_line (length line)) [
  | inl longer ↦
      let size = length-take-le (longest_line + 1) line (omega arith) in
      cond-false _ _ _ (lt-leb (length (take (longest_line + 1) line)) longest_line (omega arith)) ∙ sym (cond-false _ _ _ (lt-leb (length line) longest_line longer))
  | inr shorter ↦ ap (λ text. line_outcome files m text flag) (take_all (longest_line + 1) line (omega arith))
]

-- lines and their flags, apart and together again
pub flagged-unzipped : (ls : Lines) → flagged (map (λ line. line.0) ls) (map (λ line. line.1) ls) ≡ ls
flagged-unzipped [] = refl
flagged-unzipped (l ∷ ls) = ap (λ rest. l ∷ rest) (flagged-unzipped ls)

map-last : (ls : Lines) (line : List ℕ × Bool) → map (λ l. l.0) (ls ++ line ∷ []) ≡ map (λ l. l.0) ls ++ line.0 ∷ []
map-last ls line = map_push (λ (l : List ℕ × Bool). l.0) ls line

-- a line that ends: what was left unfinished and its last bytes are a line, and the next one has no bytes yet
pub IsCut-ended : {input : List ℕ} {done : Lines} {buffer : List ℕ} (cut : IsCut input done buffer) (last : List ℕ) (line : List ℕ × Bool)
    → list_any is_line_feed last ≡ false → line.0 ≡ cut.unfinished ++ last → IsCut (input ++ (last ++ 10 ∷ [])) (done ++ line ∷ []) []
IsCut-ended {input} {done} {buffer} cut last line whole is = record {
  unfinished = [];
  cut = split-append is_line_feed input (last ++ 10 ∷ []) ∙ ap (λ xs. joined xs (slice_split is_line_feed (last ++ 10 ∷ []))) cut.cut
      ∙ ap (joined (map (λ l. l.0) done ++ cut.unfinished ∷ [])) (split-front is_line_feed last 10 [] whole refl)
      ∙ joined-last (map (λ l. l.0) done) cut.unfinished last ([] ∷ [])
      ∙ ap (λ text. map (λ l. l.0) done ++ text ∷ [] ∷ []) (sym is)
      ∙ sym (append_assoc (map (λ l. l.0) done) (line.0 ∷ []) ([] ∷ []))
      ∙ ap (λ xs. xs ++ [] ∷ []) (sym (map-last done line));
  held = refl;
}

-- a line that goes on
pub IsCut-more : {input : List ℕ} {done : Lines} {buffer : List ℕ} → IsCut input done buffer → (rest : List ℕ) → list_any is_line_feed rest ≡ false
    → IsCut (input ++ rest) done (take (longest_line + 1) (buffer ++ rest))
IsCut-more {input} {done} {buffer} cut rest whole = record {
  unfinished = cut.unfinished ++ rest;
  cut = split-append is_line_feed input rest ∙ ap (λ xs. joined xs (slice_split is_line_feed rest)) cut.cut
      ∙ ap (joined (map (λ l. l.0) done ++ cut.unfinished ∷ [])) (split-whole is_line_feed rest whole)
      ∙ joined-last (map (λ l. l.0) done) cut.unfinished rest [];
  held = ap (λ text. take (longest_line + 1) (text ++ rest)) cut.held ∙ take-of_front (longest_line + 1) cut.unfinished rest;
}

-- the lines of an input that ends with a line's end, or with a line that isn't finished
pub lines-ended : {input : List ℕ} {done : Lines} {buffer : List ℕ} (cut : IsCut input done buffer) → length buffer ≡ 0 → lines input ≡ map (λ l. l.0) done
lines-ended {input} {done} {buffer} cut none =
    let nothing = nothing_held longest_line cut.unfinished (ap length (sym cut.held) ∙ none) in
    ap without_empty_last (cut.cut ∙ ap (λ text. map (λ l. l.0) done ++ text ∷ []) nothing) ∙ without_empty_last-empty (map (λ l. l.0) done)

pub lines-unfinished : {input : List ℕ} {done : Lines} {buffer : List ℕ} (cut : IsCut input done buffer) (flag : Bool) → (length buffer ≡ 0 → ⊥)
    → lines input ≡ map (λ l. l.0) (done ++ (cut.unfinished, flag) ∷ [])
lines-unfinished {input} {done} {buffer} cut flag some =
    ap without_empty_last cut.cut ∙ without_empty_last-filled (map (λ l. l.0) done) cut.unfinished (filled cut.unfinished (λ none. some (ap length (cut.held ∙ ap (take (longest_line + 1)) none))))
    ∙ sym (map-last done (cut.unfinished, flag))
  where
    filled : (text : List ℕ) → (text ≡ [] → ⊥) → is_empty text ≡ false
    filled [] h = absurd (h refl)
    filled (b ∷ bs) h = refl

module _ (files : Files) (begin : Managed) where
  -- a session after one more line
  pub IsAfter-more : {before now next : Option (List ℕ)} {s t : Session} {done : Lines} (line : List ℕ) (flag : Bool) (reply : Reply)
      → IsAfter files begin before now s done
      → ◌≡◌ {A = Outcome} (record { reply = reply; managed = t.manager }) (line_outcome files s.manager line flag)
      → WritesBehind now next s.waiting.items t.waiting.items (reply_text files reply)
      → t.summary.accepted ≡ s.summary.accepted + count_by is_acceptance (reply ∷ [])
      → t.summary.refused ≡ s.summary.refused + count_by is_refusal (reply ∷ [])
      → IsAfter files begin before next t (done ++ (line, flag) ∷ [])
  IsAfter-more {before} {now} {next} {s} {t} {done} line flag reply after answers behind accepted refused =
      let old : Managed = after_lines files begin done in
      let out : ◌≡◌ {A = Outcome} (record { reply = reply; managed = t.manager }) (line_outcome files old line flag) = answers ∙ ap (λ m. line_outcome files m line flag) after.managed in
      let all : replies_to files begin (done ++ (line, flag) ∷ []) ≡ replies_to files begin done ++ reply ∷ []
      = replies_to-append files begin done ((line, flag) ∷ []) ∙ ap (λ (a : Outcome). replies_to files begin done ++ a.reply ∷ []) (sym out) in
      record {
        managed = ap (λ (a : Outcome). a.managed) out ∙ sym (after_lines-append files begin done ((line, flag) ∷ []));
        written = WritesBehind-same (WritesBehind-trans after.written behind) (
            ap (λ text. flat_map (reply_text files) (replies_to files begin done) ++ text) (sym (append-nil (reply_text files reply)))
            ∙ sym (flat_map-append (reply_text files) (replies_to files begin done) (reply ∷ []))
            ∙ ap (flat_map (reply_text files)) (sym all));
        summed = record {
          accepted = accepted ∙ ap (λ n. n + count_by is_acceptance (reply ∷ [])) after.summed.accepted
              ∙ sym (sum_by-append (λ r. cond (is_acceptance r) 1 0) (replies_to files begin done) (reply ∷ []))
              ∙ ap (count_by is_acceptance) (sym all);
          refused = refused ∙ ap (λ n. n + count_by is_refusal (reply ∷ [])) after.summed.refused
              ∙ sym (sum_by-append (λ r. cond (is_refusal r) 1 0) (replies_to files begin done) (reply ∷ []))
              ∙ ap (count_by is_refusal) (sym all);
        };
      }

  -- a session that answered a front of a line answered the line
  pub IsAfter-line : {before now : Option (List ℕ)} {s : Session} (done : Lines) (front line : List ℕ) (flag : Bool)
      → ((m : Managed) → line_outcome files m front flag ≡ line_outcome files m line flag)
      → IsAfter files begin before now s (done ++ (front, flag) ∷ []) → IsAfter files begin before now s (done ++ (line, flag) ∷ [])
  IsAfter-line {before} {now} {s} done front line flag same after =
      let old : Managed = after_lines files begin done in
      let by_front : Lines = done ++ (front, flag) ∷ [] in
      let by_line : Lines = done ++ (line, flag) ∷ [] in
      let replies : replies_to files begin by_front ≡ replies_to files begin by_line
      = replies_to-append files begin done ((front, flag) ∷ []) ∙ ap (λ (a : Outcome). replies_to files begin done ++ a.reply ∷ []) (same old)
      ∙ sym (replies_to-append files begin done ((line, flag) ∷ [])) in
      let manager : after_lines files begin by_front ≡ after_lines files begin by_line
      = after_lines-append files begin done ((front, flag) ∷ []) ∙ ap (λ (a : Outcome). a.managed) (same old) ∙ sym (after_lines-append files begin done ((line, flag) ∷ [])) in
      record {
        managed = after.managed ∙ manager;
        written = WritesBehind-same after.written (ap (flat_map (reply_text files)) replies);
        summed = record { accepted = after.summed.accepted ∙ ap (count_by is_acceptance) replies; refused = after.summed.refused ∙ ap (count_by is_refusal) replies };
      }

  -- after all lines, and once all that waits is written, the input is answered
  pub IsAnswered-all : {before now next : Option (List ℕ)} {s : Session} {done : Lines} (input : List ℕ) → lines input ≡ map (λ line. line.0) done
      → IsAfter files begin before now s done → Appends now next s.waiting.items → IsAnswered files begin before next s.summary input
  IsAnswered-all {before} {now} {next} {s} {done} input cut after flushed =
      let flags : List Bool = map (λ line. line.1) done in
      let all : flagged (lines input) flags ≡ done = ap (λ ls. flagged ls flags) cut ∙ flagged-unzipped done in
      let replies_are : replies_to files begin done ≡ replies files begin input flags = ap (replies_to files begin) (sym all) in
      record {
        flags = flags;
        written = subst (Appends before next) (ap (flat_map (reply_text files)) replies_are) (WritesBehind-flushed next after.written flushed);
        summed = record { accepted = after.summed.accepted ∙ ap (count_by is_acceptance) replies_are; refused = after.summed.refused ∙ ap (count_by is_refusal) replies_are };
      }

  -- an input that is written otherwise
  pub Follows-same : {before now : Option (List ℕ)} {s : Session} {held input other : List ℕ} → Follows files begin before now s held input → input ≡ other
      → Follows files begin before now s held other
  Follows-same {before} {now} {s} {held} follows same = subst (Follows files begin before now s held) same follows

  -- the buffer holds what was read of a line that goes on
  pub Follows-kept : {before now : Option (List ℕ)} {s : Session} {held next input : List ℕ} → Follows files begin before now s held input → (rest : List ℕ)
      → list_any is_line_feed rest ≡ false → next ≡ take (longest_line + 1) (held ++ rest) → Follows files begin before now s next (input ++ rest)
  Follows-kept {before} {now} {s} {held} {next} {input} follows rest whole kept = record {
    lines = follows.lines;
    after = follows.after;
    cut = subst (IsCut (input ++ rest) follows.lines) (sym kept) (IsCut-more follows.cut rest whole);
  }

  -- all that waited is written
  pub Follows-flushed : {before now next : Option (List ℕ)} {s t : Session} {held input : List ℕ} → Follows files begin before now s held input
      → Appends now next s.waiting.items → t.manager ≡ s.manager → t.summary ≡ s.summary → t.waiting.items ≡ [] → Follows files begin before next t held input
  Follows-flushed {before} {now} {next} {s} {t} {held} {input} follows flushed manager summary empty = record {
    lines = follows.lines;
    after = record {
      managed = manager ∙ follows.after.managed;
      written = subst (λ waits. WritesBehind before next [] waits (flat_map (reply_text files) (replies_to files begin follows.lines))) (sym empty) (record {
        done = flat_map (reply_text files) (replies_to files begin follows.lines);
        writes = WritesBehind-flushed next follows.after.written flushed;
        keeps = append-nil (flat_map (reply_text files) (replies_to files begin follows.lines));
      });
      summed = record { accepted = ap (λ (s : Summary). s.accepted) summary ∙ follows.after.summed.accepted; refused = ap (λ (s : Summary). s.refused) summary ∙ follows.after.summed.refused };
    };
    cut = follows.cut;
  }
