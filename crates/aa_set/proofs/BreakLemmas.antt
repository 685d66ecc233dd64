-- What was written where a writer broke off.
use Rattle.std.proofs.Common.{◌≡◌, ℕ, Bool, List, [], ◌∷◌, ◌++◌, map, Option, refl, sym, ap, ◌∙◌, subst, append_assoc, append-nil}
use Rattle.std.specs.List.{flat_map}
use Rattle.std.specs.Io.KnownBytes.{Appends}
use Rattle.std.proofs.lemmas.List.Concat.{flat_map-append}
use Rattle.aa_set.specs.Laws.{SoFarIsFront}
use Rattle.aa_set_manager.specs.Manager.{Managed}
use Rattle.aa_set.specs.Reply.{reply_text}
use Rattle.aa_set.specs.Run.{IsAnsweredSoFar, IsFrontAnswered, after_lines, flagged, output, replies_to}
use Rattle.aa_set_manager.specs.Outcomes.{Outcome, line_outcome}
use Rattle.aa_set_manager.specs.declared.reply.Reply.{Reply}
use Rattle.aa_set.specs.code.Session.{Follows, IsAfter, IsCut, IsFrontOfWhole}
use Rattle.aa_set.specs.declared.session.Session.{Session}
use Rattle.aa_set_commands.specs.Lines.{is_line_feed, lines, whole_lines, without_empty_last, without_last}
use Rattle.aa_set_commands.specs.Streams.{AppendsFront}
use Rattle.aa_set.proofs.LinesLemmas.{first_piece, joined, joined-last, last_piece, split-append, without_empty_last-some, without_last-append, without_last-push}
use Rattle.aa_set.proofs.RunLemmas.{flagged-unzipped, replies_to-append}
use Rattle.aa_set.proofs.StreamLemmas.{Front-behind, Front-more, Front-same}

abbrev Files : Type 0
Files = List (List ℕ × List ℕ)

abbrev Lines : Type 0
Lines = List (List ℕ × Bool)

-- the whole lines of an input that was cut
pub whole-cut : {input : List ℕ} {done : Lines} {buffer : List ℕ} → IsCut input done buffer → whole_lines input ≡ map (λ line. line.0) done
whole-cut {input} {done} {buffer} cut = ap without_last cut.cut ∙ without_last-push (map (λ line. line.0) done) cut.unfinished

-- more bytes leave the whole lines before them
pub whole-more : (input rest : List ℕ) → (more : List (List ℕ)) × (whole_lines (input ++ rest) ≡ whole_lines input ++ more)
whole-more input rest =
    let (ls, u, is) = last_piece is_line_feed input in
    let (y, ys, next) = first_piece is_line_feed rest in (
      without_last ((u ++ y) ∷ ys),
      ap without_last (split-append is_line_feed input rest ∙ (λ i. joined (is i) (next i)) ∙ joined-last ls u y ys)
          ∙ without_last-append ls (u ++ y) ys
          ∙ ap (λ whole. whole ++ without_last ((u ++ y) ∷ ys)) (sym (ap without_last is ∙ without_last-push ls u)),
    )

-- the lines of an input are its whole ones, and at most one more
pub lines-whole : (input : List ℕ) → (more : List (List ℕ)) × (lines input ≡ whole_lines input ++ more)
lines-whole input =
    let (ls, u, is) = last_piece is_line_feed input in
    let (more, some) = without_empty_last-some ls u in
    (more, ap without_empty_last is ∙ some ∙ ap (λ whole. whole ++ more) (sym (ap without_last is ∙ without_last-push ls u)))

-- lines with their flags, and more without
flagged-more : (done : Lines) (more : List (List ℕ)) → flagged (map (λ line. line.0) done ++ more) (map (λ line. line.1) done) ≡ done ++ flagged more []
flagged-more [] more = refl
flagged-more (line ∷ done) more = ap (λ rest. line ∷ rest) (flagged-more done more)

module _ (files : Files) (begin : Managed) where
  abbrev texts : Lines → List ℕ
  texts done = flat_map (reply_text files) (replies_to files begin done)

  -- the texts of further lines come behind
  texts-append : (done more : Lines) → texts (done ++ more) ≡ texts done ++ flat_map (reply_text files) (replies_to files (after_lines files begin done) more)
  texts-append done more =
      ap (flat_map (reply_text files)) (replies_to-append files begin done more)
      ∙ flat_map-append (reply_text files) (replies_to files begin done) (replies_to files (after_lines files begin done) more)

  -- what was put behind so far is written, and then a front of what waited and of a text
  pub front-after : {before old : Option (List ℕ)} {s : Session} {done : Lines} (new : Option (List ℕ)) (text : List ℕ) → IsAfter files begin before old s done
      → AppendsFront old new (s.waiting.items ++ text) → AppendsFront before new (texts done ++ text)
  front-after {before} {old} {s} {done} new text after front =
      Front-same before new (after.written.done ++ (s.waiting.items ++ text)) (texts done ++ text) (Front-behind before old new after.written.done (s.waiting.items ++ text) after.written.writes front)
      (sym (append_assoc after.written.done s.waiting.items text) ∙ ap (λ (l : List ℕ). l ++ text) after.written.keeps)

  pub front-waiting : {before old : Option (List ℕ)} {s : Session} {done : Lines} (new : Option (List ℕ)) → IsAfter files begin before old s done
      → AppendsFront old new s.waiting.items → AppendsFront before new (texts done)
  front-waiting {before} {old} {s} {done} new after front =
      Front-same before new (texts done ++ []) (texts done) (front-after new [] after (Front-same old new s.waiting.items (s.waiting.items ++ []) front (sym (append-nil s.waiting.items))))
      (append-nil (texts done))

  texts-line : (done : Lines) (line : List ℕ) (flag : Bool) → texts (done ++ (line, flag) ∷ []) ≡ texts done ++ reply_text files (line_outcome files (after_lines files begin done) line flag).reply
  texts-line done line flag =
      texts-append done ((line, flag) ∷ []) ∙ ap (λ (l : List ℕ). texts done ++ l) (append-nil (reply_text files (line_outcome files (after_lines files begin done) line flag).reply))

  -- the reply to a line was to be written, behind what waited
  pub front-line : {before old : Option (List ℕ)} {s : Session} {done : Lines} (new : Option (List ℕ)) (line : List ℕ) (flag : Bool) (reply : Reply) (next : Managed)
      → IsAfter files begin before old s done → ◌≡◌ {A = Outcome} (record { reply = reply; managed = next }) (line_outcome files s.manager line flag)
      → AppendsFront old new (s.waiting.items ++ reply_text files reply) → AppendsFront before new (texts (done ++ (line, flag) ∷ []))
  front-line {before} {old} {s} {done} new line flag reply next after answers front =
      let out : reply ≡ (line_outcome files (after_lines files begin done) line flag).reply
      = ap (λ (a : Outcome). a.reply) answers ∙ ap (λ m. (line_outcome files m line flag).reply) after.managed in
      Front-same before new (texts done ++ reply_text files reply) (texts (done ++ (line, flag) ∷ [])) (front-after new (reply_text files reply) after front)
      (ap (λ reply. texts done ++ reply_text files reply) out ∙ sym (texts-line done line flag))

  -- a line that is answered as another
  pub front-line-same : (before new : Option (List ℕ)) (done : Lines) (front line : List ℕ) (flag : Bool) → ((m : Managed) → line_outcome files m front flag ≡ line_outcome files m line flag)
      → AppendsFront before new (texts (done ++ (front, flag) ∷ [])) → AppendsFront before new (texts (done ++ (line, flag) ∷ []))
  front-line-same before new done front line flag same written =
      Front-same before new (texts (done ++ (front, flag) ∷ [])) (texts (done ++ (line, flag) ∷ [])) written
      (texts-line done front flag ∙ ap (λ (a : Outcome). texts done ++ reply_text files a.reply) (same (after_lines files begin done)) ∙ sym (texts-line done line flag))

  -- lines that were cut, all of which were to be written
  pub front-cut : {before now : Option (List ℕ)} {input : List ℕ} {done : Lines} {buffer : List ℕ} → IsCut input done buffer → AppendsFront before now (texts done)
      → IsFrontOfWhole files begin before now input
  front-cut {before} {now} {input} {done} {buffer} cut written =
      record { lines = done; more = []; whole = whole-cut cut ∙ sym (append-nil (map (λ line. line.0) done)); written = written }

  -- more bytes leave a front a front
  pub front-longer : {before now : Option (List ℕ)} {input : List ℕ} → IsFrontOfWhole files begin before now input → (rest : List ℕ)
      → IsFrontOfWhole files begin before now (input ++ rest)
  front-longer {before} {now} {input} front rest =
      let (more, is) = whole-more input rest in
      record {
        lines = front.lines;
        more = front.more ++ more;
        whole = is ∙ ap (λ whole. whole ++ more) front.whole ∙ append_assoc (map (λ line. line.0) front.lines) front.more more;
        written = front.written;
      }

  pub front-same : {before now : Option (List ℕ)} {input other : List ℕ} → IsFrontOfWhole files begin before now input → input ≡ other
      → IsFrontOfWhole files begin before now other
  front-same {before} {now} front same = subst (IsFrontOfWhole files begin before now) same front

  -- a front of the replies to lines with which the lines of an input begin is one of its output
  front-of : (before now : Option (List ℕ)) (input : List ℕ) (done : Lines) (more : List (List ℕ)) → lines input ≡ map (λ line. line.0) done ++ more
      → AppendsFront before now (texts done) → IsFrontAnswered files begin before now input
  front-of before now input done more is written =
      let flags : List Bool = map (λ line. line.1) done in
      record {
        flags = flags;
        written = Front-same before now (texts done ++ flat_map (reply_text files) (replies_to files (after_lines files begin done) (flagged more []))) (output files begin input flags)
            (Front-more before now (texts done) (flat_map (reply_text files) (replies_to files (after_lines files begin done) (flagged more []))) written)
            (sym (texts-append done (flagged more [])) ∙ ap texts (sym (ap (λ ls. flagged ls flags) is ∙ flagged-more done more)));
      }

  pub front-answered : {before now : Option (List ℕ)} {input : List ℕ} → IsFrontOfWhole files begin before now input → IsFrontAnswered files begin before now input
  front-answered {before} {now} {input} front =
      let (more, is) = lines-whole input in
      front-of before now input front.lines (front.more ++ more)
      (is ∙ ap (λ whole. whole ++ more) front.whole ∙ append_assoc (map (λ line. line.0) front.lines) front.more more) front.written

  pub front-all : {before now : Option (List ℕ)} (input : List ℕ) (done : Lines) → lines input ≡ map (λ line. line.0) done → AppendsFront before now (texts done)
      → IsFrontAnswered files begin before now input
  front-all {before} {now} input done is written = front-of before now input done [] (is ∙ sym (append-nil (map (λ line. line.0) done))) written

  -- where nothing waits, the whole lines are answered
  pub answered-so-far : {before now : Option (List ℕ)} {s : Session} {held input : List ℕ} → Follows files begin before now s held input → s.waiting.items ≡ []
      → IsAnsweredSoFar files begin before now input
  answered-so-far {before} {now} {s} {held} {input} follows empty =
      let done : Lines = follows.lines in
      let flags : List Bool = map (λ line. line.1) done in
      let behind = follows.after.written in
      record {
        flags = flags;
        written = subst (Appends before now)
            (sym (append-nil behind.done) ∙ ap (λ waits. behind.done ++ waits) (sym empty) ∙ behind.keeps ∙ ap texts (sym (ap (λ ls. flagged ls flags) (whole-cut follows.cut) ∙ flagged-unzipped done)))
            behind.writes;
      }

-- lines with flags are these lines
flagged-names : (ls : List (List ℕ)) (flags : List Bool) → map (λ line. line.0) (flagged ls flags) ≡ ls
flagged-names [] flags = refl
flagged-names (l ∷ ls) [] = ap (λ rest. l ∷ rest) (flagged-names ls [])
flagged-names (l ∷ ls) (flag ∷ flags) = ap (λ rest. l ∷ rest) (flagged-names ls flags)

-- what is written for whole lines is a front of what is written for more
pub so-far-front : SoFarIsFront
so-far-front files begin input more flags =
    let done : Lines = flagged (whole_lines input) flags in
    let later : List Bool = map (λ line. line.1) done in
    let (whole, is) = whole-more input more in
    let (last, all) = lines-whole (input ++ more) in
    let rest : Lines = flagged (whole ++ last) [] in
    let same : lines (input ++ more) ≡ map (λ line. line.0) done ++ (whole ++ last) =
    all ∙ ap (λ ls. ls ++ last) is ∙ append_assoc (whole_lines input) whole last ∙ ap (λ ls. ls ++ (whole ++ last)) (sym (flagged-names (whole_lines input) flags)) in (
      later,
      flat_map (reply_text files) (replies_to files (after_lines files begin done) rest),
      ap (texts files begin) (ap (λ ls. flagged ls later) same ∙ flagged-more done (whole ++ last)) ∙ texts-append files begin done rest,
    )
