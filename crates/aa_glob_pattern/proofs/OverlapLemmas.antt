-- Patterns overlap exactly where one text reads their trails.
use Rattle.std.proofs.Common.{◌≡◌, ℕ, suc, ◌+◌, ◌^◌, ◌<◌, ◌==◌, Bool, true, false, List, [], ◌∷◌, ◌++◌, length, reverse, sym, ap, ◌∙◌, subst, arith, Result, Ok, Err}
use Rattle.std.specs.Prelude.{if◌then◌else◌}
use Rattle.std.proofs.lemmas.List.{reverse-append, reverse-reverse}
use Rattle.std.proofs.lemmas.List.Elements.{All-append, All-cons, All-head, All-nil, All-tail}
use Rattle.aa_bytes.specs.declared.byte_set.ByteSet.{ByteSet}
use Rattle.aa_bytes.specs.declared.byte_set.ByteSet.TheVariants.{Inside}
use Rattle.aa_bytes.specs.Bytes.{closing_brace, closing_bracket, comma, opening_brace, opening_bracket, question_mark, star}
use Rattle.aa_glob_syntax.specs.Classes.{class}
use Rattle.aa_glob_syntax.specs.Elements.{behind_class, class_element, context_after, Element, elements, run, Single, Open, Comma, Close, Fault, stars}
use Rattle.aa_glob_syntax.specs.Elements.{begins_plain, is_whole_segment}
use Rattle.aa_glob_syntax.specs.Items.{Byte, DoubleStar, Set, Star}
use Rattle.aa_glob_syntax.specs.Overlap.{Overlap}
use Rattle.aa_glob_syntax.specs.Symbols.{is_plain, symbols}
use Rattle.aa_glob_syntax.specs.declared.context.Context.{Context}
use Rattle.aa_glob_syntax.specs.declared.context.Context.TheVariants.{AfterSlash, AfterStar, Elsewhere}
use Rattle.aa_glob_syntax.specs.declared.pattern_error.PatternError.{PatternError}
use Rattle.aa_glob_syntax.specs.declared.symbol.Symbol.{Symbol}
use Rattle.aa_glob_syntax.specs.declared.symbol.Symbol.TheVariants.{Broken, Escaped, Plain}
use Rattle.aa_glob_pattern.specs.Laws.{SomeAreReadAsOneIs, SourcesAreShorter, TrailsAreReadBehindSources, WholeTrailsAreMatched}
use Rattle.aa_glob_pattern.specs.Reads.{reads}
use Rattle.aa_glob_pattern.specs.Trails.{depth_behind, element_within, grouped, trail_of}
use Rattle.aa_glob_pattern.proofs.ReadLemmas.{HasNoGroup, IsNoGroup}
use Rattle.aa_glob_pattern.proofs.SharedLemmas.{Bytes, shared-complete, shared-sound}
use Rattle.aa_glob_pattern.specs.Laws.{OverlapsAreTested}
use Rattle.aa_glob_pattern.specs.Shared.{overlaps}

-- a pattern's text has no group as one element
either_fine : (b : Bool) (xs ys : List Element) → HasNoGroup xs → HasNoGroup ys → HasNoGroup (if b then xs else ys)
either_fine true xs ys one other = one
either_fine false xs ys one other = other

append_fine : (xs ys : List Element) → HasNoGroup xs → HasNoGroup ys → HasNoGroup (xs ++ ys)
append_fine [] ys one other = other
append_fine (e ∷ xs) ys one other = (one.0, append_fine xs ys one.1 other)

stars_fine : (ls : List Symbol) → IsNoGroup (stars ls)
stars_fine ls = by (begins_plain star ls)
  where
    by : (b : Bool) → IsNoGroup (Single (if b then DoubleStar else Star))
    by true = tt
    by false = tt

run_fine : (context : Context) (ls : List Symbol) → HasNoGroup (run context ls)
run_fine AfterStar ls = tt
run_fine AfterSlash ls = either_fine (is_whole_segment AfterSlash ls) (Single (Set Inside) ∷ stars ls ∷ []) (stars ls ∷ []) (tt, (stars_fine ls, tt)) (stars_fine ls, tt)
run_fine Elsewhere ls = either_fine (is_whole_segment Elsewhere ls) (Single (Set Inside) ∷ stars ls ∷ []) (stars ls ∷ []) (tt, (stars_fine ls, tt)) (stars_fine ls, tt)

class_fine : (read : Result ByteSet PatternError) → IsNoGroup (class_element read)
class_fine (Ok set) = tt
class_fine (Err error) = tt

mutual
  elements_fine : (context : Context) (ls : List Symbol) → HasNoGroup (elements context ls)
  elements_fine context [] = tt
  elements_fine context (Broken ∷ ls) = (tt, tt)
  elements_fine context (Escaped b ∷ ls) = (tt, elements_fine (context_after b) ls)
  elements_fine context (Plain b ∷ ls) =
      let last : List Element = Single (Byte b) ∷ elements (context_after b) ls in
      let close : List Element = if b == closing_brace then Close ∷ elements Elsewhere ls else last in
      let middle : List Element = if b == comma then Comma ∷ elements Elsewhere ls else close in
      let opened : List Element = if b == opening_brace then Open ∷ elements Elsewhere ls else middle in
      let one : List Element = if b == question_mark then Single (Set Inside) ∷ elements Elsewhere ls else opened in
      let classed : List Element = if b == opening_bracket then class_element (class ls) ∷ behind_class ls else one in
      let last_fine : HasNoGroup last = (tt, elements_fine (context_after b) ls) in
      let close_fine : HasNoGroup close = either_fine (b == closing_brace) (Close ∷ elements Elsewhere ls) last (tt, elements_fine Elsewhere ls) last_fine in
      let middle_fine : HasNoGroup middle = either_fine (b == comma) (Comma ∷ elements Elsewhere ls) close (tt, elements_fine Elsewhere ls) close_fine in
      let opened_fine : HasNoGroup opened = either_fine (b == opening_brace) (Open ∷ elements Elsewhere ls) middle (tt, elements_fine Elsewhere ls) middle_fine in
      let one_fine : HasNoGroup one = either_fine (b == question_mark) (Single (Set Inside) ∷ elements Elsewhere ls) opened (tt, elements_fine Elsewhere ls) opened_fine in
      let all_fine : HasNoGroup classed = either_fine (b == opening_bracket) (class_element (class ls) ∷ behind_class ls) one (class_fine (class ls), behind_class_fine ls) one_fine in
      either_fine (b == star) (run context ls ++ elements AfterStar ls) classed
      (append_fine (run context ls) (elements AfterStar ls) (run_fine context ls) (elements_fine AfterStar ls)) all_fine

  behind_class_fine : (ls : List Symbol) → HasNoGroup (behind_class ls)
  behind_class_fine [] = tt
  behind_class_fine (l ∷ ls) = either_fine (is_plain closing_bracket l) (elements Elsewhere ls) (behind_class ls) (elements_fine Elsewhere ls) (behind_class_fine ls)

within_fine : (depth : ℕ) (e : Element) → IsNoGroup e → IsNoGroup (element_within depth e)
within_fine depth (Single item) fine = fine
within_fine depth Open fine = tt
within_fine depth Comma fine = by (depth == 0)
  where
    by : (b : Bool) → IsNoGroup (if b then Single (Byte comma) else Comma)
    by true = tt
    by false = tt
within_fine depth Close fine = tt
within_fine depth (Fault error) fine = tt

grouped_fine : (depth : ℕ) (es : List Element) → HasNoGroup es → HasNoGroup (grouped depth es)
grouped_fine depth [] fine = tt
grouped_fine depth (e ∷ es) fine = (within_fine depth e fine.0, grouped_fine (depth_behind depth e) es fine.1)

reverse_fine : (es : List Element) → HasNoGroup es → HasNoGroup (reverse es)
reverse_fine [] fine = tt
reverse_fine (e ∷ es) fine =
    subst (λ (l : List Element). HasNoGroup l) (sym (reverse-append (e ∷ []) es)) (append_fine (reverse es) (e ∷ []) (reverse_fine es fine.1) (fine.0, tt))

trail_fine : (text : List ℕ) → HasNoGroup (trail_of text)
trail_fine text = reverse_fine (grouped 0 (elements Elsewhere (symbols text))) (grouped_fine 0 (elements Elsewhere (symbols text)) (elements_fine Elsewhere (symbols text)))

bytes-reverse : (text : List ℕ) → Bytes text → Bytes (reverse text)
bytes-reverse [] bytes = bytes
bytes-reverse (c ∷ text) bytes =
    subst (λ (l : List ℕ). Bytes l) (sym (reverse-append (c ∷ []) text))
    (All-append (λ c. c < 2 ^ 8) (reverse text) (c ∷ []) (bytes-reverse text (All-tail (λ c. c < 2 ^ 8) c text bytes))
    (All-cons (λ c. c < 2 ^ 8) c [] (All-head (λ c. c < 2 ^ 8) c text bytes) (All-nil (λ c. c < 2 ^ 8))))

-- Some text matches both exactly where the test says so.
pub overlaps-tested : TrailsAreReadBehindSources → SomeAreReadAsOneIs → SourcesAreShorter → WholeTrailsAreMatched → OverlapsAreTested
overlaps-tested behind some shorter whole one other reads_one reads_other = (to, from)
  where
    most : ℕ
    most = suc (length (trail_of one) + length (trail_of other))

    to : overlaps one other ≡ true → Overlap one other
    to h =
        let read = shared-sound behind some shorter most (trail_of one) (trail_of other) h in
        let path : List ℕ = reverse read.0 in
        let same : reverse path ≡ read.0 = reverse-reverse read.0 in (
          path,
          bytes-reverse read.0 read.1,
          sym (whole one path reads_one) ∙ ap (reads (trail_of one)) same ∙ read.2,
          sym (whole other path reads_other) ∙ ap (reads (trail_of other)) same ∙ read.3,
        )

    from : Overlap one other → overlaps one other ≡ true
    from both =
        let path = both.0 in
        shared-complete behind some shorter (length (reverse path) + length (trail_of one) + length (trail_of other)) most (trail_of one) (trail_of other) (reverse path)
        (trail_fine one) (trail_fine other) (bytes-reverse path both.1) (omega arith) (omega arith) (whole one path reads_one ∙ both.2) (whole other path reads_other ∙ both.3)
