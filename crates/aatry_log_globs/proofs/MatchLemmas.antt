-- What wider patterns read as, and that the paths match that they were made of.
use Rattle.std.proofs.Common.{◌≡◌, ℕ, zero, suc, ◌+◌, ◌-◌, Bool, true, false, ◌==◌, ◌&&◌, ◌||◌, not, List, [], ◌∷◌, ◌++◌, codes, drop, length, take, refl, sym, ap, subst, ◌∙◌, arith, inl, inr, if◌then◌else◌, append_assoc, Option, None, Some, Ok, is_some}
use Rattle.std.proofs.lemmas.Bool.{cases_Bool, cases_eq, false≢true, or_parts}
use Rattle.std.proofs.lemmas.Bool.Decides.{nat_tests}
use Rattle.std.proofs.lemmas.List.{take-append-drop}
use Rattle.std.proofs.Math.Seq.{drop-nil}
use Rattle.std.specs.List.{All, list_any}
use Rattle.aa_bytes.specs.ByteSets.{has}
use Rattle.aa_bytes.specs.Bytes.{is_digit, is_letter_or_digit}
use Rattle.aa_bytes.specs.declared.byte_set.ByteRange.{ByteRange}
use Rattle.aa_bytes.specs.declared.byte_set.ByteSet.{ByteSet}
use Rattle.aa_bytes.specs.declared.byte_set.ByteSet.TheVariants.{Class}
use Rattle.aa_explain_written.specs.Quotes.{needs_escape}
use Rattle.aa_glob.specs.Laws.{needs_backslash}
use Rattle.aa_glob_pattern.specs.Laws.{MatchingIsBySplits}
use Rattle.aa_glob_syntax.proofs.FaultLemmas.{reading-whole}
use Rattle.aa_glob_syntax.proofs.SymbolLemmas.{symbols-plain}
use Rattle.aa_glob_syntax.proofs.ClassLemmas.{members-first}
use Rattle.aa_glob_syntax.specs.Classes.{members, set_of}
use Rattle.aa_glob_syntax.specs.Elements.{Single, begins_plain, class_element, context_after, elements}
use Rattle.aa_glob_syntax.specs.Items.{Byte, End, Next, Pattern, NoMore, Set, Star}
use Rattle.aa_glob_syntax.specs.Matching.{IsInside, Matches, matches}
use Rattle.aa_glob_syntax.specs.Reading.{Cut, Ended, HasNoFirstFault, items_of, items_read, onto, pieces, reading, whole}
use Rattle.aa_glob_syntax.specs.Symbols.{symbols}
use Rattle.aa_glob_syntax.specs.declared.context.Context.{Context}
use Rattle.aa_glob_syntax.specs.declared.context.Context.TheVariants.{AfterStar, Elsewhere}
use Rattle.aa_glob_syntax.specs.declared.symbol.Symbol.{Symbol}
use Rattle.aa_glob_syntax.specs.declared.symbol.Symbol.TheVariants.{Plain, Escaped}
use Rattle.aatry_log_globs.proofs.FrontLemmas.{front-taken}
use Rattle.aatry_log_globs.proofs.RunLemmas.{IsHashFront, hash-front, inside-tail, number-first, number-inside}
use Rattle.aatry_log_globs.specs.Laws.{expanded}
use Rattle.aatry_log_globs.specs.Runs.{Run, hash_of, hash_size_behind, is_capital, is_hexadecimal, number_of, number_run, number_size, run_behind}
use Rattle.aatry_log_globs.specs.Variables.{Part, bytes_of, front_parts, texts_of}
use Rattle.aatry_log_globs.specs.Widening.{first_step, is_offered, spelled, spelled_behind, spelled_byte, step, widened, widened_behind, widened_rest, wider}

-- The rest of a pattern's text reads as items that these bytes match, wherever it stands outside groups, and begins with no star.
record Reads (text bytes : List ℕ) : Type 0 where
  items : Pattern
  no_star : begins_plain 42 (symbols text) ≡ false
  reads : (context : Context) → pieces 0 (elements context (symbols text)) ≡ Cut items NoMore Ended
  match : Matches items bytes

reads-end : Reads [] []
reads-end = record { items = End; no_star = refl; reads = λ context. refl; match = refl }

-- a byte with a backslash is no letter and no digit, and one without passes none of the tests that a reader makes, but that for a comma
marked-no_letter : (before b : ℕ) → (needs_backslash b || needs_escape before b) ≡ true → is_letter_or_digit b ≡ false
marked-no_letter before b marked = grind (arith, nat_tests)

unmarked : (before b : ℕ) → (needs_backslash b || needs_escape before b) ≡ false → ((b == 92) ≡ false) × ((b == 42) ≡ false) × ((b == 91) ≡ false) × ((b == 63) ≡ false) × ((b == 123) ≡ false) × ((b == 125) ≡ false)
unmarked before b plain = (grind (arith, nat_tests), grind (arith, nat_tests), grind (arith, nat_tests), grind (arith, nat_tests), grind (arith, nat_tests), grind (arith, nat_tests))

-- outside groups it reads as itself, a comma too
pieces-comma : (context : Context) (ls : List Symbol) → pieces 0 (elements context (Plain 44 ∷ ls)) ≡ onto (Byte 44) (pieces 0 (elements (context_after 44) ls))
pieces-comma context ls = refl

pieces-plain : (context : Context) (before b : ℕ) (ls : List Symbol) → (needs_backslash b || needs_escape before b) ≡ false
    → pieces 0 (elements context (Plain b ∷ ls)) ≡ onto (Byte b) (pieces 0 (elements (context_after b) ls))
pieces-plain context before b ls plain =
    let tests = unmarked before b plain in
    elim (cases_eq b 44) [
      | inl comma ↦ rw comma (pieces-comma context ls)
      | inr other ↦ let no_comma : (b == 44) ≡ false = grind (arith, nat_tests) in rw (tests.1, tests.2, tests.3, tests.4, no_comma, tests.5) refl
    ]

reads-escaped : (b : ℕ) (text bytes : List ℕ) → is_letter_or_digit b ≡ false → Reads text bytes → Reads (92 ∷ b ∷ text) (b ∷ bytes)
reads-escaped b text bytes no_letter rest =
    let spelled : symbols (92 ∷ b ∷ text) ≡ Escaped b ∷ symbols text = rw no_letter refl in
    record {
      items = Next (Byte b) rest.items;
      no_star = ap (begins_plain 42) spelled;
      reads = λ context. ap (λ ls. pieces 0 (elements context ls)) spelled ∙ ap (onto (Byte b)) (rest.reads (context_after b));
      match = (b ∷ [], bytes, refl, refl, rest.match);
    }

reads-plain : (before b : ℕ) (text bytes : List ℕ) → (needs_backslash b || needs_escape before b) ≡ false → Reads text bytes → Reads (b ∷ text) (b ∷ bytes)
reads-plain before b text bytes plain rest =
    let tests = unmarked before b plain in
    let spelled : symbols (b ∷ text) ≡ Plain b ∷ symbols text = symbols-plain b text tests.0 in
    record {
      items = Next (Byte b) rest.items;
      no_star = ap (begins_plain 42) spelled ∙ tests.1;
      reads = λ context. ap (λ ls. pieces 0 (elements context ls)) spelled ∙ pieces-plain context before b (symbols text) plain ∙ ap (onto (Byte b)) (rest.reads (context_after b));
      match = (b ∷ [], bytes, refl, refl, rest.match);
    }

reads-byte : (before b : ℕ) (text bytes : List ℕ) → Reads text bytes → Reads (spelled_byte before b ++ text) (b ∷ bytes)
reads-byte before b text bytes rest = elim (cases_Bool (needs_backslash b || needs_escape before b)) [
  | inl marked ↦ rw marked (reads-escaped b text bytes (marked-no_letter before b marked) rest)
  | inr plain ↦ rw plain (reads-plain before b text bytes plain rest)
]

-- bytes that stand for themselves
reads-bytes : (before : ℕ) (bs text bytes : List ℕ) → Reads text bytes → Reads (spelled_behind before bs ++ text) (bs ++ bytes)
reads-bytes before [] text bytes rest = rest
reads-bytes before (b ∷ bs) text bytes rest =
    subst (λ t. Reads t (b ∷ bs ++ bytes)) (sym (append_assoc (spelled_byte before b) (spelled_behind b bs) text))
    (reads-byte before b (spelled_behind b bs ++ text) (bs ++ bytes) (reads-bytes b bs text bytes rest))

-- a text reads as a set and a star, where no star comes behind it
abbrev IsClass : List ℕ → ByteSet → Type 0
IsClass class set = (text : List ℕ) (context : Context) → begins_plain 42 (symbols text) ≡ false
    → (begins_plain 42 (symbols (class ++ text)) ≡ false) × (pieces 0 (elements context (symbols (class ++ text))) ≡ onto (Set set) (onto Star (pieces 0 (elements AfterStar (symbols text)))))

abbrev range : ℕ → ℕ → ByteRange
range first last = record { first = first; last = last }

abbrev digits : ByteSet
digits = Class false (range 48 57 ∷ [])

abbrev small : ByteSet
small = Class false (range 48 57 ∷ range 97 102 ∷ [])

abbrev both : ByteSet
both = Class false (range 48 57 ∷ range 97 102 ∷ range 65 70 ∷ [])

-- a class ends at its bracket
listed : (ranges : List ByteRange) (text : List ℕ)
    → pieces 0 (class_element (set_of false (members ranges (Plain 93 ∷ Plain 42 ∷ symbols text))) ∷ Single Star ∷ elements AfterStar (symbols text))
    ≡ pieces 0 (class_element (set_of false (Ok ranges)) ∷ Single Star ∷ elements AfterStar (symbols text))
listed ranges text =
    ap (λ read. pieces 0 (class_element (set_of false read) ∷ Single Star ∷ elements AfterStar (symbols text))) (members-first ranges (Plain 93) (Plain 42 ∷ symbols text))

class-digits : IsClass (codes "[0-9]*") digits
class-digits text context plain =
    let spelled : symbols (codes "[0-9]*" ++ text) ≡ Plain 91 ∷ Plain 48 ∷ Plain 45 ∷ Plain 57 ∷ Plain 93 ∷ Plain 42 ∷ symbols text =
    ap (λ ls. Plain 91 ∷ Plain 48 ∷ Plain 45 ∷ Plain 57 ∷ Plain 93 ∷ ls) (symbols-plain 42 text refl) in
    (ap (begins_plain 42) spelled, ap (λ ls. pieces 0 (elements context ls)) spelled ∙ rw plain (listed (range 48 57 ∷ []) text))

class-small : IsClass (codes "[0-9a-f]*") small
class-small text context plain =
    let spelled : symbols (codes "[0-9a-f]*" ++ text) ≡ Plain 91 ∷ Plain 48 ∷ Plain 45 ∷ Plain 57 ∷ Plain 97 ∷ Plain 45 ∷ Plain 102 ∷ Plain 93 ∷ Plain 42 ∷ symbols text =
    ap (λ ls. Plain 91 ∷ Plain 48 ∷ Plain 45 ∷ Plain 57 ∷ Plain 97 ∷ Plain 45 ∷ Plain 102 ∷ Plain 93 ∷ ls) (symbols-plain 42 text refl) in
    (ap (begins_plain 42) spelled, ap (λ ls. pieces 0 (elements context ls)) spelled ∙ rw plain (listed (range 48 57 ∷ range 97 102 ∷ []) text))

class-both : IsClass (codes "[0-9a-fA-F]*") both
class-both text context plain =
    let spelled : symbols (codes "[0-9a-fA-F]*" ++ text) ≡ Plain 91 ∷ Plain 48 ∷ Plain 45 ∷ Plain 57 ∷ Plain 97 ∷ Plain 45 ∷ Plain 102 ∷ Plain 65 ∷ Plain 45 ∷ Plain 70 ∷ Plain 93 ∷ Plain 42 ∷ symbols text =
    ap (λ ls. Plain 91 ∷ Plain 48 ∷ Plain 45 ∷ Plain 57 ∷ Plain 97 ∷ Plain 45 ∷ Plain 102 ∷ Plain 65 ∷ Plain 45 ∷ Plain 70 ∷ Plain 93 ∷ ls) (symbols-plain 42 text refl) in
    (ap (begins_plain 42) spelled, ap (λ ls. pieces 0 (elements context ls)) spelled ∙ rw plain (listed (range 48 57 ∷ range 97 102 ∷ range 65 70 ∷ []) text))

-- which bytes the classes have
digit-in : (b : ℕ) → is_digit b ≡ true → has digits b ≡ true
digit-in b digit = grind (arith, nat_tests)

small-in : (b : ℕ) → is_hexadecimal b ≡ true → is_capital b ≡ false → has small b ≡ true
small-in b hexadecimal plain = grind (arith, nat_tests)

both-in : (b : ℕ) → is_hexadecimal b ≡ true → has both b ≡ true
both-in b hexadecimal = grind (arith, nat_tests)

-- a hash or number begins with this byte: its pattern is a class that has the byte, and a star for the others
record IsRunFront (run : Run) (b : ℕ) (bs : List ℕ) : Type 0 where
  set : ByteSet
  reads_as : IsClass run.pattern set
  first : has set b ≡ true
  inside : All IsInside (take (run.size - 1) bs)

abbrev StandsAtFront : Option Run → ℕ → List ℕ → Type 0
StandsAtFront None b bs = Unit {0}
StandsAtFront (Some run) b bs = IsRunFront run b bs

number-run-front : (b : ℕ) (bs : List ℕ) → StandsAtFront (number_run (b ∷ bs)) b bs
number-run-front b bs = elim (cases_Bool (number_size (b ∷ bs) == 0)) [
  | inl none ↦ rw none tt
  | inr some ↦ rw some (record {
    set = digits;
    reads_as = class-digits;
    first = digit-in b (number-first b bs some);
    inside = inside-tail (number_size (b ∷ bs)) b bs some (number-inside (b ∷ bs));
  })
]

first-no_capital : (size b : ℕ) (bs : List ℕ) → (size == 0) ≡ false → list_any is_capital (take size (b ∷ bs)) ≡ false → is_capital b ≡ false
first-no_capital zero b bs some none = absurd (false≢true (sym some))
first-no_capital (suc n) b bs some none = (or_parts (is_capital b) (list_any is_capital (take n bs)) none).0

hash-run-front : (size b : ℕ) (bs : List ℕ) → (size == 0) ≡ false → IsHashFront size b bs → IsRunFront (hash_of size (b ∷ bs)) b bs
hash-run-front size b bs some front = elim (cases_Bool (list_any is_capital (take size (b ∷ bs)))) [
  | inl capital ↦ rw capital (record { set = both; reads_as = class-both; first = both-in b front.first; inside = inside-tail size b bs some front.inside })
  | inr plain ↦ rw plain (record {
    set = small;
    reads_as = class-small;
    first = small-in b front.first (first-no_capital size b bs some plain);
    inside = inside-tail size b bs some front.inside;
  })
]

run-front : (before b : ℕ) (bs : List ℕ) → StandsAtFront (run_behind before (b ∷ bs)) b bs
run-front before b bs = elim (cases_Bool (hash_size_behind before (b ∷ bs) == 0)) [
  | inl none ↦ rw none (number-run-front b bs)
  | inr some ↦ rw some (hash-run-front (hash_size_behind before (b ∷ bs)) b bs some (hash-front before b bs some))
]

reads-run : (run : Run) (b : ℕ) (bs text : List ℕ) → IsRunFront run b bs → Reads text (drop (run.size - 1) bs) → Reads (run.pattern ++ text) (b ∷ bs)
reads-run run b bs text front rest =
    let inner = take (run.size - 1) bs in
    let behind = drop (run.size - 1) bs in
    record {
      items = Next (Set front.set) (Next Star rest.items);
      no_star = (front.reads_as text Elsewhere rest.no_star).0;
      reads = λ context. (front.reads_as text context rest.no_star).1 ∙ ap (λ p. onto (Set front.set) (onto Star p)) (rest.reads AfterStar);
      match = (b ∷ [], bs, refl, (b, refl, front.first), (inner, behind, sym (take-append-drop (run.size - 1) bs), front.inside, rest.match));
    }

-- what stands in the place of a byte, and of those that are covered with it
reads-first : (found : Option Run) (before b : ℕ) (bs : List ℕ) → StandsAtFront found b bs → ((covered : ℕ) → Reads (widened_behind covered b bs) (drop covered bs))
    → Reads ((first_step found before b).text ++ widened_behind (first_step found before b).covered b bs) (b ∷ bs)
reads-first None before b bs front rest = reads-byte before b (widened_behind 0 b bs) bs (rest 0)
reads-first (Some run) before b bs front rest = reads-run run b bs (widened_behind (run.size - 1) b bs) front (rest (run.size - 1))

drop-more : (covered b : ℕ) (bs : List ℕ) → (covered == 0) ≡ false → drop (covered - 1) bs ≡ drop covered (b ∷ bs)
drop-more zero b bs some = absurd (false≢true (sym some))
drop-more (suc n) b bs some = let less : suc n - 1 ≡ n = omega arith in ap (λ k. drop k bs) less

reads-widened : (covered before : ℕ) (bytes : List ℕ) → Reads (widened_behind covered before bytes) (drop covered bytes)
reads-widened covered before [] = subst (λ bytes. Reads [] bytes) (sym (drop-nil covered)) reads-end
reads-widened covered before (b ∷ bs) = elim (cases_Bool (covered == 0)) [
  | inl none ↦
      let zero : covered ≡ 0 = grind (arith, nat_tests) in
      subst (λ n. Reads (widened_behind n before (b ∷ bs)) (drop n (b ∷ bs))) (sym zero)
      (reads-first (run_behind before (b ∷ bs)) before b bs (run-front before b bs) (λ n. reads-widened n b bs))
  | inr some ↦ rw some (subst (λ bytes. Reads (widened_behind (covered - 1) b bs) bytes) (drop-more covered b bs some) (reads-widened (covered - 1) b bs))
]

reads-expanded : (path : List ℕ) → Reads (expanded path) path
reads-expanded path =
    let front = bytes_of (front_parts path) in
    let rest = drop (length front) path in
    let whole_path : front ++ rest ≡ path = ap (λ bytes. bytes ++ rest) (sym (front-taken path)) ∙ take-append-drop (length front) path in
    subst (λ bytes. Reads (expanded path) bytes) whole_path (reads-bytes 0 front (widened_rest path) rest (reads-widened 0 0 rest))

-- A path matches the wider pattern for it, with what it has in the place of each variable.
pub matches-expanded : MatchingIsBySplits → (path : List ℕ) → HasNoFirstFault (expanded path) → matches (items_of (expanded path)) path ≡ true
matches-expanded splits path fine =
    let read = reads-expanded path in
    let items : items_of (expanded path) ≡ read.items = ap items_read (reading-whole (expanded path) fine ∙ ap whole (read.reads Elsewhere)) in
    ap (λ pattern. matches pattern path) items ∙ (splits read.items path).1 read.match

text_in : Option (List ℕ) → List ℕ
text_in None = []
text_in (Some text) = text

offered-widened : (path pattern : List ℕ) → wider path ≡ Some pattern → widened path ≡ pattern
unfolding text_in
offered-widened path pattern offered = elim (cases_Bool (is_offered path (widened path))) [
  | inl told ↦ let is : wider path ≡ Some (widened path) = rw told refl in ap text_in (sym is ∙ offered)
  | inr untold ↦ let is : wider path ≡ None = rw untold refl in absurd (false≢true (ap is_some (sym is ∙ offered)))
]

-- Where it has no variable, that is the pattern itself.
pub matches-offered : MatchingIsBySplits → (path pattern : List ℕ) → front_parts path ≡ [] → wider path ≡ Some pattern → HasNoFirstFault pattern → matches (items_of pattern) path ≡ true
matches-offered splits path pattern none offered fine =
    let plain : expanded path ≡ widened path =
    ap (λ parts. spelled (bytes_of parts) ++ widened_rest path) none ∙ sym (ap (λ parts. texts_of parts ++ widened_rest path) none) in
    let same : expanded path ≡ pattern = plain ∙ offered-widened path pattern offered in
    ap (λ text. matches (items_of text) path) (sym same) ∙ matches-expanded splits path (subst HasNoFirstFault (sym same) fine)
