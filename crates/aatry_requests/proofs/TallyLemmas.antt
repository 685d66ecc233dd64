-- One more question, among entries.
use Rattle.std.proofs.Common.{◌≡◌, ℕ, Bool, true, false, List, [], ◌∷◌, Option, refl, sym, ap, ◌∙◌}
use Rattle.std.specs.Prelude.{Vec}
use Rattle.std.specs.declared.alloc.Global.{Global}
use Rattle.std.specs.Str.{bytes_eq}
use Rattle.std.proofs.lemmas.List.Elements.{All-cons, All-head, All-nil, All-tail}
use Rattle.std.proofs.lemmas.Slice.Eq.{bytes_eq-Decides}
use Rattle.aatry_log_lines.specs.LoggedQuestions.{seen_logged}
use Rattle.indexmap.specs.IndexMap.{insert_entry}
use Rattle.aatry_requests.specs.SeenTallies.{AreUnderTexts, Entry, IsUnderText, seen_entries, seen_tally}
use Rattle.aatry_requests.specs.Tallies.{counted_with}
use Rattle.aatry_requests.specs.Texts.{is_same, question_text}
use Rattle.aatry_requests.specs.code.Entries.{count_under}
use Rattle.aatry_requests.specs.declared.tallies.Count.{Count}
use Rattle.aatry_log_lines.specs.declared.asked.LoggedQuestion.{LoggedQuestion}

-- texts are compared by their bytes
abbrev pub same_text : Vec ℕ Global → Vec ℕ Global → Bool
same_text text other = bytes_eq text.items other.items

-- the entries with one more, of this question
abbrev pub put : List Entry → Vec ℕ Global → LoggedQuestion → Count → List Entry
put entries text question count = insert_entry same_text entries text (record { question = question; times = count.times; span = count.span })

-- each stands under its text still
pub put-under : (entries : List Entry) (text : Vec ℕ Global) (question : LoggedQuestion) (count : Count)
    → AreUnderTexts entries → text.items ≡ question_text (seen_logged question) → AreUnderTexts (put entries text question count)
put-under [] text question count under own =
    All-cons IsUnderText (text, record { question = question; times = count.times; span = count.span }) [] own (All-nil IsUnderText)
put-under (entry ∷ entries) text question count under own =
    by (same_text text entry.0) refl (put-under entries text question count (All-tail IsUnderText entry entries under) own)
  where
    by : (same : Bool) → same_text text entry.0 ≡ same → AreUnderTexts (put entries text question count)
        → AreUnderTexts (put (entry ∷ entries) text question count)
    by true h rest =
        rw h (All-cons IsUnderText (entry.0, record { question = question; times = count.times; span = count.span }) entries
        (sym ((bytes_eq-Decides text.items entry.0.items).0 h) ∙ own) (All-tail IsUnderText entry entries under))
    by false h rest = rw h (All-cons IsUnderText entry (put entries text question count) (All-head IsUnderText entry entries under) rest)

-- the question is counted
pub put-counts : (entries : List Entry) (text : Vec ℕ Global) (question : LoggedQuestion) (time : Option ℕ)
    → AreUnderTexts entries → text.items ≡ question_text (seen_logged question)
    → seen_entries (put entries text question (count_under time text.items entries)) ≡ counted_with (seen_logged question) time (seen_entries entries)
put-counts [] text question time under own = refl
put-counts (entry ∷ entries) text question time under own =
    by (same_text text entry.0) refl (put-counts entries text question time (All-tail IsUnderText entry entries under) own)
  where
    tells : same_text text entry.0 ≡ is_same (seen_logged question) (seen_logged entry.1.question)
    tells = ap (λ one. bytes_eq one entry.0.items) own
        ∙ ap (bytes_eq (question_text (seen_logged question))) (All-head IsUnderText entry entries under)

    by : (same : Bool) → same_text text entry.0 ≡ same
        → seen_entries (put entries text question (count_under time text.items entries)) ≡ counted_with (seen_logged question) time (seen_entries entries)
        → seen_entries (put (entry ∷ entries) text question (count_under time text.items (entry ∷ entries)))
        ≡ counted_with (seen_logged question) time (seen_entries (entry ∷ entries))
    by true h rest = rw (h, sym tells ∙ h) refl
    by false h rest = rw (h, sym tells ∙ h) (ap (λ tallies. seen_tally entry.1 ∷ tallies) rest)
