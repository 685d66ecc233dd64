-- No record holds a float.
use Rattle.std.proofs.Common.{◌≡◌, ◌||◌, ℕ, List, [], ◌∷◌, Bool, true, false, true≢false, Ordering, Less, Equal, Greater, nat_cmp, refl, cond}
use Rattle.std.specs.Cmp.Lexicographic.{slice_cmp}
use Rattle.std.specs.Ordering.{match_ordering}
use Rattle.std.specs.Str.{is_utf8}
use Rattle.aatry_report.specs.Records.{digits_data, text_data, texts_data}
use Rattle.serde_json.specs.Data.{Data, Members, member, no_members, put, string}
use Rattle.serde_json.specs.Written.{has_float, items_have_float, members_have_float}

first_of_two : (a b : Bool) → a || b ≡ false → a ≡ false
first_of_two false b is = refl
first_of_two true b is = is

second_of_two : (a b : Bool) → a || b ≡ false → b ≡ false
second_of_two false b is = is
second_of_two true b is = absurd (true≢false is)

placed : (o : Ordering) (a b c : Members) → members_have_float a ≡ false → members_have_float b ≡ false → members_have_float c ≡ false
    → members_have_float (match_ordering o a b c) ≡ false
placed Less a b c x y z = x
placed Equal a b c x y z = y
placed Greater a b c x y z = z

-- putting what has no float among members that have none leaves them without
pub plain_put : (k : List ℕ) (d : Data) (ms : Members) → has_float d ≡ false → members_have_float ms ≡ false → members_have_float (put k d ms) ≡ false
plain_put k d no_members value before = rw value refl
plain_put k d (member l e ms) value before =
    let first = first_of_two (has_float e) (members_have_float ms) before in
    let rest = second_of_two (has_float e) (members_have_float ms) before in
    placed (slice_cmp nat_cmp k l) _ _ _ (rw (value, first, rest) refl) (rw (value, rest) refl) (rw first (plain_put k d ms value rest))

either_plain : (b : Bool) (x y : Data) → has_float x ≡ false → has_float y ≡ false → has_float (cond b x y) ≡ false
either_plain true x y a b = a
either_plain false x y a b = b

-- a text has none
pub plain_text : (text : List ℕ) → has_float (text_data text) ≡ false
plain_text text = either_plain (is_utf8 text) (string text) (digits_data text) refl refl

-- and texts have none
pub plain_texts : (texts : List (List ℕ)) → items_have_float (texts_data texts) ≡ false
plain_texts [] = refl
plain_texts (text ∷ texts) = rw (plain_text text, plain_texts texts) refl
