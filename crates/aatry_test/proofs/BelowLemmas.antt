-- What is told of one transcript more, and of all.
use Rattle.std.proofs.Common.{◌≡◌, ◌∙◌, ◌+◌, ℕ, Bool, List, [], ◌∷◌, ◌++◌, ap, append-nil, append_assoc, arith, length, refl, subst, sym}
use Rattle.aa_profile_parsing.specs.declared.language.Language.{Language}
use Rattle.aa_text_files.specs.Files.{File}
use Rattle.aa_start.specs.Known.{Known}
use Rattle.aatry_test.specs.Below.{Came, IsFileTested, TestsEach, and_then, came_to_nothing, came_with}

-- what tests came to, part by part
pub came-is : {s t : List ℕ} {m n : ℕ} {fs gs : List File} → s ≡ t → m ≡ n → fs ≡ gs → came_with s m fs ≡ came_with t n gs
came-is text failed replaced = rw (text, failed, replaced) refl

-- what tests came to, three times
and_then-and_then : (a b c : Came) → and_then (and_then a b) c ≡ and_then a (and_then b c)
and_then-and_then a b c =
    let count : a.failed + b.failed + c.failed ≡ a.failed + (b.failed + c.failed) = omega arith in
    ap (λ text. came_with text (a.failed + b.failed + c.failed) ((a.replaced ++ b.replaced) ++ c.replaced)) (append_assoc a.text b.text c.text)
    ∙ ap (λ failed. came_with (a.text ++ (b.text ++ c.text)) failed ((a.replaced ++ b.replaced) ++ c.replaced)) count
    ∙ ap (λ replaced. came_with (a.text ++ (b.text ++ c.text)) (a.failed + (b.failed + c.failed)) replaced) (append_assoc a.replaced b.replaced c.replaced)

-- and with what no test comes to
pub nothing-and_then : (a : Came) → and_then came_to_nothing a ≡ a
nothing-and_then a = let count : 0 + a.failed ≡ a.failed = omega arith in ap (λ failed. came_with a.text failed a.replaced) count

and_then-nothing : (a : Came) → and_then a came_to_nothing ≡ a
and_then-nothing a =
    let count : a.failed + 0 ≡ a.failed = omega arith in
    ap (λ text. came_with text (a.failed + 0) (a.replaced ++ [])) (append-nil a.text) ∙ ap (λ failed. came_with a.text failed (a.replaced ++ [])) count
    ∙ ap (λ replaced. came_with a.text a.failed replaced) (append-nil a.replaced)

-- whatever the transcripts that are left come to, all come to, behind what was so far and what the next one came to
pub tests_one_more : (language : Language) (known : Known) (files : List File) (accept : Bool) (path : List ℕ) (behind all : List (List ℕ)) (before after own rest : Came)
    → after ≡ and_then before own → IsFileTested language known files accept path own
    → ((r : Came) → TestsEach language known files accept (path ∷ behind) r → TestsEach language known files accept all (and_then before r))
    → TestsEach language known files accept behind rest → TestsEach language known files accept all (and_then after rest)
tests_one_more language known files accept path behind all before after own rest put tested so_far tests =
    let more = so_far (and_then own rest) (own, rest, refl, tested, tests) in
    subst (λ came. TestsEach language known files accept all came) (sym (ap (λ a. and_then a rest) put ∙ and_then-and_then before own rest)) more

-- where none is left, all came to what they came to so far
pub tests_all : (language : Language) (known : Known) (files : List File) (accept : Bool) (behind all : List (List ℕ)) (came : Came) → length behind ≡ 0
    → ((r : Came) → TestsEach language known files accept behind r → TestsEach language known files accept all (and_then came r))
    → TestsEach language known files accept all came
tests_all language known files accept [] all came none so_far =
    subst (λ c. TestsEach language known files accept all c) (and_then-nothing came) (so_far came_to_nothing refl)
tests_all language known files accept (path ∷ behind) all came none so_far = absurd (omega (arith, none))

-- before the first, what the transcripts come to is what all come to
pub tests_none : (language : Language) (known : Known) (files : List File) (accept : Bool) (all : List (List ℕ)) (came rest : Came) → came ≡ came_to_nothing
    → TestsEach language known files accept all rest → TestsEach language known files accept all (and_then came rest)
tests_none language known files accept all came rest none tests =
    subst (λ c. TestsEach language known files accept all c) (sym (ap (λ c. and_then c rest) none ∙ nothing-and_then rest)) tests
