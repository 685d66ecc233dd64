-- Letters in words: what they allow.
use Rattle.std.specs.Prelude.{ℕ, ◌==◌, if◌then◌else◌, List, [], ◌++◌, codes}
use Rattle.aa_profile_data.specs.Access.{APPEND, EXEC, LINK, LOCK, MAP, READ, WRITE, common}

-- the word of a letter, if it is among some, with the separator before it, if an earlier letter is among them
abbrev pub word_of : ℕ → ℕ → ℕ → List ℕ → List ℕ → List ℕ
word_of letters letter earlier word between =
    if common letters letter == 0 then [] else (if common letters earlier == 0 then [] else between) ++ word

-- the words of letters
unfoldable pub letter_words : ℕ → List ℕ → List ℕ
letter_words letters between =
    word_of letters READ 0 (codes "read") between ++ word_of letters WRITE 1 (codes "write") between
    ++ word_of letters APPEND 3 (codes "append to") between ++ word_of letters LINK 7 (codes "link to") between
    ++ word_of letters LOCK 15 (codes "lock") between ++ word_of letters MAP 31 (codes "map") between
    ++ word_of letters EXEC 63 (codes "start") between
