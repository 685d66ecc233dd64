-- How a pattern's items begin, by which attachments are ranked (apparmor.d(5), "Profile Head").
use Rattle.std.specs.Prelude.{ℕ, ◌+◌, Bool, true, false}
use Rattle.aa_glob_syntax.specs.Items.{Byte, Pattern, End, Next}

-- all items are bytes that stand for themselves
abbrev pub is_exact : Pattern → Bool
is_exact End = true
is_exact (Next (Byte b) items) = is_exact items
is_exact (Next item items) = false

-- how many such bytes come before the first other item
abbrev pub literal_prefix : Pattern → ℕ
literal_prefix End = 0
literal_prefix (Next (Byte b) items) = 1 + literal_prefix items
literal_prefix (Next item items) = 0
