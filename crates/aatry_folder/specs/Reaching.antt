-- Which files includes lead to.
use Rattle.std.specs.Prelude.{◌≡◌, ℕ, Bool, false, List, [], ◌∷◌, Ok, Contains}
use Rattle.aa_text_files.specs.Files.{File, bytes_at}
use Rattle.aa_text_tokens.specs.Splicing.{Entering, target}
use Rattle.aa_text_tokens.specs.Cut.{Seen, cut}
use Rattle.aa_text_tokens.specs.declared.cut.TokenKind.TheVariants.{Include}

-- One file of some includes another, by their places: an include among its tokens puts that in, by its name or as a member of a folder.
pub record Includes (files : List File) (one other : ℕ) : Type 0 where
  pub tokens : List Seen
  pub token : Seen
  pub if_exists : Bool
  pub entered : List ℕ
  pub read : cut 0 0 false (bytes_at files one) ≡ Ok tokens
  pub among : Contains tokens token
  pub asks : token.kind ≡ Include if_exists
  pub puts : target files token.text if_exists ≡ Entering entered
  pub stands : Contains entered other

-- One file leads to another, by way of these, each of which includes the next; or it is the other one itself.
abbrev pub Reaches : List File → ℕ → List ℕ → ℕ → Type 0
Reaches files one [] other = one ≡ other
Reaches files one (next ∷ way) other = Includes files one next × Reaches files next way other
