-- A file that can't be spliced since a file is missing: the fault is told at the include that asks for that.
use Rattle.std.proofs.Common.{◌≡◌, ◌∙◌, ◌⊎◌, ◌+◌, ◌==◌, ℕ, zero, suc, Bool, true, false, not, List, [], ◌∷◌, ◌++◌, Option, None, Some, Result, Ok, Err, length, refl, ap, subst, inl, inr, arith}
use Rattle.std.specs.Prelude.{nat_le, if◌then◌else◌}
use Rattle.std.specs.List.{Contains, prefix_len}
use Rattle.std.proofs.lemmas.Bool.{eqb-true}
use Rattle.std.proofs.lemmas.List.Elements.{Contains-append_right}
use Rattle.aa_bytes.specs.Bytes.{slash}
use Rattle.aa_bytes.specs.Texts.{has_byte}
use Rattle.aa_text_tokens.specs.Cut.{Seen, cut}
use Rattle.aa_text_tokens.specs.declared.cut.CutRefusal.{CutRefusal}
use Rattle.aa_text_tokens.specs.declared.cut.CutRefusal.TheVariants as cut_refusal
use Rattle.aa_text_tokens.specs.declared.cut.TokenKind.{TokenKind}
use Rattle.aa_text_tokens.specs.declared.cut.TokenKind.TheVariants.{Include, Assign, Value, Quoted, Word, Comma, OpenBrace, CloseBrace}
use Rattle.aa_text_files.specs.Files.{File, bytes_at, file_at, has_file}
use Rattle.aa_text_files.specs.Folder.{members}
use Rattle.aa_text_files.specs.Limit.{most_bytes}
use Rattle.aa_text_files.specs.declared.text_error.Place.{Place}
use Rattle.aa_text_files.specs.declared.text_error.TextRefusal.{TextRefusal}
use Rattle.aa_text_files.specs.declared.text_error.TextRefusal.TheVariants.{NoFile, IncludeDepth, TextTooBig, ZeroByte}
use Rattle.aa_text_tokens.specs.Splicing.{Absent, Entered, Entering, Fault, Nothing, Placed, Target, Way, and_then, deepest, each, entered, included, looked_up, of_members, refusal_of, spliced, target, tokens_of, walked, within, without}
use Rattle.aatry_folder.specs.Includes.{IsMissing, IsMissingAsAWhole, Lacks}

-- a fault that a file is missing has the place of the include that asks for it
abbrev Tells : List File → Fault → Type 0
Tells files fault = fault.0 ≡ NoFile → (place : Place) × (fault.1 ≡ Some place) × IsMissing files place (Lacks files)

-- a fault of another kind tells of none
other-tells : (files : List File) (refusal : TextRefusal) (place : Option Place) → (refusal ≡ NoFile → ⊥) → Tells files (refusal, place)
other-tells files refusal place other is = absurd (other is)

-- what is entered may end in such a fault alone
abbrev TellsAll : List File → Entered → Type 0
TellsAll files all = (fault : Fault) → all ≡ Err fault → Tells files fault

tells-one : (files : List File) (fault : Fault) → Tells files fault → TellsAll files (Err fault)
tells-one files fault told other same = let is : fault ≡ other = cc in subst (Tells files) is told

tells-none : (files : List File) (all : List Placed × ℕ) → TellsAll files (Ok all)
tells-none files all fault same = absurd (cc)

tells-then : (files : List File) (first : Entered) (more : ℕ → Entered) → TellsAll files first → ((total : ℕ) → TellsAll files (more total))
    → TellsAll files (and_then first more)
unfolding and_then
tells-then files (Err fault) more told rest = told
tells-then files (Ok first) more told rest = by (more first.1) (rest first.1)
  where
    by : (behind : Entered) → TellsAll files behind → TellsAll files (elim behind [ Err fault ↦ Err fault | Ok rest ↦ Ok (first.0 ++ rest.0, rest.1) ])
    by (Err fault) told = told
    by (Ok rest) told = tells-none files (first.0 ++ rest.0, rest.1)

-- files that are entered in turn
tells-each : (files : List File) (enter : ℕ → ℕ → Option Place → Entered) → ((file total : ℕ) (place : Option Place) → TellsAll files (enter file total place))
    → (place : Option Place) (found : List ℕ) (total : ℕ) → TellsAll files (each enter place found total)
unfolding each
tells-each files enter told place [] total = tells-none files ([], total)
tells-each files enter told place (file ∷ found) total =
    tells-then files (enter file total place) (each enter place found) (told file total place) (tells-each files enter told place found)

-- a way that files are entered by tells of missing files so
abbrev TellsBy : List File → Way → Type 0
TellsBy files None = Unit {0}
TellsBy files (Some enter) = (file total : ℕ) (place : Option Place) → TellsAll files (enter file total place)

-- an include, where one that finds nothing is told at its place
tells-included : (files : List File) (way : Way) → TellsBy files way → (place : Place) (found : Target) → (found ≡ Absent → IsMissing files place (Lacks files))
    → (total : ℕ) → TellsAll files (included way place found total)
unfolding included
tells-included files way told place Nothing missing total = tells-none files ([], total)
tells-included files None told place Absent missing total = tells-one files (IncludeDepth, Some place) (λ is. absurd (cc))
tells-included files None told place (Entering found) missing total = tells-one files (IncludeDepth, Some place) (λ is. absurd (cc))
tells-included files (Some enter) told place Absent missing total = tells-one files (NoFile, Some place) (λ is. (place, refl, missing refl))
tells-included files (Some enter) told place (Entering found) missing total = tells-each files enter told (Some place) found total

-- a folder's members are entered, or there are none
of_members-found : (found : List ℕ) → of_members found ≡ Absent → ⊥
of_members-found [] is = absurd (cc)
of_members-found (file ∷ found) is = absurd (cc)

-- an include that finds nothing has to find something, and the files lack it
absent-lacks : (files : List File) (name : List ℕ) (if_exists : Bool) → target files name if_exists ≡ Absent
    → (if_exists ≡ false) × ((length name ≡ 0) ⊎ Lacks files name)
unfolding target
absent-lacks files name if_exists is = by (length name == 0) refl is
  where
    must : (b : Bool) → without b ≡ Absent → b ≡ false
    must true same = absurd (cc)
    must false same = refl

    folder : (b : Bool) → has_file files (looked_up name ++ slash ∷ []) ≡ b → file_at files (looked_up name) ≡ None
        → (if b then of_members (members files (looked_up name ++ slash ∷ [])) else without if_exists) ≡ Absent
        → (if_exists ≡ false) × ((length name ≡ 0) ⊎ Lacks files name)
    folder true e none same = absurd (of_members-found (members files (looked_up name ++ slash ∷ [])) same)
    folder false e none same = (must if_exists same, inr (none, e))

    file : (found : Option ℕ) → file_at files (looked_up name) ≡ found
        → (elim found [
          | Some file ↦ Entering (file ∷ [])
          | None ↦ if has_file files (looked_up name ++ slash ∷ []) then of_members (members files (looked_up name ++ slash ∷ [])) else without if_exists
        ]) ≡ Absent
        → (if_exists ≡ false) × ((length name ≡ 0) ⊎ Lacks files name)
    file (Some at) e same = absurd (cc)
    file None e same = folder (has_file files (looked_up name ++ slash ∷ [])) refl e same

    by : (b : Bool) → (length name == 0) ≡ b
        → (if b then without if_exists else
        elim (file_at files (looked_up name)) [
          | Some file ↦ Entering (file ∷ [])
          | None ↦ if has_file files (looked_up name ++ slash ∷ []) then of_members (members files (looked_up name ++ slash ∷ [])) else without if_exists
        ]) ≡ Absent
        → (if_exists ≡ false) × ((length name ≡ 0) ⊎ Lacks files name)
    by true e same = (must if_exists same, inl (eqb-true (length name) 0 e))
    by false e same = file (file_at files (looked_up name)) refl same

-- the tokens of a file, where these are the last of all that it has
module _ (files : List File) (way : Way) (told : TellsBy files way) (file : ℕ) (all : List Seen) (read : cut 0 0 false (bytes_at files file) ≡ Ok all) where
  tells-walked : (tokens : List Seen) → ((token : Seen) → Contains tokens token → Contains all token) → (total : ℕ) → TellsAll files (walked files way file tokens total)
  unfolding walked
  tells-walked [] among total = tells-none files ([], total)
  tells-walked (token ∷ tokens) among total =
      by (tells-walked tokens (λ other has. among other (Contains-append_right (token ∷ []) tokens other has))) token.kind refl
    where
      place : Place
      place = record { file = file; at = token.start }

      missing : (if_exists : Bool) → token.kind ≡ Include if_exists → target files token.text if_exists ≡ Absent → IsMissing files place (Lacks files)
      missing if_exists is absent =
          let lacks = absent-lacks files token.text if_exists absent in
          record {
            tokens = all;
            token = token;
            read = read;
            among = among token (zero, omega arith, refl);
            asks = is ∙ ap Include lacks.0;
            there = refl;
            holds = lacks.1;
          }

      plain : ((total : ℕ) → TellsAll files (walked files way file tokens total))
          → TellsAll files (and_then (Ok (record { file = file; token = token } ∷ [], total)) (walked files way file tokens))
      plain behind = tells-then files (Ok (record { file = file; token = token } ∷ [], total)) (walked files way file tokens)
          (tells-none files (record { file = file; token = token } ∷ [], total)) behind

      by : ((total : ℕ) → TellsAll files (walked files way file tokens total)) → (kind : TokenKind) → token.kind ≡ kind
          → TellsAll files (elim kind [
            | Include if_exists ↦ and_then (included way place (target files token.text if_exists) total) (walked files way file tokens)
            | _ ↦ and_then (Ok (record { file = file; token = token } ∷ [], total)) (walked files way file tokens)
          ])
      by behind (Include if_exists) is = tells-then files (included way place (target files token.text if_exists) total) (walked files way file tokens)
          (tells-included files way told place (target files token.text if_exists) (missing if_exists is) total) behind
      by behind (Assign append) is = plain behind
      by behind Value is = plain behind
      by behind Quoted is = plain behind
      by behind Word is = plain behind
      by behind Comma is = plain behind
      by behind OpenBrace is = plain behind
      by behind CloseBrace is = plain behind

-- a fault of the token cut is none of a missing file
cut-apart : (refusal : CutRefusal) → refusal_of refusal ≡ NoFile → ⊥
cut-apart cut_refusal.OpenQuote is = absurd (cc)
cut-apart cut_refusal.OpenOther is = absurd (cc)
cut-apart cut_refusal.Memory is = absurd (cc)

-- a file that is entered
tells-entered : (files : List File) (way : Way) → TellsBy files way → (file total : ℕ) (place : Option Place) → TellsAll files (entered files way file total place)
unfolding entered
tells-entered files way told file total place = by (not (nat_le (total + length bytes) most_bytes))
  where
    bytes : List ℕ
    bytes = bytes_at files file

    zero_place : Place
    zero_place = record { file = file; at = prefix_len (λ b. not (b == 0)) bytes }

    tokens : (out : Result (List Seen) (CutRefusal × ℕ)) → cut 0 0 false bytes ≡ out
        → TellsAll files (elim out [
          | Err fault ↦ Err (refusal_of fault.0, Some (record { file = file; at = fault.1 }))
          | Ok tokens ↦ walked files way file tokens (total + length bytes)
        ])
    tokens (Err fault) e = tells-one files (refusal_of fault.0, Some (record { file = file; at = fault.1 })) (λ is. absurd (cut-apart fault.0 is))
    tokens (Ok all) e = tells-walked files way told file all e all (λ token has. has) (total + length bytes)

    zeros : (b : Bool)
        → TellsAll files (if b then Err (ZeroByte, Some zero_place) else elim (cut 0 0 false bytes) [
          | Err fault ↦ Err (refusal_of fault.0, Some (record { file = file; at = fault.1 }))
          | Ok tokens ↦ walked files way file tokens (total + length bytes)
        ])
    zeros true = tells-one files (ZeroByte, Some zero_place) (λ is. absurd (cc))
    zeros false = tokens (cut 0 0 false bytes) refl

    by : (b : Bool)
        → TellsAll files (if b then Err (TextTooBig, place) else if has_byte 0 bytes then Err (ZeroByte, Some zero_place) else elim (cut 0 0 false bytes) [
          | Err fault ↦ Err (refusal_of fault.0, Some (record { file = file; at = fault.1 }))
          | Ok tokens ↦ walked files way file tokens (total + length bytes)
        ])
    by true = tells-one files (TextTooBig, place) (λ is. absurd (cc))
    by false = zeros (has_byte 0 bytes)

-- at each depth
tells-within : (files : List File) (depth file total : ℕ) (place : Option Place) → TellsAll files (within files depth file total place)
unfolding within
tells-within files zero file total place = tells-entered files None tt file total place
tells-within files (suc depth) file total place = tells-entered files (Some (within files depth)) (tells-within files depth) file total place

-- the tokens alone have the same fault
tells-tokens : (files : List File) (all : Entered) → TellsAll files all → (fault : Fault) → tokens_of all ≡ Err fault → Tells files fault
tells-tokens files (Ok all) told fault same = absurd (cc)
tells-tokens files (Err other) told fault same = let is : other ≡ fault = cc in subst (Tells files) is (told other refl)

-- a fault without a place
abbrev IsPlaceless : Fault → Type 0
IsPlaceless fault = fault.1 ≡ None

-- the tokens of a file by its place, if it has one
abbrev tokens_at : List File → Option ℕ → Result (List Placed) Fault
tokens_at files None = Err (NoFile, None)
tokens_at files (Some file) = tokens_of (within files deepest file 0 None)

-- the file itself is missing, or the fault tells the include that asks for what is
pub spliced-tells : (files : List File) (name : List ℕ) (fault : Fault) → spliced files name ≡ Err fault
    → ((file_at files name ≡ None) × IsPlaceless fault) ⊎ Tells files fault
unfolding spliced
spliced-tells files name fault is = by (file_at files name) refl is
  where
    missing : Fault
    missing = (NoFile, None)

    by : (found : Option ℕ) → file_at files name ≡ found → tokens_at files found ≡ Err fault
        → ((file_at files name ≡ None) × IsPlaceless fault) ⊎ Tells files fault
    by None e same = let is : missing ≡ fault = cc in inl (e, subst IsPlaceless is refl)
    by (Some file) e same = inr (tells-tokens files (within files deepest file 0 None) (tells-within files deepest file 0 None) fault same)

-- with a place it is that of an include
pub include-missing : (files : List File) (name : List ℕ) (place : Place) → spliced files name ≡ Err (NoFile, Some place) → IsMissing files place (Lacks files)
include-missing files name place is = by (spliced-tells files name fault is)
  where
    fault : Fault
    fault = (NoFile, Some place)

    at : (there : Place) × (Some place ≡ Some there) × IsMissing files there (Lacks files) → IsMissing files place (Lacks files)
    at (there, same, missing) = let is : there ≡ place = cc in subst (λ place. IsMissing files place (Lacks files)) is missing

    by : ((file_at files name ≡ None) × IsPlaceless fault) ⊎ Tells files fault → IsMissing files place (Lacks files)
    by (inl (none, placeless)) = let other : Some place ≡ None = placeless in absurd (cc)
    by (inr told) = at (told refl)

-- and without one the file itself is missing
pub whole-missing : (files : List File) (name : List ℕ) → spliced files name ≡ Err (NoFile, None) → IsMissingAsAWhole files name
whole-missing files name is = by (spliced-tells files name fault is)
  where
    nowhere : Option Place
    nowhere = None

    fault : Fault
    fault = (NoFile, nowhere)

    at : (there : Place) × (nowhere ≡ Some there) × IsMissing files there (Lacks files) → IsMissingAsAWhole files name
    at (there, same, missing) = absurd (cc)

    by : ((file_at files name ≡ None) × IsPlaceless fault) ⊎ Tells files fault → IsMissingAsAWhole files name
    by (inl (none, placeless)) = none
    by (inr told) = at (told refl)

-- what holds of all that is missing may be said otherwise
pub missing-so : (files : List File) (place : Place) (One Other : List ℕ → Type 0) → ((text : List ℕ) → One text → Other text)
    → IsMissing files place One → IsMissing files place Other
missing-so files place One Other so missing = record {
  tokens = missing.tokens;
  token = missing.token;
  read = missing.read;
  among = missing.among;
  asks = missing.asks;
  there = missing.there;
  holds = by missing.holds;
}
  where
    by : (length missing.token.text ≡ 0) ⊎ One missing.token.text → (length missing.token.text ≡ 0) ⊎ Other missing.token.text
    by (inl none) = inl none
    by (inr one) = inr (so missing.token.text one)
