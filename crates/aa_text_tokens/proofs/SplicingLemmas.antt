-- The splicing of files, step by step.
use Rattle.std.proofs.Common.{◌≡◌, ◌≢◌, ℕ, zero, suc, ◌+◌, ◌-◌, ◌<◌, ◌≤◌, ◌==◌, Bool, true, false, List, [], ◌∷◌, ◌++◌, not, length, map, drop, get_or, Option, None, Some, Result, Ok, Err, refl, sym, ap, subst, ◌∙◌, arith, append_assoc}
use Rattle.std.specs.Prelude.{MatchOption, if◌then◌else◌}
use Rattle.std.specs.List.{prefix_len}
use Rattle.std.proofs.lemmas.Bool.{eqb-true, le-leb, lt-leb, ne_eqb}
use Rattle.std.proofs.lemmas.List.{at_drop_all, drop_more}
use Rattle.aa_bytes.specs.Bytes.{slash}
use Rattle.aa_bytes.specs.Texts.{has_byte}
use Rattle.std.specs.Option.{option_map}
use Rattle.aa_text_tokens.specs.Cut.{Seen, cut}
use Rattle.aa_text_files.specs.Files.{File, bytes_at, file_at, has_file}
use Rattle.aa_text_files.specs.Limit.{most_bytes}
use Rattle.aa_text_tokens.specs.Splicing.{Entered, Fault, Placed, Entering, Absent, Way, and_then, deepest, each, entered, included, looked_up, of_members, refusal_of, spliced, target, tokens_of, walked, within, without}
use Rattle.aa_text_files.specs.Folder.{members}
use Rattle.aa_text_tokens.specs.code.SplicingProgress.{IsFaultOf, IsIncluded, IsRefused, Progress, fault_of, way, with_each, with_entered, with_file, with_token, with_walked}
use Rattle.aa_text_tokens.specs.SeenTokens.{seen}
use Rattle.aa_text_tokens.specs.declared.cut.CutRefusal.{CutRefusal}
use Rattle.aa_text_tokens.specs.declared.cut.CutRefusal.TheVariants as cut_refusal
use Rattle.aa_text_tokens.specs.declared.cut.Token.{Token}
use Rattle.aa_text_tokens.specs.declared.cut.TokenKind.{TokenKind}
use Rattle.aa_text_tokens.specs.declared.cut.TokenKind.TheVariants.{Include, Assign, Value, Quoted, Word, Comma, OpenBrace, CloseBrace}
use Rattle.aa_text_files.specs.declared.text_error.Place.{Place}
use Rattle.aa_text_files.specs.declared.text_error.TextError.{TextError}
use Rattle.aa_text_files.specs.declared.text_error.TextRefusal.TheVariants.{ZeroByte, NoFile, IncludeDepth, TextTooBig, Memory}

-- tokens and further ones, behind others
with_entered-more : (so_far : Progress) (tokens : List Placed) (bytes : ℕ) (more : Entered)
    → with_entered (record { files = so_far.files; tokens = so_far.tokens ++ tokens; bytes = bytes }) more
    ≡ with_entered so_far (elim more [ Err fault ↦ Err fault | Ok rest ↦ Ok (tokens ++ rest.0, rest.1) ])
with_entered-more so_far tokens bytes (Err fault) = refl
with_entered-more so_far tokens bytes (Ok rest) =
    ap (λ all. Ok (record { files = so_far.files; tokens = all; bytes = rest.1 })) (append_assoc so_far.tokens tokens rest.0)

-- what was entered first is there, and what is left follows it
with_entered-then : (old new : Progress) (first : Entered) (more : ℕ → Entered) → with_entered old first ≡ Ok new
    → with_entered new (more new.bytes) ≡ with_entered old (and_then first more)
unfolding and_then
with_entered-then old new (Err fault) more h = absurd (cc)
with_entered-then old new (Ok first) more h =
    let same : new ≡ record { files = old.files; tokens = old.tokens ++ first.0; bytes = first.1 } = cc in
    rw same (with_entered-more old first.0 first.1 (more first.1))

-- the files stay
with_entered-files : (old new : Progress) (entered : Entered) → with_entered old entered ≡ Ok new → new.files ≡ old.files
with_entered-files old new (Err fault) h = absurd (cc)
with_entered-files old new (Ok entered) h =
    let same : new ≡ record { files = old.files; tokens = old.tokens ++ entered.0; bytes = entered.1 } = cc in
    ap (λ (p : Progress). p.files) same

-- a fault is one of what was entered
with_entered-fault : (so_far : Progress) (entered : Entered) (fault : Fault) → with_entered so_far entered ≡ Err fault → entered ≡ Err fault
with_entered-fault so_far (Ok entered) fault h = absurd (cc)
with_entered-fault so_far (Err other) fault h = let same : other ≡ fault = cc in ap (λ (f : Fault). Err f) same

and_then-fault : (first : Entered) (more : ℕ → Entered) (fault : Fault) → first ≡ Err fault → and_then first more ≡ Err fault
unfolding and_then
and_then-fault first more fault h = rw h refl

-- nothing behind the tokens
append-none : (tokens : List Placed) → tokens ++ [] ≡ tokens
append-none [] = refl
append-none (token ∷ tokens) = ap (◌∷◌ token) (append-none tokens)

with_entered-none : (so_far : Progress) → with_entered so_far (Ok ([], so_far.bytes)) ≡ Ok so_far
with_entered-none so_far = ap (λ all. Ok (record { files = so_far.files; tokens = all; bytes = so_far.bytes })) (append-none so_far.tokens)

-- an Include among a file's tokens
walked-name : (files : List File) (by : Way) (file : ℕ) (kind : TokenKind) (text : List ℕ) (start end : ℕ) (rest : List Seen) (total : ℕ) (if_exists : Bool) → kind ≡ Include if_exists
    → walked files by file (record { kind = kind; text = text; start = start; end = end } ∷ rest) total ≡ and_then (included by (record { file = file; at = start }) (target files text if_exists) total) (walked files by file rest)
unfolding walked
walked-name files by file kind text start end rest total if_exists h = rw h refl

walked-include : (files : List File) (by : Way) (file : ℕ) (token : Seen) (rest : List Seen) (total : ℕ) (if_exists : Bool) → token.kind ≡ Include if_exists
    → walked files by file (token ∷ rest) total ≡ and_then (included by (record { file = file; at = token.start }) (target files token.text if_exists) total) (walked files by file rest)
walked-include files by file token rest total if_exists h = walked-name files by file token.kind token.text token.start token.end rest total if_exists h

-- another token among them
abbrev pub is_include : TokenKind → Bool
is_include (Include if_exists) = true
is_include kind = false

pub not-include : (kind : TokenKind) → ((if_exists : Bool) → kind ≡ Include if_exists → ⊥) → is_include kind ≡ false
not-include (Include if_exists) other = absurd (other if_exists refl)
not-include (Assign append) other = refl
not-include Value other = refl
not-include Quoted other = refl
not-include Word other = refl
not-include Comma other = refl
not-include OpenBrace other = refl
not-include CloseBrace other = refl

walked-kind : (files : List File) (by : Way) (file : ℕ) (kind : TokenKind) (text : List ℕ) (start end : ℕ) (rest : List Seen) (total : ℕ) → is_include kind ≡ false
    → walked files by file (record { kind = kind; text = text; start = start; end = end } ∷ rest) total
    ≡ and_then (Ok (record { file = file; token = record { kind = kind; text = text; start = start; end = end } } ∷ [], total)) (walked files by file rest)
unfolding walked
walked-kind files by file (Include if_exists) text start end rest total h = absurd (cc)
walked-kind files by file (Assign append) text start end rest total h = refl
walked-kind files by file Value text start end rest total h = refl
walked-kind files by file Quoted text start end rest total h = refl
walked-kind files by file Word text start end rest total h = refl
walked-kind files by file Comma text start end rest total h = refl
walked-kind files by file OpenBrace text start end rest total h = refl
walked-kind files by file CloseBrace text start end rest total h = refl

-- a token that was put behind the others
pub put-token : (old : Progress) (depth file : ℕ) (token : Seen) (rest : List Seen) → is_include token.kind ≡ false
    → with_walked (with_token old file token) depth file rest ≡ with_walked old depth file (token ∷ rest)
put-token old depth file token rest other =
    let one : Entered = Ok (record { file = file; token = token } ∷ [], old.bytes) in
    with_entered-then old (with_token old file token) one (walked old.files (way old.files depth) file rest) refl
    ∙ ap (with_entered old) (sym (walked-kind old.files (way old.files depth) file token.kind token.text token.start token.end rest old.bytes other))

-- an Include whose files were entered
pub put-include : (old new : Progress) (depth file : ℕ) (token : Seen) (rest : List Seen) (if_exists : Bool) (found : List ℕ) → token.kind ≡ Include if_exists
    → IsIncluded old.files depth (record { file = file; at = token.start }) token.text if_exists found
    → with_each old depth (record { file = file; at = token.start }) found ≡ Ok new
    → with_walked new depth file rest ≡ with_walked old depth file (token ∷ rest)
put-include old new depth file token rest if_exists found kind included_files put =
    let place : Place = record { file = file; at = token.start } in
    let first : Entered = included (way old.files depth) place (target old.files token.text if_exists) old.bytes in
    let gives : with_entered old first ≡ Ok new = ap (with_entered old) (included_files old.bytes) ∙ put in
    ap (λ files. with_entered new (walked files (way files depth) file rest new.bytes)) (with_entered-files old new first gives)
    ∙ with_entered-then old new first (walked old.files (way old.files depth) file rest) gives
    ∙ ap (with_entered old) (sym (walked-include old.files (way old.files depth) file token rest old.bytes if_exists kind))

-- an Include that gives a fault
pub refused-include : (old : Progress) (depth file : ℕ) (token : Seen) (rest : List Seen) (if_exists : Bool) (error : TextError) → token.kind ≡ Include if_exists
    → IsRefused old.files depth (record { file = file; at = token.start }) token.text if_exists error
    → IsFaultOf error (with_walked old depth file (token ∷ rest))
refused-include old depth file token rest if_exists error kind refused other =
    let place : Place = record { file = file; at = token.start } in
    ap (with_entered old)
    (walked-include old.files (way old.files depth) file token rest old.bytes if_exists kind
    ∙ and_then-fault (included (way old.files depth) place (target old.files token.text if_exists) old.bytes) (walked old.files (way old.files depth) file rest) (fault_of error) (refused old.bytes other))

-- an Include that gives a fault of the files that it enters
pub refused-each : (old : Progress) (depth file : ℕ) (token : Seen) (rest : List Seen) (if_exists : Bool) (found : List ℕ) (fault : Fault) → token.kind ≡ Include if_exists
    → IsIncluded old.files depth (record { file = file; at = token.start }) token.text if_exists found
    → with_each old depth (record { file = file; at = token.start }) found ≡ Err fault
    → with_walked old depth file (token ∷ rest) ≡ Err fault
refused-each old depth file token rest if_exists found fault kind included_files refused =
    let place : Place = record { file = file; at = token.start } in
    let first : Entered = included (way old.files depth) place (target old.files token.text if_exists) old.bytes in
    ap (with_entered old)
    (walked-include old.files (way old.files depth) file token rest old.bytes if_exists kind
    ∙ and_then-fault first (walked old.files (way old.files depth) file rest) fault
    (included_files old.bytes ∙ with_entered-fault old (each (within old.files (depth - 1)) (Some place) found old.bytes) fault refused))

-- a file's tokens from one on
walked-from : (files : List File) (by : Way) (file : ℕ) (tokens : List Token) (at : ℕ) (token : Token) (total : ℕ) → at < length tokens → token ≡ get_or tokens at token
    → walked files by file (map seen (drop at tokens)) total ≡ walked files by file (seen token ∷ map seen (drop (at + 1) tokens)) total
walked-from files by file tokens at token total within same =
    ap (λ left. walked files by file (map seen left) total) (drop_more tokens at token within)
    ∙ ap (λ first. walked files by file (seen first ∷ map seen (drop (at + 1) tokens)) total) (sym same)

walked-end : (files : List File) (by : Way) (file : ℕ) (tokens : List Token) (at : ℕ) (total : ℕ) → length tokens ≤ at → walked files by file (map seen (drop at tokens)) total ≡ Ok ([], total)
unfolding walked
walked-end files by file tokens at total done = at_drop_all (λ left. walked files by file (map seen left) total) tokens at done

pub with_walked-from : (so_far : Progress) (depth file : ℕ) (tokens : List Token) (at : ℕ) (token : Token) → at < length tokens → token ≡ get_or tokens at token
    → with_walked so_far depth file (map seen (drop at tokens)) ≡ with_walked so_far depth file (seen token ∷ map seen (drop (at + 1) tokens))
with_walked-from so_far depth file tokens at token within same =
    ap (with_entered so_far) (walked-from so_far.files (way so_far.files depth) file tokens at token so_far.bytes within same)

pub with_walked-end : (so_far : Progress) (depth file : ℕ) (tokens : List Token) (at : ℕ) → length tokens ≤ at → with_walked so_far depth file (map seen (drop at tokens)) ≡ Ok so_far
with_walked-end so_far depth file tokens at done =
    ap (with_entered so_far) (walked-end so_far.files (way so_far.files depth) file tokens at so_far.bytes done) ∙ with_entered-none so_far

-- files from one on
each-from : (files : List File) (depth : ℕ) (place : Option Place) (found : List ℕ) (at total : ℕ) → at < length found
    → each (within files depth) place (drop at found) total ≡ and_then (within files depth (get_or found at 0) total place) (each (within files depth) place (drop (at + 1) found))
unfolding each
each-from files depth place found at total inside = ap (λ left. each (within files depth) place left total) (drop_more found at 0 inside)

each-end : (files : List File) (depth : ℕ) (place : Option Place) (found : List ℕ) (at total : ℕ) → length found ≤ at → each (within files depth) place (drop at found) total ≡ Ok ([], total)
unfolding each
each-end files depth place found at total done = at_drop_all (λ left. each (within files depth) place left total) found at done

-- a file that was entered, and those that are left
pub with_each-step : (old new : Progress) (depth : ℕ) (place : Place) (found : List ℕ) (at : ℕ) → at < length found
    → with_file old (depth - 1) (get_or found at 0) (Some place) ≡ Ok new
    → with_each new depth place (drop (at + 1) found) ≡ with_each old depth place (drop at found)
with_each-step old new depth place found at inside put =
    let first : Entered = within old.files (depth - 1) (get_or found at 0) old.bytes (Some place) in
    ap (λ files. with_entered new (each (within files (depth - 1)) (Some place) (drop (at + 1) found) new.bytes)) (with_entered-files old new first put)
    ∙ with_entered-then old new first (each (within old.files (depth - 1)) (Some place) (drop (at + 1) found)) put
    ∙ ap (with_entered old) (sym (each-from old.files (depth - 1) (Some place) found at old.bytes inside))

pub with_each-fault : (old : Progress) (depth : ℕ) (place : Place) (found : List ℕ) (at : ℕ) (fault : Fault) → at < length found
    → with_file old (depth - 1) (get_or found at 0) (Some place) ≡ Err fault
    → with_each old depth place (drop at found) ≡ Err fault
with_each-fault old depth place found at fault inside refused =
    let first : Entered = within old.files (depth - 1) (get_or found at 0) old.bytes (Some place) in
    ap (with_entered old)
    (each-from old.files (depth - 1) (Some place) found at old.bytes inside
    ∙ and_then-fault first (each (within old.files (depth - 1)) (Some place) (drop (at + 1) found)) fault (with_entered-fault old first fault refused))

pub with_each-end : (so_far : Progress) (depth : ℕ) (place : Place) (found : List ℕ) (at : ℕ) → length found ≤ at → with_each so_far depth place (drop at found) ≡ Ok so_far
with_each-end so_far depth place found at done =
    ap (with_entered so_far) (each-end so_far.files (depth - 1) (Some place) found at so_far.bytes done) ∙ with_entered-none so_far

-- an Include whose name is a fault
pub included-absent : (files : List File) (depth : ℕ) (place : Place) (name : List ℕ) (if_exists : Bool) (error : TextError) → Absent ≡ target files name if_exists
    → error.refusal ≡ (if depth == 0 then IncludeDepth else NoFile) → error.place ≡ Some place
    → IsRefused files depth place name if_exists error
unfolding included
included-absent files zero place name if_exists error is refusal at total other = rw (← is, refusal, at) refl
included-absent files (suc depth) place name if_exists error is refusal at total other =
    let deeper : (suc depth == 0) ≡ false = ne_eqb (suc depth) 0 (omega arith) in
    rw (← is, refusal, at, deeper) refl

-- one that stands too deep
pub included-deep : (files : List File) (depth : ℕ) (place : Place) (name : List ℕ) (if_exists : Bool) (found : List ℕ) (error : TextError) → of_members found ≡ target files name if_exists
    → 0 < length found → depth ≡ 0
    → error.refusal ≡ (if depth == 0 then IncludeDepth else NoFile) → error.place ≡ Some place
    → IsRefused files depth place name if_exists error
unfolding included
included-deep files (suc depth) place name if_exists found error is some deep refusal at total other = absurd (omega arith)
included-deep files zero place name if_exists [] error is some deep refusal at total other = absurd (omega arith)
included-deep files zero place name if_exists (file ∷ found) error is some deep refusal at total other = rw (← is, refusal, at) refl

each-none : (files : List File) (depth : ℕ) (place : Option Place) (total : ℕ) → each (within files depth) place [] total ≡ Ok ([], total)
unfolding each
each-none files depth place total = refl

-- one whose files are there
pub included-each : (files : List File) (depth : ℕ) (place : Place) (name : List ℕ) (if_exists : Bool) (found : List ℕ) → of_members found ≡ target files name if_exists
    → (0 < length found → 0 < depth) → IsIncluded files depth place name if_exists found
unfolding included
included-each files depth place name if_exists [] is deep total = rw (← is, each-none files (depth - 1) (Some place) total) refl
included-each files zero place name if_exists (file ∷ found) is deep total = absurd (let some : 0 < length (file ∷ found) = omega arith in let more : 0 < 0 = deep some in omega arith)
included-each files (suc depth) place name if_exists (file ∷ found) is deep total = let less : suc depth - 1 ≡ depth = omega arith in rw (← is, less) refl

-- a text with no byte, and one with some
pub none-there : {A : Type 0} (all : List A) → true ≡ (length all == 0) → length all ≡ 0
none-there [] h = refl
none-there (a ∷ all) h = eqb-true (length (a ∷ all)) 0 (sym h)

pub some-there : {A : Type 0} (all : List A) → false ≡ (length all == 0) → 0 < length all
some-there [] h = absurd (cc)
some-there (a ∷ all) h = omega arith

-- what an Include puts in
pub target-empty : (files : List File) (name : List ℕ) (if_exists : Bool) → length name ≡ 0 → target files name if_exists ≡ without if_exists
unfolding target
target-empty files name if_exists h = rw h refl

pub target-file : (files : List File) (name : List ℕ) (if_exists : Bool) (file : ℕ) → 0 < length name → Some file ≡ file_at files (looked_up name) → target files name if_exists ≡ Entering (file ∷ [])
unfolding target
target-file files name if_exists file some h =
    let filled : (length name == 0) ≡ false = ne_eqb (length name) 0 (omega arith) in
    rw (filled, ← h) refl

pub target-folder : (files : List File) (name : List ℕ) (if_exists : Bool) → 0 < length name → None ≡ file_at files (looked_up name)
    → target files name if_exists ≡ (if has_file files (looked_up name ++ slash ∷ []) then of_members (members files (looked_up name ++ slash ∷ [])) else without if_exists)
unfolding target
target-folder files name if_exists some h =
    let filled : (length name == 0) ≡ false = ne_eqb (length name) 0 (omega arith) in
    rw (filled, ← h) refl

-- the tokens of a command's own file
pub spliced-none : (files : List File) (name : List ℕ) → None ≡ file_at files name → spliced files name ≡ Err (NoFile, None)
unfolding spliced
spliced-none files name h = rw (← h, spliced) refl

spliced-file : (files : List File) (name : List ℕ) (file : ℕ) → Some file ≡ file_at files name → spliced files name ≡ tokens_of (within files deepest file 0 None)
unfolding spliced
spliced-file files name file h = rw (← h, spliced) refl

-- what a splicer has that began with nothing
pub spliced-entered : (files : List File) (name : List ℕ) (file : ℕ) (new : Progress) → Some file ≡ file_at files name
    → with_file (record { files = files; tokens = []; bytes = 0 }) deepest file None ≡ Ok new
    → spliced files name ≡ Ok new.tokens
spliced-entered files name file new there h = spliced-file files name file there ∙ by (within files deepest file 0 None) h
  where
    by : (all : Entered) → with_entered (record { files = files; tokens = []; bytes = 0 }) all ≡ Ok new → tokens_of all ≡ Ok new.tokens
    by (Ok all) e =
        let same : new ≡ record { files = files; tokens = all.0; bytes = all.1 } = cc in
        ap (λ (p : Progress). Ok p.tokens) (sym same)
    by (Err fault) e = absurd (cc)

pub spliced-fault : (files : List File) (name : List ℕ) (file : ℕ) (fault : Fault) → Some file ≡ file_at files name
    → with_file (record { files = files; tokens = []; bytes = 0 }) deepest file None ≡ Err fault
    → spliced files name ≡ Err fault
spliced-fault files name file fault there h =
    spliced-file files name file there
    ∙ ap tokens_of (with_entered-fault (record { files = files; tokens = []; bytes = 0 }) (within files deepest file 0 None) fault h)

-- how a file is entered
within-entered : (files : List File) (depth file total : ℕ) (place : Option Place) → within files depth file total place ≡ entered files (way files depth) file total place
unfolding within
within-entered files zero file total place = refl
within-entered files (suc depth) file total place = refl

-- the tokens of a file that was read
pub with_file-read : (old : Progress) (depth file : ℕ) (place : Option Place) (tokens : List Seen) (bytes : ℕ)
    → entered old.files (way old.files depth) file old.bytes place ≡ walked old.files (way old.files depth) file tokens bytes
    → with_walked (record { files = old.files; tokens = old.tokens; bytes = bytes }) depth file tokens ≡ with_file old depth file place
with_file-read old depth file place tokens bytes h =
    with_entered-bytes old bytes (walked old.files (way old.files depth) file tokens bytes)
    ∙ ap (with_entered old) (sym h ∙ sym (within-entered old.files depth file old.bytes place))
  where
    with_entered-bytes : (old : Progress) (bytes : ℕ) (more : Entered) → with_entered (record { files = old.files; tokens = old.tokens; bytes = bytes }) more ≡ with_entered old more
    with_entered-bytes old bytes (Ok more) = refl
    with_entered-bytes old bytes (Err fault) = refl

pub with_file-fault : (old : Progress) (depth file : ℕ) (place : Option Place) (fault : Fault) → entered old.files (way old.files depth) file old.bytes place ≡ Err fault
    → with_file old depth file place ≡ Err fault
with_file-fault old depth file place fault h = ap (with_entered old) (within-entered old.files depth file old.bytes place ∙ h)

pub entered-big : (files : List File) (by : Way) (file total : ℕ) (place : Option Place) (bytes : List ℕ) → bytes ≡ bytes_at files file → most_bytes < total + length bytes
    → entered files by file total place ≡ Err (TextTooBig, place)
unfolding entered
entered-big files by file total place bytes same h = rw (← same, lt-leb (total + length bytes) most_bytes h) refl

pub entered-zero : (files : List File) (by : Way) (file total : ℕ) (place : Option Place) (bytes : List ℕ) → bytes ≡ bytes_at files file → total + length bytes ≤ most_bytes → true ≡ has_byte 0 bytes
    → entered files by file total place ≡ Err (ZeroByte, Some (record { file = file; at = prefix_len (λ b. not (b == 0)) bytes }))
unfolding entered
entered-zero files by file total place bytes same few holds = rw (← same, le-leb (total + length bytes) most_bytes few, ← holds) refl

-- what follows a cut
abbrev behind_cut : List File → Way → ℕ → ℕ → Result (List Seen) (CutRefusal × ℕ) → Entered
behind_cut files by file total (Ok tokens) = walked files by file tokens total
behind_cut files by file total (Err fault) = Err (refusal_of fault.0, Some (record { file = file; at = fault.1 }))

entered-own : (files : List File) (by : Way) (file total : ℕ) (place : Option Place) (tokens : Result (List Seen) (CutRefusal × ℕ)) → total + length (bytes_at files file) ≤ most_bytes
    → false ≡ has_byte 0 (bytes_at files file) → cut 0 0 false (bytes_at files file) ≡ tokens
    → entered files by file total place ≡ behind_cut files by file (total + length (bytes_at files file)) tokens
unfolding entered
entered-own files by file total place tokens few none told = rw (le-leb (total + length (bytes_at files file)) most_bytes few, ← none, told) refl

entered-end : (files : List File) (by : Way) (file total : ℕ) (place : Option Place) (bytes : List ℕ) (tokens : Result (List Seen) (CutRefusal × ℕ)) → bytes ≡ bytes_at files file → total + length bytes ≤ most_bytes
    → false ≡ has_byte 0 bytes → cut 0 0 false bytes ≡ tokens
    → entered files by file total place ≡ behind_cut files by file (total + length bytes) tokens
entered-end files by file total place bytes tokens same =
    let P : List ℕ → Type 0 = λ bytes. total + length bytes ≤ most_bytes → false ≡ has_byte 0 bytes → cut 0 0 false bytes ≡ tokens
    → entered files by file total place ≡ behind_cut files by file (total + length bytes) tokens in
    subst P (sym same) (entered-own files by file total place tokens)

pub entered-cut : (files : List File) (by : Way) (file total : ℕ) (place : Option Place) (bytes : List ℕ) (tokens : List Seen) → bytes ≡ bytes_at files file → total + length bytes ≤ most_bytes
    → false ≡ has_byte 0 bytes → cut 0 0 false bytes ≡ Ok tokens
    → entered files by file total place ≡ walked files by file tokens (total + length bytes)
entered-cut files by file total place bytes tokens same few none told = entered-end files by file total place bytes (Ok tokens) same few none told

pub entered-fault : (files : List File) (by : Way) (file total : ℕ) (place : Option Place) (bytes : List ℕ) (refusal : CutRefusal) (at : Option ℕ) (error : TextError) → bytes ≡ bytes_at files file → total + length bytes ≤ most_bytes
    → false ≡ has_byte 0 bytes → MatchOption at (refusal ≡ cut_refusal.Memory) (λ at. cut 0 0 false bytes ≡ Err (refusal, at))
    → error.refusal ≡ refusal_of refusal → error.place ≡ option_map (λ at. record { file = file; at = at }) at → error.refusal ≢ Memory
    → entered files by file total place ≡ Err (fault_of error)
entered-fault files by file total place bytes refusal None error same few none told is there other = absurd (other (is ∙ ap refusal_of told))
entered-fault files by file total place bytes refusal (Some at) error same few none told is there other =
    entered-end files by file total place bytes (Err (refusal, at)) same few none told ∙ rw (is, there) refl
