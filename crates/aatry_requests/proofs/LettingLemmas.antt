-- Words from which who asks is left out.
use Rattle.std.proofs.Common.{◌≡◌, ℕ, Bool, true, false, ◌&&◌, List, [], ◌∷◌, Option, None, Some, refl, sym, ap, ◌∙◌}
use Rattle.std.specs.Prelude.{Err, IsSome, Ok, Result, codes, if◌then◌else◌, is_none, is_some}
use Rattle.std.specs.Result.{result_ok}
use Rattle.std.specs.Str.{bytes_eq, chars}
use Rattle.std.proofs.lemmas.Bool.{and_parts}
use Rattle.std.proofs.lemmas.Slice.Eq.{bytes_eq-Decides}
use Rattle.aa_profile_data.specs.Capabilities.{capability_number}
use Rattle.aa_profile_data.specs.Domains.{domain_number}
use Rattle.aa_set_commands.specs.Question.{OfExec, OfAccess, Question, capability_question, exec_question, file_question, is_path, owned_of, socket_question, type_number}
use Rattle.aa_profile_data.specs.Request.{ForFile}
use Rattle.aa_set_commands.specs.Refusal.{plain}
use Rattle.aa_set_commands.specs.declared.refusal.Refusal.{Refusal}
use Rattle.aa_set_commands.specs.declared.refusal.RefusalKind.TheVariants.{BadCommand, BadRequest}
use Rattle.aatry_words.specs.Capabilities.{capability_meant}
use Rattle.aatry_words.specs.Masks.{needs_meant}
use Rattle.aatry_questions.specs.Faults.{Agree, Found, first_fault, found, kind_of}
use Rattle.aatry_questions.specs.Meant.{meant_fault, needs_fault, question_meant}
use Rattle.aatry_questions.specs.Misspelled.{is_near_kind, misspells_kind}
use Rattle.aatry_questions.specs.declared.faults.QuestionKind.{QuestionKind}
use Rattle.aatry_questions.specs.declared.faults.QuestionKind.TheVariants.{Cap, Exec, File, Net}
use Rattle.aatry_questions.specs.declared.faults.Wrong.TheVariants.{Kind}
use Rattle.aatry_questions.specs.declared.misspelled.QuestionFault.{QuestionFault}
use Rattle.aatry_requests.specs.AskedWords.{AskNothing, asked_by, asking_words, letting_question, letting_words}
use Rattle.aatry_requests.specs.Questions.{asked_as}
use Rattle.aatry_requests.specs.WrongWords.{TellsAny, first_word_fault, letting_fault}
use Rattle.aatry_requests.proofs.WrongLemmas.{question_asks_nothing}

-- a question that was read, asked by who has this name
abbrev renamed : List ℕ → Result Question Refusal → Result Question Refusal
renamed who (Ok question) = Ok (asked_as who question)
renamed who (Err refusal) = Err refusal

three-named : (who other : List ℕ) (is_cap : Bool) (number : Option ℕ)
    → (if is_cap then capability_question who number else Err (plain BadCommand))
    ≡ renamed who (if is_cap then capability_question other number else Err (plain BadCommand))
three-named who other true (Some number) = refl
three-named who other true None = refl
three-named who other false number = refl

sockets-named : (who other : List ℕ) (domain kind : Option ℕ) → socket_question who domain kind ≡ renamed who (socket_question other domain kind)
sockets-named who other (Some domain) (Some kind) = refl
sockets-named who other (Some domain) None = refl
sockets-named who other None kind = refl

start-named : (who other path : List ℕ) (owned : Option Bool) → exec_question who owned path ≡ renamed who (exec_question other owned path)
start-named who other path None = refl
start-named who other path (Some owned) = by (is_path path)
  where
    by : (is : Bool) → (if is then Ok (OfExec who owned path) else Err (plain BadRequest)) ≡ renamed who (if is then Ok (OfExec other owned path) else Err (plain BadRequest))
    by true = refl
    by false = refl

file-named : (who other path : List ℕ) (needs : Option ℕ) (owned : Option Bool) → file_question who needs owned path ≡ renamed who (file_question other needs owned path)
file-named who other path None owned = refl
file-named who other path (Some needs) None = refl
file-named who other path (Some needs) (Some owned) = by (is_path path)
  where
    by : (is : Bool) → (if is then Ok (OfAccess who (ForFile needs owned path)) else Err (plain BadRequest))
        ≡ renamed who (if is then Ok (OfAccess other (ForFile needs owned path)) else Err (plain BadRequest))
    by true = refl
    by false = refl

four-named : (who other third fourth : List ℕ) (is_net is_exec : Bool)
    → (if is_net then socket_question who (domain_number third) (type_number fourth) else
    if is_exec then exec_question who (owned_of third) fourth else Err (plain BadCommand))
    ≡ renamed who (if is_net then socket_question other (domain_number third) (type_number fourth) else
    if is_exec then exec_question other (owned_of third) fourth else Err (plain BadCommand))
four-named who other third fourth true is_exec = sockets-named who other (domain_number third) (type_number fourth)
four-named who other third fourth false true = start-named who other fourth (owned_of third)
four-named who other third fourth false false = refl

five-named : (who other access owned path : List ℕ) (is_file : Bool)
    → (if is_file then file_question who (needs_meant access) (owned_of owned) path else Err (plain BadCommand))
    ≡ renamed who (if is_file then file_question other (needs_meant access) (owned_of owned) path else Err (plain BadCommand))
five-named who other access owned path true = file-named who other path (needs_meant access) (owned_of owned)
five-named who other access owned path false = refl

-- words ask of another name what they ask of one
meant-named : (kind who other : List ℕ) (words : List (List ℕ)) → question_meant (kind ∷ who ∷ words) ≡ renamed who (question_meant (kind ∷ other ∷ words))
meant-named kind who other [] = refl
meant-named kind who other (name ∷ []) = three-named who other (bytes_eq kind (codes "cap")) (capability_number (capability_meant name))
meant-named kind who other (third ∷ fourth ∷ []) = four-named who other third fourth (bytes_eq kind (codes "net")) (bytes_eq kind (codes "exec"))
meant-named kind who other (access ∷ owned ∷ path ∷ []) = five-named who other access owned path (bytes_eq kind (codes "file"))
meant-named kind who other (access ∷ owned ∷ path ∷ more ∷ words) = refl

pub any-name : (who : List ℕ) (words : List (List ℕ)) (question : Question) → letting_question words ≡ Ok question
    → question_meant (asking_words who words) ≡ Ok (asked_as who question)
any-name who [] question = λ asks. meant-named (codes "file") who (codes "unconfined") [] ∙ ap (renamed who) asks
any-name who (first ∷ words) question = by (is_some (kind_of first))
  where
    by : (is : Bool) → question_meant (if is then first ∷ codes "unconfined" ∷ words else codes "file" ∷ codes "unconfined" ∷ first ∷ words) ≡ Ok question
        → question_meant (if is then first ∷ who ∷ words else codes "file" ∷ who ∷ first ∷ words) ≡ Ok (asked_as who question)
    by true asks = meant-named first who (codes "unconfined") words ∙ ap (renamed who) asks
    by false asks = meant-named (codes "file") who (codes "unconfined") (first ∷ words) ∙ ap (renamed who) asks

-- a kind stands ahead of who asks
pub kind-first : (who kind : List ℕ) (words : List (List ℕ)) → IsSome (kind_of kind) → asking_words who (kind ∷ words) ≡ kind ∷ who ∷ words
kind-first who kind words some = rw some refl

-- the letters of no kind make an access
no-file : needs_meant (codes "file") ≡ None
unfolding chars
no-file = refl

no-exec : needs_meant (codes "exec") ≡ None
unfolding chars
no-exec = refl

no-cap : needs_meant (codes "cap") ≡ None
unfolding chars
no-cap = refl

no-net : needs_meant (codes "net") ≡ None
unfolding chars
no-net = refl

other-word : (access kind : List ℕ) (needs : ℕ) → needs_meant access ≡ Some needs → needs_meant kind ≡ None → bytes_eq access kind ≡ true → ⊥
other-word access kind needs meant none same =
    let is : access ≡ kind = (bytes_eq-Decides access kind).0 same in
    let both : Some needs ≡ None = sym meant ∙ ap needs_meant is ∙ none in
    cc (both)

no-kind : (access : List ℕ) (needs : ℕ) → needs_meant access ≡ Some needs → is_some (kind_of access) ≡ false
no-kind access needs meant =
    by (bytes_eq access (codes "cap")) refl (bytes_eq access (codes "net")) refl (bytes_eq access (codes "exec")) refl (bytes_eq access (codes "file")) refl
  where
    by : (cap : Bool) → bytes_eq access (codes "cap") ≡ cap → (net : Bool) → bytes_eq access (codes "net") ≡ net
        → (exec : Bool) → bytes_eq access (codes "exec") ≡ exec → (file : Bool) → bytes_eq access (codes "file") ≡ file
        → is_some (if cap then Some Cap else if net then Some Net else if exec then Some Exec else if file then Some File else None) ≡ false
    by true c net n exec e file f = absurd (other-word access (codes "cap") needs meant no-cap c)
    by false c true n exec e file f = absurd (other-word access (codes "net") needs meant no-net n)
    by false c false n true e file f = absurd (other-word access (codes "exec") needs meant no-exec e)
    by false c false n false e true f = absurd (other-word access (codes "file") needs meant no-file f)
    by false c false n false e false f = refl

file-is-kind : is_some (kind_of (codes "file")) ≡ true
unfolding chars
file-is-kind = refl

-- an access stands behind `file`, whether that is written or not
pub access-first : (who access : List ℕ) (words : List (List ℕ)) (needs : ℕ) → needs_meant access ≡ Some needs
    → asking_words who (access ∷ words) ≡ asking_words who (codes "file" ∷ access ∷ words)
access-first who access words needs meant =
    let none : is_some (kind_of access) ≡ false = no-kind access needs meant in
    let plain : asking_words who (access ∷ words) ≡ codes "file" ∷ who ∷ access ∷ words = rw none refl in
    plain ∙ sym (kind-first who (codes "file") (access ∷ words) file-is-kind)

-- the words of a question are two at least
two-words : (words : List (List ℕ)) → asked_by (letting_words words) ≡ result_ok (question_meant (letting_words words))
two-words [] = refl
two-words (first ∷ words) = by (is_some (kind_of first))
  where
    by : (is : Bool) → asked_by (if is then first ∷ codes "unconfined" ∷ words else codes "file" ∷ codes "unconfined" ∷ first ∷ words)
        ≡ result_ok (question_meant (if is then first ∷ codes "unconfined" ∷ words else codes "file" ∷ codes "unconfined" ∷ first ∷ words))
    by true = refl
    by false = refl

-- where something is wrong with words, they ask nothing
wrong-asks-nothing : (fault : Option Found) (read : Result Question Refusal) → Agree fault read → is_some fault ≡ true → result_ok read ≡ None
wrong-asks-nothing (Some fault) (Ok question) agree some = absurd agree
wrong-asks-nothing (Some fault) (Err refusal) agree some = refl
wrong-asks-nothing None read agree some = absurd (cc (some))

-- with a word that is no access something is wrong wherever an access is asked for, and with any other number of words too
no-access : (who first : List ℕ) (words : List (List ℕ)) (fault : Found) → needs_fault first ≡ Some fault → is_some (meant_fault (codes "file" ∷ who ∷ first ∷ words)) ≡ true
unfolding chars
no-access who first [] fault is = refl
no-access who first (second ∷ []) fault is = refl
no-access who first (second ∷ third ∷ []) fault is = rw is refl
no-access who first (second ∷ third ∷ fourth ∷ words) fault is = refl

found-one : (who first : List ℕ) (words : List (List ℕ)) (fault : Option Found) → needs_fault first ≡ fault → is_some fault ≡ true
    → is_some (meant_fault (codes "file" ∷ who ∷ first ∷ words)) ≡ true
found-one who first words (Some fault) is some = no-access who first words fault is
found-one who first words None is some = absurd (cc (some))

not-some : (kind : Option QuestionKind) → is_none kind ≡ true → is_some kind ≡ false
not-some None none = refl
not-some (Some kind) none = absurd (cc (none))

-- words of which the first is a misspelt kind ask nothing
misspelt-asks-nothing : ((words : List (List ℕ)) → Agree (meant_fault words) (question_meant words)) → (first : List ℕ) (words : List (List ℕ))
    → misspells_kind first ≡ true → AskNothing (letting_words (first ∷ words))
misspelt-asks-nothing agree first words misspells =
    let near = and_parts (is_none (kind_of first) && is_some (needs_fault first)) (is_near_kind first) misspells in
    let parts = and_parts (is_none (kind_of first)) (is_some (needs_fault first)) near.0 in
    let none : is_some (kind_of first) ≡ false = not-some (kind_of first) parts.0 in
    let all : List (List ℕ) = codes "file" ∷ codes "unconfined" ∷ first ∷ words in
    let are : letting_words (first ∷ words) ≡ all = rw none refl in
    let asked : asked_by all ≡ None =
    wrong-asks-nothing (meant_fault all) (question_meant all) (agree all) (found-one (codes "unconfined") first words (needs_fault first) refl parts.1) in
    ap asked_by are ∙ asked

first-word-asks-nothing : ((words : List (List ℕ)) → Agree (meant_fault words) (question_meant words)) → (words : List (List ℕ))
    → is_some (first_word_fault words) ≡ true → AskNothing (letting_words words)
first-word-asks-nothing agree [] = λ some. absurd (cc (some))
first-word-asks-nothing agree (first ∷ words) = by (misspells_kind first) refl
  where
    by : (is : Bool) → misspells_kind first ≡ is → is_some (if is then Some (found Kind first) else None) ≡ true → AskNothing (letting_words (first ∷ words))
    by true is some = misspelt-asks-nothing agree first words is
    by false is some = absurd (cc (some))

pub letting-asks-nothing : ((words : List (List ℕ)) → Agree (meant_fault words) (question_meant words)) → (words : List (List ℕ)) (told : Option QuestionFault)
    → TellsAny (letting_fault words) told → IsSome told → AskNothing (letting_words words)
letting-asks-nothing agree words told = by (first_word_fault words) refl
  where
    by : (first : Option Found) → first_word_fault words ≡ first → TellsAny (first_fault first (meant_fault (letting_words words))) told → IsSome told → AskNothing (letting_words words)
    by (Some fault) is tells some = first-word-asks-nothing agree words (ap is_some is)
    by None is tells some =
        two-words words ∙ question_asks_nothing (meant_fault (letting_words words)) (question_meant (letting_words words)) told (agree (letting_words words)) tells some
