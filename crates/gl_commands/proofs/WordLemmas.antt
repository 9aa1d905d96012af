-- What words ask for, and that of those which ask for nothing some kind of fault is reported.
use Rattle.std.proofs.Common.{◌≡◌, ◌<◌, ◌^◌, ℕ, zero, suc, ◌+◌, ◌++◌, Bor, length, get_or, is_some, take, unwrap_or, nat_le, nat_lt, arith, List, [], ◌∷◌, Bool, true, false, Option, None, Some, Result, Ok, Err, IfOk, IfErr, ◌&&◌, map, if◌then◌else◌, refl, ap, ◌∙◌, ◌⊎◌, inl, inr, subst, sym}
use Rattle.std.specs.List.{list_all}
use Rattle.std.specs.Str.Parse.{AllDigits, ParsesUnsigned, digits_value}
use Rattle.std.specs.Result.{OkIff}
use Rattle.std.proofs.lemmas.Bool.Decides.{nat_tests}
use Rattle.std.proofs.lemmas.Bool.{and_from}
use Rattle.std.proofs.lemmas.List.{map-append, take_more}
use Rattle.std.proofs.lemmas.List.Folds.{list_all-append}
use Rattle.std.specs.Result.{result_ok}
use Rattle.std.proofs.lemmas.Str.Parse.{numerals_by_value, parse_digits, tells_digits}
use Rattle.clap.proofs.OnLiterals.{clap_on_literals}
use Rattle.clap.specs.Faults.{fault_of, is_simple_and_free}
use Rattle.clap.specs.Kinds.{Kinds, IsAmong}
use Rattle.clap.specs.Simple.{App, HasMatchesOf, is_simple, subcommand_of, subcommand_rows_of}
use Rattle.clap.specs.Walk.{Row, Text}
use Rattle.clap.specs.declared.error.kind.ErrorKind.{ErrorKind}
use Rattle.clap.specs.declared.error.kind.ErrorKind.TheVariants as kinds
use Rattle.clap.specs.declared.parser.matches.ArgMatches.{ArgMatches}
use Rattle.gl_lines.specs.Numbers.{is_decimal}
use Rattle.gl_lines.proofs.NumberLemmas.{decimal_digits}
use Rattle.gl_commands.specs.Commands.{program, whole_program}
use Rattle.gl_commands.specs.declared.task.WordsFault.{WordsFault}
use Rattle.gl_commands.specs.declared.task.WordsFault.TheVariants.{NoMemory, Refused}
use Rattle.gl_commands.specs.Words.{Refuses, RefusesOnly, RefusesWords, asked, asked_command, encoded_digest, encoded_member, is_member, is_node, is_number, node_of, unless_faulty}
use Rattle.gl_commands.specs.declared.task.Asked.{Asked}

-- Some kind is reported, if the words ask for nothing.
abbrev pub HasKind : {A : Type 0} → Result A Kinds → Type 0
HasKind (Ok value) = Unit {0}
HasKind (Err printed) = (kind : ErrorKind) × IsAmong kind printed

some_digit : (word : List ℕ) → is_decimal word ≡ true → 0 < length word
some_digit [] decimal = cc
some_digit (digit ∷ word) decimal = omega arith

within : (number : ℕ) → is_member number ≡ true → number < 2 ^ 8
within number member = go (nat_le 1 number) (nat_le number 255) refl refl member
  where
    go : (low high : Bool) → nat_le 1 number ≡ low → nat_le number 255 ≡ high → (low && high) ≡ true → number < 2 ^ 8
    go true true l h all = grind (arith, nat_tests)
    go low high l h all = cc

-- The number that a decimal word encodes, as it is parsed.
pub member_parsed : {E : Type 0} (word : List ℕ) (r : Result ℕ E) → is_decimal word ≡ true → ParsesUnsigned 8 10 word r → OkIff r ((0 < length word) × (digits_value 10 word < 2 ^ 8)) (digits_value 10 word)
member_parsed word r decimal parses = parse_digits (numerals_by_value (AllDigits 10) tells_digits) 8 word r parses (decimal_digits word decimal)

abbrev encoded_by : Bool → Bool → ℕ → Result ℕ ErrorKind
encoded_by decimal member number = if decimal && member then Ok number else Err kinds.ValueValidation

-- a decimal word that is no number of eight bits
pub encoded_too_much : {E : Type 0} (word : List ℕ) (r : Result ℕ E) (e : E) → true ≡ is_decimal word → ParsesUnsigned 8 10 word r → r ≡ Err e → encoded_member word ≡ Err kinds.ValueValidation
encoded_too_much {E = E} word r e decimal parses is =
    let over : (0 < length word) × (digits_value 10 word < 2 ^ 8) → ⊥ = subst (λ (x : Result ℕ E). OkIff x ((0 < length word) × (digits_value 10 word < 2 ^ 8)) (digits_value 10 word)) is (member_parsed word r (sym decimal) parses) in
    ap (λ (b : Bool). encoded_by b (is_member (digits_value 10 word)) (digits_value 10 word)) (sym decimal) ∙ go (is_member (digits_value 10 word)) refl over
  where
    go : (b : Bool) → is_member (digits_value 10 word) ≡ b → ((0 < length word) × (digits_value 10 word < 2 ^ 8) → ⊥) → encoded_by true (is_member (digits_value 10 word)) (digits_value 10 word) ≡ Err kinds.ValueValidation
    go false same over = ap (λ (x : Bool). encoded_by true x (digits_value 10 word)) same
    go true same over = absurd (over (some_digit word (sym decimal), within (digits_value 10 word) same))

and_false : (b : Bool) → (b && false) ≡ false
and_false true = refl
and_false false = refl

abbrev number_by : Bool → Bool → ℕ → Option ℕ
number_by decimal fits number = if decimal && fits then Some number else None

-- a decimal word, as it is parsed in 64 bits
pub number_parsed : {E : Type 0} (word : List ℕ) (r : Result ℕ E) → true ≡ is_decimal word → ParsesUnsigned 64 10 word r → result_ok r ≡ (if is_number word then Some (digits_value 10 word) else None)
number_parsed {E = E} word r decimal parses =
    go (nat_lt (digits_value 10 word) (2 ^ 64)) refl r (parse_digits (numerals_by_value (AllDigits 10) tells_digits) 64 word r parses (decimal_digits word (sym decimal)))
    ∙ ap (λ (b : Bool). number_by b (nat_lt (digits_value 10 word) (2 ^ 64)) (digits_value 10 word)) decimal
  where
    go : (fits : Bool) → nat_lt (digits_value 10 word) (2 ^ 64) ≡ fits → (r : Result ℕ E) → OkIff r ((0 < length word) × (digits_value 10 word < 2 ^ 64)) (digits_value 10 word) → result_ok r ≡ number_by true fits (digits_value 10 word)
    go true is (Ok n) h = ap Some h.1
    go true is (Err e) h = absurd (h (some_digit word (sym decimal), grind (arith, nat_tests, is)))
    go false is (Ok n) h = absurd (let below = h.0.1 in let no : nat_lt (digits_value 10 word) (2 ^ 64) ≡ true = grind (arith, nat_tests) in cc)
    go false is (Err e) h = refl

-- what the reading of one word says of it
pub some_value : {A : Type 0} (test : Text → Bool) (value : Text → A) (word : Text) (v : A) → Some v ≡ (if test word then Some (value word) else None) → (test word ≡ true) × (v ≡ value word)
some_value {A = A} test value word v = go (test word)
  where
    go : (b : Bool) → Some v ≡ (if b then Some (value word) else None) → (b ≡ true) × (v ≡ value word)
    go true is = (refl, cc)
    go false is = cc

pub no_value : {A : Type 0} (test : Text → Bool) (value : Text → A) (word : Text) → ◌≡◌ {A = Option A} None (if test word then Some (value word) else None) → test word ≡ false
no_value {A = A} test value word = go (test word)
  where
    go : (b : Bool) → ◌≡◌ {A = Option A} None (if b then Some (value word) else None) → b ≡ false
    go true is = cc
    go false is = refl

-- the texts after references
abbrev pub now_of : List (Bor Text) → List Text
now_of words = map (λ s. s.now) words

-- one word more that encodes a value
pub one_more : {A : Type 0} (test : Text → Bool) (value : Text → A) (words : List (Bor Text)) (i : ℕ) (d : Bor Text) (values new : List A) (v : A) → i < length words → Some v ≡ (if test (get_or words i d).now then Some (value (get_or words i d).now) else None) →
    new ≡ values ++ v ∷ [] → list_all test (now_of (take i words)) ≡ true → values ≡ map value (now_of (take i words)) →
    (list_all test (now_of (take (i + 1) words)) ≡ true) × (new ≡ map value (now_of (take (i + 1) words)))
one_more {A = A} test value words i d values new v within found pushed all read =
    let word : Text = (get_or words i d).now in
    let texts : now_of (take (i + 1) words) ≡ now_of (take i words) ++ word ∷ [] = ap now_of (take_more words i d within) ∙ map-append (λ (s : Bor Text). s.now) (take i words) (get_or words i d ∷ []) in
    let encoded = some_value test value word v found in (
      ap (list_all test) texts ∙ list_all-append test (now_of (take i words)) (word ∷ []) ∙ and_from (list_all test (now_of (take i words))) (test word && true) all (and_from (test word) true encoded.0 refl),
      pushed ∙ ap (λ (l : List A). l ++ v ∷ []) read ∙ ap (λ (m : A). map value (now_of (take i words)) ++ m ∷ []) encoded.1
          ∙ sym (map-append value (now_of (take i words)) (word ∷ [])) ∙ ap (map value) (sym texts),
    )

-- a word that encodes none
pub not_all : (test : Text → Bool) (words : List (Bor Text)) (i : ℕ) (d : Bor Text) → i < length words → test (get_or words i d).now ≡ false → list_all test (now_of words) ≡ false
not_all test [] i d inside other = absurd (omega (arith, inside))
not_all test (first ∷ words) zero d inside other = ap (λ (b : Bool). b && list_all test (now_of words)) other
not_all test (first ∷ words) (suc i) d inside other = ap (λ (b : Bool). test first.now && b) (not_all test words i d (omega (arith, inside)) other) ∙ and_false (test first.now)

-- so the words don't encode values
pub none_of : {A : Type 0} (test : Text → Bool) (value : Text → A) (words : List (Bor Text)) (i : ℕ) (d : Bor Text) → i < length words → ◌≡◌ {A = Option A} None (if test (get_or words i d).now then Some (value (get_or words i d).now) else None) →
    ◌≡◌ {A = Option (List A)} None (if list_all test (now_of words) then Some (map value (now_of words)) else None)
none_of {A = A} test value words i d inside none = go (list_all test (now_of words)) (not_all test words i d inside (no_value test value (get_or words i d).now none))
  where
    go : (b : Bool) → b ≡ false → ◌≡◌ {A = Option (List A)} None (if b then Some (map value (now_of words)) else None)
    go true is = cc
    go false is = refl

-- the identifier that a word encodes, by whether it encodes one
pub named_as : (word : Text) → encoded_digest word ≡ (if is_node word then Some (node_of word) else None)
named_as word = go (encoded_digest word)
  where
    go : (found : Option (List ℕ)) → found ≡ (if is_some found then Some (unwrap_or found []) else None)
    go None = refl
    go (Some node) = refl

-- one word more that encodes an identifier, and one that encodes none
pub one_node : (words : List (Bor Text)) (i : ℕ) (d : Bor Text) (nodes new : List (List ℕ)) (node : List ℕ) → i < length words → Some node ≡ encoded_digest (get_or words i d).now →
    new ≡ nodes ++ node ∷ [] → list_all is_node (now_of (take i words)) ≡ true → nodes ≡ map node_of (now_of (take i words)) →
    (list_all is_node (now_of (take (i + 1) words)) ≡ true) × (new ≡ map node_of (now_of (take (i + 1) words)))
one_node words i d nodes new node within found pushed all read = one_more is_node node_of words i d nodes new node within (found ∙ named_as (get_or words i d).now) pushed all read

pub no_nodes : (words : List (Bor Text)) (i : ℕ) (d : Bor Text) → i < length words → None ≡ encoded_digest (get_or words i d).now →
    ◌≡◌ {A = Option (List (List ℕ))} None (if list_all is_node (now_of words) then Some (map node_of (now_of words)) else None)
no_nodes words i d inside none = none_of is_node node_of words i d inside (none ∙ named_as (get_or words i d).now)

kind_of_faults : (printed : Kinds) (found : Result Asked ErrorKind) → HasKind (unless_faulty printed found)
kind_of_faults [] (Ok task) = tt
kind_of_faults [] (Err kind) = (kind, inl refl)
kind_of_faults (kind ∷ more) found = (kind, inl refl)

pub some_kind : (words : List Text) → HasKind (asked words)
unfolding asked
some_kind words = kind_of_faults (fault_of program words) (asked_command (subcommand_of program words))

-- The program as the library has it

free : is_simple_and_free program ≡ true
unfolding clap_on_literals whole_program
free = refl

simple : is_simple program ≡ true
unfolding clap_on_literals whole_program
simple = refl

-- words in which the library found no fault
pub asked_found : (words : List Text) (found : Option (Text × List Row)) → fault_of program words ≡ [] → found ≡ subcommand_of program words → asked words ≡ unless_faulty [] (asked_command found)
unfolding asked
asked_found words found none same =
    ap (λ (k : Kinds). unless_faulty k (asked_command (subcommand_of program words))) none ∙ ap (λ (c : Option (Text × List Row)). unless_faulty [] (asked_command c)) (sym same)

found_kinds : (words : List Text) (kind : ErrorKind) → IsAmong kind (fault_of program words) → Refuses (asked words) kind
unfolding asked
found_kinds words kind among = go (fault_of program words) among
  where
    go : (printed : Kinds) → IsAmong kind printed → Refuses (unless_faulty printed (asked_command (subcommand_of program words))) kind
    go [] among = absurd among
    go (k ∷ ks) among = (k ∷ ks, refl, among)

-- what the library gives of the program
pub faultless : (app : App) (words : List Text) → app ≡ program → (is_simple_and_free app ≡ true → fault_of app words ≡ []) → fault_of program words ≡ []
faultless app words is none = ap (λ (a : App). fault_of a words) (sym is) ∙ none (ap is_simple_and_free is ∙ free)

pub entered_as : (app : App) (words : List Text) (m : ArgMatches) → app ≡ program → HasMatchesOf app words m → subcommand_rows_of m ≡ subcommand_of program words
entered_as app words m is matches = (matches (ap is_simple is ∙ simple)).1 ∙ ap (λ (a : App). subcommand_of a words) is

pub kind_found : (app : App) (words : List Text) (kind found : ErrorKind) → app ≡ program → kind ≡ found →
    (is_simple_and_free app ≡ true → (found ≡ kinds.OutOfMemory) ⊎ IsAmong found (fault_of app words)) → (kind ≡ kinds.OutOfMemory → ⊥) → Refuses (asked words) kind
kind_found app words kind found is same printed other = go (printed (ap is_simple_and_free is ∙ free))
  where
    go : (found ≡ kinds.OutOfMemory) ⊎ IsAmong found (fault_of app words) → Refuses (asked words) kind
    go (inl memory) = absurd (other (same ∙ memory))
    go (inr among) = found_kinds words kind (subst (λ (k : ErrorKind). IsAmong k (fault_of program words)) (sym same) (subst (λ (a : App). IsAmong found (fault_of a words)) is among))

-- a command of the words in which the library found no fault
pub command_found : (words : List Text) (found : Option (Text × List Row)) (r : Result Asked WordsFault) → fault_of program words ≡ [] → found ≡ subcommand_of program words →
    IfOk r (λ task. asked_command found ≡ Ok task) → IfOk r (λ task. asked words ≡ Ok task)
command_found words found (Ok task) none same is = asked_found words found none same ∙ ap (unless_faulty []) is
command_found words found (Err fault) none same is = tt

pub command_refused : (words : List Text) (found : Option (Text × List Row)) (r : Result Asked WordsFault) → fault_of program words ≡ [] → found ≡ subcommand_of program words →
    IfErr r (RefusesOnly (asked_command found)) → IfErr r (RefusesWords (asked words))
command_refused words found (Ok task) none same is = tt
command_refused words found (Err NoMemory) none same is = tt
command_refused words found (Err (Refused kind)) none same is = (kind ∷ [], asked_found words found none same ∙ ap (unless_faulty []) is, inl refl)
