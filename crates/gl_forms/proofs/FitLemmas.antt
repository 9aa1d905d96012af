-- What readings give is within its ranges: readings in general, and values.
use Rattle.std.proofs.Common.{◌≡◌, ℕ, suc, ◌*◌, ◌≤◌, Bool, true, false, cond, ◌&&◌, ◌==◌, nat_le, List, length, Option, option_and_then, Result, Ok, Err, IfOk, refl, sym, ap, subst, ◌∙◌, arith}
use Rattle.std.specs.List.{list_all}
use Rattle.std.specs.Option.{ok_or}
use Rattle.std.proofs.lemmas.Bool.{and_parts, and_from, eq-eqb}
use Rattle.std.proofs.lemmas.Bool.Decides.{nat_tests}
use Rattle.hex.specs.Hex.{decode_of, decode_sized}
use Rattle.hex.specs.declared.error.FromHexError.{FromHexError}
use Rattle.hex.proofs.HexLemmas.{decode_of-ok, decode_sized-ok, decode_sized-twice}
use Rattle.serde_json.specs.Data.{Data, Items, no_items, item}
use Rattle.serde_json.specs.Events.{items_len}
use Rattle.serde_json.specs.Find.{get, as_number, as_u64, as_array}
use Rattle.gl_base.specs.Answers.{Answers}
use Rattle.gl_base.specs.Bytes.{are_bytes, are_sized, mebibyte}
use Rattle.gl_base.specs.Json.{member_of, item_of}
use Rattle.gl_base.specs.Steps.{◌>>=◌}
use Rattle.gl_base.specs.declared.json.FormsFault.{FormsFault}
use Rattle.gl_base.specs.declared.or_no_memory.OrNoMemory.{OrNoMemory}
use Rattle.gl_base.proofs.ByteLists.{are_bytes-true}
use Rattle.gl_requests.specs.Ranges.{is_signature_field}
use Rattle.gl_json.specs.Form.{text_in, is_lower_digit, lower_digits, decoded, sized_in, at}
use Rattle.gl_forms.specs.Form.{number_in, has_so_many, list_in, not_too_long, long_digits_in, endorsement_in, elements_from, list_at}
use Rattle.gl_json.specs.declared.form_error.FormError.{FormError}
use Rattle.gl_json.specs.declared.form_error.FormError.TheVariants.{Shape, Hex}

-- ---- readings

-- this holds of what a reading gives, if it gives something
pub record Fits {X E : Type 0} (P : X → Type 0) (r : Result X E) : Type 0 where
  pub holds : IfOk r P

pub gives : {X E : Type 0} {P : X → Type 0} {x : X} → P x → Fits {X = X} {E = E} P (Ok x)
gives h = record { holds = h }

pub fails : {X E : Type 0} {P : X → Type 0} {e : E} → Fits {X = X} {E = E} P (Err e)
fails = record { holds = tt }

-- a reading after one of which something holds
pub suffix : {A B E : Type 0} {P : A → Type 0} {Q : B → Type 0} {r : Result A E} {f : A → Result B E} → Fits P r
    → ((x : A) → P x → Fits Q (f x)) → Fits Q (r >>= f)
suffix {r = Ok x} h each = each x h.holds
suffix {r = Err e} h each = fails

-- a reading after any
pub after_any : {A B E : Type 0} {Q : B → Type 0} {f : A → Result B E} → (r : Result A E) → ((x : A) → Fits Q (f x)) → Fits Q (r >>= f)
after_any (Ok x) each = each x
after_any (Err e) each = fails

-- what follows of a reading's value
pub weaker : {A E : Type 0} {P Q : A → Type 0} {r : Result A E} → Fits P r → ((x : A) → P x → Q x) → Fits Q r
weaker {r = Ok x} h each = gives (each x h.holds)
weaker {r = Err e} h each = fails

-- a reading of a value, at its place
pub at_place : {X : Type 0} {P : X → Type 0} {r : Result X FormError} → (path : List ℕ) → Fits P r → Fits P (at path r)
at_place {r = Ok x} path h = gives h.holds
at_place {r = Err e} path h = fails

-- a value that passes a test
pub if_passes : {X E : Type 0} {P : X → Type 0} → (b : Bool) (x : X) (e : E) → (b ≡ true → P x) → Fits P (cond {A = Result X E} b (Ok x) (Err e))
if_passes true x e each = gives (each refl)
if_passes false x e each = fails

-- one of two readings
pub either : {X E : Type 0} {P : X → Type 0} {r s : Result X E} → (b : Bool) → Fits P r → Fits P s → Fits P (cond b r s)
either true h k = h
either false h k = k

-- what a call gives that answers a reading
pub answered : {X : Type 0} {P : X → Type 0} {reading : Result X FormsFault} → (r : Result X (OrNoMemory FormsFault)) → Answers (λ x. x) r reading → Fits P reading → IfOk r P
answered {P = P} (Ok x) e h = (subst (Fits P) e h).holds
answered (Err e) given h = tt

-- ---- numbers

abbrev pub IsIn : ℕ → ℕ → ℕ → Type 0
IsIn low high n = (nat_le low n && nat_le n high) ≡ true

pub number_fits : (low high : ℕ) (value : Option Data) → Fits (IsIn low high) (number_in low high value)
number_fits low high value =
    after_any (ok_or (option_and_then as_u64 (option_and_then as_number value)) Shape) (λ n. if_passes (nat_le low n && nat_le n high) n Shape (λ e. e))

-- ---- hexadecimal

decoded_fits : {P : List ℕ → Type 0} → (r : Result (List ℕ) FromHexError) → ((bytes : List ℕ) → r ≡ Ok bytes → P bytes) → Fits P (decoded r)
decoded_fits (Ok bytes) each = gives (each bytes refl)
decoded_fits (Err e) each = fails

abbrev pub IsSized : ℕ → List ℕ → Type 0
IsSized size bytes = are_sized size bytes ≡ true

sized_is : (digits : List ℕ) (size : ℕ) (bytes : List ℕ) → decode_sized digits size ≡ Ok bytes → IsSized size bytes
sized_is digits size bytes e =
    let len = decode_sized-ok digits size bytes e in
    let ok = decode_of-ok digits bytes (sym (decode_sized-twice digits size len) ∙ e) in
    let same : length bytes ≡ size = omega (arith, len, ok.2) in
    and_from (length bytes == size) (are_bytes bytes) (eq-eqb (length bytes) size same) (are_bytes-true bytes ok.3)

pub sized_fits : (size : ℕ) (value : Option Data) → Fits (IsSized size) (sized_in size value)
sized_fits size value =
    after_any (text_in value >>= lower_digits) (λ digits. decoded_fits {P = IsSized size} (decode_sized digits size) (sized_is digits size))

-- not too long for 1 MiB of bytes
abbrev IsShort : List ℕ → Type 0
IsShort text = length text ≤ 2 * mebibyte

long_fits : (value : Option Data) → Fits IsShort (long_digits_in value)
long_fits value =
    let bound : Fits IsShort (text_in value >>= not_too_long) =
    after_any (text_in value) (λ text. if_passes (nat_le (length text) (2 * mebibyte)) text Shape (λ e. grind (arith, nat_tests, e)))
    in suffix bound (λ text h. if_passes (list_all is_lower_digit text) text Hex (λ e. h))

abbrev pub IsSignature : List ℕ → Type 0
IsSignature bytes = is_signature_field bytes ≡ true

short_is : (digits bytes : List ℕ) → IsShort digits → decode_of digits ≡ Ok bytes → IsSignature bytes
short_is digits bytes short e =
    let ok = decode_of-ok digits bytes e in
    let bound : length bytes ≤ mebibyte = omega (arith, short, ok.2) in
    let test : nat_le (length bytes) mebibyte ≡ true = grind (arith, nat_tests) in
    and_from (are_bytes bytes) (nat_le (length bytes) mebibyte) (are_bytes-true bytes ok.3) test

pub endorsement_fits : (value : Option Data) → Fits IsSignature (endorsement_in value)
endorsement_fits value = suffix (long_fits value) (λ digits short. decoded_fits {P = IsSignature} (decode_of digits) (λ bytes. short_is digits bytes short))

-- ---- lists

-- each element is within its ranges, and there are as many as values
pub record Elements {X : Type 0} (is : X → Bool) (values : Items) (xs : List X) : Type 0 where
  pub count : length xs ≡ items_len values
  pub all : list_all is xs ≡ true

-- what a form gives is within its ranges, wherever the value stands
abbrev pub FormFits : {X : Type 0} → (X → Bool) → (List ℕ → Data → Result X FormsFault) → Type 0
FormFits is form = (place : List ℕ) (value : Data) → Fits (λ x. is x ≡ true) (form place value)

elements_fit : {X : Type 0} → (form : List ℕ → Data → Result X FormsFault) (is : X → Bool) → FormFits is form
    → (place : List ℕ) (index : ℕ) (values : Items) → Fits (Elements is values) (elements_from form place index values)
unfolding elements_from
elements_fit form is each place index no_items = gives (record { count = refl; all = refl })
elements_fit form is each place index (item value values) =
    suffix (each (item_of place index) value) (λ x h.
    suffix (elements_fit form is each place (suc index) values) (λ xs k.
    gives (record { count = ap suc k.count; all = and_from (is x) (list_all is xs) h k.all })))

-- a list of low to high elements within their ranges
pub record Listed {X : Type 0} (is : X → Bool) (low high : ℕ) (xs : List X) : Type 0 where
  pub least : low ≤ length xs
  pub most : length xs ≤ high
  pub all : list_all is xs ≡ true

record IsCount (low high : ℕ) (values : Items) : Type 0 where
  least : low ≤ items_len values
  most : items_len values ≤ high

count_is : (low high : ℕ) (values : Items) → has_so_many low high values ≡ true → IsCount low high values
count_is low high values e =
    let parts = and_parts (nat_le low (items_len values)) (nat_le (items_len values) high) e in
    record { least = grind (arith, nat_tests, parts.0); most = grind (arith, nat_tests, parts.1) }

counted_fits : (low high : ℕ) (value : Option Data) → Fits (IsCount low high) (list_in low high value)
counted_fits low high value =
    after_any (ok_or (option_and_then as_array value) Shape) (λ values. if_passes (has_so_many low high values) values Shape (count_is low high values))

pub list_fits : {X : Type 0} → (form : List ℕ → Data → Result X FormsFault) (is : X → Bool) → FormFits is form
    → (low high : ℕ) (place name : List ℕ) (value : Data) → Fits (Listed is low high) (list_at form low high place name value)
unfolding list_at
list_fits form is each low high place name value =
    suffix (at_place (member_of place name) (counted_fits low high (get name value))) (λ values count.
    weaker (elements_fit form is each (member_of place name) 0 values) (λ xs h.
    record { least = omega (arith, count.least, h.count); most = omega (arith, count.most, h.count); all = h.all }))
