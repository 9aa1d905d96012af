-- Which texts that are read are visible, and which bytes are within the limits of a name, a key or
-- a value.
use Rattle.std.proofs.Common.{◌≡◌, ℕ, suc, ◌+◌, ◌≤◌, Bool, true, false, not, cond, nat_lt, List, [], ◌∷◌, length, Option, None, Some, Ok, refl, arith}
use Rattle.std.specs.Char.{is_ascii_graphic}
use Rattle.std.specs.List.{list_all, position, position_or_len}
use Rattle.std.proofs.lemmas.Bool.{and_parts, and_from}
use Rattle.std.proofs.lemmas.Bool.Decides.{nat_tests}
use Rattle.gl_base.specs.Cut.{Unread, string_at, text_at, is_no_text}
use Rattle.gl_base.proofs.Numbers.{string_at_ok, bytes_at_length}
use Rattle.gl_base.proofs.Fields.{text_at_ok}
use Rattle.gl_base.specs.Bytes.{are_bytes}
use Rattle.gl_base.specs.Row.{map_name_limit, key_limit, is_map_name_field, is_key_field, is_value_field}

-- where no first byte is found that isn't visible, none is there, and where none is there, none is
-- found
not_some : (n m : ℕ) → cond (nat_lt n m) (Some n) None ≡ None → m ≤ n
not_some n m e = absurd_some (nat_lt n m) refl e
  where
    absurd_some : (b : Bool) → nat_lt n m ≡ b → cond b (Some n) None ≡ None → m ≤ n
    absurd_some true is none = cc
    absurd_some false is none = grind (arith, nat_tests)

none_from : (n m : ℕ) → m ≤ n → cond {A = Option ℕ} (nat_lt n m) (Some n) None ≡ None
none_from n m le = let over : nat_lt n m ≡ false = grind (arith, nat_tests) in rw over refl

found_or_not : (b : Bool) (n m : ℕ) → suc m ≤ cond (not (not b)) (1 + n) 0 → (b ≡ true) × (m ≤ n)
found_or_not true n m le = (refl, omega arith)
found_or_not false n m le = absurd (omega arith)

visible_by : (xs : List ℕ) → length xs ≤ position_or_len is_no_text xs → list_all is_ascii_graphic xs ≡ true
visible_by [] le = refl
visible_by (x ∷ xs) le =
    let both = found_or_not (is_ascii_graphic x) (position_or_len is_no_text xs) (length xs) le in
    and_from (is_ascii_graphic x) (list_all is_ascii_graphic xs) both.0 (visible_by xs both.1)

one_more : (b : Bool) (n m : ℕ) → b ≡ true → m ≤ n → suc m ≤ cond (not (not b)) (1 + n) 0
one_more true n m is le = omega arith
one_more false n m is le = cc

none_by : (xs : List ℕ) → list_all is_ascii_graphic xs ≡ true → length xs ≤ position_or_len is_no_text xs
none_by [] all = omega arith
none_by (x ∷ xs) all =
    let both = and_parts (is_ascii_graphic x) (list_all is_ascii_graphic xs) all in
    one_more (is_ascii_graphic x) (position_or_len is_no_text xs) (length xs) both.0 (none_by xs both.1)

pub visible : (xs : List ℕ) → position is_no_text xs ≡ None → list_all is_ascii_graphic xs ≡ true
visible xs e = visible_by xs (not_some (position_or_len is_no_text xs) (length xs) e)

pub none_hidden : (xs : List ℕ) → list_all is_ascii_graphic xs ≡ true → position is_no_text xs ≡ None
none_hidden xs all = none_from (position_or_len is_no_text xs) (length xs) (none_by xs all)

pub string_at_within : (size limit : ℕ) (old new : Unread) (xs : List ℕ) → string_at size limit old ≡ Ok (xs, new) → length xs ≤ limit
string_at_within size limit old new xs e =
    let string = string_at_ok size limit old new xs e in
    let long = bytes_at_length string.count string.suffix new xs string.bytes in
    omega (arith, string.within, long)

pub map_name-text : (old new : Unread) (xs : List ℕ) → text_at map_name_limit old ≡ Ok (xs, new) → 1 ≤ length xs →
    is_map_name_field xs ≡ true
map_name-text old new xs e some =
    let text = text_at_ok map_name_limit old new xs e in
    let within = string_at_within 1 map_name_limit old new xs text.0 in
    let names = visible xs text.1 in
    rw names (grind (arith, nat_tests))

pub key-valid : (xs : List ℕ) → are_bytes xs ≡ true → 1 ≤ length xs → length xs ≤ key_limit → is_key_field xs ≡ true
key-valid xs all some within = rw all (grind (arith, nat_tests))

pub value-valid : (limit : ℕ) (xs : List ℕ) → are_bytes xs ≡ true → length xs ≤ limit → is_value_field limit xs ≡ true
value-valid limit xs all within = rw all (grind (arith, nat_tests))
