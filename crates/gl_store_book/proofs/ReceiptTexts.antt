-- The text of a receipt is read as the receipt again, and is short.
use Rattle.std.proofs.Common.{◌≡◌, ℕ, suc, ◌+◌, ◌*◌, ◌/◌, ◌%◌, ◌^◌, ◌<◌, ◌≤◌, List, [], ◌∷◌, ◌++◌, length, map, Bool, true, false, cond, nat_lt, Option, Some, option_and_then, Ok, max, codes, decimal, refl, sym, ap, ap₂, ◌∙◌, arith, append-nil, length-append}
use Rattle.std.specs.Prelude.{⊤}
use Rattle.std.specs.Char.{digit_char}
use Rattle.std.specs.List.{AllByRecursion, list_all}
use Rattle.std.specs.Str.{IsAscii, IsUtf8}
use Rattle.std.proofs.lemmas.Bool.{and_parts}
use Rattle.std.proofs.lemmas.Bool.Decides.{nat_tests}
use Rattle.std.proofs.lemmas.Fmt.{IsAscii-decimal, length-decimal-le}
use Rattle.std.proofs.lemmas.Str.{IsUtf8-append, IsUtf8-nil, IsUtf8-from_ascii}
use Rattle.std.proofs.lemmas.Str.Ascii.{IsAscii-cons, IsAscii-nil}
use Rattle.hex.specs.Hex.{encode_lower, lower_digits}
use Rattle.hex.proofs.HexLemmas.{IsAscii-encode_with, length-encode_with}
use Rattle.json.specs.Lex.{tokens}
use Rattle.json.specs.Token.{Token}
use Rattle.json.specs.Print.{IsNumber, escape, escape_byte, escape_letter, quoted}
use Rattle.json.specs.Json as json
use Rattle.json.specs.Tree as tree
use Rattle.json.proofs.Printed.Decimals.{IsNumber-decimal}
use Rattle.json.proofs.Printed.Tokens.{tokens-print}
use Rattle.json.proofs.Printed.Trees.{value-json_tokens, ArePrintable-json_tokens}
use Rattle.json.proofs.Printed.Utf8.{IsUtf8-are_ascii, IsUtf8-boolean, IsUtf8-quoted}
use Rattle.serde_json.specs.Data.{Num, unsigned, negative, float, Data, null, boolean, number, string, array, object, Items, no_items, item, Members, no_members, member, depth, items_depth, members_depth}
use Rattle.serde_json.specs.Read.{read, of_json, of_items, max_depth}
use Rattle.serde_json.specs.View.{items_of}
use Rattle.serde_json.specs.Written.{number_text, outline, items_outline, members_outline, comma_if, compact_text, items_text, members_text}
use Rattle.serde_json.proofs.Numbers.{number_of-decimal}
use Rattle.serde_json.proofs.Texts.{print-outline}
use Rattle.gl_merkle.specs.declared.tree.Step.{Step}
use Rattle.gl_merkle.specs.declared.tree.Step.TheVariants.{Left, Right}
use Rattle.gl_receipt.specs.Form.{receipt_from}
use Rattle.gl_receipt.specs.Ranges.{IsDigest, HasDigest, IsReceipt}
use Rattle.gl_receipt.specs.Tree.{step_tree, receipt_tree}
use Rattle.gl_receipt.specs.declared.components.Receipt.{Receipt}
use Rattle.gl_receipt.proofs.TextLemmas.{reads_back}
use Rattle.gl_receipt.proofs.TreeLemmas.{depth-tree}

-- ---- any value without floats

abbrev IsSmall : Num → Type 0
IsSmall (unsigned n) = n < 2 ^ 64
IsSmall (negative z) = ⊥
IsSmall (float x) = ⊥

-- its numbers have at most 64 bits, and its strings are UTF-8
abbrev mutual
  pub AreTexts : Data → Type 0
  AreTexts null = ⊤
  AreTexts (boolean b) = ⊤
  AreTexts (number n) = IsSmall n
  AreTexts (string s) = IsUtf8 s
  AreTexts (array ds) = ItemsAreTexts ds
  AreTexts (object ms) = MembersAreTexts ms

  pub ItemsAreTexts : Items → Type 0
  ItemsAreTexts no_items = ⊤
  ItemsAreTexts (item d ds) = AreTexts d × ItemsAreTexts ds

  pub MembersAreTexts : Members → Type 0
  MembersAreTexts no_members = ⊤
  MembersAreTexts (member k d ms) = IsUtf8 k × (AreTexts d × MembersAreTexts ms)

number_utf8 : (n : Num) → IsSmall n → IsUtf8 (number_text n)
number_utf8 (unsigned n) h = IsUtf8-from_ascii (decimal n) (IsAscii-decimal n h)
number_utf8 (negative z) h = absurd h
number_utf8 (float x) h = absurd h

comma_utf8 : (later : Bool) → IsUtf8 (comma_if later)
comma_utf8 true = IsUtf8-are_ascii (44 ∷ []) refl
comma_utf8 false = IsUtf8-nil

-- its text is UTF-8
mutual
  pub text_utf8 : (d : Data) → AreTexts d → IsUtf8 (compact_text d)
  text_utf8 null h = IsUtf8-are_ascii (compact_text null) refl
  text_utf8 (boolean b) h = IsUtf8-boolean b
  text_utf8 (number n) h = number_utf8 n h
  text_utf8 (string s) h = IsUtf8-quoted s h
  text_utf8 (array ds) h = IsUtf8-append (91 ∷ []) (items_text false ds) (IsUtf8-are_ascii (91 ∷ []) refl) (items_utf8 false ds h)
  text_utf8 (object ms) h = IsUtf8-append (123 ∷ []) (members_text false ms) (IsUtf8-are_ascii (123 ∷ []) refl) (members_utf8 false ms h)

  items_utf8 : (later : Bool) (ds : Items) → ItemsAreTexts ds → IsUtf8 (items_text later ds)
  items_utf8 later no_items h = IsUtf8-are_ascii (93 ∷ []) refl
  items_utf8 later (item d ds) h =
      IsUtf8-append (comma_if later) (compact_text d ++ items_text true ds) (comma_utf8 later)
      (IsUtf8-append (compact_text d) (items_text true ds) (text_utf8 d h.0) (items_utf8 true ds h.1))

  members_utf8 : (later : Bool) (ms : Members) → MembersAreTexts ms → IsUtf8 (members_text later ms)
  members_utf8 later no_members h = IsUtf8-are_ascii (125 ∷ []) refl
  members_utf8 later (member k d ms) h =
      let rest = compact_text d ++ members_text true ms in
      IsUtf8-append (comma_if later) (quoted k ++ 58 ∷ rest) (comma_utf8 later)
      (IsUtf8-append (quoted k) (58 ∷ rest) (IsUtf8-quoted k h.0)
      (IsUtf8-append (58 ∷ []) rest (IsUtf8-are_ascii (58 ∷ []) refl)
      (IsUtf8-append (compact_text d) (members_text true ms) (text_utf8 d h.1.0) (members_utf8 true ms h.1.1))))

-- ---- its text is read

number_there : (n : Num) → IsSmall n → IsNumber (number_text n)
number_there (unsigned n) h = IsNumber-decimal n h
number_there (negative z) h = absurd h
number_there (float x) h = absurd h

mutual
  numbers_there : (d : Data) → AreTexts d → tree.HasNumbers (outline d)
  numbers_there null h = tt
  numbers_there (boolean b) h = tt
  numbers_there (number n) h = number_there n h
  numbers_there (string s) h = tt
  numbers_there (array ds) h = items_numbers ds h
  numbers_there (object ms) h = members_numbers ms h

  items_numbers : (ds : Items) → ItemsAreTexts ds → tree.ItemsHaveNumbers (items_outline ds)
  items_numbers no_items h = tt
  items_numbers (item d ds) h = (numbers_there d h.0, items_numbers ds h.1)

  members_numbers : (ms : Members) → MembersAreTexts ms → tree.MembersHaveNumbers (members_outline ms)
  members_numbers no_members h = tt
  members_numbers (member k d ms) h = (numbers_there d h.1.0, members_numbers ms h.1.1)

mutual
  same_depth : (d : Data) → tree.depth (outline d) ≡ depth d
  same_depth null = refl
  same_depth (boolean b) = refl
  same_depth (number n) = refl
  same_depth (string s) = refl
  same_depth (array ds) = ap suc (items_same_depth ds)
  same_depth (object ms) = ap suc (members_same_depth ms)

  items_same_depth : (ds : Items) → tree.items_depth (items_outline ds) ≡ items_depth ds
  items_same_depth no_items = refl
  items_same_depth (item d ds) = ap₂ max (same_depth d) (items_same_depth ds)

  members_same_depth : (ms : Members) → tree.members_depth (members_outline ms) ≡ members_depth ms
  members_same_depth no_members = refl
  members_same_depth (member k d ms) = ap₂ max (same_depth d) (members_same_depth ms)

tokens_are : (d : Data) → AreTexts d → tokens (compact_text d) ≡ tree.json_tokens (outline d)
tokens_are d h = ap tokens (sym (print-outline d)) ∙ tokens-print (tree.json_tokens (outline d)) (ArePrintable-json_tokens (outline d) (numbers_there d h))

abbrev whole : Option (json.Json × List Token) → Option Data
whole o = option_and_then of_json (option_and_then (λ p. json.if_last p.0 p.1) o)

-- where its keys stand in order
pub text_read : (d : Data) → AreTexts d → depth d ≤ max_depth → of_json (outline d) ≡ Some d → read (compact_text d) ≡ Some d
text_read d h low back =
    ap whole
    (ap (json.value max_depth) (tokens_are d h ∙ sym (append-nil (tree.json_tokens (outline d))))
    ∙ value-json_tokens (outline d) max_depth [] (let same = same_depth d in omega (arith, low, same)))
    ∙ back

-- ---- how long its text is

-- no more than what stands for six bytes for each byte of a string
abbrev mutual
  pub room : Data → ℕ
  room null = 4
  room (boolean b) = 5
  room (number n) = 20
  room (string s) = 6 * length s + 2
  room (array ds) = items_room ds + 2
  room (object ms) = members_room ms + 2

  pub items_room : Items → ℕ
  items_room no_items = 0
  items_room (item d ds) = room d + items_room ds + 1

  pub members_room : Members → ℕ
  members_room no_members = 0
  members_room (member k d ms) = 6 * length k + room d + members_room ms + 4

either_short : (a b : Bool) (x y z w : ℕ) → length (cond a (92 ∷ x ∷ []) (cond b (92 ∷ 117 ∷ 48 ∷ 48 ∷ y ∷ z ∷ []) (w ∷ []))) ≤ 6
either_short true b x y z w = omega arith
either_short false true x y z w = omega arith
either_short false false x y z w = omega arith

escaped_byte : (x : ℕ) → length (escape_byte x) ≤ 6
unfolding escape_byte
escaped_byte x = either_short (nat_lt 0 (escape_letter x)) (nat_lt x 32) (escape_letter x) (digit_char (x / 16)) (digit_char (x % 16)) x

escaped : (s : List ℕ) → length (escape s) ≤ 6 * length s
escaped [] = omega arith
escaped (x ∷ s) =
    let one = escaped_byte x in
    let rest = escaped s in
    let both = length-append (escape_byte x) (escape s) in
    omega (arith, one, rest, both)

quoted_room : (s : List ℕ) → length (quoted s) ≤ 6 * length s + 2
quoted_room s = let all = escaped s in let both = length-append (escape s) (34 ∷ []) in omega (arith, all, both)

number_room : (n : Num) → IsSmall n → length (number_text n) ≤ 20
number_room (unsigned n) h = length-decimal-le 20 n (omega arith) (omega (arith, h)) h
number_room (negative z) h = absurd h
number_room (float x) h = absurd h

boolean_room : (b : Bool) → length (compact_text (boolean b)) ≤ 5
boolean_room true = omega arith
boolean_room false = omega arith

comma_room : (later : Bool) → length (comma_if later) ≤ 1
comma_room true = omega arith
comma_room false = omega arith

mutual
  pub text_room : (d : Data) → AreTexts d → length (compact_text d) ≤ room d
  text_room null h = omega arith
  text_room (boolean b) h = boolean_room b
  text_room (number n) h = number_room n h
  text_room (string s) h = quoted_room s
  text_room (array ds) h = let all = items_text_room false ds h in omega (arith, all)
  text_room (object ms) h = let all = members_text_room false ms h in omega (arith, all)

  items_text_room : (later : Bool) (ds : Items) → ItemsAreTexts ds → length (items_text later ds) ≤ items_room ds + 1
  items_text_room later no_items h = omega arith
  items_text_room later (item d ds) h =
      let one = text_room d h.0 in
      let rest = items_text_room true ds h.1 in
      let comma = comma_room later in
      let a = length-append (comma_if later) (compact_text d ++ items_text true ds) in
      let b = length-append (compact_text d) (items_text true ds) in
      omega (arith, one, rest, comma, a, b)

  members_text_room : (later : Bool) (ms : Members) → MembersAreTexts ms → length (members_text later ms) ≤ members_room ms + 1
  members_text_room later no_members h = omega arith
  members_text_room later (member k d ms) h =
      let key = quoted_room k in
      let one = text_room d h.1.0 in
      let rest = members_text_room true ms h.1.1 in
      let comma = comma_room later in
      let a = length-append (comma_if later) (quoted k ++ 58 ∷ (compact_text d ++ members_text true ms)) in
      let b = length-append (quoted k) (58 ∷ (compact_text d ++ members_text true ms)) in
      let c = length-append (compact_text d) (members_text true ms) in
      omega (arith, key, one, rest, comma, a, b, c)

-- ---- a receipt

abbrev is_seven_bits : ℕ → Bool
is_seven_bits byte = nat_lt byte 128

ascii_from : (bs : List ℕ) → list_all is_seven_bits bs ≡ true → IsAscii bs
ascii_from [] all = IsAscii-nil
ascii_from (b ∷ bs) all =
    let both = and_parts (is_seven_bits b) (list_all is_seven_bits bs) all in
    let small : b < 128 = let is = both.0 in grind (arith, nat_tests) in
    IsAscii-cons b bs small (ascii_from bs both.1)

hex_utf8 : (bytes : List ℕ) → IsUtf8 (encode_lower bytes)
hex_utf8 bytes = IsUtf8-from_ascii (encode_lower bytes) (IsAscii-encode_with lower_digits bytes (ascii_from lower_digits refl))

name_utf8 : (name : List ℕ) → list_all is_seven_bits name ≡ true → IsUtf8 name
name_utf8 name is = IsUtf8-from_ascii name (ascii_from name is)

steps_are : (steps : List Step) → ItemsAreTexts (items_of (map step_tree steps))
steps_are [] = tt
steps_are (Left sibling ∷ steps) = ((name_utf8 (codes "left") refl, (hex_utf8 sibling, tt)), steps_are steps)
steps_are (Right sibling ∷ steps) = ((name_utf8 (codes "right") refl, (hex_utf8 sibling, tt)), steps_are steps)

-- Its parts fit: the text of the evidence is UTF-8, and the numbers of what was signed have at most
-- 64 bits.
pub record IsTextual (r : Receipt) : Type 0 where
  pub ranges : IsReceipt r
  pub evidence : IsUtf8 r.leaf_components.commit_evidence
  pub commit : r.signed.commit < 2 ^ 64
  pub seqno : r.signed.seqno < 2 ^ 64

receipt_are : (r : Receipt) → IsTextual r → AreTexts (receipt_tree r)
unfolding receipt_tree
receipt_are r is =
    let view : r.signed.view < 2 ^ 64 = let small = is.ranges.view in omega (arith, small) in (
      name_utf8 (codes "leaf_components") refl,
      (
        (
          name_utf8 (codes "claims_digest") refl,
          (
            hex_utf8 r.leaf_components.claims_digest,
            (name_utf8 (codes "commit_evidence") refl, (is.evidence, (name_utf8 (codes "write_set_digest") refl, (hex_utf8 r.leaf_components.write_set_digest, tt)))),
          ),
        ),
        (
          name_utf8 (codes "proof") refl,
          (
            steps_are r.proof,
            (
              name_utf8 (codes "signature") refl,
              (
                hex_utf8 r.signature,
                (
                  name_utf8 (codes "signed") refl,
                  (
                    (name_utf8 (codes "commit") refl, (is.commit, (name_utf8 (codes "seqno") refl, (is.seqno, (name_utf8 (codes "view") refl, (view, tt)))))),
                    tt,
                  ),
                ),
              ),
            ),
          ),
        ),
      ),
    )

-- its members stand in the order of their names
steps_back : (steps : List Step) → of_items (items_outline (items_of (map step_tree steps))) ≡ Some (items_of (map step_tree steps))
steps_back [] = refl
steps_back (Left sibling ∷ steps) = rw (steps_back steps) refl
steps_back (Right sibling ∷ steps) = rw (steps_back steps) refl

receipt_back : (r : Receipt) → IsTextual r → of_json (outline (receipt_tree r)) ≡ Some (receipt_tree r)
unfolding receipt_tree
receipt_back r is =
    let view : r.signed.view < 2 ^ 64 = let small = is.ranges.view in omega (arith, small) in
    rw (steps_back r.proof, number_of-decimal r.signed.commit is.commit, number_of-decimal r.signed.seqno is.seqno, number_of-decimal r.signed.view view) refl

pub receipt_again : (r : Receipt) → IsTextual r → receipt_from (compact_text (receipt_tree r)) ≡ Ok r
receipt_again r is =
    let are = receipt_are r is in
    reads_back (compact_text (receipt_tree r)) r is.ranges (text_utf8 (receipt_tree r) are) (text_read (receipt_tree r) are (depth-tree r) (receipt_back r is))

hex_room : (digest : List ℕ) → IsDigest digest → length (encode_lower digest) ≡ 64
hex_room digest is = let twice = length-encode_with lower_digits digest in let size = is.size in omega (arith, twice, size)

steps_room : (steps : List Step) → AllByRecursion HasDigest steps → items_room (items_of (map step_tree steps)) ≤ 500 * length steps
steps_room [] all = omega arith
steps_room (Left sibling ∷ steps) all =
    let one = hex_room sibling all.0 in let rest = steps_room steps all.1 in omega (arith, one, rest)
steps_room (Right sibling ∷ steps) all =
    let one = hex_room sibling all.0 in let rest = steps_room steps all.1 in omega (arith, one, rest)

receipt_room : (r : Receipt) → IsReceipt r → room (receipt_tree r) ≤ 6 * length r.leaf_components.commit_evidence + 500 * length r.proof + 12 * length r.signature + 2000
unfolding receipt_tree
receipt_room r is =
    let claims = hex_room r.leaf_components.claims_digest is.components.claims in
    let write_set = hex_room r.leaf_components.write_set_digest is.components.write_set in
    let proof = steps_room r.proof is.proof in
    let signature = length-encode_with lower_digits r.signature in
    omega (arith, claims, write_set, proof, signature)

pub receipt_short : (r : Receipt) → IsTextual r → length r.leaf_components.commit_evidence ≤ 1000 → length r.proof ≤ 64 → length r.signature ≤ 1048576 → length (compact_text (receipt_tree r)) < 2 ^ 32
receipt_short r is evidence proof signature =
    let within = text_room (receipt_tree r) (receipt_are r is) in
    let all = receipt_room r is.ranges in
    omega (arith, within, all, evidence, proof, signature)
