-- What is encoded as a field reads back, and what reads is encoded so.
use Rattle.std.proofs.Common.{append_assoc, ◌∷◌, suc, add-zero, Result, Bool, cond, false, ◌==◌, IfOk, IsOkAnd, ◌/◌, ◌≢◌, ◌≡◌, ℕ, ◌+◌, ◌^◌, ◌<◌, ◌≤◌, nat_lt, false, List, ◌++◌, length, take, Option, None, Some, Ok, Err, refl, sym, ap, ◌∙◌, subst, length-append, arith}
use Rattle.std.specs.List.{position}
use Rattle.std.proofs.Math.Seq.{take-append_seam, drop-append_seam}
use Rattle.std.proofs.lemmas.Bool.Decides.{nat_tests}
use Rattle.std.proofs.lemmas.List.{take-append-drop, length-take-le}
use Rattle.gl_base.specs.LittleEndian.{little_endian}
use Rattle.gl_base.proofs.ByteLists.{AreBytes}
use Rattle.gl_base.specs.Field.{field_encoding}
use Rattle.gl_base.specs.declared.fault.CutFault.{CutFault}
use Rattle.gl_base.specs.Cut.{Unread, bytes_at, number_at, string_at, text_at, all_text, is_no_text, FitsField, FitsText, Gives}
use Rattle.gl_base.proofs.LittleEndianLaws.{length-little_endian, from_little_endian-little_endian, little_endian-from_little_endian}
use Rattle.gl_base.proofs.Numbers.{Taken, bytes_at_ok, bytes_at_length, number_at_ok, string_at_ok}
use Rattle.gl_base.proofs.Steps.{bind_ok, ok_injective}

all_text_ok : (start : ℕ) (field read : List ℕ × Unread) (o : Option ℕ) → all_text start field o ≡ Ok read → (field ≡ read) × (o ≡ None)
all_text_ok start field read (Some i) e = cc
all_text_ok start field read None e = (ok_injective {A = List ℕ × Unread} {E = CutFault} field read e, refl)

-- ---- what is encoded reads

pub bytes_at-append : (at : ℕ) (xs rest : List ℕ)
    → bytes_at (length xs) (record { at = at; bytes = xs ++ rest }) ≡ Ok (xs, record { at = at + length xs; bytes = rest })
unfolding bytes_at
bytes_at-append at xs rest =
    let long = length-append xs rest in
    let enough : nat_lt (length (xs ++ rest)) (length xs) ≡ false = grind (arith, nat_tests) in
    rw (enough, take-append_seam xs rest, drop-append_seam xs rest) refl

pub number_at-encoded : (size at n : ℕ) (rest : List ℕ) → n < 256 ^ size
    → number_at size (record { at = at; bytes = little_endian size n ++ rest }) ≡ Ok (n, record { at = at + size; bytes = rest })
unfolding number_at
number_at-encoded size at n rest small =
    let long = length-little_endian size n in
    let read : bytes_at size (record { at = at; bytes = little_endian size n ++ rest }) ≡ Ok (little_endian size n, record { at = at + size; bytes = rest }) =
    subst (λ (k : ℕ). bytes_at k (record { at = at; bytes = little_endian size n ++ rest }) ≡ Ok (little_endian size n, record { at = at + k; bytes = rest })) long
    (bytes_at-append at (little_endian size n) rest) in
    rw (read, from_little_endian-little_endian size n small) refl

pub string_at-encoded : (size limit at : ℕ) (xs rest : List ℕ) → length xs ≤ limit → length xs < 256 ^ size
    → string_at size limit (record { at = at; bytes = little_endian size (length xs) ++ (xs ++ rest) }) ≡ Ok (xs, record { at = at + size + length xs; bytes = rest })
unfolding string_at
string_at-encoded size limit at xs rest within small =
    let fits : nat_lt limit (length xs) ≡ false = grind (arith, nat_tests) in
    rw (number_at-encoded size at (length xs) (xs ++ rest) small, fits) (bytes_at-append (at + size) xs rest)

pub text_at-encoded : (limit at : ℕ) (xs rest : List ℕ) → length xs ≤ limit → length xs < 256 → position is_no_text xs ≡ None
    → text_at limit (record { at = at; bytes = little_endian 1 (length xs) ++ (xs ++ rest) }) ≡ Ok (xs, record { at = at + 1 + length xs; bytes = rest })
unfolding text_at
text_at-encoded limit at xs rest within small text =
    let read = string_at-encoded 1 limit at xs rest within small in
    rw (read, text) refl

-- ---- what reads is encoded so

whole_taken : (count : ℕ) (unread new : Unread) (xs : List ℕ) → Taken count unread new xs → unread.bytes ≡ xs ++ new.bytes
whole_taken count unread new xs taken =
    let prefix = taken.prefix in
    let back = taken.back in
    let whole = take-append-drop count unread.bytes in
    cc

pub bytes_at-encoded : (count : ℕ) (unread new : Unread) (xs : List ℕ) → bytes_at count unread ≡ Ok (xs, new) → unread.bytes ≡ xs ++ new.bytes
bytes_at-encoded count unread new xs e =
    whole_taken count unread new xs (bytes_at_ok count unread new xs e)

pub number_encoded : (size n : ℕ) (unread new : Unread) → AreBytes (take size unread.bytes) → number_at size unread ≡ Ok (n, new)
    → unread.bytes ≡ little_endian size n ++ new.bytes
number_encoded size n unread new all e =
    let number = number_at_ok size n unread new e in
    let long : length number.bytes ≡ size = ap length number.taken.prefix ∙ length-take-le size unread.bytes number.taken.enough in
    let bytes : AreBytes number.bytes = subst AreBytes (sym number.taken.prefix) all in
    let encoded = little_endian-from_little_endian number.bytes bytes in
    let value = number.value in
    let same : little_endian size n ≡ number.bytes = cc in
    whole_taken size unread new number.bytes number.taken ∙ ap (λ (xs : List ℕ). xs ++ new.bytes) (sym same)

pub string_encoded : (size limit : ℕ) (unread new : Unread) (xs : List ℕ) → AreBytes (take size unread.bytes) → string_at size limit unread ≡ Ok (xs, new)
    → unread.bytes ≡ little_endian size (length xs) ++ (xs ++ new.bytes)
string_encoded size limit unread new xs all e =
    let string = string_at_ok size limit unread new xs e in
    let first = number_encoded size string.count unread string.suffix all string.len in
    let rest = bytes_at-encoded string.count string.suffix new xs string.bytes in
    let long = bytes_at_length string.count string.suffix new xs string.bytes in
    cc

pub text_at_ok : (limit : ℕ) (unread new : Unread) (xs : List ℕ) → text_at limit unread ≡ Ok (xs, new)
    → (string_at 1 limit unread ≡ Ok (xs, new)) × (position is_no_text xs ≡ None)
unfolding text_at
text_at_ok limit unread new xs e =
    let there = bind_ok {A = List ℕ × Unread} {B = List ℕ × Unread} {E = CutFault} (string_at 1 limit unread)
    (λ (field : List ℕ × Unread). all_text (unread.at + 1) field (position is_no_text field.0)) (xs, new) e in
    let text = all_text_ok (unread.at + 1) there.0 (xs, new) (position is_no_text there.0.0) there.2 in
    let same : there.0.0 ≡ xs = ap (λ (p : List ℕ × Unread). p.0) text.0 in
    (there.1 ∙ ap (λ (p : List ℕ × Unread). Ok p) text.0, subst (λ (ys : List ℕ). position is_no_text ys ≡ None) same text.1)

-- ---- what a read of a number answers where one is encoded

number_there : (size n : ℕ) (old : Unread) (rest : List ℕ) → n < 256 ^ size → old.bytes ≡ little_endian size n ++ rest
    → number_at size old ≡ Ok (n, record { at = old.at + size; bytes = rest })
number_there size n old rest small e =
    let encoded : Unread = record { at = old.at; bytes = little_endian size n ++ rest } in
    let same : old ≡ encoded = ap (λ (bytes : List ℕ). record { at = old.at; bytes = bytes }) e in
    ap (number_at size) same ∙ number_at-encoded size old.at n rest small

pub number_only : (size n read : ℕ) (old new : Unread) (rest : List ℕ) → number_at size old ≡ Ok (read, new) → n < 256 ^ size
    → old.bytes ≡ little_endian size n ++ rest → read ≡ n
number_only size n read old new rest e small encoded =
    let there = number_there size n old rest small encoded in
    let pair : ◌≡◌ {A = ℕ × Unread} (read, new) (n, record { at = old.at + size; bytes = rest }) = ok_injective {A = ℕ × Unread} {E = CutFault} _ _ (sym e ∙ there) in
    ap (λ (p : ℕ × Unread). p.0) pair

pub number_not_refused : (size n : ℕ) (old : Unread) (fault : CutFault) (rest : List ℕ) → number_at size old ≡ Err fault → n < 256 ^ size
    → old.bytes ≡ little_endian size n ++ rest → ⊥
number_not_refused size n old fault rest e small encoded =
    let there = number_there size n old rest small encoded in cc

-- ---- what a read of bytes answers

pub gives_only : {X : Type 0} → (view : X → List ℕ) (old new next : Unread) (r : Result X CutFault) (reading : Result (List ℕ × Unread) CutFault) (xs : List ℕ)
    → Gives view r old new reading → reading ≡ Ok (xs, next) → IsOkAnd r (λ x. view x ≡ xs)
gives_only view old new next (Ok x) reading xs g e =
    let pair : ◌≡◌ {A = List ℕ × Unread} (view x, new) (xs, next) = ok_injective {A = List ℕ × Unread} {E = CutFault} _ _ (sym g ∙ e) in
    ap (λ (p : List ℕ × Unread). p.0) pair
gives_only view old new next (Err fault) reading xs g e =
    let refused = g.0 in cc

-- without a length
pub plain_encoded : {X : Type 0} → (view : X → List ℕ) (width count : ℕ) (old new : Unread) (r : Result X CutFault) → width ≡ 0
    → Gives view r old new (bytes_at count old) → IfOk r (λ x. old.bytes ≡ field_encoding width (view x) ++ new.bytes)
plain_encoded view width count old new (Ok x) none g =
    subst (λ (w : ℕ). old.bytes ≡ field_encoding w (view x) ++ new.bytes) (sym none) (bytes_at-encoded count old new (view x) g)
plain_encoded view width count old new (Err fault) none g = tt

pub plain_only : {X : Type 0} → (view : X → List ℕ) (width limit : ℕ) (old new : Unread) (r : Result X CutFault) → width ≡ 0
    → Gives view r old new (bytes_at limit old) → (xs rest : List ℕ) → FitsField width limit xs → old.bytes ≡ field_encoding width xs ++ rest → IsOkAnd r (λ x. view x ≡ xs)
plain_only view width limit old new r none g xs rest fits e =
    let plain : old.bytes ≡ xs ++ rest = subst (λ (w : ℕ). old.bytes ≡ field_encoding w xs ++ rest) none e in
    let next : Unread = record { at = old.at + length xs; bytes = rest } in
    let there : bytes_at (length xs) old ≡ Ok (xs, next) =
    ap (λ (bytes : List ℕ). bytes_at (length xs) (record { at = old.at; bytes = bytes })) plain ∙ bytes_at-append old.at xs rest in
    gives_only view old new next r (bytes_at limit old) xs g (subst (λ (k : ℕ). bytes_at k old ≡ Ok (xs, next)) (fits.counted none) there)

-- after a length
string_there : (size limit : ℕ) (old : Unread) (xs rest : List ℕ) → length xs ≤ limit → length xs < 256 ^ size
    → old.bytes ≡ little_endian size (length xs) ++ (xs ++ rest) → string_at size limit old ≡ Ok (xs, record { at = old.at + size + length xs; bytes = rest })
string_there size limit old xs rest within small e =
    ap (λ (bytes : List ℕ). string_at size limit (record { at = old.at; bytes = bytes })) e ∙ string_at-encoded size limit old.at xs rest within small

pub string_only : {X : Type 0} → (view : X → List ℕ) (width limit : ℕ) (old new : Unread) (r : Result X CutFault) → width ≢ 0
    → Gives view r old new (string_at (width / 8) limit old) → (xs rest : List ℕ) → FitsField width limit xs → old.bytes ≡ field_encoding width xs ++ rest → IsOkAnd r (λ x. view x ≡ xs)
string_only view width limit old new r some g xs rest fits e =
    let within = fits.within some in
    let counted : (width == 0) ≡ false = grind (arith, nat_tests) in
    let encoded : old.bytes ≡ (little_endian (width / 8) (length xs) ++ xs) ++ rest =
    subst (λ (b : Bool). old.bytes ≡ cond b xs (little_endian (width / 8) (length xs) ++ xs) ++ rest) counted e in
    gives_only view old new _ r (string_at (width / 8) limit old) xs g
    (string_there (width / 8) limit old xs rest within.0 within.1 (encoded ∙ append_assoc (little_endian (width / 8) (length xs)) xs rest))

pub text_only : {X : Type 0} → (view : X → List ℕ) (limit : ℕ) (old new : Unread) (r : Result X CutFault)
    → Gives view r old new (text_at limit old) → (xs rest : List ℕ) → FitsText limit xs → old.bytes ≡ little_endian 1 (length xs) ++ (xs ++ rest) → IsOkAnd r (λ x. view x ≡ xs)
text_only view limit old new r g xs rest fits e =
    gives_only view old new _ r (text_at limit old) xs g
    (ap (λ (bytes : List ℕ). text_at limit (record { at = old.at; bytes = bytes })) e ∙ text_at-encoded limit old.at xs rest fits.within fits.small fits.visible)

-- A tag.
pub tag_read : (at tag : ℕ) (rest : List ℕ) → number_at 1 (record { at = at; bytes = tag ∷ rest }) ≡ Ok (tag, record { at = at + 1; bytes = rest })
unfolding number_at bytes_at
tag_read at tag rest =
    let enough : nat_lt (suc (length rest)) 1 ≡ false = grind (arith, nat_tests) in
    rw (enough, add-zero tag) refl
