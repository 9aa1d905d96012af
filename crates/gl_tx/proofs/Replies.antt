-- What an answer is encoded as reads back, and what reads is encoded so.
use Rattle.std.proofs.Common.{◌≡◌, ℕ, ◌+◌, true, cond, ◌==◌, List, [], ◌∷◌, ◌++◌, Result, Ok, refl, sym, ap, subst, ◌∙◌, inl, inr}
use Rattle.std.proofs.lemmas.Bool.{eqb-true}
use Rattle.gl_base.specs.Cut.{Unread, number_at}
use Rattle.gl_base.specs.Code.{field}
use Rattle.gl_base.specs.declared.fault.CodeFault.{CodeFault}
use Rattle.gl_base.proofs.Steps.{bind_ok, ok_injective}
use Rattle.gl_base.specs.Row.{value_bytes, value_at}
use Rattle.gl_vmaps.specs.Name.{value_limit}
use Rattle.gl_base.specs.LittleEndian.{little_endian}
use Rattle.gl_base.proofs.RowLaws.{field_ok, flag-took}
use Rattle.gl_base.proofs.ByteLists.{AreBytes}
use Rattle.gl_tx.specs.Request.{is_answer, answer_bytes}
use Rattle.gl_tx.specs.Parsing.{value_answer_at, number_answer_at, answer_after, answer_at, answers_at}
use Rattle.gl_tx.specs.declared.request.Answer.{Answer}
use Rattle.gl_tx.specs.declared.request.Answer.TheVariants as answers
use Rattle.gl_base.proofs.ParsedBytes.{IsEncoded, IsRead, bytes_left, chosen}
use Rattle.gl_base.proofs.Repeated.{Repeats}
use Rattle.gl_tx.proofs.Fields.{u64-encoded, u64-read, value-encoded, value-read}
use Rattle.gl_base.proofs.Fields.{tag_read}

pub answers_repeat : Repeats answer_at answers_at
unfolding answers_at
answers_repeat = record { none = λ unread. refl; more = λ n unread. refl }

-- What is read after a tag is encoded with the tag before it.
abbrev IsAfter : ℕ → (Unread → Result (Answer × Unread) CodeFault) → Type 0
IsAfter tag reading = (old new : Unread) (answer : Answer) → AreBytes old.bytes → reading old ≡ Ok (answer, new)
    → (tag ∷ old.bytes ≡ answer_bytes answer ++ new.bytes) × (is_answer answer ≡ true)

-- An answer that is its tag alone.
alone : (tag : ℕ) (made : Answer) → answer_bytes made ≡ tag ∷ [] → is_answer made ≡ true → IsAfter tag (λ unread. Ok (made, unread))
alone tag made bytes is old new answer all e =
    let same : ◌≡◌ {A = Answer × Unread} (made, old) (answer, new) = ok_injective {A = Answer × Unread} {E = CodeFault} (made, old) (answer, new) e in
    let parts : tag ∷ old.bytes ≡ answer_bytes made ++ old.bytes = rw bytes refl in
    subst (λ (y : Answer × Unread). (tag ∷ old.bytes ≡ answer_bytes y.0 ++ y.1.bytes) × (is_answer y.0 ≡ true)) {x = (made, old)} same (parts, is)

abbrev made_of_value : List ℕ × Unread → Result (Answer × Unread) CodeFault
made_of_value value = Ok (answers.Value value.0, value.1)

value_after : IsAfter 2 value_answer_at
value_after old new answer all e =
    let value = bind_ok {A = List ℕ × Unread} {B = Answer × Unread} {E = CodeFault} (value_at value_limit old) made_of_value (answer, new) e in
    let encoded = value-encoded old value.0.1 value.0.0 all value.1 in
    let same : ◌≡◌ {A = Answer × Unread} (answers.Value value.0.0, value.0.1) (answer, new) = ok_injective {A = Answer × Unread} {E = CodeFault} (answers.Value value.0.0, value.0.1) (answer, new) value.2 in
    subst (λ (y : Answer × Unread). (2 ∷ old.bytes ≡ answer_bytes y.0 ++ y.1.bytes) × (is_answer y.0 ≡ true)) {x = (answers.Value value.0.0, value.0.1)} same
    (ap (λ (ys : List ℕ). 2 ∷ ys) encoded.parts, encoded.limits)

abbrev made_of_number : ℕ × Unread → Result (Answer × Unread) CodeFault
made_of_number number = Ok (answers.Number number.0, number.1)

number_after : IsAfter 5 number_answer_at
number_after old new answer all e =
    let number = bind_ok {A = ℕ × Unread} {B = Answer × Unread} {E = CodeFault} (field (number_at 8 old)) made_of_number (answer, new) e in
    let encoded = u64-encoded old number.0.1 number.0.0 all number.1 in
    let same : ◌≡◌ {A = Answer × Unread} (answers.Number number.0.0, number.0.1) (answer, new) = ok_injective {A = Answer × Unread} {E = CodeFault} (answers.Number number.0.0, number.0.1) (answer, new) number.2 in
    subst (λ (y : Answer × Unread). (5 ∷ old.bytes ≡ answer_bytes y.0 ++ y.1.bytes) × (is_answer y.0 ≡ true)) {x = (answers.Number number.0.0, number.0.1)} same
    (ap (λ (ys : List ℕ). 5 ∷ ys) encoded.parts, encoded.limits)

-- One more tag.
or_tag : (tag k : ℕ) (there others : Unread → Result (Answer × Unread) CodeFault) → IsAfter k there → IsAfter tag others
    → IsAfter tag (λ unread. cond (tag == k) (there unread) (others unread))
or_tag tag k there others is others_are old new answer all e =
    elim (chosen {A = Result (Answer × Unread) CodeFault} (tag == k) (there old) (others old) (Ok (answer, new)) e) [
      | inl it ↦ subst (λ (t : ℕ). (t ∷ old.bytes ≡ answer_bytes answer ++ new.bytes) × (is_answer answer ≡ true)) (sym (eqb-true tag k it.0)) (is old new answer all it.1)
      | inr other ↦ others_are old new answer all other.1
    ]

after_tag : (place tag : ℕ) → IsAfter tag (λ unread. answer_after place (tag, unread))
after_tag place tag =
    or_tag tag 0 _ _ (alone 0 answers.Done refl refl) (or_tag tag 1 _ _ (alone 1 answers.None refl refl) (or_tag tag 2 _ _ value_after
    (or_tag tag 3 _ _ (alone 3 answers.No refl refl) (or_tag tag 4 _ _ (alone 4 answers.Yes refl refl) (or_tag tag 5 _ _ number_after
    (λ old new answer all e. cc))))))

pub answer-encoded : IsEncoded answer_at answer_bytes is_answer
unfolding answer_at
answer-encoded old new answer all e =
    let tag = bind_ok {A = ℕ × Unread} {B = Answer × Unread} {E = CodeFault} (field (number_at 1 old)) (answer_after old.at) (answer, new) e in
    let flag = flag-took tag.0.0 old tag.0.1 all (field_ok (number_at 1 old) tag.0 tag.1) in
    let after = after_tag old.at tag.0.0 tag.0.1 new answer flag.rest tag.2 in
    let parts : old.bytes ≡ answer_bytes answer ++ new.bytes = flag.bytes ∙ after.0 in
    record { parts = parts; left = bytes_left old.bytes (answer_bytes answer) new.bytes all parts; limits = after.1 }

pub answer-read : IsRead answer_at answer_bytes is_answer
unfolding answer_at
answer-read at answers.Done rest is = record { place = at + 1; read = rw (tag_read at 0 rest) refl }
answer-read at answers.None rest is = record { place = at + 1; read = rw (tag_read at 1 rest) refl }
answer-read at (answers.Value value) rest is =
    let all = value-read (at + 1) value rest is in
    record { place = all.place; read = rw (tag_read at 2 (value_bytes value ++ rest), all.read) refl }
answer-read at answers.No rest is = record { place = at + 1; read = rw (tag_read at 3 rest) refl }
answer-read at answers.Yes rest is = record { place = at + 1; read = rw (tag_read at 4 rest) refl }
answer-read at (answers.Number number) rest is =
    let all = u64-read (at + 1) number rest is in
    record { place = all.place; read = rw (tag_read at 5 (little_endian 8 number ++ rest), all.read) refl }
