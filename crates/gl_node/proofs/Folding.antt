-- Records put after others: what they lead to, and how many bytes they have.
use Rattle.std.proofs.Common.{◌≡◌, ◌≤◌, ℕ, ◌+◌, ◌-◌, Bool, true, false, ◌||◌, ◌&&◌, ◌==◌, not, nat_lt, if◌then◌else◌, List, [], ◌∷◌, ◌++◌, length, take, Option, None, Some, refl, sym, ap, ◌∙◌, arith, length-append}
use Rattle.std.proofs.lemmas.Bool.Decides.{nat_tests}
use Rattle.std.proofs.lemmas.List.{take_all}
use Rattle.gl_base.specs.LittleEndian.{little_endian}
use Rattle.gl_base.proofs.LittleEndianLaws.{length-little_endian}
use Rattle.gl_rules.specs.Identity.{NodeId}
use Rattle.gl_rules.proofs.Ids.{same_is}
use Rattle.gl_journal.specs.Records.{RecordValue, Vote, Cut, Append, Signer, then_some, record_body, record_bytes, records_bytes}
use Rattle.gl_journal.specs.RecordView.{record_value, record_values}
use Rattle.gl_journal.specs.Durable.{Durable, LogRules, fold_record, fold_records, leaf_count}
use Rattle.gl_journal.specs.declared.record.Record.{Record}
use Rattle.gl_node.specs.Batches.{Folds, records_size}
use Rattle.gl_node.specs.Kept.{is_same_vote, with_vote}

values_push : (records : List Record) (one : Record) → record_values (records ++ one ∷ []) ≡ record_values records ++ record_value one ∷ []
values_push [] one = refl
values_push (first ∷ records) one = ap (λ (l : List RecordValue). record_value first ∷ l) (values_push records one)

bytes_push : (recs : List RecordValue) (rec : RecordValue) → length (records_bytes (recs ++ rec ∷ [])) ≡ length (records_bytes recs) + length (record_bytes rec)
bytes_push [] rec = omega (arith, length-append (record_bytes rec) [])
bytes_push (first ∷ recs) rec = omega (arith, bytes_push recs rec, length-append (record_bytes first) (records_bytes (recs ++ rec ∷ [])), length-append (record_bytes first) (records_bytes recs))

bytes_of : (rec : RecordValue) → length (record_bytes rec) ≡ 5 + length (record_body rec)
bytes_of rec = omega (arith, length-append (little_endian 4 (length (record_body rec))) (record_body rec), length-little_endian 4 (length (record_body rec)))

-- one record more
pub size_push : (records new : List Record) (one : Record) → new ≡ records ++ one ∷ [] → records_size new ≡ records_size records + (5 + length (record_body (record_value one)))
size_push records new one is =
    let all = ap records_size is ∙ ap (λ (l : List RecordValue). length (records_bytes l)) (values_push records one) in
    omega (arith, all, bytes_push (record_values records) (record_value one), bytes_of (record_value one))

module _ (goes_on : LogRules) where
  fold_push : (recs : List RecordValue) (rec : RecordValue) (d m next : Durable) → fold_records goes_on d recs ≡ Some m → fold_record goes_on m rec ≡ Some next → fold_records goes_on d (recs ++ rec ∷ []) ≡ Some next
  fold_push [] rec d m next so_far one =
      let here : d ≡ m = cc in
      ap (λ (s : Durable). then_some (fold_record goes_on s rec) (λ n. Some n)) here ∙ ap (λ (o : Option Durable). then_some o (λ n. Some n)) one
  fold_push (first ∷ recs) rec d m next so_far one = go (λ n is. fold_push recs rec n m next is one) (fold_record goes_on d first) so_far
    where
      go : ((n : Durable) → fold_records goes_on n recs ≡ Some m → fold_records goes_on n (recs ++ rec ∷ []) ≡ Some next) → (o : Option Durable) →
          then_some o (λ n. fold_records goes_on n recs) ≡ Some m → then_some o (λ n. fold_records goes_on n (recs ++ rec ∷ [])) ≡ Some next
      go again None is = absurd (cc)
      go again (Some n) is = again n is

  pub folds_push : (records new : List Record) (one : Record) (d m next : Durable) → new ≡ records ++ one ∷ [] → Folds goes_on records d m → fold_record goes_on m (record_value one) ≡ Some next → Folds goes_on new d next
  folds_push records new one d m next is so_far step =
      ap (λ (l : List Record). fold_records goes_on d (record_values l)) is
      ∙ ap (fold_records goes_on d) (values_push records one)
      ∙ fold_push (record_values records) (record_value one) d m next so_far step

  -- ---- a record that folds

  not_less : (c r : ℕ) → r ≤ c → nat_lt c r ≡ false
  not_less c r h = grind (arith, nat_tests)

  neither : (a b : Bool) → a ≡ false → b ≡ false → (a || b) ≡ false
  neither a b na nb = ap (λ (x : Bool). x || b) na ∙ nb

  pub cut_folds : (m : Durable) (kept : ℕ) → m.base ≤ kept → kept ≤ m.base + length m.log → fold_record goes_on m (Cut kept) ≡ Some (record m { log = take (kept - m.base) m.log })
  cut_folds m kept above within =
      let low : nat_lt kept m.base ≡ false = grind (arith, nat_tests) in
      let high : nat_lt (m.base + length m.log) kept ≡ false = not_less (m.base + length m.log) kept within in
      ap (λ (t : Bool). if t then None else Some (record m { log = take (kept - m.base) m.log })) (neither (nat_lt kept m.base) (nat_lt (m.base + length m.log) kept) low high)

  pub whole_folds : (m : Durable) (kept : ℕ) → length m.log ≤ kept → record m { log = take kept m.log } ≡ m
  whole_folds m kept all = ap (λ (l : List (List ℕ)). record m { log = l }) (take_all kept m.log all)

  pub append_folds : (m : Durable) (frame : List ℕ) → goes_on.appends m.snapshot m.log frame ≡ true → fold_record goes_on m (Append frame) ≡ Some (record m { log = m.log ++ frame ∷ [] })
  append_folds m frame goes = ap (λ (t : Bool). if t then Some (record m { log = m.log ++ frame ∷ [] }) else None) goes

  pub signer_folds : (m : Durable) (reserved : ℕ) → m.reserved ≤ reserved → reserved ≤ leaf_count m → fold_record goes_on m (Signer reserved) ≡ Some (record m { reserved = reserved })
  signer_folds m reserved low high =
      let a : nat_lt reserved m.reserved ≡ false = grind (arith, nat_tests) in
      let b : nat_lt (leaf_count m) reserved ≡ false = not_less (leaf_count m) reserved high in
      ap (λ (t : Bool). if t then None else Some (record m { reserved = reserved })) (neither (nat_lt reserved m.reserved) (nat_lt (leaf_count m) reserved) a b)

  -- where a vote is another than before
  pub vote_folds : (m : Durable) (view : ℕ) (vote : Option NodeId) → m.view ≤ view → (m.view == view && is_same_vote m.vote vote) ≡ false → fold_record goes_on m (Vote view vote) ≡ Some (with_vote view vote m)
  vote_folds m view vote rises other =
      let low : nat_lt view m.view ≡ false = grind (arith, nat_tests) in
      let has : true ≡ (m.has_vote_record || not (m.view == view && is_same_vote m.vote vote)) = sym (ap (λ (t : Bool). m.has_vote_record || not t) other ∙ or_true m.has_vote_record) in
      ap (λ (t : Bool). if t then None else Some (record m { view = view; vote = vote; has_vote_record = true })) low
      ∙ ap (λ (t : Bool). Some (record m { view = view; vote = vote; has_vote_record = t })) has
    where
      or_true : (t : Bool) → (t || not false) ≡ true
      or_true true = refl
      or_true false = refl

same_vote_is : (v w : Option NodeId) → is_same_vote v w ≡ true → v ≡ w
same_vote_is None None is = refl
same_vote_is None (Some y) is = absurd (cc)
same_vote_is (Some x) None is = absurd (cc)
same_vote_is (Some x) (Some y) is = ap Some (same_is x y is)

-- where it is the same
pub vote_stays : (m : Durable) (view : ℕ) (vote : Option NodeId) → (m.view == view && is_same_vote m.vote vote) ≡ true → with_vote view vote m ≡ m
vote_stays m view vote is =
    let same_view : m.view ≡ view = grind (arith, nat_tests) in
    let same_vote : m.vote ≡ vote = same_vote_is m.vote vote (both (m.view == view) (is_same_vote m.vote vote) is) in
    let has : (m.has_vote_record || not (m.view == view && is_same_vote m.vote vote)) ≡ m.has_vote_record = ap (λ (t : Bool). m.has_vote_record || not t) is ∙ or_false m.has_vote_record in
    ap (λ (t : Bool). record m { view = view; vote = vote; has_vote_record = t }) has
    ∙ ap (λ (v : ℕ). record m { view = v; vote = vote }) (sym same_view)
    ∙ ap (λ (v : Option NodeId). record m { vote = v }) (sym same_vote)
  where
    both : (a b : Bool) → (a && b) ≡ true → b ≡ true
    both true b h = h
    both false b h = absurd (cc)

    or_false : (t : Bool) → (t || not true) ≡ t
    or_false true = refl
    or_false false = refl
