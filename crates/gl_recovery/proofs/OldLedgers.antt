-- What was read of an old ledger, and how its file ends.
use Rattle.std.proofs.Common.{◌≡◌, ℕ, suc, ◌+◌, ◌-◌, ◌≤◌, ◌<◌, List, [], ◌∷◌, ◌++◌, length, take, Option, None, Some, Result, Ok, Err, IsErr, append_assoc, append-nil, length-append, refl, sym, ap, ◌∙◌, subst, arith}
use Rattle.std.specs.Result.{IsErrAnd}
use Rattle.std.proofs.lemmas.Bool.Decides.{nat_tests}
use Rattle.std.proofs.lemmas.List.{length-take-le}
use Rattle.gl_base.proofs.Lists.{slice_get-below}
use Rattle.gl_base.specs.Answers.{Answers}
use Rattle.gl_base.specs.TxId.{last_seqno}
use Rattle.gl_base.specs.declared.or_no_memory.OrNoMemory.{OrNoMemory}
use Rattle.gl_base.specs.declared.or_no_memory.OrNoMemory.TheVariants.{NoMemory, Fault}
use Rattle.gl_entry.specs.Stream.{to_read}
use Rattle.gl_entry.specs.declared.entry.Entry.{Entry}
use Rattle.gl_entry.specs.declared.fault.EntryFault.{EntryFault}
use Rattle.gl_ledger.specs.Audit.{LedgerFault, audited}
use Rattle.gl_ledger.specs.Broken.{broken}
use Rattle.gl_ledger.specs.NodeKeys.{service_layers}
use Rattle.gl_ledger.specs.declared.breach.Broken.{Broken}
use Rattle.gl_ledger.proofs.Auditing.{audited_none}
use Rattle.gl_ledger.proofs.Faults.{broken_after}
use Rattle.gl_ledger.proofs.Passing.{passing}
use Rattle.gl_ledger.proofs.Valid.{valid-push}
use Rattle.gl_entry.specs.SourceBytes.{OfBytes}
use Rattle.gl_entry.specs.LedgerFile.{LedgerFile, ledger_file, no_entries, with_entries}
use Rattle.gl_entry.specs.FileReading.{Consumes, IsNext}
use Rattle.gl_entry.specs.declared.next.Next.{Next}
use Rattle.gl_entry.specs.declared.next.Next.TheVariants as nexts
use Rattle.gl_entry.proofs.FileSteps.{consumes_none, consumes_then, of_all, of_consumed, of_map}
use Rattle.gl_audit.specs.Committed.{Held}
use Rattle.gl_recovery.specs.Answers.{AnswersOn, FailsOn}
use Rattle.gl_recovery.specs.OldLedger.{IsRefused, unless_broken, unless_empty, unless_unread, valid_ledger}
use Rattle.gl_recovery.specs.declared.fault.RecoveryFault.{RecoveryFault}
use Rattle.gl_recovery.specs.declared.fault.RecoveryFault.TheVariants as faults

-- ---- seqnos

-- a valid ledger has no more entries than there are seqnos
pub valid_named : (ledger : List Entry) → audited service_layers ledger ≡ None → length ledger ≤ last_seqno
valid_named [] valid = omega arith
valid_named (f ∷ es) valid =
    let n : ℕ = length es in
    let prefix : List Entry = take n (f ∷ es) in
    let at = slice_get-below (f ∷ es) n (omega arith) in
    let p = passing service_layers prefix at.0 (audited_none service_layers (f ∷ es) valid n at.0 at.1) in
    let long : length prefix ≡ n = length-take-le n (f ∷ es) (omega arith) in
    let least : length prefix + 1 ≤ last_seqno = grind (arith, nat_tests, p.named) in
    omega (arith, long, least)

-- ---- what was read

-- these entries are the prefix of the file, and none of them breaks a rule
pub record IsReadTo (left now : Option (List ℕ)) (ledger : List Entry) : Type 0 where
  pub consumed : Consumes left ledger now
  pub valid : audited service_layers ledger ≡ None

none_broken : audited service_layers [] ≡ None
unfolding audited
none_broken = refl

pub starts : (left : Option (List ℕ)) (kept : List ℕ) (store : Held) → kept ≡ [] → store ≡ record { ledger = []; commit = 0 } → IsReadTo left (to_read kept left) store.ledger
starts left kept store none empty =
    subst (λ (ledger : List Entry). IsReadTo left (to_read kept left) ledger) (sym (ap (λ (s : Held). s.ledger) empty))
    (subst (λ (now : Option (List ℕ)). IsReadTo left now []) (sym (at_first left kept none)) (record { consumed = consumes_none left; valid = none_broken }))
  where
    at_first : (left : Option (List ℕ)) (kept : List ℕ) → kept ≡ [] → to_read kept left ≡ left
    at_first None kept none = refl
    at_first (Some bytes) kept none = ap (λ (xs : List ℕ). Some (xs ++ bytes)) none

at_entry : (mid new : Option (List ℕ)) (n : Next) (e : Entry) → n ≡ nexts.Entry e → IsNext mid n new → Consumes mid (e ∷ []) new
at_entry mid new n e is reported = subst (λ (x : Next). IsNext mid x new) is reported

pub goes_on : (left mid new : Option (List ℕ)) (before after : Held) (n : Next) (e : Entry) → IsReadTo left mid before.ledger → n ≡ nexts.Entry e → IsNext mid n new →
    broken service_layers before.ledger e ≡ None → after ≡ record before { ledger = before.ledger ++ e ∷ [] } → IsReadTo left new after.ledger
goes_on left mid new before after n e read is reported unbroken grown =
    subst (IsReadTo left new) (sym (ap (λ (s : Held). s.ledger) grown)) (record {
      consumed = consumes_then left mid new before.ledger (e ∷ []) read.consumed (at_entry mid new n e is reported);
      valid = valid-push service_layers before.ledger e read.valid unbroken;
    })

-- there are no more entries than seqnos
pub smaller : (before after : Held) (e : Entry) → broken service_layers before.ledger e ≡ None → after ≡ record before { ledger = before.ledger ++ e ∷ [] } →
    last_seqno - length after.ledger < last_seqno - length before.ledger
smaller before after e unbroken grown =
    let named = (passing service_layers before.ledger e unbroken).named in
    let left : length before.ledger + 1 ≤ last_seqno = grind (arith, nat_tests) in
    let one : length after.ledger ≡ length before.ledger + 1 = ap (λ (s : Held). length s.ledger) grown ∙ length-append before.ledger (e ∷ []) in
    omega (arith, one, left)

-- ---- how the file ends

valid_with : (ledger : List Entry) (fault : Option EntryFault) → audited service_layers ledger ≡ None →
    valid_ledger (with_entries ledger (no_entries fault)) ≡ unless_unread (suc (length ledger)) fault (unless_empty ledger (Ok ledger))
unfolding valid_ledger
valid_with ledger fault valid =
    let same : ledger ++ [] ≡ ledger = append-nil ledger in
    ap (λ (es : List Entry). unless_broken (audited service_layers es) (unless_unread (suc (length es)) fault (unless_empty es (Ok es)))) same
    ∙ ap (λ (o : Option LedgerFault). unless_broken o (unless_unread (suc (length ledger)) fault (unless_empty ledger (Ok ledger)))) valid

module _ (left mid new : Option (List ℕ)) (ledger : List Entry) (read : IsReadTo left mid ledger) (n : Next) (reported : IsNext mid n new) where
  pub ends_whole : n ≡ nexts.End → OfBytes left (λ given. valid_ledger (ledger_file given) ≡ unless_empty ledger (Ok ledger))
  ends_whole is =
      of_consumed left mid ledger (λ file. valid_ledger file ≡ unless_empty ledger (Ok ledger)) read.consumed
      (of_map mid (λ rest. ledger_file rest ≡ no_entries None) (λ rest. valid_ledger (with_entries ledger (ledger_file rest)) ≡ unless_empty ledger (Ok ledger))
      (λ rest whole. ap (λ (file : LedgerFile). valid_ledger (with_entries ledger file)) whole ∙ valid_with ledger None read.valid)
      (subst (λ (x : Next). IsNext mid x new) is reported))

  pub ends_unread : n ≡ nexts.Unread → OfBytes left (λ given. valid_ledger (ledger_file given) ≡ Err (faults.Audit (suc (length ledger)) 1))
  ends_unread is =
      of_consumed left mid ledger (λ file. valid_ledger file ≡ Err (faults.Audit (suc (length ledger)) 1)) read.consumed
      (of_map mid (λ rest. (f : EntryFault) × (ledger_file rest ≡ no_entries (Some f))) (λ rest. valid_ledger (with_entries ledger (ledger_file rest)) ≡ Err (faults.Audit (suc (length ledger)) 1))
      (λ rest unread. ap (λ (file : LedgerFile). valid_ledger (with_entries ledger file)) unread.1 ∙ valid_with ledger (Some unread.0) read.valid)
      (subst (λ (x : Next). IsNext mid x new) is reported))

  broken_at : (e : Entry) (b : Broken) (rest : LedgerFile) → broken service_layers ledger e ≡ Some b →
      valid_ledger (with_entries (ledger ++ e ∷ []) rest) ≡ Err (faults.Audit (suc (length ledger)) b.rule)
  unfolding valid_ledger
  broken_at e b rest is =
      let es = (ledger ++ e ∷ []) ++ rest.entries in
      let found : audited service_layers es ≡ Some (record { seqno = suc (length ledger); broken = b }) =
      ap (audited service_layers) (append_assoc ledger (e ∷ []) rest.entries) ∙ broken_after service_layers ledger e rest.entries b read.valid is in
      ap (λ (o : Option LedgerFault). unless_broken o (unless_unread (suc (length es)) rest.fault (unless_empty es (Ok es)))) found

  pub ends_broken : (e : Entry) → n ≡ nexts.Entry e → (error : OrNoMemory RecoveryFault) → IsRefused ledger e error → FailsOn left error (λ given. valid_ledger (ledger_file given))
  ends_broken e is NoMemory refused = tt
  ends_broken e is (Fault fault) refused =
      subst (λ (f : RecoveryFault). FailsOn left (Fault f) (λ given. valid_ledger (ledger_file given))) (sym refused.2)
      (of_consumed left new (ledger ++ e ∷ []) (λ file. valid_ledger file ≡ Err (faults.Audit (suc (length ledger)) refused.0.rule))
      (consumes_then left mid new ledger (e ∷ []) read.consumed (at_entry mid new n e is reported))
      (of_all new (λ rest. valid_ledger (with_entries (ledger ++ e ∷ []) (ledger_file rest)) ≡ Err (faults.Audit (suc (length ledger)) refused.0.rule))
      (λ rest. broken_at e refused.0 (ledger_file rest) refused.1)))

-- the answer on a whole ledger
pub whole_answers : (left : Option (List ℕ)) (store : Held) (result : Result Held (OrNoMemory RecoveryFault)) →
    OfBytes left (λ given. valid_ledger (ledger_file given) ≡ unless_empty store.ledger (Ok store.ledger)) → Answers (λ s. s) result (unless_empty store.ledger (Ok store)) →
    AnswersOn left (λ s. s.ledger) result (λ given. valid_ledger (ledger_file given))
whole_answers left store (Ok reported) given answers =
    let same = whole_is store.ledger store reported answers in
    of_map left (λ bytes. valid_ledger (ledger_file bytes) ≡ unless_empty store.ledger (Ok store.ledger)) (λ bytes. valid_ledger (ledger_file bytes) ≡ Ok reported.ledger)
    (λ bytes is. is ∙ same.0 ∙ ap (λ (s : Held). Ok s.ledger) same.1) given
  where
    whole_is : (ledger : List Entry) (s reported : Held) → unless_empty ledger (Ok s) ≡ Ok reported → (unless_empty ledger (Ok ledger) ≡ Ok ledger) × (s ≡ reported)
    whole_is [] s reported is = absurd cc
    whole_is (e ∷ es) s reported is = (refl, cc)
whole_answers left store (Err NoMemory) given answers = tt
whole_answers left store (Err (Fault fault)) given answers =
    let none = empty_is store.ledger store fault answers in
    subst (λ (f : RecoveryFault). FailsOn left (Fault f) (λ given. valid_ledger (ledger_file given))) (sym none.0)
    (of_map left (λ bytes. valid_ledger (ledger_file bytes) ≡ unless_empty store.ledger (Ok store.ledger)) (λ bytes. valid_ledger (ledger_file bytes) ≡ Err (faults.Audit 1 3))
    (λ bytes is. is ∙ none.1) given)
  where
    empty_is : (ledger : List Entry) (s : Held) (fault : RecoveryFault) → unless_empty ledger (Ok s) ≡ Err fault → (fault ≡ faults.Audit 1 3) × (unless_empty ledger (Ok ledger) ≡ Err (faults.Audit 1 3))
    empty_is [] s fault is = (cc, refl)
    empty_is (e ∷ es) s fault is = absurd cc

-- what a whole ledger is reported as
pub whole_same : (store : Held) (reported : Held) → unless_empty store.ledger (Ok store) ≡ Ok reported → reported ≡ store
whole_same store reported is = go store.ledger is
  where
    go : (ledger : List Entry) → unless_empty ledger (Ok store) ≡ Ok reported → reported ≡ store
    go [] is = absurd cc
    go (e ∷ es) is = cc

-- a fault that is handed on
pub refused_as : (left : Option (List ℕ)) (result : Result Held (OrNoMemory RecoveryFault)) (error : OrNoMemory RecoveryFault) → IsErr result → IsErrAnd result (λ e. e ≡ error) → FailsOn left error (λ given. valid_ledger (ledger_file given)) →
    AnswersOn left (λ s. s.ledger) result (λ given. valid_ledger (ledger_file given))
refused_as left (Ok store) error wrong same fails = absurd (cc)
refused_as left (Err e) error wrong same fails = subst (λ (x : OrNoMemory RecoveryFault). FailsOn left x (λ given. valid_ledger (ledger_file given))) (sym same) fails
