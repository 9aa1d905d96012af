-- With what a service begins, as its opening ledger is read entry by entry.
use Rattle.std.proofs.Common.{◌≡◌, ℕ, zero, suc, ◌+◌, ◌-◌, ◌<◌, ◌≤◌, List, [], ◌∷◌, ◌++◌, length, take, drop, slice_get, Option, None, Some, Result, Ok, Err, Bool, true, refl, sym, ap, subst, ◌∙◌, ⊎_elim, arith}
use Rattle.std.specs.List.{flat_map}
use Rattle.std.proofs.lemmas.Bool.{and_from, cases_lt}
use Rattle.std.proofs.lemmas.List.{append-nil, append_assoc, length-append}
use Rattle.std.proofs.lemmas.Grind.{flat_map-append}
use Rattle.std.proofs.Math.Seq.{drop-append_seam}
use Rattle.gl_base.specs.Answers.{Fails}
use Rattle.gl_base.specs.declared.or_no_memory.OrNoMemory.{OrNoMemory}
use Rattle.gl_base.specs.declared.or_no_memory.OrNoMemory.TheVariants.{NoMemory, Fault}
use Rattle.gl_rules.specs.Identity.{NodeId}
use Rattle.gl_rules.specs.World.{Start}
use Rattle.gl_entry.specs.Entry.{frame_bytes, frame_size, is_entry}
use Rattle.gl_entry.specs.Parsing.{first_entry}
use Rattle.gl_entry.specs.declared.entry.Entry.{Entry}
use Rattle.gl_entry.specs.declared.fault.EntryFault.{EntryFault}
use Rattle.gl_entry.proofs.EntryLaws.{length-frame_bytes}
use Rattle.gl_entry.proofs.NextEntries.{next_failed}
use Rattle.gl_ledger.specs.Audit.{LedgerFault, IsFaultOf, audited, signer_of, opened_where, opened_unless, opened}
use Rattle.gl_ledger.specs.Past.{is_unopened}
use Rattle.gl_ledger.specs.Broken.{broken}
use Rattle.gl_ledger.specs.NodeKeys.{service_layers}
use Rattle.gl_ledger.specs.Recordings.{last_entry, trusted_nodes}
use Rattle.gl_ledger.specs.declared.breach.Broken.{Broken}
use Rattle.gl_ledger.proofs.Auditing.{audited_none, audited_some}
use Rattle.gl_entry.specs.LedgerFile.{LedgerFile, ledger_file, with_entry, with_entries}
use Rattle.gl_entry.proofs.FileLaws.{file_end, file_unread, file_frames}
use Rattle.gl_audit.specs.Kept.{Breaks}
use Rattle.gl_ledger.proofs.Valid.{valid_sound}
use Rattle.gl_store_book.proofs.FrameLaws.{AllFit}
use Rattle.gl_store_book.specs.ServiceStart.{TakesFrame, service_start, start_by, fault_or_next, start_unless, start_of_file, start_in, start_after}

-- ---- lists

prefix : (xs ys : List Entry) → take (length xs) (xs ++ ys) ≡ xs
prefix [] ys = refl
prefix (x ∷ xs) ys = ap (λ (l : List Entry). x ∷ l) (prefix xs ys)

there : (xs ys : List Entry) (y : Entry) → slice_get (xs ++ y ∷ ys) (length xs) ≡ Some y
there [] ys y = refl
there (x ∷ xs) ys y = there xs ys y

-- the entries before the last
pub before_last : (ledger new : List Entry) (e : Entry) → new ≡ ledger ++ e ∷ [] → take (length new - 1) new ≡ ledger
before_last ledger new e is =
    let long : length new - 1 ≡ length ledger = omega (arith, ap length is, length-append ledger (e ∷ [])) in
    ap (λ (n : ℕ). take n new) long ∙ ap (take (length ledger)) is ∙ prefix ledger (e ∷ [])

-- ---- the first entry that breaks a rule

within_prefix : (xs ys : List Entry) (i : ℕ) → i < length xs → (slice_get (xs ++ ys) i ≡ slice_get xs i) × (take i (xs ++ ys) ≡ take i xs)
within_prefix [] ys i low = absurd (omega (arith, low))
within_prefix (x ∷ xs) ys zero low = (refl, refl)
within_prefix (x ∷ xs) ys (suc i) low =
    let w = within_prefix xs ys i (omega (arith, low)) in
    (w.0, ap (λ (l : List Entry). x ∷ l) w.1)

first_fault : (taken es : List Entry) (e : Entry) (b : Broken) → audited service_layers taken ≡ None → broken service_layers taken e ≡ Some b
    → (fault : LedgerFault) × (audited service_layers (taken ++ e ∷ es) ≡ Some fault) × (fault.seqno ≡ length taken + 1)
first_fault taken es e b valid breaks = go (audited service_layers (taken ++ e ∷ es)) refl
  where
    here : broken service_layers (take (length taken) (taken ++ e ∷ es)) e ≡ Some b
    here = ap (λ (l : List Entry). broken service_layers l e) (prefix taken (e ∷ es)) ∙ breaks

    low : (fault : LedgerFault) (f : IsFaultOf service_layers (taken ++ e ∷ es) fault) → length taken ≤ f.before
    low fault f = ⊎_elim
        (λ (u : f.before < length taken).
        let w = within_prefix taken (e ∷ es) f.before u in
        let none = audited_none service_layers taken valid f.before f.entry (sym w.0 ∙ f.at) in
        let some : broken service_layers (take f.before taken) f.entry ≡ Some fault.broken = ap (λ (l : List Entry). broken service_layers l f.entry) (sym w.1) ∙ f.breaks in
        absurd (let k = sym none ∙ some in cc))
        (λ (u : length taken ≤ f.before). u)
        (cases_lt f.before (length taken))

    high : (fault : LedgerFault) (f : IsFaultOf service_layers (taken ++ e ∷ es) fault) → f.before ≤ length taken
    high fault f = ⊎_elim
        (λ (u : length taken < f.before). absurd (let k = sym (f.follow (length taken) e u (there taken es e)) ∙ here in cc))
        (λ (u : f.before ≤ length taken). u)
        (cases_lt (length taken) f.before)

    go : (o : Option LedgerFault) → audited service_layers (taken ++ e ∷ es) ≡ o
        → (fault : LedgerFault) × (audited service_layers (taken ++ e ∷ es) ≡ Some fault) × (fault.seqno ≡ length taken + 1)
    go None is = absurd (let k = sym (audited_none service_layers (taken ++ e ∷ es) is (length taken) e (there taken es e)) ∙ here in cc)
    go (Some fault) is =
        let f = audited_some service_layers (taken ++ e ∷ es) fault is in
        (fault, is, omega (arith, f.seqno, low fault f, high fault f))

-- no service begins with a ledger of which an entry breaks a rule
not_by : (read : Option EntryFault) (ledger : List Entry) (fault : LedgerFault) → audited service_layers ledger ≡ Some fault → start_unless read ledger ≡ Err fault.seqno
unfolding opened
not_by None ledger fault is = ap (λ (o : Option LedgerFault). start_by ledger (opened_unless service_layers o ledger)) is
not_by (Some unread) ledger fault is = ap (λ (o : Option LedgerFault). Err (fault_or_next ledger o)) is

-- ---- the bytes

pub starts_whole : (bytes : List ℕ) → start_in bytes ≡ start_after [] bytes
unfolding start_in start_after
starts_whole bytes = refl

file_frame : (e : Entry) (rest : List ℕ) → is_entry e ≡ true → ledger_file (frame_bytes e ++ rest) ≡ with_entry e (ledger_file rest)
file_frame e rest is =
    ap (λ (xs : List ℕ). ledger_file (xs ++ rest)) (sym (append-nil (frame_bytes e))) ∙ file_frames (e ∷ []) rest (and_from (is_entry e) true is refl)

-- an entry whose frame stands first
pub start_step : (taken : List Entry) (e : Entry) (bytes rest : List ℕ) → is_entry e ≡ true → bytes ≡ frame_bytes e ++ rest → start_after taken bytes ≡ start_after (taken ++ e ∷ []) rest
unfolding start_after
start_step taken e bytes rest fits is =
    ap (λ (f : LedgerFile). start_of_file (with_entries taken f)) (ap ledger_file is ∙ file_frame e rest fits)
    ∙ ap (λ (l : List Entry). start_unless (ledger_file rest).fault l) (sym (append_assoc taken (e ∷ []) (ledger_file rest).entries))

-- bytes that are no frame
pub start_unread : (taken : List Entry) (bytes : List ℕ) (fault : EntryFault) → audited service_layers taken ≡ None → 0 < length bytes → first_entry bytes ≡ Err fault
    → start_after taken bytes ≡ Err (length taken + 1)
unfolding start_after
start_unread taken bytes fault valid some is =
    ap (λ (f : LedgerFile). start_of_file (with_entries taken f)) (file_unread bytes fault (next_failed bytes fault (omega arith) is))
    ∙ ap (λ (l : List Entry). start_unless (Some fault) l) (append-nil taken)
    ∙ ap (λ (o : Option LedgerFault). Err (fault_or_next taken o)) valid

-- an entry that breaks a rule
pub start_broken : (taken : List Entry) (e : Entry) (b : Broken) (bytes rest : List ℕ) → audited service_layers taken ≡ None → is_entry e ≡ true → bytes ≡ frame_bytes e ++ rest
    → broken service_layers taken e ≡ Some b → start_after taken bytes ≡ Err (length taken + 1)
unfolding start_after
start_broken taken e b bytes rest valid fits is breaks =
    let first = first_fault taken (ledger_file rest).entries e b valid breaks in
    ap (λ (f : LedgerFile). start_of_file (with_entries taken f)) (ap ledger_file is ∙ file_frame e rest fits)
    ∙ not_by (ledger_file rest).fault (taken ++ e ∷ (ledger_file rest).entries) first.0 first.1 ∙ ap (λ (n : ℕ). Err n) first.2

-- no bytes are left
pub start_end : (ledger : List Entry) → audited service_layers ledger ≡ None
    → start_after ledger [] ≡ start_by ledger (opened_where (is_unopened (last_entry (take (length ledger - 1) ledger))) (signer_of (last_entry ledger)) (length ledger))
unfolding start_after opened
start_end ledger valid =
    ap (λ (f : LedgerFile). start_of_file (with_entries ledger f)) file_end
    ∙ ap (λ (l : List Entry). start_unless None l) (append-nil ledger)
    ∙ ap (λ (o : Option LedgerFault). start_by ledger (opened_unless service_layers o ledger)) valid

-- the frames so far, and one more
pub frames_grow : (taken new : List Entry) (e : Entry) (bytes rest more : List ℕ) → bytes ≡ flat_map frame_bytes taken ++ rest → rest ≡ frame_bytes e ++ more → new ≡ taken ++ e ∷ []
    → bytes ≡ flat_map frame_bytes new ++ more
frames_grow taken new e bytes rest more whole is grown =
    whole ∙ ap (λ (xs : List ℕ). flat_map frame_bytes taken ++ xs) is ∙ sym (append_assoc (flat_map frame_bytes taken) (frame_bytes e) more)
    ∙ ap (λ (xs : List ℕ). (flat_map frame_bytes taken ++ xs) ++ more) (sym (append-nil (frame_bytes e)))
    ∙ ap (λ (xs : List ℕ). xs ++ more) (sym (flat_map-append frame_bytes taken (e ∷ [])) ∙ ap (flat_map frame_bytes) (sym grown))

-- ---- what was read

pub unread_so : (taken : List Entry) (bytes : List ℕ) (e : OrNoMemory EntryFault) (fault : EntryFault) → audited service_layers taken ≡ None → 0 < length bytes → e ≡ Fault fault
    → Fails e (first_entry bytes) → start_after taken bytes ≡ Err (length taken + 1)
unread_so taken bytes NoMemory fault valid some is fails = absurd (cc)
unread_so taken bytes (Fault other) fault valid some is fails = start_unread taken bytes other valid some fails

pub broken_so : (taken : List Entry) (read : Entry) (n : ℕ) (bytes : List ℕ) (e : OrNoMemory Broken) (b : Broken) → audited service_layers taken ≡ None
    → (is_entry read ≡ true) × (n ≡ frame_size read) × (rest : List ℕ) × (bytes ≡ frame_bytes read ++ rest) → e ≡ Fault b → Breaks (broken service_layers taken read) e
    → start_after taken bytes ≡ Err (length taken + 1)
broken_so taken read n bytes NoMemory b valid found is breaks = absurd (cc)
broken_so taken read n bytes (Fault other) b valid found is breaks = start_broken taken read other bytes found.2 valid found.0 found.3 breaks

pub taken_so : (old new : List Entry) (read : Entry) (n : ℕ) (bytes : List ℕ) → (is_entry read ≡ true) × (n ≡ frame_size read) × (rest : List ℕ) × (bytes ≡ frame_bytes read ++ rest)
    → new ≡ old ++ read ∷ [] → TakesFrame old bytes n new
taken_so old new read n bytes found grown =
    let size : n ≡ length (frame_bytes read) = found.1 ∙ sym (length-frame_bytes read) in
    let after : drop n bytes ≡ found.2 = ap (λ (k : ℕ). drop k bytes) size ∙ ap (drop (length (frame_bytes read))) found.3 ∙ drop-append_seam (frame_bytes read) found.2 in
    record {
      entry = read;
      fits = found.0;
      grown = grown;
      within = omega (arith, size, ap length found.3, length-append (frame_bytes read) found.2);
      frame = found.3 ∙ ap (λ (xs : List ℕ). frame_bytes read ++ xs) (sym after);
    }

-- the ledger that all bytes are
pub start_read : (ledger : List Entry) (begun : Bool) (signer : Option NodeId) (seqno : ℕ) → audited service_layers ledger ≡ None
    → begun ≡ is_unopened (last_entry (take (length ledger - 1) ledger)) → signer ≡ signer_of (last_entry ledger) → seqno ≡ length ledger
    → start_after ledger [] ≡ start_by ledger (opened_where begun signer seqno)
start_read ledger begun signer seqno valid b s n =
    start_end ledger valid
    ∙ ap (λ (x : Bool). start_by ledger (opened_where x (signer_of (last_entry ledger)) (length ledger))) (sym b)
    ∙ ap (λ (x : Option NodeId). start_by ledger (opened_where begun x (length ledger))) (sym s)
    ∙ ap (λ (x : ℕ). start_by ledger (opened_where begun signer x)) (sym n)

-- ---- what a service begins with

opened_valid : (ledger : List Entry) (x : NodeId) → opened service_layers ledger ≡ Ok x → audited service_layers ledger ≡ None
unfolding opened
opened_valid ledger x is = go (audited service_layers ledger) is
  where
    go : (o : Option LedgerFault) → opened_unless service_layers o ledger ≡ Ok x → o ≡ None
    go None here = refl
    go (Some fault) here = absurd (cc)

-- A node signed the opening ledger, and the ledger's trusted nodes start with it.
pub record IsStart (s : Start Entry) : Type 0 where
  pub opens : opened service_layers s.opening ≡ Ok s.first
  pub starting : s.starting ≡ trusted_nodes s.opening

signed_is : (ledger : List Entry) (r : Result NodeId ℕ) (s : Start Entry) → opened service_layers ledger ≡ r → start_by ledger r ≡ Ok s → IsStart s
signed_is ledger (Ok first) s opens here =
    let same : service_start ledger first ≡ s = cc in
    let is : IsStart (service_start ledger first) = record { opens = opens; starting = refl } in
    subst IsStart same is
signed_is ledger (Err seqno) s opens here = absurd (cc)

read_is : (o : Option EntryFault) (ledger : List Entry) (s : Start Entry) → start_unless o ledger ≡ Ok s → IsStart s
read_is None ledger s here = signed_is ledger (opened service_layers ledger) s refl here
read_is (Some fault) ledger s here = absurd (cc)

pub start_is : (bytes : List ℕ) (s : Start Entry) → start_in bytes ≡ Ok s → IsStart s
unfolding start_in
start_is bytes s is = read_is (ledger_file bytes).fault (ledger_file bytes).entries s is

pub start_valid : (bytes : List ℕ) (s : Start Entry) → start_in bytes ≡ Ok s → audited service_layers s.opening ≡ None
start_valid bytes s is = opened_valid s.opening s.first (start_is bytes s is).opens

pub start_fits : (bytes : List ℕ) (s : Start Entry) → start_in bytes ≡ Ok s → AllFit s.opening
start_fits bytes s is = (valid_sound service_layers s.opening (start_valid bytes s is)).in_order.fits
