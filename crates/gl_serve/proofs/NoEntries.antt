-- The book whose ledger takes no entry: what is read of a ledger under it.
use Rattle.std.proofs.Common.{◌≡◌, ℕ, zero, suc, List, [], ◌∷◌, ◌++◌, length, take, max, Bool, true, false, ◌==◌, nat_lt, arith, None, Option, option_map, Result, Ok, Err, refl, sym, ap, subst, ◌∙◌, if◌then◌else◌}
use Rattle.std.proofs.lemmas.Bool.{eqb-true}
use Rattle.std.specs.Option.{option_to_list}
use Rattle.gl_entry.specs.declared.entry.Entry.{Entry}
use Rattle.gl_rules.specs.Identity.{NodeId}
use Rattle.gl_base.specs.Status.{status_of}
use Rattle.gl_base.specs.Steps.{◌>>=◌}
use Rattle.gl_base.specs.declared.tx_id.Status.{Status}
use Rattle.gl_base.specs.declared.tx_id.Status.TheVariants as statuses
use Rattle.gl_base.specs.declared.tx_id.TxId.{TxId}
use Rattle.gl_rules.specs.Log.{greatest_recorded, last_signature, last_signature_position}
use Rattle.gl_rules.specs.Replication.{checked_append}
use Rattle.gl_rules.specs.Configuration.{active, configuration_at, configurations_above}
use Rattle.gl_config.specs.Active.{active_of, last_of, sets_of}
use Rattle.gl_ledger.specs.LedgerBook.{ServiceBook}
use Rattle.gl_ledger.specs.declared.response.Rejection.TheVariants.{NoEntry}
use Rattle.gl_answers.specs.Receipts.{receipts_of}
use Rattle.gl_election.specs.Bridge.{tx_id}
use Rattle.gl_receipt.specs.Made.{Ledger, at_seqno, commit_id, above_base, committed_entry, entry_at, if_committed, later_signature, receipt_by, receipt_of, status_in}
use Rattle.gl_receipt.specs.declared.make_fault.MakeFault.{MakeFault}
use Rattle.gl_receipt.specs.declared.make_fault.MakeFault.TheVariants.{NotCommitted}
use Rattle.gl_replication.specs.Holding.{Holding, with_log}
use Rattle.gl_serve.specs.NoEntries.{empty_book, empty_holding}

-- a ledger without an entry
abbrev no_entries : List Entry
no_entries = []

pub whole : (me : NodeId) {b : ServiceBook} {h : Holding Entry} (P : ServiceBook → Holding Entry → Type 0) → (b ≡ empty_book) × (h ≡ empty_holding me) → P empty_book (empty_holding me) → P b h
whole me {b} {h} P w p = subst (λ (c : ServiceBook). P c h) (sym w.0) (subst (P empty_book) (sym w.1) p)

none_at : (l : List Entry) (k : ℕ) → configuration_at empty_book l k ≡ None
unfolding configuration_at
none_at l zero = refl
none_at l (suc k) = none_at l k

pub none_above : (l : List Entry) (c k : ℕ) → configurations_above empty_book l c k ≡ []
unfolding configurations_above
none_above l c zero = refl
none_above l c (suc k) = ap (λ m. if nat_lt c (suc k) then m ++ [] else []) (none_above l c k) ∙ go (nat_lt c (suc k))
  where
    go : (t : Bool) → ◌≡◌ {A = List (List NodeId)} (if t then [] else []) []
    go true = refl
    go false = refl

pub none_active : (l : List Entry) (c : ℕ) → active empty_book l c ≡ []
none_active l c = ap (λ m. option_to_list m ++ configurations_above empty_book l c (length l)) (none_at l c) ∙ none_above l c (length l)

pub none_of : (commit : ℕ) → sets_of (active_of [] commit) ≡ []
unfolding active_of last_of
none_of commit = refl

pub nothing_recorded : max 0 (greatest_recorded empty_book []) ≡ 0
unfolding greatest_recorded
nothing_recorded = refl

none_taken : (n : ℕ) → take n no_entries ≡ []
none_taken zero = refl
none_taken (suc n) = refl

never_signed : last_signature empty_book [] ≡ 0
unfolding last_signature
never_signed = refl

pub no_signature : (seqno : ℕ) → last_signature empty_book (take seqno []) ≡ 0
no_signature seqno = ap (last_signature empty_book) (none_taken seqno) ∙ never_signed

pub no_position : record { view = 0; seqno = 0 } ≡ tx_id (last_signature_position empty_book [])
unfolding last_signature
no_position = refl

-- no entries are appended, and any entry is refused
appended_none : checked_append empty_book 0 [] [] ≡ Ok []
unfolding checked_append
appended_none = refl

pub replaced : (me : NodeId) {b : ServiceBook} {h : Holding Entry} (seqno : ℕ) (es : List Entry) → (length es == 0) ≡ true → (b ≡ empty_book) × (h ≡ empty_holding me) →
    (log : List Entry) × (checked_append b h.base (take seqno h.log) es ≡ Ok log) × ((b ≡ empty_book) × (with_log h log ≡ empty_holding me))
replaced me seqno [] none w =
    whole me (λ b h. (log : List Entry) × (checked_append b h.base (take seqno h.log) [] ≡ Ok log) × ((b ≡ empty_book) × (with_log h log ≡ empty_holding me))) w
    ([], ap (λ (l : List Entry). checked_append empty_book 0 l []) (none_taken seqno) ∙ appended_none, (refl, refl))
replaced me seqno (e ∷ es) none w = absurd (omega (arith, eqb-true (length (e ∷ es)) 0 none))

refused_first : (log : List Entry) (e : Entry) (es : List Entry) → checked_append empty_book 0 log (e ∷ es) ≡ Err NoEntry
unfolding checked_append
refused_first log e es = refl

pub refused : (me : NodeId) {b : ServiceBook} {h : Holding Entry} (seqno : ℕ) (es : List Entry) → (length es == 0) ≡ false → (b ≡ empty_book) × (h ≡ empty_holding me) → checked_append b h.base (take seqno h.log) es ≡ Err NoEntry
refused me seqno [] some w = absurd (cc some)
refused me seqno (e ∷ es) some w = whole me (λ b h. checked_append b h.base (take seqno h.log) (e ∷ es) ≡ Err NoEntry) w (refused_first (take seqno []) e es)

-- no receipt is given
none_there : (seqno : ℕ) → at_seqno no_entries seqno ≡ None
none_there zero = refl
none_there (suc index) = refl

none_committed : (s : Status) → if_committed s None ≡ Err (NotCommitted s)
none_committed statuses.Unknown = refl
none_committed statuses.Pending = refl
none_committed statuses.Committed = refl
none_committed statuses.Invalid = refl

module _ (commit : ℕ) (id : TxId) where
  abbrev ledger : Ledger
  ledger = receipts_of 0 [] commit

  status_there : status_in ledger id ≡ status_of id None None
  status_there =
      ap (λ (o : Option Entry). status_of id (option_map (λ e. e.view) o) (commit_id ledger)) (none_there id.seqno)
      ∙ ap (λ (o : Option Entry). status_of id None (option_map (λ view. record { view = view; seqno = commit }) (option_map (λ e. e.view) o))) (none_there commit)

  nothing_committed : committed_entry ledger id ≡ Err (NotCommitted (status_of id None None))
  nothing_committed =
      ap (λ (s : Status). if_committed s (entry_at [] id.seqno)) status_there
      ∙ ap (λ (o : Option Entry). if_committed (status_of id None None) o) (none_there id.seqno)
      ∙ none_committed (status_of id None None)

  pub no_receipt : receipt_of ledger id ≡ Err (NotCommitted (status_of id None None))
  unfolding receipt_of
  no_receipt = ap (λ (r : Result Entry MakeFault). r >>= λ e. above_base ledger id.seqno >>= λ above. later_signature ledger id.seqno >>= λ signature. Ok (receipt_by ledger id e signature)) nothing_committed
