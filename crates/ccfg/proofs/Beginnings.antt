-- How a node begins, case by case.
use Rattle.std.proofs.Common.{◌≡◌, ◌≢◌, ◌⊎◌, inl, inr, ℕ, ◌<◌, ◌≤◌, ◌^◌, Bool, true, false, nat_lt, ◌==◌, if◌then◌else◌, List, [], Option, None, Some, Result, Ok, Err, IfOk, IsOk, IsTrue, refl, sym, ap, subst, ◌∙◌, arith, ltb-false, ltb-true}
use Rattle.gl_entry.specs.declared.entry.Entry.{Entry}
use Rattle.gl_rules.specs.World.{Start}
use Rattle.gl_entry.specs.SourceBytes.{OfBytes}
use Rattle.gl_journal.specs.Durable.{Durable, key_alone}
use Rattle.gl_journal.specs.Records.{key_kind_tag}
use Rattle.gl_journal.specs.declared.fault.JournalFault.{JournalFault}
use Rattle.gl_journal.specs.declared.fault.JournalFault.TheVariants.{DiskFault}
use Rattle.gl_journal.specs.declared.key.KeyKind.{KeyKind}
use Rattle.gl_journal.specs.declared.key.KeyKind.TheVariants as kinds
use Rattle.gl_hss.specs.declared.types.Types.TheVariants as types
use Rattle.gl_snapshot.specs.declared.fault.SnapshotFault.{SnapshotFault}
use Rattle.gl_snapshot.specs.declared.snapshot.Snapshot.{Snapshot}
use Rattle.gl_store_book.specs.AtOpening.{opening_size}
use Rattle.gl_store_book.specs.FromSnapshot.{source_of, verified_snapshot}
use Rattle.gl_store_book.specs.NodeFile.{has_ledger, opened}
use Rattle.gl_store_book.specs.ServiceStart.{start_in}
use Rattle.gl_store_book.specs.Stands.{HasLedger as IsOfLedger}
use Rattle.gl_store_book.specs.ViewVotes.{IsOfOpening, IsTooLarge}
use Rattle.gl_store_book.specs.declared.node_file.fault.OpeningFault.{OpeningFault}
use Rattle.gl_store_book.specs.declared.node_file.fault.OpeningFault.TheVariants as openings
use Rattle.gl_store_book.specs.declared.node_file.from_snapshot.SourceKind.TheVariants as sources
use Rattle.gl_store_book.proofs.WholeHeld.{none_base}
use Rattle.ccfg.specs.declared.fault.BeginFault.{BeginFault}
use Rattle.ccfg.specs.declared.fault.BeginFault.TheVariants as faults
use Rattle.ccfg.specs.NodeCommand.{NeedsNoSource}
use Rattle.ccfg.specs.Plans.{OpensAsBefore}
use Rattle.ccfg.specs.SignCommand.{IsForeign}
use Rattle.ccfg.specs.Nodes.{Beginning, OfOpened, begin_behind, begin_by, begin_from, begin_with, beginning, beginning_of, opened_by, reopened}

-- ---- values

pub from_ok : {A E : Type 0} (r : Result A E) → IsOk r → (a : A) × (r ≡ Ok a)
from_ok (Ok a) h = (a, refl)
from_ok (Err e) h = absurd cc

pub ok_map : {A E : Type 0} {P Q : A → Type 0} (r : Result A E) → ((a : A) → P a → Q a) → IfOk r P → IfOk r Q
ok_map (Ok a) f h = f a h
ok_map (Err e) f h = tt

ok_any : {A E : Type 0} {P : A → Type 0} (r : Result A E) → ((a : A) → P a) → IfOk r P
ok_any (Ok a) f = f a
ok_any (Err e) f = tt

pub by_bytes : {P Q : List ℕ → Type 0} (given : Option (List ℕ)) → ((bytes : List ℕ) → P bytes → Q bytes) → OfBytes given P → OfBytes given Q
by_bytes None f h = (h.0, f h.0 h.1)
by_bytes (Some bytes) f h = f bytes h

pub any_bytes : {Q : List ℕ → Type 0} (given : Option (List ℕ)) → ((bytes : List ℕ) → Q bytes) → OfBytes given Q
any_bytes None f = ([], f [])
any_bytes (Some bytes) f = f bytes

pub by_opened : (honest : Bool) (held : List ℕ) (printed : Result Durable JournalFault) (Q : Result Durable JournalFault → Type 0) → (IsTrue honest → opened held ≡ printed) → Q printed → OfOpened honest held Q
by_opened true held printed Q e q = subst Q (sym (e refl)) q
by_opened false held printed Q e q = (printed, q)

-- the file has a ledger, or the source gave its end
pub ledger_or_end : {A E : Type 0} (r : Result A E) (d : Durable) (ended : Bool) → (has_ledger d ≡ false → IfOk r (λ a. ended ≡ true)) → IfOk r (λ a. (has_ledger d ≡ true) ⊎ (ended ≡ true))
ledger_or_end r d ended given = go (has_ledger d) refl
  where
    go : (b : Bool) → has_ledger d ≡ b → IfOk r (λ a. (has_ledger d ≡ true) ⊎ (ended ≡ true))
    go true e = ok_any r (λ a. inl e)
    go false e = ok_map r (λ a is. inr is) (given e)

-- both hold
pub ok_both : {A E : Type 0} (P Q : A → Type 0) (r : Result A E) → IfOk r P → IfOk r Q → IfOk r (λ a. P a × Q a)
ok_both P Q (Ok a) p q = (p, q)
ok_both P Q (Err e) p q = tt

-- an honest disk opens to something of which it holds
pub of_honest : (honest : Bool) (held : List ℕ) (Q : Result Durable JournalFault → Type 0) → (IsTrue honest → (d : Durable) × (opened held ≡ Ok d) × Q (Ok d)) → (other : Result Durable JournalFault) → Q other → OfOpened honest held Q
of_honest true held Q h other q = let k = h refl in subst Q (sym k.1) k.2
of_honest false held Q h other q = (other, q)

-- ---- a ledger, or none yet

-- a file without a snapshot is of a ledger that has no entries up to its base
pub of_none : IsOfLedger None
of_none = ([], none_base)

-- what a node begins with, by whether its file has a ledger
abbrev by_ledger : Durable → List ℕ → Bool → Result Beginning BeginFault
by_ledger d given has = if has then Ok (reopened d) else begin_from d given

-- with what the file keeps
pub begins_again : (d : Durable) (given : List ℕ) → has_ledger d ≡ true → beginning d given ≡ Ok (reopened d)
begins_again d given has = ap (by_ledger d given) has

-- with nothing
pub begins_empty : (d : Durable) (given : List ℕ) → has_ledger d ≡ false → source_of given ≡ sources.Nothing → beginning d given ≡ Ok (reopened d)
begins_empty d given none is = ap (by_ledger d given) none ∙ ap (begin_by d given) is

-- with a snapshot
pub begins_behind : (d : Durable) (given : List ℕ) (r : Result Snapshot SnapshotFault) → has_ledger d ≡ false → source_of given ≡ sources.Snapshot → verified_snapshot given ≡ r → beginning d given ≡ begin_behind d r
begins_behind d given r none is e = ap (by_ledger d given) none ∙ ap (begin_by d given) is ∙ ap (begin_behind d) e

-- ---- an opening ledger

-- it fits one batch
fits_one : (d : Durable) (s : Start Entry) → opening_size s d < 2 ^ 32 → begin_with d (Ok s) ≡ Ok (opened_by s d)
fits_one d s low = go (nat_lt (opening_size s d) (2 ^ 32)) refl
  where
    go : (t : Bool) → nat_lt (opening_size s d) (2 ^ 32) ≡ t → (if t then Ok (opened_by s d) else Err (faults.Opening (openings.TooLarge (opening_size s d)))) ≡ Ok (opened_by s d)
    go true e = refl
    go false e = absurd (omega (arith, low, ltb-false (opening_size s d) (2 ^ 32) e))

-- it doesn't
too_large : (d : Durable) (s : Start Entry) → 2 ^ 32 ≤ opening_size s d → begin_with d (Ok s) ≡ Err (faults.Opening (openings.TooLarge (opening_size s d)))
too_large d s high = go (nat_lt (opening_size s d) (2 ^ 32)) refl
  where
    go : (t : Bool) → nat_lt (opening_size s d) (2 ^ 32) ≡ t → (if t then Ok (opened_by s d) else Err (faults.Opening (openings.TooLarge (opening_size s d)))) ≡ Err (faults.Opening (openings.TooLarge (opening_size s d)))
    go false e = refl
    go true e = absurd (omega (arith, high, ltb-true (opening_size s d) (2 ^ 32) e))

begins_from : (d : Durable) (given : List ℕ) (r : Result (Start Entry) ℕ) → has_ledger d ≡ false → source_of given ≡ sources.Ledger → start_in given ≡ r → beginning d given ≡ begin_with d r
begins_from d given r none is e = ap (by_ledger d given) none ∙ ap (begin_by d given) is ∙ ap (begin_with d) e

pub begins_with : (d : Durable) (given : List ℕ) (s : Start Entry) → has_ledger d ≡ false → source_of given ≡ sources.Ledger → start_in given ≡ Ok s → opening_size s d < 2 ^ 32 → beginning d given ≡ Ok (opened_by s d)
begins_with d given s none is e low = begins_from d given (Ok s) none is e ∙ fits_one d s low

pub refused_with : (d : Durable) (given : List ℕ) (fault : OpeningFault) → has_ledger d ≡ false → source_of given ≡ sources.Ledger → IsOfOpening fault → fault ≢ openings.Journal DiskFault →
    ((seqno : ℕ) → fault ≡ openings.NotOpening seqno → start_in given ≡ Err seqno) → ((size : ℕ) → fault ≡ openings.TooLarge size → IsTooLarge (start_in given) d size) → beginning d given ≡ Err (faults.Opening fault)
refused_with d given (openings.Journal fault) none is of other not_opening large = absurd (other (ap openings.Journal of))
refused_with d given (openings.KeyKind want got) none is of other not_opening large = absurd of
refused_with d given (openings.NotOpening seqno) none is of other not_opening large = begins_from d given (Err seqno) none is (not_opening seqno refl)
refused_with d given (openings.TooLarge size) none is of other not_opening large =
    let h = large size refl in
    begins_from d given (Ok h.0) none is h.1 ∙ too_large d h.0 (subst (λ n. 2 ^ 32 ≤ n) h.2 h.3) ∙ ap (λ n. Err (faults.Opening (openings.TooLarge n))) (sym h.2)

-- ---- the file

pub begins_of : (d : Durable) (given : List ℕ) (r : Result Beginning BeginFault) → d.key.kind ≡ kinds.Node → beginning d given ≡ r → beginning_of (Ok d) given ≡ r
begins_of d given r kind e =
    subst (λ (k : KeyKind). (if key_kind_tag kinds.Node == key_kind_tag k then beginning d given else Err (faults.Opening (openings.KeyKind kinds.Node k))) ≡ r) (sym kind) e

pub other_kind : (d : Durable) (given : List ℕ) (got : KeyKind) → d.key.kind ≡ got → got ≢ kinds.Node → beginning_of (Ok d) given ≡ Err (faults.Opening (openings.KeyKind kinds.Node got))
other_kind d given got kind other =
    subst (λ (k : KeyKind). (if key_kind_tag kinds.Node == key_kind_tag k then beginning d given else Err (faults.Opening (openings.KeyKind kinds.Node k))) ≡ Err (faults.Opening (openings.KeyKind kinds.Node got))) (sym kind) (go got other)
  where
    go : (k : KeyKind) → k ≢ kinds.Node → (if key_kind_tag kinds.Node == key_kind_tag k then beginning d given else Err (faults.Opening (openings.KeyKind kinds.Node k))) ≡ Err (faults.Opening (openings.KeyKind kinds.Node k))
    go kinds.Service n = refl
    go kinds.Node n = absurd (n refl)
    go kinds.Member n = refl

-- its fault is told as the node's
pub told_as : (opens : Result Durable JournalFault) (given : List ℕ) (why other : OpeningFault) (fault : BeginFault) → beginning_of opens given ≡ Err (faults.Opening other) → why ≡ other → fault ≡ faults.Opening why → beginning_of opens given ≡ Err fault
told_as opens given why other fault is same told = is ∙ ap (λ (o : OpeningFault). Err (faults.Opening o)) (sym same) ∙ ap Err (sym told)

-- a file of a node that needs no source has a ledger
pub has_one : (opens : Result Durable JournalFault) (d : Durable) → opens ≡ Ok d → d.key.kind ≡ kinds.Node → NeedsNoSource opens → has_ledger d ≡ true
has_one opens d is kind none = go (subst NeedsNoSource is none)
  where
    go : (d.key.kind ≢ kinds.Node) ⊎ (has_ledger d ≡ true) → has_ledger d ≡ true
    go (inl other) = absurd (other kind)
    go (inr has) = has

-- what is as it was opens as it did
pub opens_as : (held holds : List ℕ) (d : Durable) → opened held ≡ Ok d → opened holds ≡ Ok d → OpensAsBefore held holds
opens_as held holds d before after = λ state is. after ∙ sym before ∙ is

pub opens_none : (held holds : List ℕ) (fault : JournalFault) → opened held ≡ Err fault → OpensAsBefore held holds
opens_none held holds fault none = λ state is. absurd (let both : ◌≡◌ {A = Result Durable JournalFault} (Err fault) (Ok state) = sym none ∙ is in cc)

-- a file that opens is no foreign one
pub not_foreign : {A : Type 0} (opens : Result Durable JournalFault) (d : Durable) → opens ≡ Ok d → IsForeign opens → A
not_foreign opens d is none = absurd (let both : ◌≡◌ {A = Result Durable JournalFault} (Ok d) (Err none.0) = sym is ∙ none.1 in cc)

-- some state with a key of a kind
abbrev pub of_kind : KeyKind → Durable
of_kind kind = key_alone (record { kind = kind; types = types.H5W4; seed = [] })
