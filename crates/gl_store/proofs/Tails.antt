-- What is known of the entries above a base by what is kept of them.
use Rattle.std.proofs.Common.{◌≡◌, ℕ, zero, suc, ◌+◌, ◌-◌, ◌<◌, ◌≤◌, nat_le, List, [], ◌∷◌, ◌++◌, length, min, slice_get, take, Option, Some, None, option_map, Bor, IfSome, Result, Ok, Err, IfOk, IfErr, OnOk, OnErr, Bool, true, false, if◌then◌else◌, refl, sym, ◌∙◌, ap, subst, arith, ⊎_elim}
use Rattle.std.proofs.lemmas.Bool.{cases_lt}
use Rattle.std.proofs.lemmas.Bool.Decides.{nat_tests}
use Rattle.std.proofs.lemmas.List.{length-take}
use Rattle.std.specs.List.{AllByRecursion}
use Rattle.std.specs.Option.{option_copied}
use Rattle.gl_base.specs.TxId.{last_seqno}
use Rattle.gl_base.proofs.Lists.{slice_get-past}
use Rattle.gl_rules.specs.Log.{entry_at}
use Rattle.gl_entry.specs.Entry.{is_entry}
use Rattle.gl_entry.specs.declared.entry.Entry.{Entry}
use Rattle.gl_snapshot_body.specs.declared.body.Body.{Body}
use Rattle.gl_ledger.specs.NodeKeys.{service_layers}
use Rattle.gl_ledger.specs.Audit.{audited_over}
use Rattle.gl_ledger.specs.Past.{past_over}
use Rattle.gl_ledger.specs.Recordings.{last_entry}
use Rattle.gl_ledger.specs.ServiceRow.{service_state}
use Rattle.gl_ledger.specs.Snapshot.{tables_over, view_at, view_in}
use Rattle.gl_audit.specs.Ends.{IsRead, end_over}
use Rattle.gl_audit.specs.Kept.{ForStates, IsStateOver, IsWhole}
use Rattle.gl_audit.specs.declared.ledger_end.LedgerEnd.{LedgerEnd}
use Rattle.gl_audit.specs.declared.ledger_state.LedgerState.{LedgerState}
use Rattle.gl_ledger.proofs.EachPassing.{each_over, over-take}
use Rattle.gl_audit.proofs.Ends.{len_over}
use Rattle.gl_audit.proofs.GovernanceBehind.{numbered_over, past_len}
use Rattle.gl_audit.proofs.PastOver.{tables_kept}
use Rattle.gl_ledger.proofs.Passing.{passing_over}
use Rattle.gl_audit.proofs.LastEntries.{unbroken_over}
use Rattle.gl_store.specs.Tail.{Becomes, ForBodies, StandsBehind, Tail}

-- ---- what a tail shows

-- what holds of what is kept holds of what is seen of it
pub seen : {t now : Tail} → t ≡ now → (P : Body → Tail → Type 0) → ((body : Body) → StandsBehind body t → P body t) → ForBodies now (λ body. P body now)
seen is P each = subst (λ (u : Tail). (body : Body) → StandsBehind body u → P body u) is each

-- and the other way round
pub kept_behind : {t now : Tail} → t ≡ now → (body : Body) → StandsBehind body now → StandsBehind body t
kept_behind is body s = subst (StandsBehind body) (sym is) s

-- ---- the base

pub base_is : (body : Body) (t : Tail) → StandsBehind body t → t.base_end.len ≡ body.base
base_is body t s =
    let len : t.base_end.len ≡ body.base + 0 = ap (λ (end : LedgerEnd). end.len) s.begins ∙ len_over body [] in
    omega (arith, len)

-- each body behind which a tail stands has the same base
pub same_base : (a b : Body) (t : Tail) → StandsBehind a t → StandsBehind b t → a.base ≡ b.base
same_base a b t s r = sym (base_is a t s) ∙ base_is b t r

-- nothing of its tables and its tree was let go of, from the base on
pub from_base : (body : Body) (t : Tail) → StandsBehind body t → (t.state.frontier.base ≡ body.base) × (t.state.tables.compacted ≡ body.base)
from_base body t s = (s.whole.leaves ∙ s.stands.base_is, s.whole.tables ∙ s.stands.base_is)

-- ---- entries

pub fits_each : (body : Body) (es : List Entry) → audited_over service_layers body es ≡ None → (i : ℕ) (e : Entry) → slice_get es i ≡ Some e → is_entry e ≡ true
fits_each body es valid i e at = (passing_over service_layers body (take i es) e (each_over service_layers body es valid i e at)).fits

pub all_fit : (es : List Entry) → ((i : ℕ) (e : Entry) → slice_get es i ≡ Some e → is_entry e ≡ true) → AllByRecursion (λ (e : Entry). is_entry e ≡ true) es
all_fit [] each = tt
all_fit (e ∷ es) each = (each 0 e refl, all_fit es (λ i f at. each (suc i) f at))

pub found_fits : (es : List Entry) (place : ℕ) (o : Option (Bor Entry)) → ((i : ℕ) (e : Entry) → slice_get es i ≡ Some e → is_entry e ≡ true) → option_copied o ≡ entry_at es place →
    IfSome o (λ e. is_entry e.now ≡ true)
found_fits es place None fits there = tt
found_fits es zero (Some e) fits there = absurd (cc)
found_fits es (suc i) (Some e) fits there = fits i e.now (sym there)

pub found_numbered : (body : Body) (es : List Entry) (seqno : ℕ) (o : Option (Bor Entry)) → audited_over service_layers body es ≡ None → option_copied o ≡ entry_at es (seqno - body.base) →
    IfSome o (λ e. e.now.seqno ≡ seqno)
found_numbered body es seqno o valid = go (seqno - body.base) refl o
  where
    go : (n : ℕ) → seqno - body.base ≡ n → (p : Option (Bor Entry)) → option_copied p ≡ entry_at es n → IfSome p (λ e. e.now.seqno ≡ seqno)
    go n is None there = tt
    go zero is (Some e) there = absurd (cc)
    go (suc i) is (Some e) there = let at = numbered_over service_layers body es valid i e.now (sym there) in omega (arith, at, is)

-- ---- changes

-- of no entries
pub begun : (body : Body) (t : Tail) → t.entries ≡ [] → t.base_end ≡ end_over body [] → t.base_identity ≡ t.state.identity → IsStateOver body [] t.state → IsWhole t.state → StandsBehind body t
begun body t none begins identity k whole = record {
  begins = begins;
  keyed = identity ∙ k.identity_is;
  stands = subst (λ (es : List Entry). IsStateOver body es t.state) (sym none) k;
  whole = whole;
}

-- with other entries and their state
abbrev pub with_state : Tail → List Entry → LedgerState → Tail
with_state t items s = record t { entries = items; state = s }

pub behind_with : (body : Body) (old : Tail) (es items : List Entry) (s : LedgerState) → StandsBehind body old → items ≡ es → IsStateOver body es s → IsWhole s → StandsBehind body (with_state old items s)
behind_with body old es items s k same stands whole =
    record { begins = k.begins; keyed = k.keyed; stands = subst (λ (xs : List Entry). IsStateOver body xs s) (sym same) stands; whole = whole }

-- memory ran out, and the entries are the same
pub becomes_still : (old : Tail) (items : List Entry) (s : LedgerState) → items ≡ old.entries → ForStates old.state (λ body es. IsStateOver body es s) → (IsWhole old.state → IsWhole s) →
    Becomes old old.entries (with_state old items s)
becomes_still old items s same each whole = record {
  entries = same;
  stands = λ body k. behind_with body old old.entries items s k same (each body old.entries k.stands) (whole k.whole);
}

-- an entry that breaks no rule was added
pub becomes_grown : (old : Tail) (items : List Entry) (e : Entry) (s : LedgerState) → items ≡ old.entries ++ e ∷ [] → ForStates old.state (λ body es. IsStateOver body (es ++ e ∷ []) s) → (IsWhole old.state → IsWhole s) →
    Becomes old (old.entries ++ e ∷ []) (with_state old items s)
becomes_grown old items e s grown each whole = record {
  entries = grown;
  stands = λ body k. behind_with body old (old.entries ++ e ∷ []) items s k grown (each body old.entries k.stands) (whole k.whole);
}

-- ---- a cut

pub last_read_over : (body : Body) (es : List Entry) → audited_over service_layers body es ≡ None → IfSome (last_entry es) IsRead
last_read_over body es valid = go (last_entry es) refl
  where
    go : (o : Option Entry) → last_entry es ≡ o → IfSome o IsRead
    go None is = tt
    go (Some e) is = unbroken_over body (take (length es - 1) es) e (each_over service_layers body es valid (length es - 1) e is)

-- what is kept of the entries up to a seqno is valid and named
pub kept_up_to : (body : Body) (t : Tail) (to : ℕ) (kept : List Entry) → StandsBehind body t → kept ≡ take (to - t.base_end.len) t.entries →
    (IfSome (last_entry kept) IsRead) × (t.base_end.len + length kept ≤ last_seqno)
kept_up_to body t to kept s is = (
  subst (λ (es : List Entry). IfSome (last_entry es) IsRead) (sym is) (last_read_over body (take n t.entries) (over-take service_layers body t.entries n s.stands.valid)),
  subst (λ (es : List Entry). t.base_end.len + length es ≤ last_seqno) (sym is) short,
)
  where
    n : ℕ
    n = to - t.base_end.len

    short : t.base_end.len + length (take (to - t.base_end.len) t.entries) ≤ last_seqno
    short =
        let base = base_is body t s in
        let named : body.base + length t.entries ≤ last_seqno = s.stands.named in
        let fewer : length (take (to - t.base_end.len) t.entries) ≡ min (to - t.base_end.len) (length t.entries) = length-take (to - t.base_end.len) t.entries in
        omega (arith, base, named, fewer)

-- how they end
pub cut_end : (body : Body) (t : Tail) (to : ℕ) (kept : List Entry) (signed : ℕ) (end : LedgerEnd) → StandsBehind body t → body.base ≤ to → kept ≡ take (to - t.base_end.len) t.entries →
    ForStates t.state (λ b es. b.base ≤ to → signed ≡ (past_over b (take (to - b.base) es)).last_signed) →
    ((b : Body) → t.base_end ≡ end_over b [] → signed ≡ (past_over b kept).last_signed → end ≡ end_over b kept) → end ≡ end_over body (take (to - body.base) t.entries)
cut_end body t to kept signed end s from is signs over =
    let same : kept ≡ take (to - body.base) t.entries = is ∙ ap (λ (n : ℕ). take (to - n) t.entries) (base_is body t s) in
    over body s.begins (signs body t.entries s.stands from ∙ ap (λ (es : List Entry). (past_over body es).last_signed) (sym same)) ∙ ap (end_over body) same

-- they stand behind the body
pub behind_cut : (body : Body) (t : Tail) (to : ℕ) (kept : List Entry) (end : LedgerEnd) (new : LedgerState) → StandsBehind body t → kept ≡ take (to - t.base_end.len) t.entries →
    end ≡ end_over body (take (to - body.base) t.entries) →
    ForStates t.state (λ b es. end ≡ end_over b (take (to - b.base) es) → IsStateOver b (take (to - b.base) es) new) → (IsWhole t.state → IsWhole new) → StandsBehind body (with_state t kept new)
behind_cut body t to kept end new s is ends each whole =
    behind_with body t (take (to - body.base) t.entries) kept new s (is ∙ ap (λ (n : ℕ). take (to - n) t.entries) (base_is body t s)) (each body t.entries s.stands ends) (whole s.whole)

-- ---- views

-- above the last entry there is none
pub viewed : (body : Body) (es : List Entry) (seqno : ℕ) (o : Option ℕ) → (seqno ≤ body.base + length es → o ≡ view_at body es seqno) → (body.base + length es < seqno → o ≡ None) → o ≡ view_at body es seqno
viewed body es seqno o within above = ⊎_elim
    (λ (high : body.base + length es < seqno). above high ∙ sym (beyond high))
    (λ (low : seqno ≤ body.base + length es). within low)
    (cases_lt (body.base + length es) seqno)
  where
    none_at : (n : ℕ) → length es < n → entry_at es n ≡ None
    none_at zero high = absurd (omega (arith, high))
    none_at (suc i) high = slice_get-past es i (omega (arith, high))

    beyond : body.base + length es < seqno → view_at body es seqno ≡ None
    beyond high =
        let some : nat_le seqno body.base ≡ false = grind (arith, nat_tests, high) in
        ap (λ (b : Bool). if b then view_in body.views seqno else option_map (λ (e : Entry). e.view) (entry_at es (seqno - body.base))) some
        ∙ ap (option_map (λ (e : Entry). e.view)) (none_at (seqno - body.base) (omega (arith, high)))

-- ---- what the rules read of the entries

pub seqno_past : (body : Body) (es : List Entry) (seqno : ℕ) → seqno ≡ body.base + length es + 1 → seqno ≡ (past_over body es).len + 1
seqno_past body es seqno at = let len = past_len body es in omega (arith, at, len)

-- the tables of a tail are those that they read
module _ (body : Body) (t : Tail) (s : StandsBehind body t) where
  pub tables_past : tables_over body t.entries ≡ (past_over body t.entries).tables
  tables_past = sym (tables_kept body t.entries t.state s.stands)

  pub state_past : service_state (past_over body t.entries).tables ≡ t.state.service_state
  state_past = ap service_state (sym tables_past) ∙ sym s.stands.state_is

-- ---- results

pub if_ok : {X E : Type 0} {P Q : X → Type 0} (r : Result X E) → ((x : X) → P x → Q x) → IfOk r P → IfOk r Q
if_ok (Ok x) each is = each x is
if_ok (Err e) each is = tt

pub if_err : {X E : Type 0} {P Q : E → Type 0} (r : Result X E) → ((e : E) → P e → Q e) → IfErr r P → IfErr r Q
if_err (Ok x) each is = tt
if_err (Err e) each is = each e is

pub on_ok : {X E : Type 0} {P Q : Type 0} (r : Result X E) → (P → Q) → OnOk r P → OnOk r Q
on_ok (Ok x) each is = each is
on_ok (Err e) each is = tt

pub on_err : {X E : Type 0} {P Q : Type 0} (r : Result X E) → (P → Q) → OnErr r P → OnErr r Q
on_err (Ok x) each is = tt
on_err (Err e) each is = each is

pub if_ok_both : {X E : Type 0} {P Q R : X → Type 0} (r : Result X E) → ((x : X) → P x → Q x → R x) → IfOk r P → IfOk r Q → IfOk r R
if_ok_both (Ok x) each p q = each x p q
if_ok_both (Err e) each p q = tt

-- ---- what a changed tail shows

pub seen_still : {t now new : Tail} → t ≡ now → Becomes t t.entries new → Becomes now now.entries new
seen_still {new = new} is b = subst (λ (u : Tail). Becomes u u.entries new) is b

pub seen_grown : {t now new : Tail} (e : Entry) → t ≡ now → Becomes t (t.entries ++ e ∷ []) new → Becomes now (now.entries ++ e ∷ []) new
seen_grown {new = new} e is b = subst (λ (u : Tail). Becomes u (u.entries ++ e ∷ []) new) is b

-- it holds where there is an error
pub where_err : {X E : Type 0} {P : Type 0} (r : Result X E) → P → OnErr r P
where_err (Ok x) is = tt
where_err (Err e) is = is
