-- What receipts ask of a ledger with a base is so in each ledger that it stands for.
use Rattle.std.proofs.Common.{◌≡◌, ℕ, zero, suc, ◌+◌, ◌-◌, ◌<◌, ◌≤◌, Bool, true, false, List, [], ◌++◌, length, take, drop, nat_le, Option, None, Some, Bor, IfSome, Result, Ok, Err, IfOk, if◌then◌else◌, refl, sym, ap, subst, ◌∙◌, arith}
use Rattle.std.specs.List.{find}
use Rattle.std.specs.Option.{option_copied}
use Rattle.std.proofs.lemmas.Bool.Decides.{nat_tests}
use Rattle.gl_base.proofs.Lists.{slice_get-within}
use Rattle.gl_merkle.specs.Frontier.{Content, ForLeaves, IsBase, count_of}
use Rattle.gl_merkle.specs.Peaks.{peaks_of, peaks_over, peaks_within}
use Rattle.gl_merkle.proofs.MorePeaks.{peaks_of-more}
use Rattle.gl_rules.specs.Log as logs
use Rattle.gl_entry.specs.Entry.{is_signature}
use Rattle.gl_entry.specs.declared.entry.Entry.{Entry}
use Rattle.gl_snapshot_body.specs.declared.body.Body.{Body}
use Rattle.gl_ledger.specs.NodeKeys.{service_layers}
use Rattle.gl_ledger.specs.ServiceRow.{identity_in}
use Rattle.gl_ledger.specs.Snapshot.{leaves_over, tables_over, view_at}
use Rattle.gl_ledger.specs.Tree.{leaves_of, tables_of}
use Rattle.gl_ledger.proofs.TablesLaws.{length-leaves_of}
use Rattle.gl_ledger_base.specs.Ledgers.{HoldsLedger}
use Rattle.gl_ledger_base.proofs.LedgersHeld.{held_base, held_tables, held_view}
use Rattle.gl_ledger_base.proofs.LedgersReads.{held_above, held_cut, held_rest}
use Rattle.gl_ledger_base.proofs.LedgersTold.{leaves_told}
use Rattle.gl_audit.specs.Kept.{IsTreeOver}
use Rattle.gl_audit.proofs.TablesOver.{length-leaves_over}
use Rattle.gl_audit.proofs.TreeOver.{count_over}
use Rattle.gl_audit.specs.declared.ledger_state.LedgerState.{LedgerState}
use Rattle.gl_receipt.specs.Made as made
use Rattle.gl_store.specs.Tail.{StandsBehind, Tail}
use Rattle.gl_store.proofs.Tails.{from_base}

same_at : (es : List Entry) (seqno : ℕ) → logs.entry_at es seqno ≡ made.entry_at es seqno
same_at es zero = refl
same_at es (suc i) = refl

-- where an entry stands is among the entries
within_at : (es : List Entry) (n : ℕ) (e : Entry) → logs.entry_at es n ≡ Some e → (0 < n) × (n ≤ length es)
within_at es zero e at = absurd (cc)
within_at es (suc i) e at = let low = slice_get-within es i e at in (omega arith, omega (arith, low))

module _ (body : Body) (es : List Entry) where
  pub entry_within : (seqno : ℕ) (o : Option (Bor Entry)) → option_copied o ≡ logs.entry_at es (seqno - body.base) → IfSome o (λ e. seqno ≤ body.base + length es)
  entry_within seqno None at = tt
  entry_within seqno (Some e) at = let w = within_at es (seqno - body.base) e.now (sym at) in omega (arith, w.0, w.1)

  -- what stands at its seqno
  abbrev pub Numbered : Option (Bor Entry) → Type 0
  Numbered o = IfSome o (λ e. logs.entry_at es (e.now.seqno - body.base) ≡ option_copied o)

  pub signature_within : (o : Option (Bor Entry)) → Numbered o → IfSome o (λ e. e.now.seqno ≤ body.base + length es)
  signature_within None at = tt
  signature_within (Some e) at = let w = within_at es (e.now.seqno - body.base) e.now at in omega (arith, w.0, w.1)

module _ (body : Body) (es log : List Entry) (holds : HoldsLedger service_layers body es log) where
  -- ---- entries

  pub view_held : (seqno : ℕ) (o : Option ℕ) → (0 < seqno → o ≡ view_at body es seqno) → (seqno ≡ 0 → o ≡ None) → o ≡ made.view_at log seqno
  view_held zero o above none = none refl
  view_held (suc i) o above none = above (omega arith) ∙ held_view service_layers body es log holds (suc i) (omega arith)

  pub entry_held : (l : made.Ledger) (seqno : ℕ) → l.base ≡ body.base → l.entries ≡ log → logs.entry_at es (seqno - body.base) ≡ made.entry_above_base l seqno
  entry_held l seqno base entries = go (nat_le seqno l.base) refl
    where
      go : (b : Bool) → nat_le seqno l.base ≡ b → logs.entry_at es (seqno - body.base) ≡ (if b then None else made.entry_at l.entries seqno)
      go true is =
          let low : seqno ≤ l.base = grind (arith, nat_tests, is) in
          ap (logs.entry_at es) (let none : seqno - body.base ≡ 0 = omega (arith, low, base) in none)
      go false is =
          let high : l.base < seqno = grind (arith, nat_tests, is) in
          sym (held_above service_layers body es log holds seqno (omega (arith, high, base))) ∙ same_at log seqno ∙ ap (λ (xs : List Entry). made.entry_at xs seqno) (sym entries)

  -- ---- signatures

  pub signature_held : (seqno : ℕ) → body.base ≤ seqno → made.signature_above es (seqno - body.base) ≡ made.signature_above log seqno
  signature_held seqno low = ap (find (λ (e : Entry). is_signature e.content)) (sym (held_rest service_layers body es log holds seqno low))

  pub signature_numbered : (o : Option (Bor Entry)) → Numbered body es o → IfSome o (λ e. made.entry_at log e.now.seqno ≡ option_copied o)
  signature_numbered None at = tt
  signature_numbered (Some e) at =
      let w = within_at es (e.now.seqno - body.base) e.now at in
      sym (same_at log e.now.seqno) ∙ held_above service_layers body es log holds e.now.seqno (omega (arith, w.0)) ∙ at

  -- ---- the service's key

  pub identity_held : (seqno : ℕ) → body.base ≤ seqno → identity_in (tables_over body (take (seqno - body.base) es)) ≡ identity_in (tables_of (take seqno log))
  identity_held seqno low = ap identity_in (held_tables service_layers body (take (seqno - body.base) es) (take seqno log) (held_cut service_layers body es log holds seqno low))

  -- ---- the tree

  module _ (f : Content) (whole : f.base ≡ body.base) (tree : IsTreeOver body (leaves_over body es) f) where
    none_past : f.base - body.base ≡ 0
    none_past = omega (arith, whole)

    -- the peaks of the frontier are those of the leaves up to the base
    leaves_below : IsBase f (leaves_of holds.below)
    unfolding peaks_of peaks_within
    leaves_below = record {
      count = let long = length-leaves_of holds.below in let counted = held_base service_layers body es log holds in omega (arith, long, counted, whole);
      peaks =
          peaks_of-more [] (leaves_of holds.below)
          ∙ ap (λ (b : Body). b.peaks) holds.base.snapshot
          ∙ sym (tree.peaks ∙ ap (λ (k : ℕ). peaks_over body.base body.peaks (take k (leaves_over body es))) none_past);
    }

    leaves_whole : leaves_of holds.below ++ f.leaves ≡ leaves_of log
    leaves_whole =
        ap (λ (ls : List (List ℕ)). leaves_of holds.below ++ ls) (tree.leaves_are ∙ ap (λ (k : ℕ). drop k (leaves_over body es)) none_past)
        ∙ ap (λ (b : Body). leaves_of holds.below ++ leaves_over b es) (sym holds.base.snapshot)
        ∙ leaves_told holds.below es
        ∙ ap leaves_of (sym holds.whole)

    -- what a call gives of the leaves of the frontier it gives of those of the ledger
    pub given_of_leaves : {X E : Type 0} (P : X → List (List ℕ) → Type 0) (r : Result X E) → IfOk r (λ x. ForLeaves f (P x)) → IfOk r (λ x. P x (leaves_of log))
    given_of_leaves P (Ok x) all = subst (P x) leaves_whole (all (leaves_of holds.below) leaves_below)
    given_of_leaves P (Err e) all = tt

-- ---- the frontier of a tail

module _ (body : Body) (t : Tail) (state : LedgerState) (stands : StandsBehind body t) (same : state ≡ t.state) where
  pub frontier_base : state.frontier.base ≡ body.base
  frontier_base = ap (λ (s : LedgerState). s.frontier.base) same ∙ (from_base body t stands).0

  tree_of : IsTreeOver body (leaves_over body t.entries) state.frontier
  tree_of = subst (λ (s : LedgerState). IsTreeOver body (leaves_over body t.entries) s.frontier) (sym same) stands.stands.tree

  pub frontier_count : count_of state.frontier ≡ body.base + length t.entries
  frontier_count = let all = count_over body (leaves_over body t.entries) state.frontier tree_of in let long = length-leaves_over body t.entries in omega (arith, all, long)

  pub given_of_tail : (es log : List Entry) → t.entries ≡ es → HoldsLedger service_layers body es log → {X E : Type 0} (P : X → List (List ℕ) → Type 0) (r : Result X E) → IfOk r (λ x. ForLeaves state.frontier (P x)) →
      IfOk r (λ x. P x (leaves_of log))
  given_of_tail es log is holds P r all =
      given_of_leaves body es log holds state.frontier frontier_base (subst (λ (xs : List Entry). IsTreeOver body (leaves_over body xs) state.frontier) is tree_of) P r all
