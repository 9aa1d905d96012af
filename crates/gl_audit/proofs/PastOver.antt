-- What the rules read of entries behind a base, by what is kept of them.
use Rattle.std.proofs.Common.{◌≡◌, ℕ, zero, suc, ◌+◌, ◌-◌, ◌<◌, ◌≤◌, List, [], ◌∷◌, ◌++◌, length, map, Option, Some, None, option_map, IfSome, Bool, true, false, ◌&&◌, ◌||◌, nat_le, nat_lt, ◌==◌, if◌then◌else◌, refl, sym, ◌∙◌, ap, ap₂, subst, arith}
use Rattle.std.proofs.lemmas.Bool.Decides.{nat_tests}
use Rattle.gl_base.proofs.Lists.{slice_get-below}
use Rattle.gl_merkle.specs.Frontier as frontiers
use Rattle.gl_merkle.specs.Peaks.{peaks_over, root_of_peaks}
use Rattle.gl_rules.specs.Identity.{NodeId}
use Rattle.gl_rules.specs.Log.{entry_at}
use Rattle.gl_entry.specs.declared.entry.Entry.{Entry}
use Rattle.gl_gov_rules.specs.declared.change.Recorded.{Recorded}
use Rattle.gl_gov_rules.specs.declared.change.RecordedNode.{RecordedNode}
use Rattle.gl_gov_rules.specs.declared.row.GovernedRows.{GovernedRows}
use Rattle.gl_gov_rules.specs.GovernedRows.{history_over}
use Rattle.gl_gov_rules.specs.Nodes as nodes
use Rattle.gl_gov_base.specs.GovernedOver.{IsGovernedOver, IsReadInOrder}
use Rattle.gl_gov_base.proofs.RequestsOver.{seqno_read}
use Rattle.gl_snapshot_body.specs.declared.body.Body.{Body}
use Rattle.gl_ledger.specs.NodeKeys.{service_layers}
use Rattle.gl_ledger.specs.Recordings.{last_entry, recorded_nodes, removal, mark}
use Rattle.gl_ledger.specs.Past.{is_signed, last_of, last_or_base, past_at, past_over, signs_at, signs_over}
use Rattle.gl_ledger.specs.ServiceRow.{identity_in}
use Rattle.gl_ledger.specs.Snapshot.{all_peaks, governed_base, leaves_over, requests_over, snapshot_over, tables_over}
use Rattle.gl_ledger.specs.Behind.{IsReadAt, IsReadBody}
use Rattle.gl_audit.specs.Ends.{end_at}
use Rattle.gl_audit.specs.GovState.{Governed, IsLater, history_of, with_recorded}
use Rattle.gl_audit.specs.Kept.{key_of, IsStateOver}
use Rattle.gl_audit.specs.declared.ledger_end.LedgerEnd.{LedgerEnd}
use Rattle.gl_audit.specs.declared.ledger_state.LedgerState.{LedgerState}
use Rattle.gl_audit.proofs.Ends.{len_over}
use Rattle.gl_audit.proofs.GovernanceBehind.{above_entries, governed_over, read_in_order, rows_above, spelled_read}
use Rattle.gl_audit.proofs.KeyBehind.{key_behind}
use Rattle.gl_audit.proofs.LastEntries.{last_at}
use Rattle.gl_audit.proofs.NoBase.{root_whole}
use Rattle.gl_audit.proofs.TablesOver.{length-leaves_over}
use Rattle.gl_audit.proofs.TreeOver.{all_peaks_over, count_over}

-- ---- seqnos

-- the rows of a base stand at it
rows_at : (body : Body) → IsReadBody body → IfSome (governed_base body) (λ (g : GovernedRows). g.seqno ≡ body.base)
rows_at body read = go body.base refl read
  where
    go : (n : ℕ) → body.base ≡ n → IsReadAt n body → IfSome (governed_base body) (λ (g : GovernedRows). g.seqno ≡ body.base)
    go zero is none = subst (λ (b : Body). IfSome (governed_base b) (λ (g : GovernedRows). g.seqno ≡ b.base)) (sym none) tt
    go (suc n) is b =
        let own = seqno_read body.base body.rows b.rows b.spelled in
        subst (λ (o : Option GovernedRows). IfSome o (λ (g : GovernedRows). g.seqno ≡ body.base)) (sym (rows_above body b.rows (omega (arith, is)) b.spelled)) (omega (arith, own))

-- the seqno after all entries is above the base and the requests
pub later_over : (body : Body) (es : List Entry) (seqno : ℕ) → IsReadBody body → seqno ≡ body.base + length es + 1 →
    IsLater seqno (record { base = governed_base body; requests = requests_over body es })
later_over body es seqno read at = record { above_base = go (governed_base body) (rows_at body read); above = above_entries (suc body.base) seqno es (omega (arith, at)) }
  where
    go : (o : Option GovernedRows) → IfSome o (λ (g : GovernedRows). g.seqno ≡ body.base) → IfSome o (λ (g : GovernedRows). g.seqno < seqno)
    go None own = tt
    go (Some g) own = omega (arith, at, own)

-- ---- signatures

no_base : (a b c : Bool) → b ≡ false → ((a && b) || c) ≡ c
no_base true true c is = absurd (cc)
no_base false true c is = absurd (cc)
no_base true false c is = refl
no_base false false c is = refl

-- whether the last entry, else the base, is one
signs_last : (body : Body) (es : List Entry) → 0 < body.base → signs_over body es (body.base + length es) ≡ (last_or_base body (last_entry es)).signs
signs_last body [] some =
    let above : nat_lt 0 (body.base + 0) ≡ true = grind (arith, nat_tests, some) in
    let within : nat_le (body.base + 0) body.base ≡ true = grind (arith, nat_tests) in
    ap₂ (λ (a b : Bool). (a && b) || signs_at (entry_at [] (body.base + 0 - body.base))) above within
signs_last body (e ∷ es) some =
    no_base (nat_lt 0 (body.base + length (e ∷ es))) (nat_le (body.base + length (e ∷ es)) body.base) (signs_at (entry_at (e ∷ es) (body.base + length (e ∷ es) - body.base))) (grind (arith, nat_tests))
    ∙ ap (λ (n : ℕ). signs_at (entry_at (e ∷ es) n)) (let at : body.base + length (e ∷ es) - body.base ≡ length (e ∷ es) = omega arith in at)
    ∙ ap signs_at (last_at (e ∷ es)) ∙ there (last_entry (e ∷ es)) refl
  where
    there : (o : Option Entry) → last_entry (e ∷ es) ≡ o → signs_at o ≡ (last_or_base body o).signs
    there (Some x) is = refl
    there None is = absurd (let x = slice_get-below (e ∷ es) (length (e ∷ es) - 1) (omega arith) in let both = sym is ∙ x.1 in cc)

-- ---- the service's key

pub none_of : (bytes : List ℕ) → length bytes ≡ 60 → None ≡ key_of bytes → ⊥
none_of bytes long is =
    let t : (length bytes == 60) ≡ true = grind (arith, nat_tests) in
    let p : None ≡ Some bytes = is ∙ ap (λ (b : Bool). if b then Some bytes else None) t in
    cc

module _ (body : Body) (es : List Entry) (s : LedgerState) (k : IsStateOver body es s) where
  -- ---- how entries end

  pub end_len : s.end.len ≡ body.base + length es
  end_len = ap (λ (end : LedgerEnd). end.len) k.ends ∙ len_over body es

  pub len_kept : (past_over body es).len ≡ s.end.len
  len_kept = go body.base k.ends
    where
      go : (n : ℕ) → s.end ≡ end_at n body es → (past_at n body es).len ≡ s.end.len
      go zero ends = sym (ap (λ (end : LedgerEnd). end.len) ends)
      go (suc n) ends = sym (ap (λ (end : LedgerEnd). end.len) ends)

  pub signed_kept : (past_over body es).signs_at s.end.len ≡ is_signed (past_over body es).last
  signed_kept = go body.base refl k.ends
    where
      whole : (o : Option Entry) → signs_at o ≡ is_signed (option_map last_of o)
      whole None = refl
      whole (Some e) = refl

      go : (n : ℕ) → body.base ≡ n → s.end ≡ end_at n body es → (past_at n body es).signs_at s.end.len ≡ is_signed (past_at n body es).last
      go zero is ends = ap (λ (end : LedgerEnd). signs_at (entry_at es end.len)) ends ∙ ap signs_at (last_at es) ∙ whole (last_entry es)
      go (suc n) is ends = ap (λ (end : LedgerEnd). signs_over body es end.len) ends ∙ signs_last body es (omega (arith, is))

  pub commit_kept : (past_over body es).last_commit ≡ s.end.commit
  commit_kept = go body.base k.ends
    where
      go : (n : ℕ) → s.end ≡ end_at n body es → (past_at n body es).last_commit ≡ s.end.commit
      go zero ends = sym (ap (λ (end : LedgerEnd). end.commit) ends)
      go (suc n) ends = sym (ap (λ (end : LedgerEnd). end.commit) ends)

  -- ---- governance

  pub history_kept : (past_over body es).history ≡ history_of s.gov
  history_kept = go body.base k.read ∙ sym (ap history_of k.governed)
    where
      go : (n : ℕ) → IsReadAt n body → (past_at n body es).history ≡ history_over (governed_base body) (requests_over body es)
      go zero none = sym (ap (λ (b : Body). history_over (governed_base b) (requests_over b es)) none)
      go (suc n) b = refl

  pub after_kept : (r : Recorded) → (past_over body es).after r ≡ history_of (with_recorded s.gov r)
  after_kept r = go body.base k.read ∙ sym (ap (λ (g : Governed). history_of (with_recorded g r)) k.governed)
    where
      go : (n : ℕ) → IsReadAt n body → (past_at n body es).after r ≡ history_over (governed_base body) (requests_over body es ++ r ∷ [])
      go zero none = sym (ap (λ (b : Body). history_over (governed_base b) (requests_over b es ++ r ∷ [])) none)
      go (suc n) b = refl

  pub read_kept : IsReadInOrder s.gov.base
  read_kept = subst IsReadInOrder (sym (ap (λ (g : Governed). g.base) k.governed)) (read_in_order body k.read)

  pub accepted_kept : IsGovernedOver s.gov.base s.gov.requests
  accepted_kept = subst (λ (g : Governed). IsGovernedOver g.base g.requests) (sym k.governed) (governed_over service_layers body es (spelled_read body k.read) k.valid)

  pub later_kept : (seqno : ℕ) → seqno ≡ s.end.len + 1 → IsLater seqno s.gov
  later_kept seqno at = subst (IsLater seqno) (sym k.governed) (later_over body es seqno k.read (omega (arith, at, end_len)))

  -- a seqno from the base on isn't below the rows
  pub base_kept : (to : ℕ) → body.base ≤ to → IfSome s.gov.base (λ (g : GovernedRows). g.seqno ≤ to)
  base_kept to low = subst (λ (g : Governed). IfSome g.base (λ (b : GovernedRows). b.seqno ≤ to)) (sym k.governed) (go (governed_base body) (rows_at body k.read))
    where
      go : (o : Option GovernedRows) → IfSome o (λ (g : GovernedRows). g.seqno ≡ body.base) → IfSome o (λ (g : GovernedRows). g.seqno ≤ to)
      go None own = tt
      go (Some g) own = omega (arith, low, own)

  -- ---- tables, the root and the body

  pub tables_kept : (past_over body es).tables ≡ tables_over body es
  tables_kept = go body.base k.read
    where
      go : (n : ℕ) → IsReadAt n body → (past_at n body es).tables ≡ tables_over body es
      go zero none = sym (ap (λ (b : Body). tables_over b es) none)
      go (suc n) b = refl

  pub keyed_over : 0 < body.base + length es → s.identity ≡ None → ⊥
  keyed_over some none = none_of (identity_in (tables_over body es)) (key_behind service_layers body es k.read k.valid some) (sym none ∙ k.identity_is)

  pub keyed_kept : 0 < s.end.len → s.identity ≡ None → ⊥
  keyed_kept some none = keyed_over (omega (arith, some, end_len)) none

  pub root_kept : root_of_peaks (peaks_over s.frontier.base s.frontier.peaks s.frontier.leaves) ≡ (past_over body es).root
  root_kept = ap root_of_peaks (all_peaks_over body (leaves_over body es) s.frontier k.tree) ∙ go body.base k.read
    where
      go : (n : ℕ) → IsReadAt n body → root_of_peaks (all_peaks body es) ≡ (past_at n body es).root
      go zero none = ap (λ (b : Body). root_of_peaks (all_peaks b es)) none ∙ root_whole es
      go (suc n) b = refl

  pub count_kept : frontiers.count_of s.frontier ≡ s.end.len
  count_kept =
      let count = count_over body (leaves_over body es) s.frontier k.tree in
      let long = length-leaves_over body es in
      omega (arith, count, long, end_len)

  pub body_kept : (past_over body es).snapshot ≡ snapshot_over body es
  body_kept = go body.base k.read
    where
      go : (n : ℕ) → IsReadAt n body → (past_at n body es).snapshot ≡ snapshot_over body es
      go zero none = sym (ap (λ (b : Body). snapshot_over b es) none)
      go (suc n) b = refl

-- ---- nodes

-- the nodes, their removals and their marks are those of the history
pub nodes_read : (body : Body) (es : List Entry) → (past_over body es).nodes ≡ map (λ (n : RecordedNode). n.id) (nodes.nodes (past_over body es).history)
unfolding recorded_nodes
nodes_read body es = go body.base
  where
    go : (n : ℕ) → (past_at n body es).nodes ≡ map (λ (x : RecordedNode). x.id) (nodes.nodes (past_at n body es).history)
    go zero = refl
    go (suc n) = refl

pub removal_read : (body : Body) (es : List Entry) (x : NodeId) → (past_over body es).removal x ≡ nodes.removal (past_over body es).history x
unfolding removal
removal_read body es x = go body.base
  where
    go : (n : ℕ) → (past_at n body es).removal x ≡ nodes.removal (past_at n body es).history x
    go zero = refl
    go (suc n) = refl

pub mark_read : (body : Body) (es : List Entry) (x : NodeId) → (past_over body es).mark x ≡ nodes.mark (past_over body es).history x
unfolding mark
mark_read body es x = go body.base
  where
    go : (n : ℕ) → (past_at n body es).mark x ≡ nodes.mark (past_at n body es).history x
    go zero = refl
    go (suc n) = refl
