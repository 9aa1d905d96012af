-- What is kept of entries behind a base: of no entries, with one more entry, settled, and cut.
use Rattle.std.proofs.Common.{◌≡◌, ℕ, zero, suc, ◌+◌, ◌-◌, ◌<◌, ◌≤◌, nat_le, nat_lt, List, [], ◌∷◌, ◌++◌, length, take, max, Option, Some, None, Ok, Bool, true, false, refl, sym, ◌∙◌, ap, ap₂, subst, arith, length-append, ⊎_elim}
use Rattle.std.proofs.lemmas.Bool.{and_parts, cases_lt}
use Rattle.std.proofs.lemmas.Bool.Decides.{nat_tests}
use Rattle.std.specs.List.{AllByRecursion}
use Rattle.std.specs.List.Sorted.{IsPartitionPoint, IsPartitionedBy}
use Rattle.std.proofs.lemmas.List.{append-nil, length-take-le}
use Rattle.gl_base.specs.TxId.{last_seqno}
use Rattle.gl_merkle.specs.Frontier as frontiers
use Rattle.gl_merkle.specs.Peaks.{peaks_over}
use Rattle.gl_vmaps.specs.Kept as kept
use Rattle.gl_vmaps.specs.Rows.{row_writes}
use Rattle.gl_vmaps.specs.Standing.{StandsFor}
use Rattle.gl_vmaps.specs.Versions.{Placed, placed_at, written_by, up_to}
use Rattle.gl_vmaps.proofs.TablesLaws.{value_in-nothing}
use Rattle.gl_entry.specs.Entry.{is_signature}
use Rattle.gl_entry.specs.Leaf.{leaf_of}
use Rattle.gl_entry.specs.declared.entry.Content.{Content}
use Rattle.gl_entry.specs.declared.entry.Content.TheVariants as content
use Rattle.gl_entry.specs.declared.entry.Entry.{Entry}
use Rattle.gl_requests.specs.Parsing.{request_in}
use Rattle.gl_requests.specs.declared.genesis.ServiceState.{ServiceState}
use Rattle.gl_requests.specs.declared.genesis.ServiceState.TheVariants.{Opening}
use Rattle.gl_requests.specs.declared.request.GovernanceRequest.{GovernanceRequest}
use Rattle.gl_gov_rules.specs.GovernedRows.{governed_rows}
use Rattle.gl_gov_rules.specs.Rows.{service_map, service_key}
use Rattle.gl_gov_rules.specs.declared.change.Recorded.{Recorded}
use Rattle.gl_gov_rules.specs.declared.row.GovernedRows.{GovernedRows}
use Rattle.gl_gov_base.specs.GovernedOver.{FollowsOver, IsReadInOrder}
use Rattle.gl_snapshot_body.specs.Body.{is_body, no_body}
use Rattle.gl_snapshot_body.specs.declared.body.Body.{Body}
use Rattle.gl_snapshot_body.specs.declared.body.ViewStart.{ViewStart}
use Rattle.gl_snapshot_body.proofs.BodyLaws.{parts_of}
use Rattle.gl_ledger.specs.Broken.{broken, broken_over}
use Rattle.gl_ledger.specs.NodeKeys.{service_layers}
use Rattle.gl_ledger.specs.Recordings.{recording_of, governance_recording, recorded_at, recorded_in}
use Rattle.gl_ledger.specs.ServiceRow.{service_state, state_of_value, identity_in, identity_of_value}
use Rattle.gl_ledger.specs.Snapshot.{governed_base, leaves_over, requests_over, tables_over, writes_over}
use Rattle.gl_ledger.specs.Sound.{IsSound}
use Rattle.gl_ledger.specs.declared.recording.Recording.TheVariants as recordings
use Rattle.gl_ledger.proofs.Valid.{valid_sound}
use Rattle.gl_ledger.specs.Behind.{IsReadAt, IsReadBody, start_if}
use Rattle.gl_audit.specs.Ends.{no_end, end_over, end_with, view_of}
use Rattle.gl_audit.specs.GovState.{Governed, IsLater, governed_up_to, ungoverned, with_all_recorded}
use Rattle.gl_audit.specs.Kept.{seqno_if, seqnos_over, starts_up_to, key_of, IsStateOf, IsStateOver, IsTreeOver}
use Rattle.gl_audit.specs.declared.ledger_end.LedgerEnd.{LedgerEnd}
use Rattle.gl_audit.specs.declared.ledger_state.LedgerState.{LedgerState}
use Rattle.gl_audit.proofs.Cutting.{CountFrom, leaves_over-take, requests_over-take, writes_over-take}
use Rattle.gl_ledger.proofs.EachPassing.{all_over, over-push, over-take}
use Rattle.gl_audit.proofs.Ends.{end_over-push, view_over}
use Rattle.gl_audit.proofs.GovernanceBehind.{follows_over, numbered_over, past_len, read_in_order, rows_above, spelled_read}
use Rattle.gl_audit.proofs.KeyBehind.{key_behind}
use Rattle.gl_ledger.proofs.Passing.{passing_over}
use Rattle.gl_audit.proofs.PastOver.{count_kept, end_len, keyed_over, later_kept}
use Rattle.gl_audit.proofs.SignatureSeqnos.{seqnos_over-partitioned, seqnos_over-push, seqnos_over-take}
use Rattle.gl_audit.proofs.SnapshotOver.{requests_over-push, views_pushed}
use Rattle.gl_audit.proofs.TablesOver.{leaves_pushed, length-leaves_over, writes_over-push}
use Rattle.gl_audit.proofs.TreeOver.{tree_begun, tree-cut, tree-push, tree_settled}
use Rattle.gl_audit.proofs.ViewStarts.{starts_over-take}

-- ---- what is told

-- what stands beside the tables is what these tell
pub record AreReported (tables : kept.Kept) (state : ServiceState) (identity : Option (List ℕ)) : Type 0 where
  pub state_reported : (ps : List Placed) → StandsFor tables ps → state ≡ service_state (written_by ps)
  pub identity_reported : (ps : List Placed) → StandsFor tables ps → identity ≡ key_of (identity_in (written_by ps))

-- a whole ledger is sound
pub state_sound : (ledger : List Entry) (s : LedgerState) → IsStateOf ledger s → IsSound service_layers ledger
state_sound ledger s k = valid_sound service_layers ledger k.valid

-- ---- no entries

pub state_empty : (s : LedgerState) → s.base ≡ 0 → s.base_view ≡ 0 → s.base_commit ≡ 0 → s.end ≡ no_end → s.signatures.items ≡ [] → s.views.items ≡ [] → s.gov ≡ ungoverned → s.service_state ≡ Opening → s.identity ≡ None →
    StandsFor s.tables [] → s.tables.base ≡ 0 → s.tables.compacted ≡ 0 → s.frontier.base ≡ 0 → s.frontier.peaks ≡ [] → s.frontier.leaves ≡ [] → IsStateOf [] s
state_empty s base view commit ends unsigned unseen ungoverned opening unknown nothing start whole below peaks leaves = record {
  read = refl;
  valid = all_over service_layers no_body [] (λ i e at. absurd (cc));
  named = omega arith;
  base_is = base;
  base_view_is = view;
  base_commit_is = commit;
  ends = ends;
  signed = unsigned;
  governed = ungoverned;
  state_is = opening ∙ sym (ap state_of_value (value_in-nothing service_map service_key));
  identity_is = unknown ∙ sym (ap (λ (o : Option (List ℕ)). key_of (identity_of_value o)) (value_in-nothing service_map service_key));
  tables_are = nothing;
  tables_from = start;
  compacted = omega (arith, whole);
  tree = tree_begun no_body s.frontier below peaks leaves;
  views = unseen;
}

-- a body whose rows spell may be read
pub read_begun : (body : Body) (g : GovernedRows) → is_body body ≡ true → 0 < body.base → governed_rows body.base body.rows ≡ Ok g → IsReadBody body
read_begun body g fits some spelled = go body.base refl
  where
    go : (n : ℕ) → body.base ≡ n → IsReadAt n body
    go zero is = absurd (omega (arith, some, is))
    go (suc n) is = record { fits = fits; rows = g; spelled = spelled }

-- what is kept at a base, of whose body this is known
module _ (body : Body) (g : GovernedRows) (fits : is_body body ≡ true) (some : 0 < body.base) (spelled : governed_rows body.base body.rows ≡ Ok g) where
  -- the rows of governance were read in order
  pub rows_begun : IsReadInOrder (Some g)
  rows_begun = subst IsReadInOrder (rows_above body g some spelled) (read_in_order body (read_begun body g fits some spelled))

  pub state_begun : (s : LedgerState) → s.base ≡ body.base → s.base_view ≡ body.view → s.base_commit ≡ body.commit → s.end ≡ end_over body [] → s.signatures.items ≡ body.base ∷ [] → s.views.items ≡ body.views →
      s.gov ≡ record { base = Some g; requests = [] } → AreReported s.tables s.service_state s.identity → StandsFor s.tables (placed_at 0 (row_writes body.rows)) →
      s.tables.base ≡ body.base → s.tables.compacted ≡ body.base → s.frontier.base ≡ body.base → s.frontier.peaks ≡ body.peaks → s.frontier.leaves ≡ [] → IsStateOver body [] s
  state_begun s base view commit ends signed views governed reported rows from whole below peaks none = record {
    read = read_begun body g fits some spelled;
    valid = all_over service_layers body [] (λ i e at. absurd (cc));
    named = let low = (and_parts (nat_le 1 body.base) (nat_le body.base last_seqno) (parts_of body fits).base).1 in grind (arith, nat_tests, low);
    base_is = base;
    base_view_is = view;
    base_commit_is = commit;
    ends = ends;
    signed = signed ∙ ap (λ (b : Bool). seqno_if b body.base []) (let above : true ≡ nat_lt 0 body.base = grind (arith, nat_tests, some) in above);
    governed = governed ∙ ap (λ (o : Option GovernedRows). record { base = o; requests = [] }) (sym (rows_above body g some spelled));
    state_is = reported.state_reported (writes_over body []) stands;
    identity_is = reported.identity_reported (writes_over body []) stands;
    tables_are = stands;
    tables_from = from;
    compacted = omega (arith, whole);
    tree = tree_begun body s.frontier below peaks none;
    views = views ∙ sym (append-nil body.views);
  }
    where
      stands : StandsFor s.tables (writes_over body [])
      stands = subst (StandsFor s.tables) (sym (append-nil (placed_at 0 (row_writes body.rows)))) rows

-- ---- the service's key

-- it is there where there is an entry, or a base
pub unkeyed : (body : Body) (es : List Entry) (s : LedgerState) → IsStateOver body es s → s.identity ≡ None → (body.base ≡ 0) × (es ≡ [])
unkeyed body es s k none = ⊎_elim
    (λ (some : 0 < body.base + length es). absurd (keyed_over body es s k some none))
    (λ (nothing : body.base + length es ≤ 0). (omega (arith, nothing), empty es (omega (arith, nothing))))
    (cases_lt 0 (body.base + length es))
  where
    empty : (l : List Entry) → length l ≡ 0 → l ≡ []
    empty [] is = refl
    empty (e ∷ l) is = absurd (omega (arith, is))

-- ---- one more entry

-- what the rules ask of its seqno
pub next_over : (body : Body) (es : List Entry) (e : Entry) → broken_over service_layers body es e ≡ None → (e.seqno ≡ body.base + length es + 1) × (body.base + length es + 1 ≤ last_seqno)
next_over body es e unbroken =
    let p = passing_over service_layers body es e unbroken in
    let len = past_len body es in
    let at = p.seqno in
    let left = p.named in
    (grind (arith, nat_tests, at, len), grind (arith, nat_tests, left, len))

pub next_seqno : (ledger : List Entry) (e : Entry) → broken service_layers ledger e ≡ None → (e.seqno ≡ length ledger + 1) × (length ledger + 1 ≤ last_seqno)
next_seqno ledger e unbroken = let at = next_over no_body ledger e unbroken in (omega (arith, at.0), omega (arith, at.1))

module _ (body : Body) (es : List Entry) (s : LedgerState) (e : Entry) (k : IsStateOver body es s) (unbroken : broken_over service_layers body es e ≡ None) where
  -- the tables after it tell a key
  pub keyed_after : length (identity_in (written_by (writes_over body es ++ placed_at e.seqno e.writes))) ≡ 60
  keyed_after =
      ap (λ (ps : List Placed). length (identity_in (written_by ps))) (sym (writes_over-push body es e))
      ∙ key_behind service_layers body (es ++ e ∷ []) k.read (over-push service_layers body es e k.valid unbroken) (let long : length (es ++ e ∷ []) ≡ length es + 1 = length-append es (e ∷ []) in omega (arith, long))

  -- all requests so far are below it
  pub requests_below : IsLater e.seqno s.gov
  requests_below = let at = (next_over body es e unbroken).0 in let len = end_len body es s k in later_kept body es s k e.seqno (omega (arith, at, len))

  -- and a request that it records follows them
  pub recorded_follows : AllByRecursion (FollowsOver s.gov.base s.gov.requests) (recorded_in e.seqno e.content)
  recorded_follows =
      subst (λ (g : Governed). AllByRecursion (FollowsOver g.base g.requests) (recorded_in e.seqno e.content)) (sym k.governed)
      (subst (λ (n : ℕ). AllByRecursion (FollowsOver (governed_base body) (requests_over body es)) (recorded_in n e.content)) (sym (next_over body es e unbroken).0)
      (by_content e.content (λ q reads. follows_over service_layers body es e q (spelled_read body k.read) k.valid unbroken reads)))
    where
      by_content : (c : Content) →
          ((q : GovernanceRequest) → recording_of c ≡ Some (recordings.Governance q) → FollowsOver (governed_base body) (requests_over body es) (record { seqno = body.base + length es + 1; request = q })) →
          AllByRecursion (FollowsOver (governed_base body) (requests_over body es)) (recorded_in (body.base + length es + 1) c)
      by_content (content.Governance bytes) each = go (request_in bytes) refl
        where
          go : (o : Option GovernanceRequest) → request_in bytes ≡ o → AllByRecursion (FollowsOver (governed_base body) (requests_over body es)) (recorded_at (body.base + length es + 1) o)
          go None is = tt
          go (Some q) is = (each q (ap governance_recording is), tt)
      by_content (content.Application bytes) each = tt
      by_content (content.Signature t) each = tt
      by_content (content.Evidence d) each = tt

-- the tables have the writes of an entry after what they stood for
pub record HasWritten (old : kept.Kept) (e : Entry) (new : kept.Kept) : Type 0 where
  pub stands : (ps : List Placed) → StandsFor old ps → StandsFor new (ps ++ placed_at e.seqno e.writes)
  pub base : new.base ≡ old.base
  pub whole : new.compacted ≡ old.compacted

-- an entry that breaks no rule, with its writes and its leaf
pub state-push : (body : Body) (es : List Entry) (old new : LedgerState) (e : Entry) → IsStateOver body es old → broken_over service_layers body es e ≡ None →
    new.base ≡ old.base → new.base_view ≡ old.base_view → new.base_commit ≡ old.base_commit → new.end ≡ end_with old.end e →
    new.signatures.items ≡ old.signatures.items ++ seqno_if (is_signature e.content) e.seqno [] → new.views.items ≡ old.views.items ++ start_if (view_of old.end.last) e →
    new.gov ≡ with_all_recorded old.gov (recorded_in e.seqno e.content) → HasWritten old.tables e new.tables →
    AreReported new.tables new.service_state new.identity →
    ((ps : List Placed) → StandsFor new.tables ps → frontiers.HasLeaves old.frontier new.frontier (old.frontier.leaves ++ leaf_of (identity_in (written_by ps)) e ∷ [])) →
    IsStateOver body (es ++ e ∷ []) new
state-push body es old new e k unbroken base view commit ends signed started recorded written reported grown = record {
  read = k.read;
  valid = over-push service_layers body es e k.valid unbroken;
  named = omega (arith, at.1, long);
  base_is = base ∙ k.base_is;
  base_view_is = view ∙ k.base_view_is;
  base_commit_is = commit ∙ k.base_commit_is;
  ends = ends ∙ ap (λ (end : LedgerEnd). end_with end e) k.ends ∙ sym (end_over-push body es e);
  signed = signed ∙ ap₂ (λ (ss : List ℕ) (n : ℕ). ss ++ seqno_if (is_signature e.content) n []) k.signed at.0 ∙ sym (seqnos_over-push body es e);
  governed = recorded ∙ ap₂ (λ (g : Governed) (n : ℕ). with_all_recorded g (recorded_in n e.content)) k.governed at.0
      ∙ ap (λ (rs : List Recorded). record { base = governed_base body; requests = rs }) (sym (requests_over-push body es e));
  state_is = reported.state_reported all stands;
  identity_is = reported.identity_reported all stands;
  tables_are = stands;
  tables_from = written.base ∙ k.tables_from;
  compacted = let before = k.compacted in let same = written.whole in omega (arith, before, same, long);
  tree = subst (λ (ls : List (List ℕ)). IsTreeOver body ls new.frontier) (sym (leaves_pushed body es e))
      (tree-push body (leaves_over body es) old.frontier k.tree new.frontier (leaf_of (identity_in (tables_over body (es ++ e ∷ []))) e) (grown all stands));
  views = started ∙ ap₂ (λ (vs : List ViewStart) (view : ℕ). vs ++ start_if view e) k.views (ap (λ (end : LedgerEnd). view_of end.last) k.ends ∙ view_over body es k.read)
      ∙ sym (views_pushed body es e);
}
  where
    at : (e.seqno ≡ body.base + length es + 1) × (body.base + length es + 1 ≤ last_seqno)
    at = next_over body es e unbroken

    long : length (es ++ e ∷ []) ≡ length es + 1
    long = length-append es (e ∷ [])

    all : List Placed
    all = writes_over body (es ++ e ∷ [])

    stands : StandsFor new.tables (writes_over body (es ++ e ∷ []))
    stands = subst (StandsFor new.tables) (sym (writes_over-push body es e)) (written.stands (writes_over body es) k.tables_are)

-- ---- a state that is settled

pub state_settled : (body : Body) (es : List Entry) (old new : LedgerState) → IsStateOver body es old → new.base ≡ old.base → new.base_view ≡ old.base_view → new.base_commit ≡ old.base_commit → new.end ≡ old.end →
    new.signatures.items ≡ old.signatures.items → new.views.items ≡ old.views.items → new.gov ≡ old.gov →
    new.service_state ≡ old.service_state → new.identity ≡ old.identity → ((ps : List Placed) → StandsFor old.tables ps → StandsFor new.tables ps) → new.tables.base ≡ old.tables.base →
    (len : ℕ) (peaks : List (List ℕ)) → len ≡ frontiers.count_of old.frontier → new.tables.compacted ≡ max old.tables.compacted len →
    peaks ≡ peaks_over old.frontier.base old.frontier.peaks (take (len - old.frontier.base) old.frontier.leaves) →
    new.frontier.base ≡ len → new.frontier.peaks ≡ peaks → new.frontier.leaves ≡ [] → IsStateOver body es new
state_settled body es old new k base view commit ends signed started governed state identity stood from len peaks whole settled all below are none = record {
  read = k.read;
  valid = k.valid;
  named = k.named;
  base_is = base ∙ k.base_is;
  base_view_is = view ∙ k.base_view_is;
  base_commit_is = commit ∙ k.base_commit_is;
  ends = ends ∙ k.ends;
  signed = signed ∙ k.signed;
  governed = governed ∙ k.governed;
  state_is = state ∙ k.state_is;
  identity_is = identity ∙ k.identity_is;
  tables_are = stood (writes_over body es) k.tables_are;
  tables_from = from ∙ k.tables_from;
  compacted = let before = k.compacted in let count = count_kept body es old k in let all = end_len body es old k in omega (arith, before, settled, whole, count, all);
  tree = tree_settled body (leaves_over body es) old.frontier k.tree new.frontier len peaks whole all below are none;
  views = started ∙ k.views;
}

-- ---- cut entries

pub state-cut : (body : Body) (es : List Entry) (old new : LedgerState) (to : ℕ) → IsStateOver body es old → old.frontier.base ≤ to → to ≤ body.base + length es → old.tables.compacted ≤ to →
    new.base ≡ old.base → new.base_view ≡ old.base_view → new.base_commit ≡ old.base_commit → new.end ≡ end_over body (take (to - body.base) es) →
    (n : ℕ) → (IsPartitionedBy (λ s. nat_le s to) old.signatures.items → IsPartitionPoint (λ s. nat_le s to ≡ true) (λ s. nat_le s to ≡ false) old.signatures.items n) →
    new.signatures.items ≡ take n old.signatures.items →
    new.views.items ≡ starts_up_to to old.views.items → new.gov ≡ governed_up_to to old.gov →
    ((ps : List Placed) → StandsFor old.tables ps → StandsFor new.tables (up_to to ps)) → new.tables.base ≡ old.tables.base → new.tables.compacted ≡ old.tables.compacted →
    AreReported new.tables new.service_state new.identity → frontiers.HasLeaves old.frontier new.frontier (take (to - old.frontier.base) old.frontier.leaves) →
    IsStateOver body (take (to - body.base) es) new
state-cut body es old new to k low high whole base view commit ends n few taken started fewer stood from settled reported left = record {
  read = k.read;
  valid = over-take service_layers body es (to - body.base) k.valid;
  named = omega (arith, long, high, above, all_named);
  base_is = base ∙ k.base_is;
  base_view_is = view ∙ k.base_view_is;
  base_commit_is = commit ∙ k.base_commit_is;
  ends = ends;
  signed = taken ∙ ap (take n) k.signed ∙ sym (seqnos_over-take body es to n above point);
  governed = fewer ∙ ap (governed_up_to to) k.governed ∙ ap (λ (rs : List Recorded). record { base = governed_base body; requests = rs }) (sym (requests_over-take body es to above));
  state_is = reported.state_reported (writes_over body (take (to - body.base) es)) stands;
  identity_is = reported.identity_reported (writes_over body (take (to - body.base) es)) stands;
  tables_are = stands;
  tables_from = from ∙ k.tables_from;
  compacted = omega (arith, settled, whole, long, above);
  tree = subst (λ (ls : List (List ℕ)). IsTreeOver body ls new.frontier) (sym (leaves_over-take body es (to - body.base)))
      (tree-cut body (leaves_over body es) old.frontier k.tree new.frontier to low (let leaves = length-leaves_over body es in omega (arith, high, leaves)) left);
  views = started ∙ ap (starts_up_to to) k.views ∙ sym (starts_over-take body es to k.read numbered above);
}
  where
    above : body.base ≤ to
    above = let from_base = k.tree.from_base in omega (arith, from_base, low)

    all_named : body.base + length es ≤ last_seqno
    all_named = k.named

    long : length (take (to - body.base) es) ≡ to - body.base
    long = length-take-le (to - body.base) es (omega (arith, high))

    numbered : CountFrom (suc body.base) es
    numbered i e at = let place = numbered_over service_layers body es k.valid i e at in omega (arith, place)

    point : IsPartitionPoint (λ s. nat_le s to ≡ true) (λ s. nat_le s to ≡ false) (seqnos_over body es) n
    point =
        subst (λ (ss : List ℕ). IsPartitionPoint (λ s. nat_le s to ≡ true) (λ s. nat_le s to ≡ false) ss n) k.signed
        (few (subst (IsPartitionedBy (λ s. nat_le s to)) (sym k.signed) (seqnos_over-partitioned body es to)))

    stands : StandsFor new.tables (writes_over body (take (to - body.base) es))
    stands = subst (StandsFor new.tables) (sym (writes_over-take body es to numbered above)) (stood (writes_over body es) k.tables_are)
