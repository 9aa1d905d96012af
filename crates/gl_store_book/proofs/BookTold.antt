-- What the calls of a node's book tell of each ledger that its entries stand for behind a base.
use Rattle.std.proofs.Common.{◌≡◌, ◌≢◌, ⊎_elim, ℕ, zero, suc, ◌+◌, ◌-◌, ◌<◌, ◌≤◌, nat_lt, List, [], ◌∷◌, length, take, take_all, drop, max, map, Option, Some, None, Bool, true, false, ◌&&◌, ◌==◌, if◌then◌else◌, option_map, refl, sym, ◌∙◌, ap, subst, arith}
use Rattle.std.specs.Prelude.{unwrap_or}
use Rattle.std.proofs.lemmas.Bool.{cases_lt}
use Rattle.std.proofs.lemmas.Bool.Decides.{nat_tests}
use Rattle.std.proofs.lemmas.List.{length-take}
use Rattle.gl_rules.specs.Identity.{NodeId}
use Rattle.gl_rules.specs.Log as logs
use Rattle.gl_rules.specs.Log.{entry_at, greatest_recorded, is_signature_in, last_signature}
use Rattle.gl_rules.specs.Replication.{batch, greatest_evidence, is_evidence_at, is_reached}
use Rattle.gl_entry.specs.Entry.{is_signature, recorded_commit}
use Rattle.gl_entry.specs.declared.entry.Content.{Content}
use Rattle.gl_entry.specs.declared.entry.Content.TheVariants as content
use Rattle.gl_entry.specs.declared.entry.Entry.{Entry}
use Rattle.gl_requests.specs.Ranges.{is_request}
use Rattle.gl_requests.specs.declared.request.GovernanceRequest.TheVariants as requests
use Rattle.gl_gov_rules.specs.History.{History}
use Rattle.gl_gov_rules.specs.Refusals.{mark_refusal}
use Rattle.gl_gov_rules.specs.GovernedRows.{history_over}
use Rattle.gl_gov_rules.specs.Nodes as nodes
use Rattle.gl_gov_rules.specs.declared.change.Recorded.{Recorded}
use Rattle.gl_gov_rules.specs.declared.change.RecordedNode.{RecordedNode}
use Rattle.gl_snapshot_body.specs.declared.body.Body.{Body}
use Rattle.gl_ledger.specs.Audit.{audited_over}
use Rattle.gl_ledger.specs.Behind.{IsReadAt, IsReadBody}
use Rattle.gl_ledger.specs.NodeKeys.{NodeKeys, service_layers}
use Rattle.gl_ledger.specs.LedgerBook.{ServiceBook, by_refusal}
use Rattle.gl_ledger.specs.Past.{last_signed, last_signed_over, past_at, past_over}
use Rattle.gl_ledger.specs.Recordings.{mark, recorded_nodes, removal}
use Rattle.gl_ledger.specs.Snapshot.{governed_base, greatest_from, greatest_with, requests_over, view_at}
use Rattle.gl_audit.specs.Ends.{end_at, end_over}
use Rattle.gl_audit.specs.GovState.{governed_up_to, history_of}
use Rattle.gl_audit.specs.Kept.{IsStateOver}
use Rattle.gl_audit.specs.declared.ledger_state.LedgerState.{LedgerState}
use Rattle.gl_audit.proofs.Cutting.{requests_over-take}
use Rattle.gl_audit.proofs.PastOver.{history_kept, mark_read, nodes_read, removal_read}
use Rattle.gl_ledger_base.specs.Ledgers.{HoldsLedger}
use Rattle.gl_ledger_base.proofs.LedgersGuarded.{refused_mark}
use Rattle.gl_ledger_base.proofs.LedgersHeld.{held_alike, held_audited, held_length}
use Rattle.gl_ledger_base.proofs.LedgersRead.{is_read}
use Rattle.gl_ledger_base.proofs.LedgersReads.{held_rest, read_at_base, read_behind, read_evidence, read_signature, read_signature_upto, read_view}
use Rattle.gl_ledger_base.proofs.LedgersTrusted.{nodes_upto, read_mark, read_removal}
use Rattle.gl_ledger_base.proofs.LedgersWhole.{base_signed}
use Rattle.gl_store.specs.Tail.{StandsBehind, Tail}
use Rattle.gl_store_book.specs.BasedLedgers.{BasedLedger, body_of}
use Rattle.gl_store_book.specs.Lists.{nodes_of}
use Rattle.gl_store_book.proofs.AllLedgers.{book}
use Rattle.gl_store_book.proofs.Commits.{last_same, signed_within}

-- ---- what is shown of a node's ledger

module _ (l m : BasedLedger) (t : Tail) (same : l ≡ m) (entries : t.entries ≡ l.entries) (stands : StandsBehind (body_of l.snapshot) t) where
  pub entries_shown : t.entries ≡ m.entries
  entries_shown = entries ∙ ap (λ (x : BasedLedger). x.entries) same

  pub tail_shown : StandsBehind (body_of m.snapshot) t
  tail_shown = subst (λ (x : BasedLedger). StandsBehind (body_of x.snapshot) t) same stands

  -- their state
  pub state_shown : (s : LedgerState) → s ≡ t.state → IsStateOver (body_of m.snapshot) m.entries s
  state_shown s is =
      subst (λ (x : LedgerState). IsStateOver (body_of m.snapshot) m.entries x) (sym is)
      (subst (λ (es : List Entry). IsStateOver (body_of m.snapshot) es t.state) entries_shown tail_shown.stands)

-- ---- of entries behind a base

module _ (body : Body) (es : List Entry) where
  -- where no signature stands behind a base the last one stands at it
  signed_over : (past_over body es).last_signed ≡ last_signed_over body es
  signed_over = go body.base refl
    where
      whole : (m : ℕ) (t : Bool) → (m == 0) ≡ t → body.base ≡ 0 → m ≡ (if t then body.base else body.base + m)
      whole m true is none = let zero_here : m ≡ 0 = grind (arith, nat_tests, is) in omega (arith, zero_here, none)
      whole m false is none = omega (arith, none)

      go : (n : ℕ) → body.base ≡ n → (past_at n body es).last_signed ≡ last_signed_over body es
      go zero is = whole (last_signed es) (last_signed es == 0) refl is
      go (suc n) is = refl

  within : (m : ℕ) (t : Bool) → m ≤ length es → (body.base ≤ (if t then body.base else body.base + m)) × ((if t then body.base else body.base + m) ≤ body.base + length es)
  within m true low = (omega arith, omega arith)
  within m false low = (omega arith, omega (arith, low))

  -- it stands at the base or behind it, and no higher than the last entry
  pub signed_between : (n : ℕ) → n ≡ (past_over body es).last_signed → (body.base ≤ n) × (n ≤ body.base + length es)
  signed_between n is =
      let both = within (last_signed es) (last_signed es == 0) (signed_within es) in
      let at : n ≡ last_signed_over body es = is ∙ signed_over in
      (subst (λ (k : ℕ). body.base ≤ k) (sym at) both.0, subst (λ (k : ℕ). k ≤ body.base + length es) (sym at) both.1)

  -- the commit that is recorded last
  end_commit : (end_over body es).commit ≡ (past_over body es).last_commit
  end_commit = go body.base
    where
      go : (n : ℕ) → (end_at n body es).commit ≡ (past_at n body es).last_commit
      go zero = refl
      go (suc n) = refl

  -- requests of governance
  pub history_told : IsReadBody body → (past_over body es).history ≡ history_over (governed_base body) (requests_over body es)
  history_told read = go body.base read
    where
      go : (n : ℕ) → IsReadAt n body → (past_at n body es).history ≡ history_over (governed_base body) (requests_over body es)
      go zero none = sym (ap (λ (x : Body). history_over (governed_base x) (requests_over x es)) none)
      go (suc n) x = refl

-- those up to a seqno are those of the first entries
pub history_cut : (body : Body) (es : List Entry) (seqno : ℕ) → IsReadBody body → body.base ≤ seqno →
    history_of (governed_up_to seqno (record { base = governed_base body; requests = requests_over body es })) ≡ (past_over body (take (seqno - body.base) es)).history
history_cut body es seqno read low =
    ap (λ (rs : List Recorded). history_over (governed_base body) rs) (sym (requests_over-take body es seqno low))
    ∙ sym (history_told body (take (seqno - body.base) es) read)

-- the greatest commit is that of a start and of those that are recorded
greatest_all : (keys : NodeKeys) (commit : ℕ) (log : List Entry) → greatest_from commit log ≡ max commit (greatest_recorded (book keys) log)
unfolding greatest_recorded
greatest_all keys commit [] = omega arith
greatest_all keys commit (e ∷ es) = go e.content (greatest_all keys (greatest_with commit e.content) es)
  where
    go : (c : Content) → greatest_from (greatest_with commit c) es ≡ max (greatest_with commit c) (greatest_recorded (book keys) es) →
        greatest_from (greatest_with commit c) es ≡ max commit (max (if is_signature c then recorded_commit c else 0) (greatest_recorded (book keys) es))
    go (content.Signature s) h = omega (arith, h)
    go (content.Governance bytes) h = omega (arith, h)
    go (content.Application bytes) h = omega (arith, h)
    go (content.Evidence d) h = omega (arith, h)

rest_few : {X : Type 0} (n : ℕ) (xs : List X) → length (drop n xs) ≤ length xs - n
rest_few zero xs = omega arith
rest_few (suc n) [] = omega arith
rest_few (suc n) (x ∷ xs) = let few = rest_few n xs in omega (arith, few)

-- all that are left
pub rest_all : {X : Type 0} (n : ℕ) (xs : List X) → take (length xs - n) (drop n xs) ≡ drop n xs
rest_all n xs = take_all (length xs - n) (drop n xs) (rest_few n xs)

past_all : {X : Type 0} (xs : List X) (n : ℕ) → length xs ≤ n → drop n xs ≡ []
past_all [] zero low = refl
past_all [] (suc n) low = refl
past_all (x ∷ xs) zero low = absurd (omega (arith, low))
past_all (x ∷ xs) (suc n) low = past_all xs n (omega (arith, low))

-- ---- of a ledger that they stand for

module _ (keys : NodeKeys) (body : Body) (es log : List Entry) (holds : HoldsLedger service_layers body es log) where
  abbrev b : ServiceBook
  b = book keys

  -- ---- entries

  pub all_behind : es ≡ drop body.base log
  all_behind = sym (held_rest service_layers body es log holds body.base (omega arith) ∙ ap (λ (n : ℕ). drop n es) (let none : body.base - body.base ≡ 0 = omega arith in none))

  pub none_behind : (after : ℕ) → body.base + length es ≤ after → drop after log ≡ []
  none_behind after past = past_all log after (let long = held_length service_layers body es log holds in omega (arith, long, past))

  pub batch_told : (after : ℕ) → body.base ≤ after → batch b (drop (after - body.base) es) ≡ batch b (drop after log)
  batch_told after low = ap (λ (xs : List Entry). batch b xs) (sym (held_rest service_layers body es log holds after low))

  -- ---- views

  pub view_told : (seqno : ℕ) (o : Option ℕ) → (0 < seqno → o ≡ view_at body es seqno) → (seqno ≡ 0 → o ≡ None) → unwrap_or o 0 ≡ logs.view_at b log seqno
  view_told zero o some none = ap (λ (x : Option ℕ). unwrap_or x 0) (none refl)
  view_told (suc n) o some none =
      ap (λ (x : Option ℕ). unwrap_or x 0) (some (omega arith)) ∙ sym (read_view service_layers body es log holds keys (suc n) (omega arith))

  -- ---- signatures

  pub signed_told : (n : ℕ) → n ≡ (past_over body es).last_signed → n ≡ last_signature b log
  signed_told n is = is ∙ signed_over body es ∙ sym (read_signature service_layers body es log holds keys)

  -- the last one up to a seqno
  signed_low : (seqno : ℕ) → last_signature b (take seqno log) ≤ seqno
  signed_low seqno =
      let is = last_same keys (take seqno log) in
      let low = signed_within (take seqno log) in
      let long = length-take seqno log in
      omega (arith, is, low, long)

  pub upto_told : (seqno high n : ℕ) → high ≡ max seqno body.base → (body.base ≤ high → n ≡ (past_over body (take (high - body.base) es)).last_signed) →
      max body.base n ≡ max body.base (last_signature b (take seqno log))
  upto_told seqno high n is told = ⊎_elim
      (λ (below : seqno < body.base).
      let low = signed_low seqno in
      let at : high - body.base ≡ 0 = omega (arith, is, below) in
      let all = (signed_between body (take (high - body.base) es) n (told (omega (arith, is)))).1 in
      let none : length (take (high - body.base) es) ≡ 0 = ap (λ (k : ℕ). length (take k es)) at in
      omega (arith, low, below, all, none))
      (λ (low : body.base ≤ seqno).
      let same : high ≡ seqno = omega (arith, is, low) in
      let here : n ≡ (past_over body (take (seqno - body.base) es)).last_signed = told (omega (arith, is)) ∙ ap (λ (k : ℕ). (past_over body (take (k - body.base) es)).last_signed) same in
      ap (max body.base) (here ∙ signed_over body (take (seqno - body.base) es) ∙ sym (read_signature_upto service_layers body es log holds keys seqno low)))
      (cases_lt seqno body.base)

  -- at the base
  pub base_told : 0 < body.base → (seqno view found : ℕ) → seqno ≡ body.base → found ≡ logs.view_at b log seqno → (found == view) ≡ is_signature_in b view (entry_at log seqno)
  base_told some seqno view found at is =
      let end = base_signed service_layers body es log holds some in
      let there : entry_at log seqno ≡ Some end.0 = ap (entry_at log) at ∙ end.1 in
      let known : found ≡ body.view = is ∙ ap (logs.view_of_entry b) there ∙ end.3 in
      ap (λ (v : ℕ). v == view) known ∙ sym (ap (λ (s : ℕ). is_signature_in b view (entry_at log s)) at ∙ read_at_base service_layers body es log holds keys some view)

  -- and behind it
  pub behind_told : (seqno view : ℕ) → body.base ≤ seqno → (0 < seqno → seqno ≡ body.base → ⊥) → is_signature_in b view (entry_at es (seqno - body.base)) ≡ is_signature_in b view (entry_at log seqno)
  behind_told zero view low other =
      let none : zero - body.base ≡ 0 = omega arith in
      ap (λ (n : ℕ). is_signature_in b view (entry_at es n)) none
  behind_told (suc n) view low other =
      sym (read_behind service_layers body es log holds keys (suc n) (let apart : suc n ≢ body.base = other (omega arith) in omega (arith, low, apart)) view)

  -- ---- evidences

  none_up : (seqno : ℕ) → seqno ≤ body.base → greatest_evidence b log body.base seqno ≡ None
  unfolding greatest_evidence
  none_up zero low = refl
  none_up (suc n) low =
      ap (λ (above : Bool). if above && is_evidence_at b (entry_at log (suc n)) then Some (suc n) else greatest_evidence b log body.base n)
      (let high : nat_lt body.base (suc n) ≡ false = grind (arith, nat_tests, low) in high)
      ∙ none_up n (omega (arith, low))

  none_at_first : greatest_evidence b es 0 0 ≡ None
  unfolding greatest_evidence
  none_at_first = refl

  pub evidence_told : (seqno : ℕ) → option_map (λ (n : ℕ). body.base + n) (greatest_evidence b es 0 (seqno - body.base)) ≡ greatest_evidence b log body.base seqno
  evidence_told seqno = ⊎_elim
      (λ (below : seqno < body.base).
      ap (λ (k : ℕ). option_map (λ (n : ℕ). body.base + n) (greatest_evidence b es 0 k)) (let none : seqno - body.base ≡ 0 = omega (arith, below) in none)
      ∙ ap (λ (o : Option ℕ). option_map (λ (n : ℕ). body.base + n) o) none_at_first ∙ sym (none_up seqno (omega (arith, below))))
      (λ (low : body.base ≤ seqno). sym (read_evidence service_layers body es log holds keys seqno low))
      (cases_lt seqno body.base)

  module _ (valid : audited_over service_layers body es ≡ None) where
    -- ---- commits

    -- the commit that is recorded last is the greatest
    pub commit_told : (end_over body es).commit ≡ greatest_recorded b log
    commit_told =
        let read = is_read service_layers body.base log (held_audited service_layers body es log holds valid) in
        let all = greatest_all keys 0 log in
        end_commit body es ∙ (held_alike service_layers body es log holds valid).last_commit ∙ sym read.greatest ∙ all ∙ (let least : max 0 (greatest_recorded b log) ≡ greatest_recorded b log = omega arith in least)

    -- which is no greater than the seqno of the last entry
    pub commit_within : greatest_recorded b log ≤ body.base + length es
    commit_within =
        let read = is_read service_layers body.base log (held_audited service_layers body es log holds valid) in
        let all = greatest_all keys 0 log in
        let low = read.within in
        let same = read.greatest in
        let long = held_length service_layers body es log holds in
        omega (arith, all, low, same, long)

    -- ---- nodes

    pub nodes_told : (seqno : ℕ) → IsReadBody body → body.base ≤ seqno →
        nodes_of (governed_up_to seqno (record { base = governed_base body; requests = requests_over body es })) ≡ recorded_nodes (take seqno log)
    nodes_told seqno read low =
        ap (λ (h : History). map (λ (n : RecordedNode). n.id) (nodes.nodes h)) (history_cut body es seqno read low)
        ∙ sym (nodes_upto service_layers body es log holds valid seqno low ∙ nodes_read body (take (seqno - body.base) es))

    module _ (s : LedgerState) (state : IsStateOver body es s) (past : History) (is : past ≡ history_of s.gov) where
      past_told : past ≡ (past_over body es).history
      past_told = is ∙ sym (history_kept body es s state)

      pub removal_told : (y : NodeId) (o : Option RecordedNode) → o ≡ nodes.node past y → nodes.removal_of past o ≡ removal log y
      unfolding nodes.removal
      removal_told y o found =
          ap (nodes.removal_of past) found ∙ ap (λ (h : History). nodes.removal_of h (nodes.node h y)) past_told
          ∙ sym (read_removal service_layers body es log holds valid y ∙ removal_read body es y)

      pub mark_told : (y : NodeId) (o : Option ℕ) (commit : ℕ) → o ≡ nodes.mark past y → body.base ≤ commit → is_reached o commit ≡ is_reached (mark log y) commit
      mark_told y o commit found low =
          ap (λ (x : Option ℕ). is_reached x commit) (found ∙ ap (λ (h : History). nodes.mark h y) past_told ∙ sym (mark_read body es y))
          ∙ sym (read_mark service_layers body es log holds valid y commit low)

      pub mark_refusal_told : (x : NodeId) → is_request (requests.Mark x) ≡ true → by_refusal (mark_refusal past x) ≡ b.mark_refusal log x
      mark_refusal_told x fits =
          ap (λ (h : History). by_refusal (mark_refusal h x)) past_told ∙ refused_mark service_layers body es log holds valid keys x fits
