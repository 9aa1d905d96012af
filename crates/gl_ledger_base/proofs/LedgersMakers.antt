-- After pasts of which the makers read the same, requests, evidences and signatures make the same.
use Rattle.std.proofs.Common.{◌≡◌, ℕ, ◌+◌, ◌<◌, List, length, Option, Some, None, Result, Ok, Err, Bool, true, false, ◌||◌, if◌then◌else◌, refl, sym, ◌∙◌, ap, arith}
use Rattle.gl_rules.specs.Identity.{NodeId}
use Rattle.gl_vmaps.specs.Tables.{Tables}
use Rattle.gl_tx.specs.Request as applications
use Rattle.gl_tx.specs.Run.{run}
use Rattle.gl_tx.specs.declared.runs.Ran.{Ran}
use Rattle.gl_tx.specs.declared.abort.Abort.{Abort}
use Rattle.gl_tx.specs.declared.request.Operation.{Operation}
use Rattle.gl_entry.specs.Entry.{body_bytes}
use Rattle.gl_requests.specs.Ranges.{is_request}
use Rattle.gl_requests.specs.declared.genesis.ServiceState.{ServiceState}
use Rattle.gl_requests.specs.declared.genesis.ServiceState.TheVariants.{Opening, Open, WaitingForRecoveryShares}
use Rattle.gl_requests.specs.declared.request.GovernanceRequest.{GovernanceRequest}
use Rattle.gl_gov_rules.specs.declared.change.Recorded.{Recorded}
use Rattle.gl_gov_rules.specs.declared.refusal.GovernanceRefusal.{GovernanceRefusal}
use Rattle.gl_gov_rules.specs.Governed.{is_founding, is_recovery}
use Rattle.gl_gov_rules.specs.ProposalStatus.{proposal_status}
use Rattle.gl_gov_rules.specs.Refusals.{refusal}
use Rattle.gl_ledger.specs.Broken.{effect_after}
use Rattle.gl_ledger.specs.Ledger.{application_after, execute_after, execute_state, governance_after, message_of, run_after, sign_after, within_limits_after, within_named, within_size}
use Rattle.gl_ledger.specs.Makers.{accepted_after, by_store, evidence_result, governed_within_after, govern_after, request_after, status_with, unless_refused, with_reply}
use Rattle.gl_ledger.specs.Past.{Past}
use Rattle.gl_ledger.specs.ServiceRow.{service_state}
use Rattle.gl_ledger.specs.declared.response.Response.TheVariants.{Governed}
use Rattle.gl_ledger.specs.declared.response.Rejection.TheVariants.{Unencodable, Founding}
use Rattle.gl_ledger_base.specs.Ledgers.{AreAlike}

-- What the makers read of two pasts is the same.
pub record MakeAlike (p q : Past) : Type 0 where
  pub len : p.len ≡ q.len
  pub last : p.last ≡ q.last
  pub tables : p.tables ≡ q.tables
  pub root : p.root ≡ q.root
  pub snapshot : p.snapshot ≡ q.snapshot
  pub refusals : (seqno : ℕ) (g : GovernanceRequest) → p.len < seqno → is_request g ≡ true → refusal p.history seqno g ≡ refusal q.history seqno g
  pub effects : (r : Recorded) → p.len < r.seqno → is_request r.request ≡ true → refusal p.history r.seqno r.request ≡ None → effect_after p r ≡ effect_after q r
  pub statuses : (r : Recorded) (g : GovernanceRequest) → p.len < r.seqno → is_request r.request ≡ true → refusal p.history r.seqno r.request ≡ None →
      proposal_status (p.after r) g ≡ proposal_status (q.after r) g

pub of_alike : (p q : Past) → AreAlike p q → MakeAlike p q
of_alike p q x = record {
  len = x.len;
  last = x.last;
  tables = x.tables;
  root = x.root;
  snapshot = x.snapshot;
  refusals = x.refusals;
  effects = x.effects;
  statuses = x.statuses;
}

module _ (p q : Past) (x : MakeAlike p q) where
  -- ---- requests of applications

  same_run : (view : ℕ) (ops : List Operation) (r : Result Ran Abort) → run_after p view ops r ≡ run_after q view ops r
  same_run view ops (Err abort) = refl
  same_run view ops (Ok ran) = λ i. within_limits_after (x.len i) (application_after (record p { len = x.len i }) view ops ran) ran.reply

  same_state : (view : ℕ) (ops : List Operation) (s : ServiceState) → execute_state s p view ops ≡ execute_state s q view ops
  same_state view ops Open = ap (λ (t : Tables). run_after p view ops (run ops t)) x.tables ∙ same_run view ops (run ops q.tables)
  same_state view ops Opening = refl
  same_state view ops WaitingForRecoveryShares = refl

  same_execute : (view : ℕ) (ops : List Operation) → execute_after p view ops ≡ execute_after q view ops
  same_execute view ops = ap (λ (t : Tables). execute_state (service_state t) p view ops) x.tables ∙ same_state view ops (service_state q.tables)

  pub same_request : (view : ℕ) (ops : List Operation) → request_after p view ops ≡ request_after q view ops
  same_request view ops = λ i. if applications.is_request ops then with_reply (same_execute view ops i) else Err Unencodable

  -- ---- requests of governance

  next : ℕ → GovernanceRequest → Recorded
  next n g = record { seqno = n + 1; request = g }

  above : p.len < p.len + 1
  above = omega arith

  refused : (g : GovernanceRequest) → is_request g ≡ true → refusal p.history (p.len + 1) g ≡ refusal q.history (q.len + 1) g
  refused g fits = x.refusals (p.len + 1) g above fits ∙ ap (λ (n : ℕ). refusal q.history (n + 1) g) x.len

  module _ (g : GovernanceRequest) (fits : is_request g ≡ true) (accepted : refusal p.history (p.len + 1) g ≡ None) where
    same_effect : effect_after p (record { seqno = p.len + 1; request = g }) ≡ effect_after q (record { seqno = q.len + 1; request = g })
    same_effect = x.effects (record { seqno = p.len + 1; request = g }) above fits accepted ∙ ap (λ (n : ℕ). effect_after q (record { seqno = n + 1; request = g })) x.len

    pub same_status : status_with p g ≡ status_with q g
    same_status = x.statuses (record { seqno = p.len + 1; request = g }) g above fits accepted ∙ ap (λ (n : ℕ). proposal_status (q.after (record { seqno = n + 1; request = g })) g) x.len

    pub same_entry : (view : ℕ) → governance_after g p view ≡ governance_after g q view
    same_entry view = λ i. record (governance_after g p view) { seqno = x.len i + 1; writes = same_effect i }

    same_within : (view : ℕ) → governed_within_after p g (governance_after g p view) ≡ governed_within_after q g (governance_after g q view)
    same_within view = λ i. by_store (within_size (length (body_bytes (same_entry view i))) (within_named (x.len i) (same_entry view i, Governed (same_status i))))

  pub same_accepted : (view : ℕ) (g : GovernanceRequest) → is_request g ≡ true → accepted_after p view g ≡ accepted_after q view g
  same_accepted view g fits = go (refusal p.history (p.len + 1) g) refl
    where
      go : (o : Option GovernanceRefusal) → refusal p.history (p.len + 1) g ≡ o → accepted_after p view g ≡ accepted_after q view g
      go None is =
          ap (λ (o : Option GovernanceRefusal). unless_refused o (governed_within_after p g (governance_after g p view))) is
          ∙ same_within g fits is view
          ∙ ap (λ (o : Option GovernanceRefusal). unless_refused o (governed_within_after q g (governance_after g q view))) (sym is ∙ refused g fits)
      go (Some why) is =
          ap (λ (o : Option GovernanceRefusal). unless_refused o (governed_within_after p g (governance_after g p view))) is
          ∙ ap (λ (o : Option GovernanceRefusal). unless_refused o (governed_within_after q g (governance_after g q view))) (sym is ∙ refused g fits)

  pub same_govern : (view : ℕ) (g : GovernanceRequest) → govern_after p view g ≡ govern_after q view g
  same_govern view g = go (is_request g) refl
    where
      go : (b : Bool) → is_request g ≡ b →
          (if b then (if is_founding g || is_recovery g then Err Founding else accepted_after p view g) else Err Unencodable)
          ≡ (if b then (if is_founding g || is_recovery g then Err Founding else accepted_after q view g) else Err Unencodable)
      go false is = refl
      go true is = λ i. if is_founding g || is_recovery g then Err Founding else same_accepted view g is i

  -- ---- evidences and signatures

  pub same_made_evidence : (view : ℕ) → evidence_result p view ≡ evidence_result q view
  same_made_evidence view = λ i. evidence_result (record p { len = x.len i; last = x.last i; snapshot = x.snapshot i }) view

  pub same_message : (view commit : ℕ) → message_of p view commit ≡ message_of q view commit
  same_message view commit = λ i. message_of (record p { len = x.len i; root = x.root i }) view commit

  pub same_sign : (node : NodeId) (signature : List ℕ) (view commit : ℕ) → sign_after node signature p view commit ≡ sign_after node signature q view commit
  same_sign node signature view commit = λ i. sign_after node signature (record p { len = x.len i; root = x.root i }) view commit
