-- What each event of a load comes to: nothing is refused.
use Rattle.std.proofs.Common.{◌≡◌, ℕ, suc, ◌+◌, ◌<◌, ◌≤◌, ◌==◌, List, [], ◌∷◌, ◌++◌, length, nat_le, nat_lt, Option, None, Some, Result, Ok, Err, Bool, true, false, refl, sym, ◌∙◌, ap, subst, arith, length-append, if◌then◌else◌}
use Rattle.std.proofs.lemmas.Bool.Decides.{nat_tests}
use Rattle.std.proofs.lemmas.List.Elements.{filter-append}
use Rattle.gl_base.specs.TxId.{last_seqno}
use Rattle.gl_hss.specs.declared.types.Types.TheVariants.{H10W4}
use Rattle.gl_hss.specs.Secrets.{public_of}
use Rattle.gl_hss.specs.Tree.{key_bytes}
use Rattle.gl_hss.proofs.Octets.{seed_IsKey}
use Rattle.gl_rules.specs.Identity.{NodeId}
use Rattle.gl_rules.specs.Log.{entry_at, is_signature_in}
use Rattle.gl_rules.specs.Node.{Leader, Node, Role}
use Rattle.gl_rules.specs.Outcome.{Accepted, Done, KeyExhausted, NotReserved, NothingToSign, Refused, Signed, Step, quiet, refuse}
use Rattle.gl_rules.specs.Replication.{advance, commit_to, greatest_to_commit}
use Rattle.gl_rules.specs.Requests.{append_result, append_signature, execute_request, reserve, sign, sign_as_leader, submit}
use Rattle.gl_rules.specs.Steps.{append_entry, as_leader}
use Rattle.gl_rules.specs.World.{leader_at_start}
use Rattle.gl_rules.proofs.Lists.{push_get}
use Rattle.gl_tx.specs.declared.request.Answer.TheVariants as answers
use Rattle.gl_entry.specs.Entry.{is_signature}
use Rattle.gl_entry.specs.declared.entry.Entry.{Entry}
use Rattle.gl_requests.specs.declared.genesis.ServiceState.TheVariants.{Open}
use Rattle.gl_ledger.specs.Ledger.{application_entry, genesis_entry}
use Rattle.gl_ledger.specs.LedgerBook.{ServiceBook}
use Rattle.gl_ledger.specs.Makers.{by_store, signature_after, signed_entry}
use Rattle.gl_ledger.specs.NodeKeys.{service_layers}
use Rattle.gl_ledger.specs.Recordings.{key_in}
use Rattle.gl_ledger.specs.ServiceRow.{service_state}
use Rattle.gl_ledger.specs.Tree.{tables_of}
use Rattle.gl_ledger.specs.declared.response.Response.{Response}
use Rattle.gl_ledger.specs.declared.response.Response.TheVariants.{Replied}
use Rattle.gl_ledger.specs.declared.response.Rejection.{Rejection}
use Rattle.gl_ledger.specs.declared.refusal.Refusal.TheVariants.{SeqnoLimit}
use Rattle.gl_ledger.proofs.Applications.{execute_within, request_made}
use Rattle.gl_ledger.proofs.Openings.{state_of_opening}
use Rattle.gl_ledger.proofs.TablesLaws.{tables_of-push}
use Rattle.gl_world.specs.Service.{ServiceEvent}
use Rattle.gl_world.proofs.Founded.{IsFoundedBy, leader_key, leader_signs_with_key}
use Rattle.gl_world.proofs.Leading.{leader_executes}
use Rattle.gl_world.specs.Keys.{node_seed}
use Rattle.gl_load.specs.Events.{node_after}
use Rattle.gl_load.specs.Founding.{load_book, load_genesis, load_id, load_keys, load_node, load_settings, load_start}
use Rattle.gl_load.specs.Node.{IsRefused}
use Rattle.gl_load.specs.Report.{signatures_in}
use Rattle.gl_load.specs.Requests.{load_request}
use Rattle.gl_load.proofs.Founded.{load_begins, load_fits}
use Rattle.gl_load.proofs.Running.{load_is_request, load_ran, load_runs, load_short, load_small, load_state}

-- what is known of the node: its ledger is whole, it leads, the service is open, its ledger has so many entries, and so
-- many leaves are used and reserved, one for each signature
pub record IsAt (n : Node Entry) (len used reserved : ℕ) : Type 0 where
  pub whole : n.base ≡ 0
  pub leads : n.role ≡ Leader
  pub long : length n.log ≡ len
  pub signs : length (signatures_in n.log) ≡ used
  pub used_is : n.used ≡ used
  pub reserved_is : n.reserved ≡ reserved
  pub is_open : service_state (tables_of n.log) ≡ Open

-- the last entry is no signature of its view
abbrev pub IsUnsigned : List ℕ → Node Entry → Type 0
IsUnsigned seed n = is_signature_in (load_book seed) n.view (entry_at n.log (length n.log)) ≡ false

-- as it begins
pub at_start : (seed : List ℕ) → IsAt (leader_at_start (load_start seed)) 2 1 1
at_start seed = record {
  whole = refl;
  leads = refl;
  long = refl;
  signs = refl;
  used_is = refl;
  reserved_is = refl;
  is_open = state_of_opening (load_genesis seed) (load_id seed) (signature_after (load_keys seed) (load_id seed) 0 (genesis_entry (load_genesis seed) ∷ []) 2 2);
}

pub length-push : (log : List Entry) (e : Entry) → length (log ++ e ∷ []) ≡ length log + 1
length-push log e = length-append log (e ∷ [])

pub length-signatures : (log : List Entry) (e : Entry) → length (signatures_in (log ++ e ∷ [])) ≡ length (signatures_in log) + length (signatures_in (e ∷ []))
length-signatures log e = ap length (filter-append (λ (f : Entry). is_signature f.content) log (e ∷ [])) ∙ length-append (signatures_in log) (signatures_in (e ∷ []))

-- the entry at the end
at_end : (log : List Entry) (e : Entry) → entry_at (log ++ e ∷ []) (length (log ++ e ∷ [])) ≡ Some e
at_end log e = ap (entry_at (log ++ e ∷ [])) (let r : length (log ++ e ∷ []) ≡ suc (length log) = omega (arith, length-push log e) in r) ∙ push_get log e

module _ (seed : List ℕ) (events : List ServiceEvent) (len used reserved : ℕ) (at : IsAt (node_after seed events) len used reserved) where
  abbrev n : Node Entry
  n = node_after seed events

  abbrev b : ServiceBook
  b = load_book seed

  abbrev x : NodeId
  x = load_id seed

  -- ---- a request

  module _ (i : ℕ) (left : len < last_seqno) where
    abbrev e : Entry
    e = application_entry n.log n.view (load_request seed i) (load_ran seed i)

    executed : b.execute n.log n.view (load_request seed i) ≡ Ok (e, Replied (answers.Done ∷ []))
    executed =
        leader_executes service_layers (load_keys seed) (load_start seed) (load_begins seed) events x at.leads (load_request seed i)
        ∙ request_made n.log n.view (load_request seed i) e (answers.Done ∷ []) (load_is_request seed i)
        (execute_within n.log n.view (load_request seed i) (load_ran seed i) e at.is_open (load_runs seed i (tables_of n.log)) refl (load_small seed i n.log n.view) load_short (omega (arith, left, at.long)))

    submits : submit b (load_request seed i) n ≡ quiet (append_entry n e) (Accepted n.view (length n.log + 1) (Replied (answers.Done ∷ [])))
    unfolding submit
    submits =
        ap (λ (r : Role). as_leader r n (execute_request b (load_request seed i) n)) at.leads
        ∙ ap (λ (r : Result (Entry × Response) Rejection). append_result b n r) executed

    pub submit_unrefused : IsRefused (submit b (load_request seed i) n).outcome → ⊥
    submit_unrefused r = let w = sym (ap (λ (s : Step Entry Response Rejection). s.outcome) submits) ∙ r.1 in cc

    pub submit_at : IsAt (submit b (load_request seed i) n).node (len + 1) used reserved
    submit_at = subst (λ (s : Step Entry Response Rejection). IsAt s.node (len + 1) used reserved) (sym submits) (record {
      whole = at.whole;
      leads = at.leads;
      long = length-push n.log e ∙ ap (λ (k : ℕ). k + 1) at.long;
      signs = length-signatures n.log e ∙ omega (arith, at.signs);
      used_is = at.used_is;
      reserved_is = at.reserved_is;
      is_open = ap service_state (tables_of-push n.log e) ∙ load_state seed i (tables_of n.log) ∙ at.is_open;
    })

    pub submit_unsigned : IsUnsigned seed (submit b (load_request seed i) n).node
    submit_unsigned =
        subst (λ (s : Step Entry Response Rejection). IsUnsigned seed s.node) (sym submits) (ap (is_signature_in b n.view) (at_end n.log e))

  -- ---- a leaf

  module _ (room : reserved < 1024) where
    reserves : reserve b x n ≡ quiet (record n { reserved = n.reserved + 1 }) Done
    unfolding reserve
    reserves =
        let full : nat_le 1024 n.reserved ≡ false = grind (arith, nat_tests, at.reserved_is) in
        ap (λ (t : Bool). if t then refuse n (KeyExhausted n.reserved) else quiet (record n { reserved = n.reserved + 1 }) Done) full

    pub reserve_unrefused : IsRefused (reserve b x n).outcome → ⊥
    reserve_unrefused r = let w = sym (ap (λ (s : Step Entry Response Rejection). s.outcome) reserves) ∙ r.1 in cc

    pub reserve_at : IsAt (reserve b x n).node len used (reserved + 1)
    reserve_at = subst (λ (s : Step Entry Response Rejection). IsAt s.node len used (reserved + 1)) (sym reserves) (record {
      whole = at.whole;
      leads = at.leads;
      long = at.long;
      signs = at.signs;
      used_is = at.used_is;
      reserved_is = ap (λ (k : ℕ). k + 1) at.reserved_is;
      is_open = at.is_open;
    })

    pub reserve_unsigned : IsUnsigned seed n → IsUnsigned seed (reserve b x n).node
    reserve_unsigned none = subst (λ (s : Step Entry Response Rejection). IsUnsigned seed s.node) (sym reserves) none

  -- ---- a signature

  module _ (spare : used < reserved) (room : reserved ≤ 1024) (left : len < last_seqno) (none : IsUnsigned seed n) where
    abbrev f : Entry
    f = signed_entry (load_keys seed) x n.used n.log n.view n.commit

    founded : IsFoundedBy service_layers (load_start seed) (load_genesis seed)
    founded = record { begins = load_begins seed; fits = load_fits seed; first = refl }

    own : key_in n.log x ≡ key_bytes (public_of ((load_keys seed).key_of x))
    own = leader_key service_layers (load_keys seed) (load_start seed) (load_genesis seed) founded events x at.leads 0 (load_node seed) refl refl

    signing : b.sign x n.used n.log n.view n.commit ≡ Ok f
    signing =
        let low : n.used < 1024 = omega (arith, at.used_is, spare, room) in
        let few : nat_lt (length n.log) last_seqno ≡ true = grind (arith, nat_tests, at.long, left) in
        leader_signs_with_key (load_keys seed) (load_start seed) (load_begins seed) events x at.leads (seed_IsKey H10W4 (node_seed (load_settings seed) 1)) n.used low own
        ∙ ap (λ (t : Bool). by_store (if t then Ok f else Err SeqnoLimit)) few

    signs : sign b x n ≡ quiet (record (append_entry n f) { used = n.used + 1 }) (Signed n.view (length n.log + 1))
    unfolding sign
    signs =
        let unused : (n.used == n.reserved) ≡ false = grind (arith, nat_tests, at.used_is, at.reserved_is, spare) in
        let made = append_signature b n (b.sign x n.used n.log n.view n.commit) in
        let unless = if is_signature_in b n.view (entry_at n.log (length n.log)) then refuse n (NothingToSign (length n.log)) else made in
        ap (λ (r : Role). as_leader r n (sign_as_leader b x n)) at.leads
        ∙ ap (λ (t : Bool). if t then refuse n (NotReserved n.reserved) else unless) unused
        ∙ ap (λ (t : Bool). if t then refuse n (NothingToSign (length n.log)) else made) none
        ∙ ap (λ (r : Result Entry Rejection). append_signature b n r) signing

    pub sign_unrefused : IsRefused (sign b x n).outcome → ⊥
    sign_unrefused r = let w = sym (ap (λ (s : Step Entry Response Rejection). s.outcome) signs) ∙ r.1 in cc

    pub sign_at : IsAt (sign b x n).node (len + 1) (used + 1) reserved
    sign_at = subst (λ (s : Step Entry Response Rejection). IsAt s.node (len + 1) (used + 1) reserved) (sym signs) (record {
      whole = at.whole;
      leads = at.leads;
      long = length-push n.log f ∙ ap (λ (k : ℕ). k + 1) at.long;
      signs = length-signatures n.log f ∙ ap (λ (k : ℕ). k + 1) at.signs;
      used_is = ap (λ (k : ℕ). k + 1) at.used_is;
      reserved_is = at.reserved_is;
      is_open = ap service_state (tables_of-push n.log f) ∙ at.is_open;
    })

  -- ---- a commit

  advances : advance b x n ≡ commit_to b n (greatest_to_commit b x n (length n.log))
  unfolding advance
  advances = ap (λ (r : Role). as_leader r n (commit_to b n (greatest_to_commit b x n (length n.log)))) at.leads

  pub advance_unrefused : IsRefused (advance b x n).outcome → ⊥
  advance_unrefused r = go (greatest_to_commit b x n (length n.log)) (sym (ap (λ (s : Step Entry Response Rejection). s.outcome) advances) ∙ r.1)
    where
      go : (o : Option ℕ) → (commit_to {F = Rejection} b n o).outcome ≡ Refused r.0 → ⊥
      go None is = cc
      go (Some seqno) is = cc

  pub advance_at : IsAt (advance b x n).node len used reserved
  advance_at = subst (λ (s : Step Entry Response Rejection). IsAt s.node len used reserved) (sym advances) (go (greatest_to_commit b x n (length n.log)))
    where
      go : (o : Option ℕ) → IsAt (commit_to {F = Rejection} b n o).node len used reserved
      go None = at
      go (Some seqno) = record { whole = at.whole; leads = at.leads; long = at.long; signs = at.signs; used_is = at.used_is; reserved_is = at.reserved_is; is_open = at.is_open }
