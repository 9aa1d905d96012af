-- Where nodes are removed and marked in ledgers: at the seqno of the entry that brought it, and
-- there it stays.
use Rattle.std.proofs.Common.{◌≡◌, ◌⊎◌, inl, inr, ⊎_elim, ℕ, ◌+◌, ◌<◌, List, [], ◌∷◌, ◌++◌, length, Option, Some, None, false, refl, sym, ◌∙◌, ap, subst, arith}
use Rattle.std.proofs.lemmas.List.{append-nil}
use Rattle.gl_rules.specs.Identity.{NodeId}
use Rattle.gl_entry.specs.Entry.{is_signature}
use Rattle.gl_entry.specs.declared.entry.Content.{Content}
use Rattle.gl_entry.specs.declared.entry.Content.TheVariants as content
use Rattle.gl_entry.specs.declared.entry.Entry.{Entry}
use Rattle.gl_requests.specs.Parsing.{request_in}
use Rattle.gl_requests.specs.declared.request.GovernanceRequest.{GovernanceRequest}
use Rattle.gl_requests.specs.declared.request.GovernanceRequest.TheVariants as requests
use Rattle.gl_gov_rules.specs.declared.change.Recorded.{Recorded}
use Rattle.gl_gov_rules.specs.Changes.{history}
use Rattle.gl_gov_rules.specs.Governed as rules
use Rattle.gl_gov_rules.specs.Nodes as nodes
use Rattle.gl_gov_rules.proofs.Prefixes.{governed_last}
use Rattle.gl_gov_rules.proofs.RemovalLaws.{no_removal, no_mark}
use Rattle.gl_gov_rules.proofs.Removals.{removal_kept, removal_new, mark_kept, mark_new, mark_within}
use Rattle.gl_gov_rules.proofs.Statuses as statuses
use Rattle.gl_ledger.specs.Layers.{Layers}
use Rattle.gl_ledger.specs.Recordings.{recorded_at, recorded_in, requests_of, removal, mark}
use Rattle.gl_ledger.specs.Sound.{IsSound}
use Rattle.gl_ledger.proofs.Growth.{IsNoGovernance}
use Rattle.gl_ledger.proofs.Gathering.{requests-push, requests-quiet, requests-more}
use Rattle.gl_ledger.proofs.Governed.{above, governed}

-- the request that the next entry records
abbrev pub next_recorded : List Entry → GovernanceRequest → Recorded
next_recorded ledger g = record { seqno = length ledger + 1; request = g }

-- an entry that records a request of governance
pub record Records (ledger : List Entry) (e : Entry) (g : GovernanceRequest) : Type 0 where
  pub bytes : List ℕ
  pub encoded : e.content ≡ content.Governance bytes
  pub more : requests_of (ledger ++ e ∷ []) ≡ requests_of ledger ++ next_recorded ledger g ∷ []

-- with one more entry the requests are the same, or one more
pub recorded_or : (ledger : List Entry) (e : Entry) → (requests_of (ledger ++ e ∷ []) ≡ requests_of ledger) ⊎ ((g : GovernanceRequest) × Records ledger e g)
recorded_or ledger e = go e.content refl
  where
    quiet : (c : Content) → e.content ≡ c → IsNoGovernance c → (requests_of (ledger ++ e ∷ []) ≡ requests_of ledger) ⊎ ((g : GovernanceRequest) × Records ledger e g)
    quiet c is none = inl (requests-quiet ledger e (subst IsNoGovernance (sym is) none))

    unread : (bytes : List ℕ) → e.content ≡ content.Governance bytes → request_in bytes ≡ None → requests_of (ledger ++ e ∷ []) ≡ requests_of ledger
    unread bytes is reads =
        requests-push ledger e
        ∙ ap (λ (rs : List Recorded). requests_of ledger ++ rs) (ap (recorded_in (length ledger + 1)) is ∙ ap (recorded_at (length ledger + 1)) reads)
        ∙ append-nil (requests_of ledger)

    go : (c : Content) → e.content ≡ c → (requests_of (ledger ++ e ∷ []) ≡ requests_of ledger) ⊎ ((g : GovernanceRequest) × Records ledger e g)
    go (content.Application bytes) is = quiet (content.Application bytes) is tt
    go (content.Signature s) is = quiet (content.Signature s) is tt
    go (content.Evidence d) is = quiet (content.Evidence d) is tt
    go (content.Governance bytes) is = read (request_in bytes) refl
      where
        read : (o : Option GovernanceRequest) → request_in bytes ≡ o → (requests_of (ledger ++ e ∷ []) ≡ requests_of ledger) ⊎ ((g : GovernanceRequest) × Records ledger e g)
        read None reads = inl (unread bytes is reads)
        read (Some g) reads = inr (g, record { bytes = bytes; encoded = is; more = requests-more ledger e bytes g is reads })

-- ---- removals

-- no entry removes no node
pub none_removed : (y : NodeId) → removal [] y ≡ None
unfolding removal
none_removed y = no_removal y

-- a removal stays where it is
pub removal_stays : (ledger : List Entry) (e : Entry) (y : NodeId) (seqno : ℕ) → removal ledger y ≡ Some seqno → removal (ledger ++ e ∷ []) y ≡ Some seqno
unfolding removal
removal_stays ledger e y seqno h = ⊎_elim
    (λ (same : requests_of (ledger ++ e ∷ []) ≡ requests_of ledger). ap (λ (rs : List Recorded). nodes.removal (history rs) y) same ∙ h)
    (λ (one : (g : GovernanceRequest) × Records ledger e g).
    ap (λ (rs : List Recorded). nodes.removal (history rs) y) one.1.more ∙ removal_kept (requests_of ledger) (next_recorded ledger one.0) y seqno h)
    (recorded_or ledger e)

-- and comes with the entry that brings it
pub removal_comes : (ledger : List Entry) (e : Entry) (y : NodeId) (seqno : ℕ) → removal (ledger ++ e ∷ []) y ≡ Some seqno → (removal ledger y ≡ Some seqno) ⊎ (seqno ≡ length ledger + 1)
unfolding removal
removal_comes ledger e y seqno h = ⊎_elim
    (λ (same : requests_of (ledger ++ e ∷ []) ≡ requests_of ledger). inl (ap (λ (rs : List Recorded). nodes.removal (history rs) y) (sym same) ∙ h))
    (λ (one : (g : GovernanceRequest) × Records ledger e g).
    removal_new (requests_of ledger) (next_recorded ledger one.0) y seqno (above ledger) (ap (λ (rs : List Recorded). nodes.removal (history rs) y) (sym one.1.more) ∙ h))
    (recorded_or ledger e)

-- ---- marks

-- no entry marks no node
pub none_marked : (y : NodeId) → mark [] y ≡ None
unfolding mark
none_marked y = no_mark y

-- a mark stays where it is
pub mark_stays : (ledger : List Entry) (e : Entry) (y : NodeId) (seqno : ℕ) → mark ledger y ≡ Some seqno → mark (ledger ++ e ∷ []) y ≡ Some seqno
unfolding mark
mark_stays ledger e y seqno h = ⊎_elim
    (λ (same : requests_of (ledger ++ e ∷ []) ≡ requests_of ledger). ap (λ (rs : List Recorded). nodes.mark (history rs) y) same ∙ h)
    (λ (one : (g : GovernanceRequest) × Records ledger e g).
    ap (λ (rs : List Recorded). nodes.mark (history rs) y) one.1.more ∙ mark_kept (requests_of ledger) (next_recorded ledger one.0) y seqno h)
    (recorded_or ledger e)

-- what isn't of governance marks no node
pub mark_quiet : (ledger : List Entry) (e : Entry) → IsNoGovernance e.content → (y : NodeId) (seqno : ℕ) → mark (ledger ++ e ∷ []) y ≡ Some seqno → mark ledger y ≡ Some seqno
unfolding mark
mark_quiet ledger e quiet y seqno h = ap (λ (rs : List Recorded). nodes.mark (history rs) y) (sym (requests-quiet ledger e quiet)) ∙ h

-- a node is marked by its Mark, and by no other request
pub mark_by : (ledger : List Entry) (e : Entry) (g : GovernanceRequest) (y : NodeId) (seqno : ℕ) → Records ledger e g → mark (ledger ++ e ∷ []) y ≡ Some seqno →
    (mark ledger y ≡ Some seqno) ⊎ ((seqno ≡ length ledger + 1) × (g ≡ requests.Mark y))
unfolding mark
mark_by ledger e g y seqno one h = mark_new (requests_of ledger) (next_recorded ledger g) y seqno (ap (λ (rs : List Recorded). nodes.mark (history rs) y) (sym one.more) ∙ h)

-- so a mark comes with the entry that brings it
pub mark_comes : (ledger : List Entry) (e : Entry) (y : NodeId) (seqno : ℕ) → mark (ledger ++ e ∷ []) y ≡ Some seqno → (mark ledger y ≡ Some seqno) ⊎ (seqno ≡ length ledger + 1)
unfolding mark
mark_comes ledger e y seqno h = ⊎_elim
    (λ (same : requests_of (ledger ++ e ∷ []) ≡ requests_of ledger). inl (ap (λ (rs : List Recorded). nodes.mark (history rs) y) (sym same) ∙ h))
    (λ (one : (g : GovernanceRequest) × Records ledger e g). ⊎_elim
    (λ (old : mark ledger y ≡ Some seqno). inl old)
    (λ (new : (seqno ≡ length ledger + 1) × (one.0 ≡ requests.Mark y)). inr new.0)
    (mark_by ledger e one.0 y seqno one.1 h))
    (recorded_or ledger e)

-- no node is marked after the last entry
mark_below : (ledger : List Entry) (y : NodeId) (seqno : ℕ) → mark ledger y ≡ Some seqno → seqno < length ledger + 1
unfolding mark
mark_below ledger y seqno h = mark_within (requests_of ledger) y seqno (length ledger + 1) h (above ledger)

-- the entry at which a node is marked is no signature, and stands after the node's removal
pub marked : (layers : Layers) (ledger : List Entry) (e : Entry) (y : NodeId) → IsSound layers (ledger ++ e ∷ []) → mark (ledger ++ e ∷ []) y ≡ Some (length ledger + 1) →
    (is_signature e.content ≡ false) × ((seqno : ℕ) × (removal ledger y ≡ Some seqno))
unfolding removal mark
marked layers ledger e y sound h = ⊎_elim
    (λ (same : requests_of (ledger ++ e ∷ []) ≡ requests_of ledger). old (ap (λ (rs : List Recorded). nodes.mark (history rs) y) (sym same) ∙ h))
    (λ (one : (g : GovernanceRequest) × Records ledger e g). ⊎_elim old
    (λ (new : (length ledger + 1 ≡ length ledger + 1) × (one.0 ≡ requests.Mark y)). (
      ap is_signature one.1.encoded,
      statuses.marked (requests_of ledger) (next_recorded ledger one.0) y
          (governed_last (requests_of ledger) (next_recorded ledger one.0) (subst rules.IsGoverned one.1.more (governed layers (ledger ++ e ∷ []) sound))).1 new.1,
    ))
    (mark_by ledger e one.0 y (length ledger + 1) one.1 h))
    (recorded_or ledger e)
  where
    old : mark ledger y ≡ Some (length ledger + 1) → (is_signature e.content ≡ false) × ((seqno : ℕ) × (removal ledger y ≡ Some seqno))
    old was = absurd (let w = mark_below ledger y (length ledger + 1) was in omega (arith, w))
