-- Where the log of a leader begins, and what a leader makes: its log and its commit are as the
-- rules of consensus have them, so the guard refuses nothing.
use Rattle.std.proofs.Common.{◌==◌, ◌+◌, ◌≡◌, ◌⊎◌, inl, inr, ℕ, zero, suc, ◌<◌, ◌^◌, List, [], ◌∷◌, length, take, slice_get, Bool, true, if◌then◌else◌, Option, Some, refl, sym, ◌∙◌, ap, subst, arith}
use Rattle.gl_base.proofs.Lists.{take-all, slice_get-append}
use Rattle.gl_rules.specs.Identity.{NodeId, member}
use Rattle.gl_rules.specs.Log.{entry_at}
use Rattle.gl_rules.specs.Node.{Node, Leader}
use Rattle.gl_rules.specs.World.{Start, joiner, starter, leader_at_start, run}
use Rattle.gl_rules.specs.Safety.{IsPrefixOf, Agree, EachFollows, ViewsUpTo, MayRecord, IsConfigured, IsOpening, LeadersMayRecord, committed_ledger, node_after, node_at}
use Rattle.gl_rules.proofs.Ids.{same_self}
use Rattle.gl_safety.proofs.Membership.{leaders_may_record}
use Rattle.gl_safety.proofs.Prefixes.{prefix}
use Rattle.gl_tx.specs.declared.request.Operation.{Operation}
use Rattle.gl_entry.specs.declared.entry.Entry.{Entry}
use Rattle.gl_requests.specs.declared.request.GovernanceRequest.{GovernanceRequest}
use Rattle.gl_ledger.specs.Layers.{Layers}
use Rattle.gl_ledger.specs.NodeKeys.{NodeKeys}
use Rattle.gl_ledger.specs.Recordings.{recorded_nodes}
use Rattle.gl_ledger.specs.Past.{is_unopened, past_of}
use Rattle.gl_ledger.specs.Broken.{is_later_commit, may_record}
use Rattle.gl_ledger.specs.Makers.{MayMake, MakesValid, request_result, signing_result, govern_result, evidence_result}
use Rattle.gl_ledger.specs.LedgerBook.{ledger_book}
use Rattle.gl_ledger.specs.OpeningLedger.{Begins}
use Rattle.gl_ledger.specs.Sound.{IsSound, IsUnrecovered}
use Rattle.gl_ledger.proofs.Governed.{followed}
use Rattle.gl_ledger.proofs.Governing.{govern_is}
use Rattle.gl_ledger.proofs.Lawful.{lawful}
use Rattle.gl_ledger.proofs.EvidenceEntries.{evidence_is}
use Rattle.gl_ledger.proofs.MadeEntries.{execute_is, may_go_on}
use Rattle.gl_ledger.proofs.Opened.{begins_opening, opened_configured}
use Rattle.gl_ledger.proofs.AcceptedSignatures.{sign_is, may_make, configured_recorded}
use Rattle.gl_world.specs.Service.{ServiceEvent, Leads, node_of}
use Rattle.gl_world.proofs.Unrecovered.{stays_unrecovered}
use Rattle.gl_world.proofs.ViewLimits.{views_low}

module _ (layers : Layers) (keys : NodeKeys) (s : Start Entry) (h : Begins layers s) (events : List ServiceEvent) (x : NodeId) (leads : Leads layers keys s events x) where
  opening : IsOpening (ledger_book layers keys) (EachFollows (ledger_book layers keys)) s
  opening = begins_opening layers keys s h

  first : IsConfigured (ledger_book layers keys) s.first s.opening
  first = opened_configured layers keys s.opening s.first h.checked h.unrecovered

  abbrev pub n : Node Entry
  n = node_of layers keys s events x

  all : LeadersMayRecord (ledger_book layers keys) s events
  all = leaders_may_record opening (lawful layers keys) events

  -- the moment after all events
  whole : take (length events) events ≡ events
  whole = take-all events

  at_end : (P : Node Entry → Type 0) → P (node_at (ledger_book layers keys) s events (length events) x) → P n
  at_end P h = subst (λ (es : List ServiceEvent). P (node_after (ledger_book layers keys) s es x)) whole h

  leads_there : (node_at (ledger_book layers keys) s events (length events) x).role ≡ Leader
  leads_there = subst (λ (es : List ServiceEvent). (node_after (ledger_book layers keys) s es x).role ≡ Leader) (sym whole) leads

  follows : EachFollows (ledger_book layers keys) n.log
  follows = at_end (λ m. EachFollows (ledger_book layers keys) m.log) (all.follows (length events) x leads_there)

  views : ViewsUpTo (ledger_book layers keys) n.view n.log
  views = at_end (λ m. ViewsUpTo (ledger_book layers keys) m.view m.log) (all.views (length events) x leads_there)

  may : MayRecord (ledger_book layers keys) n.log n.commit
  may = at_end (λ m. MayRecord (ledger_book layers keys) m.log m.commit) (all.commit (length events) x leads_there)

  pub recorded : member x (recorded_nodes n.log) ≡ true
  recorded = configured_recorded layers keys x n.log (at_end (λ m. IsConfigured (ledger_book layers keys) x m.log) (all.configured first (length events) x leads_there))

  pub unrecovered : IsUnrecovered n.log
  unrecovered = stays_unrecovered layers keys s h events x

  pub leader_sound : IsSound layers n.log
  leader_sound = followed layers keys n.log follows

  -- an entry may be made after it
  may_go : MayMake n.log n.view
  may_go = may_make layers keys n.log n.view n.commit follows unrecovered views may

  -- what the rules of consensus let it record, the audit lets it record
  pub records : may_record (past_of n.log) n.commit ≡ true
  records =
      ap (λ (o : Option Entry). if is_unopened o then n.commit == length n.log + 1 else is_later_commit (past_of n.log) n.commit) may_go.is_last
      ∙ ap (λ (b : Bool). if b then n.commit == length n.log + 1 else is_later_commit (past_of n.log) n.commit) may_go.opened
      ∙ may_go_on layers keys n.log n.commit may

  four_bytes : n.view < 2 ^ 32
  four_bytes = let v = views_low opening (lawful layers keys) events x in omega (arith, v)

  -- ---- where its log begins

  -- what is committed at the first node, as the service begins
  committed_first : committed_ledger (node_at (ledger_book layers keys) s events 0 s.first) ≡ s.opening
  unfolding run
  committed_first = ap (λ (t : Bool). committed_ledger (if t then leader_at_start s else (if member s.first s.starting then starter s else joiner))) (same_self s.first) ∙ take-all s.opening

  agrees : IsPrefixOf (committed_ledger n) s.opening ⊎ IsPrefixOf s.opening (committed_ledger n)
  agrees =
      subst (λ (l : List Entry). IsPrefixOf (committed_ledger n) l ⊎ IsPrefixOf l (committed_ledger n)) committed_first
      (at_end (λ m. Agree (ledger_book layers keys) m (node_at (ledger_book layers keys) s events 0 s.first)) (prefix opening (lawful layers keys) events (length events) 0 x s.first))

  -- with the first entry of the opening, as that is committed
  pub leader_begins : (f : Entry) → slice_get s.opening 0 ≡ Some f → slice_get n.log 0 ≡ Some f
  leader_begins f first = let a = some_first n.commit n.log may.signature may.at in a.1 ∙ ap Some (one (committed_ledger n) s.opening a.0 a.2 first agrees)
    where
      some_first : (c : ℕ) (l : List Entry) (e : Entry) → entry_at l c ≡ Some e → (a : Entry) × (slice_get l 0 ≡ Some a) × (slice_get (take c l) 0 ≡ Some a)
      some_first zero l e at = absurd (cc)
      some_first (suc c) [] e at = absurd (cc)
      some_first (suc c) (a ∷ l) e at = (a, refl, refl)

      first_part : (l m : List Entry) (a : Entry) → IsPrefixOf l m → slice_get l 0 ≡ Some a → slice_get m 0 ≡ Some a
      first_part l m a p at = ap (λ (k : List Entry). slice_get k 0) (sym p.1) ∙ slice_get-append l p.0 0 a at

      one : (l m : List Entry) (a : Entry) → slice_get l 0 ≡ Some a → slice_get m 0 ≡ Some f → IsPrefixOf l m ⊎ IsPrefixOf m l → a ≡ f
      one l m a here there (inl p) = let k = sym (first_part l m a p here) ∙ there in cc
      one l m a here there (inr p) = let k = sym here ∙ first_part m l f p there in cc

  -- ---- what it makes

  pub leader_executes : (q : List Operation) → (ledger_book layers keys).execute n.log n.view q ≡ request_result n.log n.view q
  leader_executes q = execute_is layers keys n.log n.view four_bytes may_go q

  pub leader_signs : (leaf : ℕ) → MakesValid layers keys x leaf n.log n.view n.commit → (ledger_book layers keys).sign x leaf n.log n.view n.commit ≡ signing_result keys x leaf n.log n.view n.commit
  leader_signs leaf valid = sign_is layers keys n.log n.view n.commit four_bytes may_go x leaf recorded may valid

  pub leader_evident : (ledger_book layers keys).evidence n.log n.view ≡ evidence_result (past_of n.log) n.view
  leader_evident = evidence_is layers keys n.log n.view four_bytes may_go

  pub leader_governs : (g : GovernanceRequest) → (ledger_book layers keys).govern n.log n.view g ≡ govern_result n.log n.view g
  leader_governs g =
      govern_is layers keys n.log n.view four_bytes may_go leader_sound g
