-- A ledger that the opening's check takes opens a service lawfully, whatever its genesis.
use Rattle.std.proofs.Common.{◌≡◌, ℕ, zero, suc, ◌+◌, ◌-◌, ◌≤◌, List, [], ◌∷◌, length, map, take, Option, Some, None, Ok, Bool, true, false, not, ◌&&◌, ◌||◌, ◌==◌, if◌then◌else◌, refl, sym, ◌∙◌, ap, ap₂, subst, arith, slice_get, option_map}
use Rattle.std.proofs.lemmas.Bool.{and_parts}
use Rattle.std.proofs.lemmas.Bool.Decides.{nat_tests}
use Rattle.gl_base.specs.Bytes.{same_bytes}
use Rattle.gl_base.proofs.Lists.{slice_get-of_take}
use Rattle.gl_merkle.specs.Tree.{root_of}
use Rattle.gl_rules.specs.Identity.{NodeId, member}
use Rattle.gl_rules.specs.World.{Start, first_view}
use Rattle.gl_rules.specs.Safety.{IsOpening, IsConfigured, EachFollows}
use Rattle.gl_rules.proofs.Soundness.{sound_cut}
use Rattle.gl_entry.specs.Entry.{is_signature, recorded_commit}
use Rattle.gl_entry.specs.declared.entry.Content.{Content}
use Rattle.gl_entry.specs.declared.entry.Content.TheVariants as content
use Rattle.gl_entry.specs.declared.entry.Entry.{Entry}
use Rattle.gl_entry.specs.declared.entry.Signature as signatures
use Rattle.gl_requests.specs.Encoding.{node_id}
use Rattle.gl_gov_rules.specs.declared.refusal.GovernanceRefusal.{GovernanceRefusal}
use Rattle.gl_gov_rules.specs.History.{no_history}
use Rattle.gl_gov_rules.specs.Changes.{history}
use Rattle.gl_gov_rules.specs.Refusals.{genesis_refusal, refusal}
use Rattle.gl_gov_rules.proofs.FoundingReadings.{founding_recorded}
use Rattle.gl_gov_rules.proofs.FoundingAccepted.{refusal_of_genesis, accepted_parts}
use Rattle.gl_ledger.specs.Tree.{leaves_of}
use Rattle.gl_ledger.specs.Ledger.{genesis_entry}
use Rattle.gl_requests.specs.declared.genesis.NewNode.{NewNode}
use Rattle.gl_requests.specs.declared.genesis.Genesis as founding
use Rattle.gl_requests.specs.declared.request.GovernanceRequest.TheVariants as requests
use Rattle.gl_ledger.specs.Layers.{Layers}
use Rattle.gl_ledger.specs.NodeKeys.{NodeKeys}
use Rattle.gl_ledger.specs.declared.recording.Recording.{Recording}
use Rattle.gl_ledger.specs.declared.recording.Recording.TheVariants as recordings
use Rattle.gl_ledger.specs.Recordings.{last_entry, recording_of, governance_recording, is_founding, is_recovering, records_founding, records_recovery, is_signing, founds, recovers, begins, requests_of, changed_set, recorded_nodes, configuration}
use Rattle.gl_ledger.specs.declared.breach.Broken.{Broken}
use Rattle.gl_ledger.specs.Past.{is_unopened, last_of, past_of}
use Rattle.gl_ledger.specs.Broken.{unless_refused, is_in_order, broken_by, is_later_commit, may_record}
use Rattle.gl_ledger.specs.Makers.{signed_entry, opening_of}
use Rattle.gl_ledger.specs.LedgerBook.{ledger_book, by_rule}
use Rattle.gl_ledger.specs.Audit.{LedgerFault, audited, signer_in, signer_of, opened_where, opened_unless, opened}
use Rattle.gl_ledger.proofs.Passing.{passed, Passes, passing}
use Rattle.gl_ledger.proofs.Lawful.{unbroken}
use Rattle.gl_ledger.proofs.Pushes.{no_last}
use Rattle.gl_ledger.proofs.Auditing.{audited_none, audited_all}
use Rattle.gl_ledger.specs.Sound.{IsUnrecovered}
use Rattle.gl_ledger.specs.OpeningLedger.{Begins, Founds}
use Rattle.gl_ledger.proofs.Founded.{FoundedBy, founded_by, founding_requests}
use Rattle.gl_ledger.proofs.OpeningLaws.{founding_recorded_nodes, founding_configuration, genesis_read, founded, follow}

module _ (layers : Layers) (keys : NodeKeys) where
  -- ---- two entries

  -- an entry that founds stands alone where it is the last
  pub alone : (es : List Entry) (f : Entry) → EachFollows (ledger_book layers keys) es → last_entry es ≡ Some f → founds f ≡ true → es ≡ f ∷ []
  alone es f z last founded =
      let p = passing layers (take (length es - 1) es) f (unbroken layers keys (take (length es - 1) es) f (z (length es - 1) f last)) in
      let t : is_founding p.recording ≡ true = sym (ap records_founding p.reads) ∙ founded in
      one es last (no_last (take (length es - 1) es) (none p.recording f.view (last_entry (take (length es - 1) es)) t p.order))
    where
      none : (t : Recording) (view : ℕ) (o : Option Entry) → is_founding t ≡ true → is_in_order (option_map last_of o) t view ≡ true → o ≡ None
      none t view None a w = refl
      none t view (Some h) a w = absurd (let k = (and_parts (not (is_founding t)) (not (is_recovering t) || is_signature h.content) (and_parts _ _ w).0).0 in let u = ap not a in cc)

      one : (l : List Entry) → last_entry l ≡ Some f → take (length l - 1) l ≡ [] → l ≡ f ∷ []
      one [] a d = absurd (cc)
      one (y ∷ []) a d = let u : y ≡ f = cc in ap (λ (e : Entry). e ∷ []) u
      one (y ∷ v ∷ l) a d = absurd (let n : length (y ∷ v ∷ l) - 1 ≡ suc (length l) = omega arith in let u : take (suc (length l)) (y ∷ v ∷ l) ≡ [] = ap (λ (j : ℕ). take j (y ∷ v ∷ l)) (sym n) ∙ d in cc)

  pair : (l : List Entry) (f : Entry) → take (length l - 1) l ≡ f ∷ [] → (e : Entry) × (l ≡ f ∷ e ∷ [])
  pair [] f h = absurd (cc)
  pair (a ∷ []) f h = absurd (cc)
  pair (a ∷ e ∷ []) f h =
      let n : length (a ∷ e ∷ []) - 1 ≡ 1 = omega arith in
      let u : a ∷ [] ≡ f ∷ [] = ap (λ (j : ℕ). take j (a ∷ e ∷ [])) (sym n) ∙ h in
      let same : a ≡ f = cc in
      (e, ap (λ (x : Entry). x ∷ e ∷ []) same)
  pair (a ∷ e ∷ g ∷ l) f h =
      absurd (let n : length (a ∷ e ∷ g ∷ l) - 1 ≡ suc (suc (length l)) = omega arith in let u : take (suc (suc (length l))) (a ∷ e ∷ g ∷ l) ≡ f ∷ [] = ap (λ (j : ℕ). take j (a ∷ e ∷ g ∷ l)) (sym n) ∙ h in cc)

  opened_parts : (ledger : List Entry) (x : NodeId) → opened layers ledger ≡ Ok x →
      (audited layers ledger ≡ None) × (is_unopened (last_entry (take (length ledger - 1) ledger)) ≡ true) × (signer_of (last_entry ledger) ≡ Some x)
  unfolding opened
  opened_parts ledger x h = go (audited layers ledger) h
    where
      signed : (b : Bool) (o : Option NodeId) → opened_where b o (length ledger) ≡ Ok x → (b ≡ true) × (o ≡ Some x)
      signed true (Some y) w = let u : y ≡ x = cc in (refl, ap Some u)
      signed true None w = absurd (cc)
      signed false o w = absurd (cc)

      go : (o : Option LedgerFault) → opened_unless layers o ledger ≡ Ok x → (o ≡ None) × (is_unopened (last_entry (take (length ledger - 1) ledger)) ≡ true) × (signer_of (last_entry ledger) ≡ Some x)
      go (Some fault) w = absurd (cc)
      go None w = let s = signed (is_unopened (last_entry (take (length ledger - 1) ledger))) (signer_of (last_entry ledger)) w in (refl, s.0, s.1)

  founding_is : (o : Option Entry) → is_unopened o ≡ true → (f : Entry) × (o ≡ Some f)
  founding_is None h = absurd (cc)
  founding_is (Some f) h = (f, refl)

  -- ---- what founds

  unless_ok : (o : Option GovernanceRefusal) (rest : Option Broken) → unless_refused o rest ≡ None → o ≡ None
  unless_ok None rest w = refl
  unless_ok (Some why) rest w = absurd (cc)

  -- an accepted genesis names a node, so its nodes are another set than none
  some_nodes : (g : founding.Genesis) → genesis_refusal no_history g ≡ None → changed_set [] (map node_id g.nodes) ≡ Some (map node_id g.nodes)
  some_nodes g accepted = go g.nodes (accepted_parts g accepted).some_nodes
    where
      go : (ns : List NewNode) → 1 ≤ length ns → changed_set [] (map node_id ns) ≡ Some (map node_id ns)
      go [] some = absurd (omega (arith, some))
      go (n ∷ ns) some = refl

  -- ---- the opening

  module _ (f e : Entry) (x : NodeId) (z : EachFollows (ledger_book layers keys) (f ∷ e ∷ [])) (founded : founds f ≡ true) (signer : signer_in e.content ≡ Some x) where
    first : Passes layers [] f
    first = passing layers [] f (unbroken layers keys [] f (z 0 f refl))

    second : Passes layers (f ∷ []) e
    second = passing layers (f ∷ []) e (unbroken layers keys (f ∷ []) e (z 1 e refl))

    view_of_first : f.view ≡ first_view
    view_of_first = let h = (and_parts (is_founding first.recording) (f.view == first_view) first.view).1 in grind (arith, nat_tests)

    view_of_second : e.view ≡ first_view
    view_of_second =
        let w = (and_parts (not (is_founding second.recording) && (not (is_recovering second.recording) || is_signature f.content)) (not (begins f) || (is_signing second.recording && (e.view == f.view))) second.order).1 in
        let v : (is_signing second.recording && (e.view == f.view)) ≡ true = sym (ap (λ (b : Bool). not (b || recovers f) || (is_signing second.recording && (e.view == f.view))) founded) ∙ w in
        let same = (and_parts (is_signing second.recording) (e.view == f.view) v).1 in
        let u : e.view ≡ f.view = grind (arith, nat_tests) in
        u ∙ view_of_first

    signature_in : (c : Content) → signer_in c ≡ Some x → (s : signatures.Signature) × (c ≡ content.Signature s)
    signature_in (content.Signature s) h = (s, refl)
    signature_in (content.Governance b) h = absurd (cc)
    signature_in (content.Application b) h = absurd (cc)
    signature_in (content.Evidence d) h = absurd (cc)

    records_two : recorded_commit e.content ≡ 2
    records_two =
        let s = signature_in e.content signer in
        let is_read : second.recording ≡ recordings.Signature s.0 = let k = sym second.reads ∙ ap recording_of s.1 in cc in
        let all : broken_by layers (recordings.Signature s.0) (past_of (f ∷ [])) e ≡ None = ap (λ (t : Recording). broken_by layers t (past_of (f ∷ [])) e) (sym is_read) ∙ second.rest in
        let one = passed (member s.0.node (recorded_nodes (f ∷ []))) _ _ all in
        let two = passed (same_bytes s.0.root (root_of (leaves_of (f ∷ [])))) _ _ one.1 in
        let three = passed (may_record (past_of (f ∷ [])) s.0.commit) _ _ two.1 in
        let at : (s.0.commit == length (f ∷ []) + 1) ≡ true = sym (ap (λ (b : Bool). if b || recovers f then s.0.commit == length (f ∷ []) + 1 else is_later_commit (past_of (f ∷ [])) s.0.commit) founded) ∙ three.0 in
        ap recorded_commit s.1 ∙ grind (arith, nat_tests)

    by : FoundedBy f
    by = founded_by f founded

    recorded : requests_of (f ∷ []) ≡ founding_recorded by.genesis ∷ []
    recorded = founding_requests f [] by

    accepted : genesis_refusal no_history by.genesis ≡ None
    accepted =
        let is_read : first.recording ≡ recordings.Governance (requests.Genesis by.genesis) = let k = sym first.reads ∙ ap recording_of by.content_is ∙ ap governance_recording by.reads in cc in
        sym (refusal_of_genesis by.genesis)
        ∙ unless_ok (refusal (history []) 1 (requests.Genesis by.genesis)) _ (ap (λ (t : Recording). broken_by layers t (past_of []) f) (sym is_read) ∙ first.rest)

    -- its nodes, in their order
    configured : configuration (f ∷ []) ≡ Some (map node_id by.genesis.nodes)
    configured = founding_configuration f by.genesis recorded ∙ some_nodes by.genesis accepted

    signed_by : member x (map node_id by.genesis.nodes) ≡ true
    signed_by =
        let s = signature_in e.content signer in
        let is_read : second.recording ≡ recordings.Signature s.0 = let k = sym second.reads ∙ ap recording_of s.1 in cc in
        let all : broken_by layers (recordings.Signature s.0) (past_of (f ∷ [])) e ≡ None = ap (λ (t : Recording). broken_by layers t (past_of (f ∷ [])) e) (sym is_read) ∙ second.rest in
        let one = passed (member s.0.node (recorded_nodes (f ∷ []))) _ _ all in
        let node : s.0.node ≡ x = let k = sym (ap signer_in s.1) ∙ signer in cc in
        sym (ap₂ member node (founding_recorded_nodes (f ∷ []) by.genesis recorded)) ∙ one.0

    -- the node that signed is in the configuration
    configures : IsConfigured (ledger_book layers keys) x (f ∷ e ∷ [])
    configures = (1, map node_id by.genesis.nodes, configured, signed_by)

    by_case : (P : ℕ → Entry → Type 0) → P 0 f → P 1 e → (i : ℕ) (d : Entry) → slice_get (f ∷ e ∷ []) i ≡ Some d → P i d
    by_case P a b zero d s = subst (P 0) (let p : f ≡ d = cc in p) a
    by_case P a b (suc zero) d s = subst (P 1) (let p : e ≡ d = cc in p) b
    by_case P a b (suc (suc i)) d s = absurd (cc)

    no_signature : is_signature f.content ≡ true → ⊥
    no_signature h = let k = sym (ap is_signature by.content_is) ∙ h in cc

    opens : (starting : List NodeId) → member x starting ≡ true → IsOpening (ledger_book layers keys) (EachFollows (ledger_book layers keys)) (record { opening = f ∷ e ∷ []; starting = starting; first = x })
    opens starting there = record {
      sound = z;
      views = by_case (λ i d. d.view ≡ first_view) view_of_first view_of_second;
      follow = z;
      before = 1;
      long = refl;
      signature = e;
      last = refl;
      signs = let s = signature_in e.content signer in ap is_signature s.1;
      records = records_two;
      alone = by_case (λ i d. is_signature d.content ≡ true → i ≡ 1) (λ a. absurd (no_signature a)) (λ a. refl);
      configured_at = 1;
      counted = omega arith;
      within = omega arith;
      members = map node_id by.genesis.nodes;
      configured = configured;
      first_starts = there;
    }

  -- the two entries of a ledger that the check takes
  record Pair (ledger : List Entry) (x : NodeId) : Type 0 where
    genesis : Entry
    signature : Entry
    both : ledger ≡ genesis ∷ signature ∷ []
    each : EachFollows (ledger_book layers keys) (genesis ∷ signature ∷ [])
    founding : founds genesis ≡ true
    signer : signer_in signature.content ≡ Some x

  -- a service that begins with an entry, and isn't recovered by it, is founded by it
  founding_begins : (f : Entry) → begins f ≡ true → recovers f ≡ false → founds f ≡ true
  founding_begins f starts none = sym (or-false (founds f)) ∙ ap (λ (b : Bool). founds f || b) (sym none) ∙ starts
    where
      or-false : (b : Bool) → (b || false) ≡ b
      or-false true = refl
      or-false false = refl

  pair_of : (ledger : List Entry) (x : NodeId) → opened layers ledger ≡ Ok x → IsUnrecovered ledger → Pair ledger x
  pair_of ledger x h unrecovered =
      let parts = opened_parts ledger x h in
      let z : EachFollows (ledger_book layers keys) ledger = λ i e at. ap by_rule (audited_none layers ledger parts.0 i e at) in
      let f = founding_is (last_entry (take (length ledger - 1) ledger)) parts.1 in
      let there = slice_get-of_take (length ledger - 1) ledger (length (take (length ledger - 1) ledger) - 1) f.0 f.1 in
      let founded : founds f.0 ≡ true = founding_begins f.0 (ap is_unopened (sym f.1) ∙ parts.1) (unrecovered (length (take (length ledger - 1) ledger) - 1) f.0 there.1) in
      let prefix = alone (take (length ledger - 1) ledger) f.0 (sound_cut (ledger_book layers keys) ledger (length ledger - 1) z) f.1 founded in
      let two = pair ledger f.0 prefix in
      record {
        genesis = f.0;
        signature = two.0;
        both = two.1;
        each = subst (EachFollows (ledger_book layers keys)) two.1 z;
        founding = founded;
        signer = ap (λ (l : List Entry). signer_of (last_entry l)) (sym two.1) ∙ parts.2;
      }

  pub opened_opens : (ledger : List Entry) (x : NodeId) → opened layers ledger ≡ Ok x → IsUnrecovered ledger → (starting : List NodeId) → member x starting ≡ true →
      IsOpening (ledger_book layers keys) (EachFollows (ledger_book layers keys)) (record { opening = ledger; starting = starting; first = x })
  opened_opens ledger x h unrecovered starting there =
      let p = pair_of ledger x h unrecovered in
      subst (λ (l : List Entry). IsOpening (ledger_book layers keys) (EachFollows (ledger_book layers keys)) (record { opening = l; starting = starting; first = x })) (sym p.both)
      (opens p.genesis p.signature x p.each p.founding p.signer starting there)

  -- the node that signed it is in its configuration
  pub opened_configured : (ledger : List Entry) (x : NodeId) → opened layers ledger ≡ Ok x → IsUnrecovered ledger → IsConfigured (ledger_book layers keys) x ledger
  opened_configured ledger x h unrecovered =
      let p = pair_of ledger x h unrecovered in
      subst (IsConfigured (ledger_book layers keys) x) (sym p.both) (configures p.genesis p.signature x p.each p.founding p.signer)

  pub begins_opening : (s : Start Entry) → Begins layers s → IsOpening (ledger_book layers keys) (EachFollows (ledger_book layers keys)) s
  begins_opening s h = opened_opens s.opening s.first h.checked h.unrecovered s.starting h.starts

pub opening_opened : (layers : Layers) (keys : NodeKeys) (g : founding.Genesis) (x : NodeId) → Founds layers keys g x → opened layers (opening_of keys g x) ≡ Ok x
unfolding opened
opening_opened layers keys g x h =
    let ledger = opening_of keys g x in
    let none : audited layers ledger ≡ None = audited_all layers ledger (λ i e at. unbroken layers keys _ e (follow layers keys g x h i e at)) in
    let one : length (opening_of keys g x) - 1 ≡ 1 = omega arith in
    let first : length (genesis_entry g ∷ []) - 1 ≡ 0 = omega arith in
    ap (λ (o : Option LedgerFault). opened_unless layers o (opening_of keys g x)) none
    ∙ ap (λ (j : ℕ). opened_where (is_unopened (last_entry (take j (opening_of keys g x)))) (signer_of (slice_get (opening_of keys g x) j)) (length (opening_of keys g x))) one
    ∙ ap (λ (j : ℕ). opened_where (is_unopened (slice_get (genesis_entry g ∷ []) j)) (Some x) (length (opening_of keys g x))) first
    ∙ ap (λ (b : Bool). opened_where (b || recovers (genesis_entry g)) (Some x) (length (opening_of keys g x))) (founded layers keys g x h)

-- no entry of an opening ledger recovers the service
pub opening_unrecovered : (layers : Layers) (keys : NodeKeys) (g : founding.Genesis) (x : NodeId) → Founds layers keys g x → IsUnrecovered (opening_of keys g x)
opening_unrecovered layers keys g x h zero e at =
    let same : genesis_entry g ≡ e = cc in
    ap recovers (sym same) ∙ ap records_recovery (genesis_read g h.fits)
opening_unrecovered layers keys g x h (suc zero) e at =
    let same : signed_entry keys x 0 (genesis_entry g ∷ []) first_view 2 ≡ e = cc in
    ap recovers (sym same)
opening_unrecovered layers keys g x h (suc (suc i)) e at = absurd (cc)
