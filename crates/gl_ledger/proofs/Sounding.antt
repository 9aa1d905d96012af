-- An entry that breaks no rule keeps a ledger sound.
use Rattle.std.proofs.Common.{◌≡◌, ⊎_elim, ℕ, suc, ◌+◌, ◌-◌, ◌≤◌, nat_le, List, [], ◌∷◌, ◌++◌, length, Option, Some, None, Result, Ok, Err, Bool, true, false, not, ◌&&◌, ◌||◌, ◌==◌, refl, sym, ◌∙◌, ap, subst, arith, slice_get, if◌then◌else◌, option_map}
use Rattle.std.specs.List.{AllByRecursion}
use Rattle.std.specs.FinMap as rows
use Rattle.std.specs.Cmp.Lexicographic.{bytes_decides}
use Rattle.std.proofs.lemmas.Bool.{and_parts}
use Rattle.std.proofs.lemmas.Bool.Decides.{nat_tests}
use Rattle.sha2.specs.Sha256.{sha256}
use Rattle.gl_base.specs.Bytes.{are_bytes, same_bytes}
use Rattle.gl_base.specs.declared.fault.CodeFault.{CodeFault}
use Rattle.gl_base.proofs.ByteLists.{are_bytes-each}
use Rattle.gl_base.proofs.Lists.{slice_get-push, slice_get-within}
use Rattle.gl_hss.specs.declared.fault.HssFault.{HssFault}
use Rattle.gl_merkle.specs.Tree.{root_of}
use Rattle.gl_rules.specs.Identity.{member}
use Rattle.gl_rules.specs.World.{first_view}
use Rattle.gl_vmaps.specs.Tables.{Tables, Rows, no_tables, wrote, wrote_all, with_row}
use Rattle.gl_vmaps.specs.declared.write.Write.{Write}
use Rattle.gl_tx.specs.Request.{reply_bytes}
use Rattle.gl_tx.specs.Parsing.{request_of}
use Rattle.gl_tx.specs.Run.{run}
use Rattle.gl_tx.specs.declared.runs.Ran.{Ran}
use Rattle.gl_tx.specs.declared.request.Operation.{Operation}
use Rattle.gl_tx.specs.declared.abort.Abort.{Abort}
use Rattle.gl_tx.proofs.Formats.{request-encoded}
use Rattle.gl_entry.specs.Entry.{no_digest, is_signature, is_entry, is_content, may_write, may_claim, are_no_writes, is_no_digest}
use Rattle.gl_entry.specs.declared.entry.Content.{Content}
use Rattle.gl_entry.specs.declared.entry.Content.TheVariants as content
use Rattle.gl_entry.specs.declared.entry.Entry.{Entry}
use Rattle.gl_entry.specs.declared.entry.Signature as signatures
use Rattle.gl_entry.proofs.EntryRanges.{Fits, fits_parts}
use Rattle.gl_gov_rules.specs.Rows.{service_map, service_key, effect, effect_writes}
use Rattle.gl_gov_rules.specs.declared.change.Recorded.{Recorded}
use Rattle.gl_ledger.specs.ServiceRow.{service_state, state_of_value}
use Rattle.gl_ledger.specs.Tree.{tables_of, leaves_of}
use Rattle.gl_vmaps.specs.Changes.{Turns}
use Rattle.gl_requests.specs.declared.genesis.ServiceState.{ServiceState}
use Rattle.gl_requests.specs.declared.genesis.ServiceState.TheVariants.{Opening, Open, WaitingForRecoveryShares}
use Rattle.gl_requests.specs.declared.request.GovernanceRequest.{GovernanceRequest}
use Rattle.gl_requests.specs.Parsing.{request_in}
use Rattle.gl_requests.specs.declared.request.GovernanceRequest.TheVariants as requests
use Rattle.gl_gov_rules.specs.declared.refusal.GovernanceRefusal.{GovernanceRefusal}
use Rattle.gl_gov_rules.specs.Changes.{history}
use Rattle.gl_gov_rules.specs.Refusals.{refusal}
use Rattle.gl_ledger.specs.Layers.{Layers}
use Rattle.gl_ledger.specs.declared.recording.Recording.{Recording}
use Rattle.gl_ledger.specs.declared.recording.Recording.TheVariants as recordings
use Rattle.gl_ledger.specs.Recordings.{governance_recording, application_recording, is_founding, is_recovering, records_founding, records_recovery, is_signing, last_entry, recording_of, founds, recovers, begins, requests_of, recorded_nodes}
use Rattle.gl_ledger.specs.declared.breach.Broken.{Broken}
use Rattle.gl_ledger.specs.Past.{is_signed, last_of, past_of, signs_at}
use Rattle.gl_ledger.specs.Snapshot.{snapshot_bytes}
use Rattle.gl_snapshot_body.specs.Body.{snapshot_limit}
use Rattle.gl_ledger.specs.Broken.{is_next_view, is_in_order, are_same_writes, broken_in_state, unless_refused, broken_by_fault, may_record, fault_of_signature, broken_by, broken}
use Rattle.gl_ledger.specs.Sound.{IsFounded, IsGovernanceEntry, IsApplicationEntry, IsEvidenceEntry, IsSignatureEntry, StandsAs, HasGovernedTables, IsSound}
use Rattle.gl_ledger.proofs.TablesLaws.{tables_of-push}
use Rattle.gl_ledger.proofs.Growth.{IsOutside, IsNoGovernance, untouched, in_order-push}
use Rattle.gl_ledger.proofs.Applications.{run_outside}
use Rattle.gl_ledger.proofs.SameWrites.{same_writes_are}
use Rattle.gl_vmaps.proofs.SameValues.{same_bytes_is}
use Rattle.gl_ledger.proofs.Pushes.{each-push, no_last}
use Rattle.gl_ledger.proofs.Gathering.{requests-quiet, requests-more, signing_is}
use Rattle.gl_ledger.proofs.Passing.{passed, Passes, passing}
use Rattle.gl_ledger.proofs.RequestEncodings.{request_in-encoded}
use Rattle.gl_gov_rules.proofs.Effects.{no_rows, effect_turns}

none_written : (ws : List Write) → are_no_writes ws ≡ true → ws ≡ []
none_written [] h = refl
none_written (w ∷ ws) h = absurd (cc)

none_claimed : (bytes : List ℕ) → is_no_digest bytes ≡ true → bytes ≡ no_digest
none_claimed bytes h = (bytes_decides bytes no_digest).0 h

-- ---- the rows of an effect

-- what is written to a table depends on that table alone
wrote_local : (t u : Tables) (w : Write) (map : List ℕ) → t map ≡ u map → wrote t w map ≡ wrote u w map
wrote_local t u w map h = ap (λ (r : Rows). if same_bytes map w.map then with_row r w.key w.value else r) h

-- a write set makes of the rows of a map what it makes of the same rows elsewhere
pub wrote_all_local : (t u : Tables) (ws : List Write) (map : List ℕ) → t map ≡ u map → wrote_all t ws map ≡ wrote_all u ws map
wrote_all_local t u [] map h = h
wrote_all_local t u (w ∷ ws) map h = wrote_all_local (wrote t w) (wrote u w) ws map (wrote_local t u w map h)

-- ---- one more entry

-- a view that is next isn't below the one before it
le_true : (a b : ℕ) → nat_le a b ≡ true → a ≤ b
le_true a b is = grind (arith, nat_tests)

-- a signature stands last where the last entry is one
signed_last : (o : Option Entry) → is_signed (option_map last_of o) ≡ true → signs_at o ≡ true
signed_last None h = absurd (cc)
signed_last (Some f) h = h

next_up : (again : Bool) (before view : ℕ) → (if again then view == before + 1 else nat_le before view) ≡ true → before ≤ view
next_up true before view w = let u : view ≡ before + 1 = grind (arith, nat_tests, w) in omega (arith, u)
next_up false before view w = grind (arith, nat_tests, w)

module _ (layers : Layers) (ledger : List Entry) (e : Entry) (sound : IsSound layers ledger) (p : Passes layers ledger e) where
  fits : Fits e
  fits = fits_parts e p.fits

  seqno : e.seqno ≡ suc (length ledger)
  seqno = let h = p.seqno in let u : e.seqno ≡ length ledger + 1 = grind (arith, nat_tests) in omega arith

  -- an entry after the last one has a view that none is above
  up : (i : ℕ) (f : Entry) → slice_get ledger i ≡ Some f → f.view ≤ e.view
  up i f s = go (last_entry ledger) refl p.view
    where
      go : (o : Option Entry) → last_entry ledger ≡ o → is_next_view (option_map last_of o) p.recording e.view ≡ true → f.view ≤ e.view
      go None is w = absurd (let q : slice_get ledger i ≡ None = ap (λ (l : List Entry). slice_get l i) (no_last ledger is) in cc)
      go (Some last) is w =
          let here = slice_get-within ledger i f s in
          let le : f.view ≤ last.view = sound.in_order.views i (length ledger - 1) f last (omega arith) s is in
          let more : last.view ≤ e.view = next_up (is_recovering p.recording) last.view e.view w in
          omega arith

  read_as : (r : Recording) → recording_of e.content ≡ Some r → p.recording ≡ r
  read_as r reads = let k = sym p.reads ∙ reads in cc

  rest_of : (r : Recording) → recording_of e.content ≡ Some r → broken_by layers r (past_of ledger) e ≡ None
  rest_of r reads = ap (λ (t : Recording). broken_by layers t (past_of ledger) e) (sym (read_as r reads)) ∙ p.rest

  -- what each kind of entry comes to
  record Stands : Type 0 where
    as_content : StandsAs layers e.content ledger e
    governed : HasGovernedTables (ledger ++ e ∷ [])

  -- nothing of governance is recorded or written
  quietly : IsNoGovernance e.content → AllByRecursion IsOutside e.writes → StandsAs layers e.content ledger e → Stands
  quietly none out stands = record {
    as_content = stands;
    governed = λ map inside.
        ap (λ (t : Tables). t map) (tables_of-push ledger e) ∙ untouched (tables_of ledger) e.writes map out inside ∙ sound.governed map inside
        ∙ ap (λ (rs : List Recorded). effect rs map) (sym (requests-quiet ledger e none));
  }

  application : (bytes : List ℕ) (q : List Operation) → e.content ≡ content.Application bytes → request_of bytes ≡ Ok q → Stands
  application bytes q is reads =
      in_state (service_state (tables_of ledger)) refl (run q (tables_of ledger)) refl (rest_of (recordings.Application q) (ap recording_of is ∙ ap application_recording reads))
    where
      all : are_bytes bytes ≡ true
      all = sym (ap is_content is) ∙ fits.content

      in_state : (s : ServiceState) → service_state (tables_of ledger) ≡ s → (r : Result Ran Abort) → run q (tables_of ledger) ≡ r → broken_in_state (length ledger + 1) s r e ≡ None → Stands
      in_state Opening is_state r runs w = absurd (cc)
      in_state WaitingForRecoveryShares is_state r runs w = absurd (cc)
      in_state Open is_state (Err abort) runs w = absurd (cc)
      in_state Open is_state (Ok ran) runs w =
          let one = passed (are_same_writes e.writes ran.writes) _ _ w in
          let two = passed (same_bytes e.claims (sha256 (reply_bytes ran.reply))) _ None one.1 in
          let writes : e.writes ≡ ran.writes = same_writes_are e.writes ran.writes one.0 in
          let encoded = request-encoded bytes q (are_bytes-each bytes all) reads in
          let stands : IsApplicationEntry ledger e bytes = record {
            is_open = ap (λ (r : Rows). state_of_value (rows.get r service_key)) (sym (sound.governed service_map refl)) ∙ is_state;
            request = q;
            fits = encoded.0;
            encoded = encoded.1;
            ran = ran;
            runs = runs;
            writes = writes;
            claims = same_bytes_is e.claims (sha256 (reply_bytes ran.reply)) two.0;
          } in
          quietly (subst IsNoGovernance (sym is) tt) (subst (λ (ws : List Write). AllByRecursion IsOutside ws) (sym writes) (run_outside q (tables_of ledger) ran runs))
          (subst (λ (c : Content). StandsAs layers c ledger e) (sym is) stands)

  signature : (s : signatures.Signature) → e.content ≡ content.Signature s → Stands
  signature s is =
      let h = rest_of (recordings.Signature s) (ap recording_of is) in
      let one = passed (member s.node (recorded_nodes ledger)) _ _ h in
      let two = passed (same_bytes s.root (root_of (leaves_of ledger))) _ _ one.1 in
      let three = passed (may_record (past_of ledger) s.commit) _ _ two.1 in
      let writes : e.writes ≡ [] = none_written e.writes (sym (ap (λ (x : Bool). x || are_no_writes e.writes) (ap may_write is)) ∙ fits.writes) in
      let stands : IsSignatureEntry layers ledger e s = record {
        writes = writes;
        claims = none_claimed e.claims (sym (ap (λ (x : Bool). x || is_no_digest e.claims) (ap may_claim is)) ∙ fits.claims);
        node = one.0;
        root = same_bytes_is s.root (root_of (leaves_of ledger)) two.0;
        commit = three.0;
        valid = valid (fault_of_signature layers (past_of ledger) e s) three.1;
      } in
      quietly (subst IsNoGovernance (sym is) tt) (subst (λ (ws : List Write). AllByRecursion IsOutside ws) (sym writes) tt)
      (subst (λ (c : Content). StandsAs layers c ledger e) (sym is) stands)
    where
      valid : (o : Option HssFault) → broken_by_fault (length ledger + 1) o ≡ None → o ≡ None
      valid None w = refl
      valid (Some fault) w = absurd (cc)

  evidence : (d : List ℕ) → e.content ≡ content.Evidence d → Stands
  evidence d is =
      let h = rest_of (recordings.Evidence d) (ap recording_of is) in
      let one = passed (is_signed (past_of ledger).last) _ _ h in
      let two = passed (nat_le (length (snapshot_bytes ledger)) snapshot_limit) _ _ one.1 in
      let three = passed (same_bytes d (sha256 (snapshot_bytes ledger))) _ None two.1 in
      let writes : e.writes ≡ [] = none_written e.writes (sym (ap (λ (x : Bool). x || are_no_writes e.writes) (ap may_write is)) ∙ fits.writes) in
      let stands : IsEvidenceEntry ledger e d = record {
        writes = writes;
        claims = none_claimed e.claims (sym (ap (λ (x : Bool). x || is_no_digest e.claims) (ap may_claim is)) ∙ fits.claims);
        signed = signed_last (last_entry ledger) one.0;
        within = le_true (length (snapshot_bytes ledger)) snapshot_limit two.0;
        digest = same_bytes_is d (sha256 (snapshot_bytes ledger)) three.0;
      } in
      quietly (subst IsNoGovernance (sym is) tt) (subst (λ (ws : List Write). AllByRecursion IsOutside ws) (sym writes) tt)
      (subst (λ (c : Content). StandsAs layers c ledger e) (sym is) stands)

  governance : (bytes : List ℕ) (g : GovernanceRequest) → e.content ≡ content.Governance bytes → request_in bytes ≡ Some g → Stands
  governance bytes g is reads =
      let one = accepted (refusal (history before) (length ledger + 1) g) _ (rest_of (recordings.Governance g) (ap recording_of is ∙ ap governance_recording reads)) in
      let two = passed (are_same_writes e.writes (effect_writes before r)) _ None one.1 in
      let encoded = request_in-encoded bytes g (sym (ap is_content is) ∙ fits.content) reads in
      let turns : Turns e.writes (effect before) (effect (before ++ r ∷ [])) =
      subst (λ (ws : List Write). Turns ws (effect before) (effect (before ++ r ∷ []))) (sym (same_writes_are e.writes (effect_writes before r) two.0)) (effect_turns before r) in
      let stands : IsGovernanceEntry ledger e bytes = record {
        request = g;
        reads = reads;
        fits = encoded.0;
        encoded = encoded.1;
        accepted = one.0;
        turns = turns;
        claims = none_claimed e.claims (sym (ap (λ (x : Bool). x || is_no_digest e.claims) (ap may_claim is)) ∙ fits.claims);
      } in
      record {
        as_content = subst (λ (c : Content). StandsAs layers c ledger e) (sym is) stands;
        governed = λ map inside.
            ap (λ (t : Tables). t map) (tables_of-push ledger e) ∙ wrote_all_local (tables_of ledger) (effect before) e.writes map (sound.governed map inside) ∙ turns.turns map
            ∙ ap (λ (rs : List Recorded). effect rs map) (sym (requests-more ledger e bytes g is reads));
      }
    where
      before : List Recorded
      before = requests_of ledger

      r : Recorded
      r = record { seqno = length ledger + 1; request = g }

      accepted : (o : Option GovernanceRefusal) (rest : Option Broken) → unless_refused o rest ≡ None → (o ≡ None) × (rest ≡ None)
      accepted None rest w = (refl, w)
      accepted (Some why) rest w = absurd (cc)

  unread : {X : Type 0} → recording_of e.content ≡ None → X
  unread h = absurd (let k = sym p.reads ∙ h in cc)

  stands_by : (c : Content) → e.content ≡ c → Stands
  stands_by (content.Signature s) is = signature s is
  stands_by (content.Evidence d) is = evidence d is
  stands_by (content.Application bytes) is = go (request_of bytes) refl
    where
      go : (r : Result (List Operation) CodeFault) → request_of bytes ≡ r → Stands
      go (Err fault) reads = unread (ap recording_of is ∙ ap application_recording reads)
      go (Ok q) reads = application bytes q is reads
  stands_by (content.Governance bytes) is = go (request_in bytes) refl
    where
      go : (o : Option GovernanceRequest) → request_in bytes ≡ o → Stands
      go None reads = unread (ap recording_of is ∙ ap governance_recording reads)
      go (Some g) reads = governance bytes g is reads

  -- ---- what comes first

  founding_as : founds e ≡ is_founding p.recording
  founding_as = ap records_founding p.reads

  first_of : 0 ≡ length ledger → (founds e ≡ true) × (e.view ≡ first_view)
  first_of none =
      let both = and_parts (is_founding p.recording) (e.view == first_view) (ap (λ (l : List Entry). is_next_view (past_of l).last p.recording e.view) (sym (empty ledger none)) ∙ p.view) in
      (founding_as ∙ both.0, let h = both.1 in grind (arith, nat_tests))
    where
      empty : (l : List Entry) → 0 ≡ length l → l ≡ []
      empty [] h = refl
      empty (x ∷ xs) h = absurd (omega (arith, h))

  once_of : founds e ≡ true → length ledger ≡ 0
  once_of h = go (last_entry ledger) refl p.order
    where
      go : (o : Option Entry) → last_entry ledger ≡ o → is_in_order (option_map last_of o) p.recording e.view ≡ true → length ledger ≡ 0
      go None is w = ap length (no_last ledger is)
      go (Some last) is w = absurd (let k = (and_parts (not (is_founding p.recording)) (not (is_recovering p.recording) || is_signature last.content) (and_parts _ _ w).0).0 in let t = sym founding_as ∙ h in let u = ap not t in cc)

  recovering_as : recovers e ≡ is_recovering p.recording
  recovering_as = ap records_recovery p.reads

  -- what the order asks of the entry after the last one
  ordered : (i : ℕ) (d : Entry) → slice_get ledger i ≡ Some d → suc i ≡ length ledger → is_in_order (option_map last_of (Some d)) p.recording e.view ≡ true
  ordered i d at last =
      let here : length ledger - 1 ≡ i = omega (arith, last) in
      ap (λ (o : Option Entry). is_in_order (option_map last_of o) p.recording e.view) (sym (ap (slice_get ledger) here ∙ at)) ∙ p.order

  -- a recovery stands right after a signature, in the view after its
  recovered_of : (i : ℕ) (d : Entry) → slice_get ledger i ≡ Some d → suc i ≡ length ledger → recovers e ≡ true → (is_signature d.content ≡ true) × (e.view ≡ d.view + 1)
  recovered_of i d at last again =
      let here : length ledger - 1 ≡ i = omega (arith, last) in
      let is : is_recovering p.recording ≡ true = sym recovering_as ∙ again in
      let order = (and_parts (not (is_founding p.recording)) (not (is_recovering p.recording) || is_signature d.content) (and_parts _ _ (ordered i d at last)).0).1 in
      let view : is_next_view (option_map last_of (Some d)) p.recording e.view ≡ true = ap (λ (o : Option Entry). is_next_view (option_map last_of o) p.recording e.view) (sym (ap (slice_get ledger) here ∙ at)) ∙ p.view in
      let next : (e.view == d.view + 1) ≡ true = sym (ap (λ (b : Bool). if b then e.view == d.view + 1 else nat_le d.view e.view) is) ∙ view in
      (sym (ap (λ (b : Bool). not b || is_signature d.content) is) ∙ order, grind (arith, nat_tests, next))

  -- after an entry with which a service begins stands a signature of its view
  opened_of : (i : ℕ) (d : Entry) → slice_get ledger i ≡ Some d → suc i ≡ length ledger → begins d ≡ true → (is_signature e.content ≡ true) × (e.view ≡ d.view)
  opened_of i d at last starts =
      let w = (and_parts (not (is_founding p.recording) && (not (is_recovering p.recording) || is_signature d.content)) (not (begins d) || (is_signing p.recording && (e.view == d.view))) (ordered i d at last)).1 in
      let opening : (is_signing p.recording && (e.view == d.view)) ≡ true = sym (ap (λ (x : Bool). not x || (is_signing p.recording && (e.view == d.view))) starts) ∙ w in
      let parts = and_parts (is_signing p.recording) (e.view == d.view) opening in
      let same = parts.1 in
      (sym (signing_is e.content p.recording p.reads) ∙ parts.0, grind (arith, nat_tests, same))

  -- what holds of each entry and the one after it holds with one entry more
  pairs : (P : Entry → Entry → Type 0) → ((i : ℕ) (d f : Entry) → slice_get ledger i ≡ Some d → slice_get ledger (suc i) ≡ Some f → P d f) →
      ((i : ℕ) (d : Entry) → slice_get ledger i ≡ Some d → suc i ≡ length ledger → P d e) →
      (i : ℕ) (d f : Entry) → slice_get (ledger ++ e ∷ []) i ≡ Some d → slice_get (ledger ++ e ∷ []) (suc i) ≡ Some f → P d f
  pairs P old new i d f at next = ⊎_elim
      (λ (there : slice_get ledger i ≡ Some d). ⊎_elim
      (λ (before : slice_get ledger (suc i) ≡ Some f). old i d f there before)
      (λ (last : (suc i ≡ length ledger) × (f ≡ e)). subst (P d) (sym last.1) (new i d there last.0))
      (slice_get-push ledger e (suc i) f next))
      (λ (here : (i ≡ length ledger) × (d ≡ e)). ⊎_elim
      (λ (before : slice_get ledger (suc i) ≡ Some f). absurd (let within = slice_get-within ledger (suc i) f before in omega (arith, here.0, within)))
      (λ (last : (suc i ≡ length ledger) × (f ≡ e)). absurd (omega (arith, here.0, last.0)))
      (slice_get-push ledger e (suc i) f next))
      (slice_get-push ledger e i d at)

  founded : IsFounded (ledger ++ e ∷ [])
  founded = record {
    first = λ f s. ⊎_elim
        (λ (old : slice_get ledger 0 ≡ Some f). sound.founded.first f old)
        (λ (new : (0 ≡ length ledger) × (f ≡ e)). subst (λ (x : Entry). (founds x ≡ true) × (x.view ≡ first_view)) (sym new.1) (first_of new.0))
        (slice_get-push ledger e 0 f s);
    once = λ i f s h. ⊎_elim
        (λ (old : slice_get ledger i ≡ Some f). sound.founded.once i f old h)
        (λ (new : (i ≡ length ledger) × (f ≡ e)). new.0 ∙ once_of (ap founds (sym new.1) ∙ h))
        (slice_get-push ledger e i f s);
    recovered = pairs (λ d f. recovers f ≡ true → (is_signature d.content ≡ true) × (f.view ≡ d.view + 1)) sound.founded.recovered recovered_of;
    opened = λ i d f at starts next. pairs (λ d f. begins d ≡ true → (is_signature f.content ≡ true) × (f.view ≡ d.view)) (λ j x y here after is. sound.founded.opened j x y here is after) opened_of i d f at next starts;
  }

  all_sound : IsSound layers (ledger ++ e ∷ [])
  all_sound =
      let stands = stands_by e.content refl in
      record {
        in_order = in_order-push ledger e sound.in_order p.fits seqno up;
        founded = founded;
        serial = each-push (λ i before f. StandsAs layers f.content before f) ledger e sound.serial stands.as_content;
        governed = stands.governed;
      }

-- what is said of a ledger is kept by an entry that breaks no rule
pub sound-push : (layers : Layers) → (ledger : List Entry) (e : Entry) → IsSound layers ledger → broken layers ledger e ≡ None → IsSound layers (ledger ++ e ∷ [])
sound-push layers ledger e sound h = all_sound layers ledger e sound (passing layers ledger e h)

pub sound_empty : (layers : Layers) → IsSound layers []
sound_empty layers = record {
  in_order = record { fits = λ i e a. absurd (cc); seqnos = λ i e a. absurd (cc); views = λ i j e f le a b. absurd (cc) };
  founded = record { first = λ e a. absurd (cc); once = λ i e a h. absurd (cc); recovered = λ i e f a. absurd (cc); opened = λ i e f a. absurd (cc) };
  serial = λ i e a. absurd (cc);
  governed = λ map inside. ap (λ (ws : List Write). wrote_all no_tables ws map) (sym no_rows);
}
