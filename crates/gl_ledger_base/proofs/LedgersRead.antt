-- What is known of a ledger in whose audit the entries up to a base count as signatures, and which
-- finds no fault: all that is known of a valid one but where signatures stand.
use Rattle.std.proofs.Common.{◌≡◌, ⊎_elim, ℕ, zero, suc, ◌+◌, ◌-◌, ◌<◌, ◌≤◌, nat_lt, nat_le, max, min, List, [], ◌∷◌, ◌++◌, length, slice_get, Option, Some, None, Result, Ok, Err, Bool, true, false, not, ◌&&◌, ◌||◌, ◌==◌, if◌then◌else◌, option_map, refl, sym, ◌∙◌, ap, subst, arith, length-append}
use Rattle.std.specs.List.{AllByRecursion}
use Rattle.std.proofs.lemmas.Bool.{and_parts}
use Rattle.std.proofs.lemmas.Bool.Decides.{nat_tests}
use Rattle.gl_base.specs.Bytes.{same_bytes}
use Rattle.gl_base.specs.TxId.{last_seqno}
use Rattle.gl_base.specs.declared.fault.CodeFault.{CodeFault}
use Rattle.gl_base.proofs.Lists.{slice_get-push, slice_get-within}
use Rattle.gl_rules.specs.Identity.{member}
use Rattle.gl_rules.specs.Log.{entry_at}
use Rattle.gl_rules.specs.World.{first_view}
use Rattle.gl_vmaps.specs.Changes.{Turns}
use Rattle.gl_vmaps.specs.Tables.{Tables, no_tables, wrote_all}
use Rattle.gl_vmaps.specs.declared.write.Write.{Write}
use Rattle.gl_tx.specs.Parsing.{request_of}
use Rattle.gl_tx.specs.Run.{run}
use Rattle.gl_tx.specs.declared.abort.Abort.{Abort}
use Rattle.gl_tx.specs.declared.request.Operation.{Operation}
use Rattle.gl_tx.specs.declared.runs.Ran.{Ran}
use Rattle.gl_entry.specs.Entry.{is_content, are_no_writes, may_write}
use Rattle.gl_entry.specs.declared.entry.Content.{Content}
use Rattle.gl_entry.specs.declared.entry.Content.TheVariants as content
use Rattle.gl_entry.specs.declared.entry.Entry.{Entry}
use Rattle.gl_entry.proofs.EntryRanges.{Fits, fits_parts}
use Rattle.gl_requests.specs.Parsing.{request_in}
use Rattle.gl_requests.specs.declared.genesis.ServiceState.{ServiceState}
use Rattle.gl_requests.specs.declared.genesis.ServiceState.TheVariants.{Opening, Open, WaitingForRecoveryShares}
use Rattle.gl_requests.specs.declared.request.GovernanceRequest.{GovernanceRequest}
use Rattle.gl_gov_rules.specs.declared.change.Recorded.{Recorded}
use Rattle.gl_gov_rules.specs.declared.refusal.GovernanceRefusal.{GovernanceRefusal}
use Rattle.gl_gov_rules.specs.Changes.{history}
use Rattle.gl_gov_rules.specs.Governed.{Follows, IsGoverned, is_nothing}
use Rattle.gl_gov_rules.specs.Refusals.{refusal}
use Rattle.gl_gov_rules.specs.Rows.{effect, effect_writes}
use Rattle.gl_gov_rules.proofs.Effects.{effect_turns, no_rows}
use Rattle.gl_gov_rules.proofs.Prefixes.{governed_more}
use Rattle.gl_ledger.specs.Broken.{are_same_writes, broken_by, broken_in_state, is_in_order, is_later_commit, is_next_view, may_record, unless_refused}
use Rattle.gl_ledger.specs.Layers.{Layers}
use Rattle.gl_ledger.specs.Past.{commit_after, is_begun, last_commit, last_of, past_from, signs_at}
use Rattle.gl_ledger.specs.Recordings.{application_recording, governance_recording, is_founding, is_recovering, last_entry, recording_of, requests_of}
use Rattle.gl_ledger.specs.Serial.{IsLedger}
use Rattle.gl_ledger.specs.ServiceRow.{service_state}
use Rattle.gl_ledger.specs.Snapshot.{greatest_from, greatest_with}
use Rattle.gl_ledger.specs.Sound.{HasGovernedTables}
use Rattle.gl_ledger.specs.Tree.{tables_of}
use Rattle.gl_ledger.specs.declared.breach.Broken.{Broken}
use Rattle.gl_ledger.specs.declared.recording.Recording.{Recording}
use Rattle.gl_ledger.specs.declared.recording.Recording.TheVariants as recordings
use Rattle.gl_ledger.proofs.Applications.{run_outside}
use Rattle.gl_ledger.proofs.Gathering.{requests-more, requests-quiet}
use Rattle.gl_ledger.proofs.Governed.{above}
use Rattle.gl_ledger.proofs.Growth.{IsNoGovernance, IsOutside, in_order-push, untouched}
use Rattle.gl_ledger.proofs.Passing.{passed, PassesAfter}
use Rattle.gl_ledger.proofs.Pushes.{no_last}
use Rattle.gl_ledger.proofs.RequestEncodings.{request_in-encoded}
use Rattle.gl_ledger.proofs.SameWrites.{same_writes_are}
use Rattle.gl_ledger.proofs.Sounding.{wrote_all_local}
use Rattle.gl_ledger.proofs.TablesLaws.{tables_of-push}
use Rattle.gl_ledger_base.specs.Ledgers.{audited_from}
use Rattle.gl_ledger.proofs.EachPassing.{passes_induction}
use Rattle.gl_ledger_base.proofs.LedgersEach.{broken_counting, each_from}
use Rattle.gl_ledger_base.proofs.LedgersPassing.{passing_from}
use Rattle.gl_ledger_base.proofs.LedgersTold.{commit_both, greatest_both}

pub record IsRead (ledger : List Entry) : Type 0 where
  pub governed : IsGoverned (requests_of ledger)
  pub tables : HasGovernedTables ledger
  pub founded : 0 < length ledger → is_nothing (requests_of ledger) ≡ false
  pub greatest : greatest_from 0 ledger ≡ last_commit ledger
  pub within : last_commit ledger ≤ length ledger
  pub in_order : IsLedger ledger
  pub first : (e : Entry) → slice_get ledger 0 ≡ Some e → e.view ≡ first_view
  pub named : length ledger ≤ last_seqno

-- ---- small facts

none_written : (ws : List Write) → are_no_writes ws ≡ true → ws ≡ []
none_written [] h = refl
none_written (w ∷ ws) h = absurd (cc)

some_pushed : (ps : List Recorded) (r : Recorded) → is_nothing (ps ++ r ∷ []) ≡ false
some_pushed [] r = refl
some_pushed (p ∷ ps) r = refl

-- ---- one more entry

module _ (layers : Layers) (base : ℕ) (ledger : List Entry) (e : Entry) (all : IsRead ledger) (low : base ≤ length ledger) (p : PassesAfter layers (past_from base ledger) e) where
  fits : Fits e
  fits = fits_parts e p.fits

  -- what the entry records obeys its own rules
  rest_of : (t : Recording) → recording_of e.content ≡ Some t → broken_by layers t (past_from base ledger) e ≡ None
  rest_of t reads =
      let same : p.recording ≡ t = (let both = sym p.reads ∙ reads in cc) in
      ap (λ (x : Recording). broken_by layers x (past_from base ledger) e) (sym same) ∙ p.rest

  -- the first entry founds the service
  founding_first : length ledger ≡ 0 → (is_founding p.recording ≡ true) × (e.view ≡ first_view)
  founding_first none = go ledger none p.view
    where
      go : (l : List Entry) → length l ≡ 0 → is_next_view (option_map last_of (last_entry l)) p.recording e.view ≡ true → (is_founding p.recording ≡ true) × (e.view ≡ first_view)
      go [] h w = let both = and_parts (is_founding p.recording) (e.view == first_view) w in (both.0, let at = both.1 in grind (arith, nat_tests))
      go (x ∷ xs) h w = absurd (omega (arith, h))

  -- and no later one does
  founding_later : 0 < length ledger → is_founding p.recording ≡ false
  founding_later some = go (last_entry ledger) refl p.order
    where
      never : (b : Bool) → not b ≡ true → b ≡ false
      never true h = absurd (cc)
      never false h = refl

      go : (o : Option Entry) → last_entry ledger ≡ o → is_in_order (option_map last_of o) p.recording e.view ≡ true → is_founding p.recording ≡ false
      go None is w = absurd (let none = ap length (no_last ledger is) in omega (arith, some, none))
      go (Some last) is w = never (is_founding p.recording) (and_parts (not (is_founding p.recording)) (not (is_recovering p.recording) || (last_of last).signs) (and_parts _ _ w).0).0

  record Grows : Type 0 where
    governed : IsGoverned (requests_of (ledger ++ e ∷ []))
    tables : HasGovernedTables (ledger ++ e ∷ [])
    founded : is_nothing (requests_of (ledger ++ e ∷ [])) ≡ false

  -- nothing of governance is recorded or written
  quietly : IsNoGovernance e.content → is_founding p.recording ≡ false → AllByRecursion IsOutside e.writes → Grows
  quietly none founds out = record {
    governed = subst IsGoverned (sym (requests-quiet ledger e none)) all.governed;
    tables = λ map inside.
        ap (λ (t : Tables). t map) (tables_of-push ledger e) ∙ untouched (tables_of ledger) e.writes map out inside ∙ all.tables map inside
        ∙ ap (λ (rs : List Recorded). effect rs map) (sym (requests-quiet ledger e none));
    founded = ap is_nothing (requests-quiet ledger e none) ∙ all.founded (some (length ledger) refl);
  }
    where
      some : (n : ℕ) → length ledger ≡ n → 0 < length ledger
      some zero is = absurd (let first = (founding_first is).0 in let no = founds in cc)
      some (suc n) is = omega (arith, is)

  nothing_written : may_write e.content ≡ false → AllByRecursion IsOutside e.writes
  nothing_written may =
      subst (λ (ws : List Write). AllByRecursion IsOutside ws) (sym (none_written e.writes (sym (ap (λ (b : Bool). b || are_no_writes e.writes) may) ∙ fits.writes))) tt

  application : (bytes : List ℕ) (ops : List Operation) → e.content ≡ content.Application bytes → request_of bytes ≡ Ok ops → Grows
  application bytes ops is reads = in_state (service_state (tables_of ledger)) (run ops (tables_of ledger)) refl (rest_of (recordings.Application ops) recorded_as)
    where
      recorded_as : recording_of e.content ≡ Some (recordings.Application ops)
      recorded_as = ap recording_of is ∙ ap application_recording reads

      unfounding : is_founding p.recording ≡ false
      unfounding = let same : p.recording ≡ recordings.Application ops = (let both = sym p.reads ∙ recorded_as in cc) in ap is_founding same

      in_state : (s : ServiceState) (r : Result Ran Abort) → run ops (tables_of ledger) ≡ r → broken_in_state (length ledger + 1) s r e ≡ None → Grows
      in_state Opening r runs w = absurd (cc)
      in_state WaitingForRecoveryShares r runs w = absurd (cc)
      in_state Open (Err abort) runs w = absurd (cc)
      in_state Open (Ok ran) runs w =
          let writes : e.writes ≡ ran.writes = same_writes_are e.writes ran.writes (passed (are_same_writes e.writes ran.writes) _ _ w).0 in
          quietly (subst IsNoGovernance (sym is) tt) unfounding (subst (λ (ws : List Write). AllByRecursion IsOutside ws) (sym writes) (run_outside ops (tables_of ledger) ran runs))

  governance : (bytes : List ℕ) (g : GovernanceRequest) → e.content ≡ content.Governance bytes → request_in bytes ≡ Some g → Grows
  governance bytes g is reads =
      let one = unrefused (refusal (history before) (length ledger + 1) g) _ (rest_of (recordings.Governance g) recorded_as) in
      let writes : e.writes ≡ effect_writes before r = same_writes_are e.writes (effect_writes before r) (passed (are_same_writes e.writes (effect_writes before r)) _ None one.1).0 in
      let turns : Turns e.writes (effect before) (effect (before ++ r ∷ [])) = subst (λ (ws : List Write). Turns ws (effect before) (effect (before ++ r ∷ []))) (sym writes) (effect_turns before r) in
      let follows : Follows before r = record {
        above = above ledger;
        fits = (request_in-encoded bytes g (sym (ap is_content is) ∙ fits.content) reads).0;
        founding = sym (ap is_founding same) ∙ founding (length ledger) refl;
        accepted = one.0;
      } in
      record {
        governed = subst IsGoverned (sym (requests-more ledger e bytes g is reads)) (governed_more before r all.governed follows);
        tables = λ map inside.
            ap (λ (t : Tables). t map) (tables_of-push ledger e) ∙ wrote_all_local (tables_of ledger) (effect before) e.writes map (all.tables map inside) ∙ turns.turns map
            ∙ ap (λ (rs : List Recorded). effect rs map) (sym (requests-more ledger e bytes g is reads));
        founded = ap is_nothing (requests-more ledger e bytes g is reads) ∙ some_pushed before r;
      }
    where
      before : List Recorded
      before = requests_of ledger

      r : Recorded
      r = record { seqno = length ledger + 1; request = g }

      recorded_as : recording_of e.content ≡ Some (recordings.Governance g)
      recorded_as = ap recording_of is ∙ ap governance_recording reads

      same : p.recording ≡ recordings.Governance g
      same = let both = sym p.reads ∙ recorded_as in cc

      unrefused : (o : Option GovernanceRefusal) (rest : Option Broken) → unless_refused o rest ≡ None → (o ≡ None) × (rest ≡ None)
      unrefused None rest w = (refl, w)
      unrefused (Some why) rest w = absurd (cc)

      founding : (n : ℕ) → length ledger ≡ n → is_founding p.recording ≡ is_nothing before
      founding zero none = (founding_first none).0 ∙ empty ledger none
        where
          empty : (l : List Entry) → length l ≡ 0 → true ≡ is_nothing (requests_of l)
          empty [] h = refl
          empty (x ∷ xs) h = absurd (omega (arith, h))
      founding (suc n) some = let there : 0 < length ledger = omega (arith, some) in founding_later there ∙ sym (all.founded there)

  unread : {X : Type 0} → recording_of e.content ≡ None → X
  unread h = absurd (let k = sym p.reads ∙ h in cc)

  -- each kind of entry keeps what is known of governance
  grows : (c : Content) → e.content ≡ c → Grows
  grows (content.Signature s) is =
      quietly (subst IsNoGovernance (sym is) tt)
      (let same : p.recording ≡ recordings.Signature s = (let both = sym p.reads ∙ ap recording_of is in cc) in ap is_founding same)
      (nothing_written (ap may_write is))
  grows (content.Evidence d) is =
      quietly (subst IsNoGovernance (sym is) tt)
      (let same : p.recording ≡ recordings.Evidence d = (let both = sym p.reads ∙ ap recording_of is in cc) in ap is_founding same)
      (nothing_written (ap may_write is))
  grows (content.Application bytes) is = go (request_of bytes) refl
    where
      go : (r : Result (List Operation) CodeFault) → request_of bytes ≡ r → Grows
      go (Err fault) reads = unread (ap recording_of is ∙ ap application_recording reads)
      go (Ok ops) reads = application bytes ops is reads
  grows (content.Governance bytes) is = go (request_in bytes) refl
    where
      go : (o : Option GovernanceRequest) → request_in bytes ≡ o → Grows
      go None reads = unread (ap recording_of is ∙ ap governance_recording reads)
      go (Some g) reads = governance bytes g is reads

  -- ---- commits

  -- a commit that may be recorded isn't below the last one, and stands within the ledger
  recorded : (commit : ℕ) → may_record (past_from base ledger) commit ≡ true → (last_commit ledger ≤ commit) × (commit ≤ length ledger + 1)
  recorded commit h = go (is_begun (past_from base ledger).last) h
    where
      placed : (n : ℕ) → signs_at (entry_at ledger n) ≡ true → n ≤ length ledger
      placed zero w = omega arith
      placed (suc n) w = found (slice_get ledger n) refl w
        where
          found : (o : Option Entry) → slice_get ledger n ≡ o → signs_at o ≡ true → suc n ≤ length ledger
          found None is w = absurd (cc)
          found (Some f) is w = let u = slice_get-within ledger n f is in omega (arith, u)

      counts : (b : Bool) → nat_le commit base ≡ b → (a : Bool) → ((a && b) || signs_at (entry_at ledger commit)) ≡ true → commit ≤ length ledger
      counts true is a w = let up : commit ≤ base = grind (arith, nat_tests, is) in omega (arith, up, low)
      counts false is true w = placed commit w
      counts false is false w = placed commit w

      go : (t : Bool) → (if t then commit == length ledger + 1 else is_later_commit (past_from base ledger) commit) ≡ true → (last_commit ledger ≤ commit) × (commit ≤ length ledger + 1)
      go true w = let u : commit ≡ length ledger + 1 = grind (arith, nat_tests, w) in (omega (arith, all.within, u), omega (arith, u))
      go false w =
          let one = and_parts ((past_from base ledger).signs_at commit && nat_le (last_commit ledger) commit) _ w in
          let two = and_parts ((past_from base ledger).signs_at commit) (nat_le (last_commit ledger) commit) one.0 in
          let at = counts (nat_le commit base) refl (nat_lt 0 commit) two.0 in
          let up = two.1 in
          (grind (arith, nat_tests, up), omega (arith, at))

  record Commits : Type 0 where
    greatest : greatest_from 0 (ledger ++ e ∷ []) ≡ last_commit (ledger ++ e ∷ [])
    within : last_commit (ledger ++ e ∷ []) ≤ length ledger + 1

  commits : (c : Content) → e.content ≡ c → Commits
  commits c is = go c is (greatest_both 0 ledger (e ∷ [])) (commit_both 0 ledger (e ∷ []))
    where
      kept : (greatest_with (greatest_from 0 ledger) e.content ≡ greatest_from 0 ledger) → (commit_after (last_commit ledger) e.content ≡ last_commit ledger) →
          greatest_from 0 (ledger ++ e ∷ []) ≡ greatest_with (greatest_from 0 ledger) e.content → last_commit (ledger ++ e ∷ []) ≡ commit_after (last_commit ledger) e.content → Commits
      kept one two g l = record { greatest = g ∙ one ∙ all.greatest ∙ sym (l ∙ two); within = let at = l ∙ two in omega (arith, all.within, at) }

      go : (c : Content) → e.content ≡ c → greatest_from 0 (ledger ++ e ∷ []) ≡ greatest_with (greatest_from 0 ledger) e.content → last_commit (ledger ++ e ∷ []) ≡ commit_after (last_commit ledger) e.content → Commits
      go (content.Signature s) is g l =
          let h = rest_of (recordings.Signature s) (ap recording_of is) in
          let one = passed (member s.node (past_from base ledger).nodes) _ _ h in
          let two = passed (same_bytes s.root (past_from base ledger).root) _ _ one.1 in
          let three = passed (may_record (past_from base ledger) s.commit) _ _ two.1 in
          let low = recorded s.commit three.0 in
          let l' : last_commit (ledger ++ e ∷ []) ≡ s.commit = l ∙ ap (commit_after (last_commit ledger)) is in
          let g' : greatest_from 0 (ledger ++ e ∷ []) ≡ max (greatest_from 0 ledger) s.commit = g ∙ ap (greatest_with (greatest_from 0 ledger)) is in
          record { greatest = (let same = all.greatest in let l0 = low.0 in omega (arith, g', l', same, l0)); within = (let l1 = low.1 in omega (arith, l', l1)) }
      go (content.Governance b) is g l = kept (ap (greatest_with (greatest_from 0 ledger)) is) (ap (commit_after (last_commit ledger)) is) g l
      go (content.Application b) is g l = kept (ap (greatest_with (greatest_from 0 ledger)) is) (ap (commit_after (last_commit ledger)) is) g l
      go (content.Evidence d) is g l = kept (ap (greatest_with (greatest_from 0 ledger)) is) (ap (commit_after (last_commit ledger)) is) g l

  -- ---- all of it

  place : e.seqno ≡ suc (length ledger)
  place = let h = p.seqno in let u : e.seqno ≡ length ledger + 1 = grind (arith, nat_tests, h) in omega (arith, u)

  -- no view before it is above its own
  up : (i : ℕ) (f : Entry) → slice_get ledger i ≡ Some f → f.view ≤ e.view
  up i f at = go (last_entry ledger) refl p.view
    where
      next : (again : Bool) (before : ℕ) → (if again then e.view == before + 1 else nat_le before e.view) ≡ true → before ≤ e.view
      next true before w = let one : e.view ≡ before + 1 = grind (arith, nat_tests, w) in omega (arith, one)
      next false before w = grind (arith, nat_tests, w)

      go : (o : Option Entry) → last_entry ledger ≡ o → is_next_view (option_map last_of o) p.recording e.view ≡ true → f.view ≤ e.view
      go None is w = absurd (let none : slice_get ledger i ≡ None = ap (λ (l : List Entry). slice_get l i) (no_last ledger is) in cc)
      go (Some last) is w =
          let here = slice_get-within ledger i f at in
          let low = all.in_order.views i (length ledger - 1) f last (omega (arith, here)) at is in
          omega (arith, low, next (is_recovering p.recording) last.view w)

  all_read : IsRead (ledger ++ e ∷ [])
  all_read =
      let grown = grows e.content refl in
      let recorded = commits e.content refl in
      let long = length-append ledger (e ∷ []) in
      record {
        governed = grown.governed;
        tables = grown.tables;
        founded = λ some. grown.founded;
        greatest = recorded.greatest;
        within = (let w = recorded.within in omega (arith, w, long));
        in_order = in_order-push ledger e all.in_order p.fits place up;
        first = λ f at. ⊎_elim
            (λ (old : slice_get ledger 0 ≡ Some f). all.first f old)
            (λ (new : (0 ≡ length ledger) × (f ≡ e)). ap (λ (x : Entry). x.view) new.1 ∙ (founding_first (sym new.0)).1)
            (slice_get-push ledger e 0 f at);
        named = (let up = p.named in let w : length ledger + 1 ≤ last_seqno = grind (arith, nat_tests, up) in omega (arith, w, long));
      }

nothing_read : IsRead []
nothing_read = record {
  governed = λ i r at. absurd (cc);
  tables = λ map inside. ap (λ (ws : List Write). wrote_all no_tables ws map) (sym no_rows);
  founded = λ some. absurd (omega (arith, some));
  greatest = refl;
  within = omega arith;
  in_order = record { fits = λ i e at. absurd (cc); seqnos = λ i e at. absurd (cc); views = λ i j e f le a b. absurd (cc) };
  first = λ e at. absurd (cc);
  named = omega arith;
}

-- so all of it is known of a ledger that breaks no rule
pub is_read : (layers : Layers) (base : ℕ) (ledger : List Entry) → audited_from layers base ledger ≡ None → IsRead ledger
is_read layers base ledger valid =
    passes_induction (broken_counting layers base) IsRead nothing_read
    (λ before e each all one. all_read layers (min base (length before)) before e all (omega arith) (passing_from layers (min base (length before)) before e one))
    ledger (each_from layers base ledger valid)
