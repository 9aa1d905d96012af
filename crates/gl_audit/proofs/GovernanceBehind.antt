-- The requests of governance that entries behind a base record: they follow one another, so all
-- that they come to is bounded.
use Rattle.std.proofs.Common.{◌≡◌, ℕ, zero, suc, ◌+◌, ◌<◌, ◌≤◌, List, [], ◌∷◌, ◌++◌, length, take, slice_get, Option, Some, None, IfSome, Result, Ok, Err, Bool, true, false, not, ◌&&◌, ◌||◌, ◌==◌, if◌then◌else◌, refl, sym, ◌∙◌, ap, subst, arith}
use Rattle.std.specs.List.{list_all}
use Rattle.std.specs.Result.{result_ok}
use Rattle.std.proofs.lemmas.Bool.{and_parts, and_from, not-true}
use Rattle.std.proofs.lemmas.Bool.Decides.{nat_tests}
use Rattle.std.proofs.lemmas.List.{append-nil, length-take-le}
use Rattle.gl_base.specs.declared.fault.CodeFault.{CodeFault}
use Rattle.gl_base.proofs.Lists.{slice_get-within}
use Rattle.gl_vmaps.specs.Rows.{are_ascending, row_writes}
use Rattle.gl_vmaps.specs.Writes.{is_write}
use Rattle.gl_vmaps.specs.declared.row.Row.{Row}
use Rattle.gl_tx.specs.Parsing.{request_of}
use Rattle.gl_tx.specs.declared.request.Operation.{Operation}
use Rattle.gl_entry.specs.Entry.{is_content}
use Rattle.gl_entry.specs.declared.entry.Content.{Content}
use Rattle.gl_entry.specs.declared.entry.Content.TheVariants as content
use Rattle.gl_entry.specs.declared.entry.Entry.{Entry}
use Rattle.gl_entry.proofs.EntryRanges.{fits_parts}
use Rattle.gl_requests.specs.Ranges as ranges
use Rattle.gl_requests.specs.Parsing.{request_in}
use Rattle.gl_requests.specs.declared.request.GovernanceRequest.{GovernanceRequest}
use Rattle.gl_gov_rules.specs.declared.change.Recorded.{Recorded}
use Rattle.gl_gov_rules.specs.declared.refusal.GovernanceRefusal.{GovernanceRefusal}
use Rattle.gl_gov_rules.specs.declared.row.GovernedRows.{GovernedRows}
use Rattle.gl_gov_rules.specs.Governed as governance
use Rattle.gl_gov_rules.specs.Governed.{IsAbove, IsBounded}
use Rattle.gl_gov_rules.specs.GovernedRows.{governed_rows, history_over}
use Rattle.gl_gov_rules.specs.Refusals.{refusal}
use Rattle.gl_gov_base.specs.GovernedOver.{is_unfounded, FollowsOver, IsGovernedOver, IsReadBase, IsReadInOrder}
use Rattle.gl_gov_base.proofs.BoundsOver.{bounded_over}
use Rattle.gl_gov_base.proofs.RequestsOver.{over_last, over_pushed, seqno_read, whole_over}
use Rattle.gl_snapshot_body.specs.Body.{are_rows, is_row}
use Rattle.gl_snapshot_body.specs.declared.body.Body.{Body}
use Rattle.gl_snapshot_body.proofs.BodyLaws.{parts_of}
use Rattle.gl_ledger.specs.Layers.{Layers}
use Rattle.gl_ledger.specs.declared.breach.Broken.{Broken}
use Rattle.gl_ledger.specs.declared.recording.Recording.{Recording}
use Rattle.gl_ledger.specs.declared.recording.Recording.TheVariants as recordings
use Rattle.gl_ledger.specs.Recordings.{last_entry, recording_of, governance_recording, application_recording, recorded_at, recorded_in, requests_from, requests_of}
use Rattle.gl_ledger.specs.Past.{Last, Past, last_or_base, past_at, past_behind, past_over}
use Rattle.gl_ledger.specs.Snapshot.{governed_base, requests_over}
use Rattle.gl_ledger.specs.Broken.{unless_refused, broken_by, is_in_order, broken_over}
use Rattle.gl_ledger.specs.Audit.{audited_at, audited_over}
use Rattle.gl_ledger.proofs.Governed.{governed}
use Rattle.gl_ledger.proofs.RequestEncodings.{request_in-encoded}
use Rattle.gl_ledger.proofs.Valid.{valid_sound}
use Rattle.gl_ledger.specs.Behind.{IsSpelled, IsReadAt, IsReadBody}
use Rattle.gl_ledger.proofs.EachPassing.{each_over, over-push, over_induction}
use Rattle.gl_ledger.proofs.Passing.{PassesAfter, passing_over}
use Rattle.gl_audit.proofs.SnapshotOver.{requests_over-push}

-- ---- what the body says

-- the body of a base that was read spells
pub spelled_read : (body : Body) → IsReadBody body → IsSpelled body
spelled_read body read = go body.base refl read
  where
    go : (n : ℕ) → body.base ≡ n → IsReadAt n body → IsSpelled body
    go zero is none = λ some. absurd (omega (arith, is, some))
    go (suc n) is b = λ some. (b.rows, b.spelled)

-- where there is a base its rows are there
pub rows_above : (body : Body) (g : GovernedRows) → 0 < body.base → governed_rows body.base body.rows ≡ Ok g → governed_base body ≡ Some g
rows_above body g some spelled = go (body.base == 0) refl
  where
    go : (t : Bool) → (body.base == 0) ≡ t → (if t then None else result_ok (governed_rows body.base body.rows)) ≡ Some g
    go true is = absurd (let none : body.base ≡ 0 = grind (arith, nat_tests, is) in omega (arith, none, some))
    go false is = ap result_ok spelled

-- ---- seqnos

-- the past of entries behind a base counts those up to it
pub past_len : (body : Body) (es : List Entry) → (past_over body es).len ≡ body.base + length es
past_len body es = go body.base refl
  where
    go : (n : ℕ) → body.base ≡ n → (past_at n body es).len ≡ body.base + length es
    go zero is = let sum : length es ≡ body.base + length es = omega (arith, is) in sum
    go (suc n) is = refl

-- each entry has the seqno after the one before it, the first that after the base
pub numbered_over : (layers : Layers) (body : Body) (es : List Entry) → audited_over layers body es ≡ None → (i : ℕ) (e : Entry) → slice_get es i ≡ Some e → e.seqno ≡ body.base + i + 1
numbered_over layers body es valid i e at =
    let p = passing_over layers body (take i es) e (each_over layers body es valid i e at) in
    let here = p.seqno in
    let len = past_len body (take i es) in
    let long : length (take i es) ≡ i = (let within = slice_get-within es i e at in length-take-le i es (omega (arith, within))) in
    let is : e.seqno ≡ (past_over body (take i es)).len + 1 = grind (arith, nat_tests, here) in
    omega (arith, is, len, long)

-- ---- which requests are recorded

above_both : (seqno : ℕ) (rs ts : List Recorded) → IsAbove seqno rs → IsAbove seqno ts → IsAbove seqno (rs ++ ts)
above_both seqno [] ts all more = more
above_both seqno (r ∷ rs) ts all more = (all.0, above_both seqno rs ts all.1 more)

above_one : (seqno place : ℕ) (c : Content) → place < seqno → IsAbove seqno (recorded_in place c)
above_one seqno place (content.Governance bytes) low = go (request_in bytes)
  where
    go : (o : Option GovernanceRequest) → IsAbove seqno (recorded_at place o)
    go None = tt
    go (Some q) = (low, tt)
above_one seqno place (content.Application bytes) low = tt
above_one seqno place (content.Signature s) low = tt
above_one seqno place (content.Evidence d) low = tt

-- a seqno is above those of the requests of entries that end before it
pub above_entries : (first seqno : ℕ) (es : List Entry) → first + length es ≤ seqno → IsAbove seqno (requests_from first es)
above_entries first seqno [] low = tt
above_entries first seqno (e ∷ es) low =
    above_both seqno (recorded_in first e.content) (requests_from (suc first) es) (above_one seqno first e.content (omega (arith, low))) (above_entries (suc first) seqno es (omega (arith, low)))

-- a request of governance is recorded at its place
pub recorded_as : (place : ℕ) (c : Content) (q : GovernanceRequest) → recording_of c ≡ Some (recordings.Governance q) → recorded_in place c ≡ record { seqno = place; request = q } ∷ []
recorded_as place (content.Governance bytes) q h = go (request_in bytes) h
  where
    go : (o : Option GovernanceRequest) → governance_recording o ≡ Some (recordings.Governance q) → recorded_at place o ≡ record { seqno = place; request = q } ∷ []
    go None w = absurd (cc)
    go (Some x) w =
        let k : recordings.Governance x ≡ recordings.Governance q = cc in
        let same : x ≡ q = cc in
        ap (λ (y : GovernanceRequest). recorded_at place (Some y)) same
recorded_as place (content.Application bytes) q h = absurd (go (request_of bytes) h)
  where
    go : (o : Result (List Operation) CodeFault) → application_recording o ≡ Some (recordings.Governance q) → ⊥
    go (Err fault) w = cc
    go (Ok x) w = cc
recorded_as place (content.Signature s) q h = absurd (cc)
recorded_as place (content.Evidence d) q h = absurd (cc)

-- its fields are in their ranges, as it was read from bytes
recorded_fits : (c : Content) (q : GovernanceRequest) → recording_of c ≡ Some (recordings.Governance q) → is_content c ≡ true → ranges.is_request q ≡ true
recorded_fits (content.Governance bytes) q h all = go (request_in bytes) refl h
  where
    go : (o : Option GovernanceRequest) → request_in bytes ≡ o → governance_recording o ≡ Some (recordings.Governance q) → ranges.is_request q ≡ true
    go None is w = absurd (cc)
    go (Some x) is w = let same : x ≡ q = cc in (request_in-encoded bytes q all (is ∙ ap (λ (y : GovernanceRequest). Some y) same)).0
recorded_fits (content.Application bytes) q h all = absurd (go (request_of bytes) h)
  where
    go : (o : Result (List Operation) CodeFault) → application_recording o ≡ Some (recordings.Governance q) → ⊥
    go (Err fault) w = cc
    go (Ok x) w = cc
recorded_fits (content.Signature s) q h all = absurd (cc)
recorded_fits (content.Evidence d) q h all = absurd (cc)

-- ---- a request that breaks no rule

unrefused : (o : Option GovernanceRefusal) (rest : Option Broken) → unless_refused o rest ≡ None → o ≡ None
unrefused None rest h = refl
unrefused (Some why) rest h = absurd (cc)

-- after a last entry, or a base, none founds a service
pub founds_none : (last : Last) (q : GovernanceRequest) (view : ℕ) → is_in_order (Some last) (recordings.Governance q) view ≡ true → governance.is_founding q ≡ false
founds_none last q view order =
    let both = and_parts (not (governance.is_founding q) && (not (governance.is_recovery q) || last.signs)) (not last.begins || (false && (view == last.view))) order in
    not-true (governance.is_founding q) (and_parts (not (governance.is_founding q)) (not (governance.is_recovery q) || last.signs) both.0).0

module _ (layers : Layers) (body : Body) (n : ℕ) (is : body.base ≡ suc n) where
  pub passing_behind : (es : List Entry) (e : Entry) → broken_over layers body es e ≡ None → PassesAfter layers (past_behind body es) e
  passing_behind es e unbroken = subst (λ (p : Past). PassesAfter layers p e) (ap (λ (k : ℕ). past_at k body es) is) (passing_over layers body es e unbroken)

  -- what the entry records obeys its own rules
  pub rest_behind : (es : List Entry) (e : Entry) (r : Recording) → broken_over layers body es e ≡ None → recording_of e.content ≡ Some r → broken_by layers r (past_behind body es) e ≡ None
  rest_behind es e r unbroken reads =
      let p = passing_behind es e unbroken in
      let same : p.recording ≡ r = (let both = sym p.reads ∙ reads in cc) in
      ap (λ (t : Recording). broken_by layers t (past_behind body es) e) (sym same) ∙ p.rest

  pub follows_behind : (g : GovernedRows) (es : List Entry) (e : Entry) (q : GovernanceRequest) → governed_rows body.base body.rows ≡ Ok g → broken_over layers body es e ≡ None →
      recording_of e.content ≡ Some (recordings.Governance q) → FollowsOver (governed_base body) (requests_over body es) (record { seqno = body.base + length es + 1; request = q })
  follows_behind g es e q spelled unbroken reads =
      let p = passing_behind es e unbroken in
      let same : p.recording ≡ recordings.Governance q = (let both = sym p.reads ∙ reads in cc) in
      let order : is_in_order (Some (last_or_base body (last_entry es))) (recordings.Governance q) e.view ≡ true =
      ap (λ (r : Recording). is_in_order (Some (last_or_base body (last_entry es))) r e.view) (sym same) ∙ p.order in
      let at = seqno_read body.base body.rows g spelled in
      let low : g.seqno < body.base + length es + 1 = omega (arith, at) in
      let base : governed_base body ≡ Some g = rows_above body g (omega (arith, is)) spelled in
      record {
        above_base = subst (λ (o : Option GovernedRows). IfSome o (λ (x : GovernedRows). x.seqno < body.base + length es + 1)) (sym base) low;
        above = above_entries (suc body.base) (body.base + length es + 1) es (omega arith);
        fits = recorded_fits e.content q reads (fits_parts e p.fits).content;
        founding = founds_none (last_or_base body (last_entry es)) q e.view order ∙ ap (λ (o : Option GovernedRows). is_unfounded o (requests_over body es)) (sym base);
        accepted = unrefused (refusal (history_over (governed_base body) (requests_over body es)) (body.base + length es + 1) q) _ (rest_behind es e (recordings.Governance q) unbroken reads);
      }

  pub governed_behind : (g : GovernedRows) (es : List Entry) → governed_rows body.base body.rows ≡ Ok g → audited_over layers body es ≡ None → IsGovernedOver (governed_base body) (requests_over body es)
  governed_behind g es spelled valid = over_induction layers body (λ (l : List Entry). IsGovernedOver (governed_base body) (requests_over body l)) none more es valid
    where
      none : IsGovernedOver (governed_base body) []
      none i r at = absurd (cc)

      more : (l : List Entry) (e : Entry) → audited_over layers body l ≡ None → IsGovernedOver (governed_base body) (requests_over body l) → broken_over layers body l e ≡ None →
          IsGovernedOver (governed_base body) (requests_over body (l ++ e ∷ []))
      more l e h all one = subst (IsGovernedOver (governed_base body)) (sym (requests_over-push body l e)) (by_content e.content (λ q reads. follows_behind g l e q spelled one reads))
        where
          quiet : IsGovernedOver (governed_base body) (requests_over body l ++ [])
          quiet = subst (IsGovernedOver (governed_base body)) (sym (append-nil (requests_over body l))) all

          by_content : (c : Content) → ((q : GovernanceRequest) → recording_of c ≡ Some (recordings.Governance q) → FollowsOver (governed_base body) (requests_over body l) (record { seqno = body.base + length l + 1; request = q })) →
              IsGovernedOver (governed_base body) (requests_over body l ++ recorded_in (body.base + length l + 1) c)
          by_content (content.Governance bytes) each = go (request_in bytes) refl
            where
              go : (o : Option GovernanceRequest) → request_in bytes ≡ o → IsGovernedOver (governed_base body) (requests_over body l ++ recorded_at (body.base + length l + 1) o)
              go None reads = quiet
              go (Some q) reads = over_pushed (governed_base body) (requests_over body l) (record { seqno = body.base + length l + 1; request = q }) all (each q (ap governance_recording reads))
          by_content (content.Application bytes) each = quiet
          by_content (content.Signature s) each = quiet
          by_content (content.Evidence d) each = quiet

-- ---- all of them

-- those of entries that break no rule follow one another
pub governed_over : (layers : Layers) (body : Body) (es : List Entry) → IsSpelled body → audited_over layers body es ≡ None → IsGovernedOver (governed_base body) (requests_over body es)
governed_over layers body es spelled valid = go body.base refl valid
  where
    go : (n : ℕ) → body.base ≡ n → audited_at layers n body es ≡ None → IsGovernedOver (governed_base body) (requests_over body es)
    go zero is none =
        subst (λ (k : ℕ). IsGovernedOver (if k == 0 then None else result_ok (governed_rows k body.rows)) (requests_from (suc k) es)) (sym is)
        ((whole_over (requests_of es)).0 (governed layers es (valid_sound layers es none)))
    go (suc n) is none = let g = spelled (omega (arith, is)) in governed_behind layers body n is g.0 es g.1 valid

-- so a request of one more that breaks none follows them
pub follows_over : (layers : Layers) (body : Body) (es : List Entry) (e : Entry) (q : GovernanceRequest) → IsSpelled body → audited_over layers body es ≡ None → broken_over layers body es e ≡ None →
    recording_of e.content ≡ Some (recordings.Governance q) → FollowsOver (governed_base body) (requests_over body es) (record { seqno = body.base + length es + 1; request = q })
follows_over layers body es e q spelled valid unbroken reads =
    (over_last (governed_base body) (requests_over body es) (record { seqno = body.base + length es + 1; request = q })
    (subst (IsGovernedOver (governed_base body))
    (requests_over-push body es e ∙ ap (λ (rs : List Recorded). requests_over body es ++ rs) (recorded_as (body.base + length es + 1) e.content q reads))
    (governed_over layers body (es ++ e ∷ []) spelled (over-push layers body es e valid unbroken)))).1

-- ---- bounds

written_rows : (rs : List Row) → list_all is_row rs ≡ true → list_all is_write (row_writes rs) ≡ true
written_rows [] h = refl
written_rows (r ∷ rs) h =
    let both = and_parts (is_row r) (list_all is_row rs) h in
    and_from (is_row r) (list_all is_write (row_writes rs)) both.0 (written_rows rs both.1)

-- the rows of a body stand in order, and those of governance were read
pub read_in_order : (body : Body) → IsReadBody body → IsReadInOrder (governed_base body)
read_in_order body read = go body.base refl read
  where
    go : (n : ℕ) → body.base ≡ n → IsReadAt n body → IsReadInOrder (governed_base body)
    go zero is none = subst (λ (b : Body). IsReadInOrder (governed_base b)) (sym none) tt
    go (suc n) is b =
        let stand = (and_parts _ (are_rows body.rows) (parts_of body b.fits).rows).1 in
        let both = and_parts (list_all is_row body.rows) (are_ascending body.rows) stand in
        subst IsReadInOrder (sym (rows_above body b.rows (omega (arith, is)) b.spelled)) (
          body.rows,
          record { fits = written_rows body.rows both.0; read = ap (λ (k : ℕ). governed_rows k body.rows) (seqno_read body.base body.rows b.rows b.spelled) ∙ b.spelled },
          both.1,
        )

ordered_read : (base : Option GovernedRows) → IsReadInOrder base → IsReadBase base
ordered_read None read = tt
ordered_read (Some g) read = (read.0, read.1)

pub read_base : (body : Body) → IsReadBody body → IsReadBase (governed_base body)
read_base body read = ordered_read (governed_base body) (read_in_order body read)

pub bounded_behind : (layers : Layers) (body : Body) (es : List Entry) → IsReadBody body → audited_over layers body es ≡ None → IsBounded (history_over (governed_base body) (requests_over body es))
bounded_behind layers body es read valid = bounded_over (governed_base body) (requests_over body es) (read_base body read) (governed_over layers body es (spelled_read body read) valid)
