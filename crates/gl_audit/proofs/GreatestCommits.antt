-- In a valid ledger the commit of the last signature is the greatest. Behind a base it is so of the
-- entries, and the body's commit may be above it.
use Rattle.std.proofs.Common.{◌≡◌, ℕ, zero, suc, ◌+◌, ◌-◌, ◌≤◌, max, List, [], ◌∷◌, ◌++◌, length, Option, None, Some, Bool, true, false, ◌&&◌, ◌||◌, ◌==◌, nat_le, nat_lt, if◌then◌else◌, refl, sym, ◌∙◌, ap, subst, arith, length-append}
use Rattle.std.proofs.lemmas.Bool.{and_parts}
use Rattle.std.proofs.lemmas.Bool.Decides.{nat_tests}
use Rattle.gl_base.specs.Bytes.{same_bytes}
use Rattle.gl_base.proofs.Lists.{slice_get-within}
use Rattle.gl_hss.specs.declared.types.Types.TheVariants.{H5W4}
use Rattle.gl_rules.specs.Identity.{member}
use Rattle.gl_rules.specs.Log.{entry_at, greatest_recorded}
use Rattle.gl_entry.specs.Entry.{is_signature, recorded_commit}
use Rattle.gl_entry.specs.declared.entry.Content.{Content}
use Rattle.gl_entry.specs.declared.entry.Content.TheVariants as content
use Rattle.gl_entry.specs.declared.entry.Entry.{Entry}
use Rattle.gl_snapshot_body.specs.declared.body.Body.{Body}
use Rattle.gl_ledger.specs.NodeKeys.{NodeKeys, service_layers}
use Rattle.gl_ledger.specs.LedgerBook.{ledger_book, by_rule}
use Rattle.gl_ledger.specs.Past.{commit_after, commit_from, is_begun, last_commit, past_behind, signs_at, signs_over}
use Rattle.gl_ledger.specs.Snapshot.{greatest_with, greatest_from}
use Rattle.gl_ledger.specs.Broken.{broken_over, is_later_commit, may_record}
use Rattle.gl_ledger.specs.Recordings.{recording_of}
use Rattle.gl_ledger.specs.declared.recording.Recording.TheVariants as recordings
use Rattle.gl_ledger.specs.Audit.{audited, audited_at, audited_over}
use Rattle.gl_ledger.proofs.Auditing.{audited_none}
use Rattle.gl_ledger.proofs.Commits.{commits_kept}
use Rattle.gl_ledger.proofs.Passing.{passed}
use Rattle.gl_ledger.specs.Behind.{IsReadAt, IsReadBody}
use Rattle.gl_ledger.proofs.EachPassing.{over_induction}
use Rattle.gl_audit.proofs.GovernanceBehind.{rest_behind}
use Rattle.gl_audit.proofs.SnapshotOver.{commit_from-push, commit_pushed}

-- it asks for no keys, so any will do
any_keys : NodeKeys
any_keys = record { key_of = λ x. record { types = H5W4; identifier = []; seed = [] } }

recorded_greatest : (commit : ℕ) (es : List Entry) → greatest_from commit es ≡ max commit (greatest_recorded (ledger_book service_layers any_keys) es)
unfolding greatest_recorded
recorded_greatest commit [] = omega arith
recorded_greatest commit (e ∷ es) = recorded_greatest (greatest_with commit e.content) es ∙ go e.content (greatest_recorded (ledger_book service_layers any_keys) es)
  where
    go : (c : Content) (rest : ℕ) → max (greatest_with commit c) rest ≡ max commit (max (if is_signature c then recorded_commit c else 0) rest)
    go (content.Governance bytes) rest = omega arith
    go (content.Application bytes) rest = omega arith
    go (content.Signature s) rest = omega arith
    go (content.Evidence d) rest = omega arith

last_within : (one other : ℕ) (es : List Entry) → one ≤ other → commit_from one es ≤ greatest_from other es
last_within one other [] le = le
last_within one other (e ∷ es) le = last_within (commit_after one e.content) (greatest_with other e.content) es (go e.content)
  where
    go : (c : Content) → commit_after one c ≤ greatest_with other c
    go (content.Governance bytes) = le
    go (content.Application bytes) = le
    go (content.Signature s) = omega arith
    go (content.Evidence d) = le

greatest_last : (ledger : List Entry) → audited service_layers ledger ≡ None → greatest_from 0 ledger ≡ last_commit ledger
greatest_last ledger valid =
    let most = (commits_kept service_layers any_keys ledger (λ i e at. ap by_rule (audited_none service_layers ledger valid i e at))).greatest in
    omega (arith, recorded_greatest 0 ledger, most, last_within 0 0 ledger (omega arith))

-- ---- behind a base

-- The greatest commit is that of the body or that of the last signature, and the commit of the last
-- signature is that of the body or is within the entries.
record KeepsCommits (body : Body) (es : List Entry) : Type 0 where
  greatest : greatest_from body.commit es ≡ max body.commit (commit_from body.commit es)
  within : commit_from body.commit es ≤ max body.commit (body.base + length es)

module _ (body : Body) (n : ℕ) (is : body.base ≡ suc n) where
  -- a seqno that counts as a signature's is within the entries
  signs_within : (es : List Entry) (seqno : ℕ) → signs_over body es seqno ≡ true → seqno ≤ body.base + length es
  signs_within es seqno h = go (nat_le seqno body.base) refl (nat_lt 0 seqno) h
    where
      there : (k : ℕ) (o : Option Entry) → entry_at es k ≡ o → signs_at o ≡ true → k ≤ length es
      there zero o at w = omega arith
      there (suc i) None at w = absurd (cc)
      there (suc i) (Some e) at w = let low = slice_get-within es i e at in omega (arith, low)

      go : (low : Bool) → nat_le seqno body.base ≡ low → (some : Bool) → ((some && low) || signs_at (entry_at es (seqno - body.base))) ≡ true → seqno ≤ body.base + length es
      go true at some w = let low : seqno ≤ body.base = grind (arith, nat_tests, at) in omega (arith, low)
      go false at true w = let low = there (seqno - body.base) (entry_at es (seqno - body.base)) refl w in omega (arith, low)
      go false at false w = let low = there (seqno - body.base) (entry_at es (seqno - body.base)) refl w in omega (arith, low)

  -- a signature's commit isn't below the last one, where that isn't the body's, and is within the entries with it
  signed_commit : (es : List Entry) (commit : ℕ) → KeepsCommits body es → may_record (past_behind body es) commit ≡ true →
      (commit_from body.commit es ≤ max body.commit commit) × (commit ≤ body.base + length es + 1)
  signed_commit es commit k h = go (is_begun (past_behind body es).last) h
    where
      go : (t : Bool) → (if t then commit == body.base + length es + 1 else is_later_commit (past_behind body es) commit) ≡ true →
          (commit_from body.commit es ≤ max body.commit commit) × (commit ≤ body.base + length es + 1)
      go true w =
          let at : commit ≡ body.base + length es + 1 = grind (arith, nat_tests, w) in
          let within = k.within in
          (omega (arith, at, within), omega (arith, at))
      go false w =
          let one = and_parts (signs_over body es commit && nat_le (commit_from body.commit es) commit) _ w in
          let two = and_parts (signs_over body es commit) (nat_le (commit_from body.commit es) commit) one.0 in
          let at = signs_within es commit two.0 in
          let low = two.1 in
          let above : commit_from body.commit es ≤ commit = grind (arith, nat_tests, low) in
          (omega (arith, above), omega (arith, at))

  more : (es : List Entry) (e : Entry) → KeepsCommits body es → broken_over service_layers body es e ≡ None → KeepsCommits body (es ++ e ∷ [])
  more es e k unbroken = go e.content refl
    where
      last : commit_from body.commit (es ++ e ∷ []) ≡ commit_after (commit_from body.commit es) e.content
      last = commit_from-push body.commit es e

      most : greatest_from body.commit (es ++ e ∷ []) ≡ greatest_with (greatest_from body.commit es) e.content
      most = commit_pushed body es e

      long : length (es ++ e ∷ []) ≡ length es + 1
      long = length-append es (e ∷ [])

      kept : commit_from body.commit (es ++ e ∷ []) ≡ commit_from body.commit es → greatest_from body.commit (es ++ e ∷ []) ≡ greatest_from body.commit es → KeepsCommits body (es ++ e ∷ [])
      kept one two =
          let greatest = k.greatest in
          let within = k.within in
          record { greatest = omega (arith, one, two, greatest); within = omega (arith, one, within, long) }

      go : (c : Content) → e.content ≡ c → KeepsCommits body (es ++ e ∷ [])
      go (content.Governance b) at = kept (last ∙ ap (commit_after (commit_from body.commit es)) at) (most ∙ ap (greatest_with (greatest_from body.commit es)) at)
      go (content.Application b) at = kept (last ∙ ap (commit_after (commit_from body.commit es)) at) (most ∙ ap (greatest_with (greatest_from body.commit es)) at)
      go (content.Evidence d) at = kept (last ∙ ap (commit_after (commit_from body.commit es)) at) (most ∙ ap (greatest_with (greatest_from body.commit es)) at)
      go (content.Signature s) at =
          let all = rest_behind service_layers body n is es e (recordings.Signature s) unbroken (ap recording_of at) in
          let one = passed (member s.node (past_behind body es).nodes) _ _ all in
          let two = passed (same_bytes s.root (past_behind body es).root) _ _ one.1 in
          let three = passed (may_record (past_behind body es) s.commit) _ _ two.1 in
          let low = signed_commit es s.commit k three.0 in
          let above = low.0 in
          let within = low.1 in
          let greatest = k.greatest in
          let last_is : commit_from body.commit (es ++ e ∷ []) ≡ s.commit = last ∙ ap (commit_after (commit_from body.commit es)) at in
          let most_is : greatest_from body.commit (es ++ e ∷ []) ≡ max (greatest_from body.commit es) s.commit = most ∙ ap (greatest_with (greatest_from body.commit es)) at in
          record { greatest = omega (arith, last_is, most_is, greatest, above); within = omega (arith, last_is, within, long) }

-- the greatest commit that is told of entries behind a body
pub greatest_over : (body : Body) (es : List Entry) → IsReadBody body → audited_over service_layers body es ≡ None → greatest_from body.commit es ≡ max body.commit (commit_from body.commit es)
greatest_over body es read valid = go body.base refl read valid
  where
    none : KeepsCommits body []
    none = record { greatest = omega arith; within = omega arith }

    go : (n : ℕ) → body.base ≡ n → IsReadAt n body → audited_at service_layers n body es ≡ None → greatest_from body.commit es ≡ max body.commit (commit_from body.commit es)
    go zero is whole unbroken =
        let most = greatest_last es unbroken in
        subst (λ (b : Body). greatest_from b.commit es ≡ max b.commit (commit_from b.commit es)) (sym whole) (omega (arith, most))
    go (suc n) is b unbroken =
        (over_induction service_layers body (KeepsCommits body) none (λ l e h k one. more body n is l e k one) es valid).greatest
