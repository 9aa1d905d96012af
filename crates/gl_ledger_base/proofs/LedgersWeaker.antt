-- What breaks no rule breaks none where more entries count as signatures.
use Rattle.std.proofs.Common.{◌≡◌, ℕ, ◌+◌, ◌≤◌, List, length, take, min, Option, None, Bool, true, false, ◌&&◌, ◌||◌, ◌==◌, nat_lt, nat_le, if◌then◌else◌, refl, sym, ◌∙◌, ap, arith}
use Rattle.std.specs.List.{list_all}
use Rattle.std.proofs.lemmas.Bool.{and_parts, and_from}
use Rattle.std.proofs.lemmas.Bool.Decides.{nat_tests}
use Rattle.gl_base.specs.Bytes.{same_bytes}
use Rattle.gl_base.specs.TxId.{last_seqno}
use Rattle.gl_rules.specs.Identity.{NodeId, member}
use Rattle.gl_rules.specs.Log.{entry_at}
use Rattle.gl_entry.specs.Entry.{is_entry}
use Rattle.gl_entry.specs.declared.entry.Entry.{Entry}
use Rattle.gl_ledger.specs.Audit.{audited}
use Rattle.gl_ledger.specs.Broken.{broken_after, broken_by, broken_from, broken_where, is_above_removal, is_in_order, is_later_commit, is_next_view, may_record}
use Rattle.gl_ledger.specs.Layers.{Layers}
use Rattle.gl_ledger.specs.Past.{is_begun, past_from, signs_at}
use Rattle.gl_ledger.specs.declared.recording.Recording.{Recording}
use Rattle.gl_ledger.specs.declared.recording.Recording.TheVariants as recordings
use Rattle.gl_ledger.proofs.Auditing.{audited_none, audited_all}
use Rattle.gl_ledger.proofs.Bases.{weaker_from}
use Rattle.gl_ledger.proofs.Passing.{passed, passes, PassesAfter}
use Rattle.gl_ledger_base.specs.Ledgers.{audited_from}
use Rattle.gl_ledger_base.proofs.LedgersEach.{all_from, each_from}
use Rattle.gl_ledger_base.proofs.LedgersPassing.{passing_from, told_from}

module _ (base more : ℕ) (low : base ≤ more) (ledger : List Entry) where
  -- where an entry counts it counts as one of more
  counts_too : (seqno : ℕ) → (past_from base ledger).signs_at seqno ≡ true → (past_from more ledger).signs_at seqno ≡ true
  counts_too seqno = go (nat_lt 0 seqno) (nat_le seqno base) refl (nat_le seqno more) refl (signs_at (entry_at ledger seqno))
    where
      go : (some at : Bool) → nat_le seqno base ≡ at → (also : Bool) → nat_le seqno more ≡ also → (signs : Bool) → ((some && at) || signs) ≡ true → ((some && also) || signs) ≡ true
      go false at is also too signs h = h
      go true at is true too signs h = refl
      go true false is false too signs h = h
      go true true is false too signs h = absurd (let up : seqno ≤ base = grind (arith, nat_tests, is) in let past : nat_le seqno more ≡ true = grind (arith, nat_tests, up, low) in let k = sym past ∙ too in cc)

  may_too : (commit : ℕ) → may_record (past_from base ledger) commit ≡ true → may_record (past_from more ledger) commit ≡ true
  may_too commit h = go (is_begun (past_from base ledger).last) h
    where
      rest : Bool
      rest = list_all (λ (y : NodeId). is_above_removal ((past_from base ledger).mark y) ((past_from base ledger).removal y) (past_from base ledger).last_signed commit) (past_from base ledger).nodes

      go : (t : Bool) → (if t then commit == length ledger + 1 else is_later_commit (past_from base ledger) commit) ≡ true → (if t then commit == length ledger + 1 else is_later_commit (past_from more ledger) commit) ≡ true
      go true w = w
      go false w =
          let one = and_parts ((past_from base ledger).signs_at commit && nat_le (past_from base ledger).last_commit commit) _ w in
          let two = and_parts ((past_from base ledger).signs_at commit) (nat_le (past_from base ledger).last_commit commit) one.0 in
          and_from ((past_from more ledger).signs_at commit && nat_le (past_from more ledger).last_commit commit) _
          (and_from ((past_from more ledger).signs_at commit) (nat_le (past_from more ledger).last_commit commit) (counts_too commit two.0) two.1) one.1

  module _ (layers : Layers) (e : Entry) where
    by_more : (t : Recording) → broken_by layers t (past_from base ledger) e ≡ None → broken_by layers t (past_from more ledger) e ≡ None
    by_more (recordings.Application ops) h = h
    by_more (recordings.Governance g) h = h
    by_more (recordings.Evidence d) h = h
    by_more (recordings.Signature s) h =
        let one = passed (member s.node (past_from base ledger).nodes) _ _ h in
        let two = passed (same_bytes s.root (past_from base ledger).root) _ _ one.1 in
        let three = passed (may_record (past_from base ledger) s.commit) _ _ two.1 in
        passes (member s.node (past_from more ledger).nodes) _ _ one.0
        (passes (same_bytes s.root (past_from more ledger).root) _ _ two.0
        (passes (may_record (past_from more ledger) s.commit) _ _ (may_too s.commit three.0) three.1))

    after_more : PassesAfter layers (past_from base ledger) e → broken_after layers (past_from more ledger) e ≡ None
    after_more p =
        let seqno = length ledger + 1 in
        ap (λ (o : Option Recording). broken_where layers o (past_from more ledger) e) p.reads
        ∙ passes (is_entry e) _ _ p.fits (passes (e.seqno == seqno) _ _ p.seqno (passes (nat_le seqno last_seqno) _ _ p.named
        (passes (is_next_view (past_from more ledger).last p.recording e.view) _ _ p.view (passes (is_in_order (past_from more ledger).last p.recording e.view) _ _ p.order (by_more p.recording p.rest)))))

    pub weaker : broken_from layers base ledger e ≡ None → broken_from layers more ledger e ≡ None
    weaker h = told_from layers more ledger e ∙ after_more (passing_from layers base ledger e h)

-- so an audit finds none either
pub audited_more : (layers : Layers) (base more : ℕ) (ledger : List Entry) → base ≤ more → audited_from layers base ledger ≡ None → audited_from layers more ledger ≡ None
audited_more layers base more ledger low h =
    all_from layers more ledger
    (λ i e at. weaker (min base (length (take i ledger))) (min more (length (take i ledger))) (omega (arith, low)) (take i ledger) layers e (each_from layers base ledger h i e at))

-- and where it finds none in the whole ledger, none at any base
pub audited_whole : (layers : Layers) (base : ℕ) (ledger : List Entry) → audited layers ledger ≡ None → audited_from layers base ledger ≡ None
audited_whole layers base ledger h =
    all_from layers base ledger (λ i e at. weaker_from layers (min base (length (take i ledger))) (take i ledger) e (audited_none layers ledger h i e at))

-- at base 0 it is the audit of the whole ledger
pub whole_audited : (layers : Layers) (ledger : List Entry) → audited_from layers 0 ledger ≡ None → audited layers ledger ≡ None
whole_audited layers ledger h =
    audited_all layers ledger
    (λ i e at. ap (λ (k : ℕ). broken_from layers k (take i ledger) e) (let none : 0 ≡ min 0 (length (take i ledger)) = omega arith in none) ∙ each_from layers 0 ledger h i e at)
