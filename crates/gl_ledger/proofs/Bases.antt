-- An entry that breaks no rule after a ledger breaks none as a node reads the ledger that has the
-- entries up to a base from a snapshot.
use Rattle.std.proofs.Common.{◌≡◌, ℕ, zero, suc, ◌+◌, List, length, Option, Some, None, Bool, true, false, ◌&&◌, ◌||◌, ◌==◌, nat_le, nat_lt, if◌then◌else◌, refl, ◌∙◌, ap}
use Rattle.std.proofs.lemmas.Bool.{and_parts, and_from}
use Rattle.gl_base.specs.Bytes.{same_bytes}
use Rattle.gl_base.specs.TxId.{last_seqno}
use Rattle.gl_merkle.specs.Tree.{root_of}
use Rattle.gl_rules.specs.Identity.{member}
use Rattle.gl_rules.specs.Log.{entry_at}
use Rattle.gl_entry.specs.Entry.{is_entry}
use Rattle.gl_entry.specs.declared.entry.Entry.{Entry}
use Rattle.gl_entry.specs.declared.entry.Signature as signatures
use Rattle.gl_ledger.specs.Layers.{Layers}
use Rattle.gl_ledger.specs.declared.recording.Recording.{Recording}
use Rattle.gl_ledger.specs.declared.recording.Recording.TheVariants as recordings
use Rattle.gl_ledger.specs.Recordings.{last_entry, recording_of, recorded_nodes}
use Rattle.gl_ledger.specs.Tree.{leaves_of}
use Rattle.gl_ledger.specs.Past.{signs_at, last_commit, is_unopened, past_of, past_from}
use Rattle.gl_ledger.specs.Broken.{is_next_view, is_in_order, is_later_commit, may_record, broken_by, broken_where, broken, broken_from}
use Rattle.gl_ledger.proofs.Passing.{passed, passes, Passes, passing}

or_later : (a b : Bool) → b ≡ true → (a || b) ≡ true
or_later true b h = refl
or_later false b h = h

module _ (base : ℕ) (ledger : List Entry) where
  -- a commit that may be recorded may be recorded
  may_from : (commit : ℕ) → may_record (past_of ledger) commit ≡ true → may_record (past_from base ledger) commit ≡ true
  may_from commit h = go (is_unopened (last_entry ledger)) h
    where
      go : (t : Bool) → (if t then commit == length ledger + 1 else is_later_commit (past_of ledger) commit) ≡ true → (if t then commit == length ledger + 1 else is_later_commit (past_from base ledger) commit) ≡ true
      go true w = w
      go false w =
          let one = and_parts (signs_at (entry_at ledger commit) && nat_le (last_commit ledger) commit) _ w in
          let two = and_parts (signs_at (entry_at ledger commit)) (nat_le (last_commit ledger) commit) one.0 in
          let inside = nat_lt 0 commit && nat_le commit base in
          and_from ((inside || signs_at (entry_at ledger commit)) && nat_le (last_commit ledger) commit) _
          (and_from (inside || signs_at (entry_at ledger commit)) (nat_le (last_commit ledger) commit) (or_later inside (signs_at (entry_at ledger commit)) two.0) two.1) one.1

module _ (layers : Layers) (base : ℕ) (ledger : List Entry) (e : Entry) where
  by_from : (t : Recording) → broken_by layers t (past_of ledger) e ≡ None → broken_by layers t (past_from base ledger) e ≡ None
  by_from (recordings.Application q) h = h
  by_from (recordings.Governance g) h = h
  by_from (recordings.Evidence d) h = h
  by_from (recordings.Signature s) h =
      let one = passed (member s.node (recorded_nodes ledger)) _ _ h in
      let two = passed (same_bytes s.root (root_of (leaves_of ledger))) _ _ one.1 in
      let three = passed (may_record (past_of ledger) s.commit) _ _ two.1 in
      passes (member s.node (recorded_nodes ledger)) _ _ one.0
      (passes (same_bytes s.root (root_of (leaves_of ledger))) _ _ two.0
      (passes (may_record (past_from base ledger) s.commit) _ _ (may_from base ledger s.commit three.0) three.1))

  after_from : Passes layers ledger e → broken_where layers (recording_of e.content) (past_from base ledger) e ≡ None
  after_from p =
      let seqno = length ledger + 1 in
      ap (λ (o : Option Recording). broken_where layers o (past_from base ledger) e) p.reads
      ∙ passes (is_entry e) _ _ p.fits (passes (e.seqno == seqno) _ _ p.seqno (passes (nat_le seqno last_seqno) _ _ p.named
      (passes (is_next_view (past_of ledger).last p.recording e.view) _ _ p.view (passes (is_in_order (past_of ledger).last p.recording e.view) _ _ p.order (by_from p.recording p.rest)))))

pub weaker_from : (layers : Layers) (base : ℕ) (ledger : List Entry) (e : Entry) → broken layers ledger e ≡ None → broken_from layers base ledger e ≡ None
weaker_from layers zero ledger e h = h
weaker_from layers (suc before) ledger e h = after_from layers (suc before) ledger e (passing layers ledger e h)
