use Rattle.std.proofs.Common.{◌≡◌, ◌+◌, ◌-◌, ◌≤◌, ◌∙◌, length, take, ap, subst, sym, arith}
use Rattle.gl_ledger.specs.Snapshot.{snapshot_over}
use Rattle.gl_audit.proofs.PastOver.{end_len}
use Rattle.gl_store.specs.Tail.{StandsBehind, Tail}
use Rattle.gl_store.proofs.Tails.{cut_end, from_base, if_ok, kept_behind, kept_up_to}
use Rattle.gl_store.proofs.ledger_tail.LedgerTail.snapshot.Goals as goal

pub over-end-requires-clause-len : goal.over-end-requires-clause-len
over-end-requires-clause-len c =
    let b = c.self.invariant in
    let short = (kept_up_to b.0 _ c.args.to c.split_at.result.0.now b.1 (c.split_at.ensures.front ∙ ap (take (c.args.to - c.self.inside.base_end.len)) c.deref.ensures.value)).1 in
    omega (arith, short)

pub over-end-requires-clause-read : goal.over-end-requires-clause-read
over-end-requires-clause-read c =
    let b = c.self.invariant in
    (kept_up_to b.0 _ c.args.to c.split_at.result.0.now b.1 (c.split_at.ensures.front ∙ ap (take (c.args.to - c.self.inside.base_end.len)) c.deref.ensures.value)).0

pub snapshot_up_to-requires-clause-state : goal.snapshot_up_to-requires-clause-state
snapshot_up_to-requires-clause-state c = let b = c.self.invariant in (b.0, c.self.inside.entries.items, b.1.stands)

pub snapshot_up_to-requires-clause-from_base : goal.snapshot_up_to-requires-clause-from_base
snapshot_up_to-requires-clause-from_base c =
    let b = c.self.invariant in
    let low : b.0.base ≤ c.args.to = c.requires.from_base b.0 (subst (StandsBehind b.0) c.self.view_is b.1) in
    let start = (from_base b.0 _ b.1).0 in
    omega (arith, start, low)

pub snapshot_up_to-requires-clause-within : goal.snapshot_up_to-requires-clause-within
snapshot_up_to-requires-clause-within c =
    let b = c.self.invariant in
    let within : c.args.to ≤ b.0.base + length c.self.inside.entries.items =
    subst (λ (t : Tail). c.args.to ≤ b.0.base + length t.entries) (sym c.self.view_is) (c.requires.within b.0 (subst (StandsBehind b.0) c.self.view_is b.1)) in
    let len = end_len b.0 _ _ b.1.stands in
    omega (arith, len, within)

pub snapshot_up_to-requires-clause-whole : goal.snapshot_up_to-requires-clause-whole
snapshot_up_to-requires-clause-whole c =
    let b = c.self.invariant in
    let low : b.0.base ≤ c.args.to = c.requires.from_base b.0 (subst (StandsBehind b.0) c.self.view_is b.1) in
    let start = (from_base b.0 _ b.1).1 in
    omega (arith, start, low)

pub returns : goal.returns
returns c = record {
  body = if_ok c.snapshot_up_to.result
      (λ x is before now. let s = kept_behind c.self.view_is before now in
      let kept = c.split_at.ensures.front ∙ ap (take (c.args.to - c.self.inside.base_end.len)) c.deref.ensures.value in
      subst (λ (t : Tail). x ≡ snapshot_over before (take (c.args.to - before.base) t.entries)) c.self.view_is
      (is before c.self.inside.entries.items s.stands
      (cut_end before _ c.args.to c.split_at.result.0.now c.last_signed_up_to-signed.result c.over-end.result s (c.requires.from_base before now) kept c.last_signed_up_to-signed.ensures c.over-end.ensures)))
      c.snapshot_up_to.ensures.body;
}
