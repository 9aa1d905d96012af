use Rattle.std.proofs.Common.{◌≡◌, ◌-◌, ◌∙◌, ℕ, List, take, ap, subst}
use Rattle.std.specs.Option.{option_or}
use Rattle.gl_entry.specs.declared.entry.Entry.{Entry}
use Rattle.gl_ledger.specs.NodeKeys.{service_layers}
use Rattle.gl_ledger.specs.ServiceRow.{identity_in}
use Rattle.gl_ledger.specs.Snapshot.{tables_over, writes_over}
use Rattle.gl_ledger.specs.Tree.{tables_of}
use Rattle.gl_ledger.proofs.EachPassing.{over-take}
use Rattle.gl_audit.specs.Kept.{key_of}
use Rattle.gl_store.specs.Tail.{StandsBehind, Tail}
use Rattle.gl_store.proofs.Keys.{key_before, key_present, key_there}
use Rattle.gl_store.proofs.Tails.{base_is, kept_behind}
use Rattle.gl_store.proofs.ledger_tail.LedgerTail.key_at.Goals as goal

-- the present key, where the service's row was last written up to the seqno

pub returns-then-version_of-seqno-clause-key : goal.returns-then-version_of-seqno-clause-key
returns-then-version_of-seqno-clause-key c = λ body now.
    let s = kept_behind c.self.view_is body now in
    subst (λ (t : Tail). c.self.inside.state.identity ≡ key_of (identity_in (tables_over body (take (c.args.seqno - body.base) t.entries)))) c.self.view_is
    (key_present body _ c.args.seqno c.version_of.result s (c.requires.from_base body now) (c.version_of.ensures.stands (writes_over body c.self.inside.entries.items) s.stands.tables_are) c.if-version_of-seqno.true)

pub returns-then-version_of-seqno-clause-none : goal.returns-then-version_of-seqno-clause-none
returns-then-version_of-seqno-clause-none c =
    let b = c.self.invariant in
    let now = subst (StandsBehind b.0) c.self.view_is b.1 in
    key_there b.0 c.args.self.now c.args.seqno now (c.requires.from_base b.0 now) (c.requires.within b.0 now) _ (returns-then-version_of-seqno-clause-key c b.0 now)

-- the key that the entries up to the seqno wrote last, else that of the base

pub returns-clause-key : goal.returns-clause-key
returns-clause-key c = λ body now.
    let s = kept_behind c.self.view_is body now in
    let n : ℕ = c.args.seqno - body.base in
    let before : c.split_at.result.0.now ≡ take n c.self.inside.entries.items =
    c.split_at.ensures.front ∙ ap (take (c.args.seqno - c.self.inside.base_end.len)) c.deref.ensures.value ∙ ap (λ (m : ℕ). take (c.args.seqno - m) c.self.inside.entries.items) (base_is body _ s) in
    c.or.ensures
    ∙ subst (λ (t : Tail). option_or c.key_after.result c.self.inside.base_identity ≡ key_of (identity_in (tables_over body (take (c.args.seqno - body.base) t.entries)))) c.self.view_is
    (key_before body (take n c.self.inside.entries.items) s.stands.read (over-take service_layers body c.self.inside.entries.items n s.stands.valid) c.key_after.result c.self.inside.base_identity
    (c.key_after.ensures ∙ ap (λ (es : List Entry). key_of (identity_in (tables_of es))) before) s.keyed)

pub returns-clause-none : goal.returns-clause-none
returns-clause-none c =
    let b = c.self.invariant in
    let now = subst (StandsBehind b.0) c.self.view_is b.1 in
    key_there b.0 c.args.self.now c.args.seqno now (c.requires.from_base b.0 now) (c.requires.within b.0 now) _ (returns-clause-key c b.0 now)
