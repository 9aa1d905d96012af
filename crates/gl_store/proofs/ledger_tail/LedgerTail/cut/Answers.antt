use Rattle.std.proofs.Common.{◌≡◌, ◌+◌, ◌-◌, ◌≤◌, ◌∙◌, ℕ, length, take, ap, subst, sym, arith}
use Rattle.gl_audit.proofs.PastOver.{end_len}
use Rattle.gl_store.specs.Tail.{StandsBehind, Tail}
use Rattle.gl_store.proofs.Tails.{base_is, behind_cut, cut_end, from_base, kept_behind, kept_up_to, seen}
use Rattle.gl_store.proofs.ledger_tail.LedgerTail.cut.Goals as goal

pub over-end-requires-clause-len : goal.over-end-requires-clause-len
over-end-requires-clause-len c =
    let b = c.self.invariant in
    let short = (kept_up_to b.0 _ c.args.to c.deref.result.now b.1 (c.deref.ensures.value ∙ c.truncate.ensures.items)).1 in
    omega (arith, short)

pub over-end-requires-clause-read : goal.over-end-requires-clause-read
over-end-requires-clause-read c = let b = c.self.invariant in (kept_up_to b.0 _ c.args.to c.deref.result.now b.1 (c.deref.ensures.value ∙ c.truncate.ensures.items)).0

pub cut-requires-clause-state : goal.cut-requires-clause-state
cut-requires-clause-state c = let b = c.self.invariant in (b.0, c.self.inside.entries.items, b.1.stands)

pub cut-requires-clause-from_base : goal.cut-requires-clause-from_base
cut-requires-clause-from_base c =
    let b = c.self.invariant in
    let low : b.0.base ≤ c.args.to = c.requires.from_base b.0 (subst (StandsBehind b.0) c.self.view_is b.1) in
    let start = (from_base b.0 _ b.1).0 in
    omega (arith, start, low)

pub cut-requires-clause-within : goal.cut-requires-clause-within
cut-requires-clause-within c =
    let b = c.self.invariant in
    let within : c.args.to ≤ b.0.base + length c.self.inside.entries.items =
    subst (λ (t : Tail). c.args.to ≤ b.0.base + length t.entries) (sym c.self.view_is) (c.requires.within b.0 (subst (StandsBehind b.0) c.self.view_is b.1)) in
    let len = end_len b.0 _ _ b.1.stands in
    omega (arith, len, within)

pub cut-requires-clause-whole : goal.cut-requires-clause-whole
cut-requires-clause-whole c =
    let b = c.self.invariant in
    let low : b.0.base ≤ c.args.to = c.requires.from_base b.0 (subst (StandsBehind b.0) c.self.view_is b.1) in
    let start = (from_base b.0 _ b.1).1 in
    omega (arith, start, low)

pub invariant_of-self : goal.invariant_of-self
invariant_of-self c =
    let b = c.self.invariant in
    let low : b.0.base ≤ c.args.to = c.requires.from_base b.0 (subst (StandsBehind b.0) c.self.view_is b.1) in
    let left = c.deref.ensures.value ∙ c.truncate.ensures.items in (
      b.0,
      behind_cut b.0 _ c.args.to c.truncate.new.self.items c.over-end.result c.cut.new.self b.1 c.truncate.ensures.items
          (cut_end b.0 _ c.args.to c.deref.result.now c.last_signed_up_to-signed.result c.over-end.result b.1 low left c.last_signed_up_to-signed.ensures c.over-end.ensures)
          c.cut.ensures.cut c.cut.ensures.whole,
    )

pub returns-clause-entries : goal.returns-clause-entries
returns-clause-entries c =
    seen c.self.view_is (λ body t. c.truncate.new.self.items ≡ take (c.args.to - body.base) t.entries)
    (λ body s. c.truncate.ensures.items ∙ ap (λ (n : ℕ). take (c.args.to - n) c.self.inside.entries.items) (base_is body _ s))

pub returns-clause-stands : goal.returns-clause-stands
returns-clause-stands c = λ body now.
    let s = kept_behind c.self.view_is body now in
    let left = c.deref.ensures.value ∙ c.truncate.ensures.items in
    behind_cut body _ c.args.to c.truncate.new.self.items c.over-end.result c.cut.new.self s c.truncate.ensures.items
    (cut_end body _ c.args.to c.deref.result.now c.last_signed_up_to-signed.result c.over-end.result s (c.requires.from_base body now) left c.last_signed_up_to-signed.ensures c.over-end.ensures)
    c.cut.ensures.cut c.cut.ensures.whole
