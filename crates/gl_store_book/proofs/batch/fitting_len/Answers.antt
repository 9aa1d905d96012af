use Rattle.std.proofs.Common.{◌≡◌, ◌≢◌, ℕ, suc, ◌+◌, ◌-◌, ◌<◌, ◌^◌, ⊎_elim, length, take, get_or, sym, ap, subst, ◌∙◌, arith}
use Rattle.gl_entry.specs.Entry.{frame_size}
use Rattle.gl_entry.specs.declared.entry.Entry.{Entry}
use Rattle.gl_ledger.specs.NodeKeys.{service_layers}
use Rattle.gl_ledger.specs.LedgerBook.{ledger_book}
use Rattle.gl_store_book.proofs.Batches.{Fit, writes_small, fit_all, fit_most, fit_no_more, fit_next}
use Rattle.gl_store_book.proofs.batch.fitting_len.Goals as goal

pub frame_len-size-requires-clause-writes : goal.frame_len-size-requires-clause-writes
frame_len-size-requires-clause-writes c =
    let e = c.index-entries-count.result in
    subst (λ (x : Entry). length x.writes < 2 ^ 32) (sym c.index-entries-count.is) (writes_small c.args.entries.now c.loop-count.count e c.requires c.loop-count-test.true)

pub returns-then-count-most-clause-value : goal.returns-then-count-most-clause-value
returns-then-count-most-clause-value c = λ keys.
    let es = c.args.entries.now in
    let e = c.index-entries-count.result in
    let book = ledger_book service_layers keys in
    let fit = c.loop-count.invariant.fit keys in
    let few = c.loop-count.invariant.few in
    ⊎_elim
    (λ (full : c.loop-count.count ≡ c.args.most). fit_most book es c.args.most c.args.room c.loop-count.count c.loop-count.left full fit)
    (λ (large : (c.loop-count.count ≡ c.args.most → ⊥) × (c.loop-count.left < c.frame_len-size.result)).
    let other : c.loop-count.count ≢ c.args.most = large.0 in
    let size : c.frame_len-size.result ≡ frame_size (get_or es c.loop-count.count e) = c.frame_len-size.ensures ∙ ap frame_size c.index-entries-count.is in
    fit_no_more book es c.args.most c.args.room c.loop-count.count c.loop-count.left e (omega (arith, few, other)) c.loop-count-test.true
    (subst (λ (n : ℕ). c.loop-count.left < n) size large.1) fit)
    c.then-count-most.either

pub loop-count-preserved : goal.loop-count-preserved
loop-count-preserved c =
    let es = c.args.entries.now in
    let e = c.index-entries-count.result in
    let few = c.loop-count.invariant.few in
    let other : c.loop-count.count ≢ c.args.most = c.if-count-most.false in
    let size : c.frame_len-size.result ≡ frame_size (get_or es c.loop-count.count e) = c.frame_len-size.ensures ∙ ap frame_size c.index-entries-count.is in
    let next : suc c.loop-count.count ≡ c.loop-count.count + 1 = omega arith in
    let left : c.loop-count.left - frame_size (get_or es c.loop-count.count e) ≡ c.loop-count.left - c.frame_len-size.result = ap (λ (n : ℕ). c.loop-count.left - n) (sym size) in
    record {
      few = omega (arith, few, other);
      fit = λ keys.
          let book = ledger_book service_layers keys in
          let low : frame_size (get_or es c.loop-count.count e) < c.loop-count.left + 1 = subst (λ (n : ℕ). n < c.loop-count.left + 1) size (let w = c.if-size-left.false in omega arith) in
          let more = fit_next book es c.args.most c.args.room c.loop-count.count c.loop-count.left e (omega (arith, few, other)) c.loop-count-test.true (omega (arith, low)) (c.loop-count.invariant.fit keys) in
          subst (λ (n : ℕ). Fit book es c.args.most c.args.room (c.loop-count.count + 1) n) left
          (subst (λ (n : ℕ). Fit book es c.args.most c.args.room n (c.loop-count.left - frame_size (get_or es c.loop-count.count e))) next more);
    }

pub returns-clause-value : goal.returns-clause-value
returns-clause-value c = λ keys.
    let es = c.args.entries.now in
    let past = c.loop-count-test.false in
    let all : length es ≡ c.loop-count.count = let within = c.loop-count.auto in omega (arith, past, within) in
    ap (λ (n : ℕ). take n es) all
    ∙ fit_all (ledger_book service_layers keys) es c.args.most c.args.room c.loop-count.count c.loop-count.left past (c.loop-count.invariant.fit keys)
