use Rattle.std.proofs.Common.{◌≡◌, ◌-◌, nat_le, ◌&&◌, ◌||◌, ◌==◌, not, take, Bool, true, false, ap, ap₂, refl, sym, ◌∙◌, arith}
use Rattle.std.proofs.lemmas.Bool.Decides.{nat_tests}
use Rattle.gl_ledger.specs.Past.{past_over}
use Rattle.gl_audit.proofs.SignatureSeqnos.{signs_kept}
use Rattle.gl_audit.proofs.ledger_state.LedgerState.signs_at.Goals as goal

pub returns-else-seqno-ne0 : goal.returns-else-seqno-ne0
returns-else-seqno-ne0 c = λ body es k.
    let n = c.args.seqno in
    let last = (past_over body (take (n - body.base) es)).last_signed in
    let none : (n == 0) ≡ true = (let is = c.if-seqno-ne0.false in grind (arith, nat_tests, is)) in
    ap not none ∙ sym (ap (λ (b : Bool). not b && (nat_le n body.base || (last == n))) none) ∙ sym (signs_kept body es n last (λ from. refl))

pub returns-then-seqno-self : goal.returns-then-seqno-self
returns-then-seqno-self c = λ body es k.
    let n = c.args.seqno in
    let last = (past_over body (take (n - body.base) es)).last_signed in
    let some : (n == 0) ≡ false = (let ne = c.if-seqno-ne0.true in grind (arith, nat_tests, ne)) in
    let own : nat_le n c.args.self.now.base ≡ true = (let low = c.if-seqno-self.true in grind (arith, nat_tests, low)) in
    let within : nat_le n body.base ≡ true = (let low = c.if-seqno-self.true in let is = k.base_is in grind (arith, nat_tests, low, is)) in
    own ∙ sym (ap₂ (λ (a b : Bool). not a && (b || (last == n))) some within) ∙ sym (signs_kept body es n last (λ from. refl))

pub returns-else-seqno-self : goal.returns-else-seqno-self
returns-else-seqno-self c = λ body es k.
    let n = c.args.seqno in
    let last = c.last_signed_up_to.result in
    let some : (n == 0) ≡ false = (let ne = c.if-seqno-ne0.true in grind (arith, nat_tests, ne)) in
    let above : nat_le n body.base ≡ false = (let high = c.if-seqno-self.false in let is = k.base_is in grind (arith, nat_tests, high, is)) in
    sym (ap₂ (λ (a b : Bool). not a && (b || (last == n))) some above) ∙ sym (signs_kept body es n last (c.last_signed_up_to.ensures body es k))
