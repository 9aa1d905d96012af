use Rattle.std.proofs.Common.{◌≡◌, ◌∙◌, ◌==◌, ◌||◌, Bool, None, Some, true, false, rules, arith, ap, sym}
use Rattle.std.proofs.lemmas.Bool.Decides.{nat_tests}
use Rattle.gl_base.proofs.ByteLists.{are_bytes-true}
use Rattle.gl_audit.proofs.Beginnings.{tag_reports}
use Rattle.gl_audit.proofs.ledger_end.begins_service.Goals as goal

pub returns-in-None : goal.returns-in-None
returns-in-None c = λ g reads. tag_reports c.args.request.now g None (are_bytes-true c.args.request.now (λ i. search rules)) reads c.in-None.ensures.value

pub returns-then-tag-eq-GENESIS_TAG : goal.returns-then-tag-eq-GENESIS_TAG
returns-then-tag-eq-GENESIS_TAG c = λ g reads.
    let tag = c.in-Some.tag.now in
    let founds : (tag == 1) ≡ true = (let is = c.if-tag-eq-GENESIS_TAG.true in grind (arith, nat_tests, is)) in
    founds ∙ sym (ap (λ (b : Bool). b || (tag == 2)) founds)
    ∙ tag_reports c.args.request.now g (Some tag) (are_bytes-true c.args.request.now (λ i. search rules)) reads c.in-Some.ensures.value

pub returns-else-tag-eq-GENESIS_TAG : goal.returns-else-tag-eq-GENESIS_TAG
returns-else-tag-eq-GENESIS_TAG c = λ g reads.
    let tag = c.in-Some.tag.now in
    let other : (tag == 1) ≡ false = (let is = c.if-tag-eq-GENESIS_TAG.false in grind (arith, nat_tests, is)) in
    sym (ap (λ (b : Bool). b || (tag == 2)) other)
    ∙ tag_reports c.args.request.now g (Some tag) (are_bytes-true c.args.request.now (λ i. search rules)) reads c.in-Some.ensures.value
