use Rattle.std.proofs.Common.{◌≡◌, ap, arith}
use Rattle.gl_base.specs.declared.tx_id.TxId.{TxId}
use Rattle.gl_rules.specs.Log.{last_signature}
use Rattle.gl_node.proofs.rule.kept_upto.Goals as goal

pub returns-then-kept-base-clause-kept : goal.returns-then-kept-base-clause-kept
returns-then-kept-base-clause-kept g c b x n s from commit =
    let base : c.base-base.result ≡ n.base = c.base-base.ensures b _ s.ledger in
    record {
      upto = c.kept_upto-kept.result;
      keeps = c.kept_upto-kept.ensures b x n s from commit;
      is = omega (arith, base, c.if-kept-base.true);
    }

pub returns-else-kept-base-clause-kept : goal.returns-else-kept-base-clause-kept
returns-else-kept-base-clause-kept g c b x n s from commit =
    let base : c.base-base.result ≡ n.base = c.base-base.ensures b _ s.ledger in
    record {
      upto = c.kept_upto-kept.result;
      keeps = c.kept_upto-kept.ensures b x n s from commit;
      is = omega (arith, base, c.if-kept-base.false);
    }

pub returns-then-kept-base-clause-signed : goal.returns-then-kept-base-clause-signed
returns-then-kept-base-clause-signed g c b h stands =
    let last : c.last_signature-last.result.seqno ≡ last_signature b h.log = ap (λ (t : TxId). t.seqno) (c.last_signature-last.ensures.value b h stands) in
    let low = c.last_signature-last.ensures.base b h stands in
    omega (arith, last, low)

pub returns-else-kept-base-clause-signed : goal.returns-else-kept-base-clause-signed
returns-else-kept-base-clause-signed g c b h stands =
    let last : c.last_signature-last.result.seqno ≡ last_signature b h.log = ap (λ (t : TxId). t.seqno) (c.last_signature-last.ensures.value b h stands) in
    let low = c.last_signature-last.ensures.base b h stands in
    omega (arith, last, low)
