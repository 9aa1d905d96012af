use Rattle.std.proofs.Common.{◌≡◌, ◌∙◌, ◌<◌, ◌^◌, true, ◌&&◌, refl, sym, arith, rules}
use Rattle.gl_entry.proofs.Fitting.{fits_where}
use Rattle.gl_entry.proofs.entry.Entry.fits.Goals as goal

pub returns : goal.returns
returns c =
    let e = c.args.self.now in
    let small : c.is_small-small.result ≡ true = search rules in
    let writes : c.may_have_writes-writes.result ≡ true = search rules in
    let all : (c.is_small-small.result && c.may_have_writes-writes.result && c.may_have_claims-claims.result) ≡ c.may_have_claims-claims.result = rw (small, writes) refl in
    sym all
    ∙ fits_where e c.is_small-small.result c.may_have_writes-writes.result c.may_have_claims-claims.result
    (record {
      view = omega arith;
      seqno = omega arith;
      recorded = c.is_small-small.ensures.content;
      limits = c.may_have_writes-writes.ensures.limits;
      ordered = c.may_have_writes-writes.ensures.ordered;
      digest = c.may_have_claims-claims.ensures.digest;
    })
    c.is_small-small.ensures.value c.may_have_writes-writes.ensures.value c.may_have_claims-claims.ensures.value
