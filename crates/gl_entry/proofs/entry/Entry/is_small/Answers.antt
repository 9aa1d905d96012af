use Rattle.std.proofs.Common.{◌≡◌, ◌<◌, nat_le, length, false, sym, ap, arith}
use Rattle.std.proofs.lemmas.Bool.Decides.{nat_tests}
use Rattle.gl_entry.specs.Entry.{body_bytes, body_limit}
use Rattle.gl_entry.proofs.Sizes.{writes_counted}
use Rattle.gl_entry.proofs.entry.Entry.is_small.Goals as goal

pub returns-then-as_slice-gt-BODY_LIMIT-clause-value : goal.returns-then-as_slice-gt-BODY_LIMIT-clause-value
returns-then-as_slice-gt-BODY_LIMIT-clause-value c =
    let e = c.args.self.now in
    let same : length c.as_slice.result.now ≡ length e.writes = ap length c.as_slice.ensures.value in
    let above : body_limit < length (body_bytes e) = omega (arith, same, writes_counted e) in
    let no : nat_le (length (body_bytes e)) body_limit ≡ false = grind (arith, nat_tests) in
    sym no
