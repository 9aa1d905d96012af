use Rattle.std.proofs.Common.{rules, sym}
use Rattle.gl_base.specs.Bytes.{are_bytes}
use Rattle.gl_requests.proofs.RangeTests.{after_true, within}
use Rattle.gl_requests.proofs.ranges.is_signature_field.Goals as goal

pub returns : goal.returns
returns c = sym (after_true (are_bytes c.args.bytes.now) _ (within c.args.bytes.now (λ i low. search rules)))
