use Rattle.std.proofs.Common.{ap}
use Rattle.gl_base.specs.Cut.{Unread}
use Rattle.gl_base.proofs.Numbers.{bytes_at_length}
use Rattle.gl_base.proofs.Fields.{bytes_at-encoded}
use Rattle.gl_base.proofs.cut.Cut.string.Goals as goal

pub returns-clause-encoded : goal.returns-clause-encoded
returns-clause-encoded c =
    let first = c.in_ok-len.ensures.encoded in
    let second = bytes_at-encoded _ _ _ _ c.in_ok-bytes.ensures in
    let long = bytes_at_length _ _ _ _ c.in_ok-bytes.ensures in
    let copied = ap (λ (u : Unread). u.bytes) c.copy-ahead.ensures in
    let left = ap (λ (u : Unread). u.bytes) c.self-2.view_is in
    cc
