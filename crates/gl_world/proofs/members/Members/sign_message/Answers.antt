use Rattle.std.proofs.lemmas.Result.{err_from_is_err_and}
use Rattle.gl_world.proofs.MemberSigners.{used_at, kept_unused, kept_spent}
use Rattle.gl_world.proofs.members.Members.sign_message.Goals as goal

pub returns-in_err-bytes-clause-refused : goal.returns-in_err-bytes-clause-refused
returns-in_err-bytes-clause-refused c =
    let p = err_from_is_err_and c.from_residual-in_err-bytes.result c.from_residual-in_err-bytes.ensures.1 in
    let used = used_at c.self.inside.settings c.self.inside.identity c.self.inside.signers.items c.self.inside.signed.items c.args.number c.from.result c.index_mut-place.result.now c.self.invariant c.ranges.number.fits c.from.ensures c.index_mut-place.ensures.value in
    rw (p.1, p.2, ← c.self.view_is, ← used) c.in_err-bytes.ensures.refused

pub invariant_of-self-in_err-bytes : goal.invariant_of-self-in_err-bytes
invariant_of-self-in_err-bytes c =
    rw c.in_ok-reserve.ensures.items
    (kept_unused c.self.inside.settings c.self.inside.identity c.self.inside.signers.items c.self.inside.signed.items c.args.number c.from.result c.index_mut-place.result.now c.self.invariant c.ranges.number.fits c.from.ensures c.index_mut-place.ensures.value
    c.sign_next.new.place c.in_err-bytes.ensures.signer c.in_err-bytes.ensures.unused)

pub invariant_of-self-2 : goal.invariant_of-self-2
invariant_of-self-2 c =
    rw (c.push_reserved.ensures.items, c.in_ok-reserve.ensures.items)
    (kept_spent c.self.inside.settings c.self.inside.identity c.self.inside.signers.items c.self.inside.signed.items c.args.number c.from.result c.index_mut-place.result.now c.self.invariant c.ranges.number.fits c.from.ensures c.index_mut-place.ensures.value
    c.sign_next.new.place c.in_ok-bytes.ensures.signer c.in_ok-bytes.ensures.spent)
