use Rattle.std.proofs.Common.{◌≡◌, ◌++◌, ◌-◌, ◌^◌, [], append_assoc, append-nil}
use Rattle.gl_hss.specs.Types.{width}
use Rattle.gl_hss.specs.Bytes.{u32str, block}
use Rattle.gl_hss.specs.Ots.{d_pblc, chain_ends, steps, chain_prefix, coef}
use Rattle.gl_hss.proofs.Chains.{chain_ends-none, chain_ends-more}
use Rattle.gl_hss.proofs.ots.key_of_chains.Goals as goal

pub loop-i-init : goal.loop-i-init
loop-i-init c =
    let prefix = c.update-3.ensures _ (c.update-2.ensures _ (c.update.ensures [] c.new-hasher.ensures)) in
    rw (chain_ends-none c.args.types c.args.identifier.now c.args.q c.args.digits.now c.args.chains.now, append-nil, ← c.u32str.ensures) prefix

pub loop-i-preserved : goal.loop-i-preserved
loop-i-preserved c =
    let t = c.args.types in
    let id = c.args.identifier.now in
    let ds = c.args.digits.now in
    let i = c.loop-i.i in
    let more = chain_ends-more t id c.args.q ds c.args.chains.now i in
    let tail = c.update-in-loop-i.ensures _ c.loop-i.invariant in
    let end-is : c.chain-end.result ≡ steps (chain_prefix id c.args.q i) (coef ds i (width t)) (2 ^ width t - 1 - coef ds i (width t)) (block c.args.chains.now i) = cc in
    rw (more, ← end-is, ← append_assoc (id ++ u32str c.args.q ++ d_pblc) (chain_ends t id c.args.q ds c.args.chains.now i) c.chain-end.result) tail
