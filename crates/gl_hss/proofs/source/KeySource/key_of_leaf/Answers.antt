use Rattle.std.proofs.Common.{◌≡◌, ◌++◌, ◌-◌, ◌^◌, [], append_assoc, append-nil, arith}
use Rattle.gl_hss.specs.Types.{width}
use Rattle.gl_hss.specs.Bytes.{u32str}
use Rattle.gl_hss.specs.Ots.{d_pblc, chain, one_time_key}
use Rattle.gl_hss.specs.Secrets.{secret, whole_chains, key_of_leaf}
use Rattle.gl_hss.specs.Source.{private_of}
use Rattle.gl_hss.proofs.Chains.{whole_chains-none, whole_chains-more}
use Rattle.gl_hss.proofs.source.KeySource.key_of_leaf.Goals as goal

pub loop-i-init : goal.loop-i-init
loop-i-init c =
    let prefix = c.update-3.ensures _ (c.update-2.ensures _ (c.update.ensures [] c.new-hasher.ensures)) in
    rw (whole_chains-none (private_of c.args.self.now) c.args.q, append-nil, ← c.u32str.ensures) prefix

pub loop-i-preserved : goal.loop-i-preserved
loop-i-preserved c =
    let k = private_of c.args.self.now in
    let i = c.loop-i.i in
    let more = whole_chains-more k c.args.q i in
    let tail = c.update-in-loop-i.ensures _ c.loop-i.invariant in
    let end-is : c.chain_up_to.result ≡ chain k.identifier c.args.q i 0 (2 ^ width k.types - 1) (secret k c.args.q i) = cc in
    rw (more, ← end-is, ← append_assoc (k.identifier ++ u32str c.args.q ++ d_pblc) (whole_chains k c.args.q i) c.chain_up_to.result) tail

pub returns : goal.returns
unfolding key_of_leaf one_time_key
returns c =
    let all : c.loop-i.i ≡ c.chain_count-i-end.result = omega arith in
    rw (← c.chain_count-i-end.ensures, ← all) (c.finalize.ensures _ c.loop-i.invariant)
