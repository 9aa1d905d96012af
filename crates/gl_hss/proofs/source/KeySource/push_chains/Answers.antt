use Rattle.std.proofs.Common.{◌≡◌, ◌++◌, ℕ, List, append_assoc, append-nil, sym, ap, ◌∙◌, rules}
use Rattle.gl_hss.specs.Types.{width}
use Rattle.gl_hss.specs.Ots.{chain, coef}
use Rattle.gl_hss.specs.Secrets.{secret, shown_chains}
use Rattle.gl_hss.specs.Source.{private_of}
use Rattle.gl_hss.proofs.Chains.{shown_chains-none, shown_chains-more}
use Rattle.gl_hss.proofs.source.KeySource.push_chains.Goals as goal

pub loop-i-init : goal.loop-i-init
loop-i-init c =
    rw (shown_chains-none (private_of c.args.self.now) c.args.q c.args.digits.now, append-nil)

pub loop-i-preserved : goal.loop-i-preserved
loop-i-preserved c =
    let k = private_of c.args.self.now in
    let i = c.loop-i.i in
    let more = shown_chains-more k c.args.q c.args.digits.now i in
    let shown-is : c.chain_up_to-shown.result ≡ chain k.identifier c.args.q i 0 (coef c.args.digits.now i (width k.types)) (secret k c.args.q i) = cc in
    let added : c.extend_from_slice.new.self.items ≡ c.loop-i.out.items ++ c.chain_up_to-shown.result = search rules in
    added ∙ ap (λ (l : List ℕ). l ++ c.chain_up_to-shown.result) c.loop-i.invariant
    ∙ append_assoc c.args.out.now.items (shown_chains k c.args.q c.args.digits.now i) c.chain_up_to-shown.result
    ∙ ap (λ (l : List ℕ). c.args.out.now.items ++ l) (ap (λ (l : List ℕ). shown_chains k c.args.q c.args.digits.now i ++ l) shown-is ∙ sym more)
