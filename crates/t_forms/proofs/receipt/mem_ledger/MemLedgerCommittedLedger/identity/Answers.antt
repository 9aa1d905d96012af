use Rattle.std.proofs.Common.{◌≡◌, ◌∙◌, ℕ, List, nat_le, reverse, option_map, unwrap_or, rules, sym, ap}
use Rattle.std.specs.List.{find}
use Rattle.gl_receipt.specs.Made.{Ledger}
use Rattle.t_forms.specs.declared.receipt.mem_ledger.Keys.{Keys}
use Rattle.t_forms.proofs.receipt.mem_ledger.MemLedgerCommittedLedger.identity.Goals as goal

pub returns : goal.returns
returns c = λ l s.
    let same : c.self.inside.keys ≡ c.args.self.now.4 = search rules in
    let there : c.at.result ≡ unwrap_or (option_map (λ (key : ℕ × List ℕ). key.1) (find (λ (key : ℕ × List ℕ). nat_le key.0 c.args.seqno) (reverse c.args.self.now.4.later.items))) c.args.self.now.4.first =
    c.at.ensures ∙ ap (λ (k : Keys). unwrap_or (option_map (λ (key : ℕ × List ℕ). key.1) (find (λ (key : ℕ × List ℕ). nat_le key.0 c.args.seqno) (reverse k.later.items))) k.first) same in
    there ∙ sym (ap (λ (m : Ledger). m.identity c.args.seqno) s)
