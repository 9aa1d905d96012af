use Rattle.std.proofs.Common.{◌≡◌, ℕ, List, take, arith, ap, ◌∙◌}
use Rattle.gl_entry.specs.declared.entry.Entry.{Entry}
use Rattle.gl_ledger.specs.Recordings.{last_entry}
use Rattle.gl_ledger.specs.Past.{last_signed, signs_at}
use Rattle.gl_audit.specs.Committed.{Held}
use Rattle.gl_recovery.proofs.SignedPrefixes.{last_within, prefix_signed}
use Rattle.gl_recovery.proofs.recovery_entry.cut_to_signature.Goals as goal

pub cut-requires-clause-within : goal.cut-requires-clause-within
cut-requires-clause-within c = omega (arith, last_within c.args.store.now.ledger, c.last_signature-signed.ensures)

pub returns-clause-signed : goal.returns-clause-signed
returns-clause-signed c =
    let ledger = c.args.store.now.ledger in
    let is : c.last_signature-signed.result ≡ last_signed ledger = c.last_signature-signed.ensures in
    let cut : c.cut.new.self.ledger ≡ take c.last_signature-signed.result ledger = ap (λ (h : Held). h.ledger) c.cut.ensures in
    ap (λ (es : List Entry). signs_at (last_entry es)) (cut ∙ ap (λ (n : ℕ). take n ledger) is) ∙ prefix_signed ledger (omega (arith, is))
