-- The last signature of entries is that of the rules of consensus, and stands within them.
use Rattle.std.proofs.Common.{◌≡◌, ℕ, zero, suc, ◌≤◌, List, [], ◌∷◌, length, Bool, true, false, refl, ap, arith}
use Rattle.gl_rules.specs.Log.{seqno_with_first, last_signature}
use Rattle.gl_entry.specs.Entry.{is_signature}
use Rattle.gl_entry.specs.declared.entry.Entry.{Entry}
use Rattle.gl_ledger.specs.NodeKeys.{NodeKeys, service_layers}
use Rattle.gl_ledger.specs.LedgerBook.{ServiceBook, ledger_book}
use Rattle.gl_ledger.specs.Past.{last_signed}

abbrev book : NodeKeys → ServiceBook
book keys = ledger_book service_layers keys

pub last_same : (keys : NodeKeys) (ledger : List Entry) → last_signature (book keys) ledger ≡ last_signed ledger
unfolding last_signature
last_same keys [] = refl
last_same keys (e ∷ es) = ap (seqno_with_first (is_signature e.content)) (last_same keys es)

-- a signature's seqno is no higher than the ledger is long
pub signed_within : (ledger : List Entry) → last_signed ledger ≤ length ledger
signed_within [] = omega arith
signed_within (e ∷ es) = go (is_signature e.content) (last_signed es) (signed_within es)
  where
    go : (b : Bool) (n : ℕ) → n ≤ length es → seqno_with_first b n ≤ length (e ∷ es)
    go b (suc n) low = omega (arith, low)
    go true zero low = omega arith
    go false zero low = omega arith
