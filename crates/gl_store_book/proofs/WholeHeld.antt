-- Entries from seqno 1 on, behind no body, stand for themselves, and for no other ledger.
use Rattle.std.proofs.Common.{◌≡◌, List, [], ◌∷◌, ◌++◌, length, refl, ◌∙◌, ap, arith}
use Rattle.gl_entry.specs.declared.entry.Entry.{Entry}
use Rattle.gl_snapshot_body.specs.Body.{no_body}
use Rattle.gl_ledger.specs.NodeKeys.{service_layers}
use Rattle.gl_ledger_base.specs.Ledgers.{HoldsLedger, IsBase}
use Rattle.gl_ledger_base.proofs.LedgersHeld.{held_base}

-- no body tells of no entries
pub none_base : IsBase service_layers no_body []
none_base = record { valid = refl; ends = λ some. absurd (omega (arith, some)); snapshot = refl }

pub held_whole : (es : List Entry) → HoldsLedger service_layers no_body es es
held_whole es = record { below = []; base = none_base; whole = refl }

none_below : (below : List Entry) → 0 ≡ length below → below ≡ []
none_below [] is = refl
none_below (e ∷ es) is = absurd (omega (arith, is))

pub whole_is : (es ledger : List Entry) → HoldsLedger service_layers no_body es ledger → ledger ≡ es
whole_is es ledger holds =
    holds.whole ∙ ap (λ (l : List Entry). l ++ es) (none_below holds.below (held_base service_layers no_body es ledger holds))
