-- A service that begins with a ledger which the check of an opening takes is safe, and retires
-- nodes safely.
use Rattle.std.proofs.Common.{List}
use Rattle.gl_rules.specs.World.{Start}
use Rattle.gl_rules.specs.Safety.{IsSafe, RetiresSafely}
use Rattle.gl_safety.proofs.AnySoundness.{safe_for}
use Rattle.gl_safety.proofs.Retiring.{retires_safely}
use Rattle.gl_entry.specs.declared.entry.Entry.{Entry}
use Rattle.gl_ledger.specs.Layers.{Layers}
use Rattle.gl_ledger.specs.NodeKeys.{NodeKeys}
use Rattle.gl_ledger.specs.Sound.{IsSound}
use Rattle.gl_ledger.specs.LedgerBook.{ledger_book}
use Rattle.gl_ledger.specs.OpeningLedger.{Begins}
use Rattle.gl_ledger.proofs.Lawful.{lawful, unbroken}
use Rattle.gl_ledger.proofs.Sounding.{sound-push, sound_empty}
use Rattle.gl_ledger.proofs.Opened.{begins_opening}
use Rattle.gl_ledger.proofs.Retiring.{retiring}
use Rattle.gl_world.specs.Service.{ServiceEvent}

pub begins_safe : (layers : Layers) (keys : NodeKeys) → (s : Start Entry) → Begins layers s → (events : List ServiceEvent) → IsSafe (ledger_book layers keys) (IsSound layers) s events
begins_safe layers keys s h events =
    safe_for (ledger_book layers keys) (IsSound layers) (sound_empty layers)
    (λ log e each sound one. sound-push layers log e sound (unbroken layers keys log e one))
    (begins_opening layers keys s h) (lawful layers keys) events

pub begins_retiring : (layers : Layers) (keys : NodeKeys) → (s : Start Entry) → Begins layers s → (events : List ServiceEvent) → RetiresSafely (ledger_book layers keys) s events
begins_retiring layers keys s h events = retires_safely (begins_opening layers keys s h) (lawful layers keys) (retiring layers keys) events
