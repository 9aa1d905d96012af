-- With what a service of a schedule begins, and its outcomes and worlds.
use Rattle.std.specs.Prelude.{map}
use Rattle.gl_rules.specs.World.{Start, World}
use Rattle.gl_rules.specs.Outcome.{Outcome}
use Rattle.gl_entry.specs.declared.entry.Entry.{Entry}
use Rattle.gl_ledger.specs.declared.response.Response.{Response}
use Rattle.gl_ledger.specs.declared.response.Rejection.{Rejection}
use Rattle.gl_ledger.specs.Makers.{opening_of}
use Rattle.gl_world.specs.declared.settings.Settings.{Settings}
use Rattle.gl_world.specs.Founding.{numbers_from, id_of, keys_of, genesis_of}

-- The service of these settings begins with the opening ledger of its genesis, signed by node 1.
abbrev pub start_of : Settings → Start Entry
start_of s = record {
  opening = opening_of (keys_of s) (genesis_of s) (id_of s 1);
  starting = map (id_of s) (numbers_from 1 s.starting);
  first = id_of s 1;
}

abbrev pub ServiceOutcome : Type 0
ServiceOutcome = Outcome Response Rejection

abbrev pub ServiceWorld : Type 0
ServiceWorld = World Entry
