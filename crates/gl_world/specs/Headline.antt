-- What is promised of a service: over any number of nodes, whatever list of events, and all pairs
-- of moments.
use Rattle.std.specs.Prelude.{List}
use Rattle.gl_rules.specs.Safety.{IsSafe}
use Rattle.gl_ledger.specs.Sound.{IsSound}
use Rattle.gl_world.specs.Service.{ServiceEvent}
use Rattle.gl_ledger.specs.NodeKeys.{service_layers}
use Rattle.gl_world.specs.declared.settings.Settings.{Settings}
use Rattle.gl_world.specs.Group.{book_of}
use Rattle.gl_world.specs.World.{start_of}

-- Of any two committed ledgers, at any nodes and moments, one is a prefix of the other. No
-- identifier that is reported Committed is ever reported Invalid. Each committed ledger is sound:
-- in order and founded, one serial run of its requests, and its governance tables are the effect of
-- the governance requests that it records.
abbrev pub Headline : Settings → List ServiceEvent → Type 0
Headline s events = IsSafe (book_of s) (IsSound service_layers) (start_of s) events
