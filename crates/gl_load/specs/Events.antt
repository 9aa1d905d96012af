-- What happens at the node of a load, and the ledger that it has then.
use Rattle.std.specs.Prelude.{ℕ, zero, suc, ◌+◌, ◌/◌, ◌%◌, List, [], ◌∷◌, ◌++◌, Bool, ◌||◌, ◌==◌, if◌then◌else◌}
use Rattle.gl_rules.specs.Node.{Node}
use Rattle.gl_rules.specs.World.{Submit, Reserve, Sign, Advance}
use Rattle.gl_entry.specs.declared.entry.Entry.{Entry}
use Rattle.gl_ledger.specs.NodeKeys.{service_layers}
use Rattle.gl_world.specs.Service.{ServiceEvent, node_of}
use Rattle.gl_load.specs.Founding.{load_id, load_keys, load_start}
use Rattle.gl_load.specs.Requests.{load_request}

-- Of a load of so many requests the node signs after each hundred, and after the last one.
abbrev pub signs_after : ℕ → ℕ → Bool
signs_after count done = (done % 100 == 0) || (done == count)

-- To sign it reserves a leaf of its key; and then it commits what it signed.
abbrev pub signing : List ℕ → List ServiceEvent
signing seed = Reserve (load_id seed) ∷ Sign (load_id seed) ∷ Advance (load_id seed) ∷ []

abbrev pub submitting : List ℕ → ℕ → ServiceEvent
submitting seed n = Submit (load_id seed) (load_request seed n)

-- The request with this number, counted from 0, and what follows it.
abbrev pub events_of : List ℕ → ℕ → ℕ → List ServiceEvent
events_of seed count n =
    submitting seed n ∷ (if signs_after count (suc n) then signing seed else [])

-- The first so many requests, each with what follows it.
unfoldable pub events_up_to : List ℕ → ℕ → ℕ → List ServiceEvent
events_up_to seed count zero = []
events_up_to seed count (suc n) = events_up_to seed count n ++ events_of seed count n

-- The node of the service, as the rules of consensus have it after these events.
abbrev pub node_after : List ℕ → List ServiceEvent → Node Entry
node_after seed events = node_of service_layers (load_keys seed) (load_start seed) events
    (load_id seed)

-- The ledger of a load of so many requests.
abbrev pub load_ledger : List ℕ → ℕ → List Entry
load_ledger seed count = (node_after seed (events_up_to seed count count)).log

-- How often the node signs after so many requests: once for each hundred, and once for what is
-- left.
abbrev pub signature_count : ℕ → ℕ
signature_count count = (count + 99) / 100
