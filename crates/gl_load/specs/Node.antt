-- For which node of the rules the node of a load stands.
use Rattle.std.specs.Prelude.{◌≡◌, ◌++◌, ◌∷◌, [], ℕ, List, None}
use Rattle.rand_chacha.specs.ChaCha.{ChaCha}
use Rattle.gl_rules.specs.Identity.{NodeId}
use Rattle.gl_rules.specs.Node.{Node}
use Rattle.gl_rules.specs.Outcome.{Refusal, Refused}
use Rattle.gl_rules.specs.World.{Reserve, Sign}
use Rattle.gl_entry.specs.declared.entry.Entry.{Entry}
use Rattle.gl_ledger.specs.LedgerBook.{ServiceBook}
use Rattle.gl_ledger.specs.declared.response.Rejection.{Rejection}
use Rattle.gl_world.specs.Service.{ServiceEvent}
use Rattle.gl_replication.specs.Events.{rule_of}
use Rattle.gl_replication.specs.Holding.{Holding}
use Rattle.gl_replication.specs.Stands.{StandsFor}
use Rattle.gl_load.specs.Events.{events_up_to, node_after, submitting}
use Rattle.gl_load.specs.Founding.{load_book, load_id}
use Rattle.gl_load.specs.Requests.{words_after}
use Rattle.gl_load.specs.Types.{LoadCore, LoadEvent, LoadOutcome, LoadSeen}

-- The event was refused.
abbrev pub IsRefused : LoadOutcome → Type 0
IsRefused outcome = (why : Refusal Rejection) × (outcome ≡ Refused why)

module _ {S : Type 0} (stands : S → ServiceBook → Holding Entry → Type 0) where
  -- The core stands for a node of some rules, which don't refuse this event.
  pub record Takes (event : LoadEvent S) (core : LoadCore S) : Type 0 where
    pub rules : ServiceBook
    pub me : NodeId
    pub node : Node Entry
    pub standing : StandsFor stands core rules me node
    pub taken : IsRefused (rule_of event rules me node).outcome → ⊥

  -- The core stands for the node of the rules as the service begins.
  abbrev pub IsLed : List ℕ → LoadCore S → Type 0
  IsLed seed core = StandsFor stands core (load_book seed) (load_id seed) (node_after seed [])

  -- The node stands for that of the rules after these events, and goes on.
  pub record IsAfter (seed : List ℕ) (events : List ServiceEvent) (seen : LoadSeen S) :
      Type 0 where
    pub stands_for : StandsFor stands seen.core (load_book seed) (load_id seed)
        (node_after seed events)
    pub going : seen.stopped ≡ None

  -- So it does after so many requests, and the next words are those of the next request.
  pub record IsAfterRequests (seed : List ℕ) (count done : ℕ) (seen : LoadSeen S) (words : ChaCha) :
      Type 0 where
    pub after : IsAfter seed (events_up_to seed count done) seen
    pub words_are : words ≡ words_after seed done

  -- So it does with one more request, after which it hasn't signed yet.
  abbrev pub IsUnsigned : List ℕ → ℕ → ℕ → LoadSeen S → Type 0
  IsUnsigned seed count done seen =
      IsAfter seed (events_up_to seed count done ++ submitting seed done ∷ []) seen

  -- So it does with one more leaf reserved, and then with that leaf's signature.
  abbrev pub HasLeaf : List ℕ → ℕ → ℕ → LoadSeen S → Type 0
  HasLeaf seed count done seen =
      IsAfter seed ((events_up_to seed count done ++ submitting seed done ∷ [])
      ++ Reserve (load_id seed) ∷ []) seen

  abbrev pub HasSigned : List ℕ → ℕ → ℕ → LoadSeen S → Type 0
  HasSigned seed count done seen =
      IsAfter seed (((events_up_to seed count done ++ submitting seed done ∷ [])
      ++ Reserve (load_id seed) ∷ []) ++ Sign (load_id seed) ∷ []) seen
