-- The ledger of a load: how many entries and signatures it has, and that none breaks a rule.
use Rattle.std.proofs.Common.{◌≡◌, ℕ, ◌+◌, ◌≤◌, ◌<◌, List, length, take, None, sym, subst, arith}
use Rattle.gl_base.proofs.Lists.{take-all}
use Rattle.gl_rules.specs.Node.{Leader}
use Rattle.gl_rules.specs.Safety.{EachFollows, LeadersMayRecord, node_after, node_at}
use Rattle.gl_safety.proofs.Membership.{leaders_may_record}
use Rattle.gl_ledger.specs.Audit.{audited}
use Rattle.gl_ledger.specs.NodeKeys.{service_layers}
use Rattle.gl_ledger.proofs.Auditing.{audited_all}
use Rattle.gl_ledger.proofs.Lawful.{lawful, unbroken}
use Rattle.gl_ledger.proofs.Opened.{begins_opening}
use Rattle.gl_world.specs.Service.{ServiceEvent}
use Rattle.gl_load.specs.Events.{events_up_to, load_ledger, signature_count}
use Rattle.gl_load.specs.Founding.{load_book, load_id, load_keys, load_start}
use Rattle.gl_load.specs.Report.{signatures_in}
use Rattle.gl_load.proofs.Founded.{load_begins}
use Rattle.gl_load.proofs.Growing.{grown, signings_all}

module _ (seed : List ℕ) (count : ℕ) (most : count ≤ 100000) where
  pub load_entries : length (load_ledger seed count) ≡ 2 + count + signature_count count
  load_entries = let at = grown seed count count most (omega arith) in omega (arith, at.long, signings_all count)

  pub load_signatures : length (signatures_in (load_ledger seed count)) ≡ 1 + signature_count count
  load_signatures = let at = grown seed count count most (omega arith) in omega (arith, at.signs, signings_all count)

  pub load_some : 0 < length (load_ledger seed count)
  load_some = omega (arith, load_entries)

  abbrev events : List ServiceEvent
  events = events_up_to seed count count

  all : LeadersMayRecord (load_book seed) (load_start seed) events
  all =
      leaders_may_record (begins_opening service_layers (load_keys seed) (load_start seed) (load_begins seed)) (lawful service_layers (load_keys seed)) events

  leads_there : (node_at (load_book seed) (load_start seed) events (length events) (load_id seed)).role ≡ Leader
  leads_there =
      subst (λ (es : List ServiceEvent). (node_after (load_book seed) (load_start seed) es (load_id seed)).role ≡ Leader) (sym (take-all events))
      (grown seed count count most (omega arith)).leads

  follows : EachFollows (load_book seed) (load_ledger seed count)
  follows =
      subst (λ (es : List ServiceEvent). EachFollows (load_book seed) (node_after (load_book seed) (load_start seed) es (load_id seed)).log) (take-all events)
      (all.follows (length events) (load_id seed) leads_there)

  pub load_valid : audited service_layers (load_ledger seed count) ≡ None
  load_valid =
      audited_all service_layers (load_ledger seed count) (λ i e there. unbroken service_layers (load_keys seed) (take i (load_ledger seed count)) e (follows i e there))
