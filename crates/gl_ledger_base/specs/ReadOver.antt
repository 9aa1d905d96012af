-- The trusted nodes of a ledger, told by the body of a snapshot and the entries behind it.
use Rattle.std.specs.Prelude.{ℕ, zero, suc, ◌+◌, ◌-◌, List, [], ◌++◌, Option, nat_lt, take, if◌then◌else◌}
use Rattle.std.specs.Option.{option_to_list}
use Rattle.gl_rules.specs.Identity.{NodeId}
use Rattle.gl_entry.specs.declared.entry.Entry.{Entry}
use Rattle.gl_gov_rules.specs.Nodes.{trusted}
use Rattle.gl_snapshot_body.specs.declared.body.Body.{Body}
use Rattle.gl_ledger.specs.Past.{past_over}
use Rattle.gl_ledger.specs.Recordings.{changed_set}

module _ (body : Body) (es : List Entry) where
  -- The trusted nodes after the entry with a seqno that is not below the base.
  abbrev pub trusted_at : ℕ → List NodeId
  trusted_at seqno = trusted (past_over body (take (seqno - body.base) es)).history

  -- The configuration that begins with the entry at a seqno above the base, if one does.
  abbrev pub configuration_over : ℕ → Option (List NodeId)
  configuration_over seqno = changed_set (trusted_at (seqno - 1)) (trusted_at seqno)

  -- Those that begin above a commit with one of the first entries, in order.
  abbrev pub configurations_over : ℕ → ℕ → List (List NodeId)
  configurations_over commit zero = []
  configurations_over commit (suc n) =
      if nat_lt commit (body.base + suc n)
      then (
      configurations_over commit n
      ++ option_to_list (configuration_over (body.base + suc n))
      )
      else []
