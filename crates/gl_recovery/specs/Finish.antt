-- Whether the recovery of a service is finished (CCF documentation, "Disaster Recovery").
use Rattle.std.specs.Prelude.{Option, Some, Bool, true, Result, Ok, Err}
use Rattle.gl_requests.specs.declared.genesis.ServiceState.{ServiceState}
use Rattle.gl_requests.specs.declared.genesis.ServiceState.TheVariants as services
use Rattle.gl_gov_rules.specs.History.{History}
use Rattle.gl_gov_rules.specs.Service.{is_recovered, service_state}
use Rattle.gl_audit.specs.GovState.{share_count}
use Rattle.gl_audit.specs.declared.effect.ShareCount.{ShareCount}
use Rattle.gl_recovery.specs.declared.finished.FinishFault.{FinishFault}
use Rattle.gl_recovery.specs.declared.finished.FinishFault.TheVariants as faults

-- It isn't yet while the service waits for its members' shares. Once a recovered service is open it
-- is; and a service in another state, or one that is open and was never recovered, has no recovery
-- to finish.
abbrev pub finished_where : Bool → Option ServiceState → ShareCount →
    Result (Unit {0}) FinishFault
finished_where recovered (Some services.WaitingForRecoveryShares) shares =
    Err (faults.NotYet shares.have shares.need)
finished_where true (Some services.Open) shares = Ok tt
finished_where recovered state shares = Err (faults.NotRecovering state)

unfoldable pub finished : History → Result (Unit {0}) FinishFault
finished h = finished_where (is_recovered h) (service_state h) (share_count h)
