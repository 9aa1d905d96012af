-- Each law, from the invariants of a run.
use Rattle.gl_safety.proofs.Headline.{safe}
use Rattle.gl_safety.proofs.Leaders.{leads_by_vote}
use Rattle.gl_safety.proofs.Refusals.{never_conflicts}
use Rattle.gl_safety.proofs.Membership.{leaders_may_record}
use Rattle.gl_safety.proofs.Retiring.{retires_safely}
use Rattle.gl_safety.proofs.Unchanged.{leaves_all}
use Rattle.gl_safety.proofs.Made.{each_made}
use Rattle.gl_safety.proofs.is_safe.Goals as goal

pub returns : goal.returns
returns g c = record {
  safe = λ book s k events. safe k.opening k.lawful events;
  elections = λ book s k events. leads_by_vote k.opening k.lawful events;
  no_conflict = λ book s k events. never_conflicts k.opening k.lawful events;
  may_record = λ book s k events. leaders_may_record k.opening k.lawful events;
  retirement = λ book s k re events. retires_safely k.opening k.lawful re events;
  refused = λ book w event why e. leaves_all book w event why e;
  made = λ book s events i x. each_made book s events i x;
}
