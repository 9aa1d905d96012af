-- What contracts see of a machine that plays a schedule, and what it keeps to.
use Rattle.std.specs.Prelude.{◌≡◌, ℕ, List, true}
use Rattle.std.specs.List.{AllByRecursion}
use Rattle.gl_hss.specs.Secrets.{PrivateKey}
use Rattle.gl_rules.specs.Identity.{NodeId}
use Rattle.gl_requests.specs.Ranges.{is_member_request}
use Rattle.gl_requests.specs.declared.request.GovernanceRequest.{GovernanceRequest}
use Rattle.gl_requests.specs.declared.request.GovernanceRequest.TheVariants as requests
use Rattle.gl_world.specs.declared.settings.Settings.{Settings}
use Rattle.gl_world.specs.Founding.{node_ids}
use Rattle.gl_world.specs.Group.{IsGroup}
use Rattle.gl_world.specs.Held.{Held}
use Rattle.gl_world.specs.Keys.{private_key, service_seed}
use Rattle.gl_world.specs.Members.{Signed}
use Rattle.gl_schedule.specs.declared.line_request.LineRequest.{LineRequest}

-- The world of its service, and what lines may name: the requests of governance that lines made,
-- the proposals, and who signed.
pub record Playing : Type 0 where
  pub world : Held
  pub requests : List LineRequest
  pub proposals : List (List ℕ)
  pub signed : List ℕ

-- What a member asks for is in its ranges.
abbrev pub IsSent : GovernanceRequest → Type 0
IsSent (requests.Member m) = is_member_request m ≡ true
IsSent other = Unit {0}

-- The parts of a machine are of one service, which has these settings.
pub record AreOfOne (s : Settings) (held : Held) (identifiers : List NodeId) (key : PrivateKey)
    (signers : Signed) (noted : List LineRequest) : Type 0 where
  pub group : IsGroup s
  pub world : held.settings ≡ s
  pub ids : identifiers ≡ node_ids s
  pub service : key ≡ private_key (service_seed s)
  pub members : signers.settings ≡ s
  pub sent : AllByRecursion (λ (r : LineRequest). IsSent r.request) noted
