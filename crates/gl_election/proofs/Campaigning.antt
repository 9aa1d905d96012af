-- A campaign, part by part.
use Rattle.std.proofs.Common.{◌≡◌, ℕ, List, [], ◌∷◌, map, Bool, true, Some, None, ap, ◌∙◌}
use Rattle.gl_base.specs.declared.tx_id.TxId.{TxId}
use Rattle.gl_rules.specs.Identity.{NodeId, member}
use Rattle.gl_rules.specs.Majority.{quorum}
use Rattle.gl_messages.specs.declared.message.Message.{Message}
use Rattle.gl_election.specs.declared.elected.Elected.{Elected}
use Rattle.gl_election.specs.declared.elected.ElectionOutcome.{ElectionOutcome}
use Rattle.gl_election.specs.declared.peer.Peer.{Peer}
use Rattle.gl_election.specs.declared.peer.Role.{Role}
use Rattle.gl_election.specs.Elections.{role_by, campaign_outcome, campaign, vote_request}

pub campaign_by : (me : NodeId) (last : TxId) (active : List (List NodeId)) (others : List NodeId) (view : ℕ) (sent : List Message) (votes : List NodeId) (won : Bool) (role : Role) (outcome : ElectionOutcome) →
    sent ≡ map (vote_request me view last) others → votes ≡ me ∷ [] → won ≡ quorum (λ y. member y votes) active → role ≡ role_by won → outcome ≡ campaign_outcome won →
    ◌≡◌ {A = Elected × Peer} (record { outcome = outcome; sent = sent; rose = true }, record { view = view; vote = Some me; role = role; leader = None; votes = votes }) (campaign me last active others view)
campaign_by me last active others view sent votes won role outcome sent_is votes_are won_is role_is outcome_is =
    let w : won ≡ quorum (λ y. member y (me ∷ [])) active = won_is ∙ ap (λ (nodes : List NodeId). quorum (λ y. member y nodes) active) votes_are in
    ap {B = Elected × Peer} (λ (o : ElectionOutcome). (record { outcome = o; sent = sent; rose = true }, record { view = view; vote = Some me; role = role; leader = None; votes = votes })) (outcome_is ∙ ap campaign_outcome w)
    ∙ ap {B = Elected × Peer} (λ (r : Role). (record { outcome = campaign_outcome (quorum (λ y. member y (me ∷ [])) active); sent = sent; rose = true }, record { view = view; vote = Some me; role = r; leader = None; votes = votes })) (role_is ∙ ap role_by w)
    ∙ ap {B = Elected × Peer} (λ (m : List Message). (record { outcome = campaign_outcome (quorum (λ y. member y (me ∷ [])) active); sent = m; rose = true }, record { view = view; vote = Some me; role = role_by (quorum (λ y. member y (me ∷ [])) active); leader = None; votes = votes })) sent_is
    ∙ ap {B = Elected × Peer} (λ (nodes : List NodeId). (record { outcome = campaign_outcome (quorum (λ y. member y (me ∷ [])) active); sent = map (vote_request me view last) others; rose = true }, record { view = view; vote = Some me; role = role_by (quorum (λ y. member y (me ∷ [])) active); leader = None; votes = nodes })) votes_are
