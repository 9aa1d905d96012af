-- What a schedule tells. One fold over its lines makes the events, the world and the text.
use Rattle.std.specs.Prelude.{ℕ, zero, suc, ◌+◌, List, [], ◌∷◌, ◌++◌, Option, None, Some, ◌&&◌, nat_le, nat_lt, is_some, slice_get, fold, option_to_list, codes, if◌then◌else◌}
use Rattle.gl_rules.specs.Identity.{NodeId}
use Rattle.gl_rules.specs.Message.{Message}
use Rattle.gl_rules.specs.Retirement.{stage_at}
use Rattle.gl_rules.specs.World.{happens, begin}
use Rattle.gl_rules.specs.World as event
use Rattle.gl_rules.specs.Safety.{reported_status}
use Rattle.gl_entry.specs.declared.entry.Entry.{Entry}
use Rattle.gl_requests.specs.Ranges.{is_member_number}
use Rattle.gl_requests.specs.declared.action.Action.{Action}
use Rattle.gl_requests.specs.declared.request.MemberAct.{MemberAct}
use Rattle.gl_requests.specs.declared.request.MemberAct.TheVariants as acts
use Rattle.gl_requests.specs.declared.request.GovernanceRequest.{GovernanceRequest}
use Rattle.gl_requests.specs.declared.request.GovernanceRequest.TheVariants as requests
use Rattle.gl_world.specs.declared.settings.Settings.{Settings}
use Rattle.gl_world.specs.Founding.{id_of, node_ids, node_of}
use Rattle.gl_world.specs.Held.{receiver_in}
use Rattle.gl_world.specs.Members.{next_leaf, leaf_limit, member_request}
use Rattle.gl_world.specs.Service.{ServiceEvent}
use Rattle.gl_world.specs.Group.{book_of}
use Rattle.gl_world.specs.World.{ServiceWorld, start_of}
use Rattle.gl_lines.specs.References.{id_at}
use Rattle.gl_lines.specs.declared.line.Line.{Line}
use Rattle.gl_lines.specs.declared.line.Line.TheVariants as lines
use Rattle.gl_schedule.specs.declared.line_request.LineRequest.{LineRequest}
use Rattle.gl_schedule.specs.declared.schedule.Schedule.{Schedule}
use Rattle.gl_schedule.specs.declared.schedule.Schedule.TheVariants.{Empty, Service}
use Rattle.gl_schedule.specs.Governed.{governed_text, proposals_after, request_named}
use Rattle.gl_schedule.specs.Text.{committed_entries, held_entries, ids_text, ledger_text, no_proposal_text, numbered, outcome_text, sent_text, spent_text, stage_text, status_text, unnamed_text}

-- What was told so far.
pub record Output : Type 0 where
  -- how many lines were read
  pub lines : ℕ
  pub world : ServiceWorld
  -- what happened, in order
  pub events : List ServiceEvent
  -- what was written
  pub text : List ℕ
  -- the requests of governance that lines made
  pub requests : List LineRequest
  -- the proposals, by their identifiers, in the order in which they were first accepted
  pub proposals : List (List ℕ)
  -- the member's number for each signature of a member, in order
  pub signed : List ℕ

-- What a line comes to: an event of the service; a request of governance that reaches a node, which
-- a member signed for this line, or which nobody signs or an earlier line made; or an answer that
-- changes nothing.
pub data Effect : Type 0 where
  Happens : (event : ServiceEvent) → Effect
  Governs : (x : NodeId) (signer : Option ℕ) (request : GovernanceRequest) → Effect
  Answers : (text : List ℕ) → Effect

-- The node with a number, from 1, if the service has so many.
abbrev pub node_named : Settings → ℕ → Option NodeId
node_named s number =
    if nat_le 1 number && nat_le number (s.starting + s.joiners) then Some (id_of s number)
    else None

-- A number that names nothing is refused, and nothing happens.
abbrev pub at_named : Option NodeId → (NodeId → Effect) → Effect
at_named None effect = Answers unnamed_text
at_named (Some x) effect = effect x

abbrev pub at_node : Settings → ℕ → (NodeId → Effect) → Effect
at_node s number effect = at_named (node_named s number) effect

-- Two nodes are named, the one at which the event happens first.
abbrev pub at_nodes : Settings → ℕ → ℕ → (NodeId → NodeId → Effect) → Effect
at_nodes s number other effect = at_node s number (λ x. at_node s other (effect x))

-- Messages are numbered from 1, in the order in which they were sent. One is delivered where there
-- is one with the number, and it is for a node that the service has.
abbrev pub delivers : Settings → List (Message Entry) → ℕ → Effect
delivers s sent zero = Answers unnamed_text
delivers s sent (suc index) =
    if is_some (receiver_in (node_ids s) (slice_get sent index)) then Happens (event.Deliver index)
    else Answers unnamed_text

-- Members have the numbers from 1 to 255, also those that the service doesn't have.
abbrev pub at_member : ℕ → Effect → Effect
at_member number effect = if is_member_number number then effect else Answers unnamed_text

abbrev pub at_proposal : Option (List ℕ) → (List ℕ → Effect) → Effect
at_proposal None effect = Answers no_proposal_text
at_proposal (Some id) effect = effect id

-- A member signs what it asks for with its next leaf, also where it will be refused. Where each
-- leaf of its key is used, nothing happens.
abbrev pub signs : Settings → Output → NodeId → ℕ → MemberAct → Effect
signs s t x member act =
    if nat_lt (next_leaf t.signed member) leaf_limit
    then Governs x (Some member)
    (requests.Member (member_request s member (next_leaf t.signed member) act))
    else Answers spent_text

-- No node may be named in a proposal that there isn't.
abbrev pub proposes : Settings → Output → NodeId → ℕ → Option (List Action) → Effect
proposes s t x member None = Answers unnamed_text
proposes s t x member (Some list) = signs s t x member (acts.Propose list)

-- The request of an earlier line is sent as it is, with no leaf of its own.
abbrev pub repeats : NodeId → Option LineRequest → Effect
repeats x None = Answers unnamed_text
repeats x (Some r) = Governs x None r.request

-- The effect of a line after what was told so far.
abbrev pub effect_of : Settings → Output → Line → Effect
effect_of s t (lines.Timeout node) = at_node s node (λ x. Happens (event.Timeout x))
effect_of s t (lines.Deliver message) = delivers s t.world.sent message
effect_of s t (lines.Submit node operations) =
    at_node s node (λ x. Happens (event.Submit x operations))
effect_of s t (lines.Ack node member) =
    at_node s node (λ x. at_member member (signs s t x member acts.Ack))
effect_of s t (lines.Propose node member list) =
    at_node s node (λ x. at_member member (proposes s t x member list))
effect_of s t (lines.Ballot node member proposal agrees) =
    at_node s node (λ x. at_member member (at_proposal (id_at t.proposals proposal) (λ id.
    signs s t x member (acts.Ballot id agrees))))
effect_of s t (lines.Withdraw node member proposal) =
    at_node s node (λ x. at_member member (at_proposal (id_at t.proposals proposal) (λ id.
    signs s t x member (acts.Withdraw id))))
effect_of s t (lines.Join node joiner) =
    at_nodes s node joiner (λ x y. Governs x None (requests.Join (node_of s joiner)))
effect_of s t (lines.Mark node marked) =
    at_nodes s node marked (λ x y. Governs x None (requests.Mark y))
effect_of s t (lines.Again node line) =
    at_node s node (λ x. repeats x (request_named t.requests line))
effect_of s t (lines.Reserve node) = at_node s node (λ x. Happens (event.Reserve x))
effect_of s t (lines.Sign node) = at_node s node (λ x. Happens (event.Sign x))
effect_of s t (lines.Evidence node) = at_node s node (λ x. Happens (event.Evidence x))
effect_of s t (lines.Replicate node to) =
    at_nodes s node to (λ x y. Happens (event.Replicate x y))
effect_of s t (lines.Advance node) = at_node s node (λ x. Happens (event.Advance x))
effect_of s t (lines.StepDown node to) =
    at_nodes s node to (λ x y. Happens (event.StepDown x y))
effect_of s t (lines.Restart node) = at_node s node (λ x. Happens (event.Restart x))
effect_of s t (lines.Install node from) =
    at_nodes s node from (λ x y. Happens (event.Install x y))
effect_of s t (lines.Status node id) =
    at_node s node (λ x.
    Answers (status_text (reported_status (book_of s) (t.world.nodes x) id)))
effect_of s t (lines.Stage node other) =
    at_nodes s node other (λ x y.
    Answers (stage_text (stage_at (book_of s) (t.world.nodes x) y)))
effect_of s t (lines.Ids node) =
    at_node s node (λ x. Answers (ids_text (committed_entries (t.world.nodes x))))
effect_of s t (lines.Ledger node) =
    at_node s node (λ x. Answers (ledger_text (held_entries (t.world.nodes x))))

-- The text with one line more, which has the next number.
abbrev pub next_text : Output → List ℕ → List ℕ
next_text t text = t.text ++ numbered (suc t.lines) text

-- An event makes the world, and its outcome and the messages that it sent are reported.
abbrev pub printed_event : Settings → Output → ServiceEvent → Output
printed_event s t e =
    let done = happens (book_of s) t.world e in
    record t {
      lines = suc t.lines;
      world = done.world;
      events = t.events ++ e ∷ [];
      text = next_text t (outcome_text s done.outcome ++ sent_text t.world done.world);
    }

-- So does a request of governance. It is noted for lines that send it again. Where it is accepted,
-- a proposal that it makes gets a number, and the proposal that it concerns is reported, in the
-- state that it then has.
abbrev pub printed_request : Settings → Output → NodeId → Option ℕ → GovernanceRequest → Output
printed_request s t x signer request =
    let done = happens (book_of s) t.world (event.Govern x request) in
    let proposals = proposals_after t.proposals request done.outcome in
    record {
      lines = suc t.lines;
      world = done.world;
      events = t.events ++ event.Govern x request ∷ [];
      text = next_text t ((outcome_text s done.outcome ++ governed_text proposals done.outcome)
          ++ sent_text t.world done.world);
      requests = t.requests ++ record { line = suc t.lines; request = request } ∷ [];
      proposals = proposals;
      signed = t.signed ++ option_to_list signer;
    }

-- An answer is reported alone.
abbrev pub printed_effect : Settings → Output → Effect → Output
printed_effect s t (Happens e) = printed_event s t e
printed_effect s t (Governs x signer request) = printed_request s t x signer request
printed_effect s t (Answers text) = record t { lines = suc t.lines; text = next_text t text }

-- One line more.
abbrev pub reported : Settings → Output → Line → Output
reported s t line = printed_effect s t (effect_of s t line)

-- The first line is told in the world with which the service begins.
abbrev pub printed_at_start : Settings → Output
printed_at_start s = record {
  lines = 1;
  world = begin (start_of s);
  events = [];
  text = codes "1 ok\n";
  requests = [];
  proposals = [];
  signed = [];
}

-- What the lines after the first tell.
unfoldable pub output_of : Settings → List Line → Output
output_of s lines = fold (reported s) (printed_at_start s) lines

-- What a schedule prints: all that its lines come to; an empty one prints nothing.
abbrev pub text_of_schedule : Schedule → List ℕ
text_of_schedule Empty = []
text_of_schedule (Service settings lines) = (output_of settings lines).text
