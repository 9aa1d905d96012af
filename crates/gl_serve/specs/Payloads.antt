-- What a payload encodes that a node takes.
use Rattle.std.specs.Prelude.{ℕ, List, Option, None, Some, option_map}
use Rattle.std.specs.Result.{result_ok}
use Rattle.gl_requests.specs.Parsing.{request_result}
use Rattle.gl_requests.specs.declared.request.GovernanceRequest.{GovernanceRequest}
use Rattle.gl_requests.specs.declared.request.GovernanceRequest.TheVariants as requests
use Rattle.gl_tx.specs.Parsing.{request_of}
use Rattle.gl_messages.specs.Client.{client_of}
use Rattle.gl_messages.specs.MessageReading.{message_of}
use Rattle.gl_messages.specs.declared.client.Call.{Call}
use Rattle.gl_messages.specs.declared.client.Call.TheVariants as calls
use Rattle.gl_messages.specs.declared.client.Client.{Client}
use Rattle.gl_messages.specs.declared.message.Message.{Message}
use Rattle.gl_serve.specs.declared.payload.Ask.{Ask}
use Rattle.gl_serve.specs.declared.payload.Ask.TheVariants as asks
use Rattle.gl_serve.specs.declared.payload.Payload.{Payload}
use Rattle.gl_serve.specs.declared.payload.Payload.TheVariants as payloads

-- A client may ask for each request of governance that founds no service.
abbrev pub governance_ask : GovernanceRequest → Option Ask
governance_ask (requests.Genesis genesis) = None
governance_ask (requests.Recover recovery) = None
governance_ask other = Some (asks.Govern other)

abbrev pub governance_ask_if : Option GovernanceRequest → Option Ask
governance_ask_if None = None
governance_ask_if (Some request) = governance_ask request

abbrev pub governance_ask_in : List ℕ → Option Ask
governance_ask_in bytes = governance_ask_if (result_ok (request_result bytes))

abbrev pub submit_ask_in : List ℕ → Option Ask
submit_ask_in bytes = option_map asks.Submit (result_ok (request_of bytes))

-- What a client asks, where its own request is in the grammar of its kind.
abbrev pub ask_of : Call → Option Ask
ask_of (calls.Submit bytes) = submit_ask_in bytes
ask_of (calls.Govern bytes) = governance_ask_in bytes
ask_of (calls.StatusOf id) = Some (asks.StatusOf id)
ask_of (calls.ReceiptOf id) = Some (asks.ReceiptOf id)
ask_of (calls.SnapshotPart offset) = Some (asks.SnapshotPart offset)

abbrev pub client_payload : Option Client → Option Payload
client_payload None = None
client_payload (Some client) = option_map (payloads.Client client.number) (ask_of client.call)

abbrev pub client_payload_in : List ℕ → Option Payload
client_payload_in bytes = client_payload (result_ok (client_of bytes))

abbrev pub payload_or : Option Message → Option Payload → Option Payload
payload_or None other = other
payload_or (Some message) other = Some (payloads.Peer message)

-- A payload is a message of a peer, or what a client asks. Any other encodes nothing.
abbrev pub payload_in : List ℕ → Option Payload
payload_in bytes = payload_or (result_ok (message_of bytes)) (client_payload_in bytes)
