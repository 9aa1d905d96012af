-- The request of governance that bytes encode, where they encode one, is in its ranges and has
-- these bytes; and each such request is read from its bytes.
use Rattle.std.proofs.Common.{◌≡◌, ℕ, List, Some, Result, Ok, Err, true, ap}
use Rattle.std.specs.Result.{result_ok}
use Rattle.gl_base.specs.Bytes.{are_bytes}
use Rattle.gl_base.specs.declared.fault.CodeFault.{CodeFault}
use Rattle.gl_base.proofs.ByteLists.{are_bytes-each}
use Rattle.gl_requests.specs.Encoding.{request_bytes}
use Rattle.gl_requests.specs.Ranges.{is_request}
use Rattle.gl_requests.specs.Parsing.{request_result, request_in}
use Rattle.gl_requests.specs.declared.request.GovernanceRequest.{GovernanceRequest}
use Rattle.gl_requests.proofs.RequestReadings.{request-encoded, request-read}

pub request_in-read : (g : GovernanceRequest) → is_request g ≡ true → request_in (request_bytes g) ≡ Some g
request_in-read g is = ap result_ok (request-read g is)

read_of : (r : Result GovernanceRequest CodeFault) (g : GovernanceRequest) → result_ok r ≡ Some g → r ≡ Ok g
read_of (Ok q) g e = cc
read_of (Err fault) g e = cc

pub request_in-encoded : (bytes : List ℕ) (g : GovernanceRequest) → are_bytes bytes ≡ true → request_in bytes ≡ Some g → (is_request g ≡ true) × (bytes ≡ request_bytes g)
request_in-encoded bytes g all e = request-encoded bytes g (are_bytes-each bytes all) (read_of (request_result bytes) g e)
