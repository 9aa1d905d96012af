use Rattle.gl_base.proofs.ByteLists.{are_bytes-each}
use Rattle.gl_requests.proofs.RequestReadings.{request-encoded, request-read}
use Rattle.gl_requests.proofs.laws.law_of_requests.Goals as goal

pub returns-clause-round_trip : goal.returns-clause-round_trip
returns-clause-round_trip c = request-read

pub returns-clause-only : goal.returns-clause-only
returns-clause-only c bytes r all read = request-encoded bytes r (are_bytes-each bytes all) read
