-- What a client is answered for an accepted request.
use Rattle.std.specs.Prelude.{ℕ, List, [], ◌∷◌, ◌++◌, None, Some}
use Rattle.gl_gov_rules.specs.Rows.{proposal_byte}
use Rattle.gl_ledger.specs.declared.response.Response.{Response}
use Rattle.gl_ledger.specs.declared.response.Response.TheVariants.{Replied, Governed}
use Rattle.gl_tx.specs.Request.{reply_bytes}

-- Of a request of an application these are the bytes of its reply. Of a request of governance that
-- makes, answers or takes back a proposal they are the proposal's identifier, and the byte of the
-- state that it has then; of any other there are none.
abbrev pub given_bytes : Response → List ℕ
given_bytes (Replied answers) = reply_bytes answers
given_bytes (Governed None) = []
given_bytes (Governed (Some status)) = status.id ++ proposal_byte status.state ∷ []
