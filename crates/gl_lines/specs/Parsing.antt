-- What the text of a schedule says. It is read whole before the first event.
use Rattle.std.specs.Prelude.{ℕ, suc, List, [], ◌∷◌, Option, None, Some, Result, Ok, Err, Bool, true, false, ◌&&◌, nat_le, codes, length, if◌then◌else◌}
use Rattle.gl_base.specs.Steps.{◌>>=◌}
use Rattle.gl_base.specs.TxId.{parsed}
use Rattle.gl_base.specs.declared.tx_id.TxId.{TxId}
use Rattle.gl_base.specs.declared.tx_id.TxIdFault.{TxIdFault}
use Rattle.gl_tx.specs.Request.{is_count}
use Rattle.gl_tx.specs.declared.request.Operation.{Operation}
use Rattle.gl_lines.specs.declared.fault.LineFault.{LineFault}
use Rattle.gl_lines.specs.declared.fault.LineFault.TheVariants.{NoReading}
use Rattle.gl_lines.specs.declared.fault.ScheduleFault.{ScheduleFault}
use Rattle.gl_lines.specs.declared.fault.ScheduleFault.TheVariants.{BadLine}
use Rattle.gl_lines.specs.declared.line.Line.{Line}
use Rattle.gl_lines.specs.declared.line.Line.TheVariants as lines
use Rattle.gl_lines.specs.declared.world.WorldLine.{WorldLine}
use Rattle.gl_lines.specs.Lines.{cut, newline, lines_of, is_open}
use Rattle.gl_lines.specs.Words.{space, words_of, is, hex_sized}
use Rattle.gl_lines.specs.Numbers.{counted_number}
use Rattle.gl_lines.specs.Operations.{operations_of}
use Rattle.gl_lines.specs.MemberLines.{ack_line, propose_line, ballot_line, withdraw_line, again_line}

-- A line after the first: the name of its command, the number of a node, and what the command asks
-- for after that; but `deliver` has a message's number alone. Each stands apart by one space, and
-- what is left may have spaces of its own.

-- A command that asks for nothing more.
abbrev pub short_line : List ℕ → ℕ → Result Line LineFault
short_line name node =
    if is name (codes "timeout") then Ok (lines.Timeout node)
    else (if is name (codes "reserve") then Ok (lines.Reserve node)
    else (if is name (codes "sign") then Ok (lines.Sign node)
    else (if is name (codes "evidence") then Ok (lines.Evidence node)
    else (if is name (codes "advance") then Ok (lines.Advance node)
    else (if is name (codes "restart") then Ok (lines.Restart node)
    else (if is name (codes "ids") then Ok (lines.Ids node)
    else (if is name (codes "ledger") then Ok (lines.Ledger node) else Err NoReading)))))))

-- A command that asks for one more node.
abbrev pub pair_line : List ℕ → ℕ → ℕ → Result Line LineFault
pair_line name node other =
    if is name (codes "join") then Ok (lines.Join node other)
    else (if is name (codes "mark") then Ok (lines.Mark node other)
    else (if is name (codes "replicate") then Ok (lines.Replicate node other)
    else (if is name (codes "stepdown") then Ok (lines.StepDown node other)
    else (if is name (codes "install") then Ok (lines.Install node other)
    else (if is name (codes "stage") then Ok (lines.Stage node other) else Err NoReading)))))

-- A request of 1 to 64 operations.
abbrev pub request_of : ℕ → List Operation → Result Line LineFault
request_of node all = if is_count (length all) then Ok (lines.Submit node all) else Err NoReading

abbrev pub submit_line : ℕ → List ℕ → Result Line LineFault
submit_line node rest = operations_of (words_of rest) >>= request_of node

abbrev pub if_parsed : ℕ → Result TxId TxIdFault → Result Line LineFault
if_parsed node (Ok id) = Ok (lines.Status node id)
if_parsed node (Err fault) = Err NoReading

-- What a member asks for. Each other command that asks for something asks for one more node.
abbrev pub member_line : List (List ℕ) → List ℕ → ℕ → List ℕ → Result Line LineFault
member_line ids name node rest =
    if is name (codes "ack") then ack_line node rest
    else (if is name (codes "propose") then propose_line ids node rest
    else (if is name (codes "ballot") then ballot_line node (words_of rest)
    else (if is name (codes "withdraw") then withdraw_line node (words_of rest)
    else (if is name (codes "again") then again_line node rest
    else (counted_number rest >>= pair_line name node)))))

-- A command that asks for what stands after its node.
abbrev pub long_line : List (List ℕ) → List ℕ → ℕ → List ℕ → Result Line LineFault
long_line ids name node rest =
    if is name (codes "submit") then submit_line node rest
    else (if is name (codes "status") then if_parsed node (parsed rest)
    else member_line ids name node rest)

unfoldable pub node_line : List (List ℕ) → List ℕ → ℕ → Option (List ℕ) → Result Line LineFault
node_line ids name node None = short_line name node
node_line ids name node (Some rest) = long_line ids name node rest

-- A command to a node.
unfoldable pub call_line : List (List ℕ) → List ℕ → List ℕ → Result Line LineFault
call_line ids name text =
    counted_number (cut space text).prefix >>= λ node.
    node_line ids name node (cut space text).suffix

-- A message that is delivered, by its number.
unfoldable pub deliver_line : List ℕ → Result Line LineFault
deliver_line text = counted_number text >>= λ message. Ok (lines.Deliver message)

abbrev pub command_line : List (List ℕ) → List ℕ → Option (List ℕ) → Result Line LineFault
command_line ids name None = Err NoReading
command_line ids name (Some text) =
    if is name (codes "deliver") then deliver_line text else call_line ids name text

-- What a line after the first says, if it says something. `ids` are the identifiers of the nodes
-- that it may name.
unfoldable pub line_of : List (List ℕ) → List ℕ → Result Line LineFault
line_of ids line = command_line ids (cut space line).prefix (cut space line).suffix

-- The first line: so many nodes that start and nodes that join, so many members, the state in which
-- the service begins, and its seed.

-- A number from one to another.
unfoldable pub number_within : ℕ → ℕ → List ℕ → Result ℕ LineFault
number_within least most word =
    counted_number word >>= λ n. (if nat_le least n && nat_le n most then Ok n else Err NoReading)

abbrev pub starting_limit : ℕ
starting_limit = 9

abbrev pub joiners_limit : ℕ
joiners_limit = 9

abbrev pub members_limit : ℕ
members_limit = 64

abbrev pub state_of : List ℕ → Result Bool LineFault
state_of word =
    if is word (codes "open") then Ok true
    else (if is word (codes "opening") then Ok false else Err NoReading)

unfoldable pub settings_read : List ℕ → List ℕ → List ℕ → List ℕ → List ℕ →
    Result WorldLine LineFault
settings_read starting joiners members state seed =
    number_within 1 starting_limit starting >>= λ n.
    number_within 0 joiners_limit joiners >>= λ m.
    number_within 1 members_limit members >>= λ k.
    state_of state >>= λ is_open. hex_sized seed 32 >>= λ bytes.
    Ok (record { starting = n; joiners = m; members = k; is_open = is_open; seed = bytes })

unfoldable pub world_read : List (List ℕ) → Result WorldLine LineFault
world_read (world ∷ starting ∷ joiners ∷ members ∷ state ∷ seed ∷ []) =
    if is world (codes "world") then settings_read starting joiners members state seed
    else Err NoReading
world_read words = Err NoReading

unfoldable pub world_of : List ℕ → Result WorldLine LineFault
world_of line = world_read (words_of line)

-- The lines of a schedule

-- What a line says, or that the line with this number says nothing.
abbrev pub or_line : {A : Type 0} → ℕ → Result A LineFault → Result A ScheduleFault
or_line number (Ok a) = Ok a
or_line number (Err fault) = Err (BadLine number)

-- Without a newline there is no first line.
abbrev pub first_line_of : List ℕ → Option (List ℕ) → Result (WorldLine × List ℕ) ScheduleFault
first_line_of line None = Err (BadLine 1)
first_line_of line (Some rest) = or_line 1 (world_of line) >>= λ world. Ok (world, rest)

-- What the first line of a text says, and the text after it.
unfoldable pub first_line : List ℕ → Result (WorldLine × List ℕ) ScheduleFault
first_line text = first_line_of (cut newline text).prefix (cut newline text).suffix

-- The lines from one with this number on, or the first that says nothing; an open line says
-- nothing.
unfoldable pub lines_read : List (List ℕ) → ℕ → List (List ℕ) → Bool →
    Result (List Line) ScheduleFault
lines_read ids number [] open_after = if open_after then Err (BadLine number) else Ok []
lines_read ids number (line ∷ lines) open_after =
    or_line number (line_of ids line) >>= λ first.
    lines_read ids (suc number) lines open_after >>= λ rest. Ok (first ∷ rest)

-- The lines of the text after the first line, in which these nodes may be named.
unfoldable pub lines_after : List (List ℕ) → List ℕ → Result (List Line) ScheduleFault
lines_after ids text = lines_read ids 2 (lines_of text).lines (is_open (lines_of text))
