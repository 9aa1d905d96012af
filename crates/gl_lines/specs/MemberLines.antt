-- The lines of members: what a member asks of a node. A member and a proposal are named by numbers,
-- and so is the line whose request is sent again.
use Rattle.std.specs.Prelude.{ℕ, List, [], ◌∷◌, Option, None, Some, Result, Ok, Err, Bool, true, false, codes, if◌then◌else◌}
use Rattle.gl_base.specs.Steps.{◌>>=◌}
use Rattle.gl_base.specs.declared.json.FormsFault.{FormsFault}
use Rattle.gl_requests.specs.declared.action.Action.{Action}
use Rattle.gl_forms.specs.Requests.{proposal_in}
use Rattle.gl_forms.specs.Text.{tree_from}
use Rattle.gl_lines.specs.declared.fault.LineFault.{LineFault}
use Rattle.gl_lines.specs.declared.fault.LineFault.TheVariants.{NoReading}
use Rattle.gl_lines.specs.declared.line.Line.{Line}
use Rattle.gl_lines.specs.declared.line.Line.TheVariants as lines
use Rattle.gl_lines.specs.Lines.{cut}
use Rattle.gl_lines.specs.Words.{space, is}
use Rattle.gl_lines.specs.Numbers.{counted_number}
use Rattle.gl_lines.specs.References.{with_ids, names_unknown}

unfoldable pub ack_line : ℕ → List ℕ → Result Line LineFault
ack_line node rest = counted_number rest >>= λ member. Ok (lines.Ack node member)

abbrev pub answer_of : List ℕ → Result Bool LineFault
answer_of word =
    if is word (codes "yes") then Ok true
    else (if is word (codes "no") then Ok false else Err NoReading)

unfoldable pub ballot_of : ℕ → List ℕ → List ℕ → List ℕ → Result Line LineFault
ballot_of node member proposal answer =
    counted_number member >>= λ m. counted_number proposal >>= λ p.
    answer_of answer >>= λ agrees. Ok (lines.Ballot node m p agrees)

abbrev pub ballot_line : ℕ → List (List ℕ) → Result Line LineFault
ballot_line node (member ∷ proposal ∷ answer ∷ []) = ballot_of node member proposal answer
ballot_line node words = Err NoReading

unfoldable pub withdraw_of : ℕ → List ℕ → List ℕ → Result Line LineFault
withdraw_of node member proposal =
    counted_number member >>= λ m. counted_number proposal >>= λ p. Ok (lines.Withdraw node m p)

abbrev pub withdraw_line : ℕ → List (List ℕ) → Result Line LineFault
withdraw_line node (member ∷ proposal ∷ []) = withdraw_of node member proposal
withdraw_line node words = Err NoReading

unfoldable pub again_line : ℕ → List ℕ → Result Line LineFault
again_line node rest = counted_number rest >>= λ line. Ok (lines.Again node line)

-- Proposals

abbrev pub if_form : {A : Type 0} → Result A FormsFault → Result A LineFault
if_form (Ok a) = Ok a
if_form (Err fault) = Err NoReading

abbrev pub unless_unknown : Bool → List Action → Option (List Action)
unless_unknown unknown list = if unknown then None else Some list

-- The actions of a proposal's JSON, in which these nodes may be named; none where it names a node
-- that there isn't.
unfoldable pub actions_of : List (List ℕ) → List ℕ → Result (Option (List Action)) LineFault
actions_of ids json =
    if_form (tree_from json) >>= λ tree. if_form (proposal_in (with_ids ids tree)) >>= λ list.
    Ok (unless_unknown (names_unknown ids tree) list)

unfoldable pub propose_of : List (List ℕ) → ℕ → List ℕ → List ℕ → Result Line LineFault
propose_of ids node member json =
    counted_number member >>= λ m. actions_of ids json >>= λ list. Ok (lines.Propose node m list)

abbrev pub propose_cut : List (List ℕ) → ℕ → List ℕ → Option (List ℕ) → Result Line LineFault
propose_cut ids node member None = Err NoReading
propose_cut ids node member (Some json) = propose_of ids node member json

-- All that stands after the member's number is the JSON.
abbrev pub propose_line : List (List ℕ) → ℕ → List ℕ → Result Line LineFault
propose_line ids node rest = propose_cut ids node (cut space rest).prefix (cut space rest).suffix
