-- The lines that are read keep to what lines keep to.
use Rattle.std.proofs.Common.{◌≡◌, ℕ, suc, Bool, true, false, List, [], ◌∷◌, length, codes, Option, None, Some, Result, Ok, Err, IfSome, subst}
use Rattle.std.specs.List.{AllByRecursion}
use Rattle.serde_json.specs.Data.{Data}
use Rattle.gl_base.specs.TxId.{parsed}
use Rattle.gl_base.specs.declared.json.FormsFault.{FormsFault}
use Rattle.gl_base.specs.declared.tx_id.TxId.{TxId}
use Rattle.gl_base.specs.declared.tx_id.TxIdFault.{TxIdFault}
use Rattle.gl_tx.specs.Request.{is_count}
use Rattle.gl_tx.specs.declared.request.Operation.{Operation}
use Rattle.gl_requests.specs.declared.action.Action.{Action}
use Rattle.gl_forms.specs.Form.{object_at}
use Rattle.gl_forms.specs.Requests.{proposal_in}
use Rattle.gl_forms.specs.Text.{tree_from}
use Rattle.gl_forms.proofs.FitLemmas.{Fits, gives, fails, suffix, after_any, either}
use Rattle.gl_forms.proofs.FitForms.{actions_fit}
use Rattle.gl_lines.specs.declared.fault.LineFault.{LineFault}
use Rattle.gl_lines.specs.declared.line.Line.{Line}
use Rattle.gl_lines.specs.Kept.{AreProposed, IsFit}
use Rattle.gl_lines.specs.Lines.{cut}
use Rattle.gl_lines.specs.Words.{space, words_of, is}
use Rattle.gl_lines.specs.Numbers.{counted_number}
use Rattle.gl_lines.specs.Operations.{operations_of}
use Rattle.gl_lines.specs.References.{with_ids, names_unknown}
use Rattle.gl_lines.specs.MemberLines.{ack_line, answer_of, ballot_of, ballot_line, withdraw_of, withdraw_line, again_line, if_form, unless_unknown, actions_of, propose_of, propose_cut}
use Rattle.gl_lines.specs.Parsing.{short_line, pair_line, request_of, if_parsed, member_line, node_line, call_line, deliver_line, command_line, line_of, or_line, lines_read}

-- ---- proposals

form_fits : {A : Type 0} {P : A → Type 0} {r : Result A FormsFault} → Fits P r → Fits P (if_form r)
form_fits {r = Ok a} h = gives h.holds
form_fits {r = Err fault} h = fails

proposal_fits : (value : Data) → Fits AreProposed (proposal_in value)
unfolding proposal_in
proposal_fits value = after_any (object_at [] (codes "actions" ∷ []) value) (λ only. actions_fit value)

abbrev IsExpected : Option (List Action) → Type 0
IsExpected list = IfSome list AreProposed

unless : (unknown : Bool) (list : List Action) → AreProposed list → IsExpected (unless_unknown unknown list)
unless true list are = tt
unless false list are = are

actions_are : (ids : List (List ℕ)) (json : List ℕ) → Fits IsExpected (actions_of ids json)
unfolding actions_of
actions_are ids json =
    after_any (if_form (tree_from json)) (λ tree.
    suffix (form_fits (proposal_fits (with_ids ids tree))) (λ list fit.
    gives (unless (names_unknown ids tree) list fit)))

-- ---- lines

abbrev FitLine : Result Line LineFault → Type 0
FitLine r = Fits IsFit r

propose_cut_fits : (ids : List (List ℕ)) (node : ℕ) (member : List ℕ) (json : Option (List ℕ)) → FitLine (propose_cut ids node member json)
unfolding propose_of
propose_cut_fits ids node member None = fails
propose_cut_fits ids node member (Some json) =
    after_any (counted_number member) (λ m. suffix (actions_are ids json) (λ list are. gives are))

ballot_fits : (node : ℕ) (words : List (List ℕ)) → FitLine (ballot_line node words)
unfolding ballot_of
ballot_fits node [] = fails
ballot_fits node (a ∷ []) = fails
ballot_fits node (a ∷ b ∷ []) = fails
ballot_fits node (member ∷ proposal ∷ answer ∷ []) =
    after_any (counted_number member) (λ m. after_any (counted_number proposal) (λ p. after_any (answer_of answer) (λ agrees. gives tt)))
ballot_fits node (a ∷ b ∷ c ∷ d ∷ words) = fails

withdraw_fits : (node : ℕ) (words : List (List ℕ)) → FitLine (withdraw_line node words)
unfolding withdraw_of
withdraw_fits node [] = fails
withdraw_fits node (a ∷ []) = fails
withdraw_fits node (member ∷ proposal ∷ []) = after_any (counted_number member) (λ m. after_any (counted_number proposal) (λ p. gives tt))
withdraw_fits node (a ∷ b ∷ c ∷ words) = fails

pair_fits : (name : List ℕ) (node other : ℕ) → FitLine (pair_line name node other)
pair_fits name node other =
    either (is name (codes "join")) (gives tt)
    (either (is name (codes "mark")) (gives tt)
    (either (is name (codes "replicate")) (gives tt)
    (either (is name (codes "stepdown")) (gives tt)
    (either (is name (codes "install")) (gives tt)
    (either (is name (codes "stage")) (gives tt) fails)))))

member_fits : (ids : List (List ℕ)) (name : List ℕ) (node : ℕ) (rest : List ℕ) → FitLine (member_line ids name node rest)
unfolding ack_line again_line
member_fits ids name node rest =
    either (is name (codes "ack")) (after_any (counted_number rest) (λ m. gives tt))
    (either (is name (codes "propose")) (propose_cut_fits ids node (cut space rest).prefix (cut space rest).suffix)
    (either (is name (codes "ballot")) (ballot_fits node (words_of rest))
    (either (is name (codes "withdraw")) (withdraw_fits node (words_of rest))
    (either (is name (codes "again")) (after_any (counted_number rest) (λ line. gives tt))
    (after_any (counted_number rest) (pair_fits name node))))))

request_fits : (node : ℕ) (all : List Operation) → FitLine (request_of node all)
request_fits node all = either (is_count (length all)) (gives tt) fails

status_fits : (node : ℕ) (id : Result TxId TxIdFault) → FitLine (if_parsed node id)
status_fits node (Ok id) = gives tt
status_fits node (Err fault) = fails

short_fits : (name : List ℕ) (node : ℕ) → FitLine (short_line name node)
short_fits name node =
    either (is name (codes "timeout")) (gives tt)
    (either (is name (codes "reserve")) (gives tt)
    (either (is name (codes "sign")) (gives tt)
    (either (is name (codes "evidence")) (gives tt)
    (either (is name (codes "advance")) (gives tt)
    (either (is name (codes "restart")) (gives tt)
    (either (is name (codes "ids")) (gives tt)
    (either (is name (codes "ledger")) (gives tt) fails)))))))

node_fits : (ids : List (List ℕ)) (name : List ℕ) (node : ℕ) (rest : Option (List ℕ)) → FitLine (node_line ids name node rest)
unfolding node_line
node_fits ids name node None = short_fits name node
node_fits ids name node (Some rest) =
    either (is name (codes "submit")) (after_any (operations_of (words_of rest)) (request_fits node))
    (either (is name (codes "status")) (status_fits node (parsed rest)) (member_fits ids name node rest))

call_fits : (ids : List (List ℕ)) (name text : List ℕ) → FitLine (call_line ids name text)
unfolding call_line
call_fits ids name text = after_any (counted_number (cut space text).prefix) (λ node. node_fits ids name node (cut space text).suffix)

command_fits : (ids : List (List ℕ)) (name : List ℕ) (text : Option (List ℕ)) → FitLine (command_line ids name text)
unfolding deliver_line
command_fits ids name None = fails
command_fits ids name (Some text) =
    either (is name (codes "deliver")) (after_any (counted_number text) (λ message. gives tt)) (call_fits ids name text)

line_fits : (ids : List (List ℕ)) (line : List ℕ) → FitLine (line_of ids line)
unfolding line_of
line_fits ids line = command_fits ids (cut space line).prefix (cut space line).suffix

-- ---- schedules

abbrev FitLines : List Line → Type 0
FitLines lines = AllByRecursion IsFit lines

at_line : (number : ℕ) (r : Result Line LineFault) → FitLine r → Fits IsFit (or_line number r)
at_line number (Ok line) h = gives h.holds
at_line number (Err fault) h = fails

all_fit : (ids : List (List ℕ)) (number : ℕ) (lines : List (List ℕ)) (open_after : Bool) → Fits FitLines (lines_read ids number lines open_after)
unfolding lines_read
all_fit ids number [] open_after = either open_after fails (gives tt)
all_fit ids number (line ∷ lines) open_after =
    suffix (at_line number (line_of ids line) (line_fits ids line)) (λ first is_fit.
    suffix (all_fit ids (suc number) lines open_after) (λ rest are. gives (is_fit, are)))

-- lines that are read
pub lines_fit : (ids : List (List ℕ)) (number : ℕ) (lines : List (List ℕ)) (open_after : Bool) (all : List Line) → lines_read ids number lines open_after ≡ Ok all → AllByRecursion IsFit all
lines_fit ids number lines open_after all read = (subst (Fits FitLines) read (all_fit ids number lines open_after)).holds
