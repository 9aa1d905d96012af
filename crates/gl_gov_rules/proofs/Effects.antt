-- The rows of a history are in order, each with a value; the write set of a request turns the
-- tables of those before it into those with it, and that of the first is its rows.
use Rattle.std.proofs.Common.{◌≡◌, List, [], ◌∷◌, ◌++◌, true, refl, ◌∙◌, ap}
use Rattle.gl_vmaps.specs.declared.write.Write.{Write}
use Rattle.gl_vmaps.specs.Writes.{is_ordered}
use Rattle.gl_vmaps.specs.Changes.{Turns, are_rows, changes_listed, changes}
use Rattle.gl_vmaps.proofs.WriteSets.{is_ordered-set_from}
use Rattle.gl_vmaps.proofs.Changes.{changes_turn, changes_from_none}
use Rattle.gl_gov_rules.specs.declared.change.Recorded.{Recorded}
use Rattle.gl_gov_rules.specs.Members.{members}
use Rattle.gl_gov_rules.specs.Nodes.{nodes}
use Rattle.gl_gov_rules.specs.Service.{constitution, dealing, identity, service_state, given, shares_given}
use Rattle.gl_gov_rules.specs.Proposals.{proposals}
use Rattle.gl_gov_rules.specs.Changes.{history}
use Rattle.gl_gov_rules.specs.Rows.{all_rows, rows, effect, effect_writes, member_rows, node_rows, proposal_writes, service_row}
use Rattle.gl_gov_rules.proofs.RowsSet.{are_rows_rows}

-- the rows of requests are in order, and each has a value
pub rows_are_rows : (rs : List Recorded) → are_rows (rows (history rs)) ≡ true
rows_are_rows rs = are_rows_rows (history rs)

-- the write set of a request turns the tables of those before it into those with it
pub effect_turns : (rs : List Recorded) (r : Recorded) → Turns (effect_writes rs r) (effect rs) (effect (rs ++ r ∷ []))
effect_turns rs r = changes_turn (rows (history rs)) (rows (history (rs ++ r ∷ []))) (rows_are_rows rs) (rows_are_rows (rs ++ r ∷ []))

-- it is in order
pub effect_ordered : (rs : List Recorded) (r : Recorded) → is_ordered (effect_writes rs r) ≡ true
effect_ordered rs r = is_ordered-set_from [] (changes_listed (rows (history rs)) (rows (history (rs ++ r ∷ [])))) refl

-- no requests have no rows
pub no_rows : rows (history []) ≡ []
unfolding history rows all_rows constitution dealing member_rows members node_rows nodes proposal_writes proposals service_row service_state identity shares_given given
no_rows = refl

-- the write set of the first request is its rows
pub first_effect : (r : Recorded) → effect_writes [] r ≡ rows (history (r ∷ []))
first_effect r =
    ap (λ (before : List Write). changes before (rows (history (r ∷ [])))) no_rows
    ∙ changes_from_none (rows (history (r ∷ []))) (rows_are_rows (r ∷ []))
