-- Counting the ballots on a proposal, and whether they settle it.
use Rattle.std.specs.Prelude.{ℕ, ◌*◌, ◌-◌, List, Option, None, Some, Bool, true, false, ◌&&◌, not, count_by, slice_get, nat_lt}
use Rattle.std.specs.List.{list_any, list_all}
use Rattle.gl_requests.specs.Encoding.{action_number}
use Rattle.gl_requests.specs.declared.genesis.NewMember.{NewMember}
use Rattle.gl_requests.specs.declared.action.Rule.{Rule}
use Rattle.gl_requests.specs.declared.action.Action.{Action}
use Rattle.gl_gov_rules.specs.declared.change.Tally.{Tally}
use Rattle.gl_gov_rules.specs.History.{History, Answered}
use Rattle.gl_gov_rules.specs.Members.{members, is_active, active_count}
use Rattle.gl_gov_rules.specs.Service.{constitution}
use Rattle.gl_gov_rules.specs.Proposals.{has_answered}

-- How many of the members who are active gave this answer among these answers.
unfoldable pub answer_count : History → List Answered → List ℕ → Bool → ℕ
answer_count h given id agrees =
    count_by (λ (m : NewMember). is_active h m.number && has_answered given id agrees m.number)
    (members h)

-- The ballots on a proposal among these answers, counted again over the members who are active.
abbrev pub tally : History → List Answered → List ℕ → Tally
tally h given id = record {
  all = active_count h;
  agreed = answer_count h given id true;
  refused = answer_count h given id false;
}

-- The rule of an action under a constitution.
abbrev pub rule_of : Option (List Rule) → ℕ → Option Rule
rule_of None number = None
rule_of (Some rules) number = slice_get rules (number - 1)

-- More than the fraction of the active members agreed.
abbrev pub is_met : Tally → Option Rule → Bool
is_met t None = false
is_met t (Some r) = nat_lt (r.num * t.all) (t.agreed * r.den)

-- So many refused that the others are no more than the fraction.
abbrev pub is_out_of_reach : Tally → Option Rule → Bool
is_out_of_reach t None = false
is_out_of_reach t (Some r) = not (nat_lt (r.num * t.all) ((t.all - t.refused) * r.den))

-- A proposal is accepted where the rule of each of its actions is met.
unfoldable pub is_accepted : History → Tally → List Action → Bool
is_accepted h t list = list_all (λ a. is_met t (rule_of (constitution h) (action_number a))) list

-- It is rejected where the rule of one can't be met any more.
unfoldable pub is_rejected : History → Tally → List Action → Bool
is_rejected h t list =
    list_any (λ a. is_out_of_reach t (rule_of (constitution h) (action_number a))) list
