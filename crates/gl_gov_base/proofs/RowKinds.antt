-- The kinds of rows of governance: what is read of a write to a map of each kind.
use Rattle.std.proofs.Common.{ℕ, List, Option, Some, None, Bool, true, ◌&&◌, nat_le, cond}
use Rattle.std.specs.Option.{option_map}
use Rattle.std.specs.Result.{result_ok}
use Rattle.gl_base.specs.Bytes.{same_bytes}
use Rattle.gl_base.specs.Code.{whole}
use Rattle.gl_vmaps.specs.declared.write.Write.{Write}
use Rattle.gl_shares.specs.declared.share.Share.{Share}
use Rattle.gl_requests.specs.Parsing.{rule_at, dealing_at, digest_at}
use Rattle.gl_requests.specs.declared.genesis.Dealing.{Dealing}
use Rattle.gl_requests.specs.declared.action.Rule.{Rule}
use Rattle.gl_gov_rules.specs.declared.row.ServiceRow.{ServiceRow}
use Rattle.gl_gov_rules.specs.declared.row.MemberRow.{MemberRow}
use Rattle.gl_gov_rules.specs.declared.row.NodeRow.{NodeRow}
use Rattle.gl_gov_rules.specs.declared.row.ProposalRow.{ProposalRow}
use Rattle.gl_gov_rules.specs.Rows.{service_map, service_key, members_map, nodes_map, proposals_map, constitution_map, dealing_map, dealing_key, shares_map}
use Rattle.gl_gov_rules.specs.declared.row.ProposalAt.{ProposalAt}
use Rattle.gl_gov_rules.specs.declared.row.RuleAt.{RuleAt}
use Rattle.gl_gov_rules.specs.GovernedRows.{service_row_at, member_row_at, node_row_at, proposal_row_at, first_byte, is_one_byte}

abbrev pub valued : {Y : Type 0} → (List ℕ → Option Y) → Option (List ℕ) → Option Y
valued read None = None
valued read (Some v) = read v

-- what a write to a map sets, read by its key and its value
abbrev pub kind_in : {Y : Type 0} → List ℕ → (List ℕ → Bool) → (List ℕ → List ℕ → Option Y) → Write → Option Y
kind_in name ok read w = cond (same_bytes w.map name && ok w.key) (valued (read w.key) w.value) None

abbrev pub is_service_key : List ℕ → Bool
is_service_key key = same_bytes key service_key

abbrev pub is_dealing_key : List ℕ → Bool
is_dealing_key key = same_bytes key dealing_key

abbrev pub is_rule_key : List ℕ → Bool
is_rule_key key = is_one_byte key && nat_le (first_byte key) 7

abbrev pub any_key : List ℕ → Bool
any_key key = true

abbrev pub proposal_with : List ℕ → ProposalRow → ProposalAt
proposal_with key p = record { id = key; row = p }

abbrev pub rule_with : List ℕ → Rule → RuleAt
rule_with key r = record { number = first_byte key; rule = r }

abbrev pub share_with : List ℕ → List ℕ → Share
share_with key value = record { member = first_byte key; value = value }

abbrev pub read_service : List ℕ → List ℕ → Option ServiceRow
read_service key v = result_ok (whole service_row_at v)

abbrev pub read_member : List ℕ → List ℕ → Option MemberRow
read_member key v = result_ok (whole (member_row_at (first_byte key)) v)

abbrev pub read_node : List ℕ → List ℕ → Option NodeRow
read_node key v = result_ok (whole (node_row_at key) v)

abbrev pub read_proposal : List ℕ → List ℕ → Option ProposalAt
read_proposal key v = option_map (proposal_with key) (result_ok (whole proposal_row_at v))

abbrev pub read_rule : List ℕ → List ℕ → Option RuleAt
read_rule key v = option_map (rule_with key) (result_ok (whole rule_at v))

abbrev pub read_dealing : List ℕ → List ℕ → Option Dealing
read_dealing key v = result_ok (whole dealing_at v)

abbrev pub read_share : List ℕ → List ℕ → Option Share
read_share key v = option_map (share_with key) (result_ok (whole digest_at v))

abbrev pub service_of : Write → Option ServiceRow
service_of w = kind_in service_map is_service_key read_service w

abbrev pub member_of : Write → Option MemberRow
member_of w = kind_in members_map is_one_byte read_member w

abbrev pub node_of : Write → Option NodeRow
node_of w = kind_in nodes_map any_key read_node w

abbrev pub proposal_of : Write → Option ProposalAt
proposal_of w = kind_in proposals_map any_key read_proposal w

abbrev pub rule_of : Write → Option RuleAt
rule_of w = kind_in constitution_map is_rule_key read_rule w

abbrev pub dealing_of : Write → Option Dealing
dealing_of w = kind_in dealing_map is_dealing_key read_dealing w

abbrev pub share_of : Write → Option Share
share_of w = kind_in shares_map is_one_byte read_share w
