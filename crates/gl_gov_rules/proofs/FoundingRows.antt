-- The rows of a founding alone, written out.
use Rattle.std.proofs.Common.{◌≡◌, ℕ, suc, List, [], ◌∷◌, ◌++◌, map, Some, true, false, refl, ◌∙◌, ap, ap₂, append-nil}
use Rattle.gl_vmaps.specs.Changes.{write_set}
use Rattle.gl_vmaps.specs.declared.write.Write.{Write}
use Rattle.gl_requests.specs.Encoding.{node_id}
use Rattle.gl_requests.specs.declared.genesis.NewMember.{NewMember}
use Rattle.gl_requests.specs.declared.genesis.NewNode.{NewNode}
use Rattle.gl_requests.specs.declared.genesis.Genesis as founding
use Rattle.gl_gov_rules.specs.declared.change.RecordedNode.{RecordedNode}
use Rattle.gl_gov_rules.specs.declared.refusal.MemberStatus.TheVariants as member_statuses
use Rattle.gl_gov_rules.specs.declared.refusal.NodeStatus.TheVariants as node_statuses
use Rattle.gl_gov_rules.specs.declared.row.ServiceRow.{ServiceRow}
use Rattle.gl_gov_rules.specs.declared.row.MemberRow.{MemberRow}
use Rattle.gl_gov_rules.specs.declared.row.NodeRow.{NodeRow}
use Rattle.gl_gov_rules.specs.Nodes.{recorded_node}
use Rattle.gl_gov_rules.specs.Changes.{first_rules}
use Rattle.gl_gov_rules.specs.Rows.{service_row, service_write, member_row, member_rows, member_write, node_row, node_rows_from, node_rows, node_write, proposal_writes, rule_writes_from, dealing_write, all_rows, rows}
use Rattle.gl_gov_rules.proofs.FoundingReadings.{founded, founding_identity, founding_constitution, founding_dealing, founding_state, founding_unrecovered, founding_shares, founding_proposals, founding_members, founding_member_status, founding_next_leaf, founding_nodes, founding_unretired, founding_node_status}

-- ---- the rows written out

-- a member is accepted, and has signed nothing
abbrev pub first_member_row : NewMember → MemberRow
first_member_row m = record { number = m.number; status = member_statuses.Accepted; key = m.key; next_leaf = 0 }

-- a node is trusted, and no entry took it out of service
abbrev pub first_node_row : ℕ → NewNode → NodeRow
first_node_row order n = record { id = node_id n; order = order; status = node_statuses.Trusted; key = n.key; endorsement = n.endorsement; removal = 0 }

abbrev pub first_node_writes : ℕ → List NewNode → List Write
first_node_writes order [] = []
first_node_writes order (n ∷ ns) = node_write (first_node_row order n) ∷ first_node_writes (suc order) ns

-- the service is in the state that the founding names, and was not recovered
abbrev pub first_service_row : founding.Genesis → ServiceRow
first_service_row g = record { state = g.state; is_recovered = false; identity = g.identity }

abbrev pub founding_writes : founding.Genesis → List Write
founding_writes g =
    rule_writes_from 1 first_rules ++ dealing_write g.dealing ∷ [] ++ map (λ (m : NewMember). member_write (first_member_row m)) g.members
    ++ first_node_writes 1 g.nodes ++ service_write (first_service_row g) ∷ []

-- ---- they are the rows of the founding

member_row_is : (g : founding.Genesis) (m : NewMember) → member_row (founded g) m ≡ first_member_row m
unfolding member_row
member_row_is g m = rw (founding_member_status g m.number, founding_next_leaf g m.number) refl

member_writes_are : (g : founding.Genesis) (ms : List NewMember) → map member_write (map (member_row (founded g)) ms) ≡ map (λ (m : NewMember). member_write (first_member_row m)) ms
member_writes_are g [] = refl
member_writes_are g (m ∷ ms) = ap₂ (λ (w : Write) (ws : List Write). w ∷ ws) (ap member_write (member_row_is g m)) (member_writes_are g ms)

founded_members : (g : founding.Genesis) → map member_write (member_rows (founded g)) ≡ map (λ (m : NewMember). member_write (first_member_row m)) g.members
unfolding member_rows
founded_members g = ap (λ (ms : List NewMember). map member_write (map (member_row (founded g)) ms)) (founding_members g) ∙ member_writes_are g g.members

node_row_is : (g : founding.Genesis) (order : ℕ) (n : NewNode) → node_row (founded g) order (recorded_node 1 true n) ≡ first_node_row order n
unfolding node_row
node_row_is g order n = rw (founding_node_status g n, founding_unretired g (recorded_node 1 true n)) refl

node_writes_are : (g : founding.Genesis) (order : ℕ) (ns : List NewNode) → map node_write (node_rows_from (founded g) order (map (recorded_node 1 true) ns)) ≡ first_node_writes order ns
node_writes_are g order [] = refl
node_writes_are g order (n ∷ ns) = ap₂ (λ (w : Write) (ws : List Write). w ∷ ws) (ap node_write (node_row_is g order n)) (node_writes_are g (suc order) ns)

founded_nodes : (g : founding.Genesis) → map node_write (node_rows (founded g)) ≡ first_node_writes 1 g.nodes
unfolding node_rows
founded_nodes g = ap (λ (ns : List RecordedNode). map node_write (node_rows_from (founded g) 1 ns)) (founding_nodes g) ∙ node_writes_are g 1 g.nodes

founded_service : (g : founding.Genesis) → service_row (founded g) ≡ Some (first_service_row g)
unfolding service_row
founded_service g = rw (founding_state g, founding_unrecovered g, founding_identity g) refl

founded_proposals : (g : founding.Genesis) → proposal_writes (founded g) ≡ []
unfolding proposal_writes
founded_proposals g = rw (founding_proposals g) refl

-- all rows of a founding alone
pub founding_rows : (g : founding.Genesis) → all_rows (founded g) ≡ founding_writes g
unfolding all_rows
founding_rows g =
    let prefix : List Write = rule_writes_from 1 first_rules ++ dealing_write g.dealing ∷ [] ++ map (λ (m : NewMember). member_write (first_member_row m)) g.members ++ first_node_writes 1 g.nodes in
    let service : List Write = service_write (first_service_row g) ∷ [] in
    rw (founding_constitution g, founding_dealing g, founded_members g, founded_nodes g, founded_proposals g, founded_service g, founding_shares g)
    (append-nil (prefix ++ [] ++ service) ∙ ap (λ (ws : List Write). ws ++ service) (append-nil prefix))

-- so its tables are those of these writes
pub founding_write_set : (g : founding.Genesis) → rows (founded g) ≡ write_set (founding_writes g)
unfolding rows
founding_write_set g = ap write_set (founding_rows g)
