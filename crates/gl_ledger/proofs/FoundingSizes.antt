-- The entry of an accepted genesis is small: how many bytes its request and its writes have.
use Rattle.std.proofs.Common.{◌≡◌, ℕ, suc, ◌+◌, ◌*◌, ◌≤◌, List, [], ◌∷◌, ◌++◌, length, map, None, true, refl, ◌∙◌, ap, arith, length-append}
use Rattle.std.specs.List.{flat_map, list_all, AllByRecursion}
use Rattle.std.specs.declared.cmp.Ordering.{Ordering}
use Rattle.std.specs.declared.cmp.Ordering.TheVariants.{Less, Equal, Greater}
use Rattle.std.proofs.lemmas.Bool.{and_parts}
use Rattle.std.proofs.lemmas.Grind.{flat_map-append}
use Rattle.sha2.proofs.Facts256.{length-sha256}
use Rattle.gl_base.specs.LittleEndian.{little_endian}
use Rattle.gl_base.proofs.LittleEndianLaws.{length-little_endian}
use Rattle.gl_vmaps.specs.Writes.{write_order, with_write, put_before}
use Rattle.gl_vmaps.specs.Changes.{row, set_from}
use Rattle.gl_vmaps.specs.declared.write.Write.{Write}
use Rattle.gl_entry.specs.Entry.{write_bytes}
use Rattle.gl_requests.specs.Encoding.{state_byte, node_bytes, member_bytes, share_bytes, counted_bytes, dealing_bytes, request_bytes}
use Rattle.gl_requests.specs.Ranges.{is_node, is_member, is_share, is_genesis}
use Rattle.gl_requests.specs.declared.genesis.NewNode.{NewNode}
use Rattle.gl_requests.specs.declared.genesis.NewMember.{NewMember}
use Rattle.gl_requests.specs.declared.genesis.ShareDigest.{ShareDigest}
use Rattle.gl_requests.specs.declared.genesis.Dealing.{Dealing}
use Rattle.gl_requests.specs.declared.genesis.Genesis as founding
use Rattle.gl_requests.specs.declared.request.GovernanceRequest.TheVariants as requests
use Rattle.gl_gov_rules.specs.History.{no_history}
use Rattle.gl_gov_rules.specs.Changes.{first_rules}
use Rattle.gl_gov_rules.specs.Refusals.{genesis_refusal}
use Rattle.gl_gov_rules.specs.Rows.{service_map, service_key, service_write, member_write, node_write, rule_writes_from, dealing_map, dealing_key, dealing_write, rows}
use Rattle.gl_gov_rules.proofs.FoundingReadings.{founded}
use Rattle.gl_gov_rules.proofs.FoundingRows.{first_member_row, first_node_row, first_node_writes, first_service_row, founding_writes, founding_write_set}
use Rattle.gl_gov_rules.proofs.FoundingAccepted.{AcceptedParts, accepted_parts}
use Rattle.gl_gov_rules.proofs.FoundingFields.{node_key_length, member_key_length, share_digest_length, Fields, fields_of}

-- ---- write sets

-- how many bytes writes have
abbrev pub size : List Write → ℕ
size ws = length (flat_map write_bytes ws)

size-append : (xs ys : List Write) → size (xs ++ ys) ≡ size xs + size ys
size-append xs ys = ap length (flat_map-append write_bytes xs ys) ∙ length-append (flat_map write_bytes xs) (flat_map write_bytes ys)

size-cons : (w : Write) (ws : List Write) → size (w ∷ ws) ≡ length (write_bytes w) + size ws
size-cons w ws = length-append (write_bytes w) (flat_map write_bytes ws)

put_size : (o : Ordering) (w x : Write) (xs rest : List Write) → size rest ≤ size xs + length (write_bytes w) →
    size (put_before o w x xs rest) ≤ size (x ∷ xs) + length (write_bytes w)
put_size Less w x xs rest h = let a = size-cons w (x ∷ xs) in omega arith
put_size Equal w x xs rest h = let a = size-cons w xs in let b = size-cons x xs in omega arith
put_size Greater w x xs rest h = let a = size-cons x rest in let b = size-cons x xs in omega arith

with_write_size : (ws : List Write) (w : Write) → size (with_write ws w) ≤ size ws + length (write_bytes w)
with_write_size [] w = let a = size-cons w [] in omega arith
with_write_size (x ∷ xs) w = put_size (write_order w x) w x xs (with_write xs w) (with_write_size xs w)

-- writes put one by one take no more bytes than they have
pub set_from_size : (set ws : List Write) → size (set_from set ws) ≤ size set + size ws
set_from_size set [] = omega arith
set_from_size set (w ∷ ws) =
    let a = size-cons w ws in
    let b = with_write_size set w in
    let c = set_from_size (with_write set w) ws in
    omega arith

-- ---- the parts of the request, and their rows

pub length-row : (table key value : List ℕ) → length (write_bytes (row table key value)) ≡ 8 + length table + length key + length value
length-row table key value = simp (length-append, length-little_endian) (omega arith)

rules_size : size (rule_writes_from 1 first_rules) ≡ 280
unfolding little_endian
rules_size = refl

member_size : (m : NewMember) → length m.key ≡ 60 → (length (member_bytes m) ≡ 61) × (length (write_bytes (member_write (first_member_row m))) ≡ 96)
member_size m key = (omega (arith, key), simp (length-append, length-little_endian) (omega (arith, key)))

-- the writes of members
abbrev pub first_member_writes : List NewMember → List Write
first_member_writes ms = map (λ (m : NewMember). member_write (first_member_row m)) ms

members_size : (ms : List NewMember) → list_all is_member ms ≡ true → (length (flat_map member_bytes ms) ≡ length ms * 61) × (size (first_member_writes ms) ≡ length ms * 96)
members_size [] all = (omega arith, omega arith)
members_size (m ∷ ms) all =
    let both = and_parts (is_member m) (list_all is_member ms) all in
    let one = member_size m (member_key_length m both.0) in
    let rest = members_size ms both.1 in
    let bytes = length-append (member_bytes m) (flat_map member_bytes ms) in
    let rows = size-cons (member_write (first_member_row m)) (first_member_writes ms) in
    (omega (arith, one.0, rest.0), omega (arith, one.1, rest.1))

shares_size : (ss : List ShareDigest) → list_all is_share ss ≡ true → length (flat_map share_bytes ss) ≡ length ss * 33
shares_size [] all = omega arith
shares_size (s ∷ ss) all =
    let both = and_parts (is_share s) (list_all is_share ss) all in
    let digest = share_digest_length s both.0 in
    let rest = shares_size ss both.1 in
    let bytes = length-append (share_bytes s) (flat_map share_bytes ss) in
    omega arith

node_size : (n : NewNode) (order : ℕ) → length n.key ≡ 56 → length n.endorsement ≤ 2508 → (length (node_bytes n) ≤ 2568) × (length (write_bytes (node_write (first_node_row order n))) ≤ 2639)
node_size n order key short =
    let id = length-sha256 n.key in
    (simp (length-append, length-little_endian) (omega (arith, key, short)), simp (length-append, length-little_endian) (omega (arith, key, short, id)))

nodes_size : (ns : List NewNode) (order : ℕ) → list_all is_node ns ≡ true → AllByRecursion (λ (n : NewNode). length n.endorsement ≤ 2508) ns →
    (length (flat_map node_bytes ns) ≤ length ns * 2568) × (size (first_node_writes order ns) ≤ length ns * 2639)
nodes_size [] order all short = (omega arith, omega arith)
nodes_size (n ∷ ns) order all short =
    let both = and_parts (is_node n) (list_all is_node ns) all in
    let one = node_size n order (node_key_length n both.0) short.0 in
    let rest = nodes_size ns (suc order) both.1 short.1 in
    let bytes = length-append (node_bytes n) (flat_map node_bytes ns) in
    let rows = size-cons (node_write (first_node_row order n)) (first_node_writes (suc order) ns) in
    (omega (arith, one.0, rest.0), omega (arith, one.1, rest.1))

dealing_size : (d : Dealing) → length (dealing_bytes d) ≡ 2 + length d.secret_digest + length (flat_map share_bytes d.shares)
dealing_size d = simp (length-append, length-little_endian) (omega arith)

-- ---- the whole request and all rows

request_size : (g : founding.Genesis) →
    length (request_bytes (requests.Genesis g)) ≡ 4 + length g.identity + length (flat_map node_bytes g.nodes) + length (flat_map member_bytes g.members) + length (dealing_bytes g.dealing)
request_size g = go (dealing_bytes g.dealing)
  where
    go : (rest : List ℕ) → length ((1 ∷ state_byte g.state ∷ g.identity) ++ counted_bytes node_bytes g.nodes ++ counted_bytes member_bytes g.members ++ rest)
        ≡ 4 + length g.identity + length (flat_map node_bytes g.nodes) + length (flat_map member_bytes g.members) + length rest
    go rest = simp (length-append, length-little_endian) (omega arith)

service_size : (g : founding.Genesis) → length (write_bytes (service_write (first_service_row g))) ≡ 33 + length g.identity
service_size g = let all = length-row service_map service_key (state_byte g.state ∷ 0 ∷ g.identity) in omega arith

rows_size : (g : founding.Genesis) →
    size (founding_writes g) ≡ 344 + length (dealing_bytes g.dealing) + size (first_member_writes g.members) + size (first_node_writes 1 g.nodes) + length g.identity
rows_size g =
    let rules : List Write = rule_writes_from 1 first_rules in
    let dealing : Write = dealing_write g.dealing in
    let members : List Write = first_member_writes g.members in
    let nodes : List Write = first_node_writes 1 g.nodes in
    let service : Write = service_write (first_service_row g) in
    let a = size-append (rules ++ dealing ∷ [] ++ members ++ nodes) (service ∷ []) in
    let b = size-append (rules ++ dealing ∷ [] ++ members) nodes in
    let c = size-append (rules ++ dealing ∷ []) members in
    let d = size-append rules (dealing ∷ []) in
    let e = size-cons dealing [] in
    let f = size-cons service [] in
    let one = rules_size in
    let dealt = length-row dealing_map dealing_key (dealing_bytes g.dealing) in
    let last = service_size g in
    omega arith

-- ---- an accepted genesis

-- what the parts of an accepted genesis take
record Sizes (g : founding.Genesis) : Type 0 where
  node_bytes_few : length (flat_map node_bytes g.nodes) ≤ length g.nodes * 2568
  node_rows_few : size (first_node_writes 1 g.nodes) ≤ length g.nodes * 2639
  member_bytes_few : length (flat_map member_bytes g.members) ≡ length g.members * 61
  member_rows_few : size (first_member_writes g.members) ≡ length g.members * 96
  share_bytes_few : length (flat_map share_bytes g.dealing.shares) ≡ length g.dealing.shares * 33

sizes_of : (g : founding.Genesis) → Fields g → AcceptedParts g → Sizes g
sizes_of g f parts =
    let some_nodes = nodes_size g.nodes 1 f.nodes parts.short in
    let some_members = members_size g.members f.members in
    record {
      node_bytes_few = some_nodes.0;
      node_rows_few = some_nodes.1;
      member_bytes_few = some_members.0;
      member_rows_few = some_members.1;
      share_bytes_few = shares_size g.dealing.shares f.shares;
    }

-- the writes of a founding alone are no longer than its rows
writes_size : (g : founding.Genesis) → size (rows (founded g)) ≤ size (founding_writes g)
writes_size g = rw (founding_write_set g) (omega (arith, set_from_size [] (founding_writes g)))

-- the entry of an accepted genesis is within the limit of a body
pub small : (g : founding.Genesis) → is_genesis g ≡ true → genesis_refusal no_history g ≡ None →
    21 + length (request_bytes (requests.Genesis g)) + length (flat_map write_bytes (rows (founded g))) + 32 ≤ 1048576
small g fits accepted =
    let f = fields_of g fits in
    let parts = accepted_parts g accepted in
    let sizes = sizes_of g f parts in
    let asked = request_size g in
    let dealt = dealing_size g.dealing in
    let rows = rows_size g in
    let set = writes_size g in
    omega (arith, f.identity, f.secret, f.few_shares, parts.few_nodes, parts.few_members, sizes.node_bytes_few, sizes.node_rows_few, sizes.member_bytes_few, sizes.member_rows_few, sizes.share_bytes_few)
