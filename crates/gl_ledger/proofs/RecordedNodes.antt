-- The nodes that a ledger records: their identifiers are digests, and a recorded node stays
-- recorded.
use Rattle.std.proofs.Common.{◌≡◌, ℕ, suc, List, [], ◌∷◌, ◌++◌, map, Bool, true, false, ◌||◌, refl, sym, ◌∙◌, ap, append_assoc}
use Rattle.std.specs.List.{list_all, list_any, flat_map}
use Rattle.std.proofs.lemmas.Bool.{and_parts, and_from}
use Rattle.std.proofs.lemmas.Grind.{flat_map-append}
use Rattle.gl_base.specs.Bytes.{same_bytes, is_digest}
use Rattle.gl_rules.specs.Identity.{NodeId, same, member}
use Rattle.gl_rules.proofs.Ids.{same_is}
use Rattle.gl_entry.specs.declared.entry.Entry.{Entry}
use Rattle.gl_requests.specs.Encoding.{node_id}
use Rattle.gl_requests.specs.declared.genesis.NewNode.{NewNode}
use Rattle.gl_requests.specs.declared.request.GovernanceRequest.{GovernanceRequest}
use Rattle.gl_requests.specs.declared.request.GovernanceRequest.TheVariants as requests
use Rattle.gl_gov_rules.specs.declared.change.Recorded.{Recorded}
use Rattle.gl_gov_rules.specs.declared.change.RecordedNode.{RecordedNode}
use Rattle.gl_gov_rules.specs.Changes.{history}
use Rattle.gl_gov_rules.specs.Nodes.{recorded_node, nodes_recorded, nodes}
use Rattle.gl_gov_rules.proofs.NothingCarried.{nodes_of_requests}
use Rattle.gl_gov_rules.proofs.Statuses.{trusted_recorded}
use Rattle.gl_ledger.specs.Recordings.{recorded_in, requests_from, requests_of, recorded_nodes, trusted_nodes}
use Rattle.gl_gov_rules.proofs.Digests.{sha256_digest}

-- ---- identifiers

-- the identifiers of nodes
abbrev pub ids : List RecordedNode → List NodeId
ids ns = map (λ (n : RecordedNode). n.id) ns

-- the identifiers of the nodes that requests record
abbrev pub ids_of : List Recorded → List NodeId
ids_of rs = ids (flat_map (λ (r : Recorded). nodes_recorded r.seqno r.request) rs)

-- the nodes that a ledger records are those of its requests
pub recorded_are : (es : List Entry) → recorded_nodes es ≡ ids_of (requests_of es)
unfolding recorded_nodes
recorded_are es = ap ids (nodes_of_requests (requests_of es))

-- those of two lists, one after the other
ids_both : (xs ys : List RecordedNode) → ids (xs ++ ys) ≡ ids xs ++ ids ys
ids_both [] ys = refl
ids_both (x ∷ xs) ys = ap (λ (zs : List NodeId). x.id ∷ zs) (ids_both xs ys)

ids_append : (rs ts : List Recorded) → ids_of (rs ++ ts) ≡ ids_of rs ++ ids_of ts
ids_append rs ts =
    let f : Recorded → List RecordedNode = λ (r : Recorded). nodes_recorded r.seqno r.request in
    ap ids (flat_map-append f rs ts) ∙ ids_both (flat_map f rs) (flat_map f ts)

-- ---- digests

-- those of new nodes are digests
pub named_digests : (ns : List NewNode) → list_all is_digest (map node_id ns) ≡ true
named_digests [] = refl
named_digests (n ∷ ns) = and_from (is_digest (node_id n)) (list_all is_digest (map node_id ns)) (sha256_digest n.key) (named_digests ns)

-- so are those of the nodes that a request records
each_digest : (seqno : ℕ) (founding : Bool) (ns : List NewNode) → list_all is_digest (ids (map (recorded_node seqno founding) ns)) ≡ true
each_digest seqno founding [] = refl
each_digest seqno founding (n ∷ ns) =
    and_from (is_digest (node_id n)) (list_all is_digest (ids (map (recorded_node seqno founding) ns))) (sha256_digest n.key) (each_digest seqno founding ns)

request_digests : (seqno : ℕ) (g : GovernanceRequest) → list_all is_digest (ids (nodes_recorded seqno g)) ≡ true
request_digests seqno (requests.Genesis g) = each_digest seqno true g.nodes
request_digests seqno (requests.Recover r) = each_digest seqno true r.nodes
request_digests seqno (requests.Join n) = and_from (is_digest (node_id n)) true (sha256_digest n.key) refl
request_digests seqno (requests.Mark y) = refl
request_digests seqno (requests.Member m) = refl

-- and those that a list of requests records
digests_both : (xs ys : List RecordedNode) → list_all is_digest (ids xs) ≡ true → list_all is_digest (ids ys) ≡ true → list_all is_digest (ids (xs ++ ys)) ≡ true
digests_both [] ys a b = b
digests_both (x ∷ xs) ys a b =
    let p = and_parts (is_digest x.id) (list_all is_digest (ids xs)) a in and_from (is_digest x.id) (list_all is_digest (ids (xs ++ ys))) p.0 (digests_both xs ys p.1 b)

digests_of : (rs : List Recorded) → list_all is_digest (ids_of rs) ≡ true
digests_of [] = refl
digests_of (r ∷ rs) =
    digests_both (nodes_recorded r.seqno r.request) (flat_map (λ (q : Recorded). nodes_recorded q.seqno q.request) rs) (request_digests r.seqno r.request) (digests_of rs)

-- a node among digests is one
pub among : (x : NodeId) (ys : List NodeId) → list_all is_digest ys ≡ true → member x ys ≡ true → is_digest x ≡ true
among x [] all h = absurd (cc)
among x (y ∷ ys) all h = go (same x y) refl h (among x ys)
  where
    go : (t : Bool) → same x y ≡ t → (t || member x ys) ≡ true → (list_all is_digest ys ≡ true → member x ys ≡ true → is_digest x ≡ true) → is_digest x ≡ true
    go true is w again = ap is_digest (same_is x y is) ∙ (and_parts (is_digest y) (list_all is_digest ys) all).0
    go false is w again = again (and_parts (is_digest y) (list_all is_digest ys) all).1 w

-- the identifier of a recorded node is a digest
pub recorded_digest : (x : NodeId) (es : List Entry) → member x (recorded_nodes es) ≡ true → is_digest x ≡ true
recorded_digest x es h = among x (ids_of (requests_of es)) (digests_of (requests_of es)) (sym (ap (member x) (recorded_are es)) ∙ h)

-- ---- members of lists

-- the two ways to ask whether a node is in a list
pub member_is : (x : NodeId) (ys : List NodeId) → member x ys ≡ list_any (same_bytes x) ys
unfolding same
member_is x [] = refl
member_is x (y ∷ ys) = ap (λ (b : Bool). same_bytes x y || b) (member_is x ys)

-- a node in a list is in a longer one
member_left : (x : NodeId) (ys zs : List NodeId) → member x ys ≡ true → member x (ys ++ zs) ≡ true
member_left x [] zs h = absurd (cc)
member_left x (y ∷ ys) zs h = go (same x y) h (member_left x ys zs)
  where
    go : (t : Bool) → (t || member x ys) ≡ true → (member x ys ≡ true → member x (ys ++ zs) ≡ true) → (t || member x (ys ++ zs)) ≡ true
    go true h again = refl
    go false h again = again h

-- ---- longer ledgers

-- a longer ledger records more requests after the same
requests_append : (seqno : ℕ) (es fs : List Entry) → (rs : List Recorded) × (requests_from seqno (es ++ fs) ≡ requests_from seqno es ++ rs)
requests_append seqno [] fs = (requests_from seqno fs, refl)
requests_append seqno (e ∷ es) fs =
    let r = requests_append (suc seqno) es fs in
    (r.0, ap (λ (rs : List Recorded). recorded_in seqno e.content ++ rs) r.1 ∙ sym (append_assoc (recorded_in seqno e.content) (requests_from (suc seqno) es) r.0))

-- a recorded node stays recorded
pub stays_recorded : (x : NodeId) (es fs : List Entry) → member x (recorded_nodes es) ≡ true → member x (recorded_nodes (es ++ fs)) ≡ true
stays_recorded x es fs h =
    let r = requests_append 1 es fs in
    ap (member x) (recorded_are (es ++ fs) ∙ ap ids_of r.1 ∙ ids_append (requests_of es) r.0)
    ∙ member_left x (ids_of (requests_of es)) (ids_of r.0) (sym (ap (member x) (recorded_are es)) ∙ h)

-- a trusted node is recorded
pub trusted_is_recorded : (x : NodeId) (es : List Entry) → member x (trusted_nodes es) ≡ true → member x (recorded_nodes es) ≡ true
unfolding trusted_nodes recorded_nodes
trusted_is_recorded x es h =
    member_is x (ids (nodes (history (requests_of es))))
    ∙ trusted_recorded (history (requests_of es)) x (sym (member_is x (trusted_nodes es)) ∙ h)
