-- The two lists of a history: its requests are those it is of, its changes have the seqnos of
-- requests, and one request more adds to the changes and to the nodes.
use Rattle.std.proofs.Common.{◌≡◌, ℕ, ◌<◌, List, [], ◌∷◌, ◌++◌, map, fold, sym, ◌∙◌, ap, subst, append-nil, append_assoc}
use Rattle.std.specs.List.{flat_map, AllByRecursion}
use Rattle.std.proofs.lemmas.Grind.{flat_map-append}
use Rattle.gl_base.proofs.Lists.{push-append}
use Rattle.gl_gov_rules.specs.declared.change.Recorded.{Recorded}
use Rattle.gl_gov_rules.specs.declared.change.RecordedNode.{RecordedNode}
use Rattle.gl_gov_rules.specs.declared.change.Change.{Change}
use Rattle.gl_gov_rules.specs.declared.change.Changed.{Changed}
use Rattle.gl_gov_rules.specs.History.{History, no_history}
use Rattle.gl_gov_rules.specs.Nodes.{nodes_recorded, nodes}
use Rattle.gl_gov_rules.specs.Changes.{changes_of, changed_at, with_request, history}
use Rattle.gl_gov_rules.specs.Governed.{IsAbove}
use Rattle.gl_gov_rules.proofs.Counting.{each_append}
use Rattle.gl_gov_rules.proofs.Prefixes.{history-more, requests_with, changes_with}

-- ---- requests

pub requests_onto : (h : History) (rs : List Recorded) → (fold with_request h rs).requests ≡ h.requests ++ rs
requests_onto h [] = sym (append-nil h.requests)
requests_onto h (r ∷ rs) =
    requests_onto (with_request h r) rs ∙ ap (λ (xs : List Recorded). xs ++ rs) (requests_with h r) ∙ push-append h.requests r rs

-- the requests of a history are those that it is the history of
pub requests_of : (rs : List Recorded) → (history rs).requests ≡ rs
unfolding history
requests_of rs = requests_onto no_history rs

-- ---- changes

-- the changes have seqnos below this one
abbrev pub AreBelow : ℕ → List Changed → Type 0
AreBelow n cs = AllByRecursion (λ (c : Changed). c.seqno < n) cs

pub below_at : (n seqno : ℕ) (cs : List Change) → seqno < n → AreBelow n (map (changed_at seqno) cs)
below_at n seqno [] low = tt
below_at n seqno (c ∷ cs) low = (low, below_at n seqno cs low)

pub below_onto : (n : ℕ) (h : History) (rs : List Recorded) → AreBelow n h.changes → IsAbove n rs → AreBelow n (fold with_request h rs).changes
below_onto n h [] old above = old
below_onto n h (r ∷ rs) old above =
    let both = each_append (λ (c : Changed). c.seqno < n) h.changes (map (changed_at r.seqno) (changes_of h r)) old (below_at n r.seqno (changes_of h r) above.0) in
    below_onto n (with_request h r) rs (subst (AreBelow n) (sym (changes_with h r)) both) above.1

-- a seqno that is above those of the requests is above those of the changes
pub changes_below : (n : ℕ) (rs : List Recorded) → IsAbove n rs → AreBelow n (history rs).changes
unfolding history
changes_below n rs above = below_onto n no_history rs tt above

-- ---- nodes

pub nodes_after : (h : History) (r : Recorded) → nodes (with_request h r) ≡ nodes h ++ nodes_recorded r.seqno r.request
unfolding nodes with_request
nodes_after h r =
    let f : Recorded → List RecordedNode = λ (x : Recorded). nodes_recorded x.seqno x.request in
    ap (λ (ns : List RecordedNode). h.carried.nodes ++ ns)
    (flat_map-append f h.requests (r ∷ []) ∙ ap (λ (ns : List RecordedNode). flat_map f h.requests ++ ns) (append-nil (nodes_recorded r.seqno r.request)))
    ∙ sym (append_assoc h.carried.nodes (flat_map f h.requests) (nodes_recorded r.seqno r.request))

-- one request more records its nodes after all others
pub nodes_more : (rs : List Recorded) (r : Recorded) → nodes (history (rs ++ r ∷ [])) ≡ nodes (history rs) ++ nodes_recorded r.seqno r.request
nodes_more rs r = ap nodes (history-more rs r) ∙ nodes_after (history rs) r
