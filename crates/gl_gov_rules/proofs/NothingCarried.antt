-- A history of requests carries nothing in place of them, so that what is read of it is read off its
-- requests and changes alone.
use Rattle.std.proofs.Common.{◌≡◌, ℕ, List, [], ◌∷◌, ◌++◌, ◌||◌, find, option_map, refl, sym, ◌∙◌, ap, fold}
use Rattle.std.specs.List.{list_any, filter_map, flat_map}
use Rattle.std.specs.Option.{option_or}
use Rattle.gl_base.specs.Bytes.{same_bytes}
use Rattle.gl_vmaps.specs.LastWrite.{last_such}
use Rattle.gl_gov_rules.specs.declared.change.Recorded.{Recorded}
use Rattle.gl_gov_rules.specs.declared.request_facts.Mark.{Mark}
use Rattle.gl_gov_rules.specs.History.{Carried, History, nothing, no_history}
use Rattle.gl_gov_rules.specs.Members.{is_ack_by, is_acked_by, has_acked, is_by, is_signer, leaf_after_last, leaf_carried, next_leaf}
use Rattle.gl_gov_rules.specs.Nodes.{nodes_recorded, nodes, marks, is_marked, first_mark, mark}
use Rattle.gl_gov_rules.specs.Service.{given_in, given_after, share_after, last_clearing, shares_given, given}
use Rattle.gl_gov_rules.specs.Proposals.{proposal_in, proposals, answer_in, answers_of}
use Rattle.gl_gov_rules.specs.Changes.{with_request, history}
use Rattle.gl_gov_rules.proofs.HistoryIndex.{given_since}
use Rattle.gl_gov_rules.proofs.HistoryLists.{requests_of}

-- one request more leaves what is carried
pub carried_with : (h : History) (r : Recorded) → (with_request h r).carried ≡ h.carried
unfolding with_request
carried_with h r = refl

pub carried_onto : (h : History) (rs : List Recorded) → (fold with_request h rs).carried ≡ h.carried
carried_onto h [] = refl
carried_onto h (r ∷ rs) = carried_onto (with_request h r) rs ∙ carried_with h r

-- a history of requests carries nothing
pub nothing_carried : (rs : List Recorded) → (history rs).carried ≡ nothing
unfolding history
nothing_carried rs = carried_onto no_history rs

-- ---- what is read of a history that carries nothing

pub nodes_asked : (h : History) → h.carried ≡ nothing → nodes h ≡ flat_map (λ (r : Recorded). nodes_recorded r.seqno r.request) h.requests
unfolding nodes
nodes_asked h bare = ap (λ (c : Carried). c.nodes ++ flat_map (λ (r : Recorded). nodes_recorded r.seqno r.request) h.requests) bare

pub proposals_asked : (h : History) → h.carried ≡ nothing → proposals h ≡ filter_map (λ (r : Recorded). proposal_in r.seqno r.request) h.requests
unfolding proposals
proposals_asked h bare = ap (λ (c : Carried). c.proposals ++ filter_map (λ (r : Recorded). proposal_in r.seqno r.request) h.requests) bare

pub marked_asked : (h : History) (id : List ℕ) → h.carried ≡ nothing → is_marked h id ≡ list_any (λ (r : Recorded). marks id r.request) h.requests
unfolding is_marked
marked_asked h id bare = ap (λ (c : Carried). list_any (λ (m : Mark). same_bytes id m.id) c.marks || list_any (λ (r : Recorded). marks id r.request) h.requests) bare

pub mark_asked : (h : History) (id : List ℕ) → h.carried ≡ nothing →
    mark h id ≡ option_map (λ (r : Recorded). r.seqno) (find (λ (r : Recorded). marks id r.request) h.requests)
unfolding mark
mark_asked h id bare =
    ap (λ (c : Carried). option_or (first_mark id c.marks) (option_map (λ (r : Recorded). r.seqno) (find (λ (r : Recorded). marks id r.request) h.requests))) bare

pub acked_asked : (h : History) (number : ℕ) → h.carried ≡ nothing → has_acked h number ≡ list_any (λ (r : Recorded). is_ack_by number r.request) h.requests
unfolding has_acked
acked_asked h number bare = ap (λ (c : Carried). list_any (is_acked_by number) c.signed || list_any (λ (r : Recorded). is_ack_by number r.request) h.requests) bare

pub leaf_asked : (h : History) (number : ℕ) → h.carried ≡ nothing → next_leaf h number ≡ leaf_after_last 0 (last_such (λ (r : Recorded). is_by number r.request) h.requests)
unfolding next_leaf
leaf_asked h number bare =
    ap (λ (c : Carried). leaf_after_last (leaf_carried (find (is_signer number) c.signed)) (last_such (λ (r : Recorded). is_by number r.request) h.requests)) bare

pub shares_asked : (h : History) → h.carried ≡ nothing → shares_given h ≡ filter_map (share_after (last_clearing h)) h.requests
unfolding shares_given given
shares_asked h bare =
    ap (λ (c : Carried). filter_map (given_after (last_clearing h)) (c.shares ++ filter_map (λ (r : Recorded). given_in r.seqno r.request) h.requests)) bare ∙ sym (given_since (last_clearing h) h.requests)

pub answers_asked : (h : History) → h.carried ≡ nothing → answers_of h ≡ filter_map (λ (r : Recorded). answer_in r.request) h.requests
unfolding answers_of
answers_asked h bare = ap (λ (c : Carried). c.ballots ++ filter_map (λ (r : Recorded). answer_in r.request) h.requests) bare

-- ---- what is read of a history of requests

pub nodes_of_requests : (rs : List Recorded) → nodes (history rs) ≡ flat_map (λ (r : Recorded). nodes_recorded r.seqno r.request) rs
nodes_of_requests rs = nodes_asked (history rs) (nothing_carried rs) ∙ ap (λ (xs : List Recorded). flat_map (λ (r : Recorded). nodes_recorded r.seqno r.request) xs) (requests_of rs)

pub shares_of_requests : (rs : List Recorded) → shares_given (history rs) ≡ filter_map (share_after (last_clearing (history rs))) rs
shares_of_requests rs = shares_asked (history rs) (nothing_carried rs) ∙ ap (λ (xs : List Recorded). filter_map (share_after (last_clearing (history rs))) xs) (requests_of rs)
