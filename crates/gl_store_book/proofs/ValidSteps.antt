-- Whatever event comes, what stands up to a node's base stays, and no entry above it breaks a rule of
-- the audit.
use Rattle.std.proofs.Common.{◌≡◌, ℕ, ◌+◌, ◌-◌, ◌≤◌, List, [], ◌∷◌, ◌++◌, length, take, drop, min, Bool, true, false, ◌&&◌, ◌||◌, ◌==◌, nat_lt, nat_le, if◌then◌else◌, Option, None, Some, Result, Ok, Err, refl, sym, ap, subst, ◌∙◌, arith}
use Rattle.std.proofs.lemmas.Bool.Decides.{nat_tests}
use Rattle.gl_entry.specs.declared.entry.Entry.{Entry}
use Rattle.gl_rules.specs.Identity.{NodeId, same}
use Rattle.gl_rules.specs.Node.{Node, Role, Follower, Candidate, Leader}
use Rattle.gl_rules.specs.Message.{Position, Message, Body as Content, RequestVote, VoteReply, Append, AppendReply, ProposeVote}
use Rattle.gl_rules.specs.Outcome.{Outcome, Step}
use Rattle.gl_rules.specs.Outcome as outcome
use Rattle.gl_rules.specs.Log.{entry_at, is_signature_in, is_up_to_date, last_signature, last_signature_position, view_at}
use Rattle.gl_rules.specs.Configuration.{configurations_above}
use Rattle.gl_rules.specs.Steps.{as_leader, cut_to, enter_view, has_votes, if_leader, lead_if, lead_if_elected, update_view}
use Rattle.gl_rules.specs.Elections.{may_vote_for, may_campaign, become_candidate, campaign, last_view, timeout_as, timeout, reply_to_vote_request, on_request_vote, add_vote, count_votes, vote_reply_as, on_vote_reply, on_propose_vote}
use Rattle.gl_rules.specs.Replication.{accept_entries, append_reply, highest_possible_match, matching_prefix_len, checked_append, unless_broken as unless_refused, accept_or_refuse, merge_entries, merge_if_matching, become_follower, append_as, on_append, update_match, update_progress, append_reply_as, on_append_reply}
use Rattle.gl_rules.specs.Requests.{pending_limit, append_result, execute_request, submit, if_removal_committed, unless_mark_refused, if_markable, govern_as_leader, govern, reserve, append_signature, sign_as_leader, sign, append_evidence, evidence}
use Rattle.gl_rules.specs.World.{answer_as, undo_if_refused, on_message}
use Rattle.gl_rules.proofs.Ids.{by_test}
use Rattle.gl_tx.specs.declared.request.Operation.{Operation}
use Rattle.gl_requests.specs.declared.request.GovernanceRequest.{GovernanceRequest}
use Rattle.gl_messages.specs.declared.message.Body.{Body as MessageBody}
use Rattle.gl_messages.specs.declared.message.Body.TheVariants as bodies
use Rattle.gl_election.specs.Bridge.{message_to, seen_body}
use Rattle.gl_election.specs.Elections.{position}
use Rattle.gl_snapshot_body.specs.declared.body.Body.{Body}
use Rattle.gl_ledger.specs.Audit.{audited_over}
use Rattle.gl_ledger.specs.Broken.{broken, broken_from}
use Rattle.gl_ledger.specs.LedgerBook.{ServiceBook, by_rule, ledger_book}
use Rattle.gl_ledger.specs.Past.{last_signed, last_signed_over, past_of}
use Rattle.gl_ledger.specs.Makers.{guarded, unless_broken, unless_empty, request_result, govern_result, signing_result, evidence_result}
use Rattle.gl_ledger.specs.NodeKeys.{NodeKeys, service_layers}
use Rattle.gl_ledger.specs.declared.breach.Broken.{Broken}
use Rattle.gl_ledger.specs.declared.response.Response.{Response}
use Rattle.gl_ledger.specs.declared.response.Reads.{Reads}
use Rattle.gl_ledger.specs.declared.response.Rejection.{Rejection}
use Rattle.gl_ledger.proofs.Bases.{weaker_from}
use Rattle.gl_ledger_base.specs.Ledgers.{HoldsLedger}
use Rattle.gl_ledger_base.proofs.LedgersGrown.{held_more, valid_more}
use Rattle.gl_ledger_base.proofs.LedgersHeld.{held_broken, held_length}
use Rattle.gl_ledger_base.proofs.LedgersReads.{held_cut, read_signature, valid_cut}
use Rattle.gl_replication.specs.Events.{answer, rule_of}
use Rattle.gl_replication.specs.declared.event.Event.{Event}
use Rattle.gl_replication.specs.declared.event.Event.TheVariants as events
use Rattle.gl_node.specs.Changes.{IsAsKept}
use Rattle.gl_node.proofs.ElectionSteps.{step_down_kept, replicate_kept, advance_kept}

-- ---- what is made

unbroken_made : {X : Type 0} (entry_of : X → Entry) (made x : X) (o : Option Broken) → unless_broken o made ≡ Ok x → o ≡ None
unbroken_made entry_of made x None is = refl
unbroken_made entry_of made x (Some why) is = absurd (cc)

same_made : {X : Type 0} (made x : X) (o : Option Broken) → unless_broken o made ≡ Ok x → made ≡ x
same_made made x None is = cc
same_made made x (Some why) is = absurd (cc)

made_unbroken : {X : Type 0} (entry_of : X → Entry) (ledger : List Entry) (r : Result X Rejection) (x : X) → guarded service_layers entry_of ledger r ≡ Ok x → broken service_layers ledger (entry_of x) ≡ None
made_unbroken entry_of ledger (Err why) x is = absurd (cc)
made_unbroken entry_of ledger (Ok made) x is =
    ap (λ y. broken service_layers ledger (entry_of y)) (sym (same_made made x (broken service_layers ledger (entry_of made)) is))
    ∙ unbroken_made entry_of made x (broken service_layers ledger (entry_of made)) is

-- where not both are above, what is at or below both is at or below
at_least : (a b c k : ℕ) → (nat_lt a b && nat_lt a c) ≡ false → k ≤ b → k ≤ c → k ≤ a
at_least a b c k = go (nat_lt a b) refl (nat_lt a c) refl
  where
    go : (p : Bool) → nat_lt a b ≡ p → (q : Bool) → nat_lt a c ≡ q → (p && q) ≡ false → k ≤ b → k ≤ c → k ≤ a
    go true ep true eq is low high = absurd (cc)
    go true ep false eq is low high = let h : c ≤ a = grind (arith, nat_tests) in omega (arith, h, high)
    go false ep q eq is low high = let h : b ≤ a = grind (arith, nat_tests) in omega (arith, h, low)

module _ (body : Body) where
  -- The body tells of the entries of a ledger up to its base, and of those above none breaks a
  -- rule.
  pub record IsSound (ledger : List Entry) : Type 0 where
    pub entries : List Entry
    pub holds : HoldsLedger service_layers body entries ledger
    pub valid : audited_over service_layers body entries ≡ None

  pub sound_within : (ledger : List Entry) → IsSound ledger → body.base ≤ length ledger
  sound_within ledger s = let long = held_length service_layers body s.entries ledger s.holds in omega (arith, long)

  -- with one more entry
  more_sound : (ledger : List Entry) (e : Entry) → IsSound ledger → broken_from service_layers body.base ledger e ≡ None → IsSound (ledger ++ e ∷ [])
  more_sound ledger e s one = record {
    entries = s.entries ++ e ∷ [];
    holds = held_more service_layers body s.entries ledger s.holds (e ∷ []);
    valid = valid_more service_layers body s.entries e s.valid (held_broken service_layers body s.entries ledger s.holds s.valid e ∙ one);
  }

  made_sound : (ledger : List Entry) (e : Entry) → IsSound ledger → broken service_layers ledger e ≡ None → IsSound (ledger ++ e ∷ [])
  made_sound ledger e s one = more_sound ledger e s (weaker_from service_layers body.base ledger e one)

  -- cut from the base on
  cut_sound : (ledger : List Entry) (seqno : ℕ) → IsSound ledger → body.base ≤ seqno → IsSound (take seqno ledger)
  cut_sound ledger seqno s low = record {
    entries = take (seqno - body.base) s.entries;
    holds = held_cut service_layers body s.entries ledger s.holds seqno low;
    valid = valid_cut service_layers body s.entries (seqno - body.base) s.valid;
  }

  -- A node's ledger is so, with the body's base.
  pub record IsSoundNode (n : Node Entry) : Type 0 where
    pub base : n.base ≡ body.base
    pub ledger : IsSound n.log

  -- behind it the last signature is the one at the base, or a later one
  signed_over : (es : List Entry) → body.base ≤ last_signed_over body es
  signed_over es = go (last_signed es == 0)
    where
      go : (t : Bool) → body.base ≤ (if t then body.base else body.base + last_signed es)
      go true = omega arith
      go false = omega arith

  module _ (keys : NodeKeys) where
    abbrev book : ServiceBook
    book = ledger_book service_layers keys

    abbrev Sound : Step Entry Response Rejection → Type 0
    Sound step = IsSoundNode step.node

    -- its last signature stands at the base or above
    signed_low : (ledger : List Entry) → IsSound ledger → body.base ≤ last_signature book ledger
    signed_low ledger s =
        let is = read_signature service_layers body s.entries ledger s.holds keys in
        let low = signed_over s.entries in
        omega (arith, is, low)

    in_later_view : (view : ℕ) (n : Node Entry) → IsSoundNode n → IsSoundNode (enter_view book view n)
    unfolding enter_view
    in_later_view view n here = record { base = here.base; ledger = cut_sound n.log (last_signature book n.log) here.ledger (signed_low n.log here.ledger) }

    -- ---- elections

    leads : (n : Node Entry) → IsSoundNode n → IsSoundNode (lead_if_elected book n)
    unfolding lead_if_elected
    leads n here = go (has_votes book n)
      where
        go : (t : Bool) → IsSoundNode (lead_if book t n)
        go true = record { base = here.base; ledger = here.ledger }
        go false = here

    timed_out : (x : NodeId) (n : Node Entry) → IsSoundNode n → Sound (timeout book x n)
    unfolding timeout
    timed_out x n here = go n.role
      where
        stood : IsSoundNode (become_candidate book x n)
        stood = let later = in_later_view (n.view + 1) n here in record { base = later.base; ledger = later.ledger }

        allowed : (m l : Bool) → Sound (if m then (if l then outcome.refuse n outcome.ViewLimit else campaign book x (become_candidate book x n)) else outcome.idle n)
        allowed true true = here
        allowed true false = leads (become_candidate book x n) stood
        allowed false l = here

        go : (r : Role) → Sound (timeout_as book r x n)
        go Leader = here
        go Candidate = allowed (may_campaign book x n) (n.view == last_view)
        go Follower = allowed (may_campaign book x n) (n.view == last_view)

    asked : (x c : NodeId) (view : ℕ) (theirs : Position) (n : Node Entry) → IsSoundNode n → Sound (on_request_vote book x c view theirs n)
    unfolding on_request_vote
    asked x c view theirs n here =
        by_test Sound (nat_lt view n.view) (reply_to_vote_request book x c false n) (reply_to_vote_request book x c (may_vote_for n.vote c && is_up_to_date theirs (last_signature_position book n.log)) n) (λ t. here)
        (λ t. go (may_vote_for n.vote c && is_up_to_date theirs (last_signature_position book n.log)))
      where
        go : (m : Bool) → Sound (reply_to_vote_request book x c m n)
        go true = record { base = here.base; ledger = here.ledger }
        go false = here

    voted : (y : NodeId) (view : ℕ) (granted : Bool) (n : Node Entry) → IsSoundNode n → Sound (on_vote_reply book y view granted n)
    unfolding on_vote_reply
    voted y view granted n here = go n.role
      where
        counted : Sound (count_votes book (add_vote book y n))
        counted = leads (add_vote book y n) (record { base = here.base; ledger = here.ledger })

        go : (r : Role) → Sound (vote_reply_as book r y view granted n)
        go Leader = here
        go Follower = here
        go Candidate = by_test Sound (granted && (view == n.view)) (count_votes book (add_vote book y n)) (outcome.idle n) (λ t. counted) (λ t. here)

    answered : (y : NodeId) (view : ℕ) (ok : Bool) (seqno : ℕ) (n : Node Entry) → IsSoundNode n → Sound (on_append_reply book y view ok seqno n)
    unfolding on_append_reply
    answered y view ok seqno n here = go n.role
      where
        inner : (m : Bool) → Sound (update_progress book m y seqno n)
        inner true = by_test Sound (nat_le seqno (length n.log)) (outcome.quiet (update_match book y seqno n) outcome.Done) (outcome.idle n) (λ t. record { base = here.base; ledger = here.ledger }) (λ t. here)
        inner false = record { base = here.base; ledger = here.ledger }

        go : (r : Role) → Sound (append_reply_as book r y view ok seqno n)
        go Leader = by_test Sound (view == n.view) (update_progress book ok y seqno n) (outcome.idle n) (λ t. inner ok) (λ t. here)
        go Candidate = here
        go Follower = here

    proposed : (x : NodeId) (view : ℕ) (n : Node Entry) → IsSoundNode n → Sound (on_propose_vote book x view n)
    unfolding on_propose_vote
    proposed x view n here = by_test Sound (nat_lt view n.view) (outcome.idle n) (timeout book x n) (λ t. here) (λ t. timed_out x n here)

    reserved : (x : NodeId) (n : Node Entry) → IsSoundNode n → Sound (reserve book x n)
    unfolding reserve
    reserved x n here = by_test Sound (nat_le (book.leaves x) n.reserved) (outcome.refuse n (outcome.KeyExhausted n.reserved)) (outcome.quiet (record n { reserved = n.reserved + 1 }) outcome.Done) (λ t. here)
        (λ t. record { base = here.base; ledger = here.ledger })

    -- ---- requests

    led : (n : Node Entry) (step : Step Entry Response Rejection) → IsSoundNode n → Sound step → Sound (if_leader n step)
    led n step here made = go n.role
      where
        go : (r : Role) → Sound (as_leader r n step)
        go Leader = made
        go Candidate = here
        go Follower = here

    entered : (n : Node Entry) (m : Result (Entry × Response) Rejection) → ((made : Entry × Response) → m ≡ Ok made → broken service_layers n.log made.0 ≡ None) → IsSoundNode n → Sound (append_result book n m)
    entered n (Err why) unbroken here = here
    entered n (Ok made) unbroken here = record { base = here.base; ledger = made_sound n.log made.0 here.ledger (unbroken made refl) }

    submitted : (q : List Operation) (n : Node Entry) → IsSoundNode n → Sound (submit book q n)
    unfolding submit
    submitted q n here = led n (execute_request book q n) here
        (entered n (book.execute n.log n.view q) (λ made is. made_unbroken (λ (m : Entry × Response). m.0) n.log (request_result n.log n.view q) made is) here)

    abbrev governs : GovernanceRequest → Node Entry → Step Entry Response Rejection
    governs g n = append_result book n (book.govern n.log n.view g)

    governed : (g : GovernanceRequest) (n : Node Entry) → IsSoundNode n → Sound (govern book g n)
    unfolding govern
    governed g n here = led n (govern_as_leader book g n) here (go (nat_le pending_limit (length (configurations_above book n.log n.commit (length n.log)))) (book.marked_node g))
      where
        made : Sound (governs g n)
        made = entered n (book.govern n.log n.view g) (λ m is. made_unbroken (λ (m : Entry × Response). m.0) n.log (govern_result n.log n.view g) m is) here

        late : (removal : Option ℕ) → Sound (if_removal_committed book removal n (governs g n))
        late None = made
        late (Some seqno) = by_test Sound (nat_lt n.commit seqno) (outcome.refuse n (outcome.RemovalNotCommitted seqno n.commit)) (governs g n) (λ t. here) (λ t. made)

        marked : (y : NodeId) (why : Option Rejection) → Sound (unless_mark_refused book why y n (governs g n))
        marked y (Some why) = here
        marked y None = late (book.removal n.log y)

        go : (full : Bool) (y : Option NodeId) → Sound (if full then outcome.refuse n (outcome.TooManyPending pending_limit) else if_markable book y n (governs g n))
        go true y = here
        go false None = made
        go false (Some y) = marked y (book.mark_refusal n.log y)

    unbroken_signature : (x : NodeId) (leaf : ℕ) (ledger : List Entry) (view commit : ℕ) (e : Entry) → book.sign x leaf ledger view commit ≡ Ok e → broken service_layers ledger e ≡ None
    unbroken_signature x leaf ledger view commit e is = made_unbroken (λ (m : Entry). m) ledger (unless_empty ledger (signing_result keys x leaf ledger view commit)) e is

    signed : (x : NodeId) (n : Node Entry) → IsSoundNode n → Sound (sign book x n)
    unfolding sign
    signed x n here = led n (sign_as_leader book x n) here
        (go (n.used == n.reserved) (is_signature_in book n.view (entry_at n.log (length n.log))) (book.sign x n.used n.log n.view n.commit) (unbroken_signature x n.used n.log n.view n.commit))
      where
        go : (p q : Bool) (m : Result Entry Rejection) → ((e : Entry) → m ≡ Ok e → broken service_layers n.log e ≡ None) →
            Sound (if p then outcome.refuse n (outcome.NotReserved n.reserved) else (if q then outcome.refuse n (outcome.NothingToSign (length n.log)) else append_signature book n m))
        go true q m unbroken = here
        go false true m unbroken = here
        go false false (Err why) unbroken = here
        go false false (Ok e) unbroken = record { base = here.base; ledger = made_sound n.log e here.ledger (unbroken e refl) }

    evident : (n : Node Entry) → IsSoundNode n → Sound (evidence book n)
    unfolding evidence
    evident n here = led n (append_evidence book n (book.evidence n.log n.view)) here
        (go (book.evidence n.log n.view) (λ e is. made_unbroken (λ (m : Entry). m) n.log (evidence_result (past_of n.log) n.view) e is))
      where
        go : (m : Result Entry Rejection) → ((e : Entry) → m ≡ Ok e → broken service_layers n.log e ≡ None) → Sound (append_evidence book n m)
        go (Err why) unbroken = here
        go (Ok e) unbroken = record { base = here.base; ledger = made_sound n.log e here.ledger (unbroken e refl) }

    -- ---- a leader's entries

    appended : (ledger es new : List Entry) → checked_append book body.base ledger es ≡ Ok new → IsSound ledger → IsSound new
    unfolding checked_append
    appended ledger [] new is here = let same : ledger ≡ new = cc in subst IsSound same here
    appended ledger (e ∷ es) new is here = go (broken_from service_layers body.base ledger e) refl is (appended (ledger ++ e ∷ []) es new)
      where
        go : (o : Option Broken) → broken_from service_layers body.base ledger e ≡ o → unless_refused book (by_rule o) (checked_append book body.base (ledger ++ e ∷ []) es) ≡ Ok new →
            (checked_append book body.base (ledger ++ e ∷ []) es ≡ Ok new → IsSound (ledger ++ e ∷ []) → IsSound new) → IsSound new
        go None none made again = again made (more_sound ledger e here none)
        go (Some why) some made again = absurd (cc)

    taken : (before : Node Entry) (x y : NodeId) (seqno theirs : ℕ) (n : Node Entry) (m : Result (List Entry) Rejection) → ((new : List Entry) → m ≡ Ok new → IsSound new) → n.base ≡ body.base → IsSoundNode before →
        Sound (accept_or_refuse book before x y seqno theirs n m)
    taken before x y seqno theirs n (Err why) sound base here = here
    taken before x y seqno theirs n (Ok log) sound base here = record { base = base; ledger = sound log refl }

    merged : (x y : NodeId) (prev : Position) (es : List Entry) (theirs : ℕ) (n : Node Entry) → body.base ≤ n.commit → IsSoundNode n → Sound (merge_if_matching book x y prev es theirs n)
    merged x y prev es theirs n above here = go ((prev.seqno == 0) || (nat_le prev.seqno (length n.log) && (view_at book n.log prev.seqno == prev.view)))
      where
        inner : (held : ℕ) (p q : Bool) → (nat_lt (prev.seqno + held) (length n.log) && nat_lt (prev.seqno + held) n.commit) ≡ q →
            Sound (if p then accept_entries book x y (prev.seqno + length es) theirs n else (if q then outcome.refuse n (outcome.BelowCommit n.commit (prev.seqno + held))
            else accept_or_refuse book n x y (prev.seqno + length es) theirs (cut_to (prev.seqno + held) n) (checked_append book n.base (take (prev.seqno + held) n.log) (drop held es))))
        inner held true q is = record { base = here.base; ledger = here.ledger }
        inner held false true is = here
        inner held false false is = taken n x y (prev.seqno + length es) theirs (cut_to (prev.seqno + held) n) (checked_append book n.base (take (prev.seqno + held) n.log) (drop held es))
            (λ new made.
            appended (take (prev.seqno + held) n.log) (drop held es) new (ap (λ (base : ℕ). checked_append book base (take (prev.seqno + held) n.log) (drop held es)) (sym here.base) ∙ made)
            (cut_sound n.log (prev.seqno + held) here.ledger (at_least (prev.seqno + held) (length n.log) n.commit body.base is (sound_within n.log here.ledger) above)))
            here.base here

        go : (m : Bool) → Sound (if m then merge_entries book x y prev.seqno es (matching_prefix_len book (drop prev.seqno n.log) es) theirs n
            else record { node = n; sent = append_reply book x y false (highest_possible_match book n.log prev.view (min (prev.seqno - 1) (length n.log))) n; outcome = outcome.Done })
        go true =
            let held = matching_prefix_len book (drop prev.seqno n.log) es in
            inner held (held == length es) (nat_lt (prev.seqno + held) (length n.log) && nat_lt (prev.seqno + held) n.commit) refl
        go false = here

    appends : (x y : NodeId) (view : ℕ) (prev : Position) (es : List Entry) (theirs : ℕ) (n : Node Entry) → body.base ≤ n.commit → IsSoundNode n → Sound (on_append book x y view prev es theirs n)
    unfolding on_append
    appends x y view prev es theirs n above here =
        by_test Sound (nat_lt view n.view) (record { node = n; sent = append_reply book x y false 0 n; outcome = outcome.Done }) (append_as book n.role x y prev es theirs n) (λ t. here) (λ t. go n.role)
      where
        follower : IsSoundNode (become_follower book y n)
        follower = record { base = here.base; ledger = here.ledger }

        go : (r : Role) → Sound (append_as book r x y prev es theirs n)
        go Leader = here
        go Candidate = merged x y prev es theirs (become_follower book y n) above follower
        go Follower = merged x y prev es theirs (become_follower book y n) above follower

    -- ---- messages

    undone : (n : Node Entry) (w : Outcome Response Rejection) (step : Step Entry Response Rejection) → IsSoundNode n → Sound step → Sound (undo_if_refused w n step)
    undone n (outcome.Refused why) step here made = here
    undone n outcome.Done step here made = made
    undone n outcome.Idle step here made = made
    undone n outcome.BecameCandidate step here made = made
    undone n outcome.BecameLeader step here made = made
    undone n (outcome.Accepted v s a) step here made = made
    undone n (outcome.Signed v s) step here made = made
    undone n (outcome.Committed v s) step here made = made

    later_above : (view : ℕ) (n : Node Entry) → body.base ≤ n.commit → body.base ≤ (enter_view book view n).commit
    unfolding enter_view
    later_above view n above = above

    -- an answer in a view that isn't below the node's
    by_view : (m : Message Entry) (n : Node Entry) → body.base ≤ n.commit → IsSoundNode n → ((k : Node Entry) → body.base ≤ k.commit → IsSoundNode k → Sound (answer_as book m.body m.receiver m.sender m.view k)) →
        Sound (on_message book m n)
    unfolding on_message
    by_view m n above here answers =
        undone n (answer_as book m.body m.receiver m.sender m.view (update_view book m.view n)).outcome (answer_as book m.body m.receiver m.sender m.view (update_view book m.view n)) here
        (by_test (λ k. Sound (answer_as book m.body m.receiver m.sender m.view k)) (nat_lt n.view m.view) (enter_view book m.view n) n
        (λ t. answers (enter_view book m.view n) (later_above m.view n above) (in_later_view m.view n here))
        (λ t. answers n above here))

    abbrev to : NodeId → NodeId → ℕ → Content Entry → Message Entry
    to x y view content = record { sender = y; receiver = x; view = view; body = content }

    heard : (x y : NodeId) (view : ℕ) (message : MessageBody) (n : Node Entry) → body.base ≤ n.commit → IsSoundNode n → Sound (on_message book (message_to x y view (seen_body message)) n)
    heard x y view (bodies.RequestVote last) n above here = by_view (to x y view (RequestVote (position last))) n above here (λ k up sound. asked x y view (position last) k sound)
    heard x y view (bodies.VoteReply granted) n above here = by_view (to x y view (VoteReply granted)) n above here (λ k up sound. voted y view granted k sound)
    heard x y view (bodies.Append prev commit es) n above here = by_view (to x y view (Append (position prev) es commit)) n above here (λ k up sound. appends x y view (position prev) es commit k up sound)
    heard x y view (bodies.AppendReply ok seqno) n above here = by_view (to x y view (AppendReply ok seqno)) n above here (λ k up sound. answered y view ok seqno k sound)
    heard x y view bodies.ProposeVote n above here = by_view (to x y view ProposeVote) n above here (λ k up sound. proposed x view k sound)

    -- ---- each event

    kept : (n m : Node Entry) → IsSoundNode n → IsAsKept n m → IsSoundNode m
    kept n m here k = record { base = k.base ∙ here.base; ledger = subst IsSound (sym k.log) here.ledger }

    pub step_sound : {S : Type 0} (x : NodeId) (e : Event S (List Operation) GovernanceRequest Reads Response Rejection) (n : Node Entry) → body.base ≤ n.commit → IsSoundNode n → IsSoundNode (rule_of e book x n).node
    step_sound x events.Timeout n above here = timed_out x n here
    step_sound x (events.Message m) n above here = by_test Sound (same m.to x) (answer m book x n) (outcome.idle n) (λ t. heard x m.from m.view m.body n above here) (λ t. here)
    step_sound x (events.Submit q) n above here = submitted q n here
    step_sound x (events.Govern g) n above here = governed g n here
    step_sound x events.Reserve n above here = reserved x n here
    step_sound x events.Sign n above here = signed x n here
    step_sound x events.Evidence n above here = evident n here
    step_sound x (events.Replicate y) n above here = kept n _ here (replicate_kept book x y n)
    step_sound x events.Advance n above here = kept n _ here (advance_kept book x n)
    step_sound x (events.StepDown y) n above here = kept n _ here (step_down_kept book x y n)
