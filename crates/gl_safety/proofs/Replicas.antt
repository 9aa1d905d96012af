-- Events of replication, each as a composition of small steps.
use Rattle.std.proofs.Common.{◌≡◌, ◌≢◌, inl, inr, max, ⊎_elim, ℕ, zero, suc, ◌+◌, ◌-◌, ◌≤◌, ◌<◌, min, List, [], ◌∷◌, ◌++◌, length, take, drop, Bool, true, false, ◌&&◌, ◌||◌, ◌==◌, nat_lt, nat_le, if◌then◌else◌, Option, Some, None, Result, Ok, Err, slice_get, refl, sym, ap, ◌∙◌, subst, arith}
use Rattle.std.proofs.lemmas.Bool.{cases_eq, cases_lt}
use Rattle.std.proofs.lemmas.Bool.Decides.{nat_tests}
use Rattle.gl_rules.specs.Identity.{NodeId}
use Rattle.gl_rules.specs.Book.{Book}
use Rattle.gl_rules.specs.Node.{Node, Role, Follower, Candidate, Leader}
use Rattle.gl_rules.specs.Message.{Position, Append, AppendReply}
use Rattle.gl_rules.specs.Log.{view_at}
use Rattle.gl_rules.specs.Steps.{cut_to}
use Rattle.gl_rules.specs.World.{Start}
use Rattle.gl_rules.specs.Safety.{IsOpening, IsLawful, EachFollows}
use Rattle.gl_rules.proofs.Ids.{by_test, id_tests}
use Rattle.gl_rules.proofs.Lists.{Same, there, within, take_get, drop_get, get_left}
use Rattle.gl_safety.proofs.Story.{Story, at_view, reported_committed, grows_committed}
use Rattle.gl_safety.proofs.Facts.{Segment, agree}
use Rattle.gl_safety.proofs.Certificates.{Sured, Tale}
use Rattle.gl_safety.proofs.Signatures.{view_at_is}
use Rattle.gl_safety.proofs.Invariants.{Good, BodySent, Reached, made_same}
use Rattle.gl_rules.specs.Outcome.{Step, Done, quiet, refuse, idle, NotPeer, BelowBase, BelowCommit}
use Rattle.gl_rules.specs.Replication.{next_of, is_peer, append_message, send_append, replicate, append_reply, matching_prefix_len, checked_append, highest_possible_match, accept_entries, accept_or_refuse, merge_entries, merge_if_matching, become_follower, append_as, on_append, update_match, lower_next, update_progress, append_reply_as, on_append_reply, may_commit, greatest_to_commit, commit_to, advance, restart, snapshot_of, with_snapshot, install_snapshot, install}
use Rattle.gl_safety.proofs.Batches.{in_batch}
use Rattle.gl_safety.proofs.Merging.{Merged, merged_all, merged_new, merged_follows, applied_is}
use Rattle.gl_safety.proofs.Following.{good_follow, good_restart, made_accept}
use Rattle.gl_safety.proofs.Leading.{good_acknowledged, good_sent_back, committed_tale, committed_good, good_commit}
use Rattle.gl_safety.proofs.Installing.{good_install}
use Rattle.gl_safety.proofs.Voters.{By, stay, reached_leader}

module _ {E Q G R A F : Type 0} {b : Book E Q G R A F} {s : Start E} (o : IsOpening b (EachFollows b) s) (la : IsLawful b (EachFollows b)) where
  view_of_some : (l : List E) (j : ℕ) → 0 < view_at b l (suc j) → (e : E) × (slice_get l j ≡ Some e) × (b.view_of e ≡ view_at b l (suc j))
  view_of_some l j h = go (slice_get l j) refl
    where
      go : (m : Option E) → slice_get l j ≡ m → (e : E) × (slice_get l j ≡ Some e) × (b.view_of e ≡ view_at b l (suc j))
      go (Some e) d = (e, d, sym (view_at_is b l j e d))
      go None d = absurd (grind arith)

  pub reached_replicate : (x y : NodeId) (g : Story E) (n : Node E) → Tale o g → Good o g x n → By o la x g (replicate b x y n)
  unfolding replicate
  reached_replicate x y g n t z = reached_leader o la x g n (if is_peer b x y n then send_append b x y (next_of b n y - 1) n else refuse n NotPeer) t z
      (λ r. by_test (By o la x g) (is_peer b x y n) (send_append b x y (next_of b n y - 1) n) (refuse n NotPeer)
      (λ d. by_test (By o la x g) (nat_lt (next_of b n y - 1) n.base) (refuse n (BelowBase n.base)) (record { node = n; sent = append_message b x y (next_of b n y - 1) n ∷ []; outcome = Done })
      (λ e. stay o la x g n t z)
      (λ e. out r (next_of b n y - 1)))
      (λ d. stay o la x g n t z))
    where
      out : n.role ≡ Leader → (suffix : ℕ) → Reached o x g n (append_message b x y suffix n ∷ [])
      out r suffix = (
        g,
        made_same o x g n (append_message b x y suffix n ∷ []) t z (
          (
            record {
              items = λ i k e d a. ap (λ l. slice_get l k) (sym mine) ∙ sym (drop_get suffix n.log i k d) ∙ in_batch b (drop suffix n.log) i e a;
              prev = λ j d h.
                  let w = view_of_some n.log j (let q = ap (view_at b n.log) d in omega arith) in
                  (w.0, ap (λ l. slice_get l j) (sym mine) ∙ w.1, w.2 ∙ sym (ap (view_at b n.log) d));
            },
            subst (λ (l : List E). Sured o g l n.commit n.view) mine (z.commits.ruled r),
          ),
          tt,
        ),
      )
        where
          mine : n.log ≡ g.led n.view
          mine = z.logged.mine (z.voter.chief_is r)

  -- entries from the leader of this view
  module _ (x y : NodeId) (g : Story E) (n : Node E) (prev : Position) (es : List E) (theirs : ℕ) (t : Tale o g) (z : Good o g x n) (follows : n.role ≡ Follower)
      (segment : Segment b (g.led n.view) prev es) (sure_c : Sured o g (g.led n.view) theirs n.view) where
    answer_no : (seqno : ℕ) → Reached o x g n (append_reply b x y false seqno n)
    answer_no seqno = (g, made_same o x g n (append_reply b x y false seqno n) t z (tt, tt))

    module _ (short : prev.seqno ≤ length n.log) (prefix : Same prev.seqno n.log (g.led n.view)) where
      reached_takes : matching_prefix_len b (drop prev.seqno n.log) es ≡ length es → By o la x g (accept_entries b x y (prev.seqno + length es) theirs n)
      reached_takes h = made_accept o x g n n.log (prev.seqno + length es) theirs n.cuts t z follows
          (merged_all b g.led n.log (g.led n.view) es prev.seqno z.logged.matches (t.matches n.view) short prefix segment.items h)
          (λ j f d a. a) z.sound sure_c y

      reached_extended : (k : ℕ) → k ≡ prev.seqno + matching_prefix_len b (drop prev.seqno n.log) es → matching_prefix_len b (drop prev.seqno n.log) es ≢ length es → (nat_lt k (length n.log) && nat_lt k n.commit) ≡ false →
          (m : Result (List E) F) → checked_append b n.base (take k n.log) (drop (matching_prefix_len b (drop prev.seqno n.log) es) es) ≡ m → By o la x g (accept_or_refuse b n x y (prev.seqno + length es) theirs (cut_to k n) m)
      reached_extended k d h safe (Err why) a = stay o la x g n t z
      reached_extended k d h safe (Ok log) a =
          let w = applied_is b n.base (take k n.log) (drop (matching_prefix_len b (drop prev.seqno n.log) es) es) log a in
          let taken : Merged b n.log (g.led n.view) (prev.seqno + length es) log = subst (Merged b n.log (g.led n.view) (prev.seqno + length es)) (ap (λ i. take i n.log ++ drop (matching_prefix_len b (drop prev.seqno n.log) es) es) (sym d) ∙ sym w)
          (merged_new b g.led n.log (g.led n.view) es prev.seqno z.logged.matches (t.matches n.view) short prefix segment.items h) in
          made_accept o x g n log (prev.seqno + length es) theirs (cut_to k n).cuts t z follows taken
          (λ j f i c. ⊎_elim
          (λ (q : j < k). ap (λ l. slice_get l j) w ∙ get_left (take k n.log) (drop (matching_prefix_len b (drop prev.seqno n.log) es) es) j f (take_get k n.log j f q c))
          (λ (q : k ≤ j). absurd (let u = within n.log j f c in grind (arith, nat_tests)))
          (cases_lt j k))
          (merged_follows b n.log (g.led n.view) (prev.seqno + length es) log taken z.sound (t.follows n.view)) sure_c y

      reached_merges : By o la x g (merge_entries b x y prev.seqno es (matching_prefix_len b (drop prev.seqno n.log) es) theirs n)
      reached_merges = by_test (By o la x g) (matching_prefix_len b (drop prev.seqno n.log) es == length es) (accept_entries b x y (prev.seqno + length es) theirs n) more
          (λ d. reached_takes (grind (arith, nat_tests)))
          (λ d. by_test (By o la x g) (nat_lt (prev.seqno + matching_prefix_len b (drop prev.seqno n.log) es) (length n.log) && nat_lt (prev.seqno + matching_prefix_len b (drop prev.seqno n.log) es) n.commit)
          (refuse n (BelowCommit n.commit (prev.seqno + matching_prefix_len b (drop prev.seqno n.log) es)))
          (accept_or_refuse b n x y (prev.seqno + length es) theirs (cut_to (prev.seqno + matching_prefix_len b (drop prev.seqno n.log) es) n) (checked_append b n.base (take (prev.seqno + matching_prefix_len b (drop prev.seqno n.log) es) n.log) (drop (matching_prefix_len b (drop prev.seqno n.log) es) es)))
          (λ e. stay o la x g n t z)
          (λ e. reached_extended (prev.seqno + matching_prefix_len b (drop prev.seqno n.log) es) refl (grind (arith, nat_tests)) e (checked_append b n.base (take (prev.seqno + matching_prefix_len b (drop prev.seqno n.log) es) n.log) (drop (matching_prefix_len b (drop prev.seqno n.log) es) es)) refl))
        where
          more : Step E A F
          more =
              if nat_lt (prev.seqno + matching_prefix_len b (drop prev.seqno n.log) es) (length n.log) && nat_lt (prev.seqno + matching_prefix_len b (drop prev.seqno n.log) es) n.commit
              then refuse n (BelowCommit n.commit (prev.seqno + matching_prefix_len b (drop prev.seqno n.log) es))
              else accept_or_refuse b n x y (prev.seqno + length es) theirs (cut_to (prev.seqno + matching_prefix_len b (drop prev.seqno n.log) es) n) (checked_append b n.base (take (prev.seqno + matching_prefix_len b (drop prev.seqno n.log) es) n.log) (drop (matching_prefix_len b (drop prev.seqno n.log) es) es))

    one_prefix : (j : ℕ) (f e : E) → slice_get n.log j ≡ Some f → slice_get (g.led n.view) j ≡ Some e → b.view_of f ≡ b.view_of e → Same (suc j) n.log (g.led n.view)
    one_prefix j f e a c v =
        let p : slice_get (g.led (b.view_of f)) j ≡ Some f = z.logged.matches.below j j f f a (omega arith) a in
        let q : slice_get (g.led (b.view_of e)) j ≡ Some e = (t.matches n.view).below j j e e c (omega arith) c in
        let one : e ≡ f = let u : slice_get (g.led (b.view_of f)) j ≡ slice_get (g.led (b.view_of e)) j = ap (λ v. slice_get (g.led v) j) v in cc in
        agree b g.led n.log (g.led n.view) j f z.logged.matches (t.matches n.view) a (let w : slice_get (g.led n.view) j ≡ Some f = cc in w)

    -- the seqno before the entries is the leader's
    pub suffix : ((prev.seqno == 0) || (nat_le prev.seqno (length n.log) && (view_at b n.log prev.seqno == prev.view))) ≡ true → (prev.seqno ≤ length n.log) × Same prev.seqno n.log (g.led n.view)
    suffix a = go prev.seqno refl
      where
        go : (p : ℕ) → prev.seqno ≡ p → (prev.seqno ≤ length n.log) × Same prev.seqno n.log (g.led n.view)
        go zero d = (omega arith, λ j f h e. absurd (omega arith))
        go (suc j) d =
            let low : prev.seqno ≤ length n.log = grind (arith, nat_tests) in
            let view_is : view_at b n.log prev.seqno ≡ prev.view = grind (arith, nat_tests) in
            let f = there n.log j (omega arith) in
            let at_f : b.view_of f.0 ≡ prev.view = let k : view_at b n.log (suc j) ≡ b.view_of f.0 = view_at_is b n.log j f.0 f.1 in let m : view_at b n.log prev.seqno ≡ view_at b n.log (suc j) = ap (view_at b n.log) d in cc in
            let e = segment.prev j d (omega (arith, (z.logged.bound.view j f.0 f.1).0)) in
            let all : Same (suc j) n.log (g.led n.view) = one_prefix j f.0 e.0 f.1 e.1 (let k : b.view_of e.0 ≡ prev.view = e.2 in cc) in
            (low, λ i c h w. all i c (omega arith) w)

    reached_follows : By o la x g (merge_if_matching b x y prev es theirs n)
    reached_follows = by_test (By o la x g) ((prev.seqno == 0) || (nat_le prev.seqno (length n.log) && (view_at b n.log prev.seqno == prev.view)))
        (merge_entries b x y prev.seqno es (matching_prefix_len b (drop prev.seqno n.log) es) theirs n)
        (record { node = n; sent = append_reply b x y false (highest_possible_match b n.log prev.view (min (prev.seqno - 1) (length n.log))) n; outcome = Done })
        (λ d. let q = suffix d in reached_merges q.0 q.1)
        (λ d. answer_no (highest_possible_match b n.log prev.view (min (prev.seqno - 1) (length n.log))))

  pub reached_append : (x y : NodeId) (view : ℕ) (prev : Position) (es : List E) (theirs : ℕ) (g : Story E) (n : Node E) → Tale o g → Good o g x n → view ≤ n.view → BodySent o g y x view (Append prev es theirs) →
      By o la x g (on_append b x y view prev es theirs n)
  unfolding on_append
  reached_append x y view prev es theirs g n t z up said = by_test (By o la x g) (nat_lt view n.view) (record { node = n; sent = append_reply b x y false 0 n; outcome = Done }) (append_as b n.role x y prev es theirs n)
      (λ d. (g, made_same o x g n (append_reply b x y false 0 n) t z (tt, tt)))
      (λ d. here (grind (arith, nat_tests)))
    where
      here : view ≡ n.view → By o la x g (append_as b n.role x y prev es theirs n)
      here d = go n.role
        where
          follow : By o la x g (merge_if_matching b x y prev es theirs (become_follower b y n))
          follow = reached_follows x y g (become_follower b y n) prev es theirs t (good_follow o x g n (Some y) z) refl
              (subst (λ (v : ℕ). Segment b (g.led v) prev es) d said.0) (subst (λ (v : ℕ). Sured o g (g.led v) theirs v) d said.1)

          go : (r : Role) → By o la x g (append_as b r x y prev es theirs n)
          go Leader = stay o la x g n t z
          go Candidate = follow
          go Follower = follow

  pub reached_append_reply : (x y : NodeId) (view : ℕ) (ok : Bool) (seqno : ℕ) (g : Story E) (n : Node E) → Tale o g → Good o g x n → BodySent o g y x view (AppendReply ok seqno) → By o la x g (on_append_reply b y view ok seqno n)
  unfolding on_append_reply
  reached_append_reply x y view ok seqno g n t z said = go n.role
    where
      inner : view ≡ n.view → (m : Bool) → BodySent o g y x view (AppendReply m seqno) → By o la x g (update_progress b m y seqno n)
      inner d true a = by_test (By o la x g) (nat_le seqno (length n.log)) (quiet (update_match b y seqno n) Done) (idle n)
          (λ e. stay o la x g (update_match b y seqno n) t (good_acknowledged o la x y seqno g n z (subst (λ (v : ℕ). seqno ≤ g.held y v) d a)))
          (λ e. stay o la x g n t z)
      inner d false a = stay o la x g (lower_next b y seqno n) t (good_sent_back o la x y seqno g n z)

      go : (r : Role) → By o la x g (append_reply_as b r y view ok seqno n)
      go Leader = by_test (By o la x g) (view == n.view) (update_progress b ok y seqno n) (idle n) (λ d. inner (grind (arith, nat_tests)) ok said) (λ d. stay o la x g n t z)
      go Candidate = stay o la x g n t z
      go Follower = stay o la x g n t z

  -- the seqno that a leader commits
  greatest_is : (x : NodeId) (n : Node E) (k p : ℕ) → greatest_to_commit b x n k ≡ Some p → (i : ℕ) × (p ≡ suc i) × (may_commit b x n (suc i) ≡ true)
  unfolding greatest_to_commit
  greatest_is x n zero p a = absurd (cc)
  greatest_is x n (suc k) p a = go (may_commit b x n (suc k)) refl a (greatest_is x n k p)
    where
      go : (m : Bool) → may_commit b x n (suc k) ≡ m → (if m then Some (suc k) else greatest_to_commit b x n k) ≡ Some p → (greatest_to_commit b x n k ≡ Some p → (i : ℕ) × (p ≡ suc i) × (may_commit b x n (suc i) ≡ true)) →
          (i : ℕ) × (p ≡ suc i) × (may_commit b x n (suc i) ≡ true)
      go true d w again = (k, let q : suc k ≡ p = cc in sym q, d)
      go false d w again = again w

  pub reached_advance : (x : NodeId) (g : Story E) (n : Node E) → Tale o g → Good o g x n → By o la x g (advance b x n)
  unfolding advance
  reached_advance x g n t z = reached_leader o la x g n (commit_to b n (greatest_to_commit b x n (length n.log))) t z (λ r. go r (greatest_to_commit b x n (length n.log)) refl)
    where
      go : n.role ≡ Leader → (m : Option ℕ) → greatest_to_commit b x n (length n.log) ≡ m → By o la x g (commit_to b n m)
      go r None d = stay o la x g n t z
      go r (Some p) d =
          let w = greatest_is x n (length n.log) p d in
          let h = reported_committed n.view p g in
          let far : suc w.0 ≤ h.committed n.view = let u = w.1 in grind (arith, id_tests) in (
            h,
            record {
              grow = grows_committed b.view_of x n.view p g;
              tale = committed_tale o la x n.view p g t;
              good = subst (λ (k : ℕ). Good o h x (record n { commit = k })) (sym w.1) (good_commit o la x h n w.0 (committed_good o la x n.view p g x n z) r w.2 far);
              sent = tt;
              commits = λ v. ⊎_elim
                  (λ (u : n.view ≡ v). ⊎_elim
                  (λ (c : g.committed v < p). inr (r, u, let q = reported_at v u in omega (arith, q)))
                  (λ (c : p ≤ g.committed v). inl (let q = reported_at v u in omega (arith, q)))
                  (cases_lt (g.committed v) p))
                  (λ (u : n.view ≢ v). inl (grind (arith, id_tests)))
                  (cases_eq n.view v);
            },
          )
        where
          reported_at : (v : ℕ) → n.view ≡ v → at_view g.committed n.view (max (g.committed n.view) p) v ≡ max (g.committed v) p
          reported_at v u = grind (arith, id_tests)

  pub reached_restart : (x : NodeId) (g : Story E) (n : Node E) → Tale o g → Good o g x n → By o la x g (restart b n)
  unfolding restart
  reached_restart x g n t z = (g, made_same o x g (restart b n).node [] t (good_restart o x g n n.reserved 0 t z) tt)

  pub reached_install : (x y : NodeId) (g : Story E) (m n : Node E) → Tale o g → Good o g x n → Good o g y m → By o la x g (install b m n)
  unfolding install
  reached_install x y g m n t z w = by_test (By o la x g) (length n.log == 0) (install_snapshot b m (snapshot_of b m) n) (idle n)
      (λ d. go (snapshot_of b m) refl (none n.log (grind (arith, nat_tests))))
      (λ d. stay o la x g n t z)
    where
      none : (l : List E) → length l ≡ 0 → l ≡ []
      none [] d = refl
      none (e ∷ l) d = absurd (omega arith)

      go : (k : Option ℕ) → snapshot_of b m ≡ k → n.log ≡ [] → By o la x g (install_snapshot b m k n)
      go None d e = stay o la x g n t z
      go (Some i) d e = stay o la x g (with_snapshot b m (i - 1) n) t (good_install o la g x y n m i t z w e d)
