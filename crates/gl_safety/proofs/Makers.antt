-- Events that make an entry at the leader.
use Rattle.std.proofs.Common.{◌≡◌, ◌⊎◌, inl, inr, ⊎_elim, ℕ, ◌+◌, ◌≤◌, [], ◌∷◌, ◌++◌, length, true, false, ◌||◌, not, ◌==◌, nat_lt, nat_le, if◌then◌else◌, Option, Some, None, Result, Ok, Err, refl, sym, ap, ◌∙◌, arith}
use Rattle.std.proofs.lemmas.Bool.Decides.{nat_tests}
use Rattle.gl_rules.specs.Identity.{NodeId}
use Rattle.gl_rules.specs.Book.{Book}
use Rattle.gl_rules.specs.Node.{Node, Leader}
use Rattle.gl_rules.specs.Log.{entry_at, is_signature_in}
use Rattle.gl_rules.specs.Configuration.{configurations_above}
use Rattle.gl_rules.specs.Steps.{append_entry}
use Rattle.gl_rules.specs.World.{Start}
use Rattle.gl_rules.specs.Safety.{IsOpening, IsLawful, EachFollows, Makes, ViewsUpTo}
use Rattle.gl_rules.proofs.Ids.{by_test}
use Rattle.gl_safety.proofs.Story.{Story}
use Rattle.gl_safety.proofs.Certificates.{Tale}
use Rattle.gl_safety.proofs.Complete.{settled}
use Rattle.gl_safety.proofs.Invariants.{Good}
use Rattle.gl_rules.proofs.Soundness.{sound_push}
use Rattle.gl_rules.specs.Outcome.{Done, quiet, refuse, TooManyPending, NotReserved, KeyExhausted, NothingToSign, RemovalNotCommitted, RolledBack}
use Rattle.gl_rules.specs.Requests.{pending_limit, last_count, append_result, execute_request, submit, unless_conflict, finish_as_leader, finish, if_removal_committed, unless_mark_refused, if_markable, govern_as_leader, govern, reserve, append_signature, sign_as_leader, sign, append_evidence, evidence}
use Rattle.gl_safety.proofs.Leading.{made_append, good_used}
use Rattle.gl_safety.proofs.Voters.{By, stay, reached_leader}

module _ {E Q G R A F : Type 0} {b : Book E Q G R A F} {s : Start E} (o : IsOpening b (EachFollows b) s) (la : IsLawful b (EachFollows b)) where
  views_of : (x : NodeId) (g : Story E) (n : Node E) → Good o g x n → ViewsUpTo b n.view n.log
  views_of x g n z i e a = (z.logged.bound.view i e a).1

  unsigned : (e : E) → b.is_signature e ≡ false → b.is_signature e ≡ true → {c : ℕ} → b.recorded_commit e ≡ c
  unsigned e p q = absurd (cc)

  enters_by : (x : NodeId) (g : Story E) (n : Node E) → Tale o g → Good o g x n → n.role ≡ Leader → (m : Result (E × A) F) →
      ((e : E) (a : A) → m ≡ Ok (e, a) → Makes b (EachFollows b) n.log n.view e × (b.is_signature e ≡ false) ×
      ((y : NodeId) (k q : ℕ) → b.mark (n.log ++ e ∷ []) y ≡ Some k → b.removal n.log y ≡ Some q → (b.mark n.log y ≡ Some k) ⊎ (q ≤ n.commit))) → By o la x g (append_result b n m)
  enters_by x g n t z r (Err why) f = stay o la x g n t z
  enters_by x g n t z r (Ok made) f =
      let w = f made.0 made.1 refl in
      made_append o la x g n made.0 t z r w.0.view_is w.0.follows (λ q. unsigned made.0 w.1 q) w.2

  executes_by : (x : NodeId) (q : Q) (g : Story E) (n : Node E) → Tale o g → Good o g x n → n.role ≡ Leader → By o la x g (execute_request b q n)
  executes_by x q g n t z r = enters_by x g n t z r (b.execute n.log n.view q) (λ e a d. let w = la.executed n.log n.view q e a z.sound (views_of x g n z) d in (w.0, w.1, λ y k p c f. inl (w.2 y k c)))

  pub reached_submit : (x : NodeId) (q : Q) (g : Story E) (n : Node E) → Tale o g → Good o g x n → By o la x g (submit b q n)
  unfolding submit
  reached_submit x q g n t z = reached_leader o la x g n (execute_request b q n) t z (λ r. executes_by x q g n t z r)

  pub reached_finish : (x : NodeId) (len cuts : ℕ) (reads : R) (q : Q) (g : Story E) (n : Node E) → Tale o g → Good o g x n → By o la x g (finish b len cuts reads q n)
  unfolding finish
  reached_finish x len cuts reads q g n t z = reached_leader o la x g n (finish_as_leader b len cuts reads q n) t z
      (λ r. by_test (By o la x g) (not (n.cuts == cuts) || (n.cuts == last_count)) (refuse n (RolledBack cuts n.cuts)) (unless_conflict b (b.conflict n.base n.log len reads) n (execute_request b q n))
      (λ d. stay o la x g n t z)
      (λ d. go r (b.conflict n.base n.log len reads)))
    where
      go : n.role ≡ Leader → (m : Option F) → By o la x g (unless_conflict b m n (execute_request b q n))
      go r None = executes_by x q g n t z r
      go r (Some why) = stay o la x g n t z

  pub reached_govern : (x : NodeId) (q : G) (g : Story E) (n : Node E) → Tale o g → Good o g x n → By o la x g (govern b q n)
  unfolding govern
  reached_govern x q g n t z = reached_leader o la x g n (govern_as_leader b q n) t z
      (λ r. by_test (By o la x g) (nat_le pending_limit (length (configurations_above b n.log n.commit (length n.log)))) (refuse n (TooManyPending pending_limit)) (if_markable b (b.marked_node q) n (append_result b n (b.govern n.log n.view q)))
      (λ d. stay o la x g n t z)
      (λ d. go r (b.marked_node q) refl))
    where
      made : n.role ≡ Leader → ((y : NodeId) (p : ℕ) → b.marked_node q ≡ Some y → b.removal n.log y ≡ Some p → p ≤ n.commit) → By o la x g (append_result b n (b.govern n.log n.view q))
      made r free = enters_by x g n t z r (b.govern n.log n.view q) (λ e a d.
          let w = la.governed n.log n.view q e a z.sound (views_of x g n z) d in (
            w.0,
            w.1,
            λ y k p c f. ⊎_elim (λ (u : b.mark n.log y ≡ Some k). inl u) (λ (u : b.marked_node q ≡ Some y). inr (free y p u f))
                (la.marks n.log n.view q e a y k z.sound (views_of x g n z) d c),
          ))

      late : n.role ≡ Leader → (y : NodeId) → b.marked_node q ≡ Some y → (m : Option ℕ) → b.removal n.log y ≡ m → By o la x g (if_removal_committed b m n (append_result b n (b.govern n.log n.view q)))
      late r y c None d = made r (λ u p v f. absurd (let same : y ≡ u = let k = sym c ∙ v in cc in let w : b.removal n.log y ≡ Some p = ap (b.removal n.log) same ∙ f in cc))
      late r y c (Some seqno) d = by_test (By o la x g) (nat_lt n.commit seqno) (refuse n (RemovalNotCommitted seqno n.commit)) (append_result b n (b.govern n.log n.view q)) (λ h. stay o la x g n t z)
          (λ h. made r (λ u p v f.
          let same : y ≡ u = let k = sym c ∙ v in cc in
          let w : b.removal n.log y ≡ Some p = ap (b.removal n.log) same ∙ f in
          let eq : seqno ≡ p = let k = sym d ∙ w in cc in
          let low : seqno ≤ n.commit = grind (arith, nat_tests) in
          omega arith))

      inner : n.role ≡ Leader → (y : NodeId) → b.marked_node q ≡ Some y → (m : Option F) → By o la x g (unless_mark_refused b m y n (append_result b n (b.govern n.log n.view q)))
      inner r y c (Some why) = stay o la x g n t z
      inner r y c None = late r y c (b.removal n.log y) refl

      go : n.role ≡ Leader → (m : Option NodeId) → b.marked_node q ≡ m → By o la x g (if_markable b m n (append_result b n (b.govern n.log n.view q)))
      go r None c = made r (λ y p v f. absurd (cc))
      go r (Some y) c = inner r y c (b.mark_refusal n.log y)

  pub reached_reserve : (x : NodeId) (g : Story E) (n : Node E) → Tale o g → Good o g x n → By o la x g (reserve b x n)
  unfolding reserve
  reached_reserve x g n t z = by_test (By o la x g) (nat_le (b.leaves x) n.reserved) (refuse n (KeyExhausted n.reserved)) (quiet (record n { reserved = n.reserved + 1 }) Done)
      (λ d. stay o la x g n t z)
      (λ d. stay o la x g (record n { reserved = n.reserved + 1 }) t (record { voter = z.voter; logged = z.logged; kept = z.kept; commits = z.commits; sound = z.sound }))

  -- a leader's commit is a signature's seqno
  commit_at : (x : NodeId) (g : Story E) (n : Node E) → Good o g x n → n.role ≡ Leader → (f : E) × (entry_at n.log n.commit ≡ Some f) × (b.is_signature f ≡ true)
  commit_at x g n z r =
      let c = z.commits.ruled r in
      let q = settled o c.0 n.commit n.view g n.log (z.commits.opened (inr r)) c.1 in
      (q.entry, ap (entry_at n.log) q.seqno ∙ q.at, q.signs)

  pub reached_sign : (x : NodeId) (g : Story E) (n : Node E) → Tale o g → Good o g x n → By o la x g (sign b x n)
  unfolding sign
  reached_sign x g n t z = reached_leader o la x g n (sign_as_leader b x n) t z
      (λ r. by_test (By o la x g) (n.used == n.reserved) (refuse n (NotReserved n.reserved))
      (if is_signature_in b n.view (entry_at n.log (length n.log)) then refuse n (NothingToSign (length n.log)) else append_signature b n (b.sign x n.used n.log n.view n.commit))
      (λ d. stay o la x g n t z)
      (λ d. by_test (By o la x g) (is_signature_in b n.view (entry_at n.log (length n.log))) (refuse n (NothingToSign (length n.log))) (append_signature b n (b.sign x n.used n.log n.view n.commit))
      (λ e. stay o la x g n t z)
      (λ e. go r (b.sign x n.used n.log n.view n.commit) refl)))
    where
      go : n.role ≡ Leader → (m : Result E F) → b.sign x n.used n.log n.view n.commit ≡ m → By o la x g (append_signature b n m)
      go r (Err why) d = stay o la x g n t z
      go r (Ok e) d =
          let c = commit_at x g n z r in
          let w = la.signed x n.used n.log n.view n.commit e z.sound (views_of x g n z) (record { signature = c.0; at = c.1; signs = c.2; least = z.commits.recorded; removals = λ y k p a h f. z.commits.marked r y k p a h f }) d in
          let all : EachFollows b (n.log ++ e ∷ []) = sound_push b n.log e z.sound w.0.follows in
          let p = made_append o la x g n e t z r w.0.view_is w.0.follows (λ q. w.2)
          (λ y k q a f. ⊎_elim (λ (u : b.mark n.log y ≡ Some k). inl u)
          (λ (u : k ≡ length n.log + 1). absurd (let v = (la.marked n.log e y all (a ∙ ap Some u)).0 in cc)) (la.markings.comes n.log e y k all a)) in
          (p.0, good_used o la x g p.0 (append_entry n e) (n.used + 1) p.1)

  pub reached_evidence : (x : NodeId) (g : Story E) (n : Node E) → Tale o g → Good o g x n → By o la x g (evidence b n)
  unfolding evidence
  reached_evidence x g n t z = reached_leader o la x g n (append_evidence b n (b.evidence n.log n.view)) t z (λ r. go r (b.evidence n.log n.view) refl)
    where
      go : n.role ≡ Leader → (m : Result E F) → b.evidence n.log n.view ≡ m → By o la x g (append_evidence b n m)
      go r (Err why) d = stay o la x g n t z
      go r (Ok e) d =
          let w = la.evident n.log n.view e z.sound (views_of x g n z) d in
          made_append o la x g n e t z r w.0.view_is w.0.follows (λ q. unsigned e w.1 q) (λ y k q a f. inl (w.2 y k a))
