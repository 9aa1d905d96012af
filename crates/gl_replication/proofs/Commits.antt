-- The greatest seqno that a leader may commit, one seqno at a time.
use Rattle.std.proofs.Common.{◌≡◌, ◌≤◌, ◌<◌, ℕ, zero, suc, ◌-◌, List, [], length, take, map, Bool, true, false, nat_le, nat_lt, ◌&&◌, ◌||◌, Option, Some, None, if◌then◌else◌, refl, sym, ap, subst, ◌∙◌, arith}
use Rattle.std.proofs.lemmas.Bool.Decides.{nat_tests}
use Rattle.gl_rules.specs.Identity.{NodeId, same}
use Rattle.gl_rules.specs.Majority.{quorum}
use Rattle.gl_rules.specs.Book.{Book}
use Rattle.gl_rules.specs.Node.{Node}
use Rattle.gl_rules.specs.Log.{entry_at, is_signature_in, view_at}
use Rattle.gl_rules.specs.Outcome.{Committed}
use Rattle.gl_rules.specs.Configuration.{active, active_upto}
use Rattle.gl_rules.specs.Replication.{commit_to, greatest_to_commit, may_commit}
use Rattle.gl_entry.specs.declared.entry.Entry.{Entry}
use Rattle.gl_replication.specs.Pairs.{held, holds}
use Rattle.gl_replication.specs.declared.node.Core.{Core}
use Rattle.gl_replication.specs.Holding.{Holding}
use Rattle.gl_config.specs.declared.configuration.Configuration.{Configuration}
use Rattle.gl_config.specs.Active.{active_of, sets_of}
use Rattle.gl_replication.specs.declared.done.Done.{Done}
use Rattle.gl_election.specs.Bridge.{seen_message}
use Rattle.gl_replication.specs.Stands.{seen_outcome, StandsFor, Stepped}
use Rattle.gl_replication.proofs.Cuts.{active_cut, quorum_same}

module _ {E Q G R A F : Type 0} (b : Book E Q G R A F) (x : NodeId) (n : Node E) where
  pub greatest_here : (seqno : ℕ) → 0 < seqno → may_commit b x n seqno ≡ true → greatest_to_commit b x n seqno ≡ Some seqno
  unfolding greatest_to_commit
  greatest_here zero p is = absurd (omega arith)
  greatest_here (suc seqno) p is = ap (λ t. if t then Some (suc seqno) else greatest_to_commit b x n seqno) is

  pub greatest_below : (seqno : ℕ) → 0 < seqno → may_commit b x n seqno ≡ false → greatest_to_commit b x n seqno ≡ greatest_to_commit b x n (seqno - 1)
  unfolding greatest_to_commit
  greatest_below zero p is = absurd (omega arith)
  greatest_below (suc seqno) p is =
      let e : suc seqno - 1 ≡ seqno = omega arith in
      ap (λ t. if t then Some (suc seqno) else greatest_to_commit b x n seqno) is ∙ ap (greatest_to_commit b x n) (sym e)

  not_above : (seqno : ℕ) (t u : Bool) → seqno ≤ n.commit → (nat_lt n.commit seqno && t && u) ≡ false
  not_above seqno t u h = let e : nat_lt n.commit seqno ≡ false = grind (arith, nat_tests) in ap (λ k. k && t && u) e

  pub greatest_none : (seqno : ℕ) → seqno ≤ n.commit → greatest_to_commit b x n seqno ≡ None
  unfolding greatest_to_commit
  greatest_none zero h = refl
  greatest_none (suc seqno) h = ap (λ t. if t then Some (suc seqno) else greatest_to_commit b x n seqno) (not_above (suc seqno) _ _ h) ∙ greatest_none seqno (omega arith)

all_of : (r a t q : Bool) → a ≡ true → t ≡ true → r ≡ q → r ≡ a && t && q
all_of r true true q d e f = f
all_of r false t q d e f = absurd (cc)
all_of r true false q d e f = absurd (cc)

module _ {S Q G R A F : Type 0} (stands : S → Book Entry Q G R A F → Holding Entry → Type 0) where
  pub commit_is : {c : Core S Q G R A F} {b : Book Entry Q G R A F} {x : NodeId} {n : Node Entry} → StandsFor stands c b x n → c.commit ≡ n.commit
  commit_is s = ap (λ (m : Node Entry). m.commit) s.same

  -- commit rises to a seqno above it
  rises : {c : Core S Q G R A F} {b : Book Entry Q G R A F} {x : NodeId} {n : Node Entry} → StandsFor stands c b x n → (seqno : ℕ) → c.commit < seqno →
      StandsFor stands (record c { commit = seqno }) b x (record n { commit = seqno })
  rises {c} {b} {x} {n} s seqno above = record {
    ledger = s.ledger;
    same = ap (λ (m : Node Entry). record m { commit = seqno }) s.same;
    above = omega (arith, s.above, commit_is s, above);
    matched = s.matched;
    next = s.next;
    within = s.within;
    used = s.used;
    leaves = s.leaves;
  }

  pub committing : {c : Core S Q G R A F} {b : Book Entry Q G R A F} {x : NodeId} {n : Node Entry} → StandsFor stands c b x n → (found : Option ℕ) (seqno view : ℕ) (done : Done S Q G R A F) → c.commit < seqno →
      Some seqno ≡ found → view ≡ view_at b n.log seqno → seen_outcome {F = F} done.outcome ≡ Committed view seqno → map seen_message done.sent ≡ [] →
      Stepped stands b x (commit_to b n found) done (record c { commit = seqno })
  committing {c} {b} {x} {n} s found seqno view done above is view_is answer silent =
      subst (λ (o : Option ℕ). Stepped stands b x (commit_to b n o) done (record c { commit = seqno })) is
      (record { node = rises s seqno above; outcome = answer ∙ ap (λ v. Committed v seqno) view_is; sent = silent })

  pub may : {c : Core S Q G R A F} {b : Book Entry Q G R A F} {x : NodeId} {n : Node Entry} → StandsFor stands c b x n → (seqno : ℕ) (me : NodeId) (r signed : Bool) (cs : List Configuration) →
      seqno ≤ length n.log → c.commit < seqno → signed ≡ true → (n.base ≤ seqno → signed ≡ is_signature_in b c.peer.view (entry_at n.log seqno)) → me ≡ x →
      (n.base ≤ seqno → (commit : ℕ) → n.base ≤ commit → sets_of (active_of cs commit) ≡ active b (take seqno n.log) commit) →
      r ≡ quorum (holds me seqno (held c.matched.items)) (sets_of (active_of cs c.commit)) → r ≡ may_commit b x n seqno
  may {c} {b} {x} {n} s seqno me r signed cs w above is reported mine active_is result =
      let commit_is : c.commit ≡ n.commit = ap (λ (m : Node Entry). m.commit) s.same in
      let view_is : c.peer.view ≡ n.view = ap (λ (m : Node Entry). m.view) s.same in
      all_of r (nat_lt n.commit seqno) (is_signature_in b n.view (entry_at n.log seqno)) (quorum (λ y. same y x || nat_le seqno (n.matched y)) (active_upto b n.log n.commit seqno))
      (grind (arith, nat_tests))
      (ap (λ v. is_signature_in b v (entry_at n.log seqno)) (sym view_is) ∙ sym (reported (omega (arith, s.above))) ∙ is)
      (result
      ∙ ap (λ m. quorum (holds me seqno (held c.matched.items)) (sets_of (active_of cs m))) commit_is
      ∙ ap (quorum (holds me seqno (held c.matched.items))) (active_is (omega (arith, s.above)) n.commit s.above ∙ active_cut b n.log n.commit seqno (omega arith) w)
      ∙ quorum_same _ _ (λ y. ap (λ m. same y m || nat_le seqno (held c.matched.items y)) mine ∙ ap (λ m. same y x || nat_le seqno m) (s.matched y)) (active_upto b n.log n.commit seqno))
