-- What is reported Committed is never reported Invalid.
use Rattle.std.proofs.Common.{◌≡◌, ◌⊎◌, inl, inr, ⊎_elim, ℕ, zero, suc, ◌≤◌, ◌<◌, List, length, take, Bool, true, false, nat_lt, nat_le, if◌then◌else◌, Option, Some, None, slice_get, refl, sym, ap, ◌∙◌, true≢false, arith}
use Rattle.std.proofs.lemmas.Bool.Decides.{nat_tests}
use Rattle.gl_rules.specs.Identity.{NodeId}
use Rattle.gl_rules.specs.Book.{Book}
use Rattle.gl_rules.specs.Node.{Node}
use Rattle.gl_rules.specs.Log.{entry_at}
use Rattle.gl_rules.specs.World.{Start, Event, World, begin, after}
use Rattle.gl_rules.specs.Safety.{IsOpening, IsLawful, EachFollows, IsPrefixOf, committed_ledger, Agree, node_after, view_of, id_at, commit_id, reported_status}
use Rattle.gl_rules.proofs.Lists.{there, within, get_take, take_get, get_left}
use Rattle.gl_safety.proofs.Story.{Story}
use Rattle.gl_safety.proofs.Certificates.{SureOver, Cert}
use Rattle.gl_safety.proofs.Invariants.{rising_of, sure_within}
use Rattle.gl_base.specs.declared.tx_id.TxId.{TxId}
use Rattle.gl_base.specs.declared.tx_id.Status.TheVariants.{Committed, Invalid}
use Rattle.gl_base.specs.Status.{is_held, commit_view, commit_seqno, decided, undecided, status_of}
use Rattle.gl_safety.proofs.Runs.{Holding, first_story, onward_run}
use Rattle.gl_safety.proofs.Beginning.{holding_first}
use Rattle.gl_safety.proofs.Prefixes.{settled_at, prefix}

committed_is : (id : TxId) (local : Option ℕ) (commit : Option TxId) → status_of id local commit ≡ Committed → (id.seqno ≤ commit_seqno commit) × (is_held id local ≡ true)
committed_is id local commit a = go (nat_le id.seqno (commit_seqno commit)) (is_held id local) (nat_lt id.view (commit_view commit)) refl refl a
  where
    go : (p q r : Bool) → nat_le id.seqno (commit_seqno commit) ≡ p → is_held id local ≡ q → (if p then decided q else undecided q r) ≡ Committed → (id.seqno ≤ commit_seqno commit) × (is_held id local ≡ true)
    go true true r d e w = (grind (arith, nat_tests), e)
    go true false r d e w = absurd (cc)
    go false true r d e w = absurd (cc)
    go false false true d e w = absurd (cc)
    go false false false d e w = absurd (cc)

invalid_is : (id : TxId) (local : Option ℕ) (commit : Option TxId) → status_of id local commit ≡ Invalid →
    (is_held id local ≡ false) × ((id.seqno ≤ commit_seqno commit) ⊎ ((commit_seqno commit < id.seqno) × (id.view < commit_view commit)))
invalid_is id local commit a = go (nat_le id.seqno (commit_seqno commit)) (is_held id local) (nat_lt id.view (commit_view commit)) refl refl refl a
  where
    go : (p q r : Bool) → nat_le id.seqno (commit_seqno commit) ≡ p → is_held id local ≡ q → nat_lt id.view (commit_view commit) ≡ r → (if p then decided q else undecided q r) ≡ Invalid →
        (is_held id local ≡ false) × ((id.seqno ≤ commit_seqno commit) ⊎ ((commit_seqno commit < id.seqno) × (id.view < commit_view commit)))
    go true true r d e f w = absurd (cc)
    go true false r d e f w = (e, inl (grind (arith, nat_tests)))
    go false true r d e f w = absurd (cc)
    go false false true d e f w = (e, inr (grind (arith, nat_tests), grind (arith, nat_tests)))
    go false false false d e f w = absurd (cc)

pub prefix_get : {X : Type 0} (xs ys : List X) (i : ℕ) (x : X) → IsPrefixOf xs ys → slice_get xs i ≡ Some x → slice_get ys i ≡ Some x
prefix_get xs ys i x p a = ap (λ l. slice_get l i) (sym p.1) ∙ get_left xs p.0 i x a

module _ {E Q G R A F : Type 0} {b : Book E Q G R A F} {s : Start E} (o : IsOpening b (EachFollows b) s) (la : IsLawful b (EachFollows b)) where
  -- what two nodes have both committed
  at_both : (m n : Node E) (i : ℕ) (e : E) → Agree b m n → n.commit ≤ length n.log → i < m.commit → i < n.commit → slice_get m.log i ≡ Some e → slice_get n.log i ≡ Some e
  at_both m n i e p w h k a = ⊎_elim
      (λ (q : IsPrefixOf (committed_ledger m) (committed_ledger n)). (get_take n.commit n.log i e (prefix_get (committed_ledger m) (committed_ledger n) i e q (take_get m.commit m.log i e h a))).1)
      (λ (q : IsPrefixOf (committed_ledger n) (committed_ledger m)).
      let y = there n.log i (omega arith) in
      let c = (get_take m.commit m.log i y.0 (prefix_get (committed_ledger n) (committed_ledger m) i y.0 q (take_get n.commit n.log i y.0 k y.1))).1 in
      let same : y.0 ≡ e = let d = sym c ∙ a in cc in
      y.1 ∙ ap Some same)
      p

  -- the identifier of commit
  commit_is : (n : Node E) (i : ℕ) (e : E) → n.commit ≡ suc i → slice_get n.log i ≡ Some e → (commit_seqno (commit_id b n) ≡ suc i) × (commit_view (commit_id b n) ≡ b.view_of e)
  commit_is n i e d a =
      let c : commit_id b n ≡ Some (record { view = b.view_of e; seqno = suc i }) = ap (λ k. id_at b k (view_of b (entry_at n.log k))) d ∙ ap (λ m. id_at b (suc i) (view_of b m)) a in
      (ap commit_seqno c, ap commit_view c)

  none_is : (n : Node E) → n.commit ≡ 0 → (commit_seqno (commit_id b n) ≡ 0) × (commit_view (commit_id b n) ≡ 0)
  none_is n d = let c : commit_id b n ≡ None = ap (λ k. id_at b k (view_of b (entry_at n.log k))) d in (ap commit_seqno c, ap commit_view c)

  held_is : (l : List E) (id : TxId) → is_held id (view_of b (entry_at l id.seqno)) ≡ true → (i : ℕ) × (e : E) × (id.seqno ≡ suc i) × (slice_get l i ≡ Some e) × (b.view_of e ≡ id.view)
  held_is l id a = go id.seqno refl a
    where
      inner : (i : ℕ) → id.seqno ≡ suc i → (m : Option E) → slice_get l i ≡ m → is_held id (view_of b m) ≡ true → (j : ℕ) × (e : E) × (id.seqno ≡ suc j) × (slice_get l j ≡ Some e) × (b.view_of e ≡ id.view)
      inner i d None f w = absurd (cc)
      inner i d (Some e) f w = (i, e, d, f, grind (arith, nat_tests))

      go : (k : ℕ) → id.seqno ≡ k → is_held id (view_of b (entry_at l k)) ≡ true → (i : ℕ) × (e : E) × (id.seqno ≡ suc i) × (slice_get l i ≡ Some e) × (b.view_of e ≡ id.view)
      go zero d w = absurd (cc)
      go (suc i) d w = inner i d (slice_get l i) refl w

  held_again : (l : List E) (id : TxId) (i : ℕ) (e : E) → id.seqno ≡ suc i → slice_get l i ≡ Some e → b.view_of e ≡ id.view → is_held id (view_of b (entry_at l id.seqno)) ≡ true
  held_again l id i e d a v = ap (λ k. is_held id (view_of b (entry_at l k))) d ∙ ap (λ m. is_held id (view_of b m)) a ∙ grind (arith, nat_tests)

  -- a node's commit is a seqno of its log
  place_of : (w : World E) (g : Story E) → Holding o la w g → (x : NodeId) → ((w.nodes x).commit ≡ 0) ⊎ ((i : ℕ) × (e : E) × ((w.nodes x).commit ≡ suc i) × (slice_get (w.nodes x).log i ≡ Some e))
  place_of w g k x =
      let c = settled_at o la w g k x in
      ⊎_elim (λ (q : (w.nodes x).commit ≡ 0). inl q) (λ (q : SureOver o (Cert o (c.1).0 g) g (w.nodes x).log (w.nodes x).commit c.0). inr (q.i, q.entry, q.seqno, q.at)) (c.1).1

  seqno_is : (w : World E) (g : Story E) → Holding o la w g → (x : NodeId) → commit_seqno (commit_id b (w.nodes x)) ≡ (w.nodes x).commit
  seqno_is w g k x = ⊎_elim
      (λ (q : (w.nodes x).commit ≡ 0). (none_is (w.nodes x) q).0 ∙ sym q)
      (λ (q : (i : ℕ) × (e : E) × ((w.nodes x).commit ≡ suc i) × (slice_get (w.nodes x).log i ≡ Some e)). (commit_is (w.nodes x) q.0 q.1 q.2 q.3).0 ∙ sym q.2)
      (place_of w g k x)

  -- never both
  apart : (v w : World E) (g h : Story E) → Holding o la v g → Holding o la w h → (x y : NodeId) (id : TxId) → Agree b (v.nodes x) (w.nodes y) → reported_status b (v.nodes x) id ≡ Committed → reported_status b (w.nodes y) id ≡ Invalid → ⊥
  apart v w g h k l x y id p a c = ⊎_elim below above r.1
    where
      m : Node E
      m = v.nodes x

      n : Node E
      n = w.nodes y

      q : (id.seqno ≤ commit_seqno (commit_id b (v.nodes x))) × (is_held id (view_of b (entry_at (v.nodes x).log id.seqno)) ≡ true)
      q = committed_is id (view_of b (entry_at (v.nodes x).log id.seqno)) (commit_id b (v.nodes x)) a

      r : (is_held id (view_of b (entry_at (w.nodes y).log id.seqno)) ≡ false) × ((id.seqno ≤ commit_seqno (commit_id b (w.nodes y))) ⊎ ((commit_seqno (commit_id b (w.nodes y)) < id.seqno) × (id.view < commit_view (commit_id b (w.nodes y)))))
      r = invalid_is id (view_of b (entry_at (w.nodes y).log id.seqno)) (commit_id b (w.nodes y)) c

      e : (i : ℕ) × (e : E) × (id.seqno ≡ suc i) × (slice_get (v.nodes x).log i ≡ Some e) × (b.view_of e ≡ id.view)
      e = held_is (v.nodes x).log id q.1

      in_m : e.0 < (v.nodes x).commit
      in_m = omega (arith, q.0, seqno_is v g k x, e.2)

      long : (w.nodes y).commit ≤ length (w.nodes y).log
      long = let z = settled_at o la w h l y in sure_within o h (w.nodes y).log (w.nodes y).commit z.0 z.1

      below : id.seqno ≤ commit_seqno (commit_id b (w.nodes y)) → ⊥
      below z =
          let in_n : slice_get (w.nodes y).log e.0 ≡ Some e.1 = at_both (v.nodes x) (w.nodes y) e.0 e.1 p long in_m (omega (arith, e.2, seqno_is w h l y)) e.3 in
          let f = held_again (w.nodes y).log id e.0 e.1 e.2 in_n e.4 in
          true≢false (sym f ∙ r.0)

      later : (i : ℕ) (f : E) → (w.nodes y).commit ≡ suc i → slice_get (w.nodes y).log i ≡ Some f → (commit_seqno (commit_id b (w.nodes y)) < id.seqno) × (id.view < commit_view (commit_id b (w.nodes y))) → ⊥
      later i f d u z =
          let t = commit_is (w.nodes y) i f d u in
          let short : i < e.0 = omega (arith, z.0, t.0, e.2) in
          let f_m = there (v.nodes x).log i (omega (arith, within (v.nodes x).log e.0 e.1 e.3)) in
          let f_n = at_both (v.nodes x) (w.nodes y) i f_m.0 p long (omega (arith, in_m)) (omega arith) f_m.1 in
          let same : f_m.0 ≡ f = let o_ = sym f_n ∙ u in cc in
          let up = (rising_of o g k.tale (v.nodes x).log (k.nodes x).logged.matches).rising i e.0 f_m.0 e.1 (omega arith) f_m.1 e.3 in
          omega (arith, z.1, t.1, up, ap b.view_of same, e.4)

      above : (commit_seqno (commit_id b (w.nodes y)) < id.seqno) × (id.view < commit_view (commit_id b (w.nodes y))) → ⊥
      above z = ⊎_elim
          (λ (d : (w.nodes y).commit ≡ 0). omega (arith, z.1, (none_is (w.nodes y) d).1))
          (λ (d : (i : ℕ) × (f : E) × ((w.nodes y).commit ≡ suc i) × (slice_get (w.nodes y).log i ≡ Some f)). later d.0 d.1 d.2 d.3 z)
          (place_of w h l y)

  pub status : (es : List (Event Q G R)) (i j : ℕ) (x y : NodeId) (id : TxId) → reported_status b (node_after b s (take i es) x) id ≡ Committed → reported_status b (node_after b s (take j es) y) id ≡ Invalid → ⊥
  status es i j x y id =
      let p = onward_run o la (take i es) (begin s) (first_story o la) (holding_first o la) in
      let q = onward_run o la (take j es) (begin s) (first_story o la) (holding_first o la) in
      apart (after b s (take i es)) (after b s (take j es)) p.0 q.0 p.1 q.1 x y id (prefix o la es i j x y)
