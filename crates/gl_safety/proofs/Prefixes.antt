-- Of two committed ledgers one is a prefix of the other.
use Rattle.std.proofs.Common.{◌≡◌, ◌≢◌, ◌⊎◌, inl, inr, ⊎_elim, ℕ, zero, suc, ◌≤◌, ◌<◌, List, [], ◌∷◌, ◌++◌, take, Some, slice_get, refl, sym, ap, ◌∙◌, subst, arith}
use Rattle.std.proofs.lemmas.Bool.{cases_eq, cases_lt}
use Rattle.gl_rules.specs.Identity.{NodeId}
use Rattle.gl_rules.specs.Book.{Book}
use Rattle.gl_rules.specs.World.{Start, Event, World, run, begin, after}
use Rattle.gl_rules.specs.Safety.{IsOpening, IsLawful, EachFollows, IsPrefixOf, committed_ledger, Agree, node_after}
use Rattle.gl_rules.proofs.Lists.{Same, within, take_get, prefix_of}
use Rattle.gl_safety.proofs.Story.{Story}
use Rattle.gl_safety.proofs.Facts.{Matches, agree}
use Rattle.gl_safety.proofs.Certificates.{SureOver, Cert, Settled, Tale}
use Rattle.gl_safety.proofs.Complete.{chief_of_led, complete}
use Rattle.gl_safety.proofs.Invariants.{settled_of}
use Rattle.gl_rules.proofs.Soundness.{sound_cut}
use Rattle.gl_safety.proofs.Runs.{Holding, Later, first_story, onward_run, run_append}
use Rattle.gl_safety.proofs.Beginning.{holding_first}

-- a later moment's events are an earlier one's and some more
pub take_further : {X : Type 0} (i j : ℕ) (es : List X) → i ≤ j → (rest : List X) × (take j es ≡ take i es ++ rest)
take_further zero j es h = (take j es, refl)
take_further (suc i) zero es h = absurd (omega arith)
take_further (suc i) (suc j) [] h = ([], refl)
take_further (suc i) (suc j) (x ∷ es) h = let r = take_further i j es (omega arith) in (r.0, ap (λ l. x ∷ l) r.1)

module _ {E Q G R A F : Type 0} {b : Book E Q G R A F} {s : Start E} (o : IsOpening b (EachFollows b) s) (la : IsLawful b (EachFollows b)) where
  -- two moments of one run, in order
  pub record Moments (v w : World E) : Type 0 where
    pub story : Story E
    pub first : Holding o la v story
    pub later_story : Story E
    pub second : Holding o la w later_story
    pub later : Later o la story later_story

  pub moments : (es : List (Event Q G R)) (i j : ℕ) → i ≤ j → Moments (after b s (take i es)) (after b s (take j es))
  moments es i j h =
      let p = onward_run o la (take i es) (begin s) (first_story o la) (holding_first o la) in
      let f = take_further i j es h in
      let q = onward_run o la f.0 (run b (take i es) (begin s)) p.0 p.1 in
      let at_j : run b f.0 (run b (take i es) (begin s)) ≡ run b (take j es) (begin s) = sym (run_append o la (take i es) f.0 (begin s)) ∙ ap (λ l. run b l (begin s)) (sym f.1) in
      record { story = p.0; first = p.1; later_story = q.0; second = subst (λ (w : World E). Holding o la w q.0) at_j q.1; later = q.2 }

  -- of two sure commits of one story, that of the lesser view is within the other's leader's log
  one_way : (g : Story E) → Tale o g → (l m : List E) (c d t u : ℕ) (j k : ℕ) → Matches b g.led l → Matches b g.led m → (q : SureOver o (Cert o j g) g l c t) (r : SureOver o (Cert o k g) g m d u) → q.v ≤ r.v →
      IsPrefixOf (take c l) (take d m) ⊎ IsPrefixOf (take d m) (take c l)
  one_way g t l m c d a f j k p z q r h = ⊎_elim
      (λ (e : d < c). inr (prefix_of d m (take c l) (omega (arith, r.seqno, within m r.i r.entry r.at))
      (λ i x w y. take_get c l i x (omega arith) (l_led_up i x (omega (arith, q.seqno)) (m_led i x (omega (arith, r.seqno)) y)))))
      (λ (e : c ≤ d). inl (prefix_of c l (take d m) (omega (arith, q.seqno, within l q.i q.entry q.at))
      (λ i x w y. take_get d m i x (omega arith) (m_led_up i x (omega (arith, r.seqno)) (l_led i x (omega (arith, q.seqno)) y)))))
      (cases_lt d c)
    where
      top : slice_get (g.led r.v) q.j ≡ Some q.last
      top = ⊎_elim
          (λ (e : q.v ≡ r.v). ap (λ v. slice_get (g.led v) q.j) (sym e) ∙ q.mark.at)
          (λ (e : q.v ≢ r.v). let y = chief_of_led o g t r.v r.j r.last r.mark.at in complete o g t r.v y.0 y.1 j q.v q.j q.last q.cert q.mark (omega arith))
          (cases_eq q.v r.v)

      at_q : slice_get (g.led r.v) q.i ≡ Some q.entry
      at_q = agree b g.led (g.led q.v) (g.led r.v) q.j q.last (t.matches q.v) (t.matches r.v) q.mark.at top q.i q.entry (omega (arith, q.le)) q.leads

      l_led : Same (suc q.i) l (g.led r.v)
      l_led = agree b g.led l (g.led r.v) q.i q.entry p (t.matches r.v) q.at at_q

      l_led_up : Same (suc q.i) (g.led r.v) l
      l_led_up = agree b g.led (g.led r.v) l q.i q.entry (t.matches r.v) p at_q q.at

      m_led : Same (suc r.i) m (g.led r.v)
      m_led = agree b g.led m (g.led r.v) r.i r.entry z (t.matches r.v) r.at r.leads

      m_led_up : Same (suc r.i) (g.led r.v) m
      m_led_up = agree b g.led (g.led r.v) m r.i r.entry (t.matches r.v) z r.leads r.at

  either : {P Q' : Type 0} → P ⊎ Q' → Q' ⊎ P
  either (inl p) = inr p
  either (inr q) = inl q

  pub ordered : (g : Story E) → Tale o g → (l m : List E) (c d : ℕ) → Matches b g.led l → Matches b g.led m → Settled o g l c → Settled o g m d → IsPrefixOf (take c l) (take d m) ⊎ IsPrefixOf (take d m) (take c l)
  ordered g t l m c d p z y w = ⊎_elim
      (λ (e : c ≡ 0). inl (take d m, ap (λ k. take k l ++ take d m) e))
      (λ (q : SureOver o (Cert o (y.1).0 g) g l c y.0). ⊎_elim
      (λ (e : d ≡ 0). inr (take c l, ap (λ k. take k m ++ take c l) e))
      (λ (r : SureOver o (Cert o (w.1).0 g) g m d w.0). ⊎_elim
      (λ (h : r.v < q.v). either (one_way g t m l d c w.0 y.0 (w.1).0 (y.1).0 z p r q (omega arith)))
      (λ (h : q.v ≤ r.v). one_way g t l m c d y.0 w.0 (y.1).0 (w.1).0 p z q r h)
      (cases_lt r.v q.v))
      (w.1).1)
      (y.1).1

  pub settled_at : (w : World E) (g : Story E) → Holding o la w g → (x : NodeId) → Settled o g (w.nodes x).log (w.nodes x).commit
  settled_at w g k x = let n = w.nodes x in settled_of o g x n.view n.role n.log n.commit n.base n.matched (k.nodes x).commits

  both_at : (v w : World E) → Moments v w → (x y : NodeId) → Agree b (v.nodes x) (w.nodes y)
  both_at v w k x y =
      let c = settled_at v k.story k.first x in
      ordered k.later_story k.second.tale (v.nodes x).log (w.nodes y).log (v.nodes x).commit (w.nodes y).commit
      (record { below = λ i j e f a h d. k.later.led (b.view_of e) j f ((k.first.nodes x).logged.matches.below i j e f a h d) })
      (k.second.nodes y).logged.matches
      (c.0, k.later.sured (v.nodes x).log (v.nodes x).commit c.0 c.1)
      (settled_at w k.later_story k.second y)

  pub prefix : (es : List (Event Q G R)) (i j : ℕ) (x y : NodeId) → Agree b (node_after b s (take i es) x) (node_after b s (take j es) y)
  prefix es i j x y = ⊎_elim
      (λ (h : j < i). either (both_at (after b s (take j es)) (after b s (take i es)) (moments es j i (omega arith)) y x))
      (λ (h : i ≤ j). both_at (after b s (take i es)) (after b s (take j es)) (moments es i j h) x y)
      (cases_lt j i)

  pub ledger : (es : List (Event Q G R)) (i : ℕ) (x : NodeId) → EachFollows b (committed_ledger (node_after b s (take i es) x))
  ledger es i x =
      let p = onward_run o la (take i es) (begin s) (first_story o la) (holding_first o la) in
      sound_cut b (node_after b s (take i es) x).log (node_after b s (take i es) x).commit (p.1.nodes x).sound

  pub log_sound : (es : List (Event Q G R)) (i : ℕ) (x : NodeId) → EachFollows b (node_after b s (take i es) x).log
  log_sound es i x = ((onward_run o la (take i es) (begin s) (first_story o la) (holding_first o la)).1.nodes x).sound
