-- Pairs in which a node's seqno is set.
use Rattle.std.proofs.Common.{◌≡◌, ℕ, suc, List, [], ◌∷◌, ◌++◌, set, Bool, true, false, Option, Some, None, if◌then◌else◌, refl, sym, ap, ◌∙◌, arith}
use Rattle.std.specs.Option.{option_map}
use Rattle.gl_rules.specs.Identity.{NodeId, same, put}
use Rattle.gl_rules.proofs.Ids.{id_tests}
use Rattle.gl_replication.specs.Pairs.{held, index_of, tried}

some_suc : (o : Option ℕ) (i : ℕ) → option_map suc o ≡ Some i → (j : ℕ) × (i ≡ suc j) × (o ≡ Some j)
some_suc None i e = absurd (cc)
some_suc (Some j) i e = (j, cc, refl)

none_suc : (o : Option ℕ) → option_map suc o ≡ None → o ≡ None
none_suc None e = refl
none_suc (Some j) e = absurd (cc)

-- a pair before others, as one of the first
module _ {A : Type 0} (y z : NodeId) (x : NodeId) (a b c : A) where
  prefix : same y x ≡ true → (if same z y then a else c) ≡ (if same z y then a else (if same z x then b else c))
  prefix e = grind (arith, id_tests)

  after : same y x ≡ false → (if same z x then b else (if same z y then a else c)) ≡ (if same z y then a else (if same z x then b else c))
  after e = grind (arith, id_tests)

pub held_set : (ps : List (NodeId × ℕ)) (y : NodeId) (v i : ℕ) (z : NodeId) → index_of ps y ≡ Some i → held (set ps i (y, v)) z ≡ put (held ps) y v z
held_set [] y v i z e = absurd (cc)
held_set (p ∷ ps) y v i z e = go (λ j. held_set ps y v j z) (same y p.0) refl e
  where
    go : ((j : ℕ) → index_of ps y ≡ Some j → held (set ps j (y, v)) z ≡ put (held ps) y v z) → (t : Bool) → same y p.0 ≡ t → (if t then Some 0 else option_map suc (index_of ps y)) ≡ Some i → held (set (p ∷ ps) i (y, v)) z ≡ (if same z y then v else (if same z p.0 then p.1 else held ps z))
    go again true s e = let k : 0 ≡ i = cc in ap (λ j. held (set (p ∷ ps) j (y, v)) z) (sym k) ∙ prefix y z p.0 v p.1 (held ps z) s
    go again false s e =
        let r = some_suc (index_of ps y) i e in
        ap (λ j. held (set (p ∷ ps) j (y, v)) z) r.1
        ∙ ap (λ m. if same z p.0 then p.1 else m) (again r.0 r.2)
        ∙ after y z p.0 v p.1 (held ps z) s

pub tried_set : (ps : List (NodeId × ℕ)) (y : NodeId) (v i : ℕ) (z : NodeId) → index_of ps y ≡ Some i → tried (set ps i (y, v)) z ≡ put (tried ps) y (Some v) z
tried_set [] y v i z e = absurd (cc)
tried_set (p ∷ ps) y v i z e = go (λ j. tried_set ps y v j z) (same y p.0) refl e
  where
    go : ((j : ℕ) → index_of ps y ≡ Some j → tried (set ps j (y, v)) z ≡ put (tried ps) y (Some v) z) → (t : Bool) → same y p.0 ≡ t → (if t then Some 0 else option_map suc (index_of ps y)) ≡ Some i → tried (set (p ∷ ps) i (y, v)) z ≡ (if same z y then Some v else (if same z p.0 then Some p.1 else tried ps z))
    go again true s e = let k : 0 ≡ i = cc in ap (λ j. tried (set (p ∷ ps) j (y, v)) z) (sym k) ∙ prefix y z p.0 (Some v) (Some p.1) (tried ps z) s
    go again false s e =
        let r = some_suc (index_of ps y) i e in
        ap (λ j. tried (set (p ∷ ps) j (y, v)) z) r.1
        ∙ ap (λ m. if same z p.0 then Some p.1 else m) (again r.0 r.2)
        ∙ after y z p.0 (Some v) (Some p.1) (tried ps z) s

pub held_push : (ps : List (NodeId × ℕ)) (y : NodeId) (v : ℕ) (z : NodeId) → index_of ps y ≡ None → held (ps ++ (y, v) ∷ []) z ≡ put (held ps) y v z
held_push [] y v z e = refl
held_push (p ∷ ps) y v z e = go (held_push ps y v z) (same y p.0) refl e
  where
    go : (index_of ps y ≡ None → held (ps ++ (y, v) ∷ []) z ≡ put (held ps) y v z) → (t : Bool) → same y p.0 ≡ t → (if t then Some 0 else option_map suc (index_of ps y)) ≡ None → (if same z p.0 then p.1 else held (ps ++ (y, v) ∷ []) z) ≡ (if same z y then v else (if same z p.0 then p.1 else held ps z))
    go again true s e = absurd (cc)
    go again false s e = ap (λ m. if same z p.0 then p.1 else m) (again (none_suc (index_of ps y) e)) ∙ after y z p.0 v p.1 (held ps z) s

pub tried_push : (ps : List (NodeId × ℕ)) (y : NodeId) (v : ℕ) (z : NodeId) → index_of ps y ≡ None → tried (ps ++ (y, v) ∷ []) z ≡ put (tried ps) y (Some v) z
tried_push [] y v z e = refl
tried_push (p ∷ ps) y v z e = go (tried_push ps y v z) (same y p.0) refl e
  where
    go : (index_of ps y ≡ None → tried (ps ++ (y, v) ∷ []) z ≡ put (tried ps) y (Some v) z) → (t : Bool) → same y p.0 ≡ t → (if t then Some 0 else option_map suc (index_of ps y)) ≡ None → (if same z p.0 then Some p.1 else tried (ps ++ (y, v) ∷ []) z) ≡ (if same z y then Some v else (if same z p.0 then Some p.1 else tried ps z))
    go again true s e = absurd (cc)
    go again false s e = ap (λ m. if same z p.0 then Some p.1 else m) (again (none_suc (index_of ps y) e)) ∙ after y z p.0 (Some v) (Some p.1) (tried ps z) s
