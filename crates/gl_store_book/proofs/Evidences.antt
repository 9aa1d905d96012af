-- The last evidence of a ledger, searched from a seqno back.
use Rattle.std.proofs.Common.{◌≡◌, ◌≤◌, ◌<◌, ℕ, zero, suc, ◌-◌, min, List, length, Option, Some, None, Bool, true, false, ◌&&◌, nat_lt, nat_le, if◌then◌else◌, slice_get, get_or, refl, sym, ap, ◌∙◌, arith}
use Rattle.std.proofs.lemmas.Bool.Decides.{nat_tests}
use Rattle.std.proofs.lemmas.Option.{slice_get_past, slice_get_read}
use Rattle.gl_rules.specs.Book.{Book}
use Rattle.gl_rules.specs.Replication.{is_evidence_at, greatest_evidence}

module _ {E Q G R A F : Type 0} (b : Book E Q G R A F) (log : List E) where
  -- one seqno back
  stepped : (seqno : ℕ) (o : Option E) (here : Bool) → slice_get log seqno ≡ o → is_evidence_at b o ≡ here →
      greatest_evidence b log 0 (suc seqno) ≡ (if here then Some (suc seqno) else greatest_evidence b log 0 seqno)
  unfolding greatest_evidence
  stepped seqno o here at is =
      let positive : nat_lt 0 (suc seqno) ≡ true = grind (arith, nat_tests) in
      ap (λ (t : Bool). if t && is_evidence_at b (slice_get log seqno) then Some (suc seqno) else greatest_evidence b log 0 seqno) positive
      ∙ ap (λ (found : Option E). if is_evidence_at b found then Some (suc seqno) else greatest_evidence b log 0 seqno) at
      ∙ ap (λ (t : Bool). if t then Some (suc seqno) else greatest_evidence b log 0 seqno) is

  pub evidence_at : (seqno : ℕ) (e : E) (here : Bool) → 0 < seqno → seqno ≤ length log → e ≡ get_or log (seqno - 1) e → b.is_evidence e ≡ here →
      greatest_evidence b log 0 seqno ≡ (if here then Some seqno else greatest_evidence b log 0 (seqno - 1))
  evidence_at zero e here p low read is = absurd (omega (arith, p))
  evidence_at (suc seqno) e here p low read is =
      let back : suc seqno - 1 ≡ seqno = omega arith in
      let at : slice_get log seqno ≡ Some e = slice_get_read log (length log) seqno e refl (omega (arith, low)) (read ∙ ap (λ i. get_or log i e) back) in
      stepped seqno (Some e) here at is ∙ ap (λ i. if here then Some (suc seqno) else greatest_evidence b log 0 i) (sym back)

  pub evidence_none : greatest_evidence b log 0 0 ≡ None
  unfolding greatest_evidence
  evidence_none = refl

  -- no entry stands above the length
  above : (seqno : ℕ) → length log ≤ seqno → greatest_evidence b log 0 seqno ≡ greatest_evidence b log 0 (length log)
  above zero h = let e : length log ≡ 0 = omega (arith, h) in ap (greatest_evidence b log 0) (sym e)
  above (suc seqno) h = go (nat_le (length log) seqno) refl (above seqno)
    where
      go : (below : Bool) → nat_le (length log) seqno ≡ below → (length log ≤ seqno → greatest_evidence b log 0 seqno ≡ greatest_evidence b log 0 (length log)) →
          greatest_evidence b log 0 (suc seqno) ≡ greatest_evidence b log 0 (length log)
      go true p rest = let low : length log ≤ seqno = grind (arith, nat_tests) in stepped seqno None false (slice_get_past log seqno low) refl ∙ rest low
      go false p rest = let e : suc seqno ≡ length log = grind (arith, nat_tests, h) in ap (greatest_evidence b log 0) e

  pub evidence_within : (seqno : ℕ) → greatest_evidence b log 0 (min seqno (length log)) ≡ greatest_evidence b log 0 seqno
  evidence_within seqno = go (nat_le (length log) seqno) refl
    where
      go : (below : Bool) → nat_le (length log) seqno ≡ below → greatest_evidence b log 0 (min seqno (length log)) ≡ greatest_evidence b log 0 seqno
      go true p =
          let low : length log ≤ seqno = grind (arith, nat_tests) in
          let e : min seqno (length log) ≡ length log = omega (arith, low) in
          ap (greatest_evidence b log 0) e ∙ sym (above seqno low)
      go false p =
          let low : seqno ≤ length log = grind (arith, nat_tests) in
          let e : min seqno (length log) ≡ seqno = omega (arith, low) in
          ap (greatest_evidence b log 0) e
