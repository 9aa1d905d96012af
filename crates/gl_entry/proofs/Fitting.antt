-- An entry fits where its body is small and it writes and claims what its kind may: its other
-- fields are in their ranges, as their types have it.
use Rattle.std.proofs.Common.{◌≡◌, ℕ, ◌<◌, ◌^◌, ◌==◌, nat_lt, nat_le, List, length, Bool, true, false, ◌&&◌, ◌||◌, refl, ◌∙◌, sym, arith}
use Rattle.std.specs.List.{list_all}
use Rattle.std.proofs.lemmas.Bool.{and_from}
use Rattle.std.proofs.lemmas.Bool.Decides.{nat_tests}
use Rattle.gl_base.specs.Bytes.{are_bytes, is_digest}
use Rattle.gl_base.proofs.ByteLists.{AreBytes, are_bytes-true}
use Rattle.gl_vmaps.specs.Writes.{is_write, is_ordered}
use Rattle.gl_entry.specs.Entry.{body_bytes, body_limit, is_content, may_write, may_claim, are_no_writes, is_no_digest, is_entry}
use Rattle.gl_entry.specs.declared.entry.Entry.{Entry}

pub is_digest-from : (xs : List ℕ) → length xs ≡ 32 → AreBytes xs → is_digest xs ≡ true
is_digest-from xs long all =
    let size : (length xs == 32) ≡ true = grind (arith, nat_tests) in
    and_from (length xs == 32) (are_bytes xs) size (are_bytes-true xs all)

-- the fields of an entry that are in their ranges by their types
pub record HasTypes (e : Entry) : Type 0 where
  pub view : e.view < 2 ^ 32
  pub seqno : e.seqno < 2 ^ 64
  pub recorded : is_content e.content ≡ true
  pub limits : list_all is_write e.writes ≡ true
  pub ordered : is_ordered e.writes ≡ true
  pub digest : is_digest e.claims ≡ true

pub fits_where : (e : Entry) (small writes claims : Bool) → HasTypes e → small ≡ nat_le (length (body_bytes e)) body_limit →
    writes ≡ (may_write e.content || are_no_writes e.writes) → claims ≡ (may_claim e.content || is_no_digest e.claims) → (small && writes && claims) ≡ is_entry e
fits_where e small writes claims h ps pw pc =
    let view : nat_lt e.view (2 ^ 32) ≡ true = grind (arith, nat_tests, h.view) in
    let seqno : nat_lt e.seqno (2 ^ 64) ≡ true = grind (arith, nat_tests, h.seqno) in
    all_of (nat_lt e.view (2 ^ 32)) (nat_lt e.seqno (2 ^ 64)) (is_content e.content) (list_all is_write e.writes) (is_ordered e.writes)
    (may_write e.content || are_no_writes e.writes) (is_digest e.claims) (may_claim e.content || is_no_digest e.claims) (nat_le (length (body_bytes e)) body_limit)
    view seqno h.recorded h.limits h.ordered h.digest small writes claims ps pw pc
  where
    three : (s w k : Bool) → (s && w && k) ≡ (true && true && true && true && true && w && true && k && s)
    three true true true = refl
    three true true false = refl
    three true false true = refl
    three true false false = refl
    three false true true = refl
    three false true false = refl
    three false false true = refl
    three false false false = refl

    all_of : (a b c d f g i j k : Bool) → a ≡ true → b ≡ true → c ≡ true → d ≡ true → f ≡ true → i ≡ true → (s w t : Bool) → s ≡ k → w ≡ g → t ≡ j →
        (s && w && t) ≡ (a && b && c && d && f && g && i && j && k)
    all_of a b c d f g i j k pa pb pc pd pf pi s w t ps pw pt = rw (pa, pb, pc, pd, pf, pi, ps, pw, pt) (three k g j)
