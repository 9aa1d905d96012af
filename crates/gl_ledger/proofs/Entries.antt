-- Which entries fit their format: those whose fields are in their ranges and whose body is small
-- enough.
use Rattle.std.proofs.Common.{◌≡◌, ℕ, ◌+◌, ◌<◌, ◌≤◌, ◌^◌, nat_lt, nat_le, List, ◌∷◌, ◌++◌, length, Bool, true, ◌&&◌, ◌||◌, refl, ◌∙◌, ap, arith, length-append}
use Rattle.std.specs.List.{list_all, flat_map, AllByRecursion}
use Rattle.std.specs.Cmp.Lexicographic.{bytes_decides}
use Rattle.std.proofs.lemmas.Bool.Decides.{nat_tests}
use Rattle.gl_base.specs.LittleEndian.{little_endian}
use Rattle.gl_base.specs.Bytes.{are_bytes, is_digest}
use Rattle.gl_base.proofs.LittleEndianLaws.{length-little_endian}
use Rattle.gl_vmaps.specs.Writes.{is_write, is_ordered}
use Rattle.gl_entry.specs.Entry.{write_bytes}
use Rattle.gl_vmaps.specs.declared.write.Write.{Write}
use Rattle.gl_base.proofs.ByteLists.{AreBytes}
use Rattle.gl_vmaps.proofs.WriteLaws.{list_all-from_writes}
use Rattle.gl_entry.specs.Entry.{no_digest, content_bytes, body_bytes, body_limit, kind_tag, is_content, may_write, may_claim, are_no_writes, is_no_digest, is_entry}
use Rattle.gl_entry.specs.declared.entry.Content.TheVariants as content
use Rattle.gl_entry.specs.declared.entry.Entry.{Entry}
use Rattle.gl_entry.proofs.Fitting.{is_digest-from}

-- ---- sizes

body_length : (view place tag count : ℕ) (recorded writes claims : List ℕ) →
    length (little_endian 4 view ++ little_endian 8 place ++ (tag ∷ little_endian 4 (length recorded) ++ recorded) ++ little_endian 4 count ++ writes ++ claims)
    ≡ 21 + length recorded + length writes + length claims
body_length view place tag count recorded writes claims = simp (length-append, length-little_endian) (omega arith)

-- a body has 21 bytes beside what it records, its writes and its claims
pub length-body_bytes : (e : Entry) → length (body_bytes e) ≡ 21 + length (content_bytes e.content) + length (flat_map write_bytes e.writes) + length e.claims
length-body_bytes e = body_length e.view e.seqno (kind_tag e.content) (length e.writes) (content_bytes e.content) (flat_map write_bytes e.writes) e.claims

-- ---- ranges

-- the fields of an entry are in their ranges
pub record HasFields (e : Entry) : Type 0 where
  pub view : e.view < 2 ^ 32
  pub seqno : e.seqno < 2 ^ 64
  pub recorded : is_content e.content ≡ true
  pub limits : list_all is_write e.writes ≡ true
  pub ordered : is_ordered e.writes ≡ true
  pub writes : (may_write e.content || are_no_writes e.writes) ≡ true
  pub digest : is_digest e.claims ≡ true
  pub claims : (may_claim e.content || is_no_digest e.claims) ≡ true

-- such an entry fits its format where its body is small enough
pub is_entry-from_fields : (e : Entry) → HasFields e → length (body_bytes e) ≤ body_limit → is_entry e ≡ true
is_entry-from_fields e h small =
    let view : nat_lt e.view (2 ^ 32) ≡ true = grind (arith, nat_tests, h.view) in
    let seqno : nat_lt e.seqno (2 ^ 64) ≡ true = grind (arith, nat_tests, h.seqno) in
    let size : nat_le (length (body_bytes e)) body_limit ≡ true = grind (arith, nat_tests) in
    all_of (nat_lt e.view (2 ^ 32)) (nat_lt e.seqno (2 ^ 64)) (is_content e.content) (list_all is_write e.writes) (is_ordered e.writes)
    (may_write e.content || are_no_writes e.writes) (is_digest e.claims) (may_claim e.content || is_no_digest e.claims) (nat_le (length (body_bytes e)) body_limit)
    view seqno h.recorded h.limits h.ordered h.writes h.digest h.claims size
  where
    all_of : (a b c d f g i j k : Bool) → a ≡ true → b ≡ true → c ≡ true → d ≡ true → f ≡ true → g ≡ true → i ≡ true → j ≡ true → k ≡ true →
        (a && b && c && d && f && g && i && j && k) ≡ true
    all_of a b c d f g i j k pa pb pc pd pf pg pi pj pk = rw (pa, pb, pc, pd, pf, pg, pi, pj, pk) refl

-- ---- the entries that a store makes

no_digest_digest : is_digest no_digest ≡ true
no_digest_digest = refl

pub governance_fits : (view place : ℕ) (bytes : List ℕ) (ws : List Write) (claims : List ℕ) → view < 2 ^ 32 → place < 2 ^ 64 → are_bytes bytes ≡ true →
    AllByRecursion (λ (w : Write). is_write w ≡ true) ws → is_ordered ws ≡ true → claims ≡ no_digest →
    HasFields (record { view = view; seqno = place; content = content.Governance bytes; writes = ws; claims = claims })
governance_fits view place bytes ws claims low fits all limits ordered none = record {
  view = low;
  seqno = fits;
  recorded = all;
  limits = list_all-from_writes ws limits;
  ordered = ordered;
  writes = refl;
  digest = ap is_digest none ∙ no_digest_digest;
  claims = (bytes_decides claims no_digest).1 none;
}

pub application_fits : (view place : ℕ) (bytes : List ℕ) (ws : List Write) (claims : List ℕ) → view < 2 ^ 32 → place < 2 ^ 64 → are_bytes bytes ≡ true →
    AllByRecursion (λ (w : Write). is_write w ≡ true) ws → is_ordered ws ≡ true → length claims ≡ 32 → AreBytes claims →
    HasFields (record { view = view; seqno = place; content = content.Application bytes; writes = ws; claims = claims })
application_fits view place bytes ws claims low fits all limits ordered long digest = record {
  view = low;
  seqno = fits;
  recorded = all;
  limits = list_all-from_writes ws limits;
  ordered = ordered;
  writes = refl;
  digest = is_digest-from claims long digest;
  claims = refl;
}
