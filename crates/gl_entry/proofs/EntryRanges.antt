-- What each part of an entry that fits its format keeps.
use Rattle.std.proofs.Common.{◌≡◌, ◌^◌, ◌<◌, nat_lt, nat_le, true, ◌&&◌, ◌||◌, length, arith}
use Rattle.std.specs.List.{list_all}
use Rattle.std.proofs.lemmas.Bool.{and_parts}
use Rattle.std.proofs.lemmas.Bool.Decides.{nat_tests}
use Rattle.gl_base.specs.Bytes.{is_digest}
use Rattle.gl_vmaps.specs.Writes.{is_write, is_ordered}
use Rattle.gl_entry.specs.Entry.{is_entry, is_content, may_write, may_claim, are_no_writes, is_no_digest, body_bytes, body_limit}
use Rattle.gl_entry.specs.declared.entry.Entry.{Entry}

pub record Fits (e : Entry) : Type 0 where
  pub view : e.view < 2 ^ 32
  pub seqno : e.seqno < 2 ^ 64
  pub content : is_content e.content ≡ true
  pub writes : (may_write e.content || are_no_writes e.writes) ≡ true
  pub digest : is_digest e.claims ≡ true
  pub claims : (may_claim e.content || is_no_digest e.claims) ≡ true

pub fits_parts : (e : Entry) → is_entry e ≡ true → Fits e
fits_parts e h =
    let v = nat_lt e.view (2 ^ 32) in
    let p = nat_lt e.seqno (2 ^ 64) in
    let c = is_content e.content in
    let l = list_all is_write e.writes in
    let o = is_ordered e.writes in
    let w = may_write e.content || are_no_writes e.writes in
    let d = is_digest e.claims in
    let m = may_claim e.content || is_no_digest e.claims in
    let a9 = and_parts (v && p && c && l && o && w && d && m) (nat_le (length (body_bytes e)) body_limit) h in
    let a8 = and_parts (v && p && c && l && o && w && d) m a9.0 in
    let a7 = and_parts (v && p && c && l && o && w) d a8.0 in
    let a6 = and_parts (v && p && c && l && o) w a7.0 in
    let a5 = and_parts (v && p && c && l) o a6.0 in
    let a4 = and_parts (v && p && c) l a5.0 in
    let a3 = and_parts (v && p) c a4.0 in
    let a2 = and_parts v p a3.0 in
    let view : e.view < 2 ^ 32 = grind (arith, nat_tests, a2.0) in
    let seqno : e.seqno < 2 ^ 64 = grind (arith, nat_tests, a2.1) in
    record { view = view; seqno = seqno; content = a3.1; writes = a6.1; digest = a7.1; claims = a8.1 }
