-- In a valid ledger the commits that signatures record never fall, and the last one is the
-- greatest.
use Rattle.std.proofs.Common.{◌≡◌, ℕ, zero, suc, ◌+◌, ◌≤◌, List, [], ◌∷◌, ◌++◌, length, Bool, true, false, ◌&&◌, ◌==◌, nat_le, max, if◌then◌else◌, Option, Some, None, refl, sym, ap, ◌∙◌, arith, length-append}
use Rattle.std.specs.List.{list_all}
use Rattle.std.proofs.lemmas.Bool.{and_parts}
use Rattle.std.proofs.lemmas.Bool.Decides.{nat_tests}
use Rattle.gl_rules.specs.Log.{greatest_recorded}
use Rattle.gl_rules.specs.Safety.{EachFollows}
use Rattle.gl_rules.proofs.Soundness.{follows_sound}
use Rattle.gl_entry.specs.Entry.{is_signature, recorded_commit}
use Rattle.gl_entry.specs.declared.entry.Content.{Content}
use Rattle.gl_entry.specs.declared.entry.Content.TheVariants as content
use Rattle.gl_entry.specs.declared.entry.Entry.{Entry}
use Rattle.gl_entry.specs.declared.entry.Signature as signatures
use Rattle.gl_merkle.specs.Tree.{root_of}
use Rattle.gl_rules.specs.Identity.{member}
use Rattle.gl_base.specs.Bytes.{same_bytes}
use Rattle.gl_ledger.specs.Tree.{leaves_of}
use Rattle.gl_rules.specs.Log.{entry_at}
use Rattle.gl_base.proofs.Lists.{slice_get-within}
use Rattle.gl_ledger.specs.Layers.{Layers}
use Rattle.gl_ledger.specs.NodeKeys.{NodeKeys}
use Rattle.gl_ledger.specs.declared.recording.Recording.{Recording}
use Rattle.gl_ledger.specs.declared.recording.Recording.TheVariants as recordings
use Rattle.gl_ledger.specs.Recordings.{last_entry, recording_of, recorded_nodes}
use Rattle.gl_ledger.specs.Past.{commit_after, commit_from, is_unopened, last_commit, past_of, signs_at}
use Rattle.gl_ledger.specs.Broken.{broken_by, is_later_commit, may_record, broken}
use Rattle.gl_ledger.specs.LedgerBook.{ledger_book}
use Rattle.gl_ledger.proofs.Passing.{passed, Passes, passing}
use Rattle.gl_ledger.proofs.Lawful.{unbroken}

module _ (layers : Layers) (keys : NodeKeys) where
  pub record KeepsCommits (ledger : List Entry) : Type 0 where
    pub greatest : greatest_recorded (ledger_book layers keys) ledger ≤ last_commit ledger
    pub within : last_commit ledger ≤ length ledger

  commit_push : (commit : ℕ) (es : List Entry) (e : Entry) → commit_from commit (es ++ e ∷ []) ≡ commit_after (commit_from commit es) e.content
  commit_push commit [] e = refl
  commit_push commit (f ∷ es) e = commit_push (commit_after commit f.content) es e

  greatest_push : (es : List Entry) (e : Entry) → greatest_recorded (ledger_book layers keys) (es ++ e ∷ []) ≡ max (greatest_recorded (ledger_book layers keys) es) (if is_signature e.content then recorded_commit e.content else 0)
  unfolding greatest_recorded
  greatest_push [] e = go (if is_signature e.content then recorded_commit e.content else 0)
    where
      go : (n : ℕ) → max n 0 ≡ max 0 n
      go n = omega arith
  greatest_push (f ∷ es) e =
      ap (max (if is_signature f.content then recorded_commit f.content else 0)) (greatest_push es e)
      ∙ go (if is_signature f.content then recorded_commit f.content else 0) (greatest_recorded (ledger_book layers keys) es) (if is_signature e.content then recorded_commit e.content else 0)
    where
      go : (a b c : ℕ) → max a (max b c) ≡ max (max a b) c
      go a b c = omega arith

  -- a signature's commit is not below the last one, and stands within the ledger with it
  signed_commit : (ledger : List Entry) (s : signatures.Signature) (commit : ℕ) → KeepsCommits ledger → may_record (past_of ledger) commit ≡ true → (last_commit ledger ≤ commit) × (commit ≤ length ledger + 1)
  signed_commit ledger s commit k h = go (is_unopened (last_entry ledger)) h
    where
      placed : (n : ℕ) → signs_at (entry_at ledger n) ≡ true → n ≤ length ledger
      placed zero w = omega arith
      placed (suc n) w = found (Rattle.std.specs.Prelude.slice_get ledger n) refl w
        where
          found : (o : Option Entry) → Rattle.std.specs.Prelude.slice_get ledger n ≡ o → signs_at o ≡ true → suc n ≤ length ledger
          found None is w = absurd (cc)
          found (Some e) is w = let u = slice_get-within ledger n e is in omega arith

      go : (t : Bool) → (if t then commit == length ledger + 1 else is_later_commit (past_of ledger) commit) ≡ true → (last_commit ledger ≤ commit) × (commit ≤ length ledger + 1)
      go true w = let u : commit ≡ length ledger + 1 = grind (arith, nat_tests) in (omega (arith, k.within), omega arith)
      go false w =
          let one = and_parts (signs_at (entry_at ledger commit) && nat_le (last_commit ledger) commit) _ w in
          let two = and_parts (signs_at (entry_at ledger commit)) (nat_le (last_commit ledger) commit) one.0 in
          let at = placed commit two.0 in
          let low = two.1 in
          (grind (arith, nat_tests), omega arith)

  kept : (ledger : List Entry) (e : Entry) → KeepsCommits ledger → broken layers ledger e ≡ None → KeepsCommits (ledger ++ e ∷ [])
  kept ledger e k h =
      let c = commit_push 0 ledger e in
      let g = greatest_push ledger e in
      let l = length-append ledger (e ∷ []) in
      go e.content refl c g l
    where
      p : Passes layers ledger e
      p = passing layers ledger e h

      go : (x : Content) → e.content ≡ x → last_commit (ledger ++ e ∷ []) ≡ commit_after (last_commit ledger) e.content →
          greatest_recorded (ledger_book layers keys) (ledger ++ e ∷ []) ≡ max (greatest_recorded (ledger_book layers keys) ledger) (if is_signature e.content then recorded_commit e.content else 0) →
          length (ledger ++ e ∷ []) ≡ length ledger + 1 → KeepsCommits (ledger ++ e ∷ [])
      go (content.Signature s) is c g l =
          let is_read : p.recording ≡ recordings.Signature s = let w = sym p.reads ∙ ap recording_of is in cc in
          let all : broken_by layers (recordings.Signature s) (past_of ledger) e ≡ None = ap (λ (t : Recording). broken_by layers t (past_of ledger) e) (sym is_read) ∙ p.rest in
          let one = passed (member s.node (recorded_nodes ledger)) _ _ all in
          let two = passed (same_bytes s.root (root_of (leaves_of ledger))) _ _ one.1 in
          let three = passed (may_record (past_of ledger) s.commit) _ _ two.1 in
          let low = signed_commit ledger s s.commit k three.0 in
          let c' : last_commit (ledger ++ e ∷ []) ≡ s.commit = c ∙ ap (commit_after (last_commit ledger)) is in
          let g' : greatest_recorded (ledger_book layers keys) (ledger ++ e ∷ []) ≡ max (greatest_recorded (ledger_book layers keys) ledger) s.commit =
          g ∙ ap (λ (x : Content). max (greatest_recorded (ledger_book layers keys) ledger) (if is_signature x then recorded_commit x else 0)) is in
          record { greatest = omega (arith, k.greatest, low.0); within = omega (arith, low.1) }
      go (content.Governance b) is c g l =
          let c' : last_commit (ledger ++ e ∷ []) ≡ last_commit ledger = c ∙ ap (commit_after (last_commit ledger)) is in
          let g' : greatest_recorded (ledger_book layers keys) (ledger ++ e ∷ []) ≡ max (greatest_recorded (ledger_book layers keys) ledger) 0 =
          g ∙ ap (λ (x : Content). max (greatest_recorded (ledger_book layers keys) ledger) (if is_signature x then recorded_commit x else 0)) is in
          record { greatest = omega (arith, k.greatest); within = omega (arith, k.within) }
      go (content.Application b) is c g l =
          let c' : last_commit (ledger ++ e ∷ []) ≡ last_commit ledger = c ∙ ap (commit_after (last_commit ledger)) is in
          let g' : greatest_recorded (ledger_book layers keys) (ledger ++ e ∷ []) ≡ max (greatest_recorded (ledger_book layers keys) ledger) 0 =
          g ∙ ap (λ (x : Content). max (greatest_recorded (ledger_book layers keys) ledger) (if is_signature x then recorded_commit x else 0)) is in
          record { greatest = omega (arith, k.greatest); within = omega (arith, k.within) }
      go (content.Evidence d) is c g l =
          let c' : last_commit (ledger ++ e ∷ []) ≡ last_commit ledger = c ∙ ap (commit_after (last_commit ledger)) is in
          let g' : greatest_recorded (ledger_book layers keys) (ledger ++ e ∷ []) ≡ max (greatest_recorded (ledger_book layers keys) ledger) 0 =
          g ∙ ap (λ (x : Content). max (greatest_recorded (ledger_book layers keys) ledger) (if is_signature x then recorded_commit x else 0)) is in
          record { greatest = omega (arith, k.greatest); within = omega (arith, k.within) }

  none_kept : KeepsCommits []
  unfolding greatest_recorded
  none_kept = record { greatest = omega arith; within = omega arith }

  pub commits_kept : (ledger : List Entry) → EachFollows (ledger_book layers keys) ledger → KeepsCommits ledger
  commits_kept ledger z = follows_sound (ledger_book layers keys) KeepsCommits none_kept (λ log e f k d. kept log e k (unbroken layers keys log e d)) ledger z
