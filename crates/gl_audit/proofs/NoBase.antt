-- What is said of entries behind no base is what is said of a whole ledger.
use Rattle.std.proofs.Common.{◌≡◌, ℕ, zero, suc, ◌+◌, ◌-◌, List, [], Bool, true, false, ◌&&◌, ◌||◌, nat_lt, nat_le, ◌==◌, if◌then◌else◌, refl, sym, ◌∙◌, ap, arith}
use Rattle.std.proofs.lemmas.Bool.Decides.{nat_tests}
use Rattle.gl_merkle.specs.Peaks.{peaks_of, peaks_within, root_of_peaks}
use Rattle.gl_merkle.specs.Tree.{root_of}
use Rattle.gl_merkle.proofs.MorePeaks.{peaks_of-more, root_of-peaks}
use Rattle.gl_rules.specs.Log.{entry_at}
use Rattle.gl_entry.specs.declared.entry.Entry.{Entry}
use Rattle.gl_snapshot_body.specs.Body.{no_body}
use Rattle.gl_ledger.specs.Tree.{leaves_of}
use Rattle.gl_ledger.specs.Past.{last_signed, last_signed_over, signs_at, signs_over}
use Rattle.gl_ledger.specs.Snapshot.{all_peaks}

pub peaks_whole : (es : List Entry) → all_peaks no_body es ≡ peaks_of (leaves_of es)
unfolding peaks_of peaks_within
peaks_whole es = sym (peaks_of-more [] (leaves_of es))

pub root_whole : (es : List Entry) → root_of_peaks (all_peaks no_body es) ≡ root_of (leaves_of es)
root_whole es = ap root_of_peaks (peaks_whole es) ∙ sym (root_of-peaks (leaves_of es))

pub signs_whole : (es : List Entry) (seqno : ℕ) → signs_over no_body es seqno ≡ signs_at (entry_at es seqno)
signs_whole es zero = refl
signs_whole es (suc n) = go (nat_lt 0 (suc n)) (nat_le (suc n) 0) (grind (arith, nat_tests)) ∙ ap (λ (k : ℕ). signs_at (entry_at es k)) (let same : suc n - 0 ≡ suc n = omega arith in same)
  where
    go : (a b : Bool) → b ≡ false → ((a && b) || signs_at (entry_at es (suc n - 0))) ≡ signs_at (entry_at es (suc n - 0))
    go true true is = absurd (cc)
    go false true is = absurd (cc)
    go true false is = refl
    go false false is = refl

counted : (n : ℕ) (b : Bool) → (n == 0) ≡ b → (if b then 0 else 0 + n) ≡ n
counted n true is = let none : n ≡ 0 = grind (arith, nat_tests, is) in sym none
counted n false is = omega arith

pub last_signed_whole : (es : List Entry) → last_signed_over no_body es ≡ last_signed es
last_signed_whole es = counted (last_signed es) (last_signed es == 0) refl
