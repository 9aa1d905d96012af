-- The signatures of a ledger, and those of one with one more entry.
use Rattle.std.proofs.Common.{◌≡◌, ℕ, zero, suc, ◌<◌, ◌≤◌, List, [], ◌∷◌, ◌++◌, length, Some, Bool, true, false, refl, ◌∙◌, ap, arith}
use Rattle.std.specs.List.{slice_get}
use Rattle.gl_rules.specs.Log.{seqno_with_first}
use Rattle.gl_entry.specs.Entry.{is_signature}
use Rattle.gl_entry.specs.declared.entry.Content.{Content}
use Rattle.gl_entry.specs.declared.entry.Content.TheVariants as content
use Rattle.gl_entry.specs.declared.entry.Entry.{Entry}
use Rattle.gl_entry.specs.declared.entry.Signature as signatures
use Rattle.gl_ledger.specs.Signed.{IsSignedAt, IsSignedUpTo}
use Rattle.gl_ledger.specs.Past.{commit_after, commit_from, last_commit, last_signed}
use Rattle.gl_base.proofs.Lists.{slice_get-within, slice_get-append}

-- an entry that is no signature leaves the last one
pub last_signature-push : (ledger : List Entry) (e : Entry) → is_signature e.content ≡ false →
    last_signed (ledger ++ e ∷ []) ≡ last_signed ledger
last_signature-push [] e h = rw h refl
last_signature-push (f ∷ ledger) e h = ap (λ (n : ℕ). seqno_with_first (is_signature f.content) n) (last_signature-push ledger e h)

-- a signature is the last one, at its place
pub last_signature-signed : (ledger : List Entry) (e : Entry) → is_signature e.content ≡ true → last_signed (ledger ++ e ∷ []) ≡ suc (length ledger)
last_signature-signed [] e h = rw h refl
last_signature-signed (f ∷ ledger) e h = ap (λ (n : ℕ). seqno_with_first (is_signature f.content) n) (last_signature-signed ledger e h)

-- the same of the last commit
commit-push : (commit : ℕ) (ledger : List Entry) (e : Entry) → commit_from commit (ledger ++ e ∷ []) ≡ commit_after (commit_from commit ledger) e.content
commit-push commit [] e = refl
commit-push commit (f ∷ ledger) e = commit-push (commit_after commit f.content) ledger e

pub last_commit-push : (ledger : List Entry) (e : Entry) → is_signature e.content ≡ false → last_commit (ledger ++ e ∷ []) ≡ last_commit ledger
last_commit-push ledger e h = commit-push 0 ledger e ∙ stays e.content h
  where
    stays : (c : Content) → is_signature c ≡ false → commit_after (last_commit ledger) c ≡ last_commit ledger
    stays (content.Governance b) other = refl
    stays (content.Application b) other = refl
    stays (content.Signature s) other = absurd (cc)
    stays (content.Evidence d) other = refl

pub last_commit-signed : (ledger : List Entry) (e : Entry) (s : signatures.Signature) → e.content ≡ content.Signature s → last_commit (ledger ++ e ∷ []) ≡ s.commit
last_commit-signed ledger e s is = commit-push 0 ledger e ∙ ap (commit_after (last_commit ledger)) is

-- a signature stays at its place
pub signed_at-push : (ledger : List Entry) (e : Entry) (place : ℕ) → IsSignedAt ledger place → IsSignedAt (ledger ++ e ∷ []) place
signed_at-push ledger e zero h = absurd (let at = h.1 in cc)
signed_at-push ledger e (suc i) h = (h.0, slice_get-append ledger (e ∷ []) i h.0 h.1, h.2)

pub signed_up_to-push : (ledger : List Entry) (e : Entry) (place : ℕ) → IsSignedUpTo ledger place → IsSignedUpTo (ledger ++ e ∷ []) place
signed_up_to-push ledger e place h some = signed_at-push ledger e place (h some)

-- a signature's place is within the ledger
pub signed_within : (ledger : List Entry) (place : ℕ) → IsSignedUpTo ledger place → place ≤ length ledger
signed_within ledger zero h = omega arith
signed_within ledger (suc i) h =
    let signature = h (omega arith) in
    let inside : i < length ledger = slice_get-within ledger i signature.0 signature.1 in
    omega arith

-- a signature has the seqno of the last one
pub last_is_signed : (ledger : List Entry) (i : ℕ) → last_signed ledger ≡ suc i → (e : Entry) × (slice_get ledger i ≡ Some e) × (is_signature e.content ≡ true)
last_is_signed [] i is = absurd (omega arith)
last_is_signed (e ∷ es) i is = go (is_signature e.content) (last_signed es) i refl refl is (λ j q. last_is_signed es j q)
  where
    go : (b : Bool) (n : ℕ) (j : ℕ) → is_signature e.content ≡ b → last_signed es ≡ n → seqno_with_first b n ≡ suc j →
        ((k : ℕ) → last_signed es ≡ suc k → (f : Entry) × (slice_get es k ≡ Some f) × (is_signature f.content ≡ true)) →
        (f : Entry) × (slice_get (e ∷ es) j ≡ Some f) × (is_signature f.content ≡ true)
    go true zero zero signs none p again = (e, refl, signs)
    go true zero (suc j) signs none p again = absurd (omega arith)
    go false zero j signs none p again = absurd (omega arith)
    go b (suc n) zero signs some p again = absurd (let q : suc (suc n) ≡ suc zero = p in omega (arith, q))
    go b (suc n) (suc j) signs some p again =
        let q : last_signed es ≡ suc j = some ∙ (let r : suc (suc n) ≡ suc (suc j) = p in omega (arith, r)) in
        again j q

pub signed_at_last : (ledger : List Entry) → 0 < last_signed ledger → IsSignedAt ledger (last_signed ledger)
signed_at_last ledger some = go (last_signed ledger) refl some
  where
    go : (n : ℕ) → last_signed ledger ≡ n → 0 < n → IsSignedAt ledger n
    go zero is p = absurd (omega arith)
    go (suc i) is p = last_is_signed ledger i is

-- the last entry is a signature where the last signature stands at the ledger's length, and nowhere
-- else
pub last_if_signed : (ledger : List Entry) (i : ℕ) (e : Entry) → length ledger ≡ suc i → slice_get ledger i ≡ Some e → is_signature e.content ≡ true → last_signed ledger ≡ suc i
last_if_signed [] i e long at signs = absurd (omega arith)
last_if_signed (f ∷ []) zero e long at signs = let p : f ≡ e = cc in rw (p, signs) refl
last_if_signed (f ∷ []) (suc i) e long at signs = absurd (omega arith)
last_if_signed (f ∷ g ∷ es) zero e long at signs = absurd (omega arith)
last_if_signed (f ∷ g ∷ es) (suc i) e long at signs =
    ap (λ (n : ℕ). seqno_with_first (is_signature f.content) n) (last_if_signed (g ∷ es) i e (omega arith) at signs)
