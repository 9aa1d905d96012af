-- What an entry that breaks no rule has passed, where of the entries before it those up to a base
-- count as signatures.
use Rattle.std.proofs.Common.{◌≡◌, ℕ, zero, suc, List, Bool, true, false, ◌&&◌, ◌||◌, nat_lt, nat_le, None, refl, sym, ◌∙◌, ap, arith}
use Rattle.std.proofs.Math.Path.{fun_ext}
use Rattle.std.proofs.lemmas.Bool.Decides.{nat_tests}
use Rattle.gl_rules.specs.Log.{entry_at}
use Rattle.gl_entry.specs.declared.entry.Entry.{Entry}
use Rattle.gl_ledger.specs.Layers.{Layers}
use Rattle.gl_ledger.specs.Past.{Past, past_from, past_of, signs_at}
use Rattle.gl_ledger.specs.Broken.{broken_after, broken, broken_from}
use Rattle.gl_ledger.proofs.Passing.{PassesAfter, passing_after}

-- without a base no entry counts as a signature that is none
pub none_counts : (ledger : List Entry) → past_from 0 ledger ≡ past_of ledger
none_counts ledger = ap (λ (f : ℕ → Bool). record (past_of ledger) { signs_at = f }) (fun_ext at)
  where
    at : (seqno : ℕ) → ((nat_lt 0 seqno && nat_le seqno 0) || signs_at (entry_at ledger seqno)) ≡ signs_at (entry_at ledger seqno)
    at zero = refl
    at (suc n) = go (nat_lt 0 (suc n)) (nat_le (suc n) 0) (grind (arith, nat_tests))
      where
        go : (a b : Bool) → b ≡ false → ((a && b) || signs_at (entry_at ledger (suc n))) ≡ signs_at (entry_at ledger (suc n))
        go true true is = absurd (cc)
        go false true is = absurd (cc)
        go true false is = refl
        go false false is = refl

-- the rules are told by one past at each base
pub told_from : (layers : Layers) (base : ℕ) (ledger : List Entry) (e : Entry) → broken_from layers base ledger e ≡ broken_after layers (past_from base ledger) e
unfolding broken
told_from layers zero ledger e = ap (λ (p : Past). broken_after layers p e) (sym (none_counts ledger))
told_from layers (suc before) ledger e = refl

pub passing_from : (layers : Layers) (base : ℕ) (ledger : List Entry) (e : Entry) → broken_from layers base ledger e ≡ None → PassesAfter layers (past_from base ledger) e
passing_from layers base ledger e h = passing_after layers (past_from base ledger) e (sym (told_from layers base ledger e) ∙ h)
