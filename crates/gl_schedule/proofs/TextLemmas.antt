-- The text of new messages, and of refusals.
use Rattle.std.proofs.Common.{◌≡◌, ℕ, suc, ◌+◌, ◌-◌, ◌<◌, ◌≤◌, List, [], ◌∷◌, ◌++◌, codes, decimal, false, Some, option_map, refl, sym, ◌∙◌, ap, arith, append_assoc, append-nil}
use Rattle.gl_rules.specs.Outcome as outcome
use Rattle.gl_replication.specs.Stands.{Answers}
use Rattle.gl_replication.specs.declared.done.Refusal.TheVariants as refusals
use Rattle.gl_ledger.specs.declared.response.Rejection.{Rejection}
use Rattle.gl_world.specs.declared.settings.Settings.{Settings}
use Rattle.gl_world.specs.Founding.{numbers_from}
use Rattle.gl_world.specs.WorldNodes.{ServiceRefusal}
use Rattle.gl_world.specs.World.{ServiceOutcome}
use Rattle.gl_world.specs.Happened.{is_no_memory}
use Rattle.gl_answers.specs.Reasons.{reason_of, seen_refusal}
use Rattle.gl_answers.specs.declared.value.Reason.{Reason}
use Rattle.gl_answers.proofs.Refused.{refused_for}
use Rattle.gl_schedule.specs.Text.{new_messages, outcome_text, reason_text, with_numbers}

-- numbers after a longer text
numbers_after : (prefix text : List ℕ) (ns : List ℕ) → with_numbers (prefix ++ text) ns ≡ prefix ++ with_numbers text ns
numbers_after prefix text [] = refl
numbers_after prefix text (n ∷ ns) =
    ap (λ (u : List ℕ). with_numbers (u ++ decimal n) ns) (append_assoc prefix text (codes " "))
    ∙ ap (λ (u : List ℕ). with_numbers u ns) (append_assoc prefix (text ++ codes " ") (decimal n))
    ∙ numbers_after prefix (text ++ codes " " ++ decimal n) ns

-- one number more is written
pub number_more : (out new whole : List ℕ) (i now : ℕ) → i < now → new ≡ out ++ (codes " " ++ decimal (i + 1)) → with_numbers out (numbers_from (i + 1) (now - i)) ≡ whole →
    with_numbers new (numbers_from (i + 1 + 1) (now - (i + 1))) ≡ whole
number_more out new whole i now below pushed before = sym one ∙ before
  where
    one : with_numbers out (numbers_from (i + 1) (now - i)) ≡ with_numbers new (numbers_from (i + 1 + 1) (now - (i + 1)))
    one =
        let count : now - i ≡ suc (now - (i + 1)) = omega arith in
        let next : suc (i + 1) ≡ i + 1 + 1 = omega arith in
        ap (λ (k : ℕ). with_numbers out (numbers_from (i + 1) k)) count
        ∙ ap (λ (u : List ℕ). with_numbers u (numbers_from (suc (i + 1)) (now - (i + 1)))) (append_assoc out (codes " ") (decimal (i + 1)) ∙ sym pushed)
        ∙ ap (λ (k : ℕ). with_numbers new (numbers_from k (now - (i + 1)))) next

-- no number is left
pub no_more : (out : List ℕ) (first i now : ℕ) → now ≤ i → with_numbers out (numbers_from first (now - i)) ≡ out
no_more out first i now past = let none : now - i ≡ 0 = omega arith in ap (λ (k : ℕ). with_numbers out (numbers_from first k)) none

-- there is a new message
pub some_sent : (prefix : List ℕ) (before now : ℕ) → before < now → with_numbers (prefix ++ codes " sent") (numbers_from (before + 1) (now - before)) ≡ prefix ++ new_messages (now - before) before
some_sent prefix before now more =
    let count : now - before ≡ suc (now - before - 1) = omega arith in
    numbers_after prefix (codes " sent") (numbers_from (before + 1) (now - before))
    ∙ ap (λ (k : ℕ). prefix ++ with_numbers (codes " sent") (numbers_from (before + 1) k)) count
    ∙ ap (λ (k : ℕ). prefix ++ new_messages k before) (sym count)

-- there is none
pub none_sent : (prefix : List ℕ) (before now : ℕ) → now ≤ before → prefix ≡ prefix ++ new_messages (now - before) before
none_sent prefix before now none =
    let count : now - before ≡ 0 = omega arith in
    sym (ap (λ (k : ℕ). prefix ++ new_messages k before) count ∙ append-nil prefix)

-- a refusal that is reported for a reason isn't running out of memory
pub printed_other : {S : Type 0} (why : ServiceRefusal S) (reason : Reason) → Some reason ≡ option_map reason_of (seen_refusal why) → is_no_memory why ≡ false
printed_other refusals.NoMemory reason printed = absurd (cc)
printed_other (refusals.NotPrimary view leader) reason printed = refl
printed_other (refusals.TooManyPending limit) reason printed = refl
printed_other (refusals.NotReserved reserved) reason printed = refl
printed_other (refusals.KeyExhausted reserved) reason printed = refl
printed_other (refusals.NothingToSign seqno) reason printed = refl
printed_other (refusals.RemovalNotCommitted seqno commit) reason printed = refl
printed_other (refusals.BelowCommit commit seqno) reason printed = refl
printed_other refusals.NotPeer reason printed = refl
printed_other (refusals.BelowBase base) reason printed = refl
printed_other refusals.ViewLimit reason printed = refl
printed_other (refusals.NoLaterSignature commit) reason printed = refl
printed_other (refusals.ByLedger why) reason printed = refl

-- a refusal other than running out of memory is the one that the rules know
pub refused_by : {S : Type 0} (why : ServiceRefusal S) (o : ServiceOutcome) → is_no_memory why ≡ false → Answers why o → (r : outcome.Refusal Rejection) × (seen_refusal why ≡ Some r) × (o ≡ outcome.Refused r)
refused_by refusals.NoMemory o other answers = absurd (cc)
refused_by (refusals.NotPrimary view leader) o other answers = (outcome.NotPrimary view leader, refl, answers)
refused_by (refusals.TooManyPending limit) o other answers = (outcome.TooManyPending limit, refl, answers)
refused_by (refusals.NotReserved reserved) o other answers = (outcome.NotReserved reserved, refl, answers)
refused_by (refusals.KeyExhausted reserved) o other answers = (outcome.KeyExhausted reserved, refl, answers)
refused_by (refusals.NothingToSign seqno) o other answers = (outcome.NothingToSign seqno, refl, answers)
refused_by (refusals.RemovalNotCommitted seqno commit) o other answers = (outcome.RemovalNotCommitted seqno commit, refl, answers)
refused_by (refusals.BelowCommit commit seqno) o other answers = (outcome.BelowCommit commit seqno, refl, answers)
refused_by refusals.NotPeer o other answers = (outcome.NotPeer, refl, answers)
refused_by (refusals.BelowBase base) o other answers = (outcome.BelowBase base, refl, answers)
refused_by refusals.ViewLimit o other answers = (outcome.ViewLimit, refl, answers)
refused_by (refusals.NoLaterSignature commit) o other answers = (outcome.NoLaterSignature commit, refl, answers)
refused_by (refusals.ByLedger why) o other answers = (outcome.ByLedger why, refl, answers)

-- its text is that of the outcome
pub refusal_printed : {S : Type 0} (s : Settings) (why : ServiceRefusal S) (reason : Reason) (o : ServiceOutcome) (prefix begun whole : List ℕ) → Some reason ≡ option_map reason_of (seen_refusal why) →
    Answers why o → begun ≡ prefix ++ codes "refused " → whole ≡ begun ++ reason_text s reason → whole ≡ prefix ++ outcome_text s o
refusal_printed s why reason o prefix begun whole printed answers is written =
    let p = refused_for why reason o printed answers in
    written
    ∙ ap (λ (l : List ℕ). l ++ reason_text s reason) is
    ∙ append_assoc prefix (codes "refused ") (reason_text s reason)
    ∙ ap (λ (r : Reason). prefix ++ (codes "refused " ++ reason_text s r)) p.1
    ∙ ap (λ (q : ServiceOutcome). prefix ++ outcome_text s q) (sym p.2)
