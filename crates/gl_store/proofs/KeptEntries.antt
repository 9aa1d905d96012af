-- What a store keeps: of no entries, with one more entry, and with a cut ledger.
use Rattle.std.proofs.Common.{◌≡◌, ℕ, ◌+◌, ◌-◌, ◌≤◌, List, [], ◌∷◌, ◌++◌, length, take, Result, Ok, Err, OnOk, OnErr, sym, ◌∙◌, ap, subst, arith, length-append}
use Rattle.std.proofs.lemmas.List.{length-take-le}
use Rattle.gl_entry.specs.declared.entry.Entry.{Entry}
use Rattle.gl_snapshot_body.specs.Body.{no_body}
use Rattle.gl_snapshot_body.specs.declared.body.Body.{Body}
use Rattle.gl_ledger.specs.Signed.{IsSignedUpTo}
use Rattle.gl_ledger.proofs.Signatures.{signed_up_to-push}
use Rattle.gl_audit.specs.Committed.{Held}
use Rattle.gl_audit.specs.Kept.{IsStateOf}
use Rattle.gl_audit.specs.declared.ledger_state.LedgerState.{LedgerState}
use Rattle.gl_audit.proofs.Cutting.{signed_up_to-take}
use Rattle.gl_store.specs.Kept.{IsKept}
use Rattle.gl_store.specs.Tail.{Becomes, StandsBehind, Tail}
use Rattle.gl_store.proofs.Tails.{same_base}

pub kept_empty : (t : Tail) → t.entries ≡ [] → StandsBehind no_body t → IsKept t 0
kept_empty t none stands = record { stands = stands; within = omega arith; committed = λ some. absurd (omega arith) }

-- a store that adds an entry
pub kept-push : (old new : Tail) (commit : ℕ) (e : Entry) → IsKept old commit → new.entries ≡ old.entries ++ e ∷ [] → StandsBehind no_body new → IsKept new commit
kept-push old new commit e k pushed stands = record {
  stands = stands;
  within = let long : length (old.entries ++ e ∷ []) ≡ length old.entries + 1 = length-append old.entries (e ∷ []) in
      let same : length new.entries ≡ length (old.entries ++ e ∷ []) = ap length pushed in
      let within = k.within in omega (arith, within, long, same);
  committed = subst (λ (es : List Entry). IsSignedUpTo es commit) (sym pushed) (signed_up_to-push old.entries e commit k.committed);
}

-- and one that doesn't
pub kept_still : (old new : Tail) (commit : ℕ) → IsKept old commit → new.entries ≡ old.entries → StandsBehind no_body new → IsKept new commit
kept_still old new commit k same stands = record {
  stands = stands;
  within = subst (λ (es : List Entry). commit ≤ length es) (sym same) k.within;
  committed = subst (λ (es : List Entry). IsSignedUpTo es commit) (sym same) k.committed;
}

pub kept_becomes : (old new : Tail) (commit : ℕ) → IsKept old commit → Becomes old old.entries new → IsKept new commit
kept_becomes old new commit k b = kept_still old new commit k b.entries (b.stands no_body k.stands)

pub kept-cut : (old new : Tail) (commit to : ℕ) → IsKept old commit → commit ≤ to → to ≤ length old.entries → new.entries ≡ take (to - 0) old.entries → StandsBehind no_body new → IsKept new commit
kept-cut old new commit to k committed within cut stands =
    let all : to - 0 ≡ to = omega arith in
    let left : new.entries ≡ take to old.entries = cut ∙ ap (λ (n : ℕ). take n old.entries) all in
    record {
      stands = stands;
      within = let long : length (take to old.entries) ≡ to = length-take-le to old.entries within in
          let same : length new.entries ≡ length (take to old.entries) = ap length left in
          omega (arith, long, same, committed);
      committed = subst (λ (es : List Entry). IsSignedUpTo es commit) (sym left) (signed_up_to-take old.entries to commit committed k.committed);
    }

-- an entry was added, or memory ran out
pub kept_pushed : {X E : Type 0} (r : Result X E) (old new : Tail) (commit : ℕ) (e : Entry) → IsKept old commit → OnOk r (new.entries ≡ old.entries ++ e ∷ []) → OnOk r (StandsBehind no_body new) →
    OnErr r (Becomes old old.entries new) → IsKept new commit
kept_pushed (Ok x) old new commit e k grown stands err = kept-push old new commit e k grown stands
kept_pushed (Err y) old new commit e k grown stands err = kept_becomes old new commit k err

-- the state of a store is that of its ledger
pub state_of : (t : Tail) (commit : ℕ) (s : LedgerState) → IsKept t commit → s ≡ t.state → IsStateOf t.entries s
state_of t commit s k is = subst (IsStateOf t.entries) (sym is) k.stands.stands

-- each body behind which it stands has no base
pub none_below : (t : Tail) (commit : ℕ) (body : Body) → IsKept t commit → StandsBehind body t → body.base ≡ 0
none_below t commit body k s = same_base body no_body t s k.stands

-- ---- what is seen of a store

pub held_grown : (old new : Tail) (commit : ℕ) (h : Held) (e : Entry) → record { ledger = old.entries; commit = commit } ≡ h → new.entries ≡ old.entries ++ e ∷ [] →
    record { ledger = new.entries; commit = commit } ≡ record h { ledger = h.ledger ++ e ∷ [] }
held_grown old new commit h e seen grown = ap (λ (es : List Entry). record { ledger = es; commit = commit }) grown ∙ ap (λ (x : Held). record x { ledger = x.ledger ++ e ∷ [] }) seen

pub held_still : (old new : Tail) (commit : ℕ) (h : Held) → record { ledger = old.entries; commit = commit } ≡ h → Becomes old old.entries new → record { ledger = new.entries; commit = commit } ≡ h
held_still old new commit h seen b = ap (λ (es : List Entry). record { ledger = es; commit = commit }) b.entries ∙ seen

pub held-cut : (old new : Tail) (commit to : ℕ) (h : Held) → record { ledger = old.entries; commit = commit } ≡ h → new.entries ≡ take (to - 0) old.entries →
    record { ledger = new.entries; commit = commit } ≡ record h { ledger = take to h.ledger }
held-cut old new commit to h seen cut =
    let all : to - 0 ≡ to = omega arith in
    ap (λ (es : List Entry). record { ledger = es; commit = commit }) (cut ∙ ap (λ (n : ℕ). take n old.entries) all) ∙ ap (λ (x : Held). record x { ledger = take to x.ledger }) seen
