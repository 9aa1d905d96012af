-- What stays where nothing was written.
use Rattle.std.proofs.Common.{◌≡◌, inl, ℕ, List, Result, Ok, OnOk, sym, subst}
use Rattle.gl_outside.specs.Disk.{Step, Leaves}
use Rattle.gl_outside.proofs.Moments.{started, stayed}
use Rattle.gl_journal.specs.Stops.{IsSettled}
use Rattle.gl_journal.specs.Kept.{IsAtRest, IsKept}
use Rattle.gl_journal.specs.Parts.{HasGate}
use Rattle.gl_journal.specs.Durable.{Durable, LogRules, durable, journal_header, OpensToOneOf}
use Rattle.gl_journal.specs.declared.journal.Journal.{Journal}
use Rattle.gl_journal.proofs.Appending.{settled_gate}

settled_here : (goes_on : LogRules) (place : ℕ) (bytes : List ℕ) (past after : List Step) (state next : Durable) → IsSettled journal_header place bytes past → durable goes_on bytes ≡ Ok state → after ≡ past → Leaves (OpensToOneOf goes_on state next) past after
settled_here goes_on place bytes past after state next settled is same =
    let P = OpensToOneOf goes_on state next in
    let here : P bytes = (settled_gate journal_header place bytes past settled, inl is) in
    stayed P past past after (started P past (λ image left. subst P (sym (settled.kept image left)) here)) same

-- nothing was done to a settled journal
pub none_done : {D : Type 0} (goes_on : LogRules) (bytes : D → List ℕ) (past : D → List Step) (journal : Journal D) (after : List Step) (state next : Durable) → IsKept bytes past journal → durable goes_on (bytes journal.gated.disk) ≡ Ok state → after ≡ past journal.gated.disk
    → Leaves (OpensToOneOf goes_on state next) (past journal.gated.disk) after
none_done goes_on bytes past journal after state next kept is same =
    settled_here goes_on journal.gated.place (bytes journal.gated.disk) (past journal.gated.disk) after state next
    (subst (λ (header : List ℕ). IsSettled header journal.gated.place (bytes journal.gated.disk) (past journal.gated.disk)) kept.header kept.settled) is same

-- a settled journal is at rest
pub at_rest : {D : Type 0} (bytes : D → List ℕ) (past : D → List Step) (journal : Journal D) → IsKept bytes past journal → IsAtRest (bytes journal.gated.disk) (past journal.gated.disk)
at_rest bytes past journal kept =
    let disk = journal.gated.disk in
    record {
      gate = subst (λ (header : List ℕ). HasGate header (bytes disk)) kept.header (settled_gate journal.gated.header journal.gated.place (bytes disk) (past disk) kept.settled);
      only = kept.settled.kept;
    }

-- what holds where a call succeeds, and it did
pub of_ok : {T E A : Type 0} (result : Result T E) (value : T) → result ≡ Ok value → OnOk result A → A
of_ok {A = A} result value is here = let P : Result _ _ → Type 0 = λ r. OnOk r A in subst P is here
