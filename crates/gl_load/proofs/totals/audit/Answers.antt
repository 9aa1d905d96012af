use Rattle.std.proofs.Common.{◌≡◌, [], ◌∷◌, ◌++◌, None, Some, Result, Ok, Err, OnOk, subst}
use Rattle.gl_base.specs.declared.or_no_memory.OrNoMemory.{OrNoMemory}
use Rattle.gl_ledger.specs.Broken.{broken}
use Rattle.gl_ledger.specs.NodeKeys.{service_layers}
use Rattle.gl_ledger.specs.declared.breach.Broken.{Broken}
use Rattle.gl_audit.specs.Kept.{Breaks}
use Rattle.gl_load.proofs.totals.audit.Goals as goal

pub apply-requires : goal.apply-requires
apply-requires c = record { state = (_, c.requires.0, c.requires.1) }

pub unreachable-requires : goal.unreachable-requires
unreachable-requires c =
    let found = broken service_layers c.requires.0 c.args.entry.now in
    let is : found ≡ Some c.in-Err-Fault.field-0-0 = subst (λ (e : OrNoMemory Broken). Breaks found e) c.in-Err-Fault.field-0-is (c.in-Err-Fault.ensures.refused _ c.requires.0 c.requires.1) in
    let none : found ≡ None = c.requires.2 in
    cc

always : {X E : Type 0} (r : Result X E) (P : Type 0) → P → OnOk r P
always (Ok x) P p = p
always (Err e) P p = tt

pub returns-then-matches : goal.returns-then-matches
returns-then-matches c = always c.settle.result _ (λ ledger k. c.settle.ensures.state _ (ledger ++ c.args.entry.now ∷ []) (c.in-Ok.ensures.grown _ ledger k))

pub returns-else-matches : goal.returns-else-matches
returns-else-matches c = λ ledger k. c.in-Ok.ensures.grown _ ledger k
