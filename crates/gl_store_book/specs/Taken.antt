-- What a ledger takes for a request, and what it refuses.
use Rattle.std.specs.Prelude.{◌≡◌, ℕ, List, [], ◌∷◌, ◌++◌, Option, None, Some, Result, Ok, Err}
use Rattle.gl_base.specs.declared.or_no_memory.OrNoMemory.{OrNoMemory}
use Rattle.gl_base.specs.declared.or_no_memory.OrNoMemory.TheVariants.{NoMemory, Fault}
use Rattle.gl_entry.specs.declared.entry.Content.{Content}
use Rattle.gl_entry.specs.declared.entry.Content.TheVariants as content
use Rattle.gl_entry.specs.declared.entry.Entry.{Entry}
use Rattle.gl_tx.specs.declared.request.Operation.{Operation}
use Rattle.gl_requests.specs.declared.request.GovernanceRequest.{GovernanceRequest}
use Rattle.gl_rules.specs.Identity.{NodeId}
use Rattle.gl_ledger.specs.Ledger.{sign_after}
use Rattle.gl_ledger.specs.Makers.{by_store}
use Rattle.gl_ledger.specs.NodeKeys.{NodeKeys, service_layers}
use Rattle.gl_ledger.specs.declared.breach.Broken.{Broken}
use Rattle.gl_ledger.specs.declared.response.Response.{Response}
use Rattle.gl_ledger.specs.declared.response.Rejection.{Rejection}
use Rattle.gl_ledger.specs.LedgerBook.{by_rule}
use Rattle.gl_ledger.specs.declared.response.Rejection.TheVariants.{ByRule}
use Rattle.gl_ledger_base.specs.BookOver.{evidence_over, execute_over, govern_over, signature_over, unless_first}
use Rattle.gl_store_book.specs.BasedLedgers.{BasedLedger, body_of, broken_after, past_of, with_entries}

-- The entry records no request of governance.
abbrev pub IsNoGovernance : Content → Type 0
IsNoGovernance (content.Governance bytes) = ⊥
IsNoGovernance (content.Application bytes) = Unit {0}
IsNoGovernance (content.Signature s) = Unit {0}
IsNoGovernance (content.Evidence d) = Unit {0}

-- What a request of an application comes to after a ledger, tried by the rules of the audit.
abbrev pub executed : BasedLedger → ℕ → List Operation → Result (Entry × Response) Rejection
executed l view q = execute_over service_layers (body_of l.snapshot) l.entries view q

-- The same of a request of governance.
abbrev pub governed : BasedLedger → ℕ → GovernanceRequest → Result (Entry × Response) Rejection
governed l view g = govern_over service_layers (body_of l.snapshot) l.entries view g

-- The same of an evidence.
abbrev pub evident : BasedLedger → ℕ → Result Entry Rejection
evident l view = evidence_over service_layers (body_of l.snapshot) l.entries view

-- A node's signature with one of its leaves after a ledger, which records a commit.
abbrev pub signed : NodeKeys → BasedLedger → NodeId → ℕ → ℕ → ℕ → Result Entry Rejection
signed keys l x leaf view commit =
    let bytes = signature_over keys (body_of l.snapshot) l.entries x leaf view commit in
    unless_first (past_of l).last (by_store (sign_after x bytes (past_of l) view commit))

-- A refusal for the rule that is broken; memory may run out at any time.
abbrev pub RefusesFor : Option Broken → OrNoMemory Rejection → Type 0
RefusesFor expected NoMemory = Unit {0}
RefusesFor expected (Fault why) = by_rule expected ≡ Some why

-- The ledger with one more entry, which was owed, and is of this view.
pub record TakesEntry (expected : Result Entry Rejection) (view : ℕ) (old new : BasedLedger) :
    Type 0 where
  pub entry : Entry
  pub made : expected ≡ Ok entry
  pub in_view : entry.view ≡ view
  pub entered : new ≡ with_entries old (old.entries ++ entry ∷ [])

-- The same of an entry that was owed with this answer.
pub record Takes (expected : Result (Entry × Response) Rejection) (view : ℕ) (given : Response)
    (old new : BasedLedger) : Type 0 where
  pub entry : Entry
  pub made : expected ≡ Ok (entry, given)
  pub in_view : entry.view ≡ view
  pub entered : new ≡ with_entries old (old.entries ++ entry ∷ [])

abbrev pub unless_breaks : Option Broken → Result BasedLedger Rejection →
    Result BasedLedger Rejection
unless_breaks None taken = taken
unless_breaks (Some why) taken = Err (ByRule why)

-- The ledger with these entries after its own, or why the first of them is refused that breaks a
-- rule after those before it.
unfoldable pub appended : BasedLedger → List Entry → Result BasedLedger Rejection
appended l [] = Ok l
appended l (e ∷ es) =
    unless_breaks (broken_after l e) (appended (with_entries l (l.entries ++ e ∷ [])) es)
