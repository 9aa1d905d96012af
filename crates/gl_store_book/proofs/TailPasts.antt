-- What is known of a ledger by the tail of its entries above the base.
use Rattle.std.proofs.Common.{◌≡◌, ℕ, zero, suc, List, refl, ap, subst, ◌∙◌}
use Rattle.gl_entry.specs.declared.entry.Entry.{Entry}
use Rattle.gl_gov_rules.specs.History.{History}
use Rattle.gl_snapshot_body.specs.declared.body.Body.{Body}
use Rattle.gl_ledger.specs.Past.{Past, is_unopened, past_over}
use Rattle.gl_ledger.specs.Recordings.{last_entry}
use Rattle.gl_ledger.specs.Snapshot.{governed_base, requests_over}
use Rattle.gl_audit.specs.Ends.{end_at, end_over}
use Rattle.gl_audit.specs.GovState.{Governed, history_of}
use Rattle.gl_store.specs.Tail.{ForBodies, StandsBehind, Tail}
use Rattle.gl_store_book.specs.BasedLedgers as based
use Rattle.gl_store_book.specs.BasedLedgers.{BasedLedger, body_of, governed_of}

-- what holds of each past of a tail holds of the ledger's
pub told_of : (l : BasedLedger) (t : Tail) (P : Past → Type 0) → t.entries ≡ l.entries → StandsBehind (body_of l.snapshot) t → ForBodies t (λ body. P (past_over body t.entries)) → P (based.past_of l)
told_of l t P entries stands each = subst (λ (es : List Entry). P (past_over (body_of l.snapshot) es)) entries (each (body_of l.snapshot) stands)

module _ (l : BasedLedger) (t : Tail) (entries : t.entries ≡ l.entries) (stands : StandsBehind (body_of l.snapshot) t) where
  pub gov_is : t.state.gov ≡ governed_of l
  gov_is =
      stands.stands.governed
      ∙ ap (λ (es : List Entry). record { base = governed_base (body_of l.snapshot); requests = requests_over (body_of l.snapshot) es }) entries

  pub history_is : (gov : Governed) (past : History) → gov ≡ t.state.gov → past ≡ history_of gov → past ≡ history_of (governed_of l)
  history_is gov past same is = is ∙ ap history_of (same ∙ gov_is)

-- a service begins with the last entry
pub unopened_over : (body : Body) (es : List Entry) → (end_over body es).is_unopened ≡ is_unopened (last_entry es)
unopened_over body es = go body.base
  where
    go : (n : ℕ) → (end_at n body es).is_unopened ≡ is_unopened (last_entry es)
    go zero = refl
    go (suc n) = refl
