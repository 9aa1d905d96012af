-- Entries that are appended to a ledger are appended to those behind a body that stands for it.
use Rattle.std.proofs.Common.{◌≡◌, List, [], ◌∷◌, ◌++◌, length, take, Option, Some, None, Ok, Err, sym, ◌∙◌, ap, arith, append-nil, append_assoc}
use Rattle.std.proofs.Math.Seq.{take-append_seam}
use Rattle.gl_rules.specs.Replication.{checked_append, unless_broken}
use Rattle.gl_entry.specs.declared.entry.Entry.{Entry}
use Rattle.gl_snapshot_body.specs.declared.body.Body.{Body}
use Rattle.gl_ledger.specs.Audit.{audited_over}
use Rattle.gl_ledger.specs.Broken.{broken_over}
use Rattle.gl_ledger.specs.Layers.{Layers}
use Rattle.gl_ledger.specs.LedgerBook.{ServiceBook, by_rule, ledger_book}
use Rattle.gl_ledger.specs.NodeKeys.{NodeKeys}
use Rattle.gl_ledger.specs.declared.breach.Broken.{Broken}
use Rattle.gl_ledger.specs.declared.response.Rejection.{Rejection}
use Rattle.gl_ledger.specs.declared.response.Rejection.TheVariants.{ByRule}
use Rattle.gl_ledger_base.specs.Ledgers.{HoldsLedger}
use Rattle.gl_ledger.proofs.EachPassing.{all_over, each_over, passes-push}
use Rattle.gl_ledger_base.proofs.LedgersHeld.{held_broken}
use Rattle.gl_ledger_base.proofs.LedgersReads.{valid_cut}
use Rattle.gl_ledger_base.proofs.LedgersTold.{behind_first}

pub held_more : (layers : Layers) (body : Body) (es ledger : List Entry) → HoldsLedger layers body es ledger → (more : List Entry) → HoldsLedger layers body (es ++ more) (ledger ++ more)
held_more layers body es ledger holds more = record {
  below = holds.below;
  base = holds.base;
  whole = ap (λ (l : List Entry). l ++ more) holds.whole ∙ append_assoc holds.below es more;
}

-- with one more that breaks no rule they break none
pub valid_more : (layers : Layers) (body : Body) (es : List Entry) (e : Entry) → audited_over layers body es ≡ None → broken_over layers body es e ≡ None → audited_over layers body (es ++ e ∷ []) ≡ None
valid_more layers body es e h one = all_over layers body (es ++ e ∷ []) (passes-push (broken_over layers body) es e (each_over layers body es h) one)

module _ (layers : Layers) (body : Body) where
  record BothPass (es : List Entry) (e : Entry) : Type 0 where
    before : audited_over layers body es ≡ None
    one : broken_over layers body es e ≡ None

  -- where all break no rule, the first ones break none, nor the next
  both_pass : (es : List Entry) (e : Entry) (more : List Entry) → audited_over layers body (es ++ e ∷ more) ≡ None → BothPass es e
  both_pass es e more h =
      let seam : es ≡ take (length es) (es ++ e ∷ more) = sym (take-append_seam es (e ∷ more)) in
      record {
        before = ap (audited_over layers body) seam ∙ valid_cut layers body (es ++ e ∷ more) (length es) h;
        one = ap (λ (l : List Entry). broken_over layers body l e) seam
            ∙ each_over layers body (es ++ e ∷ more) h (length es) e (behind_first es (e ∷ more) 0 (length es) (omega arith));
      }

  module _ (keys : NodeKeys) where
    abbrev b : ServiceBook
    b = ledger_book layers keys

    -- an entry breaks the same rule behind the body as in the book
    pub read_breaks : (es ledger : List Entry) → HoldsLedger layers body es ledger → audited_over layers body es ≡ None → (e : Entry) → by_rule (broken_over layers body es e) ≡ b.breaks body.base ledger e
    read_breaks es ledger holds valid e = ap by_rule (held_broken layers body es ledger holds valid e)

    next_passes : (es ledger : List Entry) → HoldsLedger layers body es ledger → (e : Entry) (more : List Entry) → BothPass es e →
        checked_append b body.base ledger (e ∷ more) ≡ checked_append b body.base (ledger ++ e ∷ []) more
    unfolding checked_append
    next_passes es ledger holds e more both =
        ap (λ (o : Option Rejection). unless_broken b o (checked_append b body.base (ledger ++ e ∷ []) more))
        (sym (read_breaks es ledger holds both.before e) ∙ ap by_rule both.one)

    pub read_appended : (es ledger more : List Entry) → HoldsLedger layers body es ledger → audited_over layers body (es ++ more) ≡ None → checked_append b body.base ledger more ≡ Ok (ledger ++ more)
    unfolding checked_append
    read_appended es ledger [] holds valid = ap (λ (l : List Entry). Ok l) (sym (append-nil ledger))
    read_appended es ledger (e ∷ more) holds valid =
        next_passes es ledger holds e more (both_pass es e more valid)
        ∙ read_appended (es ++ e ∷ []) (ledger ++ e ∷ []) more (held_more layers body es ledger holds (e ∷ [])) (ap (audited_over layers body) (append_assoc es (e ∷ []) more) ∙ valid)
        ∙ ap (λ (l : List Entry). Ok l) (append_assoc ledger (e ∷ []) more)

    pub read_refused : (es ledger first : List Entry) (e : Entry) (rest : List Entry) (why : Broken) → HoldsLedger layers body es ledger → audited_over layers body (es ++ first) ≡ None →
        broken_over layers body (es ++ first) e ≡ Some why → checked_append b body.base ledger (first ++ e ∷ rest) ≡ Err (ByRule why)
    unfolding checked_append
    read_refused es ledger [] e rest why holds valid breaks =
        ap (λ (o : Option Rejection). unless_broken b o (checked_append b body.base (ledger ++ e ∷ []) rest))
        (sym (read_breaks es ledger holds (ap (audited_over layers body) (sym (append-nil es)) ∙ valid) e)
        ∙ ap by_rule (ap (λ (l : List Entry). broken_over layers body l e) (sym (append-nil es)) ∙ breaks))
    read_refused es ledger (f ∷ first) e rest why holds valid breaks =
        next_passes es ledger holds f (first ++ e ∷ rest) (both_pass es f first valid)
        ∙ read_refused (es ++ f ∷ []) (ledger ++ f ∷ []) first e rest why (held_more layers body es ledger holds (f ∷ [])) (ap (audited_over layers body) (append_assoc es (f ∷ []) first) ∙ valid)
        (ap (λ (l : List Entry). broken_over layers body l e) (append_assoc es (f ∷ []) first) ∙ breaks)
