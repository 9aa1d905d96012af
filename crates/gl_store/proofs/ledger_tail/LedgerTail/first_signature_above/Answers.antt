use Rattle.std.proofs.Common.{◌≡◌, ◌-◌, ◌<◌, ◌∙◌, ℕ, List, nat_le, slice_get, get_or, Option, None, Some, Bor, IfSome, true, false, sym, ap, subst, arith}
use Rattle.std.proofs.lemmas.Bool.Decides.{nat_tests}
use Rattle.std.proofs.lemmas.Option.{get_or_from_slice_get}
use Rattle.std.specs.Option.{option_copied}
use Rattle.std.specs.List.Sorted.{IsPartitionPoint, IsPartitionedBy}
use Rattle.gl_base.proofs.Lists.{slice_get-within}
use Rattle.gl_rules.specs.Log.{entry_at}
use Rattle.gl_entry.specs.declared.entry.Entry.{Entry}
use Rattle.gl_receipt.specs.Made.{signature_above}
use Rattle.gl_snapshot_body.specs.declared.body.Body.{Body}
use Rattle.gl_audit.specs.Kept.{seqnos_over}
use Rattle.gl_audit.proofs.SignatureSeqnos.{seqnos_over-partitioned}
use Rattle.gl_store.specs.Tail.{ForBodies, Tail}
use Rattle.gl_store.proofs.SignaturesAbove.{above_over, entry_behind}
use Rattle.gl_store.proofs.Tails.{kept_behind}
use Rattle.gl_store.proofs.ledger_tail.LedgerTail.first_signature_above.Goals as goal

-- where the seqnos above one begin
point_of : (body : Body) (es : List Entry) (ss : List ℕ) (seqno n : ℕ) → ss ≡ seqnos_over body es →
    (IsPartitionedBy (λ s. nat_le s seqno) ss → IsPartitionPoint (λ s. nat_le s seqno ≡ true) (λ s. nat_le s seqno ≡ false) ss n) →
    IsPartitionPoint (λ s. nat_le s seqno ≡ true) (λ s. nat_le s seqno ≡ false) (seqnos_over body es) n
point_of body es ss seqno n same few =
    subst (λ (xs : List ℕ). IsPartitionPoint (λ s. nat_le s seqno ≡ true) (λ s. nat_le s seqno ≡ false) xs n) same
    (few (subst (IsPartitionedBy (λ s. nat_le s seqno)) (sym same) (seqnos_over-partitioned body es seqno)))

-- the one there is above it
above_point : (body : Body) (es : List Entry) (seqno n signed : ℕ) → IsPartitionPoint (λ s. nat_le s seqno ≡ true) (λ s. nat_le s seqno ≡ false) (seqnos_over body es) n →
    Some signed ≡ slice_get (seqnos_over body es) n → seqno < signed
above_point body es seqno n signed point at =
    let within = slice_get-within (seqnos_over body es) n signed (sym at) in
    let there : get_or (seqnos_over body es) n 0 ≡ signed = get_or_from_slice_get (seqnos_over body es) n signed 0 (sym at) in
    let off : nat_le (get_or (seqnos_over body es) n 0) seqno ≡ false = point.1 n 0 (omega arith) within in
    grind (arith, nat_tests, off, there)

found_above : (seqno signed : ℕ) (o : Option (Bor Entry)) → seqno < signed → IfSome o (λ e. e.now.seqno ≡ signed) → IfSome o (λ e. seqno < e.now.seqno)
found_above seqno signed None above at = tt
found_above seqno signed (Some e) above at = omega (arith, above, at)

found_there : (t : Tail) (signed : ℕ) (o : Option (Bor Entry)) → IfSome o (λ e. e.now.seqno ≡ signed) → ForBodies t (λ body. option_copied o ≡ entry_at t.entries (signed - body.base)) →
    IfSome o (λ e. ForBodies t (λ body. entry_at t.entries (e.now.seqno - body.base) ≡ option_copied o))
found_there t signed None at there = tt
found_there t signed (Some e) at there = λ body s. ap (λ (n : ℕ). entry_at t.entries (n - body.base)) at ∙ sym (there body s)

pub returns-in-None-clause-first : goal.returns-in-None-clause-first
returns-in-None-clause-first c = λ body now.
    let s = kept_behind c.self.view_is body now in
    let es = c.self.inside.entries.items in
    let point = point_of body es c.deref.result.now c.args.seqno c.count_up_to-place.result (c.deref.ensures.value ∙ s.stands.signed) c.count_up_to-place.ensures.point in
    let at = c.in-None.ensures ∙ ap (λ (ss : List ℕ). slice_get ss c.count_up_to-place.result) (c.deref-2.ensures.value ∙ s.stands.signed) in
    subst (λ (t : Tail). None ≡ signature_above t.entries (c.args.seqno - body.base)) c.self.view_is
    (ap (entry_behind body es) at ∙ sym (above_over body es c.args.seqno c.count_up_to-place.result (c.requires.from_base body now) point))

pub returns-in-Some-clause-first : goal.returns-in-Some-clause-first
returns-in-Some-clause-first c = λ body now.
    let s = kept_behind c.self.view_is body now in
    let es = c.self.inside.entries.items in
    let point = point_of body es c.deref.result.now c.args.seqno c.count_up_to-place.result (c.deref.ensures.value ∙ s.stands.signed) c.count_up_to-place.ensures.point in
    let at = c.in-Some.ensures ∙ ap (λ (ss : List ℕ). slice_get ss c.count_up_to-place.result) (c.deref-2.ensures.value ∙ s.stands.signed) in
    c.entry.ensures.entry body now
    ∙ subst (λ (t : Tail). entry_at t.entries (c.in-Some.signed - body.base) ≡ signature_above t.entries (c.args.seqno - body.base)) c.self.view_is
    (ap (entry_behind body es) at ∙ sym (above_over body es c.args.seqno c.count_up_to-place.result (c.requires.from_base body now) point))

pub returns-in-Some-clause-above : goal.returns-in-Some-clause-above
returns-in-Some-clause-above c =
    let b = c.self.invariant in
    let es = c.self.inside.entries.items in
    let point = point_of b.0 es c.deref.result.now c.args.seqno c.count_up_to-place.result (c.deref.ensures.value ∙ b.1.stands.signed) c.count_up_to-place.ensures.point in
    let at = c.in-Some.ensures ∙ ap (λ (ss : List ℕ). slice_get ss c.count_up_to-place.result) (c.deref-2.ensures.value ∙ b.1.stands.signed) in
    found_above c.args.seqno c.in-Some.signed c.entry.result (above_point b.0 es c.args.seqno c.count_up_to-place.result c.in-Some.signed point at) c.entry.ensures.numbered

pub returns-in-Some-clause-numbered : goal.returns-in-Some-clause-numbered
returns-in-Some-clause-numbered c = found_there c.args.self.now c.in-Some.signed c.entry.result c.entry.ensures.numbered c.entry.ensures.entry
