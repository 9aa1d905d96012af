-- The batch of an opening folds into what the file holds with the opening ledger.
use Rattle.std.proofs.Common.{◌≡◌, ℕ, zero, suc, ◌≤◌, List, [], ◌∷◌, ◌++◌, length, map, take, max, is_none, Option, None, Some, Bool, true, false, ◌&&◌, ◌||◌, not, ◌==◌, if◌then◌else◌, slice_get, refl, sym, ap, subst, ◌∙◌, arith, le-ltb}
use Rattle.std.proofs.lemmas.Bool.{and_parts}
use Rattle.std.proofs.lemmas.Bool.Decides.{nat_tests}
use Rattle.std.proofs.lemmas.List.{append-nil, append_assoc, map-append}
use Rattle.gl_rules.specs.Identity.{NodeId}
use Rattle.gl_rules.proofs.Ids.{same_is}
use Rattle.gl_rules.specs.World.{Start}
use Rattle.gl_entry.specs.Entry.{frame_bytes}
use Rattle.gl_entry.specs.declared.entry.Entry.{Entry}
use Rattle.gl_journal.specs.Durable.{Durable, fold_records}
use Rattle.gl_journal.specs.Records.{RecordValue, Vote, then_some}
use Rattle.gl_ledger.specs.Audit.{audited}
use Rattle.gl_ledger.specs.Broken.{broken}
use Rattle.gl_ledger.specs.NodeKeys.{service_layers}
use Rattle.gl_ledger.proofs.Auditing.{audited_none}
use Rattle.gl_store_book.specs.Frames.{frame_goes_on, goes_on_ledger}
use Rattle.gl_node.specs.Kept.{is_same_vote, with_vote}
use Rattle.gl_store_book.specs.AtOpening.{opening_view, vote_at_opening, opened_state, vote_records, append_records, opening_records}
use Rattle.gl_store_book.proofs.FrameLaws.{AllFit, goes_on-ledger, entry_of_frame-frame_bytes}

prefix : (xs ys : List Entry) → take (length xs) (xs ++ ys) ≡ xs
prefix [] ys = refl
prefix (x ∷ xs) ys = ap (λ (l : List Entry). x ∷ l) (prefix xs ys)

there : (xs ys : List Entry) (y : Entry) → slice_get (xs ++ y ∷ ys) (length xs) ≡ Some y
there [] ys y = refl
there (x ∷ xs) ys y = there xs ys y

fit_prefix : (xs ys : List Entry) → AllFit (xs ++ ys) → AllFit xs
fit_prefix [] ys fit i e at = absurd (cc)
fit_prefix (x ∷ xs) ys fit zero e at = fit zero e at
fit_prefix (x ∷ xs) ys fit (suc i) e at = fit_prefix xs ys (λ j d is. fit (suc j) d is) i e at

-- the frame of a valid ledger's entry goes on those before it
pub goes_on_here : (before es : List Entry) (e : Entry) → audited service_layers (before ++ e ∷ es) ≡ None → AllFit (before ++ e ∷ es) → frame_goes_on None (map frame_bytes before) (frame_bytes e) ≡ true
goes_on_here before es e valid fit =
    let at = there before es e in
    let none : broken service_layers before e ≡ None = ap (λ (l : List Entry). broken service_layers l e) (sym (prefix before (e ∷ es))) ∙ audited_none service_layers (before ++ e ∷ es) valid (length before) e at in
    goes_on-ledger None (map frame_bytes before) before (frame_bytes e) (Some e) refl (fit_prefix before (e ∷ es) fit) (entry_of_frame-frame_bytes e (fit (length before) e at))
    ∙ ap (λ o. is_none o) none

-- each entry more
pub appends_fold : (d : Durable) (before es : List Entry) → audited service_layers (before ++ es) ≡ None → AllFit (before ++ es) → d.snapshot ≡ None → d.log ≡ map frame_bytes before
    → fold_records goes_on_ledger d (append_records es) ≡ Some (record d { log = map frame_bytes (before ++ es) })
appends_fold d before [] valid fit alone is = ap (λ (l : List (List ℕ)). Some (record d { log = l })) (is ∙ ap (map frame_bytes) (sym (append-nil before)))
appends_fold d before (e ∷ es) valid fit alone is =
    let next : Durable = record d { log = d.log ++ frame_bytes e ∷ [] } in
    let whole : (before ++ e ∷ []) ++ es ≡ before ++ e ∷ es = append_assoc before (e ∷ []) es in
    let goes : frame_goes_on d.snapshot d.log (frame_bytes e) ≡ true =
    ap (λ (o : Option (List ℕ)). frame_goes_on o d.log (frame_bytes e)) alone ∙ ap (λ (l : List (List ℕ)). frame_goes_on None l (frame_bytes e)) is ∙ goes_on_here before es e valid fit in
    let grown : next.log ≡ map frame_bytes (before ++ e ∷ []) = ap (λ (l : List (List ℕ)). l ++ frame_bytes e ∷ []) is ∙ sym (map-append frame_bytes before (e ∷ [])) in
    ap (λ (b : Bool). then_some (if b then Some next else None) (λ (s : Durable). fold_records goes_on_ledger s (append_records es))) goes
    ∙ appends_fold next (before ++ e ∷ []) es (subst (λ (l : List Entry). audited service_layers l ≡ None) (sym whole) valid) (subst AllFit (sym whole) fit) alone grown
    ∙ ap (λ (l : List Entry). Some (record d { log = map frame_bytes l })) whole

-- ---- the view and the vote

same_vote_is : (x y : Option NodeId) → is_same_vote x y ≡ true → x ≡ y
same_vote_is None None is = refl
same_vote_is None (Some y) is = absurd (cc)
same_vote_is (Some x) None is = absurd (cc)
same_vote_is (Some x) (Some y) is = ap (λ (z : NodeId). Some z) (same_is x y is)

kept_true : (b : Bool) → (b || true) ≡ true
kept_true true = refl
kept_true false = refl

kept_false : (b : Bool) → (b || false) ≡ b
kept_false true = refl
kept_false false = refl

pub vote_folds : (d : Durable) (view : ℕ) (vote : Option NodeId) (rest : List RecordValue) → d.view ≤ view
    → fold_records goes_on_ledger d (vote_records d view vote ++ rest) ≡ fold_records goes_on_ledger (with_vote view vote d) rest
vote_folds d view vote rest low = go (d.view == view && is_same_vote d.vote vote) refl
  where
    go : (b : Bool) → (d.view == view && is_same_vote d.vote vote) ≡ b
        → fold_records goes_on_ledger d ((if b then [] else Vote view vote ∷ []) ++ rest)
        ≡ fold_records goes_on_ledger (record d { view = view; vote = vote; has_vote_record = d.has_vote_record || not b }) rest
    go true is =
        let parts = and_parts (d.view == view) (is_same_vote d.vote vote) is in
        let v : d.view ≡ view = grind (arith, nat_tests, parts.0) in
        let w : d.vote ≡ vote = same_vote_is d.vote vote parts.1 in
        ap (λ (s : Durable). fold_records goes_on_ledger s rest)
        (ap (λ (n : ℕ). record d { view = n }) v ∙ ap (λ (x : Option NodeId). record d { view = view; vote = x }) w
        ∙ ap (λ (x : Bool). record d { view = view; vote = vote; has_vote_record = x }) (sym (kept_false d.has_vote_record)))
    go false is =
        ap (λ (b : Bool). then_some (if b then None else Some (record d { view = view; vote = vote; has_vote_record = true })) (λ (s : Durable). fold_records goes_on_ledger s rest)) (le-ltb view d.view low)
        ∙ ap (λ (x : Bool). fold_records goes_on_ledger (record d { view = view; vote = vote; has_vote_record = x }) rest) (sym (kept_true d.has_vote_record))

-- ---- the opening

pub opening_folds : (s : Start Entry) (d : Durable) → audited service_layers s.opening ≡ None → AllFit s.opening → d.snapshot ≡ None → d.log ≡ []
    → fold_records goes_on_ledger d (opening_records s d) ≡ Some (opened_state s d)
opening_folds s d valid fit alone none =
    let view = max d.view (opening_view s) in
    let vote = vote_at_opening s d in
    vote_folds d view vote (append_records s.opening) (omega arith)
    ∙ appends_fold (with_vote view vote d) [] s.opening valid fit alone none
