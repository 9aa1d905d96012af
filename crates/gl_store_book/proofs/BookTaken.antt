-- What a node's ledger takes, or refuses, is what the book of each ledger that it stands for makes.
use Rattle.std.proofs.Common.{◌≡◌, ℕ, ◌-◌, ◌≤◌, max, List, [], ◌∷◌, ◌++◌, take, Option, Some, None, Result, Ok, Err, OnOk, OnErr, refl, sym, ◌∙◌, ap, subst, arith}
use Rattle.gl_base.specs.Answers.{Fails}
use Rattle.gl_base.specs.declared.or_no_memory.OrNoMemory.{OrNoMemory}
use Rattle.gl_base.specs.declared.or_no_memory.OrNoMemory.TheVariants.{NoMemory, Fault}
use Rattle.gl_rules.specs.Identity.{NodeId}
use Rattle.gl_rules.specs.Replication.{checked_append, unless_broken}
use Rattle.gl_tx.specs.declared.request.Operation.{Operation}
use Rattle.gl_entry.specs.declared.entry.Entry.{Entry}
use Rattle.gl_requests.specs.declared.request.GovernanceRequest.{GovernanceRequest}
use Rattle.gl_ledger.specs.LedgerBook.{by_rule}
use Rattle.gl_ledger.specs.Makers as makers
use Rattle.gl_ledger.specs.NodeKeys.{NodeKeys, service_layers}
use Rattle.gl_ledger.specs.declared.breach.Broken.{Broken}
use Rattle.gl_ledger.specs.declared.response.Response.{Response}
use Rattle.gl_ledger.specs.declared.response.Rejection.{Rejection}
use Rattle.gl_ledger.specs.declared.response.Rejection.TheVariants.{ByRule}
use Rattle.gl_ledger_base.specs.BookOver.{guarded_over}
use Rattle.gl_ledger_base.proofs.LedgersGrown.{held_more, read_breaks, valid_more}
use Rattle.gl_ledger_base.proofs.LedgersGuarded.{evidence_whole, execute_whole, govern_whole, sign_whole}
use Rattle.gl_ledger_base.proofs.LedgersReads.{held_cut, valid_cut}
use Rattle.gl_replication.specs.Standing.{At, Becomes, Enters}
use Rattle.gl_store_book.specs.BasedLedgers.{BasedLedger, IsAudited, base_of, body_of, broken_after, cut_to, with_entries}
use Rattle.gl_store_book.specs.Stands.{HasKey, NodeStore, Stands}
use Rattle.gl_store_book.specs.Taken.{RefusesFor, Takes, TakesEntry, appended, evident, executed, governed, signed, unless_breaks}
use Rattle.gl_store_book.proofs.AllLedgers.{Holds, becomes, book, enters, held, reports, stands_with}

-- the store with another ledger
abbrev pub with_ledger : NodeStore → BasedLedger → NodeStore
with_ledger node l = record node { ledger = l }

-- ---- one entry

-- a ledger with an entry that was taken
grown : (old new : NodeStore) (l more : BasedLedger) (e : Entry) → l ≡ old.ledger → new ≡ with_ledger old more → more ≡ with_entries l (l.entries ++ e ∷ []) →
    new ≡ record old { ledger = with_entries old.ledger (old.ledger.entries ++ e ∷ []) }
grown old new l more e same is entered =
    is ∙ ap (with_ledger old) (entered ∙ ap (λ (x : BasedLedger). with_entries x (x.entries ++ e ∷ [])) same)

fails_too : {X : Type 0} (e : OrNoMemory Rejection) (one other : Result X Rejection) → one ≡ other → Fails e one → Fails e other
fails_too NoMemory one other same h = tt
fails_too (Fault why) one other same h = sym same ∙ h

module _ (old : NodeStore) (l : BasedLedger) (same : l ≡ old.ledger) (valid : IsAudited l) where
  whole_execute : (keys : NodeKeys) (log : List Entry) → Holds old.ledger log → (view : ℕ) (q : List Operation) → executed l view q ≡ (book keys).execute log view q
  whole_execute keys log holds view q =
      ap (λ (x : BasedLedger). executed x view q) same
      ∙ execute_whole service_layers (body_of old.ledger.snapshot) old.ledger.entries log holds (subst (λ (x : BasedLedger). IsAudited x) same valid) keys view q

  whole_govern : (keys : NodeKeys) (log : List Entry) → Holds old.ledger log → (view : ℕ) (q : GovernanceRequest) → governed l view q ≡ (book keys).govern log view q
  whole_govern keys log holds view q =
      ap (λ (x : BasedLedger). governed x view q) same
      ∙ govern_whole service_layers (body_of old.ledger.snapshot) old.ledger.entries log holds (subst (λ (x : BasedLedger). IsAudited x) same valid) keys view q

  whole_evidence : (keys : NodeKeys) (log : List Entry) → Holds old.ledger log → (view : ℕ) → evident l view ≡ (book keys).evidence log view
  whole_evidence keys log holds view =
      ap (λ (x : BasedLedger). evident x view) same
      ∙ evidence_whole service_layers (body_of old.ledger.snapshot) old.ledger.entries log holds (subst (λ (x : BasedLedger). IsAudited x) same valid) keys view

  -- it is tried by the rules of the audit
  whole_sign : (keys : NodeKeys) (log : List Entry) → Holds old.ledger log → (x : NodeId) (leaf view commit : ℕ) → base_of old.ledger ≤ commit →
      guarded_over service_layers (body_of l.snapshot) l.entries (λ (e : Entry). e) (signed keys l x leaf view commit) ≡ (book keys).sign x leaf log view commit
  whole_sign keys log holds x leaf view commit low =
      ap (λ (m : BasedLedger). guarded_over service_layers (body_of m.snapshot) m.entries (λ (e : Entry). e) (signed keys m x leaf view commit)) same
      ∙ sign_whole service_layers (body_of old.ledger.snapshot) old.ledger.entries log holds (subst (λ (x : BasedLedger). IsAudited x) same valid) keys x leaf view commit low

  -- ---- what is taken

  pub executes : (new : NodeStore) (more : BasedLedger) (view : ℕ) (q : List Operation) (given : Response) → new ≡ with_ledger old more → Takes (executed l view q) view given l more →
      Enters Stands old new (λ b h e. (b.execute h.log view q ≡ Ok (e, given)) × (view ≡ b.view_of e))
  executes new more view q given is t =
      enters old new t.entry (λ b h e. (b.execute h.log view q ≡ Ok (e, given)) × (view ≡ b.view_of e)) (grown old new l more t.entry same is t.entered)
      (λ keys has log spelled holds. (sym (whole_execute keys log holds view q) ∙ t.made, sym t.in_view))

  pub governs : (new : NodeStore) (more : BasedLedger) (view : ℕ) (q : GovernanceRequest) (given : Response) → new ≡ with_ledger old more → Takes (governed l view q) view given l more →
      Enters Stands old new (λ b h e. (b.govern h.log view q ≡ Ok (e, given)) × (view ≡ b.view_of e))
  governs new more view q given is t =
      enters old new t.entry (λ b h e. (b.govern h.log view q ≡ Ok (e, given)) × (view ≡ b.view_of e)) (grown old new l more t.entry same is t.entered)
      (λ keys has log spelled holds. (sym (whole_govern keys log holds view q) ∙ t.made, sym t.in_view))

  pub evidences : (new : NodeStore) (more : BasedLedger) (view : ℕ) → new ≡ with_ledger old more → TakesEntry (evident l view) view l more →
      Enters Stands old new (λ b h e. (b.evidence h.log view ≡ Ok e) × (view ≡ b.view_of e))
  evidences new more view is t =
      enters old new t.entry (λ b h e. (b.evidence h.log view ≡ Ok e) × (view ≡ b.view_of e)) (grown old new l more t.entry same is t.entered)
      (λ keys has log spelled holds. (sym (whole_evidence keys log holds view) ∙ t.made, sym t.in_view))

  pub signs : (new : NodeStore) (more : BasedLedger) (leaf view commit : ℕ) (e : Entry) → new ≡ with_ledger old more → At Stands old (λ b h. h.base ≤ commit) →
      ((keys : NodeKeys) → HasKey keys old → signed keys l old.me leaf view commit ≡ Ok e) → e.view ≡ view → broken_after l e ≡ None → more ≡ with_entries l (l.entries ++ e ∷ []) →
      Enters Stands old new (λ b h e. (b.sign h.me leaf h.log view commit ≡ Ok e) × (view ≡ b.view_of e))
  signs new more leaf view commit e is low made viewed unbroken entered =
      enters old new e (λ b h e. (b.sign h.me leaf h.log view commit ≡ Ok e) × (view ≡ b.view_of e)) (grown old new l more e same is entered)
      (λ keys has log spelled holds. (
        sym (whole_sign keys log holds old.me leaf view commit (low (book keys) (held old log) (stands_with keys old log has spelled holds)))
            ∙ ap (guarded_over service_layers (body_of l.snapshot) l.entries (λ (x : Entry). x)) (made keys has)
            ∙ ap (λ (o : Option Broken). makers.unless_broken o e) unbroken,
        sym viewed,
      ))

  -- ---- what is refused

  pub refuses_execute : (e : OrNoMemory Rejection) (view : ℕ) (q : List Operation) → Fails e (executed l view q) → At Stands old (λ b h. Fails e (b.execute h.log view q))
  refuses_execute e view q h =
      reports old (λ b g. Fails e (b.execute g.log view q)) (λ keys has log spelled holds. fails_too e (executed l view q) ((book keys).execute log view q) (whole_execute keys log holds view q) h)

  pub refuses_govern : (e : OrNoMemory Rejection) (view : ℕ) (q : GovernanceRequest) → Fails e (governed l view q) → At Stands old (λ b h. Fails e (b.govern h.log view q))
  refuses_govern e view q h =
      reports old (λ b g. Fails e (b.govern g.log view q)) (λ keys has log spelled holds. fails_too e (governed l view q) ((book keys).govern log view q) (whole_govern keys log holds view q) h)

  pub refuses_evidence : (e : OrNoMemory Rejection) (view : ℕ) → Fails e (evident l view) → At Stands old (λ b h. Fails e (b.evidence h.log view))
  refuses_evidence e view h =
      reports old (λ b g. Fails e (b.evidence g.log view)) (λ keys has log spelled holds. fails_too e (evident l view) ((book keys).evidence log view) (whole_evidence keys log holds view) h)

  -- nothing is signed
  pub refuses_sign : (why : Rejection) (leaf view commit : ℕ) → At Stands old (λ b h. h.base ≤ commit) → ((keys : NodeKeys) → signed keys l old.me leaf view commit ≡ Err why) →
      At Stands old (λ b h. b.sign h.me leaf h.log view commit ≡ Err why)
  refuses_sign why leaf view commit low refused =
      reports old (λ b h. b.sign h.me leaf h.log view commit ≡ Err why) (λ keys has log spelled holds.
      sym (whole_sign keys log holds old.me leaf view commit (low (book keys) (held old log) (stands_with keys old log has spelled holds)))
      ∙ ap (guarded_over service_layers (body_of l.snapshot) l.entries (λ (x : Entry). x)) (refused keys))

  -- what was signed breaks a rule
  pub refuses_signed : (error : OrNoMemory Rejection) (leaf view commit : ℕ) (e : Entry) → At Stands old (λ b h. h.base ≤ commit) →
      ((keys : NodeKeys) → HasKey keys old → signed keys l old.me leaf view commit ≡ Ok e) → RefusesFor (broken_after l e) error → At Stands old (λ b h. Fails error (b.sign h.me leaf h.log view commit))
  refuses_signed error leaf view commit e low made refused =
      reports old (λ b h. Fails error (b.sign h.me leaf h.log view commit)) (λ keys has log spelled holds.
      fails_too error (guarded_over service_layers (body_of l.snapshot) l.entries (λ (x : Entry). x) (signed keys l old.me leaf view commit)) ((book keys).sign old.me leaf log view commit)
      (whole_sign keys log holds old.me leaf view commit (low (book keys) (held old log) (stands_with keys old log has spelled holds)))
      (fails_too error (makers.unless_broken (broken_after l e) e) (guarded_over service_layers (body_of l.snapshot) l.entries (λ (x : Entry). x) (signed keys l old.me leaf view commit))
      (sym (ap (guarded_over service_layers (body_of l.snapshot) l.entries (λ (x : Entry). x)) (made keys has))) (broken_so error (broken_after l e) e refused)))
    where
      broken_so : (error : OrNoMemory Rejection) (o : Option Broken) (made : Entry) → RefusesFor o error → Fails error (makers.unless_broken o made)
      broken_so NoMemory o made h = tt
      broken_so (Fault why) None made h = absurd (cc)
      broken_so (Fault why) (Some b) made h = let k : ByRule b ≡ why = cc in ap (λ (r : Rejection). refused_as r) k
        where
          refused_as : Rejection → Result Entry Rejection
          refused_as r = Err r

-- ---- another tail

-- the base stays
kept_base : (l : BasedLedger) (es : List Entry) (new : BasedLedger) → appended l es ≡ Ok new → new ≡ with_entries l new.entries
unfolding appended
kept_base l [] new h = let same : l ≡ new = cc in subst (λ (x : BasedLedger). x ≡ with_entries l x.entries) same refl
kept_base l (e ∷ es) new h = go (broken_after l e) h (kept_base (with_entries l (l.entries ++ e ∷ [])) es new)
  where
    go : (o : Option Broken) → unless_breaks o (appended (with_entries l (l.entries ++ e ∷ [])) es) ≡ Ok new →
        (appended (with_entries l (l.entries ++ e ∷ [])) es ≡ Ok new → new ≡ with_entries l new.entries) → new ≡ with_entries l new.entries
    go None w again = again w
    go (Some why) w again = absurd (cc)

-- so its snapshot does, also where the entries are refused
pub kept_snapshot : {X E : Type 0} (r : Result X E) (l new : BasedLedger) (seqno : ℕ) (es : List Entry) → OnOk r (appended (cut_to seqno l) es ≡ Ok new) → OnErr r (new ≡ l) → new.snapshot ≡ l.snapshot
kept_snapshot (Ok x) l new seqno es replaced stays = ap (λ (b : BasedLedger). b.snapshot) (kept_base (cut_to seqno l) es new replaced)
kept_snapshot (Err e) l new seqno es replaced stays = ap (λ (b : BasedLedger). b.snapshot) stays

module _ (keys : NodeKeys) where
  -- an entry that breaks no rule behind the base breaks none in the book
  next_passes : (l : BasedLedger) (log : List Entry) → Holds l log → IsAudited l → (e : Entry) (es : List Entry) → broken_after l e ≡ None →
      checked_append (book keys) (base_of l) log (e ∷ es) ≡ checked_append (book keys) (base_of l) (log ++ e ∷ []) es
  unfolding checked_append
  next_passes l log holds valid e es is =
      ap (λ (o : Option Rejection). unless_broken (book keys) o (checked_append (book keys) (base_of l) (log ++ e ∷ []) es))
      (sym (read_breaks service_layers (body_of l.snapshot) keys l.entries log holds valid e) ∙ ap by_rule is)

  next_breaks : (l : BasedLedger) (log : List Entry) → Holds l log → IsAudited l → (e : Entry) (es : List Entry) (why : Broken) → broken_after l e ≡ Some why →
      checked_append (book keys) (base_of l) log (e ∷ es) ≡ Err (ByRule why)
  unfolding checked_append
  next_breaks l log holds valid e es why is =
      ap (λ (o : Option Rejection). unless_broken (book keys) o (checked_append (book keys) (base_of l) (log ++ e ∷ []) es))
      (sym (read_breaks service_layers (body_of l.snapshot) keys l.entries log holds valid e) ∙ ap by_rule is)

  none_appended : (l : BasedLedger) (log : List Entry) → checked_append (book keys) (base_of l) log [] ≡ Ok log
  unfolding checked_append
  none_appended l log = refl

  -- what is appended behind the base is appended to the ledger
  appends : (l : BasedLedger) (log : List Entry) → Holds l log → IsAudited l → (es : List Entry) (new : BasedLedger) → appended l es ≡ Ok new →
      (next : List Entry) × (checked_append (book keys) (base_of l) log es ≡ Ok next) × Holds new next
  unfolding appended
  appends l log holds valid [] new h = (log, none_appended l log, subst (λ (x : BasedLedger). Holds x log) (let same : l ≡ new = cc in same) holds)
  appends l log holds valid (e ∷ es) new h = go (broken_after l e) refl h
      (λ is. appends (with_entries l (l.entries ++ e ∷ [])) (log ++ e ∷ []) (held_more service_layers (body_of l.snapshot) l.entries log holds (e ∷ [])) (valid_more service_layers (body_of l.snapshot) l.entries e valid is) es new)
    where
      more : BasedLedger
      more = with_entries l (l.entries ++ e ∷ [])

      go : (o : Option Broken) → broken_after l e ≡ o → unless_breaks o (appended more es) ≡ Ok new →
          (broken_after l e ≡ None → appended more es ≡ Ok new → (next : List Entry) × (checked_append (book keys) (base_of l) (log ++ e ∷ []) es ≡ Ok next) × Holds new next) →
          (next : List Entry) × (checked_append (book keys) (base_of l) log (e ∷ es) ≡ Ok next) × Holds new next
      go None is w again = let rest = again is w in (rest.0, next_passes l log holds valid e es is ∙ rest.1, rest.2)
      go (Some why) is w again = absurd (cc)

  -- and what is refused there is refused
  appends_not : (l : BasedLedger) (log : List Entry) → Holds l log → IsAudited l → (es : List Entry) (why : Rejection) → appended l es ≡ Err why → checked_append (book keys) (base_of l) log es ≡ Err why
  unfolding appended
  appends_not l log holds valid [] why h = absurd (cc)
  appends_not l log holds valid (e ∷ es) why h = go (broken_after l e) refl h
      (λ is. appends_not (with_entries l (l.entries ++ e ∷ [])) (log ++ e ∷ []) (held_more service_layers (body_of l.snapshot) l.entries log holds (e ∷ [])) (valid_more service_layers (body_of l.snapshot) l.entries e valid is) es why)
    where
      more : BasedLedger
      more = with_entries l (l.entries ++ e ∷ [])

      go : (o : Option Broken) → broken_after l e ≡ o → unless_breaks o (appended more es) ≡ Err why →
          (broken_after l e ≡ None → appended more es ≡ Err why → checked_append (book keys) (base_of l) (log ++ e ∷ []) es ≡ Err why) → checked_append (book keys) (base_of l) log (e ∷ es) ≡ Err why
      go None is w again = next_passes l log holds valid e es is ∙ again is w
      go (Some breach) is w again =
          let k : ByRule breach ≡ why = cc in
          next_breaks l log holds valid e es breach is ∙ ap (λ (r : Rejection). refused_as r) k
        where
          refused_as : Rejection → Result (List Entry) Rejection
          refused_as r = Err r

module _ (old : NodeStore) (l : BasedLedger) (same : l ≡ old.ledger) (valid : IsAudited l) (seqno high : ℕ) (at : high ≡ max seqno (base_of l)) (low : At Stands old (λ b h. h.base ≤ seqno)) where
  -- the ledger cut to a seqno from the base on
  cut_here : base_of old.ledger ≤ seqno → cut_to high l ≡ cut_to seqno old.ledger
  cut_here up =
      ap (λ (x : BasedLedger). cut_to high x) same
      ∙ ap (λ (n : ℕ). cut_to n old.ledger) (let base : base_of l ≡ base_of old.ledger = ap base_of same in let is : high ≡ seqno = omega (arith, at, base, up) in is)

  cut_valid : IsAudited (cut_to seqno old.ledger)
  cut_valid = valid_cut service_layers (body_of old.ledger.snapshot) old.ledger.entries (seqno - base_of old.ledger) (subst (λ (x : BasedLedger). IsAudited x) same valid)

  pub replaces : (new : NodeStore) (more : BasedLedger) (es : List Entry) → new ≡ with_ledger old more → appended (cut_to high l) es ≡ Ok more →
      Becomes Stands old new (λ b h log. checked_append b h.base (take seqno h.log) es ≡ Ok log)
  replaces new more es is h =
      becomes old new more.entries (λ b g log. checked_append b g.base (take seqno g.log) es ≡ Ok log)
      (is ∙ ap (with_ledger old) (kept_base (cut_to high l) es more h ∙ ap (λ (x : BasedLedger). with_entries x more.entries) same))
      (λ keys has log spelled holds.
      let up = low (book keys) (held old log) (stands_with keys old log has spelled holds) in
      let all = appends keys (cut_to seqno old.ledger) (take seqno log) (held_cut service_layers (body_of old.ledger.snapshot) old.ledger.entries log holds seqno up) cut_valid es more
      (ap (λ (x : BasedLedger). appended x es) (sym (cut_here up)) ∙ h) in
      (all.0, all.1, subst (λ (x : BasedLedger). Holds x all.0) (kept_base (cut_to high l) es more h ∙ ap (λ (x : BasedLedger). with_entries x more.entries) same) all.2))

  pub replaces_not : (e : OrNoMemory Rejection) (es : List Entry) → Fails e (appended (cut_to high l) es) → At Stands old (λ b h. Fails e (checked_append b h.base (take seqno h.log) es))
  replaces_not NoMemory es h = λ b g stands. tt
  replaces_not (Fault why) es h =
      reports old (λ b g. checked_append b g.base (take seqno g.log) es ≡ Err why) (λ keys has log spelled holds.
      let up = low (book keys) (held old log) (stands_with keys old log has spelled holds) in
      appends_not keys (cut_to seqno old.ledger) (take seqno log) (held_cut service_layers (body_of old.ledger.snapshot) old.ledger.entries log holds seqno up) cut_valid es why
      (ap (λ (x : BasedLedger). appended x es) (sym (cut_here up)) ∙ h))

  -- cut alone
  pub cuts : (new : NodeStore) (more : BasedLedger) → new ≡ with_ledger old more → more ≡ cut_to high l → Becomes Stands old new (λ b h log. log ≡ take seqno h.log)
  cuts new more is cut =
      becomes old new more.entries (λ b g log. log ≡ take seqno g.log)
      (is ∙ ap (with_ledger old) (kept ∙ ap (λ (x : BasedLedger). with_entries x more.entries) same))
      (λ keys has log spelled holds.
      let up = low (book keys) (held old log) (stands_with keys old log has spelled holds) in
      let here : cut_to seqno old.ledger ≡ with_entries old.ledger more.entries = sym (cut ∙ cut_here up) ∙ kept ∙ ap (λ (x : BasedLedger). with_entries x more.entries) same in (
        take seqno log,
        refl,
        subst (λ (x : BasedLedger). Holds x (take seqno log)) here (held_cut service_layers (body_of old.ledger.snapshot) old.ledger.entries log holds seqno up),
      ))
    where
      kept : more ≡ with_entries l more.entries
      kept = subst (λ (x : BasedLedger). x ≡ with_entries l x.entries) (sym cut) refl
