-- The first entries of a sound ledger are a sound ledger.
use Rattle.std.proofs.Common.{◌≡◌, ⊎_elim, ℕ, zero, suc, ◌<◌, ◌≤◌, List, [], ◌∷◌, ◌++◌, length, take, Some, refl, sym, ◌∙◌, ap, subst, arith, slice_get}
use Rattle.std.specs.List.{AllByRecursion}
use Rattle.std.proofs.lemmas.Bool.{cases_lt}
use Rattle.gl_base.proofs.Lists.{slice_get-within, slice_get-below, slice_get-of_take, take-same, take-next, take-past}
use Rattle.gl_vmaps.specs.Tables.{Tables, no_tables, wrote_all}
use Rattle.gl_vmaps.specs.declared.write.Write.{Write}
use Rattle.gl_entry.specs.declared.entry.Content.{Content}
use Rattle.gl_entry.specs.declared.entry.Content.TheVariants as content
use Rattle.gl_entry.specs.declared.entry.Entry.{Entry}
use Rattle.gl_gov_rules.specs.declared.change.Recorded.{Recorded}
use Rattle.gl_gov_rules.specs.Rows.{effect}
use Rattle.gl_gov_rules.proofs.Effects.{no_rows}
use Rattle.gl_ledger.specs.Layers.{Layers}
use Rattle.gl_ledger.specs.Recordings.{requests_of}
use Rattle.gl_ledger.specs.Tree.{tables_of}
use Rattle.gl_ledger.specs.Sound.{StandsAs, HasGovernedTables, IsSound}
use Rattle.gl_ledger.proofs.Applications.{run_outside}
use Rattle.gl_ledger.proofs.Gathering.{requests-quiet, requests-more}
use Rattle.gl_ledger.proofs.Growth.{IsOutside, IsNoGovernance, untouched}
use Rattle.gl_ledger.proofs.Sounding.{wrote_all_local}
use Rattle.gl_ledger.proofs.TablesLaws.{tables_of-push}

module _ (layers : Layers) (ledger : List Entry) (sound : IsSound layers ledger) where
  -- what stands among the first entries stands in the ledger
  there : (n i : ℕ) (e : Entry) → slice_get (take n ledger) i ≡ Some e → slice_get ledger i ≡ Some e
  there n i e at = (slice_get-of_take n ledger i e at).1

  -- the tables of governance are the effect of the requests, with one more entry
  governed_next : (n : ℕ) (e : Entry) → slice_get ledger n ≡ Some e → HasGovernedTables (take n ledger) → HasGovernedTables (take n ledger ++ e ∷ [])
  governed_next n e at all map inside = ap (λ (t : Tables). t map) (tables_of-push before e) ∙ by e.content refl (sound.serial n e at)
    where
      before : List Entry
      before = take n ledger

      quiet : IsNoGovernance e.content → AllByRecursion IsOutside e.writes → wrote_all (tables_of before) e.writes map ≡ effect (requests_of (before ++ e ∷ [])) map
      quiet none out =
          untouched (tables_of before) e.writes map out inside ∙ all map inside
          ∙ ap (λ (rs : List Recorded). effect rs map) (sym (requests-quiet before e none))

      by : (c : Content) → e.content ≡ c → StandsAs layers c before e → wrote_all (tables_of before) e.writes map ≡ effect (requests_of (before ++ e ∷ [])) map
      by (content.Governance bytes) is stands =
          wrote_all_local (tables_of before) (effect (requests_of before)) e.writes map (all map inside) ∙ stands.turns.turns map
          ∙ ap (λ (rs : List Recorded). effect rs map) (sym (requests-more before e bytes stands.request is stands.reads))
      by (content.Application bytes) is stands =
          quiet (subst IsNoGovernance (sym is) tt) (subst (λ (ws : List Write). AllByRecursion IsOutside ws) (sym stands.writes) (run_outside stands.request (tables_of before) stands.ran stands.runs))
      by (content.Signature s) is stands = quiet (subst IsNoGovernance (sym is) tt) (subst (λ (ws : List Write). AllByRecursion IsOutside ws) (sym stands.writes) tt)
      by (content.Evidence d) is stands = quiet (subst IsNoGovernance (sym is) tt) (subst (λ (ws : List Write). AllByRecursion IsOutside ws) (sym stands.writes) tt)

  -- so they are in each prefix of the ledger
  governed_prefix : (n : ℕ) → HasGovernedTables (take n ledger)
  governed_prefix zero = λ map inside. ap (λ (ws : List Write). wrote_all no_tables ws map) (sym no_rows)
  governed_prefix (suc n) = ⊎_elim
      (λ (here : n < length ledger).
      let e = slice_get-below ledger n here in
      subst HasGovernedTables (sym (take-next ledger n e.0 e.1)) (governed_next n e.0 e.1 (governed_prefix n)))
      (λ (past : length ledger ≤ n). subst HasGovernedTables (take-past ledger n past ∙ sym (take-past ledger (suc n) (omega (arith, past)))) (governed_prefix n))
      (cases_lt n (length ledger))

  -- what stands before one of the first entries stands before it in the ledger
  before_is : (n i : ℕ) (e : Entry) → slice_get (take n ledger) i ≡ Some e → take i (take n ledger) ≡ take i ledger
  before_is n i e at =
      let within = slice_get-within (take n ledger) i e at in
      take-same i (take n ledger) ledger (omega (arith, within)) (λ j x low s. there n j x s)

  -- what is said of a ledger is said of its first entries
  pub sound_prefix : (n : ℕ) → IsSound layers (take n ledger)
  sound_prefix n = record {
    in_order = record {
      fits = λ i e at. sound.in_order.fits i e (there n i e at);
      seqnos = λ i e at. sound.in_order.seqnos i e (there n i e at);
      views = λ i j e f le first second. sound.in_order.views i j e f le (there n i e first) (there n j f second);
    };
    founded = record {
      first = λ e at. sound.founded.first e (there n 0 e at);
      once = λ i e at is. sound.founded.once i e (there n i e at) is;
      recovered = λ i e f at next again. sound.founded.recovered i e f (there n i e at) (there n (suc i) f next) again;
      opened = λ i e f at starts next. sound.founded.opened i e f (there n i e at) starts (there n (suc i) f next);
    };
    serial = λ i e at. subst (λ (before : List Entry). StandsAs layers e.content before e) (sym (before_is n i e at)) (sound.serial i e (there n i e at));
    governed = governed_prefix n;
  }
