-- The elements of a proof, read one after the other.
use Rattle.std.proofs.Common.{◌≡◌, ℕ, suc, ◌+◌, ◌<◌, length, drop, map, get_or, drop-cons, arith, List, [], ◌∷◌, ◌++◌, Result, Ok, Err, refl, sym, ap, ◌∙◌, append_assoc}
use Rattle.std.proofs.lemmas.List.{append-nil, map-append}
use Rattle.serde_json.specs.Data.{Data, Items, no_items, item}
use Rattle.gl_base.specs.Answers.{Fails}
use Rattle.gl_base.specs.Steps.{◌>>=◌}
use Rattle.gl_base.specs.declared.json.FormsFault.{FormsFault}
use Rattle.gl_base.specs.declared.or_no_memory.OrNoMemory.{OrNoMemory}
use Rattle.gl_base.specs.declared.or_no_memory.OrNoMemory.TheVariants.{NoMemory, Fault}
use Rattle.gl_merkle.specs.declared.tree.Step.{Step}
use Rattle.std.specs.List.{AllByRecursion}
use Rattle.serde_json.specs.View.{view, items_view}
use Rattle.serde_json.specs.declared.value.Value.{Value}
use Rattle.gl_receipt.specs.Ranges.{HasDigest}
use Rattle.gl_receipt.specs.Tree.{step_tree}
use Rattle.gl_receipt.specs.Form.{step_in, steps_from}

-- what was read, after the steps that are done
abbrev pub after : List Step → Result (List Step) FormsFault → Result (List Step) FormsFault
after done (Ok steps) = Ok (done ++ steps)
after done (Err fault) = Err fault

after_one : (done : List Step) (step : Step) (r : Result (List Step) FormsFault)
    → after done (r >>= λ steps. Ok (step ∷ steps)) ≡ after (done ++ step ∷ []) r
after_one done step (Ok steps) = ap Ok (sym (append_assoc done (step ∷ []) steps))
after_one done step (Err fault) = refl

pub steps_more : (done : List Step) (index : ℕ) (step : Step) (value : Data) (values : Items) → step_in index value ≡ Ok step
    → after done (steps_from index (item value values)) ≡ after (done ++ step ∷ []) (steps_from (suc index) values)
unfolding steps_from
steps_more done index step value values e = rw e (after_one done step (steps_from (suc index) values))

steps_err : (index : ℕ) (value : Data) (values : Items) (fault : FormsFault) → step_in index value ≡ Err fault
    → steps_from index (item value values) ≡ Err fault
unfolding steps_from
steps_err index value values fault e = rw e refl

pub steps_stop : (e : OrNoMemory FormsFault) (done : List Step) (index : ℕ) (value : Data) (values : Items) (whole : Result (List Step) FormsFault)
    → Fails e (step_in index value) → whole ≡ after done (steps_from index (item value values)) → Fails e whole
steps_stop NoMemory done index value values whole h t = tt
steps_stop (Fault fault) done index value values whole h t = t ∙ ap (after done) (steps_err index value values fault h)

pub steps_end : (done : List Step) (index : ℕ) (whole : Result (List Step) FormsFault)
    → whole ≡ after done (steps_from index no_items) → whole ≡ Ok done
unfolding steps_from
steps_end done index whole t = t ∙ ap Ok (append-nil done)

-- the elements from a place on, as the first of them and the rest
pub values_at : (values : List Value) (i : ℕ) (value : Value) → i < length values → value ≡ get_or values i value
    → items_view (drop i values) ≡ item (view value) (items_view (drop (i + 1) values))
values_at values i value within is =
    ap items_view (drop-cons values i value within)
    ∙ ap (λ (v : Value). item (view v) (items_view (drop (suc i) values))) (sym is)
    ∙ ap (λ (n : ℕ). item (view value) (items_view (drop n values))) (let e : suc i ≡ i + 1 = omega arith in e)

pub all_more : (steps : List Step) (step : Step) → AllByRecursion HasDigest steps → HasDigest step → AllByRecursion HasDigest (steps ++ step ∷ [])
all_more [] step all one = (one, tt)
all_more (first ∷ steps) step all one = (all.0, all_more steps step all.1 one)

-- one tree more, of one step more
pub trees_more : (trees : List Value) (tree : Value) (steps : List Step) (step : Step) → map view trees ≡ map step_tree steps
    → view tree ≡ step_tree step → map view (trees ++ tree ∷ []) ≡ map step_tree (steps ++ step ∷ [])
trees_more trees tree steps step all one = simp map-append (rw (all, one) refl)
