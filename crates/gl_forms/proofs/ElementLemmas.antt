-- The elements of a list, read one after the other.
use Rattle.std.proofs.Common.{◌≡◌, ℕ, suc, ◌+◌, ◌<◌, length, drop, get_or, drop-cons, arith, List, [], ◌∷◌, ◌++◌, Result, Ok, Err, refl, sym, ap, ◌∙◌, append_assoc}
use Rattle.std.proofs.lemmas.List.{append-nil}
use Rattle.serde_json.specs.Data.{Data, Items, no_items, item}
use Rattle.serde_json.specs.View.{view, items_view}
use Rattle.serde_json.specs.declared.value.Value.{Value}
use Rattle.gl_base.specs.Answers.{Fails}
use Rattle.gl_base.specs.Json.{item_of}
use Rattle.gl_base.specs.Steps.{◌>>=◌}
use Rattle.gl_base.specs.declared.json.FormsFault.{FormsFault}
use Rattle.gl_base.specs.declared.or_no_memory.OrNoMemory.{OrNoMemory}
use Rattle.gl_base.specs.declared.or_no_memory.OrNoMemory.TheVariants.{NoMemory, Fault}
use Rattle.gl_forms.specs.Form.{elements_from}

-- what is read, after the elements that are done
abbrev pub after : {X : Type 0} → List X → Result (List X) FormsFault → Result (List X) FormsFault
after done (Ok rest) = Ok (done ++ rest)
after done (Err fault) = Err fault

pub after_one : {X : Type 0} → (done : List X) (x : X) (r : Result (List X) FormsFault)
    → after done (r >>= λ rest. Ok (x ∷ rest)) ≡ after (done ++ x ∷ []) r
after_one done x (Ok rest) = ap Ok (sym (append_assoc done (x ∷ []) rest))
after_one done x (Err fault) = refl

pub elements_more : {X : Type 0} → (form : List ℕ → Data → Result X FormsFault) (place : List ℕ) (done : List X) (index : ℕ) (x : X) (value : Data) (values : Items)
    → form (item_of place index) value ≡ Ok x
    → after done (elements_from form place index (item value values)) ≡ after (done ++ x ∷ []) (elements_from form place (suc index) values)
unfolding elements_from
elements_more form place done index x value values e = rw e (after_one done x (elements_from form place (suc index) values))

elements_err : {X : Type 0} → (form : List ℕ → Data → Result X FormsFault) (place : List ℕ) (index : ℕ) (value : Data) (values : Items) (fault : FormsFault)
    → form (item_of place index) value ≡ Err fault → elements_from form place index (item value values) ≡ Err fault
unfolding elements_from
elements_err form place index value values fault e = rw e refl

pub elements_stop : {X : Type 0} → (form : List ℕ → Data → Result X FormsFault) (place : List ℕ) (e : OrNoMemory FormsFault) (done : List X) (index : ℕ) (value : Data) (values : Items) (whole : Result (List X) FormsFault)
    → Fails e (form (item_of place index) value) → whole ≡ after done (elements_from form place index (item value values)) → Fails e whole
elements_stop form place NoMemory done index value values whole h t = tt
elements_stop form place (Fault fault) done index value values whole h t = t ∙ ap (after done) (elements_err form place index value values fault h)

pub elements_end : {X : Type 0} → (form : List ℕ → Data → Result X FormsFault) (place : List ℕ) (done : List X) (index : ℕ) (whole : Result (List X) FormsFault)
    → whole ≡ after done (elements_from form place index no_items) → whole ≡ Ok done
unfolding elements_from
elements_end form place done index whole t = t ∙ ap Ok (append-nil done)

-- the values from a place on, as the first of them and the rest
pub values_at : (values : List Value) (i : ℕ) (value : Value) → i < length values → value ≡ get_or values i value
    → items_view (drop i values) ≡ item (view value) (items_view (drop (i + 1) values))
values_at values i value within is =
    ap items_view (drop-cons values i value within)
    ∙ ap (λ (v : Value). item (view v) (items_view (drop (suc i) values))) (sym is)
    ∙ ap (λ (n : ℕ). item (view value) (items_view (drop n values))) (let e : suc i ≡ i + 1 = omega arith in e)
