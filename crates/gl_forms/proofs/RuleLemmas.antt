-- The rules of a constitution, read one after the other.
use Rattle.std.proofs.Common.{◌≡◌, ℕ, suc, ◌+◌, ◌<◌, length, drop, map, get_or, drop-cons, arith, List, [], ◌∷◌, ◌++◌, Result, Ok, Err, Bor, refl, ap, ◌∙◌}
use Rattle.std.proofs.lemmas.List.{append-nil}
use Rattle.serde_json.specs.Data.{Data}
use Rattle.gl_base.specs.Answers.{Fails}
use Rattle.gl_base.specs.declared.json.FormsFault.{FormsFault}
use Rattle.gl_base.specs.declared.or_no_memory.OrNoMemory.{OrNoMemory}
use Rattle.gl_base.specs.declared.or_no_memory.OrNoMemory.TheVariants.{NoMemory, Fault}
use Rattle.gl_requests.specs.declared.action.Rule.{Rule}
use Rattle.gl_forms.specs.Actions.{rule_at, rules_of}
use Rattle.gl_forms.proofs.ElementLemmas.{after, after_one}

pub rules_more : (place : List ℕ) (done : List Rule) (name : List ℕ) (names : List (List ℕ)) (value : Data) (rule : Rule) → rule_at place name value ≡ Ok rule
    → after done (rules_of place (name ∷ names) value) ≡ after (done ++ rule ∷ []) (rules_of place names value)
unfolding rules_of
rules_more place done name names value rule e = rw e (after_one done rule (rules_of place names value))

rules_err : (place : List ℕ) (name : List ℕ) (names : List (List ℕ)) (value : Data) (fault : FormsFault) → rule_at place name value ≡ Err fault
    → rules_of place (name ∷ names) value ≡ Err fault
unfolding rules_of
rules_err place name names value fault e = rw e refl

pub rules_stop : (place : List ℕ) (e : OrNoMemory FormsFault) (done : List Rule) (name : List ℕ) (names : List (List ℕ)) (value : Data) (whole : Result (List Rule) FormsFault)
    → Fails e (rule_at place name value) → whole ≡ after done (rules_of place (name ∷ names) value) → Fails e whole
rules_stop place NoMemory done name names value whole h t = tt
rules_stop place (Fault fault) done name names value whole h t = t ∙ ap (after done) (rules_err place name names value fault h)

pub rules_end : (place : List ℕ) (done : List Rule) (value : Data) (whole : Result (List Rule) FormsFault) → whole ≡ after done (rules_of place [] value) → whole ≡ Ok done
unfolding rules_of
rules_end place done value whole t = t ∙ ap Ok (append-nil done)

-- a name that stands in no list
abbrev pub no_name : Bor (List ℕ)
no_name = record { ref_ptr = (0, 0); now = [] }

-- the names from a place on, as the first of them and the rest
pub names_at : (names : List (Bor (List ℕ))) (i : ℕ) → i < length names
    → map (λ s. s.now) (drop i names) ≡ (get_or names i no_name).now ∷ map (λ s. s.now) (drop (i + 1) names)
names_at names i within =
    let now = λ (s : Bor (List ℕ)). s.now in
    ap (map now) (drop-cons names i no_name within)
    ∙ ap (λ (n : ℕ). (get_or names i no_name).now ∷ map now (drop n names)) (let e : suc i ≡ i + 1 = omega arith in e)
