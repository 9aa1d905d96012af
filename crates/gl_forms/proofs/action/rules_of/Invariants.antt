use Rattle.std.proofs.Common.{◌≡◌, drop, map}
use Rattle.serde_json.specs.View.{view}
use Rattle.gl_forms.specs.Actions.{rules_of}
use Rattle.gl_forms.specs.Place.{pointer_of}
use Rattle.gl_forms.proofs.ElementLemmas.{after}
use Rattle.gl_forms.proofs.action.rules_of.Given as goal

-- the rules of the names that are left are read after those that are done
abbrev pub invariant-loop-name : goal.invariant-loop-name
invariant-loop-name l =
    rules_of (pointer_of l.fn.place) (map (λ s. s.now) l.names) (view l.fn.value)
    ≡ after l.rules.items (rules_of (pointer_of l.fn.place) (map (λ s. s.now) (drop l.name-index l.names)) (view l.fn.value))
