-- The entries that a node holds fit their format.
use Rattle.std.proofs.Common.{◌≡◌, ℕ, zero, suc, List, [], ◌∷◌, drop, take, true, Option, Some, None, slice_get, refl}
use Rattle.std.specs.List.{AllByRecursion}
use Rattle.gl_rules.specs.Identity.{NodeId}
use Rattle.gl_rules.specs.Safety.{EachFollows, IsLawful, IsOpening}
use Rattle.gl_rules.specs.World.{after, begin}
use Rattle.gl_safety.proofs.Runs.{first_story, onward_run}
use Rattle.gl_safety.proofs.Beginning.{holding_first}
use Rattle.gl_entry.specs.Entry.{is_entry}
use Rattle.gl_entry.specs.declared.entry.Entry.{Entry}
use Rattle.gl_ledger.specs.Broken.{broken}
use Rattle.gl_ledger.specs.LedgerBook.{by_rule}
use Rattle.gl_ledger.specs.NodeKeys.{service_layers}
use Rattle.gl_ledger.specs.declared.breach.Broken as breaches
use Rattle.gl_ledger.proofs.Lawful.{lawful}
use Rattle.gl_ledger.proofs.Passing.{passing}
use Rattle.gl_world.specs.Service.{ServiceEvent}
use Rattle.gl_world.specs.declared.settings.Settings.{Settings}
use Rattle.gl_world.specs.Founding.{id_of, keys_of}
use Rattle.gl_world.specs.Group.{IsGroup, book_of}
use Rattle.gl_world.specs.Held.{Held, node_now, seen_events}
use Rattle.gl_world.specs.World.{start_of}
use Rattle.gl_world.proofs.Groups.{group_opens}
use Rattle.gl_schedule.specs.Text.{held_entries}

-- each entry of a node's log may follow those before it
each_follows : (s : Settings) → IsGroup s → (events : List ServiceEvent) (x : NodeId) → EachFollows (book_of s) ((after (book_of s) (start_of s) events).nodes x).log
each_follows s h events x =
    let opens : IsOpening (book_of s) (EachFollows (book_of s)) (start_of s) = group_opens s h in
    let laws : IsLawful (book_of s) (EachFollows (book_of s)) = lawful service_layers (keys_of s) in
    let reached = onward_run opens laws events (begin (start_of s)) (first_story opens laws) (holding_first opens laws) in
    (reached.1.nodes x).sound

unbroken : (o : Option breaches.Broken) → by_rule o ≡ None → o ≡ None
unbroken None none = refl
unbroken (Some why) none = absurd (cc)

fits : (s : Settings) (log : List Entry) (e : Entry) → (book_of s).breaks 0 log e ≡ None → is_entry e ≡ true
fits s log e none = (passing service_layers log e (unbroken (broken service_layers log e) none)).fits

all_from : {A : Type 0} (P : A → Type 0) (xs : List A) → ((i : ℕ) (x : A) → slice_get xs i ≡ Some x → P x) → AllByRecursion P xs
all_from P [] each = tt
all_from P (x ∷ xs) each = (each 0 x refl, all_from P xs (λ i y at. each (suc i) y at))

all_after : {A : Type 0} (P : A → Type 0) (k : ℕ) (xs : List A) → AllByRecursion P xs → AllByRecursion P (drop k xs)
all_after P zero xs all = all
all_after P (suc k) [] all = tt
all_after P (suc k) (x ∷ xs) all = all_after P k xs all.1

pub held_fit : (h : Held) → IsGroup h.settings → (number : ℕ) → AllByRecursion (λ (e : Entry). is_entry e ≡ true) (held_entries (node_now h number))
held_fit h group number =
    let n = node_now h number in
    let follows = each_follows h.settings group (seen_events h) (id_of h.settings number) in
    all_after (λ (e : Entry). is_entry e ≡ true) n.base n.log (all_from (λ (e : Entry). is_entry e ≡ true) n.log (λ i e at. fits h.settings (take i n.log) e (follows i e at)))
