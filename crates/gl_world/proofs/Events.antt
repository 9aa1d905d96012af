-- At which node an event happens.
use Rattle.std.proofs.Common.{◌≡◌, ◌⊎◌, inl, inr, ℕ, zero, suc, ◌-◌, List, [], ◌∷◌, length, Bool, true, false, Option, Some, None, slice_get, refl, sym, ap, ◌∙◌, arith, if◌then◌else◌}
use Rattle.std.specs.Option.{option_map}
use Rattle.std.proofs.lemmas.Bool.{and_parts}
use Rattle.std.proofs.lemmas.Option.{same_Some, slice_get-get_or}
use Rattle.gl_entry.specs.declared.entry.Entry.{Entry}
use Rattle.gl_rules.specs.Identity.{NodeId, same}
use Rattle.gl_rules.specs.Message.{Message}
use Rattle.gl_rules.proofs.Ids.{same_is}
use Rattle.gl_tx.specs.declared.request.Operation.{Operation}
use Rattle.gl_requests.specs.declared.request.GovernanceRequest.{GovernanceRequest}
use Rattle.gl_world.specs.declared.event.Event.{Event}
use Rattle.gl_world.specs.declared.event.Event.TheVariants as events
use Rattle.gl_world.specs.Held.{index_of, is_among, is_number, node_named, receiver_in}
use Rattle.gl_world.specs.Rules.{node_in, acting_node, receiver_of}
use Rattle.gl_world.proofs.NodeIds.{number_parts}

pub index_of_at : (ids : List NodeId) (x : NodeId) (i : ℕ) → index_of ids x ≡ Some i → slice_get ids i ≡ Some x
index_of_at [] x i e = absurd (cc)
index_of_at (y ∷ ys) x i e = go (same x y) refl i e (λ k. index_of_at ys x k)
  where
    suffix : (o : Option ℕ) (j : ℕ) → index_of ys x ≡ o → option_map suc o ≡ Some j → ((k : ℕ) → index_of ys x ≡ Some k → slice_get ys k ≡ Some x) → slice_get (y ∷ ys) j ≡ Some x
    suffix None j d f again = absurd (cc)
    suffix (Some k) zero d f again = absurd (let is = same_Some (suc k) zero f in omega (arith, is))
    suffix (Some k) (suc j) d f again = let is = same_Some (suc k) (suc j) f in again j (d ∙ ap (λ (n : ℕ). Some n) (omega (arith, is)))

    go : (t : Bool) → same x y ≡ t → (j : ℕ) → (if t then Some 0 else option_map suc (index_of ys x)) ≡ Some j →
        ((k : ℕ) → index_of ys x ≡ Some k → slice_get ys k ≡ Some x) → slice_get (y ∷ ys) j ≡ Some x
    go true s j f again = let is = same_Some 0 j f in ap (slice_get (y ∷ ys)) (sym is) ∙ ap (λ (z : NodeId). Some z) (sym (same_is x y s))
    go false s j f again = suffix (index_of ys x) j refl f again

-- where a message is delivered
pub delivered_at : (ids : List NodeId) (m : Option (Message Entry)) (i : ℕ) → receiver_in ids m ≡ Some i → slice_get ids i ≡ Some (receiver_of m)
delivered_at ids None i e = absurd (cc)
delivered_at ids (Some m) i e = index_of_at ids m.receiver i e

-- an event that names its node
pub named_by : (event : Event) (node : ℕ) →
    (event ≡ events.Timeout node) ⊎ (((x : List Operation) × (event ≡ events.Submit node x)) ⊎ (((x : GovernanceRequest) × (event ≡ events.Govern node x)) ⊎ ((event ≡ events.Reserve node) ⊎ ((event ≡ events.Sign node)
    ⊎ ((event ≡ events.Evidence node) ⊎ (((x : ℕ) × (event ≡ events.Replicate node x)) ⊎ ((event ≡ events.Advance node) ⊎ (((x : ℕ) × (event ≡ events.StepDown node x)) ⊎ ((event ≡ events.Restart node) ⊎ ((x : ℕ) × (event ≡ events.Install node x))))))))))) →
    node_named event ≡ Some node
named_by event node (inl e) = ap node_named e
named_by event node (inr (inl p)) = ap node_named p.1
named_by event node (inr (inr (inl p))) = ap node_named p.1
named_by event node (inr (inr (inr (inl e)))) = ap node_named e
named_by event node (inr (inr (inr (inr (inl e))))) = ap node_named e
named_by event node (inr (inr (inr (inr (inr (inl e)))))) = ap node_named e
named_by event node (inr (inr (inr (inr (inr (inr (inl p))))))) = ap node_named p.1
named_by event node (inr (inr (inr (inr (inr (inr (inr (inl e)))))))) = ap node_named e
named_by event node (inr (inr (inr (inr (inr (inr (inr (inr (inl p))))))))) = ap node_named p.1
named_by event node (inr (inr (inr (inr (inr (inr (inr (inr (inr (inl e)))))))))) = ap node_named e
named_by event node (inr (inr (inr (inr (inr (inr (inr (inr (inr (inr p)))))))))) = ap node_named p.1

-- its node is one of these, and that is where it happens
named_place : (ids : List NodeId) (sent : List (Message Entry)) (event : Event) (node : ℕ) → node_named event ≡ Some node → is_among ids sent event ≡ true →
    (is_number (length ids) node ≡ true) × (acting_node ids sent event ≡ node_in ids node)
named_place ids sent (events.Timeout n) node e h = let is = same_Some n node e in (ap (is_number (length ids)) (sym is) ∙ h, ap (node_in ids) is)
named_place ids sent (events.Deliver message) node e h = absurd (cc)
named_place ids sent (events.Submit n request) node e h = let is = same_Some n node e in (ap (is_number (length ids)) (sym is) ∙ h, ap (node_in ids) is)
named_place ids sent (events.Govern n request) node e h = let is = same_Some n node e in (ap (is_number (length ids)) (sym is) ∙ h, ap (node_in ids) is)
named_place ids sent (events.Reserve n) node e h = let is = same_Some n node e in (ap (is_number (length ids)) (sym is) ∙ h, ap (node_in ids) is)
named_place ids sent (events.Sign n) node e h = let is = same_Some n node e in (ap (is_number (length ids)) (sym is) ∙ h, ap (node_in ids) is)
named_place ids sent (events.Evidence n) node e h = let is = same_Some n node e in (ap (is_number (length ids)) (sym is) ∙ h, ap (node_in ids) is)
named_place ids sent (events.Replicate n to) node e h = let is = same_Some n node e in (ap (is_number (length ids)) (sym is) ∙ (and_parts (is_number (length ids) n) (is_number (length ids) to) h).0, ap (node_in ids) is)
named_place ids sent (events.Advance n) node e h = let is = same_Some n node e in (ap (is_number (length ids)) (sym is) ∙ h, ap (node_in ids) is)
named_place ids sent (events.StepDown n to) node e h = let is = same_Some n node e in (ap (is_number (length ids)) (sym is) ∙ (and_parts (is_number (length ids) n) (is_number (length ids) to) h).0, ap (node_in ids) is)
named_place ids sent (events.Restart n) node e h = let is = same_Some n node e in (ap (is_number (length ids)) (sym is) ∙ h, ap (node_in ids) is)
named_place ids sent (events.Install n from) node e h = let is = same_Some n node e in (ap (is_number (length ids)) (sym is) ∙ (and_parts (is_number (length ids) n) (is_number (length ids) from) h).0, ap (node_in ids) is)

pub named_at : (ids : List NodeId) (sent : List (Message Entry)) (event : Event) (node : ℕ) → node_named event ≡ Some node → is_among ids sent event ≡ true →
    slice_get ids (node - 1) ≡ Some (acting_node ids sent event)
named_at ids sent event node e h =
    let p = named_place ids sent event node e h in
    let q = number_parts (length ids) node p.0 in
    slice_get-get_or ids (node - 1) [] (omega (arith, q.0, q.1)) ∙ ap (λ (x : NodeId). Some x) (sym p.1)
