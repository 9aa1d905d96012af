-- A node's number as a line has it, and as a byte.
use Rattle.std.proofs.Common.{◌≡◌, ℕ, ◌+◌, ◌<◌, ◌≤◌, Bool, true, false, ◌&&◌, nat_le, nat_lt, Some, None, length, refl, sym, ◌∙◌, ap, ap₂, arith, if◌then◌else◌}
use Rattle.std.proofs.lemmas.Bool.Decides.{nat_tests}
use Rattle.gl_rules.specs.Identity.{NodeId}
use Rattle.gl_world.specs.declared.settings.Settings.{Settings}
use Rattle.gl_world.specs.Founding.{id_of, node_ids}
use Rattle.gl_world.specs.Group.{IsGroup}
use Rattle.gl_world.specs.Held.{Held, has_node, is_number}
use Rattle.gl_world.proofs.NodeIds.{count_is, number_parts}
use Rattle.gl_schedule.specs.Play.{byte_number}
use Rattle.gl_schedule.specs.Text.{unnamed_text}
use Rattle.gl_schedule.specs.Output.{Effect, Answers, at_named, at_node, at_nodes, at_member}
use Rattle.gl_requests.specs.Ranges.{is_member_number}

-- it names a node either way, or neither way
same_number : (count number : ℕ) → count ≤ 255 → is_number count (byte_number number) ≡ is_number count number
same_number count number few = go (nat_lt number 256) refl
  where
    go : (b : Bool) → nat_lt number 256 ≡ b → is_number count (if b then number else 0) ≡ is_number count number
    go true low = refl
    go false high =
        let past : nat_le number count ≡ false = grind (arith, nat_tests) in
        let some : nat_le 1 number ≡ true = grind (arith, nat_tests) in
        sym (ap₂ (λ (a b : Bool). a && b) some past)

-- and then it is the number
pub same_byte : (count number : ℕ) → is_number count (byte_number number) ≡ true → byte_number number ≡ number
same_byte count number named = go (nat_lt number 256) named
  where
    go : (b : Bool) → is_number count (if b then number else 0) ≡ true → (if b then number else 0) ≡ number
    go true n = refl
    go false n = absurd (cc)

few_nodes : (s : Settings) → IsGroup s → s.starting + s.joiners ≤ 255
few_nodes s h = let starting = h.starting in let joiners = h.joiners in omega arith

-- whether a node has the number
named_by : (s : Settings) → IsGroup s → (number : ℕ) → is_number (s.starting + s.joiners) number ≡ is_number (length (node_ids s)) (byte_number number)
named_by s h number =
    sym (same_number (s.starting + s.joiners) number (few_nodes s h))
    ∙ ap (λ (count : ℕ). is_number count (byte_number number)) (sym (count_is s))

pub at_none : (s : Settings) → IsGroup s → (number : ℕ) (effect : NodeId → Effect) → is_number (length (node_ids s)) (byte_number number) ≡ false → at_node s number effect ≡ Answers unnamed_text
at_none s h number effect none =
    ap (λ (b : Bool). at_named (if b then Some (id_of s number) else None) effect) (named_by s h number ∙ none)

pub at_some : (s : Settings) → IsGroup s → (number : ℕ) (effect : NodeId → Effect) → is_number (length (node_ids s)) (byte_number number) ≡ true → at_node s number effect ≡ effect (id_of s (byte_number number))
at_some s h number effect named =
    ap (λ (b : Bool). at_named (if b then Some (id_of s number) else None) effect) (named_by s h number ∙ named)
    ∙ ap (λ (n : ℕ). effect (id_of s n)) (sym (same_byte (length (node_ids s)) number named))

-- one node
pub at_one : (s : Settings) → IsGroup s → (number : ℕ) (effect : NodeId → Effect) →
    at_node s number effect ≡ (if is_number (length (node_ids s)) (byte_number number) then effect (id_of s (byte_number number)) else Answers unnamed_text)
at_one s h number effect = go (is_number (length (node_ids s)) (byte_number number)) refl
  where
    go : (b : Bool) → is_number (length (node_ids s)) (byte_number number) ≡ b → at_node s number effect ≡ (if b then effect (id_of s (byte_number number)) else Answers unnamed_text)
    go true named = at_some s h number effect named
    go false none = at_none s h number effect none

-- two nodes
pub at_two : (s : Settings) → IsGroup s → (number other : ℕ) (effect : NodeId → NodeId → Effect) →
    at_nodes s number other effect ≡
    (if is_number (length (node_ids s)) (byte_number number) && is_number (length (node_ids s)) (byte_number other)
    then effect (id_of s (byte_number number)) (id_of s (byte_number other)) else Answers unnamed_text)
at_two s h number other effect =
    at_one s h number (λ x. at_node s other (effect x)) ∙ go (is_number (length (node_ids s)) (byte_number number))
  where
    x : NodeId
    x = id_of s (byte_number number)

    c : Bool
    c = is_number (length (node_ids s)) (byte_number other)

    go : (b : Bool) → (if b then at_node s other (effect x) else Answers unnamed_text) ≡ (if b && c then effect x (id_of s (byte_number other)) else Answers unnamed_text)
    go true = at_one s h other (effect x)
    go false = refl

-- a member's number
pub at_member_is : (number m : ℕ) (effect : ℕ → Effect) → Some m ≡ (if is_member_number number then Some number else None) → at_member number (effect number) ≡ effect m
at_member_is number m effect is = go (is_member_number number) is
  where
    go : (b : Bool) → Some m ≡ (if b then Some number else None) → (if b then effect number else Answers unnamed_text) ≡ effect m
    go true one = let same : m ≡ number = cc in ap effect (sym same)
    go false none = absurd (cc)

pub at_no_member : (number : ℕ) (effect : Effect) → None ≡ (if is_member_number number then Some number else None) → at_member number effect ≡ Answers unnamed_text
at_no_member number effect is = go (is_member_number number) is
  where
    go : (b : Bool) → None ≡ (if b then Some number else None) → (if b then effect else Answers unnamed_text) ≡ Answers unnamed_text
    go true one = absurd (cc)
    go false none = refl

-- each number up to the last names a node
pub number_here : (h : Held) (s : Settings) → h.settings ≡ s → (i : ℕ) → i < s.starting + s.joiners → has_node h (i + 1) ≡ true
number_here h s is i low =
    let count : i + 1 ≤ length (node_ids h.settings) = omega (arith, low, count_is h.settings, ap (λ (u : Settings). u.starting + u.joiners) is) in
    let some : nat_le 1 (i + 1) ≡ true = grind (arith, nat_tests) in
    let few : nat_le (i + 1) (length (node_ids h.settings)) ≡ true = grind (arith, nat_tests, count) in
    ap₂ (λ (a b : Bool). a && b) some few

-- and a number that names a node is small
pub number_small : (h : Held) (s : Settings) → h.settings ≡ s → IsGroup s → (number : ℕ) → has_node h number ≡ true → (1 ≤ number) × (number ≤ 32)
number_small h s is group number named =
    let both = number_parts (length (node_ids h.settings)) number named in
    let starting = group.starting in
    let joiners = group.joiners in
    (both.0, omega (arith, both.1, count_is h.settings, ap (λ (u : Settings). u.starting + u.joiners) is, starting, joiners))
