-- What one message carries of a ledger keeps the limits of a message.
use Rattle.std.proofs.Common.{◌≡◌, ◌≤◌, ℕ, zero, suc, ◌-◌, List, [], ◌∷◌, length, Bool, true, false, ◌||◌, nat_le, if◌then◌else◌, IsTrue, refl, ap, ◌∙◌, arith}
use Rattle.std.specs.List.{AllByRecursion, list_all}
use Rattle.std.proofs.lemmas.Bool.{and_parts, and_from, le-leb, leb-true}
use Rattle.std.proofs.Math.Bool.{or-true}
use Rattle.gl_entry.specs.Entry.{body_bytes, body_limit, frame_size, is_entry}
use Rattle.gl_entry.specs.declared.entry.Entry.{Entry}
use Rattle.gl_rules.specs.Book.{Book}
use Rattle.gl_rules.specs.Replication.{batch, fitting_prefix, frames_limit}
use Rattle.gl_messages.specs.Message.{are_within, entries_fit, frames_size, has_fitting_body, most_bytes, most_entries}

-- each is one that a ledger may hold
abbrev pub AreEntries : List Entry → Type 0
AreEntries es = AllByRecursion (λ (e : Entry). IsTrue (is_entry e)) es

fitting : (e : Entry) → IsTrue (is_entry e) → IsTrue (has_fitting_body e)
fitting e is = (and_parts _ (nat_le (length (body_bytes e)) body_limit) is).1

bodies_fit : (es : List Entry) → AreEntries es → IsTrue (list_all has_fitting_body es)
bodies_fit [] are = refl
bodies_fit (e ∷ es) are = and_from _ _ (fitting e are.0) (bodies_fit es are.1)

-- so many entries at most, with so many bytes of frames
record Carried (count room : ℕ) (es : List Entry) : Type 0 where
  pub short : length es ≤ count
  pub entries : AreEntries es
  pub within : frames_size es ≤ room

module _ {Q G R A F : Type 0} (b : Book Entry Q G R A F) (frames : (e : Entry) → IsTrue (is_entry e) → frame_size e ≤ b.frame_size e) where
  prefix_fits : (count room : ℕ) (es : List Entry) → AreEntries es → Carried count room (fitting_prefix b count room es)
  unfolding fitting_prefix
  prefix_fits zero room es are = record { short = omega arith; entries = tt; within = omega arith }
  prefix_fits (suc count) room [] are = record { short = omega arith; entries = tt; within = omega arith }
  prefix_fits (suc count) room (e ∷ es) are = go (nat_le (b.frame_size e) room) refl (prefix_fits count (room - b.frame_size e) es are.1)
    where
      go : (t : Bool) → nat_le (b.frame_size e) room ≡ t → Carried count (room - b.frame_size e) (fitting_prefix b count (room - b.frame_size e) es) →
          Carried (suc count) room (if t then e ∷ fitting_prefix b count (room - b.frame_size e) es else [])
      go true fits rest = record {
        short = omega (arith, rest.short);
        entries = (are.0, rest.entries);
        within = omega (arith, rest.within, frames e are.0, leb-true (b.frame_size e) room fits);
      }
      go false fits rest = record { short = omega arith; entries = tt; within = omega arith }

  -- one entry, or few bytes
  within_limits : (e : Entry) (es : List Entry) → IsTrue (is_entry e) → Carried 63 (frames_limit - b.frame_size e) es → IsTrue (are_within (e ∷ es))
  within_limits e [] is carried = refl
  within_limits e (f ∷ es) is carried =
      let few : frames_size (e ∷ f ∷ es) ≤ most_bytes = omega (arith, carried.within, frames e is) in
      ap (λ (t : Bool). nat_le (length (e ∷ f ∷ es)) 1 || t) (le-leb (frames_size (e ∷ f ∷ es)) most_bytes few) ∙ or-true (nat_le (length (e ∷ f ∷ es)) 1)

  pub batch_fits : (es : List Entry) → AreEntries es → IsTrue (entries_fit (batch b es))
  batch_fits [] are = refl
  batch_fits (e ∷ es) are =
      let rest = prefix_fits 63 (frames_limit - b.frame_size e) es are.1 in
      let carried = fitting_prefix b 63 (frames_limit - b.frame_size e) es in
      let short : length (e ∷ carried) ≤ most_entries = omega (arith, rest.short) in
      and_from _ _ (and_from _ _ (le-leb (length (e ∷ carried)) most_entries short) (bodies_fit (e ∷ carried) (are.0, rest.entries))) (within_limits e carried are.0 rest)
