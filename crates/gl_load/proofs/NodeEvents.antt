-- The node of a load stands for that of the rules, from event to event.
use Rattle.std.proofs.Common.{◌≡◌, ℕ, suc, ◌+◌, ◌<◌, ◌≤◌, List, [], Bool, true, false, None, drop, sym, ◌∙◌, ap, subst, arith}
use Rattle.rand_chacha.specs.ChaCha.{ChaCha, of_seed}
use Rattle.gl_rules.specs.World.{leader_at_start}
use Rattle.gl_entry.specs.declared.entry.Entry.{Entry}
use Rattle.gl_tx.specs.declared.request.Operation.{Operation}
use Rattle.gl_ledger.specs.LedgerBook.{ServiceBook}
use Rattle.gl_replication.specs.Events.{rule_of}
use Rattle.gl_replication.specs.declared.event.Event.TheVariants as events
use Rattle.gl_replication.specs.Holding.{Holding}
use Rattle.gl_replication.specs.Stands.{Reports, StandsFor, held_by}
use Rattle.gl_world.specs.Service.{ServiceEvent}
use Rattle.gl_node.specs.Kept.{Kept}
use Rattle.gl_node.specs.Persistence.{HoldsAbove, SnapshotOf}
use Rattle.gl_load.specs.Events.{events_up_to, load_ledger, node_after, signs_after}
use Rattle.gl_load.specs.Founding.{load_book, load_id, load_start}
use Rattle.gl_load.specs.Node.{IsAfter, IsAfterRequests, IsLed, IsUnsigned, Takes}
use Rattle.gl_load.specs.Requests.{load_request, words_after}
use Rattle.gl_load.specs.Types.{LoadCore, LoadSeen}
use Rattle.gl_load.proofs.Growing.{ends_signed, ends_unsigned, grown, nothing_yet, takes_commit, takes_leaf, takes_request, takes_signature, unsigned, with_leaf, with_signature}
use Rattle.gl_load.proofs.NodeSteps.{advanced, first_node, reserved, signed, submitted}

module _ {S : Type 0} (stands : S → ServiceBook → Holding Entry → Type 0) where
  -- ---- the start

  pub led : (seed : List ℕ) (core : LoadCore S) → StandsFor stands core (load_book seed) (load_id seed) (leader_at_start (load_start seed)) → IsLed stands seed core
  led seed core at = subst (StandsFor stands core (load_book seed) (load_id seed)) (sym (first_node seed)) at

  -- ---- an event

  module _ (seed : List ℕ) (count done : ℕ) (most : count ≤ 100000) (more : done < count) (seen : LoadSeen S) where
    pub request_taken : (q : List Operation) → q ≡ load_request seed done → IsAfter stands seed (events_up_to seed count done) seen → Takes stands (events.Submit q) seen.core
    request_taken q is at = subst (λ (r : List Operation). Takes stands (events.Submit r) seen.core) (sym is) (record {
      rules = load_book seed;
      me = load_id seed;
      node = node_after seed (events_up_to seed count done);
      standing = at.stands_for;
      taken = takes_request seed count done most more (grown seed count done most (omega (arith, more)));
    })

    pub leaf_taken : IsUnsigned stands seed count done seen → Takes stands events.Reserve seen.core
    leaf_taken at = record {
      rules = load_book seed;
      me = load_id seed;
      node = node_after seed (unsigned seed count done);
      standing = at.stands_for;
      taken = takes_leaf seed count done most more (grown seed count done most (omega (arith, more)));
    }

    pub signature_taken : IsAfter stands seed (with_leaf seed count done) seen → Takes stands events.Sign seen.core
    signature_taken at = record {
      rules = load_book seed;
      me = load_id seed;
      node = node_after seed (with_leaf seed count done);
      standing = at.stands_for;
      taken = takes_signature seed count done most more (grown seed count done most (omega (arith, more)));
    }

    pub commit_taken : IsAfter stands seed (with_signature seed count done) seen → Takes stands events.Advance seen.core
    commit_taken at = record {
      rules = load_book seed;
      me = load_id seed;
      node = node_after seed (with_signature seed count done);
      standing = at.stands_for;
      taken = takes_commit seed count done most more (grown seed count done most (omega (arith, more)));
    }

  module _ (seed : List ℕ) (count done : ℕ) (old new : LoadSeen S) (going : new.stopped ≡ None) where
    pub request_done : (q : List Operation) → q ≡ load_request seed done → Reports stands old.core (λ b x n. StandsFor stands new.core b x (rule_of {S = S} (events.Submit q) b x n).node) →
        IsAfter stands seed (events_up_to seed count done) old → IsUnsigned stands seed count done new
    request_done q is steps at = record {
      stands_for =
          subst (StandsFor stands new.core (load_book seed) (load_id seed))
          (ap (λ (r : List Operation). (rule_of {S = S} (events.Submit r) (load_book seed) (load_id seed) (node_after seed (events_up_to seed count done))).node) is ∙ sym (submitted seed (events_up_to seed count done) (load_request seed done)))
          (steps (load_book seed) (load_id seed) (node_after seed (events_up_to seed count done)) at.stands_for);
      going = going;
    }

    pub leaf_done : Reports stands old.core (λ b x n. StandsFor stands new.core b x (rule_of {S = S} events.Reserve b x n).node) → IsUnsigned stands seed count done old → IsAfter stands seed (with_leaf seed count done) new
    leaf_done steps at = record {
      stands_for =
          subst (StandsFor stands new.core (load_book seed) (load_id seed)) (sym (reserved seed (unsigned seed count done)))
          (steps (load_book seed) (load_id seed) (node_after seed (unsigned seed count done)) at.stands_for);
      going = going;
    }

    pub signature_done : Reports stands old.core (λ b x n. StandsFor stands new.core b x (rule_of {S = S} events.Sign b x n).node) → IsAfter stands seed (with_leaf seed count done) old →
        IsAfter stands seed (with_signature seed count done) new
    signature_done steps at = record {
      stands_for =
          subst (StandsFor stands new.core (load_book seed) (load_id seed)) (sym (signed seed (with_leaf seed count done)))
          (steps (load_book seed) (load_id seed) (node_after seed (with_leaf seed count done)) at.stands_for);
      going = going;
    }

    pub commit_done : signs_after count (suc done) ≡ true → Reports stands old.core (λ b x n. StandsFor stands new.core b x (rule_of {S = S} events.Advance b x n).node) →
        IsAfter stands seed (with_signature seed count done) old → IsAfter stands seed (events_up_to seed count (suc done)) new
    commit_done signs steps at = record {
      stands_for =
          subst (λ (es : List ServiceEvent). StandsFor stands new.core (load_book seed) (load_id seed) (node_after seed es)) (sym (ends_signed seed count done signs))
          (subst (StandsFor stands new.core (load_book seed) (load_id seed)) (sym (advanced seed (with_signature seed count done)))
          (steps (load_book seed) (load_id seed) (node_after seed (with_signature seed count done)) at.stands_for));
      going = going;
    }

  pub none_due : (seed : List ℕ) (count done : ℕ) (seen : LoadSeen S) → signs_after count (suc done) ≡ false → IsUnsigned stands seed count done seen → IsAfter stands seed (events_up_to seed count (suc done)) seen
  none_due seed count done seen none at = subst (λ (es : List ServiceEvent). IsAfter stands seed es seen) (sym (ends_unsigned seed count done none)) at

  -- ---- all requests

  pub none_after : (seed : List ℕ) (count : ℕ) (seen : LoadSeen S) (words : ChaCha) → IsAfter stands seed [] seen → words ≡ of_seed seed → IsAfterRequests stands seed count 0 seen words
  none_after seed count seen words at is = record {
    after = subst (λ (es : List ServiceEvent). IsAfter stands seed es seen) (sym (nothing_yet seed count)) at;
    words_are = is;
  }

  module _ (held : S → Kept) (snapshot_of : SnapshotOf) (seed : List ℕ) (count : ℕ) (whole : (node_after seed (events_up_to seed count count)).base ≡ 0) (seen : LoadSeen S) (at : IsAfter stands seed (events_up_to seed count count) seen) where
    pub loaded : HoldsAbove stands held snapshot_of seen.core.book → (held seen.core.book).entries ≡ load_ledger seed count
    loaded above =
        sym (above (load_book seed) (held_by (load_id seed) (node_after seed (events_up_to seed count count))) at.stands_for.ledger).entries
        ∙ ap (λ (i : ℕ). drop i (load_ledger seed count)) whole

    -- so it is with the entries that its store gives
    pub given : (core : LoadCore S) (entries : List Entry) → core ≡ seen.core → HoldsAbove stands held snapshot_of core.book → entries ≡ (held core.book).entries → entries ≡ load_ledger seed count
    given core entries same above are =
        are ∙ ap (λ (c : LoadCore S). (held c.book).entries) same ∙ loaded (subst (λ (c : LoadCore S). HoldsAbove stands held snapshot_of c.book) same above)

-- whether it signs after the next request
pub due : (count done : ℕ) (b t : Bool) → b ≡ signs_after count (done + 1) → b ≡ t → signs_after count (suc done) ≡ t
due count done b t is so = let next : done + 1 ≡ suc done = omega arith in ap (signs_after count) (sym next) ∙ sym is ∙ so

pub next_words : (seed : List ℕ) (done : ℕ) (words : ChaCha) → words ≡ words_after seed (done + 1) → words ≡ words_after seed (suc done)
next_words seed done words is = let next : done + 1 ≡ suc done = omega arith in is ∙ ap (words_after seed) next
