-- The headline for whatever the layer of the ledger says of a ledger, where it is kept by an entry
-- that may follow.
use Rattle.std.proofs.Common.{◌≡◌, ℕ, List, [], ◌∷◌, ◌++◌, Option, None}
use Rattle.gl_rules.specs.Book.{Book}
use Rattle.gl_rules.specs.World.{Start, Event}
use Rattle.gl_rules.specs.Safety.{IsLawful, IsOpening, IsSafe, EachFollows, Makes, KeepsPlaces}
use Rattle.gl_rules.specs.Identity.{NodeId}
use Rattle.gl_rules.proofs.Soundness.{sound_cut, sound_push, follows_sound}
use Rattle.gl_safety.proofs.Headline.{safe}

-- what holds of the empty ledger, and is kept by an entry that may follow
module _ {E Q G R A F : Type 0} (b : Book E Q G R A F) (Sound : List E → Type 0) (none : Sound [])
    (taken : (log : List E) (e : E) → EachFollows b log → Sound log → b.breaks 0 log e ≡ None → Sound (log ++ e ∷ [])) where
  -- the headline, with what a layer says of a ledger
  pub safe_for : {s : Start E} → IsOpening b (EachFollows b) s → IsLawful b (EachFollows b) → (es : List (Event Q G R)) → IsSafe b Sound s es
  safe_for o la es = let r = safe o la es in record { prefix = r.prefix; status = r.status; ledger = λ i x. follows_sound b Sound none taken _ (r.ledger i x) }

-- where the layer states its laws for such ledgers
module _ {E Q G R A F : Type 0} {b : Book E Q G R A F} {Sound : List E → Type 0} {s : Start E} (o : IsOpening b Sound s) (la : IsLawful b Sound) where
  none_sound : Sound []
  none_sound = la.cut s.opening 0 o.sound

  each_sound : (l : List E) → EachFollows b l → Sound l
  each_sound l z = follows_sound b Sound none_sound (λ log e f a d. la.taken log e a d) l z

  made : (log : List E) (view : ℕ) (e : E) → EachFollows b log → Makes b Sound log view e → Makes b (EachFollows b) log view e
  made log view e z m = record { view_is = m.view_is; follows = m.follows; sound = sound_push b log e z m.follows }

  places : (place_of : List E → NodeId → Option ℕ) → KeepsPlaces b Sound place_of → KeepsPlaces b (EachFollows b) place_of
  places place_of k = record {
    none = k.none;
    stays = λ log e y p z a. k.stays log e y p (each_sound (log ++ e ∷ []) z) a;
    comes = λ log e y p z a. k.comes log e y p (each_sound (log ++ e ∷ []) z) a;
  }

  lawful : IsLawful b (EachFollows b)
  lawful = record {
    executed = λ log view q e a z v d. let r = la.executed log view q e a (each_sound log z) v d in (made log view e z r.0, r.1, r.2);
    governed = λ log view q e a z v d. let r = la.governed log view q e a (each_sound log z) v d in (made log view e z r.0, r.1);
    signed = λ x leaf log view commit e z v c h. let r = la.signed x leaf log view commit e (each_sound log z) v c h in (made log view e z r.0, r.1, r.2);
    evident = λ log view e z v d. let r = la.evident log view e (each_sound log z) v d in (made log view e z r.0, r.1, r.2);
    taken = λ log e z f. sound_push b log e z f;
    weaker = la.weaker;
    cut = λ log seqno z. sound_cut b log seqno z;
    witnessed = λ log seqno e z a d. la.witnessed log seqno e (each_sound log z) a d;
    removals = places b.removal la.removals;
    markings = places b.mark la.markings;
    marked = λ log e y z a. la.marked log e y (each_sound (log ++ e ∷ []) z) a;
    marks = λ log view g e a y seqno z v d c. la.marks log view g e a y seqno (each_sound log z) v d c;
  }

  opening : IsOpening b (EachFollows b) s
  opening = record {
    sound = o.follow;
    views = o.views;
    follow = o.follow;
    before = o.before;
    long = o.long;
    signature = o.signature;
    last = o.last;
    signs = o.signs;
    records = o.records;
    alone = o.alone;
    configured_at = o.configured_at;
    counted = o.counted;
    within = o.within;
    members = o.members;
    configured = o.configured;
    first_starts = o.first_starts;
  }

  pub safe_sound : (es : List (Event Q G R)) → IsSafe b Sound s es
  safe_sound es = safe_for b Sound none_sound (λ log e f a d. la.taken log e a d) opening lawful es
