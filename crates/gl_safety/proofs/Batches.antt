-- What an Append carries is a prefix of the entries after its seqno.
use Rattle.std.proofs.Common.{◌≡◌, ℕ, zero, suc, ◌-◌, List, [], ◌∷◌, Bool, true, false, nat_le, if◌then◌else◌, Some, slice_get}
use Rattle.gl_rules.specs.Book.{Book}
use Rattle.gl_rules.specs.Replication.{entries_limit, frames_limit, fitting_prefix, batch}

module _ {E Q G R A F : Type 0} (b : Book E Q G R A F) where
  fits : (count room : ℕ) (es : List E) (i : ℕ) (e : E) → slice_get (fitting_prefix b count room es) i ≡ Some e → slice_get es i ≡ Some e
  unfolding fitting_prefix
  fits zero room es i e a = absurd (cc)
  fits (suc count) room [] i e a = absurd (cc)
  fits (suc count) room (d ∷ es) i e a = go (nat_le (b.frame_size d) room) i a (fits count (room - b.frame_size d) es)
    where
      go : (m : Bool) (j : ℕ) → slice_get (if m then d ∷ fitting_prefix b count (room - b.frame_size d) es else []) j ≡ Some e →
          ((k : ℕ) (f : E) → slice_get (fitting_prefix b count (room - b.frame_size d) es) k ≡ Some f → slice_get es k ≡ Some f) → slice_get (d ∷ es) j ≡ Some e
      go true zero w again = w
      go true (suc k) w again = again k e w
      go false j w again = absurd (cc)

  pub in_batch : (es : List E) (i : ℕ) (e : E) → slice_get (batch b es) i ≡ Some e → slice_get es i ≡ Some e
  in_batch [] i e a = a
  in_batch (d ∷ es) zero e a = a
  in_batch (d ∷ es) (suc i) e a = fits (entries_limit - 1) (frames_limit - b.frame_size d) es i e a
