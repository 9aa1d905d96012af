-- Seqnos of a ledger, its signatures and the commits that they record.
use Rattle.std.specs.Prelude.{ℕ, zero, suc, List, [], ◌∷◌, Bool, true, false, Option, None, Some, max, take, nat_lt, nat_le, ◌==◌, ◌&&◌, ◌||◌, slice_get, if◌then◌else◌}
use Rattle.gl_rules.specs.Book.{Book}
use Rattle.gl_rules.specs.Message.{Position}

-- The entry at a seqno; there is none at 0.
abbrev pub entry_at : {E : Type 0} → List E → ℕ → Option E
entry_at log zero = None
entry_at log (suc i) = slice_get log i

-- The seqno of the last signature once one more entry is put before a ledger: one more than before;
-- where there was none, 1 if the new entry is a signature, else 0.
abbrev pub seqno_with_first : Bool → ℕ → ℕ
seqno_with_first here (suc seqno) = suc (suc seqno)
seqno_with_first true zero = 1
seqno_with_first false zero = 0

-- Signatures are compared by view, and then by seqno.
abbrev pub is_up_to_date : Position → Position → Bool
is_up_to_date a b = nat_lt b.view a.view || (b.view == a.view && nat_le b.seqno a.seqno)

module _ {E Q G R A F : Type 0} (book : Book E Q G R A F) where
  abbrev pub view_of_entry : Option E → ℕ
  view_of_entry None = 0
  view_of_entry (Some e) = book.view_of e

  -- The view of the entry at a seqno, 0 where there is none.
  abbrev pub view_at : List E → ℕ → ℕ
  view_at log seqno = view_of_entry (entry_at log seqno)

  -- The seqno of the last signature, 0 where there is none.
  unfoldable pub last_signature : List E → ℕ
  last_signature [] = 0
  last_signature (e ∷ es) = seqno_with_first (book.is_signature e) (last_signature es)

  abbrev pub last_signature_position : List E → Position
  last_signature_position log =
      record { view = view_at log (last_signature log); seqno = last_signature log }

  -- Whether there is an entry, a signature of this view.
  abbrev pub is_signature_in : ℕ → Option E → Bool
  is_signature_in view None = false
  is_signature_in view (Some e) = book.is_signature e && (book.view_of e == view)

  -- The log up to its last signature.
  abbrev pub signed_prefix : List E → List E
  signed_prefix log = take (last_signature log) log

  abbrev recorded_in : E → ℕ
  recorded_in e = if book.is_signature e then book.recorded_commit e else 0

  -- The greatest commit that a signature of the log records, 0 where there is none.
  unfoldable pub greatest_recorded : List E → ℕ
  greatest_recorded [] = 0
  greatest_recorded (e ∷ es) = max (recorded_in e) (greatest_recorded es)
