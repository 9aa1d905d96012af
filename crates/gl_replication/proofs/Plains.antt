-- The small book: what is read of a ledger under it.
use Rattle.std.proofs.Common.{◌≡◌, ℕ, zero, suc, List, [], ◌∷◌, ◌++◌, max, length, take, drop, slice_get, Bool, true, false, nat_lt, None, Ok, refl, sym, ap, subst, ◌∙◌, if◌then◌else◌}
use Rattle.std.specs.Option.{option_to_list}
use Rattle.std.proofs.lemmas.List.{append_assoc, append-nil}
use Rattle.gl_entry.specs.Entry.{is_signature}
use Rattle.gl_entry.specs.declared.entry.Entry.{Entry}
use Rattle.gl_rules.specs.Identity.{NodeId}
use Rattle.gl_rules.specs.Book.{Book}
use Rattle.gl_rules.specs.Log.{greatest_recorded}
use Rattle.gl_rules.specs.Configuration.{active, configuration_at, configurations_above}
use Rattle.gl_rules.specs.Replication.{batch, checked_append, fitting_prefix}
use Rattle.gl_config.specs.Active.{active_of, last_of, sets_of}
use Rattle.gl_replication.specs.Holding.{Holding, with_log}
use Rattle.gl_replication.specs.Plain.{holding, plain}

pub whole : (signature : Entry) (me : NodeId) (log : List Entry) {b : Book Entry Entry ℕ ℕ ℕ ℕ} {h : Holding Entry} (P : Book Entry Entry ℕ ℕ ℕ ℕ → Holding Entry → Type 0) →
    (b ≡ plain signature) × (h ≡ holding me log) → P (plain signature) (holding me log) → P b h
whole signature me log {b} {h} P w p = subst (λ (c : Book Entry Entry ℕ ℕ ℕ ℕ). P c h) (sym w.0) (subst (P (plain signature)) (sym w.1) p)

pub recorded_none : (s : Entry) (l : List Entry) → greatest_recorded (plain s) l ≡ 0
unfolding greatest_recorded
recorded_none s [] = refl
recorded_none s (e ∷ l) = ap (max (if is_signature e.content then 0 else 0)) (recorded_none s l) ∙ go (is_signature e.content)
  where
    go : (t : Bool) → max (if t then 0 else 0) 0 ≡ 0
    go true = refl
    go false = refl

none_at : (s : Entry) (l : List Entry) (k : ℕ) → configuration_at (plain s) l k ≡ None
unfolding configuration_at
none_at s l zero = refl
none_at s l (suc k) = none_at s l k

pub none_above : (s : Entry) (l : List Entry) (c k : ℕ) → configurations_above (plain s) l c k ≡ []
unfolding configurations_above
none_above s l c zero = refl
none_above s l c (suc k) = ap (λ m. if nat_lt c (suc k) then m ++ [] else []) (none_above s l c k) ∙ go (nat_lt c (suc k))
  where
    go : (t : Bool) → ◌≡◌ {A = List (List NodeId)} (if t then [] else []) []
    go true = refl
    go false = refl

pub none_active : (s : Entry) (l : List Entry) (c : ℕ) → active (plain s) l c ≡ []
none_active s l c = ap (λ m. option_to_list m ++ configurations_above (plain s) l c (length l)) (none_at s l c) ∙ none_above s l c (length l)

pub all_appended : (s : Entry) (base : ℕ) (l es : List Entry) → checked_append (plain s) base l es ≡ Ok (l ++ es)
unfolding checked_append
all_appended s base l [] = ap Ok (sym (append-nil l))
all_appended s base l (e ∷ es) = all_appended s base (l ++ e ∷ []) es ∙ ap Ok (append_assoc l (e ∷ []) es)

pub none_of : (commit : ℕ) → sets_of (active_of [] commit) ≡ []
unfolding active_of last_of
none_of commit = refl

pub replaced : {b : Book Entry Entry ℕ ℕ ℕ ℕ} {h : Holding Entry} (signature : Entry) (me : NodeId) (log new : List Entry) (seqno : ℕ) (es : List Entry) → (b ≡ plain signature) × (h ≡ holding me log) → new ≡ take seqno log ++ es →
    (m : List Entry) × (checked_append b h.base (take seqno h.log) es ≡ Ok m) × ((b ≡ plain signature) × (with_log h m ≡ holding me new))
replaced signature me log new seqno es w is =
    whole signature me log (λ b h. (m : List Entry) × (checked_append b h.base (take seqno h.log) es ≡ Ok m) × ((b ≡ plain signature) × (with_log h m ≡ holding me new))) w
    (take seqno log ++ es, all_appended signature 0 (take seqno log) es, (refl, ap (holding me) (sym is)))

fits_none : (s : Entry) (es : List Entry) → fitting_prefix (plain s) 63 0 es ≡ []
unfolding fitting_prefix
fits_none s [] = refl
fits_none s (e ∷ es) = refl

pub batch_one : (s : Entry) (l : List Entry) (k : ℕ) → option_to_list (slice_get l k) ≡ batch (plain s) (drop k l)
batch_one s [] zero = refl
batch_one s [] (suc k) = refl
batch_one s (e ∷ l) zero = ap {B = List Entry} (λ m. e ∷ m) (sym (fits_none s l))
batch_one s (e ∷ l) (suc k) = batch_one s l k
