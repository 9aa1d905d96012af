-- What an entry that breaks no rule has passed: after a past, behind a base, in a whole ledger.
use Rattle.std.proofs.Common.{◌≡◌, ℕ, zero, suc, ◌+◌, List, length, Option, Some, None, Bool, true, false, ◌==◌, nat_le, refl, sym, ◌∙◌, ap}
use Rattle.gl_base.specs.TxId.{last_seqno}
use Rattle.gl_entry.specs.Entry.{is_entry}
use Rattle.gl_entry.specs.declared.entry.Entry.{Entry}
use Rattle.gl_ledger.specs.Layers.{Layers}
use Rattle.gl_ledger.specs.declared.recording.Recording.{Recording}
use Rattle.gl_ledger.specs.Recordings.{last_entry, recording_of}
use Rattle.gl_snapshot_body.specs.declared.body.Body.{Body}
use Rattle.gl_ledger.specs.Past.{Past, past_at, past_of, past_over}
use Rattle.gl_ledger.specs.Broken.{required, breach, is_next_view, is_in_order, broken_by, broken_where, broken_after, broken, broken_at, broken_over}

pub passed : {X : Type 0} (holds : Bool) (wrong : X) (rest : Option X) → required holds wrong rest ≡ None → (holds ≡ true) × (rest ≡ None)
passed true wrong rest h = (refl, h)
passed false wrong rest h = absurd (cc)

pub passes : {X : Type 0} (holds : Bool) (wrong : X) (rest : Option X) → holds ≡ true → rest ≡ None → required holds wrong rest ≡ None
passes true wrong rest h r = r
passes false wrong rest h r = absurd (cc)

-- what the rules ask of a past
pub record PassesAfter (layers : Layers) (p : Past) (e : Entry) : Type 0 where
  pub recording : Recording
  pub reads : recording_of e.content ≡ Some recording
  pub fits : is_entry e ≡ true
  pub seqno : (e.seqno == p.len + 1) ≡ true
  pub named : nat_le (p.len + 1) last_seqno ≡ true
  pub view : is_next_view p.last recording e.view ≡ true
  pub order : is_in_order p.last recording e.view ≡ true
  pub rest : broken_by layers recording p e ≡ None

pub passing_after : (layers : Layers) (p : Past) (e : Entry) → broken_after layers p e ≡ None → PassesAfter layers p e
passing_after layers p e h = go (recording_of e.content) refl h
  where
    go : (o : Option Recording) → recording_of e.content ≡ o → broken_where layers o p e ≡ None → PassesAfter layers p e
    go None is r = absurd (cc)
    go (Some t) is r =
        let seqno = p.len + 1 in
        let a = passed (is_entry e) (breach 1 seqno e) _ r in
        let b = passed (e.seqno == seqno) (breach 2 seqno e) _ a.1 in
        let n = passed (nat_le seqno last_seqno) (breach 2 seqno e) _ b.1 in
        let c = passed (is_next_view p.last t e.view) (breach 3 seqno e) _ n.1 in
        let d = passed (is_in_order p.last t e.view) (breach 4 seqno e) (broken_by layers t p e) c.1 in
        record { recording = t; reads = is; fits = a.0; seqno = b.0; named = n.0; view = c.0; order = d.0; rest = d.1 }

-- each base has a past, by which the rules are told
pub told_over : (layers : Layers) (body : Body) (es : List Entry) (e : Entry) → broken_over layers body es e ≡ broken_after layers (past_over body es) e
unfolding broken
told_over layers body es e = go body.base
  where
    go : (n : ℕ) → broken_at layers n body es e ≡ broken_after layers (past_at n body es) e
    go zero = refl
    go (suc n) = refl

pub passing_over : (layers : Layers) (body : Body) (es : List Entry) (e : Entry) → broken_over layers body es e ≡ None → PassesAfter layers (past_over body es) e
passing_over layers body es e h = passing_after layers (past_over body es) e (sym (told_over layers body es e) ∙ h)

-- of a whole ledger
abbrev pub Passes : Layers → List Entry → Entry → Type 0
Passes layers ledger e = PassesAfter layers (past_of ledger) e

pub passing : (layers : Layers) (ledger : List Entry) (e : Entry) → broken layers ledger e ≡ None → Passes layers ledger e
unfolding broken
passing layers ledger e h = passing_after layers (past_of ledger) e h

-- and the other way round
pub passing_all : (layers : Layers) (ledger : List Entry) (e : Entry) → Passes layers ledger e → broken layers ledger e ≡ None
unfolding broken
passing_all layers ledger e p =
    let seqno = length ledger + 1 in
    ap (λ (o : Option Recording). broken_where layers o (past_of ledger) e) p.reads
    ∙ passes (is_entry e) (breach 1 seqno e) _ p.fits (passes (e.seqno == seqno) (breach 2 seqno e) _ p.seqno (passes (nat_le seqno last_seqno) (breach 2 seqno e) _ p.named
    (passes (is_next_view (past_of ledger).last p.recording e.view) (breach 3 seqno e) _ p.view (passes (is_in_order (past_of ledger).last p.recording e.view) (breach 4 seqno e) _ p.order p.rest))))
