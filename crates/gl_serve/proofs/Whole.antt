-- The payloads that are handled are those of the whole streams.
use Rattle.std.proofs.Common.{◌≡◌, inl, inr, ℕ, List, [], ◌∷◌, ◌++◌, Bool, true, false, map, cond, ◌==◌, refl, sym, ap, ◌∙◌, append_assoc, append-nil, subst}
use Rattle.gl_outside.specs.Link.{Arrival, Bytes, Tick}
use Rattle.gl_messages.specs.Frames.{payloads, prefix}
use Rattle.gl_messages.proofs.StreamLaws.{first_none, grows}
use Rattle.gl_serve.specs.declared.node.OwnEvent.{OwnEvent}
use Rattle.gl_serve.specs.Streams.{stream, fresh}
use Rattle.gl_serve.specs.Works.{Work, Take, Handle, Beat, Lead, works, script, tick_events, handled}
use Rattle.gl_serve.proofs.KeptStreams.{fresh_is}
use Rattle.gl_serve.proofs.Arriving.{same_self, same_or, stream_on, stream_off, stream_tick}

handled-append : (conn : ℕ) (xs ys : List Work) → handled conn (xs ++ ys) ≡ handled conn xs ++ handled conn ys
handled-append conn [] ys = refl
handled-append conn (Take a ∷ xs) ys = handled-append conn xs ys
handled-append conn (Handle from p ∷ xs) ys =
    ap (λ (t : List (List ℕ)). cond (from == conn) (p ∷ []) [] ++ t) (handled-append conn xs ys) ∙ sym (append_assoc (cond (from == conn) (p ∷ []) []) (handled conn xs) (handled conn ys))
handled-append conn (Beat ∷ xs) ys = handled-append conn xs ys
handled-append conn (Lead event ∷ xs) ys = handled-append conn xs ys

handled-leads : (conn : ℕ) (events : List OwnEvent) → handled conn (map Lead events) ≡ []
handled-leads conn [] = refl
handled-leads conn (event ∷ events) = handled-leads conn events

handled_here : (conn from : ℕ) (ps : List (List ℕ)) → (from == conn) ≡ true → handled conn (map (Handle from) ps) ≡ ps
handled_here conn from [] e = refl
handled_here conn from (p ∷ ps) e = ap (λ (b : Bool). cond b (p ∷ []) [] ++ handled conn (map (Handle from) ps)) e ∙ ap (λ (t : List (List ℕ)). p ∷ t) (handled_here conn from ps e)

handled_there : (conn from : ℕ) (ps : List (List ℕ)) → (from == conn) ≡ false → handled conn (map (Handle from) ps) ≡ []
handled_there conn from [] e = refl
handled_there conn from (p ∷ ps) e = ap (λ (b : Bool). cond b (p ∷ []) [] ++ handled conn (map (Handle from) ps)) e ∙ handled_there conn from ps e

one_more : (peers : List (List ℕ)) (conn : ℕ) (before : List Arrival) (x : Arrival) → payloads (stream conn (before ++ x ∷ [])) ≡ payloads (stream conn before) ++ handled conn (works peers before x)
one_more peers conn before Tick =
    ap payloads (stream_tick conn before) ∙ sym (append-nil (payloads (stream conn before)))
    ∙ ap (λ (t : List (List ℕ)). payloads (stream conn before) ++ t) (sym (handled-leads conn (tick_events peers)))
one_more peers conn before (Bytes from bytes) = elim (same_or from conn) [
  | inl e ↦ subst (λ (c : ℕ). payloads (stream c (before ++ Bytes from bytes ∷ [])) ≡ payloads (stream c before) ++ handled c (map (Handle from) (fresh (stream from before) bytes))) e
      (ap payloads (stream_on from before bytes) ∙ (grows (stream from before) bytes).0
      ∙ ap (λ (t : List (List ℕ)). payloads (stream from before) ++ t) (sym (fresh_is (stream from before) bytes) ∙ sym (handled_here from from (fresh (stream from before) bytes) (same_self from))))
  | inr apart ↦ ap payloads (stream_off conn from before bytes apart.1) ∙ sym (append-nil (payloads (stream conn before)))
      ∙ ap (λ (t : List (List ℕ)). payloads (stream conn before) ++ t) (sym (handled_there conn from (fresh (stream from before) bytes) apart.1))
]

whole_from : (peers : List (List ℕ)) (conn : ℕ) (before came : List Arrival) → payloads (stream conn (before ++ came)) ≡ payloads (stream conn before) ++ handled conn (script peers before came)
whole_from peers conn before [] = ap (λ (t : List Arrival). payloads (stream conn t)) (append-nil before) ∙ sym (append-nil (payloads (stream conn before)))
whole_from peers conn before (x ∷ came) =
    ap (λ (t : List Arrival). payloads (stream conn t)) (sym (append_assoc before (x ∷ []) came))
    ∙ whole_from peers conn (before ++ x ∷ []) came
    ∙ ap (λ (t : List (List ℕ)). t ++ handled conn (script peers (before ++ x ∷ []) came)) (one_more peers conn before x)
    ∙ append_assoc (payloads (stream conn before)) (handled conn (works peers before x)) (handled conn (script peers (before ++ x ∷ []) came))
    ∙ ap (λ (t : List (List ℕ)). payloads (stream conn before) ++ t) (sym (handled-append conn (works peers before x) (script peers (before ++ x ∷ []) came)))

payloads_nil : payloads [] ≡ []
unfolding prefix
payloads_nil = (first_none [] tt).0

pub whole_streams : (peers : List (List ℕ)) (came : List Arrival) (conn : ℕ) → handled conn (script peers [] came) ≡ payloads (stream conn came)
whole_streams peers came conn = sym (whole_from peers conn [] came ∙ ap (λ (t : List (List ℕ)). t ++ handled conn (script peers [] came)) payloads_nil)
