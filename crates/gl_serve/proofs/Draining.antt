-- Payloads one after the other, and the events of a tick.
use Rattle.std.proofs.Common.{◌≡◌, ℕ, ◌+◌, ◌<◌, suc, List, [], ◌∷◌, ◌++◌, map, Option, Some, None, take, drop, length, get_or, sym, ap, ◌∙◌, append_assoc, append-nil, take-append-drop, arith}
use Rattle.std.specs.Option.{option_map}
use Rattle.std.specs.declared.alloc.Global.{Global}
use Rattle.std.specs.declared.vec.Vec.{Vec}
use Rattle.std.proofs.Math.Seq.{take-suc}
use Rattle.std.proofs.lemmas.List.{map-append}
use Rattle.gl_serve.specs.declared.streams.Stream.{Stream}
use Rattle.gl_serve.specs.declared.node.OwnEvent.TheVariants.{Replicate, Reserve, Sign, Advance, Evidence}
use Rattle.gl_serve.specs.Kept.{next_of, payloads_of}
use Rattle.gl_serve.specs.Works.{Work, Handle, Lead, tick_events}
use Rattle.gl_serve.proofs.KeptStreams.{next_some, next_none}

-- ---- payloads

pub taken_some : (now next : Stream) (got : Option (Vec ℕ Global)) (v : Vec ℕ Global) (p : List ℕ) → next_of now ≡ (option_map (λ v. v.items) got, next) → got ≡ Some v → p ≡ v.items → next_of now ≡ (Some p, next)
taken_some now next got v p taken is same =
    taken ∙ ap (λ (o : Option (Vec ℕ Global)). (option_map (λ v. v.items) o, next)) is ∙ ap (λ (t : List ℕ). (Some t, next)) (sym same)

pub taken_none : (now next : Stream) (got : Option (Vec ℕ Global)) → next_of now ≡ (option_map (λ v. v.items) got, next) → got ≡ None → next_of now ≡ (None, next)
taken_none now next got taken is = taken ∙ ap (λ (o : Option (Vec ℕ Global)). (option_map (λ v. v.items) o, next)) is

pub drained : (all now next : Stream) (p : List ℕ) (done : List (List ℕ)) → payloads_of all ≡ done ++ payloads_of now → next_of now ≡ (Some p, next) → payloads_of all ≡ (done ++ p ∷ []) ++ payloads_of next
drained all now next p done h is = h ∙ ap (λ (t : List (List ℕ)). done ++ t) (next_some now p next is).0 ∙ sym (append_assoc done (p ∷ []) (payloads_of next))

pub drained_all : (all now last : Stream) (done : List (List ℕ)) → payloads_of all ≡ done ++ payloads_of now → next_of now ≡ (None, last) → payloads_of all ≡ done
drained_all all now last done h is = h ∙ ap (λ (t : List (List ℕ)). done ++ t) (next_none now last is).0 ∙ append-nil done

pub fewer : (now next : Stream) (p : List ℕ) → next_of now ≡ (Some p, next) → length (payloads_of next) < length (payloads_of now)
fewer now next p is = omega (arith, ap (λ (t : List (List ℕ)). length t) (next_some now p next is).0)

pub handle_next : (conn : ℕ) (p : List ℕ) (done : List (List ℕ)) → map (Handle conn) (done ++ p ∷ []) ≡ map (Handle conn) done ++ Handle conn p ∷ []
handle_next conn p done = map-append (Handle conn) done (p ∷ [])

pub handle_all : (conn : ℕ) (all next : Stream) (p : List ℕ) (done : List (List ℕ)) → payloads_of all ≡ (done ++ p ∷ []) ++ payloads_of next
    → map (Handle conn) (payloads_of all) ≡ map (Handle conn) done ++ (Handle conn p ∷ [] ++ map (Handle conn) (payloads_of next))
handle_all conn all next p done h = ap (map (Handle conn)) (h ∙ append_assoc done (p ∷ []) (payloads_of next)) ∙ map-append (Handle conn) done (p ∷ payloads_of next)

pub handle_rest : (conn : ℕ) (all now : Stream) (done : List (List ℕ)) → payloads_of all ≡ done ++ payloads_of now → map (Handle conn) (payloads_of all) ≡ map (Handle conn) done ++ map (Handle conn) (payloads_of now)
handle_rest conn all now done h = ap (map (Handle conn)) h ∙ map-append (Handle conn) done (payloads_of now)

-- ---- the events of a tick

pub lead_next : (peers : List (List ℕ)) (i : ℕ) → i < length peers → map Lead (map Replicate (take (i + 1) peers)) ≡ map Lead (map Replicate (take i peers)) ++ Lead (Replicate (get_or peers i [])) ∷ []
lead_next peers i within =
    let e : i + 1 ≡ suc i = omega arith in
    ap (λ (k : ℕ). map Lead (map Replicate (take k peers))) e ∙ ap (λ (t : List (List ℕ)). map Lead (map Replicate t)) (take-suc peers i [] within)
    ∙ ap (map Lead) (map-append Replicate (take i peers) (get_or peers i [] ∷ [])) ∙ map-append Lead (map Replicate (take i peers)) (Replicate (get_or peers i []) ∷ [])

pub lead_all : (peers : List (List ℕ)) (i : ℕ) → i < length peers → map Lead (map Replicate peers) ≡ map Lead (map Replicate (take i peers)) ++ (Lead (Replicate (get_or peers i [])) ∷ [] ++ map Lead (map Replicate (drop (i + 1) peers)))
lead_all peers i within =
    ap (λ (t : List (List ℕ)). map Lead (map Replicate t)) (sym (take-append-drop (i + 1) peers))
    ∙ ap (map Lead) (map-append Replicate (take (i + 1) peers) (drop (i + 1) peers)) ∙ map-append Lead (map Replicate (take (i + 1) peers)) (map Replicate (drop (i + 1) peers))
    ∙ ap (λ (t : List Work). t ++ map Lead (map Replicate (drop (i + 1) peers))) (lead_next peers i within)
    ∙ append_assoc (map Lead (map Replicate (take i peers))) (Lead (Replicate (get_or peers i [])) ∷ []) (map Lead (map Replicate (drop (i + 1) peers)))

pub tick_works : (peers : List (List ℕ)) → map Lead (tick_events peers) ≡ map Lead (map Replicate peers) ++ (Lead Reserve ∷ Lead Sign ∷ Lead Advance ∷ Lead Evidence ∷ [])
tick_works peers = map-append Lead (map Replicate peers) (Reserve ∷ Sign ∷ Advance ∷ Evidence ∷ [])
