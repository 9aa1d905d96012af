-- What a reading that succeeded went through, where its faults are told by their places.
use Rattle.std.proofs.Common.{◌≡◌, ℕ, Bool, true, false, Result, Ok, Err, refl, ap}
use Rattle.gl_base.proofs.Steps.{ok_injective}
use Rattle.gl_base.specs.declared.fault.CodeFault.{CodeFault}
use Rattle.gl_entry.specs.declared.fault.EntryFault.{EntryFault}
use Rattle.gl_snapshot_body.specs.Parsing.{by_place}
use Rattle.gl_snapshot_body.specs.declared.fault.ShapeFault.{ShapeFault}
use Rattle.gl_snapshot.specs.Parsing.{required, at_place, by_frame}

pub required_ok : {X : Type 0} (holds : Bool) (place : ℕ) (x y : X) → required holds place x ≡ Ok y → (holds ≡ true) × (x ≡ y)
required_ok true place x y e = (refl, ok_injective {E = ShapeFault} x y e)
required_ok false place x y e = cc

pub by_place_ok : {X : Type 0} (r : Result X CodeFault) (x : X) → by_place r ≡ Ok x → r ≡ Ok x
by_place_ok (Ok y) x e = ap (λ z. Ok z) (ok_injective {E = ShapeFault} y x e)
by_place_ok (Err fault) x e = absurd cc

pub at_place_ok : {X F : Type 0} (place : ℕ) (r : Result X F) (x : X) → at_place place r ≡ Ok x → r ≡ Ok x
at_place_ok place (Ok y) x e = ap (λ z. Ok z) (ok_injective {E = ShapeFault} y x e)
at_place_ok place (Err fault) x e = absurd cc

pub by_frame_ok : {X : Type 0} (place : ℕ) (r : Result X EntryFault) (x : X) → by_frame place r ≡ Ok x → r ≡ Ok x
by_frame_ok place (Ok y) x e = ap (λ z. Ok z) (ok_injective {E = ShapeFault} y x e)
by_frame_ok place (Err fault) x e = absurd cc
