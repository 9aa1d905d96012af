-- What was sent over a link, and what was lost of it.
use Rattle.std.specs.Prelude.{◌≡◌, ◌⊎◌, ◌≤◌, ℕ, List, [], ◌∷◌, ◌++◌, map, Bool, true, false, IsTrue}
use Rattle.gl_outside.specs.Fault.{Rose, next_call}
use Rattle.gl_outside.specs.Link.{Exchange, Gave, Sent, arrivals}
use Rattle.gl_serve.specs.Doing.{Line, Came, Out}

-- What is seen of an exchange.
abbrev pub line_of : Exchange → Line
line_of (Gave arrival) = Came arrival
line_of (Sent took conn frame) = Out conn frame

-- A count of lost frames, after these exchanges.
abbrev pub counted : ℕ → List Exchange → ℕ
counted lost [] = lost
counted lost (Gave arrival ∷ more) = counted lost more
counted lost (Sent true conn frame ∷ more) = counted lost more
counted lost (Sent false conn frame ∷ more) = counted (next_call lost) more

-- These lines were sent, and the lost ones counted. An honest link's history shows them.
pub record Sends (honest : Bool) (before : List Exchange) (lost : ℕ) (after : List Exchange)
    (lost_now : ℕ)
    (lines : List Line) : Type 0 where
  pub exchanges : List Exchange
  pub history : IsTrue honest → after ≡ before ++ exchanges
  pub sent : map line_of exchanges ≡ lines
  pub counts : lost_now ≡ counted lost exchanges
  pub came : arrivals exchanges ≡ []

-- The first of them were.
abbrev pub SendsSome : Bool → List Exchange → ℕ → List Exchange → ℕ → List Line → Type 0
SendsSome honest before lost after lost_now lines =
    (first : List Line) × (unsent : List Line) × (lines ≡ first ++ unsent)
    × Sends honest before lost after lost_now first

-- The count of lost frames is as it was, or the link's count of failed sends rose.
pub record Loses (lost lost_now faults faults_now : ℕ) : Type 0 where
  pub never_falls : faults ≤ faults_now
  pub cause : (lost ≡ lost_now) ⊎ Rose faults faults_now
