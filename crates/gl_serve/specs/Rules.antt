-- What a serve knows of its node.
use Rattle.std.specs.Prelude.{ℕ, List, Option, Bool, IsTrue, All, IfSome}
use Rattle.gl_messages.specs.Message.{body_fits}
use Rattle.gl_messages.specs.Answer.{answer_body_fits}
use Rattle.gl_serve.specs.declared.node.OwnEvent.{OwnEvent}
use Rattle.gl_serve.specs.declared.node.Outcome.{Outcome}
use Rattle.gl_serve.specs.declared.node.Outcome.TheVariants.{Done, Stopped, NoMemory}

-- How a node reads payloads, and what its events may come to.
pub record Rules (S Payload : Type 0) : Type 1 where
  -- what these bytes encode, or nothing where they aren't in the grammar
  pub reads : List ℕ → Option Payload → Type 0
  -- a payload comes: the node may go from this state to that one with this outcome
  pub handles : S → Payload → Outcome → S → Type 0
  -- an event of its own
  pub owns : S → OwnEvent → Outcome → S → Type 0
  pub leads : S → Bool

-- The messages and the answer keep the limits of their formats.
abbrev pub Fits : Outcome → Type 0
Fits (Done messages answer heard) =
    All (λ message. IsTrue (body_fits message.body)) messages
    × IfSome answer (λ a. IsTrue (answer_body_fits a.content))
Fits Stopped = Unit {0}
Fits NoMemory = Unit {0}
