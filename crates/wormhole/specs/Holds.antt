-- Which output each input of a router owns, told by the inputs.
use Rattle.std.specs.Prelude.{◌≡◌, ℕ, if◌then◌else◌, Option, Some, None}
use Rattle.wormhole.specs.Net.{Net}
use Rattle.wormhole.specs.State.{NetLine, update}
use Rattle.wormhole.specs.Events.{NetEvent, ForwardHead, ForwardRest}

-- each input holds the output that it owns, and no other
pub record AreHolds (holds : ℕ → Option ℕ) (ls : ℕ → NetLine) : Type 0 where
  pub owned : (x y : ℕ) → holds x ≡ Some y → (ls y).owner ≡ Some x
  pub held : (x y : ℕ) → (ls y).owner ≡ Some x → holds x ≡ Some y

-- what inputs hold after an event: an input holds the output of its last flit, until the tail flit
-- (chapter 16)
abbrev pub holds_after : Net → (ℕ → Option ℕ) → NetEvent → ℕ → Option ℕ
holds_after n holds (ForwardHead x y flit) =
    update holds x (if n.is_tail flit then None else Some y)
holds_after n holds (ForwardRest x y flit) =
    update holds x (if n.is_tail flit then None else Some y)
holds_after n holds _ = holds
