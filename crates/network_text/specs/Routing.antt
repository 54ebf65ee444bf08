-- The network of a text, of fixed routes or of routers that choose (this project's own format).
use Rattle.std.specs.Prelude.{◌≡◌, ◌⊎◌, ℕ, if◌then◌else◌, true}
use Rattle.std.specs.Prelude.{List}
use Rattle.std.specs.Prelude.{Result, Ok, Err, Option, Some, None, is_ok}
use Rattle.lexer.specs.declared.refusal.Refusal.{Refusal}
use Rattle.lexer.specs.Outcome.{refusal_at}
use Rattle.lexer.specs.declared.fault.LineFault.{LineFault}
use Rattle.lexer.specs.Faults.{by_fault}
use Rattle.network_text.specs.declared.reason.NetworkReason.{NetworkReason}
use Rattle.network_text.specs.declared.reason.NetworkReason.TheVariants as reason
use Rattle.network_text.specs.Reasons.{network_fault_of}
use Rattle.network_text.specs.Network.{NetworkSpec}
use Rattle.network_text.specs.declared.choosing.Routers.TheVariants.{AnyChoices}
use Rattle.network_text.specs.Choosing.{ChoosingText, text_or_why, is_fixed, fixed_network}

-- a network: of fixed routes, or one whose routers choose
pub data Routing : Type 0 where
  Fixed : NetworkSpec → Routing
  Chosen : ChoosingText → Routing

-- the network of all lines
abbrev pub routing_of_all : ChoosingText → Routing
routing_of_all t = if is_fixed t then Fixed (fixed_network t) else Chosen t

-- the network of a text that is read, or where and why it is refused
abbrev pub routing_by : Result ChoosingText (Refusal NetworkReason)
    → Result Routing (Refusal NetworkReason)
routing_by (Ok t) = Ok (routing_of_all t)
routing_by (Err e) = Err e

-- the network of a text, given as the list of its lines, or where and why it is refused
abbrev pub routing_or_why : List (List ℕ) → Result Routing (Refusal NetworkReason)
routing_or_why lines = routing_by (text_or_why AnyChoices lines)

-- the network of a text, given as the list of its lines, or the fault and the line of its refusal
abbrev pub routing_of : List (List ℕ) → Result Routing LineFault
routing_of lines = by_fault network_fault_of (routing_or_why lines)

-- the refusal of a sentence on a text is the one that its reader gives, or that of memory; there is
-- none where it gives a network
abbrev pub TellsRoutingRefusal : List (List ℕ) → Option (Refusal NetworkReason) → Type 0
TellsRoutingRefusal lines None = is_ok (routing_or_why lines) ≡ true
TellsRoutingRefusal lines (Some s) =
    (s ≡ refusal_at 0 reason.Memory) ⊎ (routing_or_why lines ≡ Err s)
