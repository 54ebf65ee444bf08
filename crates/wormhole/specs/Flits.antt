-- What holds of the flits of all packets that were sent, and of all flits.
use Rattle.std.specs.Prelude.{◌≡◌, ℕ, true, All}
use Rattle.wormhole.specs.Net.{Net, net_flits}
use Rattle.wormhole.specs.State.{NetState, in_line}

-- it holds of the flits of each packet that was sent
abbrev pub HoldsOfSent : (ℕ → Type 0) → NetState → Type 0
HoldsOfSent P s = (x : ℕ) → All (λ k. All P (net_flits k)) (s.notes x).sent

-- it holds of each flit: in a channel or in the latch behind it, at a sender, and at a receiver
pub record HoldsOfFlits (n : Net) (P : ℕ → Type 0) (s : NetState) : Type 0 where
  pub channels : (x : ℕ) → All P (in_line (s.lines x))
  pub senders : (x : ℕ) → n.injects x ≡ true → All P (s.lines x).rest
  pub receivers : (x : ℕ) → n.ejects x ≡ true → All P (s.lines x).so_far
