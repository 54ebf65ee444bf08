-- The channels at a bank's ports, and the bank in the beginning.
use Rattle.std.specs.Prelude.{ℕ, ◌*◌, [], ◌∷◌, None}
use Rattle.torus.specs.Shape.{Shape}
use Rattle.torus.specs.declared.shape.Class.TheVariants.{Request, Reply}
use Rattle.channel_number.specs.Order.{channel_count}
use Rattle.channel_number.specs.Ports.{injection_channel, ejection_channel}
use Rattle.flit_buffer.specs.Surroundings.{Wiring}
use Rattle.flit_buffer.specs.Wants.{PortEnds}
use Rattle.home_bank.specs.BankTable.{BankState}

-- the channels of a bank: it receives requests and sends replies (Dally and Towles, chapter 20)
abbrev pub bank_wiring : Shape → ℕ → Wiring
bank_wiring s t = record {
  inputs = ejection_channel s t Request ∷ [];
  outputs = injection_channel s t Reply ∷ [];
}

-- a bank in the beginning: no entry, no flit of a request, none waiting, and no reply in course
-- (this project's
-- own format)
abbrev pub empty_bank : BankState
empty_bank = record { entries = []; so_far = []; waiting = None; to_put = [] }

-- a bank's ports in the beginning, where both channels are empty and all credits are held;
-- the words stand behind the places of all channels (this project's own format)
abbrev pub bank_ports : Shape → ℕ → ℕ → PortEnds
bank_ports s t depth = record {
  inputs = record { base = ejection_channel s t Request * depth; depth = depth; next = 0 } ∷ [];
  outputs = record {
    base = injection_channel s t Reply * depth;
    depth = depth;
    next = 0;
    credits = depth;
  } ∷ [];
  words = channel_count s * depth;
}
