-- The table of a home bank's choices.
use Rattle.std.specs.Prelude.{ℕ, ◌&&◌, Bool, true, false, is_none, if◌then◌else◌, List, [], ◌∷◌, ◌++◌, length, Option}
use Rattle.std.specs.Prelude.{Some, None, option_map}
use Rattle.torus.specs.declared.step.Choice.{Choice}
use Rattle.torus.specs.declared.step.Choice.TheVariants as choice
use Rattle.packet.specs.declared.kinds.Packet.TheVariants as packet
use Rattle.packet.specs.declared.kinds.Request.{Request}
use Rattle.packet.specs.declared.assembler.Offered.{Offered}
use Rattle.packet.specs.declared.assembler.Offered.TheVariants.{Whole}
use Rattle.packet.specs.Answer.{flits_left}
use Rattle.packet.specs.Memory.{reply_to}
use Rattle.flit_buffer.specs.declared.want.Want.{Want}
use Rattle.flit_buffer.specs.declared.want.Want.TheVariants.{Take, Put, Credit, Access}
use Rattle.flit_buffer.specs.Channel.{first_of, rest}
use Rattle.home_bank.specs.declared.entry.Entry.{Entry}
use Rattle.home_bank.specs.ServiceList.{address_of, entry_of, response_of}
use Rattle.packet.specs.Flits.{offered, flits_of}

-- the state of a home bank: its entries, one for each service (the linearization points, Herlihy
-- and Wing);
-- the flits so far of the request that comes in; the whole request that waits to be served; and the
-- flits
-- of the reply in course that are not put yet
pub record BankState : Type 0 where
  pub entries : List Entry
  pub so_far : List ℕ
  pub waiting : Option Request
  pub to_put : List ℕ

-- whether no flit is left
abbrev pub is_nil : List ℕ → Bool
is_nil [] = true
is_nil (flit ∷ flits) = false

-- the number of tiles, and the bank's tile
module _ (tiles tile : ℕ) where
  -- the request that waits after what the assembler answers to a flit
  abbrev pub waiting_offered : Option Request → Offered → Option Request
  waiting_offered w (Whole (packet.Request r)) = Some r
  waiting_offered w _ = w

  -- the bank after the service of the request that waits, whose word held `found`: one entry more,
  -- and its reply
  -- in course (the service is the operation's linearization point, Herlihy and Wing)
  abbrev pub served : BankState → Option Request → ℕ → BankState
  served b None found = b
  served b (Some r) found = record {
    entries = b.entries ++ entry_of tile tiles r (reply_to r.op found) ∷ [];
    so_far = b.so_far;
    waiting = None;
    to_put = flits_of (packet.Response
        (response_of tile (length b.entries) r (reply_to r.op found)));
  }

  -- what a bank's choice wants (this project's own format)
  abbrev pub bank_wants : BankState → Choice → Option Want
  bank_wants b choice.Take = if is_none b.waiting && is_nil b.to_put then Some (Take 0) else None
  bank_wants b choice.Serve = option_map (λ r. Access (address_of tile tiles r.word) r.op) b.waiting
  bank_wants b choice.Send = option_map (λ flit. Put 0 flit) (first_of b.to_put)
  bank_wants b choice.Credit = Some (Credit 0)
  bank_wants b _ = None

  -- the bank after a granted want (this project's own format)
  abbrev pub bank_after : BankState → Choice → Want → ℕ → BankState
  bank_after b choice.Take want flit = record b {
    waiting = waiting_offered b.waiting (offered b.so_far flit);
    so_far = flits_left (offered b.so_far flit) b.so_far flit;
  }
  bank_after b choice.Serve want found = served b b.waiting found
  bank_after b choice.Send want learned = record b { to_put = rest b.to_put }
  bank_after b _ want learned = b
