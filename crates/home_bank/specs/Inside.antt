-- What the fields of a service list and of a bank stand for, and what is true of them.
use Rattle.std.specs.Prelude.{◌≡◌, ◌≤◌, ◌<◌, ℕ, List, [], ◌∷◌, length, vec_capacity, IfSome}
use Rattle.packet.specs.declared.kinds.Packet.TheVariants as packet
use Rattle.packet.specs.Spelling.{IsSpellable}
use Rattle.home_bank.specs.declared.service_list.ServiceList.TheInside.{Inside as ServiceListInside}
use Rattle.home_bank.specs.declared.bank_agent.BankAgent.TheInside.{Inside as BankAgentInside}
use Rattle.home_bank.specs.ServiceList.{Services, IsServiceList}
use Rattle.home_bank.specs.BankAgent.{BankPlace, NamesWord}

abbrev pub services_of : {A : Type 0} → ServiceListInside A → Services
services_of a = record { tile = a.tile; tiles = a.tiles; entries = a.entries.items; room = a.room }

-- the limits hold, and the room is reserved
pub record IsReserved {A : Type 0} (a : ServiceListInside A) : Type 0 where
  pub limits : IsServiceList (services_of a)
  pub reserved : a.room ≤ vec_capacity a.entries

-- the bank that the fields stand for
abbrev pub bank_place_of : {A : Type 0} → BankAgentInside A → BankPlace
bank_place_of b = record {
  tiles = b.services.tiles;
  tile = b.services.tile;
  room = b.services.room;
  agent = record {
    state = record {
      entries = b.services.entries;
      so_far = b.assembler;
      waiting = b.waiting;
      to_put = b.to_put;
    };
    ports = b.ports;
  };
}

-- the first flit of a packet that has begun names a word that may be
abbrev pub BeginsAtWord : List ℕ → Type 0
BeginsAtWord [] = Unit {0}
BeginsAtWord (head ∷ flits) = NamesWord head

-- one input and one output; the request that comes in, and the one that waits, name words that may
-- be; the reply
-- to it can be spelled (this project's own format)
pub record IsBankAgent {A : Type 0} (b : BankAgentInside A) : Type 0 where
  pub limits : IsServiceList b.services
  pub inputs : length b.ports.inputs ≡ 1
  pub outputs : length b.ports.outputs ≡ 1
  pub begun : BeginsAtWord b.assembler
  pub waiting : IfSome b.waiting (λ r. IsSpellable (packet.Request r))
  pub word : IfSome b.waiting (λ r. r.word < 65536)
