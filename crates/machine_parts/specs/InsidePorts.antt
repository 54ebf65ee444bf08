-- What the fields of the routers' flags stand for, and what is true of them.
use Rattle.std.specs.Prelude.{◌≡◌, ℕ, ◌<◌, ◌≤◌, true, List, length}
use Rattle.torus.specs.Shape.{IsAccepted}
use Rattle.machine_parts.specs.Ports.{AwakePorts, all_ports, is_raised}
use Rattle.machine_parts.specs.declared.ports.RouterFlags.TheInside.{Inside}
use Rattle.machine_parts.specs.declared.port_set.PortSet.TheInside as set

-- the words of a set of flags
abbrev pub words_in : set.Inside → List ℕ
words_in a = a.words

-- a word for each of 64 tiles
abbrev pub HasWords : set.Inside → Type 0
HasWords a = length a.words ≡ 64

abbrev pub awake_ports : {A : Type 0} → Inside A → AwakePorts
awake_ports a = record {
  design = record { shape = a.torus; depth = a.depth; words = a.words };
  takes = a.takes;
  puts = a.puts;
  credits = a.credits;
  full = a.full;
}

-- all flags of a set are raised
abbrev pub AreRaised : List ℕ → Type 0
AreRaised words = (t port : ℕ) → is_raised words t port ≡ true

-- all takes, puts and credits are
abbrev pub AreAwake : {A : Type 0} → Inside A → Type 0
AreAwake a = AreRaised a.takes × AreRaised a.puts × AreRaised a.credits

-- the routers' ends of each place are there
pub record TellPorts {A : Type 0} (a : Inside A) : Type 0 where
  pub accepted : IsAccepted a.torus
  pub some : 0 < a.depth
  pub few : a.depth ≤ 8
  pub words : a.words ≤ 65536
  pub ends : a.ends.items ≡ all_ports a.torus a.depth
  pub all : a.all ≡ true → AreAwake a
