-- What the fields of the flags stand for, and what is true of them.
use Rattle.std.specs.Prelude.{◌≡◌, ℕ, ◌<◌, ◌≤◌, true, List, length}
use Rattle.torus.specs.Shape.{IsAccepted}
use Rattle.machine_parts.specs.Awake.{Awake, bits_at}
use Rattle.machine_parts.specs.Ends.{all_ends}
use Rattle.machine_parts.specs.declared.flags.WakeFlags.TheInside.{Inside}

abbrev pub awake_of : {A : Type 0} → Inside A → Awake
awake_of a = record {
  design = record { shape = a.torus; depth = a.depth; words = a.words };
  flags = a.awake;
}

-- all bits of all agents are set
abbrev pub AreAll : List ℕ → Type 0
AreAll flags = (k : ℕ) → bits_at flags k ≡ 255

-- there are bits for each of 192 agents, and the ends of each place
pub record TellEnds {A : Type 0} (a : Inside A) : Type 0 where
  pub accepted : IsAccepted a.torus
  pub flags : length a.awake ≡ 192
  pub some : 0 < a.depth
  pub few : a.depth ≤ 8
  pub words : a.words ≤ 65536
  pub ends : a.ends.items ≡ all_ends a.torus a.depth
  pub all : a.all ≡ true → AreAll a.awake
