-- What a watch says: two that say the same are the same watch.
use Rattle.std.specs.Prelude.{ℕ, List, Option, map}
use Rattle.trace_laws.specs.declared.event.Call.{Call}
use Rattle.trace_watch.specs.declared.watch.Watch.{Watch}
use Rattle.trace_watch.specs.States.{Config, configs_of}

-- of each word what may have become of it, the operations that are open, and the number of the newest one
-- (this project's own format)
pub record Watched : Type 0 where
  pub words : List (List Config)
  pub pending : List Call
  pub last : Option ℕ

-- what a watch says
abbrev pub watched : {A : Type 0} → Watch A → Watched
watched watch = record {
  words = map (λ v. configs_of v.items) watch.words.items;
  pending = watch.pending.items;
  last = watch.last;
}
