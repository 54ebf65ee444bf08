-- What the program's own types stand for.
use Rattle.std.specs.Prelude.{map}
use Rattle.trace_watch.specs.States.{configs_of}
use Rattle.c_handles.specs.declared.gathering.Gathering as gathering
use Rattle.c_handles.specs.declared.watch_reading.Parts as parts
use Rattle.c_handles.specs.Gathered.{Gathered}
use Rattle.c_handles.specs.WatchReading.{Parts}

abbrev pub gathered_of : {A : Type 0} → gathering.Gathering A → Gathered
gathered_of g = record {
  numbers = g.numbers;
  answered = g.answered.items;
  events = g.events.items;
}

-- what rows gave of a watch
abbrev pub parts_of : {A : Type 0} → parts.Parts A → Parts
parts_of p = record {
  operation = p.operation;
  effects = p.effects.items;
  seen = p.seen.items;
  configs = configs_of p.states.items;
  words = map (λ v. configs_of v.items) p.words.items;
  pending = p.pending.items;
  last = p.last;
}
