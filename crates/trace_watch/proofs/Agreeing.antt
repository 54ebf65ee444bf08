-- Two watches that follow one trace say the same of an event.
use Rattle.std.proofs.Common.{◌≡◌, ℕ, List, refl}
use Rattle.trace_laws.specs.declared.event.Event.{Event}
use Rattle.trace_watch.specs.declared.watch.Watch.{Watch}
use Rattle.trace_watch.specs.declared.watch.Seen.{Seen}
use Rattle.trace_watch.specs.declared.watch.Seen.TheVariants.{Linearizable, NotLinearizable, NoTrace}
use Rattle.trace_watch.specs.Follows.{TellsSeen}

pub agree : {A : Type 0} (opening : List ℕ) (trace : List Event) (event : Event) (v w : Watch A) (one other : Seen)
    → TellsSeen opening trace event v one → TellsSeen opening trace event w other → one ≡ other
agree opening trace event v w Linearizable Linearizable h g = refl
agree opening trace event v w Linearizable NotLinearizable h g = absurd (g.3 h.1)
agree opening trace event v w Linearizable NoTrace h g = absurd (g.1 h.0.well)
agree opening trace event v w NotLinearizable Linearizable h g = absurd (h.3 g.1)
agree opening trace event v w NotLinearizable NotLinearizable h g = refl
agree opening trace event v w NotLinearizable NoTrace h g = absurd (g.1 h.1)
agree opening trace event v w NoTrace Linearizable h g = absurd (h.1 g.0.well)
agree opening trace event v w NoTrace NotLinearizable h g = absurd (h.1 g.1)
agree opening trace event v w NoTrace NoTrace h g = refl
