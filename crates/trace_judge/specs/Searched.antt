-- What the judge holds between two events, and what it says in the end.
use Rattle.std.specs.Prelude.{◌≡◌, ◌<◌, ℕ, List, length}
use Rattle.trace_laws.specs.declared.event.Event.{Event}
use Rattle.trace_laws.specs.declared.opened.Branch.{Branch}
use Rattle.trace_laws.specs.declared.opened.Open.{Open}
use Rattle.trace_laws.specs.Configs.{IsIn}
use Rattle.trace_laws.specs.Searches.{IsAt}
use Rattle.trace_judge.specs.declared.search.Search.{Search}
use Rattle.trace_judge.specs.Sets.{lists_of}
use Rattle.trace_judge.specs.Slots.{IsParted}
use Rattle.trace_judge.specs.Elders.{IsSearchedInTurn}

-- it knows what a search knows before event k, each word has a branch, and open operations are in
-- slots of those that the whole trace answers, or never does
pub record HasSearched {A : Type 0} (opening : List ℕ) (trace whole : List Event) (k : ℕ) (s : Search A)
    : Type 0 where
  pub sized : length s.words.items ≡ length opening
  pub tabled : length s.tables.items ≡ length opening
  pub searched : IsSearchedInTurn opening trace k (lists_of s.tables.items) (lists_of s.words.items)
      s.nodes.items
  pub filled : (w : ℕ) → w < length opening → (b : Branch) × IsIn (lists_of s.words.items w) b
  pub parted : (w t : ℕ) (o : Open) → IsAt (lists_of s.tables.items w) t o
      → IsParted whole t o.call.id
