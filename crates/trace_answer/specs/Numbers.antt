-- The events of a report: those of a trace, and services between them, in an order, each as early
-- as may be.
use Rattle.std.specs.Prelude.{◌≡◌, ◌+◌, ◌≤◌, ℕ, List, [], ◌∷◌, Some, map, max, nat_le, count_by}
use Rattle.std.specs.Prelude.{slice_get}
use Rattle.std.specs.List.{slice_index_or}
use Rattle.trace_laws.specs.declared.event.Call.{Call}
use Rattle.trace_answer.specs.declared.times.Times.{Times}
use Rattle.trace_answer.specs.Times.{time_of}

-- when the operations of an order were issued
abbrev pub issues_of : List Times → List Call → List ℕ
issues_of times order = map (λ c. (time_of times c.id).issued) order

-- how many events of the trace come before each of some services, of which the first has so many
-- before it: all up to the issues of its operation and of those before it in the order
abbrev pub waits_from : ℕ → List ℕ → List ℕ
waits_from least [] = []
waits_from least (issue ∷ issues) =
    max least (issue + 1) ∷ waits_from (max least (issue + 1)) issues

-- how many events of the trace come before each service of an order
abbrev pub waits_of : List Times → List Call → List ℕ
waits_of times order = waits_from 0 (issues_of times order)

-- the number of the event of a trace that so many come before: behind those, and the services that
-- wait for no more
abbrev pub number_behind : List ℕ → ℕ → ℕ
number_behind waits i = i + count_by (λ w. nat_le w i) waits + 1

-- the number of a service that so many come before: behind those, and the events that it waits for
abbrev pub service_number : List ℕ → ℕ → ℕ
service_number waits x = slice_index_or waits x 0 + x + 1

-- numbers that never fall
abbrev pub NeverFalls : List ℕ → Type 0
NeverFalls waits = (x y v w : ℕ) → x ≤ y → slice_get waits x ≡ Some v → slice_get waits y ≡ Some w
    → v ≤ w
