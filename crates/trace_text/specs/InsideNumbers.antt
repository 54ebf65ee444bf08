-- How `IssueNumbers` keeps its numbers.
use Rattle.std.specs.Prelude.{◌≡◌, ℕ, List, Vec, length, map}
use Rattle.trace_text.specs.declared.issue_numbers.IssueNumbers.TheInside.{Inside}

-- the lists of some vectors
abbrev pub number_lists : {A : Type 0} → List (Vec ℕ A) → List (List ℕ)
number_lists vectors = map (λ v. v.items) vectors

abbrev pub numbers_of_fields : {A : Type 0} → Inside A → List (List ℕ)
numbers_of_fields n = number_lists n.lists.items

-- there is a list for each of 4096 processors
abbrev pub AreNumberLists : {A : Type 0} → Inside A → Type 0
AreNumberLists n = length n.lists.items ≡ 4096
