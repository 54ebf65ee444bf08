-- How `Rows` keeps its numbers.
use Rattle.std.specs.Prelude.{ℕ, List, Vec, map}
use Rattle.model_text.specs.declared.rows.Rows as rows

-- the lists of some vectors
abbrev pub row_lists : {A : Type 0} → List (Vec ℕ A) → List (List ℕ)
row_lists vectors = map (λ v. v.items) vectors

-- the rows as lists
abbrev pub rows_now : {A : Type 0} → rows.Rows A → List (List ℕ)
rows_now r = row_lists r.lists.items
