-- The place of the choice that a line gives.
use Rattle.std.proofs.Common.{◌≡◌, ℕ, ◌+◌, ◌*◌, ◌^◌, ◌<◌, ◌≤◌, true, Some, length, get_or, take, ◌∙◌, ap, arith}
use Rattle.std.specs.Prelude.{slice_get}
use Rattle.std.specs.List.{count_by}
use Rattle.std.proofs.lemmas.List.{get_or_read}
use Rattle.std.proofs.lemmas.Option.{slice_get_within}
use Rattle.network_judge.specs.declared.table.Kind.TheVariants.{Ejection}
use Rattle.network_judge.specs.Table.{ejects, is_receiver}
use Rattle.network_judge.proofs.Ends.{column_low}
use Rattle.network_text.specs.declared.reading.Reading as reading
use Rattle.network_text.specs.Network.{Reading, begun, count_of, cell_of}
use Rattle.network_text.specs.Reading.{reading_of, IsRead}
use Rattle.network_text.proofs.Added.{ejects_there}
use Rattle.network_text.proofs.Begun.{is_begun, begun_kinds, cell_low}

-- it is the place of the text's choice, among the choices, and small
pub record Cell {A : Type 0} (old : Reading) (r : reading.Reading A) (x j at : ℕ) : Type 0 where
  pub cell : x * r.ejections + at ≡ cell_of old x j
  pub low : x * r.ejections + at < length r.choices.items
  pub small : length r.choices.items ≤ 2 ^ 27

pub cell_at : {A : Type 0} (old : Reading) (r : reading.Reading A) (x j at : ℕ) → x < count_of old
    → is_receiver (slice_get old.table.kinds j) ≡ true → reading_of r ≡ begun old → IsRead r
    → at ≡ get_or r.columns.items j at → Cell old r x j at
cell_at old r x j at low ends is read here =
    let kinds : r.kinds.items ≡ old.table.kinds = begun_kinds old (reading_of r) is in
    let b : r.begun ≡ true = is_begun old (reading_of r) is in
    let end : slice_get r.kinds.items j ≡ Some Ejection = ap (λ k. slice_get k j) kinds ∙ ejects_there (slice_get old.table.kinds j) ends in
    let columns = read.columns b in
    let inside : j < length r.columns.items = (let size = columns.size in let within = slice_get_within r.kinds.items j Ejection end in omega arith) in
    let column : at ≡ count_by ejects (take j r.kinds.items) =
    get_or_read r.columns.items j at inside here 0 ∙ columns.each j (slice_get_within r.kinds.items j Ejection end) in
    let below = column_low r.kinds.items j end in
    let width : r.ejections ≡ count_by ejects r.kinds.items = read.ejections in
    let full : length r.choices.items ≡ length r.kinds.items * count_by ejects r.kinds.items = read.full b in
    let count : length r.kinds.items ≡ count_of old = ap length kinds in
    let few = read.few in
    let low_cell = cell_low (length r.kinds.items) (count_by ejects r.kinds.items) x at (omega arith) (omega arith) in
    let rows : x * r.ejections ≡ x * count_by ejects r.kinds.items = ap (λ w. x * w) width in
    record {
      cell = ap (λ w. x * w + at) width ∙ ap (λ z. x * count_by ejects r.kinds.items + z) column
          ∙ ap (λ k. x * count_by ejects k + count_by ejects (take j k)) kinds;
      low = omega arith;
      small = omega arith;
    }
