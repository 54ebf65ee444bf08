use Rattle.std.proofs.Common.{◌≡◌, ℕ, [], ◌∷◌, ◌++◌, subst}
use Rattle.std.specs.Prelude.{filter}
use Rattle.torusmem_c.specs.declared.events.HappenedRecord.{HappenedRecord}
use Rattle.torusmem_c.specs.declared.order.OrderedRecord.{OrderedRecord}
use Rattle.torusmem_c.specs.Happened.{is_since}
use Rattle.torusmem_c.proofs.Happenings.{kept_more}
use Rattle.torusmem_c.proofs.events.put_served.Goals as goal

-- an event of an operation
abbrev event : ℕ → ℕ → OrderedRecord → HappenedRecord
event number what operation = record { number = number; what = what; operation = operation }

pub returns : goal.returns
returns c =
    subst
    (λ (o : OrderedRecord). c.put_since-2.new.events.items
    ≡ c.args.events.now.items ++ filter (is_since c.args.from) (event c.args.row.issued 0 o ∷ event c.args.row.served 1 o ∷ []))
    c.ordered_record-operation.ensures
    (kept_more (is_since c.args.from) c.args.events.now.items _ c.put_since-2.new.events.items (event c.args.row.issued 0 c.ordered_record-operation.result ∷ [])
    (event c.args.row.served 1 c.ordered_record-operation.result ∷ []) c.in_ok-put_since.ensures c.in_ok-put_since-2.ensures)
