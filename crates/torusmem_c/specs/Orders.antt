-- The one legal order of a machine's run, as C sees it (this project's own format).
use Rattle.std.specs.Prelude.{◌≡◌, ℕ, ◌+◌, List, drop, is_none, map}
use Rattle.std.specs.List.{position_or_len}
use Rattle.std.specs.Option.{unwrap_or}
use Rattle.one_order.specs.declared.ordered.Ordered.{Ordered}
use Rattle.core_laws.specs.Machine.{Core}
use Rattle.torusmem_c.specs.declared.outcome.Outcome.{Outcome}
use Rattle.torusmem_c.specs.declared.order.OrderedRecord.{OrderedRecord}
use Rattle.torusmem_c.specs.declared.outcome.Code.TheVariants as code
use Rattle.torusmem_c.specs.Outcome.{c_outcome}
use Rattle.torusmem_c.specs.Room.{put_over, put_outcome}

-- what C sees of a row of the order; events are numbered from 1, so that 0 says that there is no answer
abbrev pub ordered_record : Ordered → OrderedRecord
ordered_record row = record {
  bank = row.bank;
  place = row.place;
  source = row.source;
  index = row.index;
  issued = row.issued;
  served = row.served;
  answered = unwrap_or row.answered 0;
}

-- it sees the rows from one on
abbrev pub ordered_from : ℕ → List Ordered → List OrderedRecord
ordered_from first rows = map ordered_record (drop first rows)

-- those of the machine's book are put into a buffer, and nothing of the machine changes
pub record PutsOrdered (first : ℕ) (before after : List OrderedRecord) (old new : Core) (r : Outcome)
    : Type 0 where
  pub same : new ≡ old
  pub buffer : after ≡ put_over (ordered_from first old.book.rows) before
  pub answer : r ≡ put_outcome (ordered_from first old.book.rows) before

-- how many rows stand in front of the first one that has no answer; all, where each has one
abbrev pub answered_first : List Ordered → ℕ
answered_first rows = position_or_len (λ r. is_none r.answered) rows

-- the number of the first row, from one on, that has no answer
abbrev pub answered_told : ℕ → Core → Outcome
answered_told first c = c_outcome code.Done (first + answered_first (drop first c.book.rows))
