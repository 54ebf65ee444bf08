use Rattle.std.proofs.Common.{refl}
use Rattle.trace_text.proofs.reading.Reading.none.Goals as goal

pub returns : goal.returns
returns g c =
    rw (
      c.none-2.ensures,
      c.new.ensures.empty,
      c.new-2.ensures.items,
      c.new-3.ensures.items,
      c.new-4.ensures.items,
      c.new-5.ensures.items,
      c.in_ok-numbers.ensures,
    ) refl
