-- What makes the report of a machine a good one.
use Rattle.std.specs.Prelude.{◌≤◌, length}
use Rattle.torus.specs.Shape.{tiles_of, IsAccepted as IsAcceptedShape}
use Rattle.one_order.specs.Reported.{ShowsWell}
use Rattle.core_laws.specs.Machine.{Core, shown, all_finished}

-- The machine has a shape, tags and words as its text may ask for, and what it shows goes with the
-- rows of its book (this project's own format).
pub record ReportsWell (c : Core) : Type 0 where
  pub shape : IsAcceptedShape c.shape
  pub tags : c.tags ≤ 16
  pub words_low : 1 ≤ length c.opening
  pub words_high : length c.opening ≤ 65536
  pub shows : ShowsWell (tiles_of c.shape) c.tags c.opening (shown c) (all_finished c.state)
      c.book.rows
