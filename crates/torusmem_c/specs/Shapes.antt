-- What a machine is built to, as C sees it (this project's own format).
use Rattle.std.specs.Prelude.{◌≡◌, [], ◌∷◌, length}
use Rattle.torus.specs.Shape.{dateline_of, dims_of, radix_of, tiles_of}
use Rattle.channel_number.specs.Ports.{port_count}
use Rattle.core_laws.specs.Machine.{Core}
use Rattle.torusmem_c.specs.declared.outcome.Outcome.{Outcome}
use Rattle.torusmem_c.specs.declared.outcome.Code.TheVariants as code
use Rattle.torusmem_c.specs.declared.shape.ShapeRecord.{ShapeRecord}
use Rattle.torusmem_c.specs.Outcome.{c_outcome}

-- the dimensions of the torus, each with its radix and its dateline, those that there aren't with 0;
-- the flits of a channel, the tags and the words; the tiles, and the inputs of a router
abbrev pub shape_record : Core → ShapeRecord
shape_record c = record {
  dims = dims_of c.shape;
  radices = radix_of c.shape 0 ∷ radix_of c.shape 1 ∷ radix_of c.shape 2 ∷ [];
  datelines = dateline_of c.shape 0 ∷ dateline_of c.shape 1 ∷ dateline_of c.shape 2 ∷ [];
  depth = c.depth;
  tags = c.tags;
  words = length c.opening;
  tiles = tiles_of c.shape;
  ports = port_count (dims_of c.shape);
}

-- it is told what the machine is built to, and nothing of the machine changes
pub record PutsShape (out : ShapeRecord) (old new : Core) (r : Outcome) : Type 0 where
  pub same : new ≡ old
  pub shape : out ≡ shape_record old
  pub answer : r ≡ c_outcome code.Done 0
