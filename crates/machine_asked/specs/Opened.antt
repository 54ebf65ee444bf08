-- A machine that is opened by numbers.
use Rattle.std.specs.Prelude.{◌≡◌, ℕ, List, [], replicate}
use Rattle.torus.specs.Shape.{Shape, tiles_of}
use Rattle.machine_parts.specs.Load.{Load}
use Rattle.machine_parts.specs.Machine.{Core, IsAfter}
use Rattle.fair_rounds.specs.Guard.{usual_guard}
use Rattle.machine_asked.specs.Asked.{Asked}

-- it has this shape, channels of so many flits, so many tags and these opening words
pub record IsBuiltTo (shape : Shape) (depth tags : ℕ) (opening : List ℕ) (c : Core) : Type 0 where
  pub shape_is : c.shape ≡ shape
  pub depth_is : c.depth ≡ depth
  pub tags_is : c.tags ≡ tags
  pub opening_is : c.opening ≡ opening

-- a machine that is built so; it has made no step, no processor has a line, and its guard has seen nothing
pub record IsOpened (shape : Shape) (depth tags : ℕ) (opening : List ℕ) (v : Asked) : Type 0 where
  pub built : IsBuiltTo shape depth tags opening v.core
  pub load : Load
  pub fresh : IsAfter load v.core []
  pub scripts : load.scripts ≡ replicate (tiles_of shape) []
  pub guard : v.guard ≡ usual_guard v.core
