-- How a `Torus` keeps its shape: lists of three, of which the rest is filled up.
use Rattle.std.specs.Prelude.{◌≡◌, length, take}
use Rattle.torus.specs.Filled.{filled}
use Rattle.torus.specs.Shape.{Shape, IsAccepted}
use Rattle.torus.specs.declared.shape.Torus.TheInside.{Inside}

abbrev pub shape_of : Inside → Shape
shape_of t = record { radices = take t.dims t.radices; datelines = take t.dims t.datelines }

abbrev pub fields_of : Shape → Inside
fields_of s = record {
  dims = length s.radices;
  radices = filled 1 s.radices;
  datelines = filled 0 s.datelines;
}

pub record IsTorus (t : Inside) : Type 0 where
  pub accepted : IsAccepted (shape_of t)
  pub dims : length (take t.dims t.radices) ≡ t.dims
  pub radices : filled 1 (take t.dims t.radices) ≡ t.radices
  pub datelines : filled 0 (take t.dims t.datelines) ≡ t.datelines
