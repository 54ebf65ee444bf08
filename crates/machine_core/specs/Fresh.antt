-- What a freshly loaded machine shows of its load.
use Rattle.std.specs.Prelude.{map}
use Rattle.machine_parts.specs.Core.{Load}
use Rattle.machine_parts.specs.Machine.{Core}

-- the load that a freshly loaded machine tells: what was loaded, without the fences in front of
-- each script, which hold nothing back (this project's own format)
abbrev pub told_load : Core → Load
told_load c = record {
  shape = c.shape;
  depth = c.depth;
  tags = c.tags;
  opening = c.opening;
  scripts = map (λ tile. tile.processor.operations.following.ahead) c.state.tiles;
}
