use Rattle.std.proofs.Common.{◌≡◌, ℕ, ◌<◌, length, slice_index_or}
use Rattle.torus.specs.Shape.{dims_of}
use Rattle.torus.specs.declared.shape.Class.TheVariants.{Request}
use Rattle.dateline_route.specs.declared.channel.Input.TheVariants.{Inject}
use Rattle.dateline_route.specs.Next.{next_of}
use Rattle.channel_number.specs.Ports.{output_number}
use Rattle.router.proofs.steering.ways_from.Given as goal

abbrev pub invariant-loop-dst : goal.invariant-loop-dst
invariant-loop-dst g l = record {
  counted : length l.ways.items ≡ l.dst;
  are_next : (dst : ℕ) → dst < l.dst
      → slice_index_or l.ways.items dst 0 ≡ output_number (dims_of l.torus) Request (next_of l.torus l.tile Inject dst);
}
