-- The output that a router chooses, from its tile, the packet's input and destination alone.
use Rattle.std.specs.Prelude.{ℕ, ◌==◌, ◌&&◌, ◌||◌, Bool, false, not, Option, None, Some, find}
use Rattle.std.specs.List.{range_with_len}
use Rattle.torus.specs.Shape.{Shape, dims_of, radix_of, dateline_of, digit_of}
use Rattle.torus.specs.declared.shape.Dir.{Dir}
use Rattle.dateline_route.specs.declared.channel.Input.{Input}
use Rattle.dateline_route.specs.declared.channel.Input.TheVariants.{Inject, Hop as From}
use Rattle.dateline_route.specs.declared.channel.Output.{Output}
use Rattle.dateline_route.specs.declared.channel.Output.TheVariants.{Eject, Hop as To}
use Rattle.dateline_route.specs.Ring.{shorter_way, dateline_out_of}

-- whether the packet came in dimension d on bit 1 (Dally and Towles, chapter 14)
abbrev pub came_on_one : Input → ℕ → Bool
came_on_one Inject d = false
came_on_one (From e dir bit) d = (e == d) && bit

-- whether the hop out of tile t in dimension d is the dateline hop (Dally and Towles, chapter 14)
abbrev pub is_dateline_hop : Shape → ℕ → ℕ → Dir → Bool
is_dateline_hop s t d dir = digit_of s t d == dateline_out_of dir (radix_of s d) (dateline_of s d)

-- the first dimension in which two tiles' digits differ (Dally and Towles, chapter 8:
-- dimension-order routing)
abbrev pub first_apart : Shape → ℕ → ℕ → Option ℕ
first_apart s t dst = find (λ d. not (digit_of s t d == digit_of s dst d))
    (range_with_len 0 (dims_of s))

-- the hop in a direction, on bit 1 where it is the dateline hop or the packet came in this
-- dimension on bit 1 (Dally and Towles, chapter 14)
abbrev pub hop_to : Shape → ℕ → Input → ℕ → Dir → Output
hop_to s t came d dir = To d dir (is_dateline_hop s t d dir || came_on_one came d)

-- ejection, or the hop the shorter way in a dimension (Dally and Towles, chapter 8)
abbrev pub output_in : Shape → ℕ → Input → ℕ → Option ℕ → Output
output_in s t came dst None = Eject
output_in s t came dst (Some d) =
    hop_to s t came d (shorter_way (radix_of s d) (digit_of s t d) (digit_of s dst d))

-- the output to which a packet goes next that came by this input (Dally and Towles, chapters 8 and
-- 14)
abbrev pub next_of : Shape → ℕ → Input → ℕ → Output
next_of s t came dst = output_in s t came dst (first_apart s t dst)
