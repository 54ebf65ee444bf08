-- Where routers put head flits.
use Rattle.std.specs.Prelude.{ℕ}
use Rattle.torus.specs.Shape.{Shape, dims_of}
use Rattle.packet.specs.Flit.{field, class_numbered}
use Rattle.dateline_route.specs.Next.{next_of}
use Rattle.channel_number.specs.Ports.{input_numbered, output_number}

-- the number of the output for a head flit at input i of tile t's router, by what the flit carries
-- (Dally and Towles, chapter 8)
abbrev pub head_output : Shape → ℕ → ℕ → ℕ → ℕ
head_output s t i flit =
    output_number (dims_of s) (class_numbered (field flit 57 1))
    (next_of s t (input_numbered (dims_of s) i) (field flit 51 6))
