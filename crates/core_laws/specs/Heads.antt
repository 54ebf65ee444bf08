-- Which flits are head flits.
use Rattle.std.specs.Prelude.{ℕ, ◌==◌, ◌&&◌, Bool}
use Rattle.packet.specs.Flit.{field}

-- whether a flit is a head flit, as routers tell it: the head bit, and the bit that every flit has
-- (Dally and Towles, chapter 12)
abbrev pub carries_route : ℕ → Bool
carries_route flit = field flit 63 1 == 1 && field flit 61 1 == 1
