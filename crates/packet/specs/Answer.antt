-- What an assembler keeps after an answer.
use Rattle.std.specs.Prelude.{ℕ, List, [], ◌∷◌, ◌++◌}
use Rattle.packet.specs.declared.assembler.Offered.{Offered}
use Rattle.packet.specs.declared.assembler.Offered.TheVariants.{More, Whole, Refused}

-- the flits so far after this answer to a flit: with it, none, or as before (this project's own
-- format)
abbrev pub flits_left : Offered → List ℕ → ℕ → List ℕ
flits_left More so_far flit = so_far ++ flit ∷ []
flits_left (Whole p) so_far flit = []
flits_left (Refused k) so_far flit = so_far
