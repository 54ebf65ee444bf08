use Rattle.std.proofs.Common.{refl}
use Rattle.c_handles.proofs.gathering.Gathering.none.Goals as goal

pub returns : goal.returns
returns g c = rw (c.new.ensures.items, c.new-2.ensures.items, c.in_ok-none.ensures) refl
