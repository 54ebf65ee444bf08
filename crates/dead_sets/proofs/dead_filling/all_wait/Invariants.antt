use Rattle.std.proofs.Common.{◌≡◌, true}
use Rattle.std.specs.Prelude.{take}
use Rattle.std.specs.List.{list_all}
use Rattle.dead_sets.specs.FillingFlags.{filling_of, waits_by}
use Rattle.dead_sets.proofs.dead_filling.all_wait.Given as goal

-- the packets of the items so far wait
abbrev pub invariant-loop-place : goal.invariant-loop-place
invariant-loop-place g l =
    list_all (λ item. waits_by l.kinds l.replies l.choices l.ways l.marks l.taken l.full (filling_of item)) (take l.place l.items) ≡ true
