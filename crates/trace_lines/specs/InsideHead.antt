-- How a `Head` keeps what its lines gave.
use Rattle.std.specs.Prelude.{◌≤◌, ◌^◌}
use Rattle.trace_lines.specs.declared.head.Head.TheInside.{Inside}
use Rattle.trace_lines.specs.Head.{HeadSpec}

abbrev pub head_of_fields : {A : Type 0} → Inside A → HeadSpec
head_of_fields h = record { begun = h.begun; words = h.words; inits = h.inits.entries }

-- there are at most 2^32 words
abbrev pub IsHead : {A : Type 0} → Inside A → Type 0
IsHead h = h.words ≤ 2 ^ 32
