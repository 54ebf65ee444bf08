-- The scripts so far, whose counts go with them.
use Rattle.script.specs.declared.progress.Progress.{Progress}
use Rattle.script_lines.specs.Views.{AreCounted, lists_of}

abbrev pub IsCounted : {A : Type 0} → Progress A → Type 0
IsCounted p = AreCounted p.words (lists_of p.lists.items) p.counts.items p.total
