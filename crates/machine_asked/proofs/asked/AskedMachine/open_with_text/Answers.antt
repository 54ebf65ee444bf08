-- What is loaded is compared with what is asked for, and no line is read.
use Rattle.std.proofs.Common.{◌≡◌, ℕ, List, [], Ok, map, sym, ◌∙◌, ap, subst, replicate}
use Rattle.std.specs.Str.Lines.{lines}
use Rattle.torus.specs.Shape.{Shape, tiles_of}
use Rattle.machine_parts.specs.Core.{Load}
use Rattle.machine_core.specs.Loading.{load_by}
use Rattle.machine_asked.specs.Asked.{has_spin}
use Rattle.machine_asked.proofs.Openings.{no_lines}
use Rattle.machine_asked.proofs.asked.AskedMachine.open_with_text.Goals as goal

pub returns-then-is_built-clause-opened : goal.returns-then-is_built-clause-opened
returns-then-is_built-clause-opened g c =
    let built = c.is_built.ensures c.if-is_built.true in
    let loaded = c.in-Ok.ensures.loaded in
    record {
      built = built;
      load = loaded.load;
      fresh = loaded.after;
      scripts = no_lines (lines c.as_slice.result.now) loaded.load loaded.read
          ∙ ap (λ (s : Shape). replicate (tiles_of s) []) (sym loaded.after.shape ∙ built.shape_is);
      guard = c.in-Ok.ensures.guard;
    }

pub returns-then-is_built-clause-spins : goal.returns-then-is_built-clause-spins
returns-then-is_built-clause-spins g c =
    subst (λ (bs : List ℕ). (l : Load) → load_by (lines bs) [] ≡ Ok l → c.in-Ok.machine.spins ≡ map has_spin l.scripts) c.as_slice.ensures.value c.in-Ok.ensures.spins
