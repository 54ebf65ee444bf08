-- A search with fewer branches.
use Rattle.std.proofs.Common.{ℕ, List, Option}
use Rattle.trace_laws.specs.declared.event.Event.{Event}
use Rattle.trace_laws.specs.declared.opened.Open.{Open}
use Rattle.trace_laws.specs.declared.opened.Branch.{Branch}
use Rattle.trace_laws.specs.declared.opened.Node.{Node}
use Rattle.trace_laws.specs.Configs.{IsIn}
use Rattle.trace_laws.specs.Searches.{IsSoundSearch}

-- what is sound is so without some of its branches
pub sound_fewer : (opening : List ℕ) (trace : List Event) (k : ℕ) (tables : ℕ → List (Option Open))
    (sets others : ℕ → List Branch) (nodes : List Node)
    → ((v : ℕ) (b : Branch) → IsIn (others v) b → IsIn (sets v) b)
    → IsSoundSearch opening trace k tables sets nodes → IsSoundSearch opening trace k tables others nodes
sound_fewer opening trace k tables sets others nodes fewer sound = record {
  back = sound.back;
  inside = λ v i b l h e. sound.inside v i b l (fewer v b h) e;
  explained = λ pick trails marks picks. sound.explained pick trails marks (record {
    sized = picks.sized;
    picked = λ v l. fewer v (pick v) (picks.picked v l);
    trailed = picks.trailed;
    marked = picks.marked;
    only = picks.only;
  });
}
