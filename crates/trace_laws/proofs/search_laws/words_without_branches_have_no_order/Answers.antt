use Rattle.trace_laws.specs.Searches.{configs_of}
use Rattle.trace_laws.proofs.Complete.{complete_none}
use Rattle.trace_laws.proofs.Start.{map_in}
use Rattle.trace_laws.specs.declared.opened.Branch.{Branch}
use Rattle.trace_laws.proofs.search_laws.words_without_branches_have_no_order.Goals as goal

pub returns : goal.returns
returns c = λ opening trace k tables sets nodes is w inside none lin.
    complete_none opening trace k tables (λ v. configs_of (sets v)) w inside
    (λ config h. let b = map_in (λ (branch : Branch). branch.config) (sets w) config h in none b.0 b.1)
    is.complete lin
