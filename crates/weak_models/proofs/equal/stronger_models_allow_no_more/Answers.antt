use Rattle.weak_models.proofs.Stronger.{of_partial_store_order, of_total_store_order, no_conditionals}
use Rattle.weak_models.proofs.Bare.{of_fenced}
use Rattle.weak_models.proofs.equal.stronger_models_allow_no_more.Goals as goal

pub returns : goal.returns
returns c = record {
  partial_store_order = of_partial_store_order;
  total_store_order = of_total_store_order;
  fenced = of_fenced;
  no_pairs = no_conditionals;
}
