use Rattle.trace_laws.proofs.PathOrders.{path_explains, order_has_path}
use Rattle.trace_laws.proofs.laws.orders_are_paths.Goals as goal

pub returns : goal.returns
returns c = record {
  explains = λ words opening trace order t path. path_explains words opening trace order t path;
  has_path = λ opening trace order is. order_has_path opening trace order is;
}
