use Rattle.core_laws.specs.Core.{design_of, first_state, step}
use Rattle.core_laws.proofs.MachineEnabled as generic
use Rattle.core_laws.proofs.StepLists.{load_state, load_book, load_machine, load_stands, load_again, load_all, load_enabled, load_count, load_few}
use Rattle.core_laws.proofs.move_laws.moves_lead_alike.Goals as goal

pub returns : goal.returns
returns c = record {
  part = λ l steps. generic.part (step (design_of l)) (first_state l) steps;
  enabled = load_enabled;
  state = load_state;
  book = load_book;
  machine = load_machine;
  stands = load_stands;
  again = load_again;
  all = load_all;
  count = load_count;
  few = load_few;
}
