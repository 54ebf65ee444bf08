-- A worked receiver that answers, against the definitions.
use Rattle.std.proofs.Common.{◌==◌, false, [], ◌∷◌, refl, arith}
use Rattle.wormhole.specs.Net.{Net}
use Rattle.wormhole.specs.State.{NetState, empty_line, empty_note}
use Rattle.wormhole.specs.Events.{Return}
use Rattle.network_judge.specs.Receivers.{CanBeTaken, GoesWhere}

-- two channels: a receiver takes from channel 0 and answers on channel 1
abbrev net : Net
net = record {
  channels = 2;
  depth = 3;
  injects = λ x. x == 1;
  ejects = λ x. x == 0;
  joins = λ i j. false;
  route = λ i j. [];
  next = λ x j. j;
  number = λ x. x;
  top = 2;
  is_head = λ flit. flit == 9;
  is_tail = λ flit. flit == 9;
  told = λ flit. 0;
}

-- in each there is a flit, and one credit is held and one returns
abbrev state : NetState
state = record {
  lines = λ x. record (empty_line net) { flits = 9 ∷ []; held = 1; returning = 1 };
  notes = λ x. empty_note;
}

-- one credit to answer is enough to take the flit
one_credit_suffices : CanBeTaken net state (record { from = 0; to = 1 } ∷ []) 0 9 []
one_credit_suffices = record { here = omega arith; ejects = refl; first = refl; credits = λ y is. omega arith }

-- where a credit may come back somebody goes
credit_comes_back : GoesWhere net state [] ⊥ → ⊥
credit_comes_back goes = goes.moves (Return 0) tt (record { here = omega arith; returns = omega arith })
