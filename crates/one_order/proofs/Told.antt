-- The answer that tells a service, where it is made.
use Rattle.std.proofs.Common.{ℕ, List, [], ◌∷◌, ◌++◌, length, Some, refl, sym, ◌∙◌, ap}
use Rattle.std.proofs.lemmas.List.{take_at}
use Rattle.packet.specs.declared.kinds.Operation.{Operation}
use Rattle.packet.specs.Memory.{reply_of_one}
use Rattle.one_order.specs.declared.answer.Answer.{Answer}
use Rattle.one_order.specs.Observed.{Observed, list_at}
use Rattle.one_order.specs.Order.{LinearizationPoint, home, count_at}
use Rattle.one_order.specs.Events.{TellsService}
use Rattle.one_order.proofs.Lists.{get_push}
use Rattle.one_order.proofs.Folds.{reply_new}
use Rattle.one_order.proofs.Account.{Account}

-- the answer that tells a service, as it is made
abbrev pub answer_told : ℕ → Observed → ℕ → Operation → Answer
answer_told tiles s i o =
    record { index = i; op = o.op; reply = reply_of_one o s.memory; bank = home tiles o; place = length (list_at s.entries (home tiles o)) }

-- What a service is told stands from there on: the answer that a core sends back with it.
pub tells_new : (tiles tags : ℕ) (opening : List ℕ) (s : Observed) (order : List LinearizationPoint) (p i t : ℕ) (o : Operation)
    → Account tiles tags opening s order
    → TellsService tiles opening (order ++ (record { source = p; index = i; operation = o; step = t }) ∷ []) p (answer_told tiles s i o)
tells_new tiles tags opening s order p i t o a =
    let new : LinearizationPoint = record { source = p; index = i; operation = o; step = t } in
    record {
      k = length order;
      point = new;
      there = get_push order new;
      source = refl;
      index = refl;
      op = refl;
      bank = refl;
      place = a.counts (home tiles o) ∙ ap (count_at tiles (home tiles o)) (sym (take_at order (new ∷ []) (length order) refl));
      reply = reply_new order new opening ∙ ap (λ m. Some (reply_of_one o m)) (sym a.memory);
    }
