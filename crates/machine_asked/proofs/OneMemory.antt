-- A machine that goes on where another stands.
use Rattle.std.proofs.Common.{◌≡◌, ℕ, List, ◌++◌, length, take, refl, sym, ◌∙◌, ap}
use Rattle.std.proofs.Math.Seq.{take-length}
use Rattle.torus.specs.declared.step.Step.{Step}
use Rattle.packet.specs.Memory.{memory_after, replies}
use Rattle.packet.proofs.Folds.{memory_after-append, replies-append}
use Rattle.one_order.specs.Order.{LinearizationPoint, operations_of}
use Rattle.machine_parts.specs.Core.{Load, State, after, run_of, show}
use Rattle.machine_parts.specs.Machine.{Core, IsAfter, shown}
use Rattle.machine_asked.specs.GoingOn.{GoesOnFrom}

-- the words that a machine shows are those of its run
shown_words : (l : Load) (c : Core) (steps : List Step) → IsAfter l c steps → (shown c).memory ≡ (run_of l steps (length steps)).memory
shown_words l c steps h =
    ap (λ (ws : List ℕ). (show (length ws) c.state).memory) h.opening
    ∙ (ap (λ (s : State). (show (length l.opening) s).memory) h.state
    ∙ ap (λ (xs : List Step). (show (length l.opening) (after l xs)).memory) (sym (take-length steps)))

pub goes_on : (l k : Load) (c d : Core) (steps more : List Step) → IsAfter l c steps → IsAfter k d more → d.opening ≡ (shown c).memory
    → GoesOnFrom l steps k more
goes_on l k c d steps more h g opens =
    let one = h.lawful.order in let two = g.lawful.order in
    let xs = operations_of one.order in let ys = operations_of two.order in
    let at : k.opening ≡ memory_after xs l.opening = sym g.opening ∙ (opens ∙ (shown_words l c steps h ∙ one.legal.memory)) in
    record {
      first = one.order;
      second = two.order;
      before = one.legal;
      behind = two.legal;
      served = replies-append xs ys l.opening ∙ ap (λ (m : List ℕ). replies xs l.opening ++ replies ys m) (sym at);
      memory = two.legal.memory ∙ (ap (λ (m : List ℕ). memory_after ys m) at ∙ sym (memory_after-append xs ys l.opening));
    }
