-- A finished script has no operation that is ready_operation.
use Rattle.std.proofs.Common.{◌≡◌, ℕ, true, List, [], ◌∷◌, Option, Some, None, refl}
use Rattle.std.specs.Prelude.{is_none, ◌&&◌, ◌==◌}
use Rattle.script_lines.specs.declared.line.Line.{Line}
use Rattle.packet.specs.declared.kinds.Reply.{Reply}
use Rattle.one_order.specs.declared.spin.OpenSpin.{OpenSpin}
use Rattle.one_order.specs.Following.{Following, is_finished, next_operation_of, ready_operation, is_empty}

none_ready : (spin : Option OpenSpin) (ahead : List Line) (last : Option Reply) (waiting : ℕ) → (is_empty ahead && is_none spin && (waiting == 0)) ≡ true
    → ready_operation spin ahead last ≡ None
none_ready None [] last waiting e = refl
none_ready None (first ∷ lines) last waiting e = cc
none_ready (Some s) [] last waiting e = cc
none_ready (Some s) (first ∷ lines) last waiting e = cc

pub ended : (f : Following) → is_finished f ≡ true → next_operation_of f ≡ None
unfolding is_finished next_operation_of
ended f e = none_ready f.spin f.ahead f.last f.waiting e
