-- The operation of a line: what the definition allows is what is found from the last reply.
use Rattle.std.proofs.Common.{◌≡◌, ℕ, Option, Some, None, List, refl, sym, ◌∙◌, ap}
use Rattle.std.specs.Prelude.{option_map, option_and_then}
use Rattle.std.proofs.lemmas.Option.{same_Some}
use Rattle.packet.specs.declared.kinds.Op.{Op}
use Rattle.packet.specs.declared.kinds.Op.TheVariants as op
use Rattle.packet.specs.declared.kinds.Reply.{Reply}
use Rattle.packet.specs.declared.kinds.Operation.{Operation}
use Rattle.script_lines.specs.declared.line.Line.{Line}
use Rattle.script_lines.specs.declared.line.Line.TheVariants as line
use Rattle.script_lines.specs.declared.line.Value.{Value}
use Rattle.script_lines.specs.declared.line.Value.TheVariants.{Number, Last}
use Rattle.one_order.specs.Scripts.{Invocation, reply_number, IsLastReply, IsOperand, Asks, IsOf}
use Rattle.one_order.specs.Following.{operand_of, asked, operation_asked}

-- the last reply is known, and was given before step t
abbrev pub IsKnown : Option Reply → List Invocation → ℕ → Type 0
IsKnown last q t = (reply : Reply) → last ≡ Some reply → IsLastReply q t reply

-- what is known of the last reply
abbrev pub IsShown : Option Reply → List Invocation → ℕ → Type 0
IsShown last q t = (reply : Reply) → IsLastReply q t reply → last ≡ Some reply

operand_to : (v : Value) (last : Option Reply) (q : List Invocation) (t x : ℕ) → operand_of v last ≡ Some x → IsKnown last q t → IsOperand v q t x
operand_to (Number n) last q t x h known = sym (same_Some n x h)
operand_to Last None q t x h known = cc
operand_to Last (Some reply) q t x h known = (reply, known reply refl, sym (same_Some (reply_number reply) x h))

operand_from : (v : Value) (last : Option Reply) (q : List Invocation) (t x : ℕ) → IsOperand v q t x → IsShown last q t → operand_of v last ≡ Some x
operand_from (Number n) last q t x h shown = ap (λ (y : ℕ). Some y) (sym h)
operand_from Last last q t x h shown = ap (option_map reply_number) (shown h.0 h.1) ∙ ap (λ (y : ℕ). Some y) (sym h.2)

-- the operation asked for, by its operands
abbrev asking : (ℕ → Op) → ℕ → ℕ → Operation
asking kind a x = record { address = a; op = kind x }

asked_parts : (kind : ℕ → Op) (a : ℕ) (x : Option ℕ) (o : Operation) → option_map (asking kind a) x ≡ Some o → (y : ℕ) × (x ≡ Some y) × (o ≡ asking kind a y)
asked_parts kind a None o h = cc
asked_parts kind a (Some y) o h = (y, refl, sym (same_Some (asking kind a y) o h))

cas_parts : (a : ℕ) (x y : Option ℕ) (o : Operation) → option_and_then (λ e. option_map (asking (op.Cas e) a) y) x ≡ Some o →
    (e n : ℕ) × (x ≡ Some e) × (y ≡ Some n) × (o ≡ asking (op.Cas e) a n)
cas_parts a None y o h = cc
cas_parts a (Some e) y o h = let r = asked_parts (op.Cas e) a y o h in (e, r.0, refl, r.1, r.2)

asks_to : (kind : ℕ → Op) (a : ℕ) (v : Value) (last : Option Reply) (q : List Invocation) (o : Invocation) →
    asked kind a v last ≡ Some o.operation → IsKnown last q o.issue → Asks kind a v q o
asks_to kind a v last q o h known =
    let r = asked_parts kind a (operand_of v last) o.operation h in
    (r.0, operand_to v last q o.issue r.0 r.1 known, r.2)

asks_from : (kind : ℕ → Op) (a : ℕ) (v : Value) (last : Option Reply) (q : List Invocation) (o : Invocation) →
    Asks kind a v q o → IsShown last q o.issue → asked kind a v last ≡ Some o.operation
asks_from kind a v last q o h shown =
    ap (option_map (asking kind a)) (operand_from v last q o.issue h.0 h.1 shown) ∙ ap (λ (x : Operation). Some x) (sym h.2)

-- a line of one operation
abbrev pub IsOrdinary : Line → Type 0
IsOrdinary line.Fence = ⊥
IsOrdinary (line.Spin a v m) = ⊥
IsOrdinary first = Unit {0}

pub line_to : (first : Line) (last : Option Reply) (q : List Invocation) (o : Invocation) → IsOrdinary first →
    operation_asked first last ≡ Some o.operation → IsKnown last q o.issue → IsOf first q o
line_to (line.Load a) last q o c h known = sym (same_Some (record { address = a; op = op.Load }) o.operation h)
line_to (line.Store a v) last q o c h known = asks_to op.Store a v last q o h known
line_to (line.Swap a v) last q o c h known = asks_to op.Swap a v last q o h known
line_to (line.Cas a e n) last q o c h known =
    let r = cas_parts a (operand_of e last) (operand_of n last) o.operation h in
    (r.0, r.1, operand_to e last q o.issue r.0 r.2 known, operand_to n last q o.issue r.1 r.3 known, r.4)
line_to (line.Add a v) last q o c h known = asks_to op.Add a v last q o h known
line_to (line.And a v) last q o c h known = asks_to op.And a v last q o h known
line_to (line.Or a v) last q o c h known = asks_to op.Or a v last q o h known
line_to (line.Xor a v) last q o c h known = asks_to op.Xor a v last q o h known
line_to (line.Max a v) last q o c h known = asks_to op.Max a v last q o h known
line_to (line.Min a v) last q o c h known = asks_to op.Min a v last q o h known
line_to line.Fence last q o c h known = absurd c
line_to (line.Spin a v m) last q o c h known = absurd c

pub line_from : (first : Line) (last : Option Reply) (q : List Invocation) (o : Invocation) →
    IsOf first q o → IsShown last q o.issue → operation_asked first last ≡ Some o.operation
line_from (line.Load a) last q o h shown = ap (λ (x : Operation). Some x) (sym h)
line_from (line.Store a v) last q o h shown = asks_from op.Store a v last q o h shown
line_from (line.Swap a v) last q o h shown = asks_from op.Swap a v last q o h shown
line_from (line.Cas a e n) last q o h shown =
    ap (option_and_then (λ (x : ℕ). asked (op.Cas x) a n last)) (operand_from e last q o.issue h.0 h.2 shown)
    ∙ (ap (option_map (asking (op.Cas h.0) a)) (operand_from n last q o.issue h.1 h.3 shown) ∙ ap (λ (x : Operation). Some x) (sym h.4))
line_from (line.Add a v) last q o h shown = asks_from op.Add a v last q o h shown
line_from (line.And a v) last q o h shown = asks_from op.And a v last q o h shown
line_from (line.Or a v) last q o h shown = asks_from op.Or a v last q o h shown
line_from (line.Xor a v) last q o h shown = asks_from op.Xor a v last q o h shown
line_from (line.Max a v) last q o h shown = asks_from op.Max a v last q o h shown
line_from (line.Min a v) last q o h shown = asks_from op.Min a v last q o h shown
line_from line.Fence last q o h shown = absurd h
line_from (line.Spin a v m) last q o h shown = absurd h
