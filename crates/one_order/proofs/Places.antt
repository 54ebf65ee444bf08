-- What is kept of the lines ahead and of an open spin, from call to call.
use Rattle.std.proofs.Common.{◌≡◌, ℕ, zero, suc, ◌+◌, ◌<◌, ◌≤◌, ◌==◌, ◌&&◌, ◌||◌, Bool, true, false, List, [], ◌∷◌, drop, take, Option, Some, None, refl, ◌∙◌}
use Rattle.std.proofs.Common.{ap, arith, slice_get, eqb-true, eq-eqb}
use Rattle.std.specs.Prelude.{option_map, option_and_then, is_none, IsSome}
use Rattle.std.proofs.lemmas.Bool.{cond_both, and_parts, and_from, both_ways, or_parts, eqb-false}
use Rattle.std.proofs.lemmas.List.Sums.{sum_by-cons}
use Rattle.std.proofs.lemmas.Option.{same_Some}
use Rattle.packet.specs.declared.kinds.Op.{Op}
use Rattle.packet.specs.declared.kinds.Op.TheVariants as op
use Rattle.packet.specs.declared.kinds.Reply.{Reply}
use Rattle.packet.specs.declared.kinds.Operation.{Operation}
use Rattle.script_lines.specs.declared.line.Line.{Line}
use Rattle.script_lines.specs.declared.line.Line.TheVariants as line
use Rattle.script_lines.specs.declared.line.Value.{Value}
use Rattle.script_lines.specs.declared.line.Value.TheVariants.{Number, Last}
use Rattle.script_lines.specs.Lines.{operations_of, operation_count, is_last, mentions_last}
use Rattle.one_order.specs.declared.spin.OpenSpin.{OpenSpin}
use Rattle.one_order.specs.Scripts.{reply_number, address_of, IsFollowable, IsAddressIn}
use Rattle.one_order.specs.Following.{operand_of, asked, operation_asked, ready_operation, spin_issued, ahead_issued, past_fences, spin_answered, unfenced}
use Rattle.one_order.specs.Following.{loads_left, HasLoad}
use Rattle.one_order.proofs.Residual.{HasLoads, BeginsWithLoads, WantsLoad, HasNoFence}

-- each element has the property
abbrev pub Each : {X : Type 0} → (X → Type 0) → List X → Type 0
Each P [] = Unit {0}
Each P (x ∷ xs) = P x × Each P xs

pub each_from : {X : Type 0} (P : X → Type 0) (xs : List X) → ((k : ℕ) (x : X) → slice_get xs k ≡ Some x → P x) → Each P xs
each_from P [] h = tt
each_from P (x ∷ xs) h = (h 0 x refl, each_from P xs (λ k. h (suc k)))

pub each_past_fences : (P : Line → Type 0) (lines : List Line) → Each P lines → Each P (past_fences lines)
each_past_fences P [] h = tt
each_past_fences P (line.Fence ∷ lines) h = each_past_fences P lines h.1
each_past_fences P (first ∷ lines) h = h

pub each_issued : (P : Line → Type 0) (spin : Option OpenSpin) (ahead : List Line) → Each P ahead → Each P (ahead_issued spin ahead)
each_issued P (Some s) ahead h = h
each_issued P None [] h = tt
each_issued P None (first ∷ lines) h = h.1

none_from : (spin : Option OpenSpin) → is_none spin ≡ true → spin ≡ None
none_from None h = refl
none_from (Some s) h = cc

-- fences are passed exactly when nothing waits and no spin is open
pub unfenced_cases : (spin : Option OpenSpin) (waiting : ℕ) (ahead : List Line) (P : List Line → Type 0) →
    (waiting ≡ 0 → spin ≡ None → P (past_fences ahead)) → ((waiting ≡ 0 → spin ≡ None → ⊥) → P ahead) → P (unfenced spin waiting ahead)
unfenced_cases spin waiting ahead P past here =
    cond_both ((waiting == 0) && is_none spin) (past_fences ahead) ahead P
    (λ e. let r = and_parts (waiting == 0) (is_none spin) e in past (eqb-true waiting 0 r.0) (none_from spin r.1))
    (λ e. here (λ z n. both_ways ((waiting == 0) && is_none spin) e (and_from (waiting == 0) (is_none spin) (eq-eqb waiting 0 z) (ap is_none n))))

pub each_unfenced : (P : Line → Type 0) (spin : Option OpenSpin) (waiting : ℕ) (ahead : List Line) → Each P ahead → Each P (unfenced spin waiting ahead)
each_unfenced P spin waiting ahead h = unfenced_cases spin waiting ahead (Each P) (λ z n. each_past_fences P ahead h) (λ no. h)

pub no_fence : (lines : List Line) → HasNoFence (past_fences lines)
no_fence [] = tt
no_fence (line.Fence ∷ lines) = no_fence lines
no_fence (first ∷ lines) = tt

pub no_fence_left : (spin : Option OpenSpin) (waiting : ℕ) (ahead : List Line) → waiting ≡ 0 → spin ≡ None → HasNoFence (unfenced spin waiting ahead)
no_fence_left spin waiting ahead z n = unfenced_cases spin waiting ahead HasNoFence (λ _ _. no_fence ahead) (λ no. absurd (no z n))

-- counts
pub count_past_fences : (lines : List Line) → operation_count (past_fences lines) ≡ operation_count lines
count_past_fences [] = refl
count_past_fences (line.Fence ∷ lines) = omega (arith, count_past_fences lines, sum_by-cons operations_of line.Fence lines)
count_past_fences (first ∷ lines) = refl

pub count_unfenced : (spin : Option OpenSpin) (waiting : ℕ) (ahead : List Line) → operation_count (unfenced spin waiting ahead) ≡ operation_count ahead
count_unfenced spin waiting ahead =
    unfenced_cases spin waiting ahead (λ lines. operation_count lines ≡ operation_count ahead) (λ z n. count_past_fences ahead) (λ no. refl)

-- an open spin that may make another load has one left
pub wants_left : (spin : Option OpenSpin) (last : Option Reply) → WantsLoad spin last → HasLoad spin last
wants_left None last h = tt
wants_left (Some s) None h = tt
wants_left (Some s) (Some reply) h = h.1

pub left_issued : (spin : Option OpenSpin) (ahead : List Line) (last : Option Reply) (o : Operation) → ready_operation spin ahead last ≡ Some o →
    BeginsWithLoads ahead → HasLoad spin last →
    loads_left (spin_issued spin ahead) + operation_count (ahead_issued spin ahead) + 1 ≤ loads_left spin + operation_count ahead
left_issued (Some s) ahead None o h loads wants = cc
left_issued (Some s) ahead (Some reply) o h loads wants = omega arith
left_issued None [] last o h loads wants = cc
left_issued None (line.Fence ∷ lines) last o h loads wants = cc
left_issued None (line.Spin a v m ∷ lines) last o h loads wants = omega (arith, sum_by-cons operations_of (line.Spin a v m) lines)
left_issued None (first ∷ lines) last o h loads wants = omega (arith, sum_by-cons operations_of first lines)

-- the end of a spin
pub spin_answered_cases : (s : OpenSpin) (reply : Reply) (P : Option OpenSpin → Type 0) →
    (((reply_number reply == s.sought) || (s.left == 0)) ≡ true → P None) → (((reply_number reply == s.sought) ≡ false) → 0 < s.left → P (Some s))
    → P (spin_answered (Some s) reply)
spin_answered_cases s reply P over again =
    cond_both ((reply_number reply == s.sought) || (s.left == 0)) None (Some s) P over
    (λ e. let r = or_parts (reply_number reply == s.sought) (s.left == 0) e in let ne = eqb-false s.left 0 r.1 in again r.0 (omega arith))

pub left_answered : (spin : Option OpenSpin) (reply : Reply) → loads_left (spin_answered spin reply) ≤ loads_left spin
left_answered None reply = omega arith
left_answered (Some s) reply = spin_answered_cases s reply (λ sp. loads_left sp ≤ s.left) (λ _. omega arith) (λ _ _. omega arith)

-- whether an open spin wants a load
pub wants_none : (spin : Option OpenSpin) → WantsLoad spin None
wants_none None = tt
wants_none (Some s) = tt

pub wants_answered : (spin : Option OpenSpin) (reply : Reply) → WantsLoad (spin_answered spin reply) (Some reply)
wants_answered None reply = tt
wants_answered (Some s) reply = spin_answered_cases s reply (λ sp. WantsLoad sp (Some reply)) (λ _. tt) (λ n l. (n, l))

pub left_of_answered : (spin : Option OpenSpin) (reply : Reply) → HasLoad (spin_answered spin reply) (Some reply)
left_of_answered spin reply = wants_left (spin_answered spin reply) (Some reply) (wants_answered spin reply)

pub left_of_none : (spin : Option OpenSpin) → HasLoad spin None
left_of_none spin = wants_left spin None (wants_none spin)

-- what the first line takes
pub begins_with_loads : (ahead : List Line) → Each HasLoads ahead → BeginsWithLoads ahead
begins_with_loads [] h = tt
begins_with_loads (first ∷ lines) h = h.0

has_loads : (first : Line) → ((a v m : ℕ) → first ≡ line.Spin a v m → 0 < m) → HasLoads first
has_loads (line.Spin a v m) h = h a v m refl
has_loads first h = tt

pub drop_begins : (lines : List Line) (at : ℕ) → ((k a v m : ℕ) → slice_get lines k ≡ Some (line.Spin a v m) → 0 < m) → BeginsWithLoads (drop at lines)
drop_begins [] zero h = tt
drop_begins [] (suc at) h = tt
drop_begins (first ∷ lines) zero h = has_loads first (λ a v m e. h 0 a v m (ap (λ (x : Line). Some x) e))
drop_begins (first ∷ lines) (suc at) h = drop_begins lines at (λ k. h (suc k))

pub followable_loads : (lines : List Line) → IsFollowable lines → Each HasLoads lines
followable_loads lines h = each_from HasLoads lines (λ k first g. has_loads first (λ a v m e. h.loads k a v m (g ∙ ap (λ (x : Line). Some x) e)))

-- no number replied before is named at the start
abbrev pub BeginsPlainly : List Line → Type 0
BeginsPlainly [] = Unit {0}
BeginsPlainly (first ∷ lines) = mentions_last first ≡ true → ⊥

abbrev IsLastPreceded : List Line → Type 0
IsLastPreceded lines = (k : ℕ) (first : Line) → slice_get lines k ≡ Some first → mentions_last first ≡ true → 0 < operation_count (take k lines)

preceded_tail : (lines : List Line) → IsLastPreceded (line.Fence ∷ lines) → IsLastPreceded lines
preceded_tail lines h k first g u = omega (arith, h (suc k) first g u, sum_by-cons operations_of line.Fence (take k lines))

begins_plainly : (lines : List Line) → IsLastPreceded lines → BeginsPlainly (past_fences lines)
begins_plainly [] h = tt
begins_plainly (line.Fence ∷ lines) h = begins_plainly lines (preceded_tail lines h)
begins_plainly (first ∷ lines) h = λ u. absurd (omega (arith, h 0 first refl u))

pub followable_start : (lines : List Line) → IsFollowable lines → BeginsPlainly (past_fences lines)
followable_start lines h = begins_plainly lines h.lasts

-- an operation is ready_operation wherever what its line takes is known
known_operand : (v : Value) (last : Option Reply) → (is_last v ≡ true → IsSome last) → IsSome (operand_of v last)
known_operand (Number n) last h = refl
known_operand Last None h = absurd (let e = h refl in cc)
known_operand Last (Some reply) h = refl

or_left : (a b : Bool) → a ≡ true → (a || b) ≡ true
or_left true b h = refl
or_left false b h = cc

or_right : (a b : Bool) → b ≡ true → (a || b) ≡ true
or_right true b h = refl
or_right false b h = h

some_mapped : {A B : Type 0} (f : A → B) (x : Option A) → IsSome x → IsSome (option_map f x)
some_mapped f None h = cc
some_mapped f (Some x) h = refl

some_then : {A B : Type 0} (f : A → Option B) (x : Option A) → IsSome x → ((y : A) → IsSome (f y)) → IsSome (option_and_then f x)
some_then f None h k = cc
some_then f (Some x) h k = k x

abbrev asking : (ℕ → Op) → ℕ → ℕ → Operation
asking kind a x = record { address = a; op = kind x }

known_asked : (kind : ℕ → Op) (a : ℕ) (v : Value) (last : Option Reply) → (is_last v ≡ true → IsSome last) → IsSome (asked kind a v last)
known_asked kind a v last h = some_mapped (asking kind a) (operand_of v last) (known_operand v last h)

pub known_operation : (first : Line) (lines : List Line) (last : Option Reply) → HasNoFence (first ∷ lines) → (mentions_last first ≡ true → IsSome last)
    → IsSome (operation_asked first last)
known_operation (line.Load a) lines last f h = refl
known_operation (line.Store a v) lines last f h = known_asked op.Store a v last h
known_operation (line.Swap a v) lines last f h = known_asked op.Swap a v last h
known_operation (line.Cas a e n) lines last f h =
    some_then (λ x. asked (op.Cas x) a n last) (operand_of e last) (known_operand e last (λ u. h (or_left (is_last e) (is_last n) u)))
    (λ x. known_asked (op.Cas x) a n last (λ u. h (or_right (is_last e) (is_last n) u)))
known_operation (line.Add a v) lines last f h = known_asked op.Add a v last h
known_operation (line.And a v) lines last f h = known_asked op.And a v last h
known_operation (line.Or a v) lines last f h = known_asked op.Or a v last h
known_operation (line.Xor a v) lines last f h = known_asked op.Xor a v last h
known_operation (line.Max a v) lines last f h = known_asked op.Max a v last h
known_operation (line.Min a v) lines last f h = known_asked op.Min a v last h
known_operation line.Fence lines last f h = absurd f
known_operation (line.Spin a v m) lines last f h = refl

-- addresses
abbrev pub IsLineIn : List Line → Line → Type 0
IsLineIn lines first = (k : ℕ) × (slice_get lines k ≡ Some first)

abbrev pub IsSpinIn : List Line → Option OpenSpin → Type 0
IsSpinIn lines None = Unit {0}
IsSpinIn lines (Some s) = IsAddressIn lines s.address

pub spin_in_issued : (lines : List Line) (spin : Option OpenSpin) (ahead : List Line) → Each (IsLineIn lines) ahead → IsSpinIn lines spin
    → IsSpinIn lines (spin_issued spin ahead)
spin_in_issued lines (Some s) ahead each there = there
spin_in_issued lines None [] each there = tt
spin_in_issued lines None (line.Spin a v m ∷ rest) each there = (each.0.0, line.Spin a v m, each.0.1, refl)
spin_in_issued lines None (first ∷ rest) each there = tt

pub spin_in_answered : (lines : List Line) (spin : Option OpenSpin) (reply : Reply) → IsSpinIn lines spin → IsSpinIn lines (spin_answered spin reply)
spin_in_answered lines None reply there = tt
spin_in_answered lines (Some s) reply there = spin_answered_cases s reply (IsSpinIn lines) (λ _. tt) (λ _ _. there)

asked_address : (kind : ℕ → Op) (a : ℕ) (x : Option ℕ) (o : Operation) → option_map (asking kind a) x ≡ Some o → Some a ≡ Some o.address
asked_address kind a None o h = cc
asked_address kind a (Some y) o h = ap (λ (p : Operation). Some p.address) (same_Some (asking kind a y) o h)

cas_address : (a : ℕ) (x y : Option ℕ) (o : Operation) → option_and_then (λ e. option_map (asking (op.Cas e) a) y) x ≡ Some o → Some a ≡ Some o.address
cas_address a None y o h = cc
cas_address a (Some e) y o h = asked_address (op.Cas e) a y o h

load_address : (a : ℕ) (o : Operation) → Some (record { address = a; op = op.Load }) ≡ Some o → Some a ≡ Some o.address
load_address a o h = ap (λ (p : Operation). Some p.address) (same_Some (record { address = a; op = op.Load }) o h)

line_address : (first : Line) (last : Option Reply) (o : Operation) → operation_asked first last ≡ Some o → address_of first ≡ Some o.address
line_address (line.Load a) last o h = load_address a o h
line_address (line.Store a v) last o h = asked_address op.Store a (operand_of v last) o h
line_address (line.Swap a v) last o h = asked_address op.Swap a (operand_of v last) o h
line_address (line.Cas a e n) last o h = cas_address a (operand_of e last) (operand_of n last) o h
line_address (line.Add a v) last o h = asked_address op.Add a (operand_of v last) o h
line_address (line.And a v) last o h = asked_address op.And a (operand_of v last) o h
line_address (line.Or a v) last o h = asked_address op.Or a (operand_of v last) o h
line_address (line.Xor a v) last o h = asked_address op.Xor a (operand_of v last) o h
line_address (line.Max a v) last o h = asked_address op.Max a (operand_of v last) o h
line_address (line.Min a v) last o h = asked_address op.Min a (operand_of v last) o h
line_address line.Fence last o h = cc
line_address (line.Spin a v m) last o h = load_address a o h

pub ready_address : (lines : List Line) (spin : Option OpenSpin) (ahead : List Line) (last : Option Reply) (o : Operation) →
    Each (IsLineIn lines) ahead → IsSpinIn lines spin → ready_operation spin ahead last ≡ Some o → IsAddressIn lines o.address
ready_address lines (Some s) ahead None o each there h = cc
ready_address lines (Some s) ahead (Some reply) o each there h =
    (there.0, there.1, there.2, there.3 ∙ load_address s.address o h)
ready_address lines None [] last o each there h = cc
ready_address lines None (first ∷ rest) last o each there h = (each.0.0, first, each.0.1, line_address first last o h)
