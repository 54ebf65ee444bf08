-- Choices that are looked at, and those whose flags are down.
use Rattle.std.proofs.Common.{◌≡◌, ℕ, ◌+◌, ◌-◌, ◌<◌, ◌≤◌, Bool, true, false, List, Vec, length, take, drop, get_or, sym, ◌∙◌, ap, subst, arith}
use Rattle.std.proofs.lemmas.List.{get_or-take, get_or-drop, get_or_default, length-take-le, length-drop}
use Rattle.std.proofs.lemmas.List.Concat.{get_or-flat_map}
use Rattle.std.proofs.lemmas.List.Folds.{length-flat_map-take}
use Rattle.network_machine.specs.declared.moves.Move.{Move}
use Rattle.network_machine.specs.Machine.{NetworkMachineSpec, Prevents}
use Rattle.network_rounds.specs.Flags.{choices_of, AreIdleWhereDown}

-- a choice whose flag is down is idle
pub idle_at : (m : NetworkMachineSpec) (moves : List Move) (up : List Bool) (k : ℕ) (d : Move) (e : Bool) → length up ≡ length moves → k < length moves
    → get_or up k e ≡ false → AreIdleWhereDown m moves up → Prevents m (get_or moves k d)
idle_at m moves up k d e many low down idle = idle k d low (get_or_default up k true e (omega (arith, many, low)) ∙ down)

-- a part of choices that are idle where their flags are down
pub idle_part : (m : NetworkMachineSpec) (moves : List Move) (up : List Bool) (from count : ℕ) → length up ≡ length moves → from + count ≤ length moves
    → AreIdleWhereDown m moves up → AreIdleWhereDown m (take count (drop from moves)) (take count (drop from up))
idle_part m moves up from count many room idle k d low down =
    (let size = length-take-le count (drop from moves) (let rest = length-drop from moves in omega (arith, rest, room)) in
    let inside : k < count = omega (arith, low, size) in
    subst (Prevents m) (sym (get_or-take count (drop from moves) k d inside ∙ get_or-drop from moves k d))
    (idle (from + k) d (omega (arith, inside, room)) (sym (get_or-take count (drop from up) k true inside ∙ get_or-drop from up k true) ∙ down)))

-- one group of them
pub idle_group : {A : Type 0} (m : NetworkMachineSpec) (groups : List (Vec Move A)) (up : List Bool) (k from end : ℕ) (group : Vec Move A) (shown : List Move)
    → length up ≡ length (choices_of groups) → k < length groups → group ≡ get_or groups k group → shown ≡ group.items → from ≡ length
    (choices_of (take k groups))
    → end ≡ from + length shown → AreIdleWhereDown m (choices_of groups) up → AreIdleWhereDown m shown (take (end - from) (drop from up))
idle_group {A} m groups up k from end group shown many low is shows at ends idle j d in' down =
    (let f : Vec Move A → List Move = λ v. v.items in
    let here : shown ≡ f (get_or groups k group) = shows ∙ ap f is in
    let size : length shown ≡ length (f (get_or groups k group)) = ap length here in
    let room = length-flat_map-take f groups k group low in
    let inside : j < end - from = omega (arith, in', ends) in
    let stands : get_or (choices_of groups) (length (choices_of (take k groups)) + j) d ≡ get_or (f (get_or groups k group)) j d =
    get_or-flat_map f groups k j group d low (omega (arith, in', size)) in
    subst (Prevents m) (ap (λ (n : ℕ). get_or (choices_of groups) (n + j) d) at ∙ (stands ∙ ap (λ (ms : List Move). get_or ms j d) (sym here)))
    (idle (from + j) d (omega (arith, in', size, room, at)) (sym (get_or-take (end - from) (drop from up) j true inside ∙ get_or-drop from up j true) ∙ down)))

-- the choices of a group stand within all choices
pub choices_within : {A : Type 0} (groups : List (Vec Move A)) (k from len : ℕ) (group : Vec Move A) → k < length groups → group ≡ get_or groups k group
    → from ≡ length (choices_of (take k groups)) → len ≡ group.len → from + len ≤ length (choices_of groups)
choices_within {A} groups k from len group low is at size =
    (let f : Vec Move A → List Move = λ v. v.items in
    let room = length-flat_map-take f groups k group low in
    let same = ap (λ (v : Vec Move A). length v.items) is in
    let long = group.ok.0 in
    omega (arith, room, same, long, at, size))

-- one group, read twice
pub one_length : {A : Type 0} (groups : List (Vec Move A)) (k : ℕ) (v w : Vec Move A) → k < length groups → v ≡ get_or groups k v → w ≡ get_or groups k w
    → v.len ≡ length w.items
one_length {A} groups k v w low is same = ap (λ (u : Vec Move A). u.len) (is ∙ (get_or_default groups k v w low ∙ sym same)) ∙ w.ok.0
