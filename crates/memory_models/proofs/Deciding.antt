-- Whether turns are an order of a model, by computation: for worked examples.
use Rattle.std.proofs.Common.{◌≡◌, ◌⊎◌, inl, inr, ℕ, zero, suc, ◌<◌, ◌≤◌, Bool, true, false, List, length, subst, arith}
use Rattle.std.specs.Prelude.{◌==◌, ◌&&◌, ◌||◌, not, nat_lt}
use Rattle.std.proofs.lemmas.Bool.{cases_lt, eq-eqb, eqb-true, and_from, and_parts, lt-ltb, ltb-true, or_cases}
use Rattle.memory_models.specs.declared.kinds.Operation.{Operation}
use Rattle.memory_models.specs.declared.kinds.Rule.{Rule}
use Rattle.memory_models.specs.Trace.{is_load, is_write, operation_at, rule_at, writes_rule, source_at, IsOwn}
use Rattle.memory_models.specs.Order.{KeepsOrder, IsMemoryOrder}
use Rattle.memory_models.specs.Reasons.{applies_at}
use Rattle.memory_models.proofs.Orders.{true_not}
use Rattle.memory_models.proofs.Tested.{is_applies}

-- whether all numbers below n are such, and all pairs of them
abbrev pub each : ℕ → (ℕ → Bool) → Bool
each zero p = true
each (suc n) p = each n p && p n

abbrev pub each_pair : ℕ → (ℕ → ℕ → Bool) → Bool
each_pair n p = each n (λ x. each n (p x))

last_or : (n : ℕ) (p : ℕ → Bool) (x : ℕ) → x < suc n → p n ≡ true → (x < n → p x ≡ true) → (x < n) ⊎ (n ≤ x) → p x ≡ true
last_or n p x low at below (inl less) = below less
last_or n p x low at below (inr more) = let same : n ≡ x = omega (arith, low, more) in subst (λ z. p z ≡ true) same at

each_is : (n : ℕ) (p : ℕ → Bool) → each n p ≡ true → (x : ℕ) → x < n → p x ≡ true
each_is zero p e x low = absurd (omega (arith, low))
each_is (suc n) p e x low =
    let a = and_parts (each n p) (p n) e in
    last_or n p x low a.1 (each_is n p a.0 x) (cases_lt x n)

pair_is : (n : ℕ) (p : ℕ → ℕ → Bool) → each_pair n p ≡ true → (x y : ℕ) → x < n → y < n → p x y ≡ true
pair_is n p e x y i j = each_is n (p x) (each_is n (λ z. each n (p z)) e x i) y j

-- one holds wherever the other does
abbrev pub implies : Bool → Bool → Bool
implies a b = not a || b

implied : (a b : Bool) → implies a b ≡ true → a ≡ true → b ≡ true
implied true b e t = e
implied false b e t = cc

-- whether an operation is of the same processor as another, and before it
abbrev pub is_own_at : List Operation → ℕ → ℕ → Bool
is_own_at ops x y = ((operation_at ops x).processor == (operation_at ops y).processor) && nat_lt x y

own_is : (ops : List Operation) (x y : ℕ) → is_own_at ops x y ≡ true → IsOwn ops x y
own_is ops x y e =
    let a = and_parts ((operation_at ops x).processor == (operation_at ops y).processor) (nat_lt x y) e in
    record { processor = eqb-true (operation_at ops x).processor (operation_at ops y).processor a.0; before = ltb-true x y a.1 }

is_own : (ops : List Operation) (x y : ℕ) → IsOwn ops x y → is_own_at ops x y ≡ true
is_own ops x y o = and_from ((operation_at ops x).processor == (operation_at ops y).processor) (nat_lt x y)
    (eq-eqb (operation_at ops x).processor (operation_at ops y).processor o.processor) (lt-ltb x y o.before)

-- whether the second is a write behind the place of the first on its word
abbrev pub is_later_at : List Operation → ℕ → ℕ → Bool
is_later_at ops x y =
    is_write (operation_at ops y).kind
    && (((operation_at ops x).word == (operation_at ops y).word)
    && nat_lt (operation_at ops x).place (operation_at ops y).place)

is_later : (ops : List Operation) (x y : ℕ) → is_write (operation_at ops y).kind ≡ true
    → (operation_at ops x).word ≡ (operation_at ops y).word → (operation_at ops x).place < (operation_at ops y).place
    → is_later_at ops x y ≡ true
is_later ops x y w e l =
    let s : Bool = (operation_at ops x).word == (operation_at ops y).word in
    let b : Bool = nat_lt (operation_at ops x).place (operation_at ops y).place in
    and_from (is_write (operation_at ops y).kind) (s && b) w
    (and_from s b (eq-eqb (operation_at ops x).word (operation_at ops y).word e)
    (lt-ltb (operation_at ops x).place (operation_at ops y).place l))

-- what is asked of an order, of each pair of operations
abbrev pub apart_at : (ℕ → ℕ) → ℕ → ℕ → Bool
apart_at turn x y = implies (turn x == turn y) (x == y)

abbrev pub rule_at_pair : List Rule → List Operation → (ℕ → ℕ) → ℕ → ℕ → Bool
rule_at_pair rules ops turn x y =
    each (length rules) (λ k. implies (applies_at (rule_at rules k) ops x y) (nat_lt (turn x) (turn y)))
    && implies (applies_at writes_rule ops x y) (nat_lt (turn x) (turn y))

abbrev pub written_at : List Operation → (ℕ → ℕ) → ℕ → ℕ → Bool
written_at ops turn x y =
    implies (is_write (operation_at ops x).kind && is_later_at ops x y) (nat_lt (turn x) (turn y))

abbrev pub sourced_at : List Operation → List ℕ → (ℕ → ℕ) → ℕ → Bool
sourced_at ops writes turn x =
    implies (is_load (operation_at ops x).kind)
    (nat_lt (turn (source_at ops writes x)) (turn x) || is_own_at ops (source_at ops writes x) x)

abbrev pub newest_at : List Operation → (ℕ → ℕ) → ℕ → ℕ → Bool
newest_at ops turn x w =
    implies (is_load (operation_at ops x).kind && is_later_at ops x w)
    (nat_lt (turn x) (turn w) && not (is_own_at ops w x))

-- and of all of them
abbrev pub is_order_at : List Rule → List Operation → List ℕ → (ℕ → ℕ) → Bool
is_order_at rules ops writes turn =
    each_pair (length ops) (apart_at turn)
    && (each_pair (length ops) (rule_at_pair rules ops turn)
    && (each_pair (length ops) (written_at ops turn)
    && (each (length ops) (sourced_at ops writes turn)
    && each_pair (length ops) (newest_at ops turn))))

keeps_rises : (rules : List Rule) (ops : List Operation) (turn : ℕ → ℕ) (x y : ℕ) → rule_at_pair rules ops turn x y ≡ true
    → KeepsOrder rules ops x y → turn x < turn y
keeps_rises rules ops turn x y e (inl k) =
    let less : Bool = nat_lt (turn x) (turn y) in
    let p : ℕ → Bool = λ j. implies (applies_at (rule_at rules j) ops x y) less in
    let a = and_parts (each (length rules) p) (implies (applies_at writes_rule ops x y) less) e in
    ltb-true (turn x) (turn y) (implied (applies_at (rule_at rules k.0) ops x y) less (each_is (length rules) p a.0 k.0 k.1)
    (is_applies (rule_at rules k.0) ops x y k.2))
keeps_rises rules ops turn x y e (inr w) =
    let less : Bool = nat_lt (turn x) (turn y) in
    let p : ℕ → Bool = λ j. implies (applies_at (rule_at rules j) ops x y) less in
    let a = and_parts (each (length rules) p) (implies (applies_at writes_rule ops x y) less) e in
    ltb-true (turn x) (turn y) (implied (applies_at writes_rule ops x y) less a.1 (is_applies writes_rule ops x y w))

before_or_own : (ops : List Operation) (turn : ℕ → ℕ) (s x : ℕ)
    → (nat_lt (turn s) (turn x) ≡ true) ⊎ (is_own_at ops s x ≡ true) → (turn s < turn x) ⊎ IsOwn ops s x
before_or_own ops turn s x (inl e) = inl (ltb-true (turn s) (turn x) e)
before_or_own ops turn s x (inr e) = inr (own_is ops s x e)

kept_by : (rules : List Rule) (ops : List Operation) (x y : ℕ) → KeepsOrder rules ops x y → x < y
kept_by rules ops x y (inl k) = k.2.own.before
kept_by rules ops x y (inr w) = w.own.before

pub order_is : (rules : List Rule) (ops : List Operation) (writes : List ℕ) (turn : ℕ → ℕ) → is_order_at rules ops writes turn ≡ true
    → IsMemoryOrder rules ops writes turn
order_is rules ops writes turn e =
    let n : ℕ = length ops in
    let p1 : Bool = each_pair n (apart_at turn) in
    let p2 : Bool = each_pair n (rule_at_pair rules ops turn) in
    let p3 : Bool = each_pair n (written_at ops turn) in
    let p4 : Bool = each n (sourced_at ops writes turn) in
    let p5 : Bool = each_pair n (newest_at ops turn) in
    let a = and_parts p1 (p2 && (p3 && (p4 && p5))) e in
    let b = and_parts p2 (p3 && (p4 && p5)) a.1 in
    let c = and_parts p3 (p4 && p5) b.1 in
    let d = and_parts p4 p5 c.1 in
    record {
      apart = λ x y i j same. eqb-true x y (implied (turn x == turn y) (x == y) (pair_is n (apart_at turn) a.0 x y i j)
          (eq-eqb (turn x) (turn y) same));
      program = λ x y j keeps. (let before : x < y = kept_by rules ops x y keeps in
          let i : x < n = omega (arith, before, j) in
          keeps_rises rules ops turn x y (pair_is n (rule_at_pair rules ops turn) b.0 x y i j) keeps);
      word_order = λ x y i j wx wy one less. (let later = is_later ops x y wy one.word less in
          ltb-true (turn x) (turn y) (implied (is_write (operation_at ops x).kind && is_later_at ops x y) (nat_lt (turn x) (turn y))
          (pair_is n (written_at ops turn) c.0 x y i j) (and_from (is_write (operation_at ops x).kind) (is_later_at ops x y) wx later)));
      source = λ x i load. (let s : ℕ = source_at ops writes x in
          before_or_own ops turn s x (or_cases (nat_lt (turn s) (turn x)) (is_own_at ops s x)
          (implied (is_load (operation_at ops x).kind) (nat_lt (turn s) (turn x) || is_own_at ops s x)
          (each_is n (sourced_at ops writes turn) d.0 x i) load)));
      newest = λ x w i j load write one less. (let later = is_later ops x w write one.word less in
          let both = and_parts (nat_lt (turn x) (turn w)) (not (is_own_at ops w x))
          (implied (is_load (operation_at ops x).kind && is_later_at ops x w) (nat_lt (turn x) (turn w) && not (is_own_at ops w x))
          (pair_is n (newest_at ops turn) d.1 x w i j) (and_from (is_load (operation_at ops x).kind) (is_later_at ops x w) load later)) in
          (ltb-true (turn x) (turn w) both.0, λ o. true_not (is_own_at ops w x) both.1 (is_own ops w x o)));
    }
