-- When no refusal stands.
use Rattle.std.proofs.Common.{◌≡◌, ℕ, ◌<◌, ◌≤◌, refl, arith, Bool, true, false}
use Rattle.std.specs.Prelude.{◌==◌, if◌then◌else◌, Some, None, nat_lt}
use Rattle.std.proofs.lemmas.Bool.{eqb-true, eqb-false, eq-eqb, ltb-false, le-ltb}
use Rattle.packet.specs.declared.assembler.Kind.TheVariants.{NoFlit, NotBegun, Operation, Zeros, Tail, Inside}

-- what the five tests of a flit at the start come to, where none of the first four and the last alone is met
start-tests : (a b c d e : Bool)
    → (if a then Some NoFlit else if b then Some NotBegun else if c then Some Operation else if d then Some Zeros else if e then None else Some Tail) ≡ None
    → (a ≡ false) × (b ≡ false) × (c ≡ false) × (d ≡ false) × (e ≡ true)
start-tests true b c d e h = cc
start-tests false true c d e h = cc
start-tests false false true d e h = cc
start-tests false false false true e h = cc
start-tests false false false false true h = (refl, refl, refl, refl, refl)
start-tests false false false false false h = cc

inside-tests : (a b d e : Bool) → (if a then Some NoFlit else if b then Some Inside else if d then Some Zeros else if e then None else Some Tail) ≡ None
    → (a ≡ false) × (b ≡ false) × (d ≡ false) × (e ≡ true)
inside-tests true b d e h = cc
inside-tests false true d e h = cc
inside-tests false false true e h = cc
inside-tests false false false true h = (refl, refl, refl, refl)
inside-tests false false false false h = cc

pub record PassesStart (flit_bit head_bit operation zeros tail wanted : ℕ) : Type 0 where
  pub flit : flit_bit ≡ 1
  pub begun : head_bit ≡ 1
  pub known : operation ≤ 9
  pub empty : zeros ≡ 0
  pub last : tail ≡ wanted

pub record PassesInside (flit_bit head_bit zeros tail wanted : ℕ) : Type 0 where
  pub flit : flit_bit ≡ 1
  pub inside : head_bit ≡ 0
  pub empty : zeros ≡ 0
  pub last : tail ≡ wanted

bit_set : (a : ℕ) → a < 2 → (a == 0) ≡ false → a ≡ 1
bit_set a small e = omega (arith, eqb-false a 0 e)

bit_clear : (a : ℕ) → a < 2 → (a == 1) ≡ false → a ≡ 0
bit_clear a small e = omega (arith, eqb-false a 1 e)

pub PassesStart-none : (a b o z t w : ℕ) → a < 2 → b < 2
    → (if a == 0 then Some NoFlit else if b == 0 then Some NotBegun else if nat_lt 9 o then Some Operation else if nat_lt 0 z then Some Zeros else if t == w
    then None else Some Tail) ≡ None → PassesStart a b o z t w
PassesStart-none a b o z t w sa sb h =
    let e = start-tests (a == 0) (b == 0) (nat_lt 9 o) (nat_lt 0 z) (t == w) h in
    record {
      flit = bit_set a sa e.0;
      begun = bit_set b sb e.1;
      known = ltb-false 9 o e.2;
      empty = omega (arith, ltb-false 0 z e.3);
      last = eqb-true t w e.4;
    }

pub PassesInside-none : (a b z t w : ℕ) → a < 2 → b < 2
    → (if a == 0 then Some NoFlit else if b == 1 then Some Inside else if nat_lt 0 z then Some Zeros else if t == w then None else Some Tail) ≡ None
    → PassesInside a b z t w
PassesInside-none a b z t w sa sb h =
    let e = inside-tests (a == 0) (b == 1) (nat_lt 0 z) (t == w) h in
    record {
      flit = bit_set a sa e.0;
      inside = bit_clear b sb e.1;
      empty = omega (arith, ltb-false 0 z e.2);
      last = eqb-true t w e.3;
    }

pub none-start : (a b o z t w : ℕ) → PassesStart a b o z t w
    → (if a == 0 then Some NoFlit else if b == 0 then Some NotBegun else if nat_lt 9 o then Some Operation else if nat_lt 0 z then Some Zeros else if t == w
    then None else Some Tail) ≡ None
none-start a b o z t w p = rw (p.flit, p.begun, le-ltb 9 o p.known, p.empty, eq-eqb t w p.last) refl

pub none-inside : (a b z t w : ℕ) → PassesInside a b z t w
    → (if a == 0 then Some NoFlit else if b == 1 then Some Inside else if nat_lt 0 z then Some Zeros else if t == w then None else Some Tail) ≡ None
none-inside a b z t w p = rw (p.flit, p.inside, p.empty, eq-eqb t w p.last) refl
