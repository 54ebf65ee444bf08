-- What is so where a line is taken.
use Rattle.std.proofs.Common.{◌≡◌, ◌⊎◌, inl, inr, ℕ, ◌<◌, ◌==◌, Bool, subst, true, false, refl, arith}
use Rattle.std.specs.Prelude.{Result, Ok, Err, option_map, nat_lt, not, if◌then◌else◌, Option, Some, None, ok_or}
use Rattle.std.proofs.lemmas.Bool.Decides.{nat_tests}
use Rattle.lexer.specs.Outcome.{◌>>=◌}
use Rattle.trace_lines.specs.declared.reason.LineReason.{LineReason}
use Rattle.trace_lines.specs.Head.{HeadSpec, processor_read}
use Rattle.trace_lines.specs.Reasons.{unless_refused}

-- a line is taken, and leaves this
abbrev pub Leaves : {A R : Type 0} → Result A R → A → Type 0
Leaves m a = m ≡ Ok a

-- what is left is one thing
pub one_ok : {A R : Type 0} (a b : A) → Leaves {R = R} (Ok a) b → a ≡ b
one_ok a b h = cc

pub bind_ok : {A B R : Type 0} (m : Result A R) (f : A → Result B R) (y : B) → (m >>= f) ≡ Ok y
    → (x : A) × (m ≡ Ok x) × (f x ≡ Ok y)
bind_ok (Ok x) f y h = (x, refl, h)
bind_ok (Err e) f y h = absurd (cc)

pub else_ok : {A R : Type 0} (b : Bool) (e : R) (m : Result A R) (y : A) → (if b then Err e else m) ≡ Ok y
    → (b ≡ false) × (m ≡ Ok y)
else_ok true e m y h = absurd (cc)
else_ok false e m y h = (refl, h)

pub then_ok : {A R : Type 0} (b : Bool) (e : R) (m : Result A R) (y : A) → (if b then m else Err e) ≡ Ok y
    → (b ≡ true) × (m ≡ Ok y)
then_ok true e m y h = (refl, h)
then_ok false e m y h = absurd (cc)

pub if_ok : {A R : Type 0} (b : Bool) (m n : Result A R) (y : A) → (if b then m else n) ≡ Ok y
    → ((b ≡ true) × (m ≡ Ok y)) ⊎ ((b ≡ false) × (n ≡ Ok y))
if_ok true m n y h = inl (refl, h)
if_ok false m n y h = inr (refl, h)

pub or_ok : {A R : Type 0} (o : Option A) (e : R) (y : A) → ok_or o e ≡ Ok y → o ≡ Some y
or_ok (Some x) e y h = cc
or_ok None e y h = absurd (cc)

pub unless_ok : {A R : Type 0} (o : Option R) (m : Result A R) (y : A) → unless_refused o m ≡ Ok y → (o ≡ None) × (m ≡ Ok y)
unless_ok (Some e) m y h = absurd (cc)
unless_ok None m y h = (refl, h)

-- a check that is passed, before others
pub passed : {R : Type 0} (b : Bool) (e : R) (o : Option R) → (if b then Some e else o) ≡ None → (b ≡ false) × (o ≡ None)
passed true e o h = absurd (cc)
passed false e o h = (refl, h)

pub lt_true : (a b : ℕ) → nat_lt a b ≡ true → a < b
lt_true a b h = grind (arith, nat_tests, h)

pub not_true : (b : Bool) → not b ≡ false → b ≡ true
not_true true h = refl
not_true false h = absurd (cc)

pub none_mapped : {A B : Type 0} (f : A → B) (o : Option A) → option_map f o ≡ None → o ≡ None
none_mapped f None h = refl
none_mapped f (Some x) h = absurd (cc)

-- a processor is below 4096
pub low_processor : (h : HeadSpec) (p q : ℕ) → Leaves (processor_read h p) q → q < 4096
low_processor h p q is =
    let given = else_ok {R = LineReason} (h.words == 0) _ _ q is in
    let low = then_ok (nat_lt p 4096) _ _ q given.1 in
    subst (λ (n : ℕ). n < 4096) (one_ok p q low.1) (lt_true p 4096 low.0)
