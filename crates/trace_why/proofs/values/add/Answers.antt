use Rattle.std.proofs.Common.{◌≡◌, ◌∙◌, ◌<◌, ◌≤◌, ◌==◌, ℕ, List, [], ◌∷◌, ◌++◌, false, length, get_or, ap, subst, sym, arith}
use Rattle.std.specs.Prelude.{Contains}
use Rattle.std.proofs.lemmas.Bool.Decides.{nat_tests}
use Rattle.trace_text.proofs.Allowing.{pushed}
use Rattle.trace_why.specs.Values.{AreApartAnd}
use Rattle.trace_why.proofs.Trying.{IsOrNew, pushed_only, one_too_many}
use Rattle.trace_why.proofs.values.add.Goals as goal

differs : (x y : ℕ) → (x == y) ≡ false → x ≡ y → ⊥
differs x y f e = grind (arith, nat_tests, f, e)

-- a value that no element is
absent : (xs ys : List ℕ) (value : ℕ) → xs ≡ ys → ((k d : ℕ) → 0 ≤ k → k < length xs → (get_or xs k d == value) ≡ false)
    → Contains ys value → ⊥
absent xs ys value same none h =
    let at = ap (λ (zs : List ℕ). get_or zs h.0 value) same in
    let sized = ap (λ (zs : List ℕ). length zs) same in
    let low = h.1 in
    differs (get_or xs h.0 value) value (none h.0 value (omega arith) (omega arith)) (at ∙ h.2)

pub returns-then-len-bound-clause-untold : goal.returns-then-len-bound-clause-untold
returns-then-len-bound-clause-untold g c =
    one_too_many c.args.values.now.items c.args.value c.args.bound c.requires
    (absent c.deref.result.now c.args.values.now.items c.args.value c.deref.ensures.value c.if-contains.ensures.cases) (omega arith)

pub returns-clause-only : goal.returns-clause-only
returns-clause-only g c =
    let grown : c.push.new.self.items ≡ c.args.values.now.items ++ c.args.value ∷ [] =
    pushed c.push.result c.is_err.result c.push.new.self.items _ c.args.values.now.items c.is_err.ensures.value c.if-is_err.false c.push.ensures.items in
    subst (λ (xs : List ℕ). AreApartAnd (IsOrNew c.args.values.now.items c.args.value) xs) (sym grown)
    (pushed_only c.args.values.now.items c.args.value c.requires
    (absent c.deref.result.now c.args.values.now.items c.args.value c.deref.ensures.value c.if-contains.ensures.cases))
