-- Reasons as tests.
use Rattle.std.proofs.Common.{◌≡◌, inl, inr, ℕ, ◌<◌, Bool, true, false, List, length, sym, ◌∙◌}
use Rattle.std.specs.Prelude.{◌==◌, ◌&&◌, not, nat_lt}
use Rattle.std.proofs.lemmas.Bool.{eq-eqb, eqb-true, and_from, and_parts, lt-ltb, ltb-true}
use Rattle.memory_models.specs.declared.kinds.Operation.{Operation}
use Rattle.memory_models.specs.declared.kinds.Rule.{Rule}
use Rattle.memory_models.specs.declared.kinds.Why.{Why}
use Rattle.memory_models.specs.declared.kinds.Why.TheVariants.{Program, Read, Overwritten, Stale}
use Rattle.memory_models.specs.Trace.{has, is_load, is_write, operation_at, rule_at, writes_rule, rule_key, source_at}
use Rattle.memory_models.specs.Order.{Applies, KeepsOrder}
use Rattle.memory_models.specs.Arcs.{IsWhy, IsReadFrom, IsOverwritten, IsStale}
use Rattle.memory_models.specs.Reasons.{applies_at, reads_from_at, is_stale_write_at}
use Rattle.memory_models.proofs.Orders.{not_true, true_not}

pub applies_is : (rule : Rule) (ops : List Operation) (x y : ℕ) → applies_at rule ops x y ≡ true → Applies rule ops x y
applies_is rule ops x y e =
    let p : Bool = (operation_at ops x).processor == (operation_at ops y).processor in
    let f : Bool = has rule.from (operation_at ops x).kind in
    let t : Bool = has rule.to (operation_at ops y).kind in
    let k : Bool = rule_key rule (operation_at ops x) == rule_key rule (operation_at ops y) in
    let a = and_parts p (nat_lt x y && (f && (t && k))) e in
    let b = and_parts (nat_lt x y) (f && (t && k)) a.1 in
    let c = and_parts f (t && k) b.1 in
    let d = and_parts t k c.1 in
    record {
      own = record { processor = eqb-true (operation_at ops x).processor (operation_at ops y).processor a.0; before = ltb-true x y b.0 };
      from = c.0;
      to = d.0;
      key = eqb-true (rule_key rule (operation_at ops x)) (rule_key rule (operation_at ops y)) d.1;
    }

pub is_applies : (rule : Rule) (ops : List Operation) (x y : ℕ) → Applies rule ops x y → applies_at rule ops x y ≡ true
is_applies rule ops x y a =
    let p : Bool = (operation_at ops x).processor == (operation_at ops y).processor in
    let f : Bool = has rule.from (operation_at ops x).kind in
    let t : Bool = has rule.to (operation_at ops y).kind in
    let k : Bool = rule_key rule (operation_at ops x) == rule_key rule (operation_at ops y) in
    and_from p (nat_lt x y && (f && (t && k))) (eq-eqb (operation_at ops x).processor (operation_at ops y).processor a.own.processor)
    (and_from (nat_lt x y) (f && (t && k)) (lt-ltb x y a.own.before)
    (and_from f (t && k) a.from
    (and_from t k a.to (eq-eqb (rule_key rule (operation_at ops x)) (rule_key rule (operation_at ops y)) a.key))))

-- no rule so far keeps them
abbrev pub NoneApplies : List Rule → List Operation → ℕ → ℕ → ℕ → Type 0
NoneApplies rules ops n x y = (k : ℕ) → k < n → applies_at (rule_at rules k) ops x y ≡ false

pub none_keeps : (rules : List Rule) (ops : List Operation) (x y : ℕ) → NoneApplies rules ops (length rules) x y
    → applies_at writes_rule ops x y ≡ false → KeepsOrder rules ops x y → ⊥
none_keeps rules ops x y none other (inl k) = let bad : true ≡ false = sym (is_applies (rule_at rules k.0) ops x y k.2) ∙ none k.0 k.1 in cc
none_keeps rules ops x y none other (inr a) = let bad : true ≡ false = sym (is_applies writes_rule ops x y a) ∙ other in cc

pub reads_is : (ops : List Operation) (writes : List ℕ) (x y : ℕ) → reads_from_at ops writes x y ≡ true → IsReadFrom ops writes x y
reads_is ops writes x y e =
    let own : Bool = ((operation_at ops x).processor == (operation_at ops y).processor) && nat_lt x y in
    let a = and_parts (source_at ops writes y == x) (is_load (operation_at ops y).kind && not own) e in
    let b = and_parts (is_load (operation_at ops y).kind) (not own) a.1 in
    record {
      load = b.0;
      source = eqb-true (source_at ops writes y) x a.0;
      other = λ o. true_not own b.1 (and_from ((operation_at ops x).processor == (operation_at ops y).processor) (nat_lt x y)
          (eq-eqb (operation_at ops x).processor (operation_at ops y).processor o.processor) (lt-ltb x y o.before));
    }

is_reads : (ops : List Operation) (writes : List ℕ) (x y : ℕ) → IsReadFrom ops writes x y → reads_from_at ops writes x y ≡ true
is_reads ops writes x y r =
    let own : Bool = ((operation_at ops x).processor == (operation_at ops y).processor) && nat_lt x y in
    and_from (source_at ops writes y == x) (is_load (operation_at ops y).kind && not own) (eq-eqb (source_at ops writes y) x r.source)
    (and_from (is_load (operation_at ops y).kind) (not own) r.load (not_true own (λ e.
    (let a = and_parts ((operation_at ops x).processor == (operation_at ops y).processor) (nat_lt x y) e in
    r.other (record { processor = eqb-true (operation_at ops x).processor (operation_at ops y).processor a.0; before = ltb-true x y a.1 })))))

pub stale_is_at : (ops : List Operation) (x y : ℕ) → is_stale_write_at ops x y ≡ true → IsStale ops x y
stale_is_at ops x y e =
    let l : Bool = is_load (operation_at ops y).kind in
    let w : Bool = is_write (operation_at ops x).kind in
    let p : Bool = (operation_at ops x).processor == (operation_at ops y).processor in
    let q : Bool = (operation_at ops x).word == (operation_at ops y).word in
    let o : Bool = nat_lt (operation_at ops y).place (operation_at ops x).place in
    let a = and_parts l (w && (p && (nat_lt x y && (q && o)))) e in
    let b = and_parts w (p && (nat_lt x y && (q && o))) a.1 in
    let c = and_parts p (nat_lt x y && (q && o)) b.1 in
    let d = and_parts (nat_lt x y) (q && o) c.1 in
    let f = and_parts q o d.1 in
    record {
      load = a.0;
      write = b.0;
      own = record { processor = eqb-true (operation_at ops x).processor (operation_at ops y).processor c.0; before = ltb-true x y d.0 };
      word = eqb-true (operation_at ops x).word (operation_at ops y).word f.0;
      older = ltb-true (operation_at ops y).place (operation_at ops x).place f.1;
    }

is_stale : (ops : List Operation) (x y : ℕ) → IsStale ops x y → is_stale_write_at ops x y ≡ true
is_stale ops x y s =
    let l : Bool = is_load (operation_at ops y).kind in
    let w : Bool = is_write (operation_at ops x).kind in
    let p : Bool = (operation_at ops x).processor == (operation_at ops y).processor in
    let q : Bool = (operation_at ops x).word == (operation_at ops y).word in
    let o : Bool = nat_lt (operation_at ops y).place (operation_at ops x).place in
    and_from l (w && (p && (nat_lt x y && (q && o)))) s.load
    (and_from w (p && (nat_lt x y && (q && o))) s.write
    (and_from p (nat_lt x y && (q && o)) (eq-eqb (operation_at ops x).processor (operation_at ops y).processor s.own.processor)
    (and_from (nat_lt x y) (q && o) (lt-ltb x y s.own.before)
    (and_from q o (eq-eqb (operation_at ops x).word (operation_at ops y).word s.word) (lt-ltb (operation_at ops y).place (operation_at ops x).place s.older)))))

-- where no other reason holds, the last one does
pub overwritten_left : (rules : List Rule) (ops : List Operation) (writes : List ℕ) (x y : ℕ) (why : Why) → IsWhy rules ops writes x y why
    → (KeepsOrder rules ops x y → ⊥) → reads_from_at ops writes x y ≡ false → is_stale_write_at ops x y ≡ false → IsOverwritten ops writes x y
overwritten_left rules ops writes x y Program is kept reads stale = absurd (kept is)
overwritten_left rules ops writes x y Read is kept reads stale = let bad : true ≡ false = sym (is_reads ops writes x y is) ∙ reads in cc
overwritten_left rules ops writes x y Overwritten is kept reads stale = is
overwritten_left rules ops writes x y Stale is kept reads stale = let bad : true ≡ false = sym (is_stale ops x y is) ∙ stale in cc
