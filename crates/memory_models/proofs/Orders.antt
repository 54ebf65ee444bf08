-- Arcs for what loads read, and for what comes next in a word's order.
use Rattle.std.proofs.Common.{◌≡◌, inl, inr, ℕ, ◌+◌, ◌<◌, Bool, true, false, List, length, refl, sym, subst, arith}
use Rattle.std.specs.Prelude.{◌==◌, ◌&&◌, not, nat_lt}
use Rattle.std.proofs.lemmas.Bool.{cases_eq, eq-eqb, eqb-true, and_from, and_parts, lt-ltb, ltb-true}
use Rattle.rising.specs.declared.edge.Edge.{Edge}
use Rattle.rising.specs.Graph.{RisesOnEdges}
use Rattle.memory_models.specs.declared.kinds.Kind.{Kind}
use Rattle.memory_models.specs.declared.kinds.Kind.TheVariants.{Load, Store, Atomic, Fence}
use Rattle.memory_models.specs.declared.kinds.Operation.{Operation}
use Rattle.memory_models.specs.Trace.{is_load, uses_word, operation_at, next_write, source_at}
use Rattle.memory_models.specs.Arcs.{IsReadFrom, IsOverwritten, ExtendsEdges, RisesByWords, reads_at, is_overwritten_at}

pub load_uses : (kind : Kind) → is_load kind ≡ true → uses_word kind ≡ true
load_uses Load e = refl
load_uses Store e = refl
load_uses Atomic e = refl
load_uses Fence e = cc

pub not_true : (b : Bool) → (b ≡ true → ⊥) → not b ≡ true
not_true true f = absurd (f refl)
not_true false f = refl

pub true_not : (b : Bool) → not b ≡ true → b ≡ true → ⊥
true_not true e f = cc
true_not false e f = cc

-- what a load read, where it isn't of its processor before it
pub reads_from : (ops : List Operation) (writes : List ℕ) (x y : ℕ) → IsReadFrom ops writes x y → reads_at ops (source_at ops writes y) y ≡ true
reads_from ops writes x y r =
    subst (λ z. reads_at ops z y ≡ true) (sym r.source)
    (and_from (is_load (operation_at ops y).kind) (not (((operation_at ops x).processor == (operation_at ops y).processor) && nat_lt x y)) r.load
    (not_true (((operation_at ops x).processor == (operation_at ops y).processor) && nat_lt x y) (λ e.
    (let a = and_parts ((operation_at ops x).processor == (operation_at ops y).processor) (nat_lt x y) e in
    r.other (record { processor = eqb-true (operation_at ops x).processor (operation_at ops y).processor a.0; before = ltb-true x y a.1 })))))

pub from_reads : (ops : List Operation) (writes : List ℕ) (y : ℕ) → reads_at ops (source_at ops writes y) y ≡ true
    → IsReadFrom ops writes (source_at ops writes y) y
from_reads ops writes y e =
    let x : ℕ = source_at ops writes y in
    let a = and_parts (is_load (operation_at ops y).kind) (not (((operation_at ops x).processor == (operation_at ops y).processor) && nat_lt x y)) e in
    record {
      load = a.0;
      source = refl;
      other = λ own. true_not (((operation_at ops x).processor == (operation_at ops y).processor) && nat_lt x y) a.1
          (and_from ((operation_at ops x).processor == (operation_at ops y).processor) (nat_lt x y)
          (eq-eqb (operation_at ops x).processor (operation_at ops y).processor own.processor) (lt-ltb x y own.before));
    }

-- the write that comes next
pub overwritten_from : (ops : List Operation) (writes : List ℕ) (x y : ℕ) → IsOverwritten ops writes x y
    → is_overwritten_at ops writes (next_write ops writes x) x ≡ true
overwritten_from ops writes x y o =
    subst (λ z. is_overwritten_at ops writes z x ≡ true) (sym o.next)
    (and_from (uses_word (operation_at ops x).kind) (nat_lt ((operation_at ops x).place + 1) (length writes) && ((operation_at ops y).word == (operation_at ops x).word)) o.uses
    (and_from (nat_lt ((operation_at ops x).place + 1) (length writes)) ((operation_at ops y).word == (operation_at ops x).word)
    (lt-ltb ((operation_at ops x).place + 1) (length writes) o.more) (eq-eqb (operation_at ops y).word (operation_at ops x).word o.word)))

pub from_overwritten : (ops : List Operation) (writes : List ℕ) (x : ℕ) → is_overwritten_at ops writes (next_write ops writes x) x ≡ true
    → IsOverwritten ops writes x (next_write ops writes x)
from_overwritten ops writes x e =
    let y : ℕ = next_write ops writes x in
    let a = and_parts (uses_word (operation_at ops x).kind) (nat_lt ((operation_at ops x).place + 1) (length writes) && ((operation_at ops y).word == (operation_at ops x).word)) e in
    let b = and_parts (nat_lt ((operation_at ops x).place + 1) (length writes)) ((operation_at ops y).word == (operation_at ops x).word) a.1 in
    record {
      uses = a.0;
      more = ltb-true ((operation_at ops x).place + 1) (length writes) b.0;
      next = refl;
      word = eqb-true (operation_at ops y).word (operation_at ops x).word b.1;
    }

-- one operation more
pub words_more : (ops : List Operation) (writes : List ℕ) (y : ℕ) (old mid new : List Edge) → RisesByWords ops writes y old
    → ExtendsEdges old mid → ExtendsEdges mid new
    → ((number : ℕ → ℕ) → RisesOnEdges mid number → reads_at ops (source_at ops writes y) y ≡ true → number (source_at ops writes y) < number y)
    → ((number : ℕ → ℕ) → RisesOnEdges new number → is_overwritten_at ops writes (next_write ops writes y) y ≡ true → number y < number (next_write ops writes y))
    → RisesByWords ops writes (y + 1) new
words_more ops writes y old mid new before first second reads next number up x z low high =
    λ is. elim is [
      | inl r ↦ elim (cases_eq z y) [
        | inl same ↦ (let at : IsReadFrom ops writes x y = subst (λ w. IsReadFrom ops writes x w) same r.1 in
            let one : number (source_at ops writes y) < number y = reads number (second number up) (reads_from ops writes x y at) in
            let two : number x < number y = subst (λ w. number w < number y) at.source one in
            subst (λ w. number x < number w) (sym same) two)
        | inr other ↦ (let less = r.0 in before number (first number (second number up)) x z low high (inl (omega arith, r.1)))
      ]
      | inr o ↦ elim (cases_eq x y) [
        | inl same ↦ (let at : IsOverwritten ops writes y z = subst (λ w. IsOverwritten ops writes w z) same o.1 in
            let one : number y < number (next_write ops writes y) = next number up (overwritten_from ops writes y z at) in
            let two : number y < number z = subst (λ w. number y < number w) at.next one in
            subst (λ w. number w < number z) (sym same) two)
        | inr other ↦ (let less = o.0 in before number (first number (second number up)) x z low high (inr (omega arith, o.1)))
      ]
    ]
