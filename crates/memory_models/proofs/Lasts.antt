-- For each word the last operation so far that a rule speaks of.
use Rattle.std.proofs.Common.{◌≡◌, ◌⊎◌, inl, inr, ℕ, ◌+◌, ◌<◌, ◌≤◌, Bool, true, false, if◌then◌else◌, List, length, set, replicate, refl, sym, ◌∙◌, ap, subst, arith}
use Rattle.std.specs.Prelude.{◌==◌, ◌&&◌, nat_lt, slice_index}
use Rattle.std.proofs.lemmas.Bool.{cases_lt, cases_eq, eq-eqb, eqb-true, and_from, and_parts, lt-ltb, ltb-true}
use Rattle.std.proofs.lemmas.List.{length-set, length-replicate, get_or-replicate, get_or-set_same, get_or-set_other}
use Rattle.rising.specs.declared.edge.Edge.{Edge}
use Rattle.rising.specs.Graph.{RisesOnEdges}
use Rattle.memory_models.specs.declared.kinds.Kind.{Kind}
use Rattle.memory_models.specs.declared.kinds.Kind.TheVariants.{Load, Store, Atomic, Fence}
use Rattle.memory_models.specs.declared.kinds.Operation.{Operation}
use Rattle.memory_models.specs.declared.kinds.Rule.{Rule}
use Rattle.memory_models.specs.Trace.{has, is_load, is_write, operation_at, writes_rule, rule_key, IsOwn, IsMemoryTrace}
use Rattle.memory_models.specs.Order.{Applies}
use Rattle.memory_models.specs.Arcs.{IsChained, ExtendsEdges, RisesByRule, RisesOverStale, IsSeen, IsStale, follows_at, is_stale_at}

-- the last operation before y that a rule speaks of, with this key
pub record IsLast (rule : Rule) (ops : List Operation) (key y b : ℕ) : Type 0 where
  pub either : (b < y) ⊎ (b ≡ length ops)
  pub here : b < y → (has rule.from (operation_at ops b).kind ≡ true) × (rule_key rule (operation_at ops b) ≡ key)
  pub last : (x : ℕ) → x < y → has rule.from (operation_at ops x).kind ≡ true → rule_key rule (operation_at ops x) ≡ key → (x ≤ b) × (b < y)

pub record AreLasts (rule : Rule) (ops : List Operation) (words y : ℕ) (lasts : List ℕ) : Type 0 where
  pub size : length lasts ≡ words
  pub each : (key : ℕ) → key < words → IsLast rule ops key y (slice_index lasts key)

pub none_last : (rule : Rule) (ops : List Operation) (words count : ℕ) (lasts : List ℕ) → count ≡ length ops → lasts ≡ replicate words count
    → AreLasts rule ops words 0 lasts
none_last rule ops words count lasts many e = record {
  size = ap length e ∙ length-replicate words count;
  each = λ key low. record {
    either = inr (ap (λ z. slice_index z key) e ∙ (get_or-replicate words key count 0 low ∙ many));
    here = λ l. absurd (omega arith);
    last = λ x l. absurd (omega arith);
  };
}

-- one operation more that is of the rule's first kinds, or isn't
pub lasts_more : (rule : Rule) (ops : List Operation) (words y : ℕ) (lasts : List ℕ) (is : Bool) → AreLasts rule ops words y lasts
    → y < length ops → rule_key rule (operation_at ops y) < words → is ≡ has rule.from (operation_at ops y).kind
    → AreLasts rule ops words (y + 1)
    (set lasts (rule_key rule (operation_at ops y)) (if is then y else slice_index lasts (rule_key rule (operation_at ops y))))
lasts_more rule ops words y lasts true are low inside is =
    let own : ℕ = rule_key rule (operation_at ops y) in
    let size = are.size in
    record {
      size = length-set lasts own y ∙ are.size;
      each = λ key l. elim (cases_eq key own) [
        | inl same ↦ (let e : slice_index (set lasts own y) key ≡ y = ap (slice_index (set lasts own y)) same ∙ get_or-set_same lasts own y 0 (omega arith) in
            let now : IsLast rule ops key (y + 1) y = record {
              either = inl (omega arith);
              here = λ m. (sym is, sym same);
              last = λ x m f k. (omega arith, omega arith);
            } in
            subst (λ z. IsLast rule ops key (y + 1) z) (sym e) now)
        | inr other ↦ (let e : slice_index (set lasts own y) key ≡ slice_index lasts key = get_or-set_other lasts own key y 0 other in
            let old = are.each key l in
            let now : IsLast rule ops key (y + 1) (slice_index lasts key) = record {
              either = elim old.either [ inl m ↦ inl (omega arith) | inr m ↦ inr m ];
              here = λ m. elim old.either [ inl n ↦ old.here n | inr n ↦ absurd (omega arith) ];
              last = λ x m f k. elim (cases_eq x y) [
                | inl one ↦ absurd (other (sym k ∙ ap (λ z. rule_key rule (operation_at ops z)) one))
                | inr two ↦ let o = old.last x (omega arith) f k in let a = o.0 in let b = o.1 in (omega arith, omega arith)
              ];
            } in
            subst (λ z. IsLast rule ops key (y + 1) z) (sym e) now)
      ];
    }
lasts_more rule ops words y lasts false are low inside is =
    let own : ℕ = rule_key rule (operation_at ops y) in
    let size = are.size in
    record {
      size = length-set lasts own (slice_index lasts own) ∙ are.size;
      each = λ key l. (let e : slice_index (set lasts own (slice_index lasts own)) key ≡ slice_index lasts key =
          elim (cases_eq key own) [
            | inl same ↦ ap (slice_index (set lasts own (slice_index lasts own))) same
                ∙ (get_or-set_same lasts own (slice_index lasts own) 0 (omega arith) ∙ ap (slice_index lasts) (sym same))
            | inr other ↦ get_or-set_other lasts own key (slice_index lasts own) 0 other
          ] in
          let old = are.each key l in
          let now : IsLast rule ops key (y + 1) (slice_index lasts key) = record {
            either = elim old.either [ inl m ↦ inl (omega arith) | inr m ↦ inr m ];
            here = λ m. elim old.either [ inl n ↦ old.here n | inr n ↦ absurd (omega arith) ];
            last = λ x m f k. elim (cases_eq x y) [
              | inl one ↦ (let bad : true ≡ false = sym f ∙ (ap (λ z. has rule.from (operation_at ops z).kind) one ∙ sym is) in cc)
              | inr two ↦ let o = old.last x (omega arith) f k in let a = o.0 in let b = o.1 in (omega arith, omega arith)
            ];
          } in
          subst (λ z. IsLast rule ops key (y + 1) z) (sym e) now);
    }

-- the kinds of that rule are those that write
pub from_write : (kind : Kind) → is_write kind ≡ true → has writes_rule.from kind ≡ true
from_write Load e = cc
from_write Store e = refl
from_write Atomic e = refl
from_write Fence e = cc

pub to_write : (kind : Kind) → has writes_rule.from kind ≡ true → is_write kind ≡ true
to_write Load e = cc
to_write Store e = refl
to_write Atomic e = refl
to_write Fence e = cc

-- between two operations of one processor there are only its own
pub own_between : (words : ℕ) (ops : List Operation) (writes : List ℕ) → IsMemoryTrace words ops writes → (x b y : ℕ) → y < length ops → IsOwn ops x y
    → x ≤ b → b < y → (operation_at ops b).processor ≡ (operation_at ops y).processor
own_between words ops writes t x b y low own first second =
    let p = t.processors x b first (omega arith) in
    let q = t.processors b y (omega arith) low in
    let e = own.processor in
    omega arith

-- what a rule asks, with one operation more
pub rule_more : (words : ℕ) (rule : Rule) (ops : List Operation) (writes : List ℕ) (y b : ℕ) (old new : List Edge) → IsMemoryTrace words ops writes
    → IsChained rule → y < length ops → IsLast rule ops (rule_key rule (operation_at ops y)) y b → RisesByRule rule ops y old → ExtendsEdges old new
    → ((number : ℕ → ℕ) → RisesOnEdges new number → follows_at rule ops b y ≡ true → number b < number y)
    → RisesByRule rule ops (y + 1) new
rule_more words rule ops writes y b old new t chained low last before more rises number up x z l a =
    elim (cases_lt z y) [
      | inl less ↦ before number (more number up) x z less a
      | inr high ↦ (let same : z ≡ y = omega arith in
          subst (λ w. number x < number w) (sym same) (to_y number up x (subst (λ w. Applies rule ops x w) same a)))
    ]
  where
    to_y : (number : ℕ → ℕ) → RisesOnEdges new number → (x : ℕ) → Applies rule ops x y → number x < number y
    to_y number up x a =
        let first = a.own.before in
        let l = last.last x first a.from a.key in
        let behind = l.0 in
        let inside = l.1 in
        let here = last.here inside in
        let same = own_between words ops writes t x b y low a.own behind inside in
        let follows : follows_at rule ops b y ≡ true =
        and_from (nat_lt b y) (has rule.to (operation_at ops y).kind && ((operation_at ops b).processor == (operation_at ops y).processor)) (lt-ltb b y inside)
        (and_from (has rule.to (operation_at ops y).kind) ((operation_at ops b).processor == (operation_at ops y).processor) a.to
        (eq-eqb (operation_at ops b).processor (operation_at ops y).processor same)) in
        let up_to : number b < number y = rises number up follows in
        elim (cases_eq x b) [
          | inl one ↦ subst (λ w. number w < number y) (sym one) up_to
          | inr other ↦ (let step : number x < number b = before number (more number up) x b inside (record {
            own = record { processor = a.own.processor ∙ sym same; before = omega arith };
            from = a.from;
            to = chained (operation_at ops b).kind here.0;
            key = a.key ∙ sym here.1;
          }) in
              omega arith)
        ]

-- an edge that follows by a rule is one that the rule keeps
pub follows_applies : (rule : Rule) (ops : List Operation) (y b : ℕ) → IsLast rule ops (rule_key rule (operation_at ops y)) y b
    → follows_at rule ops b y ≡ true → Applies rule ops b y
follows_applies rule ops y b last e =
    let a = and_parts (nat_lt b y) (has rule.to (operation_at ops y).kind && ((operation_at ops b).processor == (operation_at ops y).processor)) e in
    let c = and_parts (has rule.to (operation_at ops y).kind) ((operation_at ops b).processor == (operation_at ops y).processor) a.1 in
    let less : b < y = ltb-true b y a.0 in
    let here = last.here less in
    record {
      own = record { processor = eqb-true (operation_at ops b).processor (operation_at ops y).processor c.1; before = less };
      from = here.0;
      to = c.0;
      key = here.1;
    }

-- what rises over stale loads, with one operation more
pub stale_more : (words : ℕ) (ops : List Operation) (writes : List ℕ) (y b : ℕ) (old new : List Edge) → IsMemoryTrace words ops writes
    → y < length ops → IsLast writes_rule ops (rule_key writes_rule (operation_at ops y)) y b → RisesOverStale ops y old → ExtendsEdges old new
    → ((number : ℕ → ℕ) → RisesOnEdges new number → is_stale_at ops b y ≡ true → number b < number y)
    → RisesOverStale ops (y + 1) new
stale_more words ops writes y b old new t low last before more rises number up w z l load write own word =
    elim (cases_lt z y) [
      | inl less ↦ before number (more number up) w z less load write own word
      | inr high ↦ (let same : z ≡ y = omega arith in
          subst (λ v. IsSeen ops number w v) (sym same)
          (at_y number up w (subst (λ v. is_load (operation_at ops v).kind ≡ true) same load) write (subst (λ v. IsOwn ops w v) same own)
          (subst (λ v. (operation_at ops w).word ≡ (operation_at ops v).word) same word)))
    ]
  where
    at_y : (number : ℕ → ℕ) → RisesOnEdges new number → (w : ℕ) → is_load (operation_at ops y).kind ≡ true → is_write (operation_at ops w).kind ≡ true → IsOwn ops w y
        → (operation_at ops w).word ≡ (operation_at ops y).word → IsSeen ops number w y
    at_y number up w load write own word =
        let l = last.last w own.before (from_write (operation_at ops w).kind write) word in
        let inside = l.1 in
        let here = last.here inside in
        let same = own_between words ops writes t w b y low own l.0 inside in
        record {
          write = b;
          behind = l.0;
          is = to_write (operation_at ops b).kind here.0;
          own = record { processor = same; before = inside };
          word = here.1;
          rises = λ older. rises number up (and_from (nat_lt b y)
              (is_load (operation_at ops y).kind && (((operation_at ops b).processor == (operation_at ops y).processor) && nat_lt (operation_at ops y).place (operation_at ops b).place))
              (lt-ltb b y inside)
              (and_from (is_load (operation_at ops y).kind) (((operation_at ops b).processor == (operation_at ops y).processor) && nat_lt (operation_at ops y).place (operation_at ops b).place) load
              (and_from ((operation_at ops b).processor == (operation_at ops y).processor) (nat_lt (operation_at ops y).place (operation_at ops b).place)
              (eq-eqb (operation_at ops b).processor (operation_at ops y).processor same) (lt-ltb (operation_at ops y).place (operation_at ops b).place older))));
        }

-- an edge onto a stale load has its reason
pub stale_is : (ops : List Operation) (y b : ℕ) → IsLast writes_rule ops (rule_key writes_rule (operation_at ops y)) y b
    → is_stale_at ops b y ≡ true → IsStale ops b y
stale_is ops y b last e =
    let tail : Bool = ((operation_at ops b).processor == (operation_at ops y).processor) && nat_lt (operation_at ops y).place (operation_at ops b).place in
    let a = and_parts (nat_lt b y) (is_load (operation_at ops y).kind && tail) e in
    let c = and_parts (is_load (operation_at ops y).kind) tail a.1 in
    let d = and_parts ((operation_at ops b).processor == (operation_at ops y).processor) (nat_lt (operation_at ops y).place (operation_at ops b).place) c.1 in
    let less : b < y = ltb-true b y a.0 in
    let here = last.here less in
    record {
      load = c.0;
      write = to_write (operation_at ops b).kind here.0;
      own = record { processor = eqb-true (operation_at ops b).processor (operation_at ops y).processor d.0; before = less };
      word = here.1;
      older = ltb-true (operation_at ops y).place (operation_at ops b).place d.1;
    }
