-- For each word the next operation that a rule speaks of, from one operation on.
use Rattle.std.proofs.Common.{◌≡◌, ◌⊎◌, inl, inr, ℕ, ◌+◌, ◌<◌, ◌≤◌, Bool, true, false, if◌then◌else◌, get_or, List, length, set, replicate, refl, sym, ◌∙◌, ap, subst, arith}
use Rattle.std.specs.Prelude.{◌==◌, ◌&&◌, ◌||◌, not, nat_lt, slice_index}
use Rattle.std.proofs.lemmas.Bool.{cases_eq, eq-eqb, eqb-true, and_from, and_parts, lt-ltb, ltb-true}
use Rattle.std.proofs.lemmas.List.{length-set, length-replicate, get_or-replicate, get_or-set_same, get_or-set_other, get_or_read}
use Rattle.rising.specs.declared.edge.Edge.{Edge}
use Rattle.rising.specs.Graph.{RisesOnEdges}
use Rattle.memory_models.specs.declared.kinds.Kind.{Kind}
use Rattle.memory_models.specs.declared.kinds.Kind.TheVariants.{Load, Store, Atomic, Fence}
use Rattle.memory_models.specs.declared.kinds.Operation.{Operation}
use Rattle.memory_models.specs.declared.kinds.Rule.{Rule}
use Rattle.memory_models.specs.declared.kinds.Why.TheVariants.{Program}
use Rattle.memory_models.specs.Trace.{has, operation_at, rule_key, IsOwn, IsMemoryTrace}
use Rattle.memory_models.specs.Order.{Applies}
use Rattle.memory_models.specs.Arcs.{IsRule, IsChained, AreArcs, ExtendsEdges, pushed_if}
use Rattle.memory_models.specs.Following.{IsChainedOn, is_chained, comes_at}
use Rattle.memory_models.proofs.Pushed.{if_extends, if_rises, if_arcs}
use Rattle.memory_models.proofs.Stepped.{keeps_by, key_low}

-- the first operation from x on that a rule speaks of, with this key
pub record IsFirst (rule : Rule) (ops : List Operation) (key x b : ℕ) : Type 0 where
  pub either : (b < length ops) ⊎ (b ≡ length ops)
  pub here : b < length ops → (x ≤ b) × (has rule.to (operation_at ops b).kind ≡ true) × (rule_key rule (operation_at ops b) ≡ key)
  pub first : (y : ℕ) → x ≤ y → y < length ops → has rule.to (operation_at ops y).kind ≡ true → rule_key rule (operation_at ops y) ≡ key → b ≤ y

pub record AreFirsts (rule : Rule) (ops : List Operation) (words x : ℕ) (nexts : List ℕ) : Type 0 where
  pub end : x ≤ length ops
  pub size : length nexts ≡ words
  pub each : (key : ℕ) → key < words → IsFirst rule ops key x (slice_index nexts key)

pub none_first : (rule : Rule) (ops : List Operation) (words count : ℕ) (nexts : List ℕ) → count ≡ length ops → nexts ≡ replicate words count
    → AreFirsts rule ops words count nexts
none_first rule ops words count nexts many e = record {
  end = omega arith;
  size = ap length e ∙ length-replicate words count;
  each = λ key low. (let at : slice_index nexts key ≡ count = ap (λ z. slice_index z key) e ∙ get_or-replicate words key count 0 low in record {
    either = inr (at ∙ many);
    here = λ l. absurd (omega arith);
    first = λ y l m. absurd (omega arith);
  });
}

-- one operation more that is of the rule's second kinds, or isn't
firsts_more : (rule : Rule) (ops : List Operation) (words x : ℕ) (nexts : List ℕ) (is : Bool) → AreFirsts rule ops words (x + 1) nexts
    → rule_key rule (operation_at ops x) < words → is ≡ has rule.to (operation_at ops x).kind
    → AreFirsts rule ops words x
    (set nexts (rule_key rule (operation_at ops x)) (if is then x else slice_index nexts (rule_key rule (operation_at ops x))))
firsts_more rule ops words x nexts true are inside is =
    let own : ℕ = rule_key rule (operation_at ops x) in
    let size = are.size in
    let end = are.end in
    record {
      end = omega arith;
      size = length-set nexts own x ∙ are.size;
      each = λ key l. elim (cases_eq key own) [
        | inl same ↦ (let e : slice_index (set nexts own x) key ≡ x = ap (slice_index (set nexts own x)) same ∙ get_or-set_same nexts own x 0 (omega arith) in
            let now : IsFirst rule ops key x x = record {
              either = inl (omega arith);
              here = λ m. (omega arith, sym is, sym same);
              first = λ y m n f k. m;
            } in
            subst (λ z. IsFirst rule ops key x z) (sym e) now)
        | inr other ↦ (let e : slice_index (set nexts own x) key ≡ slice_index nexts key = get_or-set_other nexts own key x 0 other in
            let old = are.each key l in
            let now : IsFirst rule ops key x (slice_index nexts key) = record {
              either = old.either;
              here = λ m. (let h = old.here m in let low = h.0 in (omega arith, h.1, h.2));
              first = λ y m n f k. elim (cases_eq y x) [
                | inl one ↦ absurd (other (sym k ∙ ap (λ z. rule_key rule (operation_at ops z)) one))
                | inr two ↦ old.first y (omega arith) n f k
              ];
            } in
            subst (λ z. IsFirst rule ops key x z) (sym e) now)
      ];
    }
firsts_more rule ops words x nexts false are inside is =
    let own : ℕ = rule_key rule (operation_at ops x) in
    let size = are.size in
    let end = are.end in
    record {
      end = omega arith;
      size = length-set nexts own (slice_index nexts own) ∙ are.size;
      each = λ key l. (let e : slice_index (set nexts own (slice_index nexts own)) key ≡ slice_index nexts key =
          elim (cases_eq key own) [
            | inl same ↦ ap (slice_index (set nexts own (slice_index nexts own))) same
                ∙ (get_or-set_same nexts own (slice_index nexts own) 0 (omega arith) ∙ ap (slice_index nexts) (sym same))
            | inr other ↦ get_or-set_other nexts own key (slice_index nexts own) 0 other
          ] in
          let old = are.each key l in
          let now : IsFirst rule ops key x (slice_index nexts key) = record {
            either = old.either;
            here = λ m. (let h = old.here m in let low = h.0 in (omega arith, h.1, h.2));
            first = λ y m n f k. elim (cases_eq y x) [
              | inl one ↦ (let bad : true ≡ false = sym f ∙ (ap (λ z. has rule.to (operation_at ops z).kind) one ∙ sym is) in cc)
              | inr two ↦ old.first y (omega arith) n f k
            ];
          } in
          subst (λ z. IsFirst rule ops key x z) (sym e) now);
    }

-- what rises as a rule asks, from one operation on
abbrev pub RisesFrom : Rule → List Operation → ℕ → List Edge → Type 0
RisesFrom rule ops left edges =
    (number : ℕ → ℕ) → RisesOnEdges edges number → (x y : ℕ) → left ≤ x → y < length ops → Applies rule ops x y → number x < number y

-- the next one is of the same processor where a later one is
own_here : (words : ℕ) (ops : List Operation) (writes : List ℕ) → IsMemoryTrace words ops writes → (x b y : ℕ) → y < length ops → IsOwn ops x y
    → x < b → b ≤ y → (operation_at ops b).processor ≡ (operation_at ops x).processor
own_here words ops writes t x b y low own first second =
    let p = t.processors x b (omega arith) (omega arith) in
    let q = t.processors b y second low in
    let e = own.processor in
    omega arith

rule_from : (words : ℕ) (rule : Rule) (ops : List Operation) (writes : List ℕ) (x b : ℕ) (old new : List Edge) → IsMemoryTrace words ops writes
    → IsChainedOn rule → IsFirst rule ops (rule_key rule (operation_at ops x)) (x + 1) b → RisesFrom rule ops (x + 1) old → ExtendsEdges old new
    → ((number : ℕ → ℕ) → RisesOnEdges new number → comes_at rule ops x b ≡ true → number x < number b)
    → RisesFrom rule ops x new
rule_from words rule ops writes x b old new t chained first before more rises number up z y l low a =
    elim (cases_eq z x) [
      | inl same ↦ subst (λ w. number w < number y) (sym same) (from_x number up y low (subst (λ w. Applies rule ops w y) same a))
      | inr other ↦ before number (more number up) z y (omega arith) low a
    ]
  where
    from_x : (number : ℕ → ℕ) → RisesOnEdges new number → (y : ℕ) → y < length ops → Applies rule ops x y → number x < number y
    from_x number up y low a =
        let own = a.own.before in
        let le = first.first y (omega arith) low a.to (sym a.key) in
        let b_low : b < length ops = omega arith in
        let here = first.here b_low in
        let behind = here.0 in
        let same = own_here words ops writes t x b y low a.own (omega arith) le in
        let comes : comes_at rule ops x b ≡ true =
        and_from (nat_lt b (length ops)) (has rule.from (operation_at ops x).kind && ((operation_at ops b).processor == (operation_at ops x).processor)) (lt-ltb b (length ops) b_low)
        (and_from (has rule.from (operation_at ops x).kind) ((operation_at ops b).processor == (operation_at ops x).processor) a.from
        (eq-eqb (operation_at ops b).processor (operation_at ops x).processor same)) in
        let up_to : number x < number b = rises number up comes in
        elim (cases_eq b y) [
          | inl one ↦ subst (λ w. number x < number w) one up_to
          | inr apart ↦ (let step : number b < number y = before number (more number up) b y behind low (record {
            own = record { processor = same ∙ a.own.processor; before = omega arith };
            from = chained (operation_at ops b).kind here.1;
            to = a.to;
            key = here.2 ∙ a.key;
          }) in
              omega (arith, up_to, step))
        ]

comes_applies : (rule : Rule) (ops : List Operation) (x b : ℕ) → IsFirst rule ops (rule_key rule (operation_at ops x)) (x + 1) b
    → comes_at rule ops x b ≡ true → Applies rule ops x b
comes_applies rule ops x b first e =
    let a = and_parts (nat_lt b (length ops)) (has rule.from (operation_at ops x).kind && ((operation_at ops b).processor == (operation_at ops x).processor)) e in
    let c = and_parts (has rule.from (operation_at ops x).kind) ((operation_at ops b).processor == (operation_at ops x).processor) a.1 in
    let here = first.here (ltb-true b (length ops) a.0) in
    let behind = here.0 in
    record {
      own = record { processor = sym (eqb-true (operation_at ops b).processor (operation_at ops x).processor c.1); before = omega arith };
      from = c.0;
      to = here.1;
      key = sym here.2;
    }

-- what the pass back has made of one operation
pub record HasFollowed (rules : List Rule) (rule : Rule) (words : ℕ) (ops : List Operation) (writes : List ℕ) (x : ℕ) (old new : List Edge)
    (nexts : List ℕ) : Type 0 where
  pub arcs : AreArcs rules ops writes new
  pub more : ExtendsEdges old new
  pub rises : RisesFrom rule ops x new
  pub firsts : AreFirsts rule ops words x nexts

pub follow_step : (rules : List Rule) (rule : Rule) (words : ℕ) (ops : List Operation) (writes : List ℕ) (left x key next v : ℕ) (wanted is : Bool)
    (nexts : List ℕ) (old new : List Edge) → IsMemoryTrace words ops writes → IsChainedOn rule → IsRule rules rule → left ≡ x + 1
    → AreFirsts rule ops words left nexts → AreArcs rules ops writes old → RisesFrom rule ops left old
    → key ≡ rule_key rule (operation_at ops x) → next ≡ get_or nexts key next → wanted ≡ comes_at rule ops x next
    → new ≡ pushed_if wanted (record { from = x; to = next }) old → is ≡ has rule.to (operation_at ops x).kind
    → v ≡ (if is then x else next)
    → HasFollowed rules rule words ops writes x old new (set nexts key v)
follow_step rules rule words ops writes left x key next v wanted is nexts old new t chained r step are_left arcs rises_left key_is next_is wanted_is new_is is_is v_is =
    let are : AreFirsts rule ops words (x + 1) nexts = subst (λ z. AreFirsts rule ops words z nexts) step are_left in
    let rises : RisesFrom rule ops (x + 1) old = subst (λ z. RisesFrom rule ops z old) step rises_left in
    let end = are.end in
    let low : x < length ops = omega arith in
    let key_l : rule_key rule (operation_at ops x) < words = key_low rule words ops writes x t low in
    let size = are.size in
    let at : slice_index nexts (rule_key rule (operation_at ops x)) ≡ next =
    ap (slice_index nexts) (sym key_is) ∙ sym (get_or_read nexts key next (omega (arith, key_l, key_is)) next_is 0) in
    let one : IsFirst rule ops (rule_key rule (operation_at ops x)) (x + 1) next =
    subst (λ z. IsFirst rule ops (rule_key rule (operation_at ops x)) (x + 1) z) at (are.each (rule_key rule (operation_at ops x)) key_l) in
    record {
      arcs = if_arcs rules ops writes wanted (record { from = x; to = next }) old new new_is arcs (λ e.
          (let come : comes_at rule ops x next ≡ true = sym wanted_is ∙ e in
          let a = comes_applies rule ops x next one come in
          let inside = and_parts (nat_lt next (length ops)) (has rule.from (operation_at ops x).kind && ((operation_at ops next).processor == (operation_at ops x).processor)) come in
          record { from = low; to = ltb-true next (length ops) inside.0; why = Program; is = keeps_by rules rule ops x next r a }));
      more = if_extends wanted (record { from = x; to = next }) old new new_is;
      rises = rule_from words rule ops writes x next old new t chained one rises (if_extends wanted (record { from = x; to = next }) old new new_is)
          (λ number up e. if_rises wanted (record { from = x; to = next }) old new new_is number up (wanted_is ∙ e));
      firsts = subst (λ z. AreFirsts rule ops words x (set nexts z v)) (sym key_is)
          (subst (λ z. AreFirsts rule ops words x (set nexts (rule_key rule (operation_at ops x)) z)) (ap (λ z. if is then x else z) at ∙ sym v_is)
          (firsts_more rule ops words x nexts is are key_l is_is));
    }

-- the test of a rule's shape
or_is : (a b : Bool) → (not a || b) ≡ true → a ≡ true → b ≡ true
or_is true b e f = e
or_is false b e f = cc

pub chained_is : (rule : Rule) → is_chained rule ≡ true → IsChained rule
chained_is rule e kind is =
    let f = rule.from in
    let t = rule.to in
    let a = and_parts (not f.load || t.load) ((not f.store || t.store) && ((not f.atomic || t.atomic) && (not f.fence || t.fence))) e in
    let b = and_parts (not f.store || t.store) ((not f.atomic || t.atomic) && (not f.fence || t.fence)) a.1 in
    let c = and_parts (not f.atomic || t.atomic) (not f.fence || t.fence) b.1 in
    by kind is a.0 b.0 c.0 c.1
  where
    by : (kind : Kind) → has rule.from kind ≡ true → (not rule.from.load || rule.to.load) ≡ true → (not rule.from.store || rule.to.store) ≡ true
        → (not rule.from.atomic || rule.to.atomic) ≡ true → (not rule.from.fence || rule.to.fence) ≡ true → has rule.to kind ≡ true
    by Load is a b c d = or_is rule.from.load rule.to.load a is
    by Store is a b c d = or_is rule.from.store rule.to.store b is
    by Atomic is a b c d = or_is rule.from.atomic rule.to.atomic c is
    by Fence is a b c d = or_is rule.from.fence rule.to.fence d is

is_or : (a b : Bool) → (a ≡ true → b ≡ true) → (not a || b) ≡ true
is_or true b f = f refl
is_or false b f = refl

pub is_chained_at : (rule : Rule) → IsChained rule → is_chained rule ≡ true
is_chained_at rule chained =
    let f = rule.from in
    let t = rule.to in
    and_from (not f.load || t.load) ((not f.store || t.store) && ((not f.atomic || t.atomic) && (not f.fence || t.fence))) (is_or f.load t.load (chained Load))
    (and_from (not f.store || t.store) ((not f.atomic || t.atomic) && (not f.fence || t.fence)) (is_or f.store t.store (chained Store))
    (and_from (not f.atomic || t.atomic) (not f.fence || t.fence) (is_or f.atomic t.atomic (chained Atomic)) (is_or f.fence t.fence (chained Fence))))

pub other_shape : (rule : Rule) (b : Bool) → b ≡ is_chained rule → b ≡ false → IsChained rule ⊎ IsChainedOn rule → IsChainedOn rule
other_shape rule b e f (inl chained) = let bad : false ≡ true = sym f ∙ (e ∙ is_chained_at rule chained) in cc
other_shape rule b e f (inr on) = on
