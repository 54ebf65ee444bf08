-- Turns that stand behind bounds that go on along programs keep preserved program order.
use Rattle.std.proofs.Common.{◌≡◌, ◌⊎◌, inl, inr, ℕ, zero, suc, ◌+◌, ◌<◌, ◌≤◌, true, List, [], length, sym, ◌∙◌, ap, subst, arith}
use Rattle.std.specs.Prelude.{slice_index}
use Rattle.std.proofs.lemmas.Bool.{cases_eq}
use Rattle.memory_models.specs.declared.kinds.Kind.{Kind}
use Rattle.memory_models.specs.declared.kinds.Kind.TheVariants.{Load, Store, Atomic, Fence}
use Rattle.memory_models.specs.declared.kinds.Operation.{Operation}
use Rattle.memory_models.specs.Trace.{is_write, uses_word, operation_at, IsOwn, IsMemoryTrace}
use Rattle.memory_models.specs.Models.{coherent}
use Rattle.memory_models.specs.Order.{IsMemoryOrder}
use Rattle.weak_models.specs.declared.bounds.Bounds.{Bounds}
use Rattle.weak_models.specs.declared.bounds.ByKind.{ByKind}
use Rattle.weak_models.specs.declared.notes.Dependency.{Dependency}
use Rattle.weak_models.specs.declared.notes.DependencyKind.{DependencyKind}
use Rattle.weak_models.specs.declared.notes.DependencyKind.TheVariants.{Address, Data, Control}
use Rattle.weak_models.specs.declared.notes.FenceOrder.{FenceOrder}
use Rattle.weak_models.specs.declared.notes.Note.{Note}
use Rattle.weak_models.specs.declared.verdict.PreservedRule.{PreservedRule}
use Rattle.weak_models.specs.declared.verdict.PreservedRule.TheVariants as by
use Rattle.weak_models.specs.Notes.{note_at, orders, dependency_at, DependsWithin}
use Rattle.weak_models.specs.Preserved.{read_at, KeepsBy, IsPreserved, IsThroughStore, IsAtomicSource, IsFenced}
use Rattle.weak_models.specs.Bounds.{bound_of, AreUnder, AreAtMost, IsBelowAll, IsBelowWrites, IsAhead, IsFenceAhead, AreBehind, bounds_at}
use Rattle.weak_models.specs.Bounds.{AreKept, AreChained, AreDependenciesKept, IsDependencyKept, IsBehindInput}
use Rattle.weak_models.proofs.OnWord.{same_word_store, different_reads}

under_kind : (low high : ByKind) (k : Kind) → AreUnder low high → bound_of low k ≤ bound_of high k
under_kind low high Load u = u.load
under_kind low high Store u = u.store
under_kind low high Atomic u = u.atomic
under_kind low high Fence u = omega arith

most_kind : (bounds : ByKind) (turn : ℕ) (k : Kind) → AreAtMost bounds turn → bound_of bounds k ≤ turn
most_kind bounds turn Load u = u.load
most_kind bounds turn Store u = u.store
most_kind bounds turn Atomic u = u.atomic
most_kind bounds turn Fence u = omega arith

below_kind : (turn : ℕ) (bounds : ByKind) (k : Kind) → uses_word k ≡ true → IsBelowAll turn bounds → turn < bound_of bounds k
below_kind turn bounds Load uses u = u.load
below_kind turn bounds Store uses u = u.store
below_kind turn bounds Atomic uses u = u.atomic
below_kind turn bounds Fence uses u = absurd cc

below_write : (turn : ℕ) (bounds : ByKind) (k : Kind) → is_write k ≡ true → IsBelowWrites turn bounds → turn < bound_of bounds k
below_write turn bounds Load is u = absurd cc
below_write turn bounds Store is u = u.store
below_write turn bounds Atomic is u = u.atomic
below_write turn bounds Fence is u = absurd cc

ahead_kind : (fence : FenceOrder) (first : Kind) (bound : ℕ) (ahead : ByKind) (k : Kind) → uses_word k ≡ true → IsAhead fence first bound ahead
    → orders fence first k ≡ true → bound ≤ bound_of ahead k
ahead_kind fence first bound ahead Load uses a is = a.load is
ahead_kind fence first bound ahead Store uses a is = a.store is
ahead_kind fence first bound ahead Atomic uses a is = a.atomic is
ahead_kind fence first bound ahead Fence uses a is = absurd cc

fence_kinds : (fence : FenceOrder) (seen ahead : ByKind) (k m : Kind) → uses_word k ≡ true → uses_word m ≡ true → IsFenceAhead fence seen ahead
    → orders fence k m ≡ true → bound_of seen k ≤ bound_of ahead m
fence_kinds fence seen ahead Load m uses second a is = ahead_kind fence Load seen.load ahead m second a.load is
fence_kinds fence seen ahead Store m uses second a is = ahead_kind fence Store seen.store ahead m second a.store is
fence_kinds fence seen ahead Atomic m uses second a is = ahead_kind fence Atomic seen.atomic ahead m second a.atomic is
fence_kinds fence seen ahead Fence m uses second a is = absurd cc

-- what doesn't fall from one number to the next doesn't fall
climb : (f : ℕ → ℕ) (x y : ℕ) → x ≤ y → ((k : ℕ) → x ≤ k → k < y → f k ≤ f (k + 1)) → f x ≤ f y
climb f x zero low step =
    let same : x ≡ 0 = omega (arith, low) in
    subst (λ z. f x ≤ f z) same (omega arith)
climb f x (suc y) low step = elim (cases_eq x (suc y)) [
  | inl same ↦ subst (λ z. f x ≤ f z) same (omega arith)
  | inr other ↦ (let inside : x ≤ y = omega (arith, low, other) in
      let rest = climb f x y inside (λ k a b. step k a (omega (arith, b))) in
      let last = step y inside (omega arith) in
      let next : suc y ≡ y + 1 = omega arith in
      let same = ap f next in
      omega (arith, rest, last, same))
]

module _ (words : ℕ) (notes : List Note) (dependencies : List Dependency) (ops : List Operation) (writes turns : List ℕ) (bounds : List Bounds)
    (t : IsMemoryTrace words ops writes) (kept : AreKept notes ops writes turns bounds) (chain : AreChained notes ops turns bounds)
    (depend : AreDependenciesKept dependencies ops turns bounds) where
  abbrev turn : ℕ → ℕ
  turn x = slice_index turns x

  abbrev at : ℕ → Bounds
  at x = bounds_at bounds x

  abbrev kind : ℕ → Kind
  kind x = (operation_at ops x).kind

  -- what stands from one operation of a processor to another is of it
  of_one : (x m y : ℕ) → y < length ops → IsOwn ops x y → x ≤ m → m ≤ y → (operation_at ops m).processor ≡ (operation_at ops y).processor
  of_one x m y high own low inside =
      let p = t.processors x m low (omega (arith, high, inside)) in
      let q = t.processors m y inside high in
      let e = own.processor in
      omega (arith, p, q, e)

  -- bounds don't fall along a program
  climbed : (f : Bounds → ℕ) → ((k : Kind) (note : Note) (n : ℕ) (old new : Bounds) → AreBehind k note n old new → f old ≤ f new)
      → (x m y : ℕ) → y < length ops → IsOwn ops x y → x ≤ m → m ≤ y → f (at m) ≤ f (at y)
  climbed f goes x m y high own low inside = climb (λ k. f (at k)) m y inside (λ k from to. (
      let here = of_one x k y high own (omega (arith, low, from)) (omega (arith, to)) in
      let next = of_one x (k + 1) y high own (omega (arith, low, from)) (omega (arith, to)) in
      goes (kind k) (note_at notes k) (turn k) (at k) (at (k + 1)) (chain k (omega (arith, to, high)) (omega (arith, to, high)) (here ∙ sym next))))

  ahead_climbs : (k : Kind) (x m y : ℕ) → y < length ops → IsOwn ops x y → x ≤ m → m ≤ y → bound_of (at m).ahead k ≤ bound_of (at y).ahead k
  ahead_climbs k = climbed (λ b. bound_of b.ahead k) (λ j note n old new a. under_kind old.ahead new.ahead k a.on.ahead)

  seen_climbs : (k : Kind) (x m y : ℕ) → y < length ops → IsOwn ops x y → x ≤ m → m ≤ y → bound_of (at m).seen k ≤ bound_of (at y).seen k
  seen_climbs k = climbed (λ b. bound_of b.seen k) (λ j note n old new a. under_kind old.seen new.seen k a.on.seen)

  rcsc_climbs : (x m y : ℕ) → y < length ops → IsOwn ops x y → x ≤ m → m ≤ y → (at m).rcsc ≤ (at y).rcsc
  rcsc_climbs = climbed (λ b. b.rcsc) (λ j note n old new a. a.on.rcsc)

  -- the bounds behind an operation of a program that isn't the last
  behind : (x m y : ℕ) → y < length ops → IsOwn ops x y → x ≤ m → m < y → AreBehind (kind m) (note_at notes m) (turn m) (at m) (at (m + 1))
  behind x m y high own low inside =
      let here = of_one x m y high own low (omega (arith, inside)) in
      let next = of_one x (m + 1) y high own (omega (arith, low)) (omega (arith, inside)) in
      chain m (omega (arith, inside, high)) (omega (arith, inside, high)) (here ∙ sym next)

  -- what stands below a bound ahead, from some place on, has a lower turn
  below_ahead : (x m y : ℕ) → y < length ops → IsOwn ops x y → uses_word (kind y) ≡ true → x ≤ m → m ≤ y → turn x < bound_of (at m).ahead (kind y) → turn x < turn y
  below_ahead x m y high own uses low inside less =
      let climbs = ahead_climbs (kind y) x m y high own low inside in
      let last = (kept y high uses).behind.ahead in
      omega (arith, less, climbs, last)

  seen_before : (x m y : ℕ) → y < length ops → IsOwn ops x y → uses_word (kind x) ≡ true → x < m → m ≤ y → turn x < bound_of (at m).seen (kind x)
  seen_before x m y high own uses low inside =
      let before = own.before in
      let sees = (behind x x y high own (omega arith) before).sees uses in
      let m_own : IsOwn ops x m = record { processor = own.processor ∙ sym (of_one x m y high own (omega (arith, low)) inside); before = low } in
      let climbs = seen_climbs (kind x) x (x + 1) m (omega (arith, inside, high)) m_own (omega arith) (omega (arith, low)) in
      omega (arith, sees, climbs)

  fenced : (x y : ℕ) → y < length ops → IsOwn ops x y → uses_word (kind x) ≡ true → uses_word (kind y) ≡ true → IsFenced notes ops x y → turn x < turn y
  fenced x y high own first second k =
      let m : ℕ = k.fence in
      let low = k.behind in
      let inside = k.before in
      let seen = seen_before x m y high own first low (omega (arith, inside)) in
      let step = behind x m y high own (omega (arith, low)) inside in
      let over = fence_kinds (note_at notes m).fence (at m).seen (at (m + 1)).ahead (kind x) (kind y) first second (step.fence k.orders.is) k.orders.orders in
      below_ahead x (m + 1) y high own second (omega (arith, low)) (omega (arith, inside)) (omega (arith, seen, over))

  acquired : (x y : ℕ) → y < length ops → IsOwn ops x y → uses_word (kind y) ≡ true → (note_at notes x).acquire ≡ true → turn x < turn y
  acquired x y high own second is =
      let before = own.before in
      let step = behind x x y high own (omega arith) before in
      below_ahead x (x + 1) y high own second (omega arith) (omega (arith, before)) (below_kind (turn x) (at (x + 1)).ahead (kind y) second (step.acquire is))

  released : (x y : ℕ) → y < length ops → IsOwn ops x y → uses_word (kind x) ≡ true → uses_word (kind y) ≡ true → (note_at notes y).release ≡ true → turn x < turn y
  released x y high own first second is =
      let before = own.before in
      let seen = seen_before x y y high own first before (omega arith) in
      let last = most_kind (at y).seen (turn y) (kind x) ((kept y high second).behind.release is) in
      omega (arith, seen, last)

  both_rcsc : (x y : ℕ) → y < length ops → IsOwn ops x y → uses_word (kind y) ≡ true → KeepsBy notes dependencies ops writes x y by.BothRcsc → turn x < turn y
  both_rcsc x y high own second k =
      let before = own.before in
      let step = (behind x x y high own (omega arith) before).annotated k.0 in
      let climbs = rcsc_climbs x (x + 1) y high own (omega arith) (omega (arith, before)) in
      let last = (kept y high second).behind.rcsc k.1 in
      omega (arith, step, climbs, last)

  -- a dependency of a range on an operation, and what is kept of it
  kept_of : (k : DependencyKind) (x low high : ℕ) → x < length ops → high ≤ length ops → (d : DependsWithin dependencies k x low high)
      → IsDependencyKept ops turns bounds (dependency_at dependencies d.which)
  kept_of k x low high inside most d =
      let below = d.within.below in
      let on : (dependency_at dependencies d.which).on ≡ x = d.within.first in
      depend d.which d.listed (omega (arith, on, inside)) (omega (arith, below, most))

  -- the one operation that depends, where the range has no other
  the_one : (k : DependencyKind) (x y : ℕ) → (d : DependsWithin dependencies k x y (y + 1)) → (dependency_at dependencies d.which).operation ≡ y
  the_one k x y d = let above = d.within.above in let below = d.within.below in omega (arith, above, below)

  input_turn : (x y : ℕ) (d : Dependency) → d.on ≡ x → d.operation ≡ y → IsBehindInput turns bounds d → turn x < turn y
  input_turn x y d on is i = subst (λ z. turn z < turn y) on (subst (λ z. turn d.on < turn z) is i.turn)

  input_through : (x y : ℕ) (d : Dependency) → d.on ≡ x → d.operation ≡ y → IsBehindInput turns bounds d → turn x < (at y).through
  input_through x y d on is i = subst (λ z. turn z < (at y).through) on (subst (λ z. turn d.on < (at z).through) is i.through)

  address : (x y : ℕ) → x < length ops → y < length ops → DependsWithin dependencies Address x y (y + 1) → turn x < turn y
  address x y low high d = input_turn x y (dependency_at dependencies d.which) d.within.first (the_one Address x y d)
      ((kept_of Address x y (y + 1) low (omega (arith, high)) d).address d.within.is)

  value : (x y : ℕ) → x < length ops → y < length ops → DependsWithin dependencies Data x y (y + 1) → turn x < turn y
  value x y low high d = input_turn x y (dependency_at dependencies d.which) d.within.first (the_one Data x y d)
      ((kept_of Data x y (y + 1) low (omega (arith, high)) d).value d.within.is)

  through : (x m : ℕ) → x < length ops → m < length ops
      → (DependsWithin dependencies Address x m (m + 1)) ⊎ (DependsWithin dependencies Data x m (m + 1)) → turn x < (at m).through
  through x m low high (inl d) = input_through x m (dependency_at dependencies d.which) d.within.first (the_one Address x m d)
      ((kept_of Address x m (m + 1) low (omega (arith, high)) d).address d.within.is)
  through x m low high (inr d) = input_through x m (dependency_at dependencies d.which) d.within.first (the_one Data x m d)
      ((kept_of Data x m (m + 1) low (omega (arith, high)) d).value d.within.is)

  through_store : (x y : ℕ) → x < length ops → y < length ops → IsOwn ops x y → uses_word (kind y) ≡ true → IsThroughStore dependencies ops writes x y → turn x < turn y
  through_store x y low high own second k =
      let m : ℕ = read_at ops writes y in
      let from = k.behind in
      let to = k.before in
      let below = through x m low (omega (arith, to, high)) k.depends in
      let m_own : IsOwn ops m y = record { processor = of_one x m y high own (omega (arith, from)) (omega (arith, to)); before = to } in
      let last = ((kept y high second).source m_own).through k.load in
      omega (arith, below, last)

  branch : (x y : ℕ) → x < length ops → y < length ops → IsOwn ops x y → uses_word (kind y) ≡ true → is_write (kind y) ≡ true
      → DependsWithin dependencies Control x (x + 1) (y + 1) → turn x < turn y
  branch x y low high own second write d =
      let m : ℕ = (dependency_at dependencies d.which).operation in
      let above = d.within.above in
      let below = d.within.below in
      let b = (kept_of Control x (x + 1) (y + 1) low (omega (arith, high)) d).branch d.within.is in
      let less : turn x < bound_of (at m).ahead (kind y) =
      below_write (turn x) (at m).ahead (kind y) write (subst (λ z. IsBelowWrites (turn z) (at m).ahead) d.within.first b) in
      below_ahead x m y high own second (omega (arith, above)) (omega (arith, below)) less

  behind_address : (x y : ℕ) → x < length ops → y < length ops → IsOwn ops x y → uses_word (kind y) ≡ true → is_write (kind y) ≡ true
      → DependsWithin dependencies Address x (x + 1) y → turn x < turn y
  behind_address x y low high own second write d =
      let m : ℕ = (dependency_at dependencies d.which).operation in
      let above = d.within.above in
      let below = d.within.below in
      let here = of_one x m y high own (omega (arith, above)) (omega (arith, below)) in
      let next = of_one x (m + 1) y high own (omega (arith, above)) (omega (arith, below)) in
      let b = (kept_of Address x (x + 1) y low (omega (arith, high)) d).behind d.within.is (omega (arith, below, high)) (here ∙ sym next) in
      let less : turn x < bound_of (at (m + 1)).ahead (kind y) =
      below_write (turn x) (at (m + 1)).ahead (kind y) write (subst (λ z. IsBelowWrites (turn z) (at (m + 1)).ahead) d.within.first b) in
      below_ahead x (m + 1) y high own second (omega (arith, above)) (omega (arith, below)) less

  atomic_source : (x y : ℕ) → y < length ops → IsOwn ops x y → uses_word (kind y) ≡ true → IsAtomicSource notes ops writes x y → turn x < turn y
  atomic_source x y high own second k = from (read_at ops writes y) k.source own k
    where
      from : (z : ℕ) → z ≡ x → IsOwn ops x y → IsAtomicSource notes ops writes x y → turn x < turn y
      from z e own k = subst (λ v. turn v < turn y) k.source
          (((kept y high second).source (subst (λ v. IsOwn ops v y) (sym k.source) own)).atomic
          (subst (λ v. IsAtomicSource notes ops writes v y) (sym k.source) k))

  module _ (first : ℕ → ℕ) (c : IsMemoryOrder coherent ops writes first) (o : IsMemoryOrder [] ops writes turn) where
    by_rule : (x y : ℕ) (rule : PreservedRule) → x < length ops → y < length ops → IsOwn ops x y → uses_word (kind x) ≡ true → uses_word (kind y) ≡ true
        → KeepsBy notes dependencies ops writes x y rule → turn x < turn y
    by_rule x y by.SameWordStore low high own from to k = same_word_store words ops writes first turn t c o x y low high own from k
    by_rule x y by.DifferentReads low high own from to k = different_reads words ops writes first turn t c o x y low high own
        (λ atomic read. atomic_source x y high own to (record { atomic = inl atomic; load = k.second; word = k.word; source = read })) k
    by_rule x y by.AtomicSource low high own from to k = atomic_source x y high own to k
    by_rule x y by.Fenced low high own from to k = fenced x y high own from to k
    by_rule x y by.Acquire low high own from to k = acquired x y high own to k
    by_rule x y by.Release low high own from to k = released x y high own from to k
    by_rule x y by.BothRcsc low high own from to k = both_rcsc x y high own to k
    by_rule x y by.Paired low high own from to k = (kept y high to).pair x k own.before
    by_rule x y by.AddressDependency low high own from to k = address x y low high k
    by_rule x y by.DataDependency low high own from to k = value x y low high k
    by_rule x y by.ControlDependency low high own from to k = branch x y low high own to k.store k.depends
    by_rule x y by.ThroughStore low high own from to k = through_store x y low high own to k
    by_rule x y by.BehindAddress low high own from to k = behind_address x y low high own to k.store k.depends

    pub keeps_preserved : (x y : ℕ) → y < length ops → IsPreserved notes dependencies ops writes x y → turn x < turn y
    keeps_preserved x y high p =
        let before = p.1.own.before in
        by_rule x y p.0 (omega (arith, before, high)) high p.1.own p.1.first p.1.second p.1.keeps
