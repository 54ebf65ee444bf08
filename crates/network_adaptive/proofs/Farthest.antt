-- How many channels packets go over from each channel on, by the numbers of a search.
use Rattle.std.proofs.Common.{◌≡◌, ◌≢◌, ◌⊎◌, inl, inr, ⊎_elim, ℕ, suc, ◌+◌, ◌<◌, ◌≤◌, true, List, length, set, refl, sym, ◌∙◌, ap, subst, arith}
use Rattle.std.specs.Prelude.{slice_index}
use Rattle.std.proofs.lemmas.Bool.{cases_eq, cases_lt}
use Rattle.std.proofs.lemmas.List.{get_or-set_same, get_or-set_other, length-set}
use Rattle.rising.specs.Graph.{Digraph, RisesAlong}
use Rattle.rising.specs.Search.{LeadsWithin}
use Rattle.rising.specs.Found.{IsPermutationBelow}
use Rattle.network_adaptive.specs.Longest.{IsOrderByNumber, IsFarthest, AreFarthest}

index_same : (xs : List ℕ) (i a : ℕ) → i < length xs → slice_index (set xs i a) i ≡ a
index_same xs i a low = get_or-set_same xs i a 0 low

index_other : (xs : List ℕ) (i j a : ℕ) → j ≢ i → slice_index (set xs i a) j ≡ slice_index xs j
index_other xs i j a apart = get_or-set_other xs i j a 0 apart

-- the nodes below x stand at their numbers
pub record IsOrderSo (numbers order : List ℕ) (x : ℕ) : Type 0 where
  pub size : length order ≡ length numbers
  pub each : (z : ℕ) → z < x → slice_index order (slice_index numbers z) ≡ z
  pub back : (m : ℕ) → m < length numbers → slice_index order m < length numbers → slice_index numbers (slice_index order m) ≡ m

pub order_more : (numbers order : List ℕ) (x m : ℕ) → m ≡ suc x → x < length numbers → IsPermutationBelow (length numbers) numbers
    → IsOrderSo numbers order x → IsOrderSo numbers (set order (slice_index numbers x) x) m
order_more numbers order x m e low p o =
    let place : ℕ = slice_index numbers x in
    let here = p.low x low in
    let size = o.size in
    record {
      size = length-set order place x ∙ o.size;
      each = λ z l. elim (cases_lt z x) [
        | inl less ↦ index_other order place (slice_index numbers z) x (λ same. (let is = p.apart z x (omega arith) low same in omega arith)) ∙ o.each z less
        | inr high ↦ (let is : x ≡ z = omega arith in
            subst (λ v. slice_index (set order place x) (slice_index numbers v) ≡ v) is (index_same order place x (omega arith)))
      ];
      back = λ k l in_range. elim (cases_eq k place) [
        | inl is ↦ (ap (slice_index numbers) (ap (slice_index (set order place x)) is ∙ index_same order place x (omega arith)) ∙ sym is)
        | inr apart ↦ (let old = index_other order place k x apart in
            ap (slice_index numbers) old ∙ o.back k l (subst (λ v. v < length numbers) old in_range))
      ];
    }

pub order_end : (numbers order : List ℕ) (x : ℕ) → x ≡ length numbers → IsOrderSo numbers order x → IsOrderByNumber numbers order
order_end numbers order x e o = record { size = o.size; each = λ z l. o.each z (omega arith); back = o.back }

-- what is behind a node in the columns so far
pub record IsFarSo (g : Digraph) (far : ℕ → ℕ) (x k most : ℕ) : Type 0 where
  pub above : (i : ℕ) → i < k → g.leads x i ≡ true → far (g.after x i) ≤ most
  pub some : (most ≡ 0) ⊎ ((i : ℕ) × (i < g.columns) × (g.leads x i ≡ true) × (most ≡ far (g.after x i)))

module _ (g : Digraph) (far : ℕ → ℕ) (x : ℕ) where
  pub far_begin : IsFarSo g far x 0 0
  far_begin = record { above = λ i l. absurd (omega arith); some = inl refl }

  pub far_skip : (k m most : ℕ) → m ≡ suc k → (g.leads x k ≡ true → far (g.after x k) ≤ most) → IsFarSo g far x k most → IsFarSo g far x m most
  far_skip k m most e here s = record {
    above = λ i l leads. elim (cases_lt i k) [
      | inl low ↦ s.above i low leads
      | inr high ↦ (let same : k ≡ i = omega arith in
          subst (λ z. g.leads x z ≡ true → far (g.after x z) ≤ most) same here leads)
    ];
    some = s.some;
  }

  pub far_take : (k m most next : ℕ) → m ≡ suc k → k < g.columns → g.leads x k ≡ true → far (g.after x k) ≡ next → most < next
      → IsFarSo g far x k most → IsFarSo g far x m next
  far_take k m most next e low leads is more s = record {
    above = λ i l on. elim (cases_lt i k) [
      | inl less ↦ (let before = s.above i less on in omega arith)
      | inr high ↦ (let same : k ≡ i = omega arith in
          let le : next ≤ next = omega arith in
          subst (λ z. far (g.after x z) ≤ next) same (subst (λ z. z ≤ next) (sym is) le))
    ];
    some = inr (k, low, leads, sym is);
  }

  pub far_end : (k most : ℕ) → k ≡ g.columns → IsFarSo g far x k most → IsFarthest g far x (most + 1)
  far_end k most e s = record {
    above = λ i l leads. (let before = s.above i (omega arith) leads in omega arith);
    some = ⊎_elim
        (λ (none : most ≡ 0). inl (let one : most + 1 ≡ 1 = omega arith in one))
        (λ (w : (i : ℕ) × (i < g.columns) × (g.leads x i ≡ true) × (most ≡ far (g.after x i))).
        inr (w.0, w.1, w.2, ap (λ z. z + 1) w.3))
        s.some;
  }

-- the nodes whose numbers are not below `left` are done
pub record AreFarSo (g : Digraph) (numbers : ℕ → ℕ) (far : List ℕ) (left : ℕ) : Type 0 where
  pub size : length far ≡ g.nodes
  pub bound : left ≤ g.nodes
  pub each : (x : ℕ) → x < g.nodes → left ≤ numbers x → IsFarthest g (slice_index far) x (slice_index far x)
  pub low : (x : ℕ) → x < g.nodes → left ≤ numbers x → slice_index far x + numbers x ≤ g.nodes

module _ (g : Digraph) (numbers : List ℕ) (p : IsPermutationBelow g.nodes numbers) (up : RisesAlong g (slice_index numbers)) (within : LeadsWithin g) where
  abbrev number : ℕ → ℕ
  number = slice_index numbers

  pub so_begin : (far : List ℕ) → length far ≡ g.nodes → AreFarSo g number far g.nodes
  so_begin far size = record {
    size = size;
    bound = omega arith;
    each = λ x low high. (let less = p.low x low in absurd (omega arith));
    low = λ x low high. (let less = p.low x low in absurd (omega arith));
  }

  -- what is behind the next node is done
  pub behind_low : (far : List ℕ) (left m x : ℕ) → left ≡ suc m → x < g.nodes → number x ≡ m → AreFarSo g number far left
      → (k : ℕ) → k < g.columns → g.leads x k ≡ true → slice_index far (g.after x k) < g.nodes
  behind_low far left m x e low here s k end leads =
      let rises = up x k low end leads in
      let inside = within x k end leads in
      let done = s.low (g.after x k) inside (omega arith) in
      omega arith

  -- a number that is written elsewhere changes nothing
  apart_still : (far : List ℕ) (x w y most : ℕ) → ((k : ℕ) → k < g.columns → g.leads y k ≡ true → g.after y k ≢ x) → IsFarthest g (slice_index far) y most
      → IsFarthest g (slice_index (set far x w)) y most
  apart_still far x w y most apart f = record {
    above = λ k end leads. subst (λ z. z < most) (sym (index_other far x (g.after y k) w (apart k end leads))) (f.above k end leads);
    some = ⊎_elim
        (λ (one : most ≡ 1). inl one)
        (λ (v : (k : ℕ) × (k < g.columns) × (g.leads y k ≡ true) × (most ≡ slice_index far (g.after y k) + 1)).
        inr (v.0, v.1, v.2, v.3 ∙ ap (λ z. z + 1) (sym (index_other far x (g.after y v.0) w (apart v.0 v.1 v.2)))))
        f.some;
  }

  pub so_more : (far : List ℕ) (left m x w : ℕ) → left ≡ suc m → x < g.nodes → number x ≡ m → IsFarthest g (slice_index far) x w
      → AreFarSo g number far left → AreFarSo g number (set far x w) m
  so_more far left m x w e low here f s = record {
    size = length-set far x w ∙ s.size;
    bound = (let old = s.bound in omega arith);
    each = λ y inside high. elim (cases_eq y x) [
      | inl same ↦ subst (λ z. IsFarthest g (slice_index (set far x w)) z (slice_index (set far x w) z)) (sym same)
          (subst (λ v. IsFarthest g (slice_index (set far x w)) x v) (sym (index_same far x w (omega (arith, s.size))))
          (apart_still far x w x w (apart x low (omega arith)) f))
      | inr other ↦ subst (λ v. IsFarthest g (slice_index (set far x w)) y v) (sym (index_other far x y w other))
          (apart_still far x w y (slice_index far y) (apart y inside high) (s.each y inside (later y inside high other)))
    ];
    low = λ y inside high. elim (cases_eq y x) [
      | inl same ↦ subst (λ z. slice_index (set far x w) z + number z ≤ g.nodes) (sym same)
          (subst (λ v. v + number x ≤ g.nodes) (sym (index_same far x w (omega (arith, s.size)))) short)
      | inr other ↦ subst (λ v. v + number y ≤ g.nodes) (sym (index_other far x y w other)) (s.low y inside (later y inside high other))
    ];
  }
    where
      apart : (y : ℕ) → y < g.nodes → m ≤ number y → (k : ℕ) → k < g.columns → g.leads y k ≡ true → g.after y k ≢ x
      apart y inside high k end leads same =
          let rises = up y k inside end leads in
          let is : number (g.after y k) ≡ number x = ap number same in
          omega arith

      later : (y : ℕ) → y < g.nodes → m ≤ number y → y ≢ x → left ≤ number y
      later y inside high other = elim (cases_eq (number y) m) [
        | inl is ↦ absurd (other (p.apart y x inside low (is ∙ sym here)))
        | inr not_here ↦ omega arith
      ]

      short : w + number x ≤ g.nodes
      short = ⊎_elim
          (λ (one : w ≡ 1). let less = p.low x low in let all : w + number x ≤ g.nodes = omega arith in all)
          (λ (v : (k : ℕ) × (k < g.columns) × (g.leads x k ≡ true) × (w ≡ slice_index far (g.after x k) + 1)).
          let rises = up x v.0 low v.1 v.2 in
          let inside = within x v.0 v.1 v.2 in
          let done = s.low (g.after x v.0) inside (omega arith) in
          let is = v.3 in
          let all : w + number x ≤ g.nodes = omega arith in all)
          f.some

  -- no node has the number: all that are done stay so
  pub so_none : (far : List ℕ) (left m : ℕ) → left ≡ suc m → ((x : ℕ) → x < g.nodes → number x ≢ m) → AreFarSo g number far left → AreFarSo g number far m
  so_none far left m e none s = record {
    size = s.size;
    bound = (let old = s.bound in omega arith);
    each = λ x inside high. s.each x inside (let other = none x inside in omega arith);
    low = λ x inside high. s.low x inside (let other = none x inside in omega arith);
  }

  pub so_end : (far : List ℕ) (left : ℕ) → left ≡ 0 → AreFarSo g number far left → AreFarthest g far
  so_end far left e s = record { size = s.size; each = λ x low. s.each x low (omega arith) }

  -- the node with the next number, if there is one
  module _ (order : List ℕ) (o : IsOrderByNumber numbers order) (far : List ℕ) (left m x : ℕ) (e : left ≡ suc m) (at : x ≡ slice_index order m)
      (s : AreFarSo g number far left) where
    here : x < g.nodes → number x ≡ m
    here low =
        let size = p.size in
        let bound = s.bound in
        ap number at ∙ o.back m (omega arith) (omega arith)

    pub far_low : x < g.nodes → (k : ℕ) → k < g.columns → g.leads x k ≡ true → slice_index far (g.after x k) < g.nodes
    far_low low = behind_low far left m x e low (here low) s

    pub far_step : (w : ℕ) → x < g.nodes → IsFarthest g (slice_index far) x w → AreFarSo g number (set far x w) m
    far_step w low f = so_more far left m x w e low (here low) f s

    pub far_pass : g.nodes ≤ x → AreFarSo g number far m
    far_pass high = so_none far left m e
        (λ z low is. (let size = p.size in
        let same : slice_index order (number z) ≡ z = o.each z (omega arith) in
        let there : slice_index order (number z) ≡ slice_index order m = ap (slice_index order) is in
        absurd (omega arith))) s
