-- Some channels lead around, or there are numbers that rise where a channel leads on.
use Rattle.std.proofs.Common.{◌≡◌, ◌⊎◌, inl, inr, ℕ, zero, suc, ◌+◌, ◌-◌, ◌<◌, ◌≤◌, ◌&&◌, Bool, true, false, List, [], ◌∷◌, length}
use Rattle.std.proofs.Common.{refl, sym, ◌∙◌, ap, subst, arith}
use Rattle.std.specs.Prelude.{slice_index}
use Rattle.std.proofs.lemmas.Bool.{cases_lt, cases_Bool, and_parts, and_from}
use Rattle.rising.specs.declared.search.Look.{Look}
use Rattle.rising.specs.Graph.{Digraph}
use Rattle.rising.specs.Search.{path_look, StepsOn, IsCircuit, LeadsWithin}
use Rattle.network_judge.proofs.Graphs.{IsEdge}
use Rattle.network_judge.proofs.Rounds.{collide}
use Rattle.network_judge.proofs.Firsts.{any, any_at, any_from, first, fails, none, is_first}

-- whether a channel leads on n times
abbrev tall : Digraph → ℕ → ℕ → Bool
tall g zero x = true
tall g (suc n) x = any (λ c. g.leads x c && tall g n (g.after x c)) g.columns

-- one step from a channel to another, in a column
record Goes (g : Digraph) (x c y : ℕ) : Type 0 where
  low : c < g.columns
  leads : g.leads x c ≡ true
  after : g.after x c ≡ y

-- so many steps, one after the other: their channels and columns
record Chain (g : Digraph) (n x : ℕ) : Type 0 where
  channel : ℕ → ℕ
  column : ℕ → ℕ
  begin : channel 0 ≡ x
  goes : (k : ℕ) → k < n → Goes g (channel k) (column k) (channel (suc k))

abbrev before_all : ℕ → (ℕ → ℕ) → ℕ → ℕ
before_all x f zero = x
before_all x f (suc k) = f k

chain : (g : Digraph) (n x : ℕ) → tall g n x ≡ true → Chain g n x
chain g zero x e = record { channel = λ k. x; column = λ k. 0; begin = refl; goes = λ k l. absurd (omega arith) }
chain g (suc n) x e =
    let a = any_from (λ c. g.leads x c && tall g n (g.after x c)) g.columns e in
    let both = and_parts (g.leads x a.0) (tall g n (g.after x a.0)) a.2 in
    let r = chain g n (g.after x a.0) both.1 in
    record {
      channel = before_all x r.channel;
      column = before_all a.0 r.column;
      begin = refl;
      goes = go x a.0 r.channel r.column (record { low = a.1; leads = both.0; after = sym r.begin }) r.goes;
    }
  where
    go : (x j : ℕ) (f h : ℕ → ℕ) → Goes g x j (f 0) → ((k : ℕ) → k < n → Goes g (f k) (h k) (f (suc k)))
        → (k : ℕ) → k < suc n → Goes g (before_all x f k) (before_all j h k) (before_all x f (suc k))
    go x j f h e rest zero l = e
    go x j f h e rest (suc k) l = rest k (omega arith)

-- a part of a chain
abbrev looks_of : (ℕ → ℕ) → (ℕ → ℕ) → ℕ → ℕ → List Look
looks_of f h a zero = []
looks_of f h a (suc m) = record { node = f a; column = h a } ∷ looks_of f h (suc a) m

looks_long : (f h : ℕ → ℕ) (a m : ℕ) → length (looks_of f h a m) ≡ m
looks_long f h a zero = refl
looks_long f h a (suc m) = let r = looks_long f h (suc a) m in omega arith

looks_at : (f h : ℕ → ℕ) (a m k n : ℕ) → k < m → n ≡ a + k → path_look (looks_of f h a m) k ≡ record { node = f n; column = h n }
looks_at f h a zero k n l e = absurd (omega arith)
looks_at f h a (suc m) zero n l e = let same : a ≡ n = omega arith in ap (λ z. let v : Look = record { node = f z; column = h z } in v) same
looks_at f h a (suc m) (suc k) n l e = looks_at f h (suc a) m k n (omega arith) (omega arith)

-- so many steps as there are channels lead around
circle_of : (g : Digraph) → LeadsWithin g → (x : ℕ) → x < g.nodes → tall g g.nodes x ≡ true → (looks : List Look) × IsCircuit g looks
circle_of g stay x low e =
    let c = chain g g.nodes x e in
    let f : ℕ → ℕ = c.channel in
    let h : ℕ → ℕ = c.column in
    let within : (k : ℕ) → k < suc g.nodes → f k < g.nodes = inside f h c.begin c.goes in
    let r = collide (suc g.nodes) g.nodes f within (omega arith) in
    let order = r.order in
    let below = r.below in
    let a : ℕ = r.first in
    let m : ℕ = r.second - r.first in
    let long : length (looks_of f h a m) ≡ m = looks_long f h a m in
    let leads : (k : ℕ) → k < g.nodes → StepsOn g (record { node = f k; column = h k }) (f (suc k)) =
    λ k l. (let o = c.goes k l in record { end = o.low; marked = o.leads; next = o.after }) in
    let look : (k n : ℕ) (y : ℕ) → k < m → n ≡ a + k → f (suc n) ≡ y → StepsOn g (path_look (looks_of f h a m) k) y =
    λ k n y l s z. subst (λ (v : Look). StepsOn g v y) (sym (looks_at f h a m k n l s))
    (subst (λ u. StepsOn g (record { node = f n; column = h n }) u) z (leads n (omega arith))) in (
      looks_of f h a m,
      record {
        some = omega arith;
        each = λ k l. (let next : path_look (looks_of f h a m) (k + 1) ≡ record { node = f (suc (a + k)); column = h (suc (a + k)) } =
            looks_at f h a m (k + 1) (suc (a + k)) (omega arith) (omega arith) in
            look k (a + k) (path_look (looks_of f h a m) (k + 1)).node (omega arith) refl (sym (ap (λ (v : Look). v.node) next)));
        last = (let first_look : path_look (looks_of f h a m) 0 ≡ record { node = f a; column = h a } = looks_at f h a m 0 a (omega arith) (omega arith) in
            let n : ℕ = a + (length (looks_of f h a m) - 1) in
            let end : suc n ≡ r.second = omega arith in
            look (length (looks_of f h a m) - 1) n (path_look (looks_of f h a m) 0).node (omega arith) refl
            (ap f end ∙ (sym r.same ∙ sym (ap (λ (v : Look). v.node) first_look))));
      },
    )
  where
    inside : (f h : ℕ → ℕ) → f 0 ≡ x → ((k : ℕ) → k < g.nodes → Goes g (f k) (h k) (f (suc k)))
        → (k : ℕ) → k < suc g.nodes → f k < g.nodes
    inside f h b go zero l = omega arith
    inside f h b go (suc k) l = let o = go k (omega arith) in subst (λ z. z < g.nodes) o.after (stay (f k) (h k) o.low o.leads)

-- the height of a channel: how many steps it leads on at most, and one more
abbrev height_of : Digraph → ℕ → ℕ
height_of g x = first (λ n. tall g n x) g.nodes

-- numbers from the heights
abbrev ranks : Digraph → ℕ → List ℕ
ranks g zero = []
ranks g (suc m) = (g.nodes - height_of g (g.nodes - suc m)) ∷ ranks g m

ranks_long : (g : Digraph) (m : ℕ) → length (ranks g m) ≡ m
ranks_long g zero = refl
ranks_long g (suc m) = let r = ranks_long g m in omega arith

ranks_at : (g : Digraph) (m k x : ℕ) → k < m → m ≤ g.nodes → x ≡ g.nodes - m + k → slice_index (ranks g m) k ≡ g.nodes - height_of g x
ranks_at g zero k x l h e = absurd (omega arith)
ranks_at g (suc m) zero x l h e = let same : g.nodes - suc m ≡ x = omega arith in ap (λ z. g.nodes - height_of g z) same
ranks_at g (suc m) (suc k) x l h e = ranks_at g m k x (omega arith) (omega arith) (omega arith)

-- where a channel leads on the height falls
height_falls : (g : Digraph) → ((x : ℕ) → x < g.nodes → tall g g.nodes x ≡ false) → (x c y : ℕ) → x < g.nodes
    → Goes g x c y → (height_of g y < height_of g x) × (height_of g x ≤ g.nodes)
height_falls g low x c y hx o =
    let q : ℕ → Bool = λ m. tall g m y in
    let over : (m : ℕ) → m < height_of g y → tall g (suc m) x ≡ true =
    λ m l. any_at (λ i. g.leads x i && tall g m (g.after x i)) g.columns c o.low
    (and_from (g.leads x c) (tall g m (g.after x c)) o.leads (ap (tall g m) o.after ∙ true_below q g.nodes m l)) in
    let false_here : tall g (height_of g x) x ≡ false = fails_at (λ m. tall g m x) g.nodes (low x hx) in
    let most : height_of g x ≤ g.nodes = at_most (λ m. tall g m x) g.nodes in
    elim (cases_lt (height_of g y) (height_of g x)) [
      | inl l ↦ (l, most)
      | inr l ↦ absurd (never (height_of g x) (height_of g y) over false_here l)
    ]
  where
    true_below : (p : ℕ → Bool) (n m : ℕ) → m < first p n → p m ≡ true
    true_below p n m l = elim (is_first p n) [ fails a b c ↦ c m l | none a c ↦ c m l ]

    fails_at : (p : ℕ → Bool) (n : ℕ) → p n ≡ false → p (first p n) ≡ false
    fails_at p n e = elim (is_first p n) [ fails a b c ↦ b | none a c ↦ ap p a ∙ e ]

    at_most : (p : ℕ → Bool) (n : ℕ) → first p n ≤ n
    at_most p n = elim (is_first p n) [ fails a b c ↦ omega arith | none a c ↦ omega arith ]

    never : (a b : ℕ) → ((m : ℕ) → m < b → tall g (suc m) x ≡ true) → tall g a x ≡ false → a ≤ b → ⊥
    never zero b over f l = cc
    never (suc a) b over f l = let bad : true ≡ false = sym (over a (omega arith)) ∙ f in cc

-- a channel's height is above 0
height_some : (g : Digraph) (x : ℕ) → x < g.nodes → 0 < height_of g x
height_some g x low = by g.nodes low
  where
    by : (n : ℕ) → x < n → 0 < first (λ m. tall g m x) n
    by zero l = absurd (omega arith)
    by (suc n) l = omega arith

-- numbers that rise where a channel leads on
pub record RiseOn (g : Digraph) (numbers : List ℕ) : Type 0 where
  pub count : length numbers ≡ g.nodes
  pub bound : (x : ℕ) → x < g.nodes → slice_index numbers x < g.nodes
  pub up : (x y : ℕ) → x < g.nodes → y < g.nodes → IsEdge g x y → slice_index numbers x < slice_index numbers y

ranks_rise : (g : Digraph) → ((x : ℕ) → x < g.nodes → tall g g.nodes x ≡ false) → RiseOn g (ranks g g.nodes)
ranks_rise g low =
    let at : (x : ℕ) → x < g.nodes → slice_index (ranks g g.nodes) x ≡ g.nodes - height_of g x =
    λ x l. ranks_at g g.nodes x x l (omega arith) (omega arith) in
    record {
      count = ranks_long g g.nodes;
      bound = λ x l. (let e = at x l in let s = height_some g x l in omega arith);
      up = λ x y hx hy o. (let f = height_falls g low x o.column y hx (record { low = o.low; leads = o.leads; after = o.after }) in
          let less = f.0 in
          let most = f.1 in
          let a = at x hx in
          let b = at y hy in
          omega arith);
    }

-- some channels lead around, or there are numbers that rise
pub circle_or_ranks : (g : Digraph) → LeadsWithin g → ((looks : List Look) × IsCircuit g looks) ⊎ ((numbers : List ℕ) × RiseOn g numbers)
circle_or_ranks g stay = by (any (λ x. tall g g.nodes x) g.nodes) refl
  where
    by : (b : Bool) → any (λ x. tall g g.nodes x) g.nodes ≡ b → ((looks : List Look) × IsCircuit g looks) ⊎ ((numbers : List ℕ) × RiseOn g numbers)
    by true e = let a = any_from (λ x. tall g g.nodes x) g.nodes e in inl (circle_of g stay a.0 a.1 a.2)
    by false e = inr (ranks g g.nodes, ranks_rise g none_tall)
      where
        none_tall : (x : ℕ) → x < g.nodes → tall g g.nodes x ≡ false
        none_tall x l = elim (cases_Bool (tall g g.nodes x)) [
          | inl yes_x ↦ (let bad : false ≡ true = sym e ∙ any_at (λ z. tall g g.nodes z) g.nodes x l yes_x in cc)
          | inr no_x ↦ no_x
        ]
