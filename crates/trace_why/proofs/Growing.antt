-- Sets of values that grow, and values that are kept.
use Rattle.std.proofs.Common.{◌≡◌, ⊎_elim, ℕ, zero, suc, ◌+◌, ◌<◌, ◌≤◌, List, [], ◌∷◌, ◌++◌, length, Some, sym, subst, arith, slice_get}
use Rattle.std.specs.Prelude.{Contains}
use Rattle.std.proofs.lemmas.Bool.{cases_lt}
use Rattle.std.proofs.lemmas.List.Elements.{Contains-push, Contains-push_cases, Contains-append_left}
use Rattle.packet.specs.Memory.{new_word}
use Rattle.trace_laws.proofs.Lists.{same_get, get_within}
use Rattle.trace_why.specs.declared.calls.CallAt.{CallAt}
use Rattle.trace_why.specs.Values.{AreClosed, IsReachedIn}
use Rattle.trace_why.proofs.Places.{contains_in, in_contains}

-- what the first n operations leave of a value is there
pub record GrowingOne (calls : List CallAt) (value n : ℕ) (old new : List ℕ) : Type 0 where
  pub kept : (v : ℕ) → Contains old v → Contains new v
  pub grown : (m : ℕ) (c : CallAt) → m < n → slice_get calls m ≡ Some c → Contains new (new_word c.call.operation.op value)

pub growing_one_none : (calls : List CallAt) (value : ℕ) (old : List ℕ) → GrowingOne calls value 0 old old
growing_one_none calls value old = record { kept = λ v h. h; grown = λ m c l h. absurd (omega arith) }

pub growing_one : (calls : List CallAt) (value n : ℕ) (old new more : List ℕ) (found : CallAt) → GrowingOne calls value n old new
    → slice_get calls n ≡ Some found → ((v : ℕ) → Contains new v → Contains more v) → Contains more (new_word found.call.operation.op value)
    → GrowingOne calls value (n + 1) old more
growing_one calls value n old new more found g at keeps there = record {
  kept = λ v h. keeps v (g.kept v h);
  grown = λ m c l h. ⊎_elim {C = Contains more (new_word c.call.operation.op value)}
      (λ (low : m < n). keeps (new_word c.call.operation.op value) (g.grown m c low h))
      (λ (high : n ≤ m).
      let same : m ≡ n = omega arith in
      let e : found ≡ c = same_get calls n found c at (subst (λ (k : ℕ). slice_get calls k ≡ Some c) same h) in
      subst (λ (x : CallAt). Contains more (new_word x.call.operation.op value)) e there)
      (cases_lt m n);
}

pub grown_one : (calls : List CallAt) (value n : ℕ) (old new : List ℕ) → length calls ≤ n → GrowingOne calls value n old new
    → (c : CallAt) → Contains calls c → Contains new (new_word c.call.operation.op value)
grown_one calls value n old new l g c h =
    let i = contains_in calls c h in
    let low = get_within calls i.0 c i.1 in
    g.grown i.0 c (omega arith) i.1

-- what the operations leave of the first n values is there
pub record Growing (calls : List CallAt) (from : List ℕ) (n : ℕ) (old new : List ℕ) : Type 0 where
  pub same : from ≡ old
  pub kept : (v : ℕ) → Contains old v → Contains new v
  pub grown : (m v : ℕ) (c : CallAt) → m < n → slice_get from m ≡ Some v → Contains calls c → Contains new (new_word c.call.operation.op v)

pub growing_none : (calls : List CallAt) (from old : List ℕ) → from ≡ old → Growing calls from 0 old old
growing_none calls from old same = record { same = same; kept = λ v h. h; grown = λ m v c l h k. absurd (omega arith) }

pub growing : (calls : List CallAt) (from : List ℕ) (n : ℕ) (old new more : List ℕ) (found : ℕ) → Growing calls from n old new
    → slice_get from n ≡ Some found → ((v : ℕ) → Contains new v → Contains more v)
    → ((c : CallAt) → Contains calls c → Contains more (new_word c.call.operation.op found)) → Growing calls from (n + 1) old more
growing calls from n old new more found g at keeps there = record {
  same = g.same;
  kept = λ v h. keeps v (g.kept v h);
  grown = λ m v c l h i. ⊎_elim {C = Contains more (new_word c.call.operation.op v)}
      (λ (low : m < n). keeps (new_word c.call.operation.op v) (g.grown m v c low h i))
      (λ (high : n ≤ m).
      let same : m ≡ n = omega arith in
      let e : found ≡ v = same_get from n found v at (subst (λ (k : ℕ). slice_get from k ≡ Some v) same h) in
      subst (λ (x : ℕ). Contains more (new_word c.call.operation.op x)) e (there c i))
      (cases_lt m n);
}

pub grown_all : (calls : List CallAt) (from : List ℕ) (n : ℕ) (old new : List ℕ) → length from ≤ n → Growing calls from n old new
    → (v : ℕ) (c : CallAt) → Contains old v → Contains calls c → Contains new (new_word c.call.operation.op v)
grown_all calls from n old new l g v c h k =
    let i = contains_in from v (subst (λ (xs : List ℕ). Contains xs v) (sym g.same) h) in
    let low = get_within from i.0 v i.1 in
    g.grown i.0 v c (omega arith) i.1 k

-- one round more
pub round_more : (base : List ℕ) (calls : List CallAt) (n : ℕ) (old new : List ℕ) → ((v : ℕ) → IsReachedIn base calls n v → Contains old v)
    → ((v : ℕ) → Contains old v → Contains new v)
    → ((v : ℕ) (c : CallAt) → Contains old v → Contains calls c → Contains new (new_word c.call.operation.op v))
    → (v : ℕ) → IsReachedIn base calls (suc n) v → Contains new v
round_more base calls n old new has keeps grows v h = ⊎_elim {C = Contains new v}
    (λ (r : IsReachedIn base calls n v). keeps v (has v r))
    (λ (s : (u : ℕ) × (c : CallAt) × IsReachedIn base calls n u × Contains calls c × (v ≡ new_word c.call.operation.op u)).
    subst (λ (x : ℕ). Contains new x) (sym s.4) (grows s.0 s.1 (has s.0 s.2) s.3))
    h

-- of the first n values those are kept of which something holds
pub record Filtering (P : ℕ → Type 0) (values : List ℕ) (n : ℕ) (kept : List ℕ) : Type 0 where
  pub inside : (v : ℕ) → Contains kept v → Contains values v × P v
  pub all : (m v : ℕ) → m < n → slice_get values m ≡ Some v → P v → Contains kept v

pub filtering_keep : (P : ℕ → Type 0) (values : List ℕ) (n : ℕ) (kept : List ℕ) (found : ℕ) → Filtering P values n kept
    → slice_get values n ≡ Some found → P found → Filtering P values (n + 1) (kept ++ found ∷ [])
filtering_keep P values n kept found f at is = record {
  inside = λ v h. ⊎_elim {C = Contains values v × P v}
      (λ old. f.inside v old)
      (λ (e : found ≡ v). subst (λ (x : ℕ). Contains values x × P x) e (in_contains values found (n, at), is))
      (Contains-push_cases kept found v h);
  all = λ m v l h p. ⊎_elim {C = Contains (kept ++ found ∷ []) v}
      (λ (low : m < n). Contains-append_left kept (found ∷ []) v (f.all m v low h p))
      (λ (high : n ≤ m).
      let same : m ≡ n = omega arith in
      let e : found ≡ v = same_get values n found v at (subst (λ (k : ℕ). slice_get values k ≡ Some v) same h) in
      subst (λ (x : ℕ). Contains (kept ++ found ∷ []) x) e (Contains-push kept found))
      (cases_lt m n);
}

pub filtering_skip : (P : ℕ → Type 0) (values : List ℕ) (n : ℕ) (kept : List ℕ) (found : ℕ) → Filtering P values n kept
    → slice_get values n ≡ Some found → (P found → ⊥) → Filtering P values (n + 1) kept
filtering_skip P values n kept found f at none = record {
  inside = f.inside;
  all = λ m v l h p. ⊎_elim {C = Contains kept v}
      (λ (low : m < n). f.all m v low h p)
      (λ (high : n ≤ m).
      let same : m ≡ n = omega arith in
      let e : found ≡ v = same_get values n found v at (subst (λ (k : ℕ). slice_get values k ≡ Some v) same h) in
      absurd (none (subst P (sym e) p)))
      (cases_lt m n);
}

pub filtered : (P : ℕ → Type 0) (values : List ℕ) (n : ℕ) (kept : List ℕ) → length values ≤ n → Filtering P values n kept
    → (v : ℕ) → Contains values v × P v → Contains kept v
filtered P values n kept l f v h =
    let i = contains_in values v h.0 in
    let low = get_within values i.0 v i.1 in
    f.all i.0 v (omega arith) i.1 h.1

-- where what they leave is there, all is there that they reach from values of which each is
pub closed_all : (old values : List ℕ) (calls : List CallAt) → AreClosed values calls
    → ((v : ℕ) → Contains old v → Contains values v) → (n v : ℕ) → IsReachedIn old calls n v → Contains values v
closed_all old values calls closed kept zero v h = kept v h
closed_all old values calls closed kept (suc n) v h = ⊎_elim {C = Contains values v}
    (λ (r : IsReachedIn old calls n v). closed_all old values calls closed kept n v r)
    (λ (s : (u : ℕ) × (c : CallAt) × IsReachedIn old calls n u × Contains calls c × (v ≡ new_word c.call.operation.op u)).
    let x = contains_in values s.0 (closed_all old values calls closed kept n s.0 s.2) in
    let j = contains_in calls s.1 s.3 in
    subst (λ (w : ℕ). Contains values w) (sym s.4) (closed x.0 j.0 s.0 s.1 x.1 j.1))
    h
