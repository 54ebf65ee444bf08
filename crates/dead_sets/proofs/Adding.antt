-- Cases that are added just where something holds.
use Rattle.std.proofs.Common.{◌≡◌, ◌⊎◌, inl, inr, ⊎_elim, ℕ, ◌+◌, ◌<◌, Bool, true, List, [], ◌∷◌, ◌++◌, length, refl, sym, ◌∙◌, ap, subst, arith}
use Rattle.std.specs.Prelude.{slice_index}
use Rattle.std.proofs.lemmas.Bool.{cases_lt}
use Rattle.std.proofs.lemmas.List.{length_push, get_or_push, get_or_append_left}
use Rattle.rising.specs.declared.edge.Edge.{Edge}
use Rattle.network_adaptive.specs.Flags.{IsEdgeOf, HasPut}
use Rattle.dead_sets.specs.Cases.{AreCases, HasCase, AddsCases}

pub add_none : (P : ℕ → (ℕ → Bool) → Type 0) (at : List ℕ) (edges : List Edge) → ((x : ℕ) (out : ℕ → Bool) → P x out → ⊥) → AddsCases P at edges at edges
add_none P at edges never = record {
  long = omega arith;
  kept = λ x out c h. h;
  only = λ c high low. absurd (omega arith);
  all = λ x out p. absurd (never x out p);
}

-- what is added first and then, where one of them is meant by R
pub add_then : (P Q R : ℕ → (ℕ → Bool) → Type 0) (a b c : List ℕ) (ea eb ec : List Edge) → ((x : ℕ) (out : ℕ → Bool) → P x out → R x out)
    → ((x : ℕ) (out : ℕ → Bool) → Q x out → R x out) → ((x : ℕ) (out : ℕ → Bool) → R x out → P x out ⊎ Q x out)
    → AddsCases P a ea b eb → AddsCases Q b eb c ec → AddsCases R a ea c ec
add_then P Q R a b c ea eb ec left right cases p q = record {
  long = (let l = p.long in let m = q.long in omega arith);
  kept = λ x out k h. q.kept x out k (p.kept x out k h);
  only = λ k high low. elim (cases_lt k (length b)) [
    | inl less ↦ (let r = p.only k high less in (r.0, r.1, left r.0 r.1 r.2, q.kept r.0 r.1 k r.3))
    | inr more ↦ (let r = q.only k more low in (r.0, r.1, right r.0 r.1 r.2, r.3))
  ];
  all = λ x out r. ⊎_elim
      (λ (e : P x out). let w = p.all x out e in (w.0, q.kept x out w.0 w.1))
      (λ (e : Q x out). q.all x out e)
      (cases x out r);
}

pub add_map : (P Q : ℕ → (ℕ → Bool) → Type 0) (a b : List ℕ) (ea eb : List Edge) → ((x : ℕ) (out : ℕ → Bool) → P x out → Q x out)
    → ((x : ℕ) (out : ℕ → Bool) → Q x out → P x out) → AddsCases P a ea b eb → AddsCases Q a ea b eb
add_map P Q a b ea eb to from p = record {
  long = p.long;
  kept = p.kept;
  only = λ k high low. (let r = p.only k high low in (r.0, r.1, to r.0 r.1 r.2, r.3));
  all = λ x out q. p.all x out (from x out q);
}

-- one case
abbrev pub IsThisCase : ℕ → (ℕ → Bool) → ℕ → (ℕ → Bool) → Type 0
IsThisCase x out u v = (u ≡ x) × (v ≡ out)

-- the edges to one case
abbrev pub IsWayOut : ℕ → (ℕ → Bool) → ℕ → ℕ → Type 0
IsWayOut case out y c = (c ≡ case) × (out y ≡ true)

module _ (count : ℕ) (at : List ℕ) (edges new : List Edge) (cases : AreCases count at edges) (x : ℕ) (low : x < count) (out : ℕ → Bool)
    (outs : (y : ℕ) → out y ≡ true → y < count) (put : HasPut (IsWayOut (length at) out) edges new) where
  abbrev more : List ℕ
  more = at ++ x ∷ []

  size : length more ≡ length at + 1
  size = length_push at x

  here : slice_index more (length at) ≡ x
  here = get_or_push at x 0 (length at) refl

  the_case : HasCase more new x out (length at)
  the_case = record {
    low = (let n = size in omega arith);
    here = here;
    only = λ y e. ⊎_elim
        (λ (a : IsEdgeOf edges y (length at)). let l = cases.to y (length at) a in absurd (omega arith))
        (λ (b : IsWayOut (length at) out y (length at)). b.1)
        (put.only y (length at) e);
    all = λ y e. put.all y (length at) (refl, e);
  }

  adds : AddsCases (IsThisCase x out) at edges more new
  adds = record {
    long = (let n = size in omega arith);
    kept = λ z o c h. (let inside = h.low in record {
      low = (let n = size in omega arith);
      here = get_or_append_left at (x ∷ []) 0 c inside ∙ h.here;
      only = λ y e. ⊎_elim
          (λ (a : IsEdgeOf edges y c). h.only y a)
          (λ (b : IsWayOut (length at) out y c). let same = b.0 in absurd (omega arith))
          (put.only y c e);
      all = λ y e. put.kept y c (h.all y e);
    });
    only = λ c high inside. (let n = size in let same : length at ≡ c = omega arith in
        (x, out, (refl, refl), subst (HasCase more new x out) same the_case));
    all = λ z o p. (length at, subst (λ v. HasCase more new v o (length at)) (sym p.0) (subst (λ (v : ℕ → Bool). HasCase more new x v (length at)) (sym p.1) the_case));
  }

  are_cases : AreCases count more new
  are_cases = record {
    owners = λ c inside. elim (cases_lt c (length at)) [
      | inl less ↦ subst (λ z. z < count) (sym (get_or_append_left at (x ∷ []) 0 c less)) (cases.owners c less)
      | inr high ↦ (let n = size in let same : length at ≡ c = omega arith in
          subst (λ z. z < count) (sym (ap (slice_index more) (sym same) ∙ here)) low)
    ];
    from = λ y c e. ⊎_elim
        (λ (a : IsEdgeOf edges y c). cases.from y c a)
        (λ (b : IsWayOut (length at) out y c). outs y b.1)
        (put.only y c e);
    to = λ y c e. ⊎_elim
        (λ (a : IsEdgeOf edges y c). let l = cases.to y c a in let n = size in omega arith)
        (λ (b : IsWayOut (length at) out y c). let same = b.0 in let n = size in omega arith)
        (put.only y c e);
  }

  pub add_one : (longer : List ℕ) → longer ≡ more → AreCases count longer new × AddsCases (IsThisCase x out) at edges longer new
  add_one longer e = subst (λ (v : List ℕ). AreCases count v new × AddsCases (IsThisCase x out) at edges v new) (sym e) (are_cases, adds)
