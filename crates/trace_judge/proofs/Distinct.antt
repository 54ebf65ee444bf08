-- Branches that are looked up in a set, one after the other.
use Rattle.std.proofs.Common.{◌≡◌, ◌≢◌, ⊎_elim, ℕ, ◌+◌, ◌<◌, ◌≤◌, ◌^◌, ◌==◌, ◌&&◌, Bool, true, false, cond, not, List, length, Some, refl, sym, ◌∙◌, ap, subst, arith, slice_get}
use Rattle.std.proofs.lemmas.Bool.{cases_eq}
use Rattle.std.specs.HashSet.{HashSet, contains}
use Rattle.trace_laws.proofs.Lists.{get_within}
use Rattle.trace_laws.specs.declared.opened.Config.{Config}
use Rattle.trace_laws.specs.declared.opened.Branch.{Branch}
use Rattle.trace_judge.specs.Crowds.{AreDistinct}

-- the pair of numbers of a configuration
abbrev pub key_of : Config → ℕ × ℕ
key_of c = (c.word, c.taken)

abbrev pub same_key : ℕ × ℕ → ℕ × ℕ → Bool
same_key x y = (x.0 == y.0) && (x.1 == y.1)

-- up to place i they are in the set, and no two are the same
pub record Distinct {S : Type 0} (branches : List Branch) (i : ℕ) (seen : HashSet (ℕ × ℕ) S) : Type 0 where
  pub low : (j : ℕ) (b : Branch) → j < i → slice_get branches j ≡ Some b → b.config.taken < 2 ^ 128
  pub there : (j : ℕ) (b : Branch) → j < i → slice_get branches j ≡ Some b
      → contains same_key seen (key_of b.config) ≡ true
  pub apart : (j k : ℕ) (b c : Branch) → j < k → k < i → slice_get branches j ≡ Some b
      → slice_get branches k ≡ Some c → b.config ≡ c.config → ⊥

pub distinct_none : {S : Type 0} (branches : List Branch) (seen : HashSet (ℕ × ℕ) S) → Distinct branches 0 seen
distinct_none branches seen = record {
  low = λ j b l h. absurd (omega arith);
  there = λ j b l h. absurd (omega arith);
  apart = λ j k b c l m h g e. absurd (omega arith);
}

pub not_true : (b : Bool) → true ≡ not b → b ≡ false
not_true true e = e
not_true false e = refl

either : (b : Bool) → cond b true true ≡ true
either true = refl
either false = refl

distinct_more : {S : Type 0} (branches : List Branch) (i : ℕ) (seen later : HashSet (ℕ × ℕ) S) (b : Branch)
    → slice_get branches i ≡ Some b → b.config.taken < 2 ^ 128 → contains same_key seen (key_of b.config) ≡ false
    → ((q : ℕ × ℕ) → contains same_key later q ≡ cond (same_key (key_of b.config) q) true (contains same_key seen q))
    → contains same_key later (key_of b.config) ≡ true
    → Distinct branches i seen → Distinct branches (i + 1) later
distinct_more branches i seen later b here low new others now was = record {
  low = λ j c l h. ⊎_elim {C = c.config.taken < 2 ^ 128}
      (λ (e : j ≡ i). subst (λ (d : Branch). d.config.taken < 2 ^ 128) (at j c e h) low)
      (λ (ne : j ≢ i). was.low j c (omega (arith, l, ne)) h)
      (cases_eq j i);
  there = λ j c l h. ⊎_elim {C = contains same_key later (key_of c.config) ≡ true}
      (λ (e : j ≡ i). subst (λ (d : Branch). contains same_key later (key_of d.config) ≡ true) (at j c e h) now)
      (λ (ne : j ≢ i).
      others (key_of c.config)
      ∙ (ap (λ (x : Bool). cond (same_key (key_of b.config) (key_of c.config)) true x) (was.there j c (omega (arith, l, ne)) h)
      ∙ either (same_key (key_of b.config) (key_of c.config))))
      (cases_eq j i);
  apart = λ j k c d l m h g e. ⊎_elim {C = ⊥}
      (λ (is : k ≡ i).
      let same : c.config ≡ b.config = e ∙ ap (λ (x : Branch). x.config) (sym (at k d is g)) in
      let there : contains same_key seen (key_of b.config) ≡ true =
      subst (λ (x : Config). contains same_key seen (key_of x) ≡ true) same (was.there j c (omega (arith, l, is)) h) in
      let f : true ≡ false = sym there ∙ new in
      cc)
      (λ (ne : k ≢ i). was.apart j k c d l (omega (arith, m, ne)) h g e)
      (cases_eq k i);
}
  where
    at : (j : ℕ) (c : Branch) → j ≡ i → slice_get branches j ≡ Some c → b ≡ c
    at j c e h =
        let there : slice_get branches i ≡ Some c = ap (λ (n : ℕ). slice_get branches n) (sym e) ∙ h in
        cc

-- as the code has the pair
pub distinct_pair : {S : Type 0} (branches : List Branch) (i : ℕ) (seen later : HashSet (ℕ × ℕ) S) (b : Branch)
    (taken : ℕ) → slice_get branches i ≡ Some b → taken ≡ b.config.taken → taken < 2 ^ 128
    → contains same_key seen (b.config.word, taken) ≡ false
    → ((q : ℕ × ℕ) → contains same_key later q
    ≡ cond (same_key (b.config.word, taken) q) true (contains same_key seen q))
    → contains same_key later (b.config.word, taken) ≡ true
    → Distinct branches i seen → Distinct branches (i + 1) later
distinct_pair branches i seen later b taken here is low new others now was =
    distinct_more branches i seen later b here (subst (λ (t : ℕ). t < 2 ^ 128) is low)
    (subst (λ (t : ℕ). contains same_key seen (b.config.word, t) ≡ false) is new)
    (subst (λ (t : ℕ). (q : ℕ × ℕ) → contains same_key later q
    ≡ cond (same_key (b.config.word, t) q) true (contains same_key seen q)) is others)
    (subst (λ (t : ℕ). contains same_key later (b.config.word, t) ≡ true) is now) was

pub distinct_all : {S : Type 0} (branches : List Branch) (i : ℕ) (seen : HashSet (ℕ × ℕ) S) → length branches ≤ i
    → Distinct branches i seen → AreDistinct branches
distinct_all branches i seen all was = record {
  low = λ j b h. was.low j b (let l = get_within branches j b h in omega (arith, all, l)) h;
  apart = λ j k b c l h g e. was.apart j k b c l (let m = get_within branches k c g in omega (arith, all, m)) h g e;
}
