-- The flags after a take of each input of a router.
use Rattle.std.proofs.Common.{◌≡◌, ◌≢◌, ⊎_elim, ℕ, ◌+◌, ◌<◌, ◌≤◌, ◌==◌, Bool, true, false, List, refl, sym, ap, ◌∙◌, subst, arith}
use Rattle.std.specs.Prelude.{◌&&◌, ◌||◌, not, nat_lt, slice_index}
use Rattle.std.specs.Int.{bit_at}
use Rattle.std.proofs.lemmas.Bool.{cases_lt, cases_eq, le-ltb, eq-eqb}
use Rattle.torus.specs.declared.step.Choice.TheVariants.{TakeFrom}
use Rattle.flit_buffer.specs.declared.word_op.WordOp.TheVariants.{Load}
use Rattle.tile.specs.Tile.{Design}
use Rattle.core_laws.specs.Routers.{PortFlags, brings_flit, returns_credit, empties, fills, frees_put, full_after, ports_woken, router_moved}
use Rattle.machine_parts.specs.Ports.{is_raised}

or_left : (a b : Bool) → a ≡ true → (a || b) ≡ true
or_left true b h = refl
or_left false b h = absurd (cc)

or_right : (a b : Bool) → b ≡ true → (a || b) ≡ true
or_right true b h = refl
or_right false b h = h

module _ (t k : ℕ) (d : Design) (f : PortFlags) (u i : ℕ) where
  abbrev now : PortFlags
  now = router_moved t (TakeFrom k) (ports_woken d (Load 0) f)

  pub take_kept : f.takes u i ≡ true → now.takes u i ≡ true
  take_kept h = or_left (f.takes u i || brings_flit d (Load 0) u i) _ (or_left (f.takes u i) (brings_flit d (Load 0) u i) h)

  pub put_kept : f.puts u i ≡ true → now.puts u i ≡ true
  put_kept h = or_left (f.puts u i) _ h

  pub credit_kept : f.credits u i ≡ true → now.credits u i ≡ true
  credit_kept h = or_left (f.credits u i) _ h

  pub full_kept : f.full u i ≡ true → now.full u i ≡ true
  full_kept h = by_tile (f.full u i) (u == t) h
    where
      by_tile : (a b : Bool) → a ≡ true → ((a && not (b && (empties (TakeFrom k) i && nat_lt i 32))) || (b && fills (TakeFrom k) i)) ≡ true
      by_tile true true h = refl
      by_tile true false h = refl
      by_tile false b h = absurd (cc)

-- the latch that the take fills
pub filled_now : (t k : ℕ) (d : Design) (f : PortFlags) → (router_moved t (TakeFrom k) (ports_woken d (Load 0) f)).full t k ≡ true
filled_now t k d f =
    or_right _ ((t == t) && (k == k)) (ap (λ (b : Bool). b && (k == k)) (eq-eqb t t refl) ∙ eq-eqb k k refl)

-- a flag from 32 on isn't there, and counts as raised; nor is one of a tile from 64 on
no_port : (words : List ℕ) (t i : ℕ) → 32 ≤ i → is_raised words t i ≡ true
no_port words t i past =
    ap (λ (b : Bool). not (nat_lt t 64 && (b && (bit_at (slice_index words t) i == 0)))) (le-ltb i 32 past) ∙ either (nat_lt t 64)
  where
    either : (b : Bool) → not (b && false) ≡ true
    either true = refl
    either false = refl

pub no_tile : (words : List ℕ) (t i : ℕ) → 64 ≤ t → is_raised words t i ≡ true
no_tile words t i past = ap (λ (b : Bool). not (b && (nat_lt i 32 && (bit_at (slice_index words t) i == 0)))) (le-ltb t 64 past)

pub all_filled : (words : List ℕ) (t : ℕ) → ((i : ℕ) → i < 32 → is_raised words t i ≡ true) → (i : ℕ) → is_raised words t i ≡ true
all_filled words t low i = ⊎_elim (λ (there : i < 32). low i there) (λ (past : 32 ≤ i). no_port words t i past) (cases_lt i 32)

-- one input more
pub filled_more : (now : ℕ → Bool) (k : ℕ) → ((i : ℕ) → i < k → now i ≡ true) → now k ≡ true → (i : ℕ) → i < k + 1 → now i ≡ true
filled_more now k before here i low = ⊎_elim (λ (same : i ≡ k). subst (λ (n : ℕ). now n ≡ true) (sym same) here)
    (λ (other : i ≢ k). before i (omega (arith, low, other))) (cases_eq i k)
