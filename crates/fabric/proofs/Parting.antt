-- One range of tiles more has its seat; and the fields of a fabric, as it is made.
use Rattle.std.proofs.Common.{◌≡◌, ℕ, zero, suc, ◌+◌, ◌-◌, ◌*◌, ◌<◌, ◌≤◌, List, [], ◌∷◌, ◌++◌, length, map, drop, Option, refl, sym, ap, ◌∙◌, subst, arith}
use Rattle.std.proofs.Common.{append_assoc}
use Rattle.std.specs.Prelude.{◌^◌}
use Rattle.atomic_table.specs.Seated.{TableId}
use Rattle.torus.specs.Shape.{Shape, dims_of}
use Rattle.fabric_rule.specs.Placed.{PlacedTile}
use Rattle.channel_number.specs.Order.{channel_count}
use Rattle.channel_number.specs.Ports.{port_count}
use Rattle.fabric_rule.specs.Core.{Load}
use Rattle.fabric_rule.specs.Machine.{Core, IsAfter}
use Rattle.fabric_rule.specs.Known.{ShowsBeginning, row_length}
use Rattle.fabric_rule.proofs.Runs.{row_size}
use Rattle.fabric.specs.Key.{Opening, count_up, ranges}
use Rattle.fabric.specs.Seats.{Knowing}
use Rattle.fabric.specs.Opening.{fresh, Rest}
use Rattle.fabric.proofs.Fresh.{base_short}

pub drop_none : (xs : List ℕ) (n : ℕ) → length xs ≤ n → drop n xs ≡ []
drop_none [] zero h = refl
drop_none [] (suc n) h = refl
drop_none (x ∷ xs) zero h = absurd (omega arith)
drop_none (x ∷ xs) (suc n) h = drop_none xs n (omega arith)

module _ (f : List ℕ → Knowing) (xs ys : List Knowing) (one : Knowing) (from to n : ℕ) (rest : List ℕ) (all : List Knowing)
    (push : ys ≡ xs ++ one ∷ []) (is : one ≡ f (count_up from (to - from))) (so_far : xs ++ map f (ranges from rest n) ≡ all) where
  pub part_more : (cs : List ℕ) → rest ≡ to ∷ cs → ys ++ map f (ranges to cs n) ≡ all
  part_more cs more =
      ap (λ (l : List Knowing). l ++ map f (ranges to cs n)) (push ∙ ap (λ (o : Knowing). xs ++ o ∷ []) is)
      ∙ (append_assoc xs (f (count_up from (to - from)) ∷ []) (map f (ranges to cs n))
      ∙ (sym (ap (λ (l : List ℕ). xs ++ map f (ranges from l n)) more) ∙ so_far))

  pub part_last : to ≡ n → rest ≡ [] → ys ≡ all
  part_last end none =
      push ∙ (ap (λ (o : Knowing). xs ++ o ∷ []) (is ∙ ap (λ (k : ℕ). f (count_up from (k - from))) end)
      ∙ (sym (ap (λ (l : List ℕ). xs ++ map f (ranges from l n)) none) ∙ so_far))

-- a seat that is fresh for a load is fresh for the load that is known, which is that one
pub fresh_as_loaded : {z : TableId} {k l : Load} {tiles : List ℕ} {one : Knowing} → one ≡ fresh z k tiles → k ≡ l → one ≡ fresh z l tiles
fresh_as_loaded {z} {k} {l} {tiles} {one} is e = is ∙ ap (λ (x : Load). fresh z x tiles) e

pub rest_as_loaded : {k l : Load} {all : List (Option PlacedTile)} {from : ℕ} → Rest k all from → k ≡ l → Rest l all from
rest_as_loaded {k} {l} {all} {from} rest e = subst (λ (x : Load). Rest x all from) e rest

pub depth_small : (l : Load) (c : Core) (depth : ℕ) → IsAfter l c [] → depth ≡ c.depth → depth ≤ 8
depth_small l c depth k e = let few = k.accepted.depth.1 in let same : depth ≡ l.depth = e ∙ k.depth in omega (arith, few, same)

-- what is true of each fabric
abbrev pub IsSound : Load → ℕ → ℕ → ℕ → ℕ → ℕ → Shape → List ℕ → Type 0
IsSound l base words row_words slots ports torus opening =
    (base ≡ channel_count l.shape * l.depth) × (words ≡ length l.opening) × (row_words ≡ row_length l) × (slots ≡ 0)
    × (base + words < 2 ^ 32) × (ports ≡ port_count (dims_of l.shape)) × (torus ≡ l.shape) × (opening ≡ l.opening)

pub sound_made : (key o : Opening) (c : Core) (row : List ℕ) (base words row_words slots ports depth : ℕ) (torus : Shape) (opening : List ℕ) → key ≡ o
    → IsAfter o.load c []
    → ShowsBeginning o.load row [] → torus ≡ c.shape → depth ≡ c.depth → opening ≡ c.opening
    → base ≡ channel_count torus * depth → words ≡ length opening → row_words ≡ length row → slots ≡ 0 → ports ≡ port_count (dims_of torus)
    → IsSound key.load base words row_words slots ports torus opening
sound_made key o c row base words row_words slots ports depth torus opening e k shown ht hd ho hb hw hr hs hp =
    let shape : torus ≡ o.load.shape = ht ∙ k.shape in
    let flits : depth ≡ o.load.depth = hd ∙ k.depth in
    let given : opening ≡ o.load.opening = ho ∙ k.opening in
    let at : base ≡ channel_count o.load.shape * o.load.depth = hb ∙ (λ i. channel_count (shape i) * flits i) in
    let many : words ≡ length o.load.opening = hw ∙ ap length given in
    let below : base + words < 2 ^ 32 = subst (λ (p : ℕ × ℕ). p.0 + p.1 < 2 ^ 32) (λ i. (sym at i, sym many i)) (base_short o.load k.accepted row shown) in
    subst (λ (x : Opening). IsSound x.load base words row_words slots ports torus opening) (sym e)
    (at, many, hr ∙ row_size o.load k.accepted row [] shown, hs, below, hp ∙ ap (λ (s : Shape). port_count (dims_of s)) shape, shape, given)
