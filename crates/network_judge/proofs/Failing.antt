-- Cycles have no numbers, and walks that fail are no routes.
use Rattle.std.proofs.Common.{◌≡◌, ℕ, zero, suc, ◌+◌, ◌-◌, ◌<◌, inl, inr, Some, None, List, [], ◌∷◌, length, sym, ◌∙◌, ap, subst, arith, append_assoc}
use Rattle.std.proofs.lemmas.Bool.{cases_order}
use Rattle.network_judge.specs.declared.table.Kind.TheVariants.{Injection, Hop, Ejection}
use Rattle.network_judge.specs.declared.table.Why.{Why}
use Rattle.network_judge.specs.declared.table.Why.TheVariants.{NoSender, NoReceiver, Leaves, Ejects, Injects, Round}
use Rattle.network_judge.specs.declared.table.Link.{Link}
use Rattle.network_judge.specs.declared.table.By.{By}
use Rattle.network_judge.specs.declared.table.By.TheVariants.{To, Replied}
use Rattle.network_judge.specs.declared.table.Reply.{Reply}
use Rattle.network_judge.specs.Table.{Table, kind_of}
use Rattle.network_judge.specs.Ways.{place, IsUnderWay, IsWay, FailsBy}
use Rattle.network_judge.specs.Replies.{RiseOver}
use Rattle.network_judge.specs.TableNet.{Flits, table_network}
use Rattle.network_judge.specs.Cycles.{Depends, Leads, link_at, IsCycle}
use Rattle.network_judge.proofs.Places.{rises}
use Rattle.network_judge.proofs.Nets.{some_step}
use Rattle.wormhole.specs.Net.{IsNet}

-- numbers of a network rise over dependencies
pub over_dependency : (t : Table) (number : ℕ → ℕ) (top depth : ℕ) (flits : Flits) → IsNet (table_network t number top depth flits)
    → (x j y : ℕ) → Depends t x j y → number x < number y
over_dependency t number top depth flits net x j y d =
    net.rises d.from j x y d.before [] d.after d.joined (d.neighbours ∙ sym (append_assoc d.before (x ∷ []) (y ∷ d.after)))

-- and over links
over_link : (t : Table) (replies : List Reply) (number : ℕ → ℕ) (top depth : ℕ) (flits : Flits) → RiseOver replies number
    → IsNet (table_network t number top depth flits) → (x : ℕ) (by : By) (y : ℕ) → Leads t replies x by y → number x < number y
over_link t replies number top depth flits above net x (To j) y d = over_dependency t number top depth flits net x j y d
over_link t replies number top depth flits above net x Replied y d = above x y d

pub no_numbers : (t : Table) (replies : List Reply) (links : List Link) → IsCycle t replies links
    → (number : ℕ → ℕ) (top depth : ℕ) (flits : Flits) → RiseOver replies number → IsNet (table_network t number top depth flits) → ⊥
no_numbers t replies links cycle number top depth flits above net =
    let f : ℕ → ℕ = λ k. number (link_at links k).channel in
    let m : ℕ = length links - 1 in
    let over = over_link t replies number top depth flits above net in
    let up : (k : ℕ) → k < m → f k < f (suc k) =
    λ k l. (let here : f k < f (k + 1) =
    over (link_at links k).channel (link_at links k).by (link_at links (k + 1)).channel (cycle.each k (omega arith)) in
    let same : k + 1 ≡ suc k = omega arith in subst (λ z. f k < f z) same here) in
    around f m up (over (link_at links m).channel (link_at links m).by (link_at links 0).channel cycle.last)
  where
    around : (f : ℕ → ℕ) (m : ℕ) → ((k : ℕ) → k < m → f k < f (suc k)) → f m < f 0 → ⊥
    around f zero up last = omega arith
    around f (suc m) up last = let r = rises f (suc m) up m 0 (suc m) (omega arith) (omega arith) in omega arith

-- a way has no hop at its end
no_further : (t : Table) (i j n k : ℕ) → IsWay t i j n → IsUnderWay t i j k → n < k → ⊥
no_further t i j n k w u low =
    let some = some_step t i j n w in
    let hop = u.hops n some low in
    let end : kind_of t (place t j i n) ≡ Some Ejection = ap (kind_of t) w.arrives ∙ w.under_way.receiver in
    let bad : Some Hop ≡ Some Ejection = sym hop ∙ end in
    cc

-- at a step that the walk comes to, a way is at a hop or at its end
stands : (t : Table) (i j n k : ℕ) → IsWay t i j n → IsUnderWay t i j k → 0 < k → (kind_of t (place t j i k) ≡ Some Hop → ⊥)
    → (place t j i k ≡ j) × (kind_of t (place t j i k) ≡ Some Ejection)
stands t i j n k w u some other =
    elim (cases_order k n) [
      | inl e ↦ let here : place t j i k ≡ j = ap (place t j i) e ∙ w.arrives in (here, ap (kind_of t) here ∙ w.under_way.receiver)
      | inr g ↦ elim g [
        | inl l ↦ absurd (other (w.under_way.hops k some l))
        | inr l ↦ absurd (no_further t i j n k w u l)
      ]
    ]

pub no_way : (t : Table) (i j : ℕ) (why : Why) → FailsBy t i j why → (n : ℕ) → IsWay t i j n → ⊥
no_way t i j NoSender f n w = f w.under_way.sender
no_way t i j NoReceiver f n w = f w.under_way.receiver
no_way t i j (Leaves k) f n w =
    let e = f.2 in
    let s = stands t i j n k w f.0 f.1 (λ h. let bad : None ≡ Some Hop = sym e ∙ h in cc) in
    let bad : None ≡ Some Ejection = sym e ∙ s.1 in
    cc
no_way t i j (Ejects k) f n w =
    let e = f.2 in
    let s = stands t i j n k w f.0 f.1 (λ h. let bad : Some Ejection ≡ Some Hop = sym e ∙ h in cc) in
    f.3 s.0
no_way t i j (Injects k) f n w =
    let e = f.2 in
    let s = stands t i j n k w f.0 f.1 (λ h. let bad : Some Injection ≡ Some Hop = sym e ∙ h in cc) in
    let bad : Some Injection ≡ Some Ejection = sym e ∙ s.1 in
    cc
no_way t i j Round f n w = no_further t i j n (suc n) w (f (suc n)) (omega arith)
