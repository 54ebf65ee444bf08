-- Each table is judged: numbers, a cycle or a pair without a route.
use Rattle.std.proofs.Common.{◌≡◌, ◌⊎◌, inl, inr, ℕ, zero, suc, ◌<◌, ◌≤◌, Bool, true, false, Option, Some, None, List, length, refl, sym, ◌∙◌, subst, arith}
use Rattle.std.proofs.lemmas.Bool.{cases_lt, cases_eq}
use Rattle.network_judge.specs.declared.table.Kind.{Kind}
use Rattle.network_judge.specs.declared.table.Kind.TheVariants.{Injection, Hop, Ejection}
use Rattle.network_judge.specs.declared.table.Why.{Why}
use Rattle.network_judge.specs.declared.table.Why.TheVariants.{NoSender, NoReceiver, Leaves, Ejects, Injects, Round}
use Rattle.network_judge.specs.declared.table.Link.{Link}
use Rattle.network_judge.specs.declared.table.Reply.{Reply}
use Rattle.network_judge.specs.Table.{Table, channels_of, kind_of}
use Rattle.network_judge.specs.Ways.{place, IsUnderWay, IsWay, FailsBy}
use Rattle.network_judge.specs.Replies.{AreReplies}
use Rattle.network_judge.specs.Cycles.{IsCycle}
use Rattle.network_judge.specs.Verdicts.{AllArrive, IsNumbered, join_at}
use Rattle.network_judge.specs.Exactly.{HasFailure}
use Rattle.network_judge.proofs.Rounds.{round}
use Rattle.network_judge.proofs.Marking.{joined_at, place_of}
use Rattle.network_judge.proofs.Firsts.{fails, none, first, is_first}
use Rattle.network_judge.proofs.Acyclic.{cycle_or_numbers}

-- whether a kind is that of hops
abbrev is_hop : Option Kind → Bool
is_hop (Some Injection) = false
is_hop (Some Hop) = true
is_hop (Some Ejection) = false
is_hop None = false

hop_kind : (o : Option Kind) → is_hop o ≡ true → o ≡ Some Hop
hop_kind None e = cc
hop_kind (Some Injection) e = cc
hop_kind (Some Hop) e = refl
hop_kind (Some Ejection) e = cc

-- a walk is a route, or fails
abbrev Judged : Table → ℕ → ℕ → Type 0
Judged t i j = ((n : ℕ) × IsWay t i j n) ⊎ ((why : Why) × FailsBy t i j why)

walks : (t : Table) (i j : ℕ) → kind_of t i ≡ Some Injection → kind_of t j ≡ Some Ejection → Judged t i j
walks t i j sender receiver =
    let p : ℕ → Bool = λ k. is_hop (kind_of t (place t j i (suc k))) in
    let under : (n : ℕ) → ((m : ℕ) → m < n → p m ≡ true) → IsUnderWay t i j (suc n) =
    λ n h. record { sender = sender; receiver = receiver; hops = λ k some l. hops n h k some l } in
    elim (is_first p (channels_of t)) [
      | fails l f g ↦ stops (first p (channels_of t)) l (under (first p (channels_of t)) g) (kind_of t (place t j i (suc (first p (channels_of t))))) refl f
      | none e g ↦ inr (Round, round t i j (suc (first p (channels_of t))) (omega arith) (under (first p (channels_of t)) g))
    ]
  where
    hops : (n : ℕ) → ((m : ℕ) → m < n → is_hop (kind_of t (place t j i (suc m))) ≡ true) → (k : ℕ) → 0 < k → k < suc n → kind_of t (place t j i k) ≡ Some Hop
    hops n h zero some l = absurd (omega arith)
    hops n h (suc k) some l = hop_kind (kind_of t (place t j i (suc k))) (h k (omega arith))

    stops : (n : ℕ) → n < channels_of t → IsUnderWay t i j (suc n) → (o : Option Kind) → kind_of t (place t j i (suc n)) ≡ o → is_hop o ≡ false → Judged t i j
    stops n l u None e f = inr (Leaves (suc n), (u, omega arith, e))
    stops n l u (Some Injection) e f = inr (Injects (suc n), (u, omega arith, e))
    stops n l u (Some Hop) e f = cc
    stops n l u (Some Ejection) e f =
        elim (cases_eq (place t j i (suc n)) j) [
          | inl same ↦ inl (suc n, record { under_way = u; arrives = same; short = omega arith })
          | inr other ↦ inr (Ejects (suc n), (u, omega arith, e, other))
        ]

judged : (t : Table) (i j : ℕ) → Judged t i j
judged t i j = by (kind_of t i) (kind_of t j) refl refl
  where
    by : (a b : Option Kind) → kind_of t i ≡ a → kind_of t j ≡ b → Judged t i j
    by None b e f = inr (NoSender, λ h. let bad : None ≡ Some Injection = sym e ∙ h in cc)
    by (Some Hop) b e f = inr (NoSender, λ h. let bad : Some Hop ≡ Some Injection = sym e ∙ h in cc)
    by (Some Ejection) b e f = inr (NoSender, λ h. let bad : Some Ejection ≡ Some Injection = sym e ∙ h in cc)
    by (Some Injection) None e f = inr (NoReceiver, λ h. let bad : None ≡ Some Ejection = sym f ∙ h in cc)
    by (Some Injection) (Some Injection) e f = inr (NoReceiver, λ h. let bad : Some Injection ≡ Some Ejection = sym f ∙ h in cc)
    by (Some Injection) (Some Hop) e f = inr (NoReceiver, λ h. let bad : Some Hop ≡ Some Ejection = sym f ∙ h in cc)
    by (Some Injection) (Some Ejection) e f = walks t i j e f

-- the first pairs have routes, or one of them has none
pairs : (t : Table) (n : ℕ) → n ≤ length t.joins → ((p : ℕ) → p < n → (m : ℕ) × IsWay t (join_at t p).from (join_at t p).to m) ⊎ HasFailure t
pairs t zero low = inl (λ p l. absurd (omega arith))
pairs t (suc n) low =
    elim (pairs t n (omega arith)) [
      | inl ways ↦ elim (judged t (join_at t n).from (join_at t n).to) [
        | inl way ↦ inl (λ p l. elim (cases_lt p n) [
          | inl less ↦ ways p less
          | inr more ↦ (let same : n ≡ p = omega arith in subst (λ z. (m : ℕ) × IsWay t (join_at t z).from (join_at t z).to m) same way)
        ])
        | inr f ↦ inr (record {
          from = (join_at t n).from;
          to = (join_at t n).to;
          why = f.0;
          joined = joined_at t n (join_at t n).from (join_at t n).to (omega arith) refl refl;
          fails = f.1;
        })
      ]
      | inr fault ↦ inr fault
    ]

arrive_or_fault : (t : Table) → AllArrive t ⊎ HasFailure t
arrive_or_fault t =
    elim (pairs t (length t.joins) (omega arith)) [
      | inl ways ↦ inl (λ i j joined. (let p = place_of t i j joined in
          let w = ways p.0 p.1.below in
          (w.0, subst (λ z. IsWay t i z w.0) p.1.to (subst (λ z. IsWay t z (join_at t p.0).to w.0) p.1.from w.1))))
      | inr fault ↦ inr fault
    ]

-- each table is judged
pub is_judged : (t : Table) (replies : List Reply) → AreReplies t replies
    → ((numbers : List ℕ) × IsNumbered t replies numbers) ⊎ (((links : List Link) × IsCycle t replies links) ⊎ HasFailure t)
is_judged t replies are =
    elim (arrive_or_fault t) [
      | inl arrive ↦ elim (cycle_or_numbers t replies are arrive) [ inl cycle ↦ inr (inl cycle) | inr numbers ↦ inl numbers ]
      | inr fault ↦ inr (inr fault)
    ]
