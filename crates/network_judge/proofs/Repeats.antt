-- The links of a cycle, cut where a channel has two of them.
use Rattle.std.proofs.Common.{◌≡◌, ◌≢◌, inl, inr, ℕ, suc, ◌+◌, ◌-◌, ◌<◌, ◌≤◌, List, length, take, drop, set, refl, sym, ◌∙◌, ap, subst, arith}
use Rattle.std.specs.Prelude.{slice_index}
use Rattle.std.proofs.lemmas.Bool.{cases_lt, cases_eq}
use Rattle.std.proofs.lemmas.Option.{slice_get_within}
use Rattle.std.proofs.lemmas.List.{length-set, get_or-set_same, get_or-set_other, length-drop, length-take-le, get_or-drop, get_or-take}
use Rattle.network_judge.specs.declared.table.Kind.{Kind}
use Rattle.network_judge.specs.declared.table.Kind.TheVariants.{Ejection}
use Rattle.network_judge.specs.declared.table.Reply.{Reply}
use Rattle.network_judge.specs.declared.table.Link.{Link}
use Rattle.network_judge.specs.declared.table.By.{By}
use Rattle.network_judge.specs.declared.table.By.TheVariants.{To, Replied}
use Rattle.network_judge.specs.Table.{Table, channels_of}
use Rattle.network_judge.specs.Replies.{AreReplies}
use Rattle.network_judge.specs.Verdicts.{AllArrive}
use Rattle.network_judge.specs.Cycles.{Leads, link_at, IsCycle}
use Rattle.network_judge.specs.Spans.{AreOfDistinctChannels}
use Rattle.network_judge.proofs.Passing.{dependency_passes}
use Rattle.network_judge.proofs.Still.{on_within}

-- the place of each channel's link among the first ones, counted from 1, and 0 where it has none
pub record ArePlaces (kinds : List Kind) (links : List Link) (n : ℕ) (places : List ℕ) : Type 0 where
  pub size : length places ≡ length kinds
  pub some : (x k : ℕ) → slice_index places x ≡ suc k → (k < n) × ((link_at links k).channel ≡ x)
  pub noted : (k : ℕ) → k < n → slice_index places (link_at links k).channel ≡ suc k

-- no two of the first links are of one channel
pub first_distinct : (kinds : List Kind) (links : List Link) (n : ℕ) (places : List ℕ) → ArePlaces kinds links n places
    → (j k : ℕ) → j < k → k < n → (link_at links j).channel ≢ (link_at links k).channel
first_distinct kinds links n places r j k less low = λ same.
    (let one = r.noted j (omega arith) in
    let two = r.noted k low in
    let both : slice_index places (link_at links j).channel ≡ slice_index places (link_at links k).channel = ap (slice_index places) same in
    absurd (omega arith))

-- one link more
pub places_more : (kinds : List Kind) (links : List Link) (n x number : ℕ) (places : List ℕ) → ArePlaces kinds links n places
    → (link_at links n).channel ≡ x → x < length kinds → slice_index places x ≡ 0 → number ≡ suc n → ArePlaces kinds links (n + 1) (set places x number)
places_more kinds links n x number places r here inside free one =
    let size = r.size in
    let now : slice_index (set places x number) x ≡ number = get_or-set_same places x number 0 (omega arith) in
    record {
      size = length-set places x number ∙ r.size;
      some = λ y k e. elim (cases_eq y x) [
        | inl same ↦ (let is : number ≡ suc k = sym now ∙ (ap (slice_index (set places x number)) (sym same) ∙ e) in
            let at : n ≡ k = omega arith in
            (omega arith, ap (λ z. (link_at links z).channel) (sym at) ∙ (here ∙ sym same)))
        | inr apart ↦ (let w = r.some y k (sym (get_or-set_other places x y number 0 apart) ∙ e) in let low = w.0 in (omega arith, w.1))
      ];
      noted = λ k low. elim (cases_lt k n) [
        | inl less ↦ (let was = r.noted k less in
            let apart : (link_at links k).channel ≢ x = λ e. (let z : slice_index places (link_at links k).channel ≡ 0 = ap (slice_index places) e ∙ free in absurd (omega arith)) in
            get_or-set_other places x (link_at links k).channel number 0 apart ∙ was)
        | inr more ↦ (let at : k ≡ n = omega arith in
            ap (λ z. slice_index (set places x number) (link_at links z).channel) at
            ∙ (ap (slice_index (set places x number)) here ∙ (now ∙ (one ∙ ap (λ z. suc z) (sym at)))))
      ];
    }

-- the links from one place on to before another
abbrev pub between : List Link → ℕ → ℕ → List Link
between links a b = take (b - a) (drop a links)

link_between : (links : List Link) (a b k : ℕ) → k < b - a → link_at (between links a b) k ≡ link_at links (a + k)
link_between links a b k low = get_or-take (b - a) (drop a links) k _ low ∙ get_or-drop a links k _

length_between : (links : List Link) (a b : ℕ) → a ≤ b → b ≤ length links → length (between links a b) ≡ b - a
length_between links a b order within =
    let all : length (drop a links) ≡ length links - a = length-drop a links in
    length-take-le (b - a) (drop a links) (omega arith)

module _ (t : Table) (replies : List Reply) (links : List Link) (cycle : IsCycle t replies links) where
  lead : (k m : ℕ) → m ≡ suc k → m < length links → Leads t replies (link_at links k).channel (link_at links k).by (link_at links m).channel
  lead k m next low =
      let one : k + 1 ≡ m = omega arith in
      subst (λ z. Leads t replies (link_at links k).channel (link_at links k).by (link_at links z).channel) one (cycle.each k (omega arith))

  -- between two links of one channel they are a cycle
  pub cycle_between : (a b : ℕ) → a < b → b < length links → (link_at links a).channel ≡ (link_at links b).channel
      → IsCycle t replies (between links a b)
  cycle_between a b less low same =
      let size : length (between links a b) ≡ b - a = length_between links a b (omega arith) (omega arith) in
      record {
        some = omega arith;
        each = λ k inside.
            (let here : link_at (between links a b) k ≡ link_at links (a + k) = link_between links a b k (omega arith) in
            let after : link_at (between links a b) (k + 1) ≡ link_at links (a + (k + 1)) = link_between links a b (k + 1) (omega arith) in
            subst (λ (l : Link). Leads t replies l.channel l.by (link_at (between links a b) (k + 1)).channel) (sym here)
            (subst (λ (l : Link). Leads t replies (link_at links (a + k)).channel (link_at links (a + k)).by l.channel) (sym after)
            (lead (a + k) (a + (k + 1)) (omega arith) (omega arith))));
        last =
            (let here : link_at (between links a b) (b - a - 1) ≡ link_at links (a + (b - a - 1)) = link_between links a b (b - a - 1) (omega arith) in
            let first : link_at (between links a b) 0 ≡ link_at links (a + 0) = link_between links a b 0 (omega arith) in
            let zero_is : a + 0 ≡ a = omega arith in
            let begin_is : (link_at links b).channel ≡ (link_at (between links a b) 0).channel =
            sym same ∙ (ap (λ z. (link_at links z).channel) (sym zero_is) ∙ sym (ap (λ (l : Link). l.channel) first)) in
            let end : b - a - 1 ≡ length (between links a b) - 1 = omega arith in
            subst (λ z. Leads t replies (link_at (between links a b) z).channel (link_at (between links a b) z).by (link_at (between links a b) 0).channel) end
            (subst (λ (l : Link). Leads t replies l.channel l.by (link_at (between links a b) 0).channel) (sym here)
            (subst (Leads t replies (link_at links (a + (b - a - 1))).channel (link_at links (a + (b - a - 1))).by) begin_is
            (lead (a + (b - a - 1)) b (omega arith) low))));
      }

-- and of distinct channels
pub distinct_between : (links : List Link) (a b : ℕ) → a ≤ b → b ≤ length links
    → ((j k : ℕ) → j < k → k < b → (link_at links j).channel ≢ (link_at links k).channel) → AreOfDistinctChannels (between links a b)
distinct_between links a b order within apart =
    let size : length (between links a b) ≡ b - a = length_between links a b order within in
    λ j k less low. λ same.
    (let one : link_at (between links a b) j ≡ link_at links (a + j) = link_between links a b j (omega arith) in
    let two : link_at (between links a b) k ≡ link_at links (a + k) = link_between links a b k (omega arith) in
    apart (a + j) (a + k) (omega arith) (omega arith)
    (sym (ap (λ (l : Link). l.channel) one) ∙ (same ∙ ap (λ (l : Link). l.channel) two)))

-- the channels of a cycle are channels
pub cycle_within : (t : Table) (replies : List Reply) (links : List Link) → AllArrive t → AreReplies t replies → IsCycle t replies links
    → (k : ℕ) → k < length links → (link_at links k).channel < channels_of t
cycle_within t replies links arrive are cycle k low = elim (cases_lt (suc k) (length links)) [
  | inl less ↦ within (link_at links k).channel (link_at links k).by (link_at links (suc k)).channel (lead t replies links cycle k (suc k) refl less)
  | inr more ↦ (let same : length links - 1 ≡ k = omega arith in
      within (link_at links k).channel (link_at links k).by (link_at links 0).channel
      (subst (λ z. Leads t replies (link_at links z).channel (link_at links z).by (link_at links 0).channel) same cycle.last))
]
  where
    within : (x : ℕ) (by : By) (y : ℕ) → Leads t replies x by y → x < channels_of t
    within x (To j) y d =
        let p = dependency_passes t arrive x j y d in
        let h = p.0 in
        let low = h.before in
        subst (λ z. z < channels_of t) h.here (on_within t h.from j h.steps h.way h.step (omega arith))
    within x Replied y r = slice_get_within t.kinds x Ejection (are x y r).0
