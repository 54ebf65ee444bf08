-- Graphs of functions and replies: what they lead on to, and the cycle of a circle.
use Rattle.std.proofs.Common.{◌≡◌, inl, inr, ℕ, ◌+◌, ◌-◌, ◌<◌, ◌≤◌, Bool, true, List, length, refl, sym, ◌∙◌, ap, subst, arith}
use Rattle.std.specs.Prelude.{◌==◌, if◌then◌else◌}
use Rattle.std.proofs.lemmas.Bool.{cases_lt, lt-ltb, le-ltb, eqb-true, eq-eqb}
use Rattle.std.proofs.lemmas.Option.{slice_get_within}
use Rattle.network_judge.specs.declared.table.By.{By}
use Rattle.network_judge.specs.declared.table.By.TheVariants.{To, Replied}
use Rattle.network_judge.specs.declared.table.Kind.TheVariants.{Injection, Ejection}
use Rattle.network_judge.specs.declared.table.Link.{Link}
use Rattle.network_judge.specs.declared.table.Reply.{Reply}
use Rattle.rising.specs.declared.search.Look.{Look}
use Rattle.network_judge.specs.Table.{Table, channels_of}
use Rattle.network_judge.specs.Replies.{reply_at, IsReply, AreReplies}
use Rattle.network_judge.specs.Cycles.{Depends, Leads, link_at, IsCycle}
use Rattle.rising.specs.Graph.{Digraph}
use Rattle.network_judge.specs.Graph.{either, graph_with}
use Rattle.rising.specs.Search.{path_look, StepsOn, IsCircuit, LeadsWithin}
use Rattle.network_judge.specs.Links.{by_of, link_of, AreLinks}

-- the first columns, and those behind them
pub either_low : {A : Type 0} → (n : ℕ) (f h : ℕ → A) (c : ℕ) → c < n → either n f h c ≡ f c
either_low n f h c low = ap (λ b. if b then f c else h (c - n)) (lt-ltb c n low)

pub either_high : {A : Type 0} → (n : ℕ) (f h : ℕ → A) (c : ℕ) → n ≤ c → either n f h c ≡ h (c - n)
either_high n f h c high = ap (λ b. if b then f c else h (c - n)) (le-ltb c n high)

-- a channel that leads on in a column behind the first ones does so by a reply
pub reply_leads : (replies : List Reply) (n : ℕ) (f : ℕ → Bool) (x c : ℕ) → n ≤ c → c < n + length replies
    → either n f (λ p. (reply_at replies p).from == x) c ≡ true → IsReply replies x (reply_at replies (c - n)).to
reply_leads replies n f x c high low e =
    let is : ((reply_at replies (c - n)).from == x) ≡ true = sym (either_high n f (λ p. (reply_at replies p).from == x) c high) ∙ e in
    record { place = c - n; here = omega arith; from = eqb-true (reply_at replies (c - n)).from x is; to = refl }

-- a reply is a column
pub record IsEdge (g : Digraph) (x y : ℕ) : Type 0 where
  pub column : ℕ
  pub low : column < g.columns
  pub leads : g.leads x column ≡ true
  pub after : g.after x column ≡ y

pub reply_edge : (replies : List Reply) (channels columns : ℕ) (f : ℕ → ℕ → Bool) (h : ℕ → ℕ → ℕ) (x y : ℕ)
    → IsReply replies x y → IsEdge (graph_with channels columns f h replies) x y
reply_edge replies channels columns f h x y r =
    let low = r.here in
    let c : ℕ = columns + r.place in
    let back : c - columns ≡ r.place = omega arith in
    record {
      column = c;
      low = omega arith;
      leads = either_high columns (f x) (λ p. (reply_at replies p).from == x) c (omega arith)
          ∙ (ap (λ p. (reply_at replies p).from == x) back ∙ eq-eqb (reply_at replies r.place).from x r.from);
      after = either_high columns (h x) (λ p. (reply_at replies p).to) c (omega arith) ∙ (ap (λ p. (reply_at replies p).to) back ∙ r.to);
    }

-- the ends of replies are channels
pub reply_from : (t : Table) (replies : List Reply) → AreReplies t replies → (x y : ℕ) → IsReply replies x y → x < channels_of t
reply_from t replies are x y r = slice_get_within t.kinds x Ejection (are x y r).0

pub reply_to : (t : Table) (replies : List Reply) → AreReplies t replies → (x y : ℕ) → IsReply replies x y → y < channels_of t
reply_to t replies are x y r = slice_get_within t.kinds y Injection (are x y r).1

-- where functions stay among the channels, so does the graph
pub stay_with : (t : Table) (replies : List Reply) (columns : ℕ) (f : ℕ → ℕ → Bool) (h : ℕ → ℕ → ℕ) → AreReplies t replies
    → ((x c : ℕ) → c < columns → f x c ≡ true → h x c < channels_of t)
    → LeadsWithin (graph_with (channels_of t) columns f h replies)
stay_with t replies columns f h are stay x c low e =
    elim (cases_lt c columns) [
      | inl less ↦ subst (λ z. z < channels_of t) (sym (either_low columns (h x) (λ p. (reply_at replies p).to) c less))
          (stay x c less (sym (either_low columns (f x) (λ p. (reply_at replies p).from == x) c less) ∙ e))
      | inr high ↦ subst (λ z. z < channels_of t) (sym (either_high columns (h x) (λ p. (reply_at replies p).to) c high))
          (reply_to t replies are x (reply_at replies (c - columns)).to (reply_leads replies columns (f x) x c high low e))
    ]

-- channels that lead around are a cycle, where the functions tell dependencies
pub cycle_with : (t : Table) (replies : List Reply) (channels columns : ℕ) (f : ℕ → ℕ → Bool) (h : ℕ → ℕ → ℕ)
    (to : ℕ → ℕ) (looks : List Look) (links : List Link)
    → ((x c y : ℕ) → c < columns → f x c ≡ true → h x c ≡ y → Depends t x (to c) y)
    → IsCircuit (graph_with channels columns f h replies) looks → AreLinks columns to looks links → IsCycle t replies links
cycle_with t replies channels columns f h to looks links depends c l =
    let size = l.size in
    let some = c.some in
    record {
      some = omega arith;
      each = λ k low. (let there = l.each (k + 1) (omega arith) in
          joined (link_at links k) (link_at links (k + 1)).channel (path_look looks k) (l.each k (omega arith))
          (subst (λ z. StepsOn (graph_with channels columns f h replies) (path_look looks k) z) (sym (ap (λ (v : Link). v.channel) there))
          (c.each k (omega arith))));
      last = (let there = l.each 0 (omega arith) in
          let same : length looks - 1 ≡ length links - 1 = omega arith in
          joined (link_at links (length links - 1)) (link_at links 0).channel (path_look looks (length links - 1)) (l.each (length links - 1) (omega arith))
          (subst (λ z. StepsOn (graph_with channels columns f h replies) (path_look looks z) (link_at links 0).channel) same
          (subst (λ z. StepsOn (graph_with channels columns f h replies) (path_look looks (length looks - 1)) z) (sym (ap (λ (v : Link). v.channel) there))
          c.last)));
    }
  where
    leads : (look : Look) (y : ℕ) → StepsOn (graph_with channels columns f h replies) look y → Leads t replies look.node (by_of columns to look.column) y
    leads look y l =
        let x : ℕ = look.node in
        let c : ℕ = look.column in
        elim (cases_lt c columns) [
          | inl low ↦ subst (λ (z : By). Leads t replies x z y) (sym (either_low columns (λ c. To (to c)) (λ p. Replied) c low))
              (depends x c y low (sym (either_low columns (f x) (λ p. (reply_at replies p).from == x) c low) ∙ l.marked)
              (sym (either_low columns (h x) (λ p. (reply_at replies p).to) c low) ∙ l.next))
          | inr high ↦ subst (λ (z : By). Leads t replies x z y) (sym (either_high columns (λ c. To (to c)) (λ p. Replied) c high))
              (subst (λ z. IsReply replies x z) (sym (either_high columns (h x) (λ p. (reply_at replies p).to) c high) ∙ l.next)
              (reply_leads replies columns (f x) x c high l.end l.marked))
        ]

    joined : (link : Link) (y : ℕ) (look : Look) → link ≡ link_of columns to look → StepsOn (graph_with channels columns f h replies) look y
        → Leads t replies link.channel link.by y
    joined link y look e l = subst (λ (v : Link). Leads t replies v.channel v.by y) (sym e) (leads look y l)
