-- Where packets come in a network whose routers choose, how many pairs they go between, and over how many hops.
use Rattle.std.proofs.Common.{◌≡◌, inl, inr, ⊎_elim, ℕ, zero, suc, ◌+◌, ◌*◌, ◌<◌, ◌≤◌, ◌&&◌, Bool, true, false, Some, None, List, [], ◌++◌, length, append_assoc, refl, sym, ◌∙◌, ap, subst, arith}
use Rattle.std.specs.Prelude.{if◌then◌else◌, slice_get, Option, IfSome, Result, Ok, Err, IfOk}
use Rattle.std.proofs.lemmas.Bool.{cases_lt, cases_Bool, and_parts, and_from, or_cases, or_left, or_right}
use Rattle.std.proofs.lemmas.Nat.{mul-le}
use Rattle.std.proofs.Math.Nat.{le-mul_of_pos_right, mul_comm}
use Rattle.network_judge.specs.declared.table.Kind.{Kind}
use Rattle.network_judge.specs.declared.table.Kind.TheVariants.{Injection, Hop, Ejection}
use Rattle.network_judge.specs.declared.table.Join.{Join}
use Rattle.network_judge.specs.declared.table.Reply.{Reply}
use Rattle.network_judge.specs.Table.{table_of, joins_of, is_sender, is_receiver}
use Rattle.network_judge.specs.TableNet.{Flits}
use Rattle.network_judge.specs.Marks.{is_marked_at}
use Rattle.network_adaptive.specs.Choices.{HasEscapes}
use Rattle.network_adaptive.specs.Choosing.{ChoiceTable, choosing_of, network, IsShaped}
use Rattle.network_adaptive.specs.Spread.{Path, Stop, Go}
use Rattle.network_adaptive.specs.Flags.{AreDown, AreComes, ComesTo}
use Rattle.network_adaptive.specs.Shape.{IsJudgedNet}
use Rattle.network_adaptive.specs.Travel.{IsTravel, step_to}
use Rattle.network_adaptive.specs.declared.verdict.Travel.{Travel}
use Rattle.network_adaptive.specs.declared.accepting.JudgedNet.{JudgedNet}
use Rattle.network_adaptive.specs.declared.accepting.JudgedNet.TheVariants.{WrongPair, WrongChoice, Judged}
use Rattle.network_adaptive.specs.declared.verdict.Verdict.TheVariants.{Rising, NoEscape, Cycle}
use Rattle.network_adaptive.proofs.Flags.{up_inside}
use Rattle.network_adaptive.proofs.Spreading.{path_up}
use Rattle.network_adaptive.proofs.Bridge.{step_goes, to_comes, comes_to, is_adaptive}
use Rattle.network_answer.specs.Totals.{count_below, pairs_to, IsCountOf, OfNone, OneMore, NotThis, IsHopReached, HasChosenTotals}
use Rattle.network_answer.specs.declared.totals.Totals.{Totals}
use Rattle.network_answer.specs.Reached.{AreEitherUp, AreReached, is_between, is_hop_up}
use Rattle.network_answer.specs.Routing.{can_go_on, judged_travel, IsLastText}
use Rattle.network_answer.specs.Answer.{totals_line}
use Rattle.network_text.specs.declared.reading.Reading as reading
use Rattle.network_answer.proofs.Counting.{count_same, count_none}
use Rattle.network_answer.proofs.Sized.{three_parts}

-- a format of flits
pub any_flits : Flits
any_flits = record { is_head = λ f. true; is_tail = λ f. true; told = λ f. 0 }

-- what follows of how far packets go, where that is found
pub if_travel : {E : Type 0} {P Q : Travel → Type 0} (r : Result Travel E) → ((x : Travel) → P x → Q x) → IfOk r P → IfOk r Q
if_travel (Ok x) f p = f x p
if_travel (Err e) f p = p

-- so many numbers pass a test
pub count_is : (p : ℕ → Bool) (n : ℕ) → IsCountOf (λ x. p x ≡ true) n (count_below p n)
count_is p zero = OfNone
count_is p (suc n) = elim (cases_Bool (p n)) [
  | inl up_here ↦
      let more : count_below p n + (if p n then 1 else 0) ≡ count_below p n + 1 = ap (λ (b : Bool). count_below p n + (if b then 1 else 0)) up_here in
      let next : count_below p n + (if p n then 1 else 0) ≡ suc (count_below p n) = omega arith in
      subst (λ c. IsCountOf (λ x. p x ≡ true) (suc n) c) (sym next) (OneMore n (count_below p n) (count_is p n) up_here)
  | inr not_here ↦
      let more : count_below p n + (if p n then 1 else 0) ≡ count_below p n + 0 = ap (λ (b : Bool). count_below p n + (if b then 1 else 0)) not_here in
      let same : count_below p n + (if p n then 1 else 0) ≡ count_below p n = omega arith in
      subst (λ c. IsCountOf (λ x. p x ≡ true) (suc n) c) (sym same)
      (NotThis n (count_below p n) (count_is p n) (λ is_up. let bad : true ≡ false = sym is_up ∙ not_here in cc))
]

-- as many have another property, where one holds with the other
pub count_alike : (P Q : ℕ → Type 0) → ((x : ℕ) → P x → Q x) → ((x : ℕ) → Q x → P x) → (n c : ℕ) → IsCountOf P n c → IsCountOf Q n c
count_alike P Q there back n c OfNone = OfNone
count_alike P Q there back n c (OneMore m k so p) = OneMore m k (count_alike P Q there back m k so) (there m p)
count_alike P Q there back n c (NotThis m k so isnt) = NotThis m k (count_alike P Q there back m k so) (λ q. isnt (back m q))

-- all pairs that there could be are no more than there are choices
pub all_fit : (a e n w len : ℕ) → a ≤ n → 0 < w → e * (n * w) ≤ len → a * e ≤ len
all_fit a e n w len low some room =
    let wide : n ≤ n * w = le-mul_of_pos_right n some in
    let up : e * a ≤ e * (n * w) = mul-le e a e (n * w) (omega arith) (omega arith) in
    let turned : a * e ≡ e * a = mul_comm a e in
    omega arith

hop_kind : (k : Option Kind) → is_between k ≡ true → k ≡ Some Hop
hop_kind None e = cc
hop_kind (Some Injection) e = cc
hop_kind (Some Hop) e = refl
hop_kind (Some Ejection) e = cc

module _ (kinds : List Kind) (joins : List Join) (step : ℕ → ℕ → ℕ → Bool) where
  module _ (senders : (i j : ℕ) → joins_of (table_of [] joins []) i j ≡ true → slice_get kinds i ≡ Some Injection)
      (outputs : (j x y : ℕ) → ComesTo joins (step j) j x → step j x y ≡ true → is_sender (slice_get kinds y) ≡ false) where
    -- packets come to an injection channel only where they begin in it
    begins : (j i x : ℕ) → joins_of (table_of [] joins []) i j ≡ true → Path (step j) i x → is_sender (slice_get kinds x) ≡ true → i ≡ x
    begins j i x joined Stop sends = refl
    begins j i x joined (Go y z p e) sends =
        absurd (let never : is_sender (slice_get kinds z) ≡ false = outputs j y z (i, joined, p) e in let bad : true ≡ false = sym sends ∙ never in cc)

    -- the injection channels that they come to are those of the pairs
    seen_joined : (j x : ℕ) (seen : List Bool) → AreComes kinds joins (step j) j seen
        → (is_sender (slice_get kinds x) && is_marked_at seen x) ≡ joins_of (table_of [] joins []) x j
    seen_joined j x seen are = elim (cases_Bool (joins_of (table_of [] joins []) x j)) [
      | inl there ↦ and_from (is_sender (slice_get kinds x)) (is_marked_at seen x) (ap is_sender (senders x j there)) (are.begin x there) ∙ sym there
      | inr gone ↦ elim (cases_Bool (is_sender (slice_get kinds x) && is_marked_at seen x)) [
        | inl both ↦
            let parts = and_parts (is_sender (slice_get kinds x)) (is_marked_at seen x) both in
            let come = are.only x parts.1 in
            let same = begins j come.0 x come.1 come.2 parts.0 in
            let there : joins_of (table_of [] joins []) x j ≡ true = subst (λ z. joins_of (table_of [] joins []) z j ≡ true) same come.1 in
            absurd (let bad : true ≡ false = sym there ∙ gone in cc)
        | inr neither ↦ neither ∙ sym gone
      ]
    ]

    -- so many pairs go to an ejection channel
    pub seen_count : (j m : ℕ) (seen : List Bool) → AreComes kinds joins (step j) j seen
        → m ≡ count_below (λ x. is_sender (slice_get kinds x) && is_marked_at seen (x * 1 + 0)) (length kinds) → m ≡ pairs_to joins (length kinds) j
    seen_count j m seen are is =
        is
        ∙ count_same (λ x. is_sender (slice_get kinds x) && is_marked_at seen (x * 1 + 0)) (λ x. joins_of (table_of [] joins []) x j) (length kinds)
        (λ x. ap (λ z. is_sender (slice_get kinds x) && is_marked_at seen z) (let one : x * 1 + 0 ≡ x = omega arith in one) ∙ seen_joined j x seen are)

  module _ (receivers : (i j : ℕ) → joins_of (table_of [] joins []) i j ≡ true → slice_get kinds j ≡ Some Ejection) where
    not_joined : (i j : ℕ) → is_receiver (slice_get kinds j) ≡ false → joins_of (table_of [] joins []) i j ≡ false
    not_joined i j other = elim (cases_Bool (joins_of (table_of [] joins []) i j)) [
      | inl there ↦ absurd (let bad : true ≡ false = sym (ap is_receiver (receivers i j there)) ∙ other in cc)
      | inr gone ↦ gone
    ]

    -- none goes to another channel
    pub none_to : (j n : ℕ) → is_receiver (slice_get kinds j) ≡ false → pairs_to joins n j ≡ 0
    none_to j n other = count_none (λ i. joins_of (table_of [] joins []) i j) n (λ i. not_joined i j other)

    -- no packets come to any channel on the way to it
    pub reached_skip : (j m : ℕ) (flags : List Bool) → m ≡ j + 1 → is_receiver (slice_get kinds j) ≡ false → AreReached kinds joins step j flags
        → AreReached kinds joins step m flags
    reached_skip j m flags e other r = record {
      size = r.size;
      only = λ x up. (let w = r.only x up in let low = w.1 in (w.0, omega arith, w.2));
      all = λ i x low come. elim (cases_lt i j) [
        | inl less ↦ r.all i x less come
        | inr high ↦
            let same : i ≡ j = omega arith in
            let joined : joins_of (table_of [] joins []) come.0 j ≡ true = subst (λ z. joins_of (table_of [] joins []) come.0 z ≡ true) same come.1 in
            absurd (let bad : true ≡ false = sym joined ∙ not_joined come.0 j other in cc)
      ];
    }

  -- no packets are looked at
  pub reached_none : (flags : List Bool) → AreDown flags → length flags ≡ length kinds → AreReached kinds joins step 0 flags
  reached_none flags down size = record {
    size = size;
    only = λ x up. absurd (let bad : true ≡ false = sym up ∙ down x in cc);
    all = λ j x low come. absurd (omega arith);
  }

  -- those of one channel more
  pub reached_more : (j m : ℕ) (flags seen all : List Bool) → m ≡ j + 1 → AreReached kinds joins step j flags
      → AreComes kinds joins (step j) j seen → AreEitherUp flags seen all → AreReached kinds joins step m all
  reached_more j m flags seen all e r are either = record {
    size = either.size ∙ r.size;
    only = λ x up.
        (let size = either.size in
        let inside = up_inside all x up in
        ⊎_elim
        (λ (old : is_marked_at flags x ≡ true). let w = r.only x old in let low = w.1 in (w.0, omega arith, w.2))
        (λ (new : is_marked_at seen x ≡ true). (j, omega arith, are.only x new))
        (or_cases (is_marked_at flags x) (is_marked_at seen x) (sym (either.each x (omega arith)) ∙ up)));
    all = λ i x low come. elim (cases_lt i j) [
      | inl less ↦
          let old = r.all i x less come in
          either.each x (up_inside flags x old) ∙ or_left (is_marked_at flags x) (is_marked_at seen x) old
      | inr high ↦
          let same : i ≡ j = omega arith in
          let here : ComesTo joins (step j) j x = subst (λ z. ComesTo joins (step z) z x) same come in
          let new = path_up (step j) seen here.0 x are.closed (are.begin here.0 here.1) here.2 in
          let size = are.size in
          let all_of = r.size in
          let inside = up_inside seen x new in
          either.each x (omega arith) ∙ or_right (is_marked_at flags x) (is_marked_at seen x) new
    ];
  }

module _ (t : ChoiceTable) (none : List Bool) (down : AreDown none) (shaped : IsShaped t) where
  -- no choice leads to an injection channel
  pub no_senders : (depth : ℕ) (flits : Flits) (j x y : ℕ) → ComesTo t.joins (step_to t.kinds t.choices t.ways none j) j x
      → step_to t.kinds t.choices t.ways none j x y ≡ true → is_sender (slice_get t.kinds y) ≡ false
  no_senders depth flits j x y come step =
      (is_adaptive t none down depth flits shaped).outputs j x y (to_comes t none down depth flits j x come) (step_goes t none down depth flits j x y step)

  -- packets come to so many hops
  pub hops_reached : (flags : List Bool) (count : ℕ) → AreReached t.kinds t.joins (step_to t.kinds t.choices t.ways none) (length t.kinds) flags
      → count ≡ count_below (is_hop_up t.kinds flags) (length t.kinds) → (depth : ℕ) (flits : Flits) → IsCountOf (IsHopReached t depth flits) (length t.kinds) count
  hops_reached flags count r is depth flits =
      subst (λ c. IsCountOf (IsHopReached t depth flits) (length t.kinds) c) (sym is)
      (count_alike (λ x. is_hop_up t.kinds flags x ≡ true) (IsHopReached t depth flits) there back (length t.kinds)
      (count_below (is_hop_up t.kinds flags) (length t.kinds)) (count_is (is_hop_up t.kinds flags) (length t.kinds)))
    where
      there : (x : ℕ) → is_hop_up t.kinds flags x ≡ true → IsHopReached t depth flits x
      there x up =
          let parts = and_parts (is_between (slice_get t.kinds x)) (is_marked_at flags x) up in
          let w = r.only x parts.1 in
          (hop_kind (slice_get t.kinds x) parts.0, (w.0, to_comes t none down depth flits w.0 x w.2))

      back : (x : ℕ) → IsHopReached t depth flits x → is_hop_up t.kinds flags x ≡ true
      back x hop =
          let j : ℕ = hop.1.0 in
          let come = comes_to t none down depth flits j x hop.1.1 in
          and_from (is_between (slice_get t.kinds x)) (is_marked_at flags x) (ap is_between hop.0)
          (r.all j x ((is_adaptive t none down depth flits shaped).ends come.0 j come.1) come)

module _ (t : ChoiceTable) (replies : List Reply) where
  -- the lists of a network in which packets can go on are those of a network
  pub on_shaped : {A : Type 0} (judged : JudgedNet A) → can_go_on judged ≡ true → IsJudgedNet t replies judged → IsShaped t
  on_shaped (WrongPair r) on is = cc
  on_shaped (WrongChoice c) on is = cc
  on_shaped (Judged v) on is = is.0

  -- and it has escapes
  pub on_escapes : {A : Type 0} (judged : JudgedNet A) → can_go_on judged ≡ true → IsJudgedNet t replies judged
      → (depth : ℕ) (flits : Flits) → HasEscapes (network t depth flits)
  on_escapes (WrongPair r) on is = cc
  on_escapes (WrongChoice c) on is = cc
  on_escapes (Judged (Rising numbers travel)) on is = λ depth flits. (is.1 depth flits).0
  on_escapes (Judged (NoEscape f)) on is = cc
  on_escapes (Judged (Cycle edges)) on is = λ depth flits. (is.1 depth flits).0

  -- how far packets go is known
  pub on_travel : {A : Type 0} (judged : JudgedNet A) → IsJudgedNet t replies judged
      → IfSome (judged_travel judged) (λ travel. (depth : ℕ) (flits : Flits) → IsTravel (network t depth flits) travel)
  on_travel (WrongPair r) is = tt
  on_travel (WrongChoice c) is = tt
  on_travel (Judged (Rising numbers travel)) is = λ depth flits. (is.1 depth flits).3
  on_travel (Judged (NoEscape f)) is = tt
  on_travel (Judged (Cycle edges)) is = tt

-- what holds of lists holds of the same lists
pub lists_moved : (P : List Kind → List Join → Type 0) (kinds of_kinds : List Kind) (joins of_joins : List Join) → kinds ≡ of_kinds → joins ≡ of_joins
    → P of_kinds of_joins → P kinds joins
lists_moved P kinds of_kinds joins of_joins one two holds = subst (λ k. P k joins) (sym one) (subst (λ j. P of_kinds j) (sym two) holds)

-- the line stands last where packets can go on, and else nothing
pub last_put : (on : Bool) (t : ChoiceTable) (totals : Totals) (text : List ℕ) → on ≡ true → HasChosenTotals t totals → text ≡ totals_line totals
    → IsLastText on t text
last_put on t totals text is holds told = subst (λ b. IsLastText b t text) (sym is) (record { totals = totals; holds = holds; is = told })

pub last_none : (on : Bool) (t : ChoiceTable) (text : List ℕ) → on ≡ false → text ≡ [] → IsLastText on t text
last_none on t text is told = subst (λ b. IsLastText b t text) (sym is) told

-- what stands last does so of the same lists
pub last_moved : {A : Type 0} (new old : reading.Reading A) (ways : ℕ) (choices listed : List ℕ) (flags marks : List Bool) (on : Bool)
    (last : List ℕ) → new ≡ old → choices ≡ listed → flags ≡ marks
    → IsLastText on (choosing_of new.kinds.items new.joins.items ways choices flags) last
    → IsLastText on (choosing_of old.kinds.items old.joins.items ways listed marks) last
last_moved new old ways choices listed flags marks on last same is marked stands =
    subst (λ (m : List Bool). IsLastText on (choosing_of old.kinds.items old.joins.items ways listed m) last) marked
    (subst (λ (c : List ℕ). IsLastText on (choosing_of old.kinds.items old.joins.items ways c flags) last) is
    (subst (λ f. IsLastText on (choosing_of f.kinds.items f.joins.items ways choices flags) last) same stands))

-- the four parts of a text
pub four_parts : (a b c d made more all : List ℕ) → made ≡ a ++ b → more ≡ made ++ c → all ≡ more ++ d → all ≡ a ++ (b ++ (c ++ d))
four_parts a b c d made more all is next last =
    last ∙ (ap (λ s. s ++ d) (three_parts a b c made more is next) ∙ (append_assoc a (b ++ c) d ∙ ap (λ s. a ++ s) (append_assoc b c d)))
