-- A guard holds operations back exactly while one has been out for too long.
use Rattle.std.proofs.Common.{◌≡◌, ⊎_elim, inl, inr, ℕ, zero, suc, ◌+◌, ◌-◌, ◌^◌, ◌<◌, ◌≤◌, ◌==◌, min, Bool, true, false, List, length, replicate, Option, Some, None, refl, sym, ◌∙◌, ap, subst, arith}
use Rattle.std.proofs.Common.{slice_index, []}
use Rattle.std.proofs.lemmas.List.{length-replicate, get_or-replicate}
use Rattle.std.specs.Prelude.{nat_lt, nat_le, if◌then◌else◌}
use Rattle.std.proofs.lemmas.Bool.{cases_lt, lt-ltb, ltb-true, le-leb, lt-leb, ne_eqb}
use Rattle.std.proofs.lemmas.Option.{get_or_from_slice_get}
use Rattle.torus.specs.Shape.{Shape, tiles_of}
use Rattle.torus.specs.declared.step.OpId.{OpId}
use Rattle.one_order.specs.Observed.{list_at, IsFirst}
use Rattle.core_laws.specs.Machine.{Core}
use Rattle.machine_core.specs.Oldest.{oldest}
use Rattle.machine_core.proofs.Orders.{oldest_is}
use Rattle.fair_rounds.specs.Guard.{Guarding, guard_of, counted, issue_count, tag_holder, since_of, with_first, row_seen, seen, least_of, oldest_in, holds, guard_after}
use Rattle.fair_rounds.specs.Hosts.{IsOut, WaitsLonger, AreSuccessive, SeesMachines}
use Rattle.fair_rounds.proofs.Firsts.{same_length, changed_at}
use Rattle.fair_rounds.proofs.GuardOut.{holder_out, get_held, tag_low}
use Rattle.fair_rounds.proofs.Holders.{IsTold, HasTag}
use Rattle.fair_rounds.proofs.InTurn.{record_in, count_shown, out_is, is_out, every_holds, stage_at, one_on, goes_between, shape_is}
use Rattle.fair_rounds.proofs.LeastOut.{all_most, all_below, Attains, all_found}
use Rattle.fair_rounds.proofs.Lines.{Stage}
use Rattle.fair_rounds.proofs.TwoRounds.{processor_low}

counted_is : (n limit : ℕ) → suc n < limit → min (n + 1) (limit - 1) ≡ suc n
counted_is n limit low = omega (arith, low)

module _ (most : ℕ) (c : ℕ → Core) (g : ℕ → Guarding) (turn : AreSuccessive c) (start : Stage (c 0)) (given : SeesMachines most c g) where
  abbrev tiles : ℕ
  tiles = tiles_of (c 0).shape

  abbrev stage : (k : ℕ) → Stage (c k)
  stage k = stage_at c turn start k

  abbrev issued_at : ℕ → ℕ → ℕ
  issued_at k p = length (record_in (c k) p).issued

  -- the first machine in which an operation is issued
  abbrev Since : ℕ → ℕ → ℕ → Type 0
  Since p i s = IsFirst (λ m. i < length (record_in (c m) p).issued) s

  abbrev since_at : Guarding → ℕ → ℕ → ℕ
  since_at w p t = slice_index (list_at w.since p) t

  few_tiles : tiles_of (c 0).shape ≤ 64
  few_tiles =
      let few = ((start.after).accepted).shape.tiles in
      let same : tiles_of (c 0).shape ≡ tiles_of (start.load).shape = ap tiles_of (start.after).shape in
      omega (arith, few, same)

  more : (j k p : ℕ) → j ≤ k → issued_at j p ≤ issued_at k p
  more j k p low = (goes_between c turn start j k p low).issued

  -- what a guard knows before it is given the machine of a round
  pub record Knows (k : ℕ) : Type 0 where
    pub rounds : (g k).rounds ≡ k
    pub most_is : (g k).most ≡ most
    pub rows : length (g k).since ≡ 64
    pub row : (p : ℕ) → p < tiles_of (c 0).shape → length (list_at (g k).since p) ≡ 16
    pub counts : length (g k).issued ≡ 64
    pub none : (m p : ℕ) → p < tiles_of (c 0).shape → m < k → issued_at m p ≤ slice_index (g k).issued p
    pub old : (p t i : ℕ) → p < tiles_of (c 0).shape → t < 16 → i < slice_index (g k).issued p → HasTag (record_in (c k) p) t i
        → Since p i (since_at (g k) p t) × ((g k).oldest ≤ since_at (g k) p t)
    pub oldest_low : (g k).oldest ≤ k

  -- who holds a tag is out, under a low tag of a processor that is there
  out_at : (k p t i : ℕ) → HasTag (record_in (c k) p) t i → IsOut (c k) p i
  out_at k p t i h = holder_out (c k) (stage k) p t (record { 0 = i }) (get_or_from_slice_get (record_in (c k) p).tags t (Some (record { 0 = i })) None h)

  there_at : (k p i : ℕ) → IsOut (c k) p i → p < tiles_of (c 0).shape
  there_at k p i out =
      subst (λ (s : Shape). p < tiles_of s) (shape_is c turn start k) (processor_low oldest oldest_is (c k) (stage k) p i out)

  few_at : (k p t i : ℕ) → HasTag (record_in (c k) p) t i → t < 16
  few_at k p t i h =
      tag_low (c k) (stage k) p t (record { 0 = i }) (processor_low oldest oldest_is (c k) (stage k) p i (out_at k p t i h))
      (get_or_from_slice_get (record_in (c k) p).tags t (Some (record { 0 = i })) None h)

  module _ (k : ℕ) (known : Knows k) where
    abbrev w : Guarding
    w = seen (g k) (c k)

    row_is : (p : ℕ) → p < tiles_of (c 0).shape → list_at (seen (g k) (c k)).since p ≡ row_seen (g k) (c k) p (list_at (g k).since p)
    row_is p low =
        let few = few_tiles in
        let rows = known.rows in
        changed_at (row_seen (g k) (c k)) [] (tiles_of (c k).shape) p (g k).since
        (subst (λ (s : Shape). p < tiles_of s) (sym (shape_is c turn start k)) low) (omega (arith, few, rows, low))

    issued_is : (p : ℕ) → p < tiles_of (c 0).shape → slice_index (seen (g k) (c k)).issued p ≡ issued_at k p
    issued_is p low =
        let few = few_tiles in
        let counts = known.counts in
        changed_at (λ q n. issue_count (c k) q) 0 (tiles_of (c k).shape) p (g k).issued
        (subst (λ (s : Shape). p < tiles_of s) (sym (shape_is c turn start k)) low) (omega (arith, few, counts, low))
        ∙ count_shown (c k) p

    row_long : (p : ℕ) → p < tiles_of (c 0).shape → length (list_at (seen (g k) (c k)).since p) ≡ 16
    row_long p low =
        ap (λ (xs : List ℕ). length xs) (row_is p low) ∙ by_count (issue_count (c k) p == slice_index (g k).issued p)
      where
        by_count : (b : Bool) → length (if b then list_at (g k).since p
            else with_first 16 (λ t s. since_of (tag_holder (c k) p t) (slice_index (g k).issued p) (g k).rounds s) 0 (list_at (g k).since p)) ≡ 16
        by_count true = known.row p low
        by_count false = same_length (λ t s. since_of (tag_holder (c k) p t) (slice_index (g k).issued p) (g k).rounds s) 0 16 0 (list_at (g k).since p) ∙ known.row p low

    -- an entry, once the machine is seen
    entry : (p t i : ℕ) → p < tiles_of (c 0).shape → t < 16 → HasTag (record_in (c k) p) t i
        → (if issue_count (c k) p == slice_index (g k).issued p then since_at (g k) p t
        else (if nat_le (slice_index (g k).issued p) i then (g k).rounds else since_at (g k) p t)) ≡ since_at (seen (g k) (c k)) p t
    entry p t i low few h =
        by_count (issue_count (c k) p == slice_index (g k).issued p) ∙ sym (ap (λ (xs : List ℕ). slice_index xs t) (row_is p low))
      where
        held : tag_holder (c k) p t ≡ Some (record { 0 = i })
        held = get_or_from_slice_get (record_in (c k) p).tags t (Some (record { 0 = i })) None h

        by_count : (b : Bool) → (if b then since_at (g k) p t else (if nat_le (slice_index (g k).issued p) i then (g k).rounds else since_at (g k) p t))
            ≡ slice_index (if b then list_at (g k).since p
            else with_first 16 (λ t s. since_of (tag_holder (c k) p t) (slice_index (g k).issued p) (g k).rounds s) 0 (list_at (g k).since p)) t
        by_count true = refl
        by_count false =
            sym (changed_at (λ t s. since_of (tag_holder (c k) p t) (slice_index (g k).issued p) (g k).rounds s) 0 16 t (list_at (g k).since p) few
            (let long = known.row p low in omega (arith, long, few))
            ∙ ap (λ (o : Option OpId). since_of o (slice_index (g k).issued p) (g k).rounds (since_at (g k) p t)) held)

    -- since when an operation has been out that is out now
    now_since : (p t i : ℕ) → HasTag (record_in (c k) p) t i
        → Since p i (since_at (seen (g k) (c k)) p t) × ((g k).oldest ≤ since_at (seen (g k) (c k)) p t)
    now_since p t i h =
        let out = out_at k p t i h in
        let low = there_at k p i out in
        let few = few_at k p t i h in
        let issued = (out_is (c k) p i out).0 in
        let count = count_shown (c k) p in
        elim (cases_lt i (slice_index (g k).issued p)) [
          | inl before ↦
              (let same : since_at (g k) p t ≡ since_at (seen (g k) (c k)) p t =
              by_count p t i (issue_count (c k) p == slice_index (g k).issued p) (lt-leb (slice_index (g k).issued p) i before) ∙ entry p t i low few h in
              subst (λ (s : ℕ). Since p i s × ((g k).oldest ≤ s)) same (known.old p t i low few before h))
          | inr new ↦
              (let other : (issue_count (c k) p == slice_index (g k).issued p) ≡ false =
              ne_eqb (issue_count (c k) p) (slice_index (g k).issued p) (λ e. omega (arith, e, new, issued, count)) in
              let same : k ≡ since_at (seen (g k) (c k)) p t =
              sym known.rounds ∙ (sym (ap (λ (b : Bool). if b then since_at (g k) p t else (if nat_le (slice_index (g k).issued p) i then (g k).rounds else since_at (g k) p t)) other
              ∙ ap (λ (b : Bool). if b then (g k).rounds else since_at (g k) p t) (le-leb (slice_index (g k).issued p) i new)) ∙ entry p t i low few h) in
              subst (λ (s : ℕ). Since p i s × ((g k).oldest ≤ s)) same
              (record { holds = issued; not_before = λ m less more. let few = known.none m p low less in omega (arith, few, more, new) }, known.oldest_low))
        ]
      where
        by_count : (p t i : ℕ) (b : Bool) → nat_le (slice_index (g k).issued p) i ≡ false → since_at (g k) p t
            ≡ (if b then since_at (g k) p t else (if nat_le (slice_index (g k).issued p) i then (g k).rounds else since_at (g k) p t))
        by_count p t i true is = refl
        by_count p t i false is = sym (ap (λ (x : Bool). if x then (g k).rounds else since_at (g k) p t) is)

    -- no operation that is out has been out since before the oldest round
    oldest_below : (p t i : ℕ) → HasTag (record_in (c k) p) t i → oldest_in (g k) (c k) ≤ since_at (seen (g k) (c k)) p t
    oldest_below p t i h = by_search (nat_lt (g k).most ((g k).rounds - (g k).oldest))
      where
        by_search : (b : Bool) → (if b then least_of (c k) (seen (g k) (c k)).since (tiles_of (c k).shape) (g k).rounds else (g k).oldest)
            ≤ since_at (seen (g k) (c k)) p t
        by_search true =
            all_below (c k) (seen (g k) (c k)).since (tiles_of (c k).shape) (g k).rounds p t (record { 0 = i })
            (processor_low oldest oldest_is (c k) (stage k) p i (out_at k p t i h)) (few_at k p t i h)
            (get_or_from_slice_get (record_in (c k) p).tags t (Some (record { 0 = i })) None h)
        by_search false = (now_since p t i h).1

    oldest_most : oldest_in (g k) (c k) ≤ k
    oldest_most = by_search (nat_lt (g k).most ((g k).rounds - (g k).oldest))
      where
        by_search : (b : Bool) → (if b then least_of (c k) (seen (g k) (c k)).since (tiles_of (c k).shape) (g k).rounds else (g k).oldest) ≤ k
        by_search true =
            let few = all_most (c k) (seen (g k) (c k)).since (tiles_of (c k).shape) (g k).rounds in
            let rounds = known.rounds in
            omega (arith, few, rounds)
        by_search false = known.oldest_low

    -- and it knows as much before the next
    pub knows_more : suc k < 2 ^ 64 → Knows (suc k)
    knows_more low =
        let e : g (suc k) ≡ guard_after (g k) (c k) = given.next k in
        record {
          rounds = ap (λ (x : Guarding). x.rounds) e ∙ (ap counted known.rounds ∙ counted_is k (2 ^ 64) low);
          most_is = ap (λ (x : Guarding). x.most) e ∙ known.most_is;
          rows = ap (λ (x : Guarding). length x.since) e ∙ (same_length (row_seen (g k) (c k)) [] (tiles_of (c k).shape) 0 (g k).since ∙ known.rows);
          row = λ p here. ap (λ (x : Guarding). length (list_at x.since p)) e ∙ row_long p here;
          counts = ap (λ (x : Guarding). length x.issued) e
              ∙ (same_length (λ q n. issue_count (c k) q) 0 (tiles_of (c k).shape) 0 (g k).issued ∙ known.counts);
          none = λ m p here less.
              let now : slice_index (g (suc k)).issued p ≡ issued_at k p = ap (λ (x : Guarding). slice_index x.issued p) e ∙ issued_is p here in
              let grows = more m k p (omega (arith, less)) in
              omega (arith, now, grows);
          old = λ p t i here few less h.
              let now : slice_index (g (suc k)).issued p ≡ issued_at k p = ap (λ (x : Guarding). slice_index x.issued p) e ∙ issued_is p here in
              let held : HasTag (record_in (c k) p) t i = ⊎_elim
              (λ (x : HasTag (record_in (c k) p) t i). x)
              (λ (new : issued_at k p ≤ i). absurd (omega (arith, new, less, now)))
              ((one_on c turn start k p).holders t i h) in
              let s : since_at (seen (g k) (c k)) p t ≡ since_at (g (suc k)) p t = sym (ap (λ (x : Guarding). since_at x p t) e) in
              let o : oldest_in (g k) (c k) ≡ (g (suc k)).oldest = sym (ap (λ (x : Guarding). x.oldest) e) in
              let below = oldest_below p t i held in
              (subst (Since p i) s (now_since p t i held).0, omega (arith, below, s, o));
          oldest_low =
              let o : oldest_in (g k) (c k) ≡ (g (suc k)).oldest = sym (ap (λ (x : Guarding). x.oldest) e) in
              let few = oldest_most in
              omega (arith, o, few);
        }

    -- one that waits
    waits : Attains (c k) (seen (g k) (c k)).since (least_of (c k) (seen (g k) (c k)).since (tiles_of (c k).shape) (g k).rounds) (tiles_of (c k).shape)
        → (g k).most < (g k).rounds - least_of (c k) (seen (g k) (c k)).since (tiles_of (c k).shape) (g k).rounds → WaitsLonger most c k
    waits a long =
        let p : ℕ = a.processor in
        let t : ℕ = a.tag in
        let i : ℕ = (a.id).0 in
        let out : IsOut (c k) a.processor (a.id).0 = holder_out (c k) (stage k) a.processor a.tag a.id a.held in
        let h : HasTag (record_in (c k) a.processor) a.tag (a.id).0 = get_held (record_in (c k) a.processor).tags a.tag a.id a.held in
        let first = (now_since a.processor a.tag (a.id).0 h).0 in
        let is = a.is in
        let rounds = known.rounds in
        let limit = known.most_is in
        record {
          processor = a.processor;
          index = (a.id).0;
          since = since_at (seen (g k) (c k)) a.processor a.tag;
          long = omega (arith, long, is, rounds, limit);
          out = λ m from to. is_out (c m) a.processor (a.id).0
              (let begun = first.holds in let grows = more (since_at (seen (g k) (c k)) a.processor a.tag) m a.processor from in omega (arith, begun, grows))
              (λ told. (out_is (c k) a.processor (a.id).0 out).1 ((goes_between c turn start m k a.processor to).told (a.id).0 told));
        }

    pub held_waits : holds (g k) (c k) ≡ true → WaitsLonger most c k
    held_waits is = by_search (nat_lt (g k).most ((g k).rounds - (g k).oldest)) refl is
      where
        by_search : (b : Bool) → nat_lt (g k).most ((g k).rounds - (g k).oldest) ≡ b
            → nat_lt (g k).most ((g k).rounds - (if b then least_of (c k) (seen (g k) (c k)).since (tiles_of (c k).shape) (g k).rounds else (g k).oldest)) ≡ true
            → WaitsLonger most c k
        by_search true old is =
            let long = ltb-true (g k).most ((g k).rounds - least_of (c k) (seen (g k) (c k)).since (tiles_of (c k).shape) (g k).rounds) is in
            ⊎_elim
            (λ (none : least_of (c k) (seen (g k) (c k)).since (tiles_of (c k).shape) (g k).rounds ≡ (g k).rounds). absurd (omega (arith, none, long)))
            (λ (a : Attains (c k) (seen (g k) (c k)).since (least_of (c k) (seen (g k) (c k)).since (tiles_of (c k).shape) (g k).rounds) (tiles_of (c k).shape)). waits a long)
            (all_found (c k) (seen (g k) (c k)).since (tiles_of (c k).shape) (g k).rounds)
        by_search false old is = let clash : ◌≡◌ {A = Bool} false true = sym old ∙ is in absurd (cc)

    pub waits_held : WaitsLonger most c k → holds (g k) (c k) ≡ true
    waits_held w =
        let long = w.long in
        let now = out_is (c k) w.processor w.index (w.out k (omega (arith, long)) (omega arith)) in
        let begun = out_is (c w.since) w.processor w.index (w.out w.since (omega arith) (omega (arith, long))) in
        let tag : (t : ℕ) × HasTag (record_in (c k) w.processor) t w.index = ⊎_elim
        (λ (told : IsTold (record_in (c k) w.processor) w.index). absurd (now.1 told))
        (λ (h : (t : ℕ) × HasTag (record_in (c k) w.processor) t w.index). h)
        (every_holds (c k) (stage k) w.processor w.index now.0) in
        let first = (now_since w.processor tag.0 w.index tag.1).0 in
        let below = oldest_below w.processor tag.0 w.index tag.1 in
        let rounds = known.rounds in
        let limit = known.most_is in
        let late : since_at (seen (g k) (c k)) w.processor tag.0 ≤ w.since = elim (cases_lt w.since (since_at (seen (g k) (c k)) w.processor tag.0)) [
          | inl less ↦ absurd (first.not_before w.since less begun.0)
          | inr most ↦ most
        ] in
        lt-ltb (g k).most ((g k).rounds - oldest_in (g k) (c k)) (omega (arith, long, below, rounds, limit, late))

  knows_first : Knows 0
  knows_first =
      let e : g 0 ≡ guard_of most = given.first in
      let few = few_tiles in
      record {
        rounds = ap (λ (x : Guarding). x.rounds) e;
        most_is = ap (λ (x : Guarding). x.most) e;
        rows = ap (λ (x : Guarding). length x.since) e ∙ length-replicate 64 (replicate {A = ℕ} 16 0);
        row = λ p here. ap (λ (x : Guarding). length (list_at x.since p)) e
            ∙ (ap (λ (xs : List ℕ). length xs) (get_or-replicate 64 p (replicate {A = ℕ} 16 0) [] (omega (arith, here, few))) ∙ length-replicate {A = ℕ} 16 0);
        counts = ap (λ (x : Guarding). length x.issued) e ∙ length-replicate {A = ℕ} 64 0;
        none = λ m p here less. absurd (omega (arith, less));
        old = λ p t i here low less h.
            let zero_is : slice_index (g 0).issued p ≡ 0 = ap (λ (x : Guarding). slice_index x.issued p) e ∙ get_or-replicate {A = ℕ} 64 p 0 0 (omega (arith, here, few)) in
            absurd (omega (arith, less, zero_is));
        oldest_low = let o = ap (λ (x : Guarding). x.oldest) e in omega (arith, o);
      }

  knows : (k : ℕ) → k < 2 ^ 64 → Knows k
  knows zero low = knows_first
  knows (suc k) low = knows_more k (knows k (let h : k < suc k = omega arith in omega (arith, h, low))) low

  -- it holds back exactly where one has been out for too long
  pub holds_where : (k : ℕ) → k < 2 ^ 64 → (holds (g k) (c k) ≡ true → WaitsLonger most c k) × (WaitsLonger most c k → holds (g k) (c k) ≡ true)
  holds_where k low = (held_waits k (knows k low), waits_held k (knows k low))
