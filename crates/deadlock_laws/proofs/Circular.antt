-- The circular jam of an untangled circle: each arc filled from its end.
use Rattle.std.proofs.Common.{◌≡◌, inl, inr, ℕ, zero, suc, ◌+◌, ◌-◌, true, List, [], ◌∷◌, length, refl, sym, ◌∙◌, ap, arith, All}
use Rattle.std.proofs.lemmas.List.Elements.{All-nil, All-cons}
use Rattle.network_judge.specs.declared.table.Reply.{Reply}
use Rattle.network_judge.specs.declared.table.Link.{Link}
use Rattle.network_judge.specs.declared.fill.Fill.{Fill}
use Rattle.network_judge.specs.Table.{Table}
use Rattle.network_judge.specs.Verdicts.{AllArrive}
use Rattle.network_judge.specs.Cycles.{IsCycle}
use Rattle.network_judge.specs.Replies.{IsReply}
use Rattle.network_judge.specs.Arcs.{Arc, at, begin, ArcLeadsTo, first_of, Chain, Circle, AreClear}
use Rattle.network_judge.specs.Jams.{fill_channel, is_filled, WaitsForFilled, IsJam}
use Rattle.network_judge.proofs.Places.{place_next}
use Rattle.network_judge.proofs.Arcs.{apart_on}
use Rattle.network_judge.proofs.Circles.{before, untangled}
use Rattle.network_judge.proofs.Filling.{fills_from, fills, is_jam}
use Rattle.network_judge.proofs.JamLinks.{round}
use Rattle.deadlock_laws.specs.CircularJams.{head_channel, WaitInTurn, IsCircularJam}
use Rattle.deadlock_laws.proofs.LengthFilled.{filled_here, filled_behind}

-- nobody answers
pub no_reply : (x y : ℕ) → IsReply [] x y → ⊥
no_reply x y r = let here = r.here in let none : length {A = Reply} [] ≡ 0 = refl in absurd (omega arith)

module _ (t : Table) where
  first_is : (ps : List (Arc t)) (e : ℕ) → head_channel t (fills t [] ps) e ≡ first_of t [] ps e
  first_is [] e = refl
  first_is (a ∷ ps) e = refl

  arc_waits : (a : Arc t) (y e : ℕ) (fs : List Fill) → ArcLeadsTo t [] a y → head_channel t fs e ≡ y → WaitInTurn t fs e
      → (k n : ℕ) → k + n ≡ suc a.end → WaitInTurn t (fills_from t [] a k n fs) e
  arc_waits a y e fs leads first rest k zero size = rest
  arc_waits a y e fs (inr over) first rest k (suc n) size = absurd (no_reply a.to y over.1)
  arc_waits a y e fs (inl on) first rest k (suc n) size = (
    record {
      under_way = λ here. (let low = on.0 in apart_on t a k a.len (omega arith) (omega arith) (here ∙ sym a.way.arrives));
      next = sym (place_next t a.to a.from k) ∙ goal n size;
    },
    arc_waits a y e fs (inl on) first rest (suc k) n (omega arith),
  )
    where
      goal : (m : ℕ) → k + suc m ≡ suc a.end → at t a (suc k) ≡ head_channel t (fills_from t [] a (suc k) m fs) e
      goal zero last = (let same : k ≡ a.end = omega arith in ap (λ z. at t a (suc z)) same ∙ (on.1 ∙ sym first))
      goal (suc m) more = refl

  all_wait : (ps : List (Arc t)) (e : ℕ) → Chain t [] ps e → WaitInTurn t (fills t [] ps) e
  all_wait [] e chain = tt
  all_wait (a ∷ ps) e chain =
      let order = a.order in
      arc_waits a (first_of t [] ps e) e (fills t [] ps) chain.0 (first_is ps e) (all_wait ps e chain.1) a.start (suc (a.end - a.start)) (omega arith)

  -- the channels of a clear circle
  pub circle_fills : (head : Arc t) (rest : List (Arc t)) → Circle t [] (head ∷ rest) → AreClear t (head ∷ rest) (head ∷ rest)
      → IsCircularJam t (fills t [] (head ∷ rest))
  circle_fills head rest circle clear =
      let jam = is_jam t [] head rest circle clear in
      record { some = jam.some; in_turn = jam.in_turn; waits = all_wait (head ∷ rest) (begin t head) circle.chain }

  pub has_jam : (links : List Link) → AllArrive t → IsCycle t [] links → (fs : List Fill) × IsCircularJam t fs
  has_jam links arrive cycle =
      let r = round t [] arrive (λ x y a. absurd (no_reply x y a)) links cycle in
      let u = untangled t [] (suc (before t [] (r.head ∷ r.rest))) r.head r.rest (omega arith) r.circle in
      (fills t [] (u.head ∷ u.rest), circle_fills u.head u.rest u.circle u.clear)

  -- each channel waits for one of them
  waits : (fs gs : List Fill) (e : ℕ) → ((x : ℕ) → is_filled t gs x ≡ true → is_filled t fs x ≡ true) → is_filled t fs e ≡ true
      → WaitInTurn t gs e → All (WaitsForFilled t [] fs) gs
  waits fs [] e sub last turn = All-nil (WaitsForFilled t [] fs)
  waits fs (g ∷ gs) e sub last turn =
      All-cons (WaitsForFilled t [] fs) g gs
      (record {
        under_way = λ apart. ap (is_filled t fs) turn.0.next ∙ next gs (λ x is. sub x (filled_behind t g gs x is));
        at_end = λ here. absurd (turn.0.under_way here);
      })
      (waits fs gs e (λ x is. sub x (filled_behind t g gs x is)) last turn.1)
    where
      next : (hs : List Fill) → ((x : ℕ) → is_filled t hs x ≡ true → is_filled t fs x ≡ true) → is_filled t fs (head_channel t hs e) ≡ true
      next [] sub = last
      next (h ∷ hs) sub = sub (fill_channel t h) (filled_here t h hs (fill_channel t h) refl)

  pub are_jams : (fs : List Fill) → IsCircularJam t fs → IsJam t [] fs
  are_jams [] jam = (let some = jam.some in absurd (omega arith))
  are_jams (f ∷ fs) jam = record {
    some = jam.some;
    in_turn = jam.in_turn;
    waits = waits (f ∷ fs) (f ∷ fs) (fill_channel t f) (λ x is. is) (filled_here t f fs (fill_channel t f) refl) jam.waits;
  }
