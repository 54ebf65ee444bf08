-- The channels of arcs, as the search lists them.
use Rattle.std.proofs.Common.{◌≡◌, ℕ, zero, suc, ◌+◌, ◌-◌, ◌<◌, List, [], ◌∷◌, ◌++◌, refl, sym, ◌∙◌, ap, subst, arith, map}
use Rattle.network_judge.specs.declared.table.Reply.{Reply}
use Rattle.network_judge.specs.declared.fill.Fill.{Fill}
use Rattle.network_judge.specs.declared.spans.Span.{Span}
use Rattle.network_judge.specs.Table.{Table}
use Rattle.network_judge.specs.Jams.{IsJam}
use Rattle.network_judge.specs.Arcs.{Arc}
use Rattle.network_judge.specs.Spans.{span_of, fills_on, span_fills, IsClearCircle}
use Rattle.network_judge.proofs.Filling.{fills, fills_from, is_jam}

module _ (t : Table) (replies : List Reply) where
  from_is : (a : Arc t) (k n : ℕ) (fs : List Fill) → fills_on (span_of t a) k n ++ fs ≡ fills_from t replies a k n fs
  from_is a k zero fs = refl
  from_is a k (suc n) fs = ap (λ (gs : List Fill). record { from = a.from; to = a.to; step = k } ∷ gs) (from_is a (suc k) n fs)

  fills_are : (ps : List (Arc t)) → span_fills (map (span_of t) ps) ≡ fills t replies ps
  fills_are [] = refl
  fills_are (a ∷ ps) =
      let order = a.order in
      let count : suc a.end - a.start ≡ suc (a.end - a.start) = omega arith in
      ap (λ n. fills_on (span_of t a) a.start n ++ span_fills (map (span_of t) ps)) count
      ∙ (ap (λ (fs : List Fill). fills_on (span_of t a) a.start (suc (a.end - a.start)) ++ fs) (fills_are ps)
      ∙ from_is a a.start (suc (a.end - a.start)) (fills t replies ps))

  -- the channels of a clear circle are a jam
  pub jam_of_spans : (spans : List Span) → IsClearCircle t replies spans → IsJam t replies (span_fills spans)
  jam_of_spans spans c =
      subst (IsJam t replies) (sym (fills_are (c.head ∷ c.rest)) ∙ ap span_fills c.are) (is_jam t replies c.head c.rest c.circle c.clear)

-- the channels of a span from a step on: the first, and the others
pub fills_more : (s : Span) (k e : ℕ) → k < e → fills_on s k (e - k) ≡ record { from = s.from; to = s.to; step = k } ∷ fills_on s (k + 1) (e - (k + 1))
fills_more s k e less =
    let n : e - k ≡ suc (e - (k + 1)) = omega arith in
    let m : suc k ≡ k + 1 = omega arith in
    ap (fills_on s k) n ∙ ap (λ z. record { from = s.from; to = s.to; step = k } ∷ fills_on s z (e - (k + 1))) m
