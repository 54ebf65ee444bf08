-- Rows of a run's one order: which of two operations of a processor was served first.
use Rattle.std.proofs.Common.{◌≡◌, inl, inr, ℕ, ◌<◌, ◌≤◌, ◌==◌, List, length, map, Option, Some, None}
use Rattle.std.proofs.Common.{refl, sym, ◌∙◌, ap, subst, arith, slice_get, eq-eqb, eqb-true}
use Rattle.std.specs.Prelude.{find, option_map}
use Rattle.std.specs.List.{range_with_len}
use Rattle.std.proofs.lemmas.Bool.{cases_lt, both_ways}
use Rattle.std.proofs.lemmas.Option.{slice_get_within}
use Rattle.packet.specs.declared.kinds.Reply.{Reply}
use Rattle.one_order.specs.Scripts.{Invocation, IsAnsweredBefore, reply_of}
use Rattle.one_order.specs.declared.answer.Answer.{Answer}
use Rattle.one_order.specs.declared.ordered.Ordered.{Ordered}
use Rattle.one_order.specs.Observed.{Run, list_at, IsIssuedAt, event_count}
use Rattle.one_order.specs.Order.{LinearizationPoint, home, StandsBefore}
use Rattle.one_order.specs.Consequences.{AreEventNumbers, Service}
use Rattle.one_order.specs.OneOrder.{HasOneOrder}
use Rattle.one_order.proofs.Lists.{within_length, same_get}
use Rattle.one_order.proofs.Counting.{same_lists}
use Rattle.one_order.proofs.EventNumbers.{PointOf, point_of, real_time, numbers}
use Rattle.one_order.specs.AbstractScripts.{AreInvocationsOf}
use Rattle.core_models.specs.Programs.{replies_shown, reply_shown}
use Rattle.core_models.proofs.Rising.{Found, found}
use Rattle.core_models.proofs.Ranges.{get_map, get_range, length_map, length_range}

-- a later operation of a processor isn't issued earlier
issue_order : (run : Run) (p i m t u : ℕ) → IsIssuedAt run p i t → IsIssuedAt run p m u → i ≤ m → t ≤ u
issue_order run p i m t u first second low = elim (cases_lt u t) [
  | inl before ↦ (let there = second.holds in absurd (first.not_before u before (omega (arith, low, there))))
  | inr after ↦ after
]

module _ (tiles tags : ℕ) (opening : List ℕ) (run : Run) (n : ℕ) (rows : List Ordered) (one : HasOneOrder tiles tags opening run n rows) where
  events : AreEventNumbers (event_count (run n)) rows
  events = numbers tiles tags opening run n rows one

  pub point : (k : ℕ) (row : Ordered) → slice_get rows k ≡ Some row → PointOf tiles run n one.order k row
  point k row at = point_of tiles run n one.order rows one.numbered k row at

  -- the operation of a row was issued
  pub row_operation : (k : ℕ) (row : Ordered) (at : slice_get rows k ≡ Some row)
      → slice_get (list_at (run n).issued row.source) row.index ≡ Some (point k row at).point.operation
  row_operation k row at =
      let x : LinearizationPoint = (point k row at).point in
      let is = (point k row at).is in
      let issued = (one.legal.issued k x (point k row at).there).operation in
      subst (λ q. slice_get (list_at (run n).issued q) row.index ≡ Some x.operation) (sym is.source)
      (subst (λ i. slice_get (list_at (run n).issued x.source) i ≡ Some x.operation) (sym is.index) issued)

  -- rows of one operation are one
  pub same_name : (j k : ℕ) (x y : Ordered) → slice_get rows j ≡ Some x → slice_get rows k ≡ Some y → x.source ≡ y.source → x.index ≡ y.index → j ≡ k
  same_name j k x y here there source index =
      let a = point j x here in
      let b = point k y there in
      one.legal.distinct j k a.point b.point a.there b.there (sym a.is.source ∙ (source ∙ b.is.source)) (sym a.is.index ∙ (index ∙ b.is.index))

  pub same_served : (j k : ℕ) (x y : Ordered) → slice_get rows j ≡ Some x → slice_get rows k ≡ Some y → x.served ≡ y.served → x ≡ y
  same_served j k x y here there same =
      let place = (events.distinct j k y.served x y Service Service here there (ap Some same) refl).0 in
      same_get rows k x y (subst (λ i. slice_get rows i ≡ Some x) place here) there

  pub served_some : (k : ℕ) (row : Ordered) → slice_get rows k ≡ Some row → 0 < row.served
  served_some k row at = events.low k row.served row Service at refl

  -- what stands before in the order was served before
  stands_served : (j k : ℕ) (x y : Ordered) → slice_get rows j ≡ Some x → slice_get rows k ≡ Some y → StandsBefore one.order k x.source x.index
      → x.served < y.served
  stands_served j k x y here there stands =
      let a = point j x here in
      let place = one.legal.distinct stands.0 j stands.1 a.point stands.3 a.there (stands.4 ∙ a.is.source) (stands.5 ∙ a.is.index) in
      let less = stands.2 in
      events.rising j k x y (omega (arith, place, less)) here there

  -- of two operations of a processor on one word the earlier one was served first
  pub word_served : (j k : ℕ) (x y : Ordered) (here : slice_get rows j ≡ Some x) (there : slice_get rows k ≡ Some y) → x.source ≡ y.source
      → x.index < y.index → (point j x here).point.operation.address ≡ (point k y there).point.operation.address → x.served < y.served
  word_served j k x y here there source less word =
      let a = point j x here in
      let b = point k y there in
      let same : x.source ≡ b.point.source = source ∙ b.is.source in
      let index = b.is.index in
      let issued : slice_get (list_at (run n).issued b.point.source) x.index ≡ Some a.point.operation =
      subst (λ q. slice_get (list_at (run n).issued q) x.index ≡ Some a.point.operation) same (row_operation j x here) in
      let stands = one.services.in_turn k x.index b.point a.point.operation b.there (omega (arith, less, index)) issued
      (ap {B = ℕ} (λ z. home tiles (record { address = z; op = a.point.operation.op })) word) in
      stands_served j k x y here there (subst (λ q. StandsBefore one.order k q x.index) (sym same) stands)

  module _ (p : ℕ) (ops : List Invocation) (are : AreInvocationsOf run n p ops) where
    -- the invocation of a row
    pub invoked : (k : ℕ) (row : Ordered) → slice_get rows k ≡ Some row → row.source ≡ p → row.index < length ops
    invoked k row at source =
        let issued = subst (λ q. slice_get (list_at (run n).issued q) row.index ≡ Some (point k row at).point.operation) source (row_operation k row at) in
        let within = slice_get_within (list_at (run n).issued p) row.index (point k row at).point.operation issued in
        let count = are.count in
        omega (arith, within, count)

    -- what is answered before an operation is issued was served before it, and before each later one
    pub answered_served : (j k c : ℕ) (x y : Ordered) → slice_get rows j ≡ Some x → slice_get rows k ≡ Some y → x.source ≡ p → y.source ≡ p → c ≤ y.index
        → ((o q : Invocation) → slice_get ops x.index ≡ Some o → slice_get ops c ≡ Some q → (reply : Reply) × IsAnsweredBefore o q.issue reply)
        → x.served < y.served
    answered_served j k c x y here there mine also low h =
        let high = invoked k y there also in
        let first = within_length ops x.index (invoked j x here mine) in
        let next = within_length ops c (omega (arith, low, high)) in
        let last = within_length ops y.index high in
        let answer = h first.0 next.0 first.1 next.1 in
        let at : ℕ = answer.1.0 in
        let less = answer.1.2 in
        let issued = (are.each y.index last.0 last.1).1 in
        let rise = issue_order run p c y.index next.0.issue last.0.issue (are.each c next.0 next.1).1 issued low in
        let answered = (are.answered x.index first.0 at answer.0 first.1 answer.1.1).0 in
        let b = point k y there in
        let source : p ≡ b.point.source = sym also ∙ b.is.source in
        let issue : IsIssuedAt run b.point.source b.point.index last.0.issue =
        subst (λ i. IsIssuedAt run b.point.source i last.0.issue) b.is.index
        (subst (λ q. IsIssuedAt run q y.index last.0.issue) source issued) in
        let stands = real_time opening run n one.order one.legal one.grows p x.index k b.point b.there
        (at, last.0.issue, answered, issue, omega (arith, less, rise)) in
        stands_served j k x y here there (subst (λ q. StandsBefore one.order k q x.index) (sym mine) stands)

    -- the replies that are shown are those to the invocations
    reply_found : (i : ℕ) (o : Invocation) → slice_get ops i ≡ Some o → (found_one : Option Answer) (answer : Option (ℕ × Reply))
        → Found (λ a. a.index == i) (list_at (run n).answers p) found_one → o.answer ≡ answer
        → option_map (λ a. a.reply) found_one ≡ option_map (λ (a : ℕ × Reply). a.1) answer
    reply_found i o at None None f is = refl
    reply_found i o at None (Some a) f is =
        let told = (are.answered i o a.0 a.1 at is).1 in
        absurd (both_ways (told.1.index == i) (f.none told.0 told.1 refl told.2) (eq-eqb told.1.index i told.3))
    reply_found i o at (Some a) None f is =
        let told = f.some a refl in
        absurd (are.unanswered i o at is (told.1.0, a, told.1.1, eqb-true a.index i told.0))
    reply_found i o at (Some a) (Some b) f is =
        let mine = f.some a refl in
        let told = (are.answered i o b.0 b.1 at is).1 in
        let place = one.services.once p mine.1.0 told.0 a told.1 mine.1.1 told.2 (eqb-true a.index i mine.0 ∙ sym told.3) in
        let same = same_get (list_at (run n).answers p) told.0 a told.1 (subst (λ j. slice_get (list_at
        (run n).answers p) j ≡ Some a) place mine.1.1) told.2 in
        ap (λ (z : Answer). Some z.reply) same ∙ ap Some told.4

    pub replies_are : replies_shown (run n) p ≡ map reply_of ops
    replies_are = same_lists (replies_shown (run n) p) (map reply_of ops) sizes (λ k x y here there.
        let a = get_map (reply_shown (run n) p) (range_with_len 0 (length (list_at (run n).issued p))) k x here in
        let found_at = get_range (length (list_at (run n).issued p)) 0 k a.0 a.1 in
        let place : a.0 ≡ k = omega (arith, found_at) in
        let b = get_map reply_of ops k y there in
        sym a.2 ∙ (ap (reply_shown (run n) p) place
        ∙ (reply_found k b.0 b.1 (find (λ c. c.index == k) (list_at (run n).answers p)) b.0.answer (found (λ c. c.index == k) (list_at
        (run n).answers p)) refl ∙ b.2)))
      where
        sizes : length (replies_shown (run n) p) ≡ length (map reply_of ops)
        sizes =
            let a = length_map (reply_shown (run n) p) (range_with_len 0 (length (list_at (run n).issued p))) in
            let b = length_range (length (list_at (run n).issued p)) 0 in
            let c = length_map reply_of ops in
            let count = are.count in
            omega (arith, a, b, c, count)
