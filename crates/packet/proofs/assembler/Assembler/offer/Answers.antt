use Rattle.std.proofs.Common.{◌≡◌, [], ◌∷◌, ◌++◌, ℕ, List, sym, subst, refl}
use Rattle.std.specs.Prelude.{Option, Some, None}
use Rattle.packet.specs.declared.assembler.Kind.{Kind}
use Rattle.packet.specs.declared.assembler.Offered.TheVariants.{More, Whole, Refused}
use Rattle.packet.specs.Refusal.{refusal}
use Rattle.packet.specs.Reading.{IsBegun, packet_told}
use Rattle.packet.proofs.Offering.{IsBegun-push, no_tail}
use Rattle.packet.proofs.Answered.{IsAnswer, IsAnswer-refused, IsAnswer-more, IsAnswer-whole}
use Rattle.packet.proofs.OneAnswer.{offered_is}
use Rattle.packet.proofs.assembler.Assembler.offer.Goals as goal

-- a refusal is an answer
refused : (xs ys now : List ℕ) (f : ℕ) (k : Kind) (r : Option Kind) → r ≡ refusal ys f → ys ≡ xs → xs ≡ now → r ≡ Some k → IsAnswer now f (Refused k)
refused xs ys now f k r told read shown some =
    let e : refusal now f ≡ Some k = cc in
    IsAnswer-refused now f k e

pub returns-in-Some-clause-whole : goal.returns-in-Some-clause-whole
returns-in-Some-clause-whole c =
    (refused _ _ _ _ _ _ c.refusal.ensures c.deref.ensures.0 c.self.view_is c.in-Some.is).whole

pub returns-in-Some-clause-more : goal.returns-in-Some-clause-more
returns-in-Some-clause-more c =
    (refused _ _ _ _ _ _ c.refusal.ensures c.deref.ensures.0 c.self.view_is c.in-Some.is).more

pub returns-in-Some-clause-answer : goal.returns-in-Some-clause-answer
returns-in-Some-clause-answer c =
    offered_is _ _ _ (refused _ _ _ _ _ _ c.refusal.ensures c.deref.ensures.0 c.self.view_is c.in-Some.is)

pub invariant_of-self : goal.invariant_of-self
invariant_of-self c =
    let xs = c.self.inside.flits.items in
    let e : refusal xs c.args.flit ≡ None = cc (c.refusal.ensures, c.deref.ensures.0, c.in_default.is) in
    subst IsBegun (sym c.push.ensures.items)
    (IsBegun-push xs c.args.flit c.self.invariant c.ranges.flit.fits e (no_tail c.args.flit c.if-not-is_tail.ensures.bit.1))

-- so is `More`
more : (c : goal.Then-not-is_tail) → IsAnswer c.args.self.now c.args.flit More
more c =
    let b : IsBegun c.args.self.now = subst IsBegun c.self.view_is c.self.invariant in
    let e : refusal c.args.self.now c.args.flit ≡ None = cc (c.refusal.ensures, c.deref.ensures.0, c.self.view_is, c.in_default.is) in
    IsAnswer-more c.args.self.now c.args.flit b c.ranges.flit.fits e (no_tail c.args.flit c.if-not-is_tail.ensures.bit.1)

pub returns-then-not-is_tail-clause-whole : goal.returns-then-not-is_tail-clause-whole
returns-then-not-is_tail-clause-whole c = (more c).whole

pub returns-then-not-is_tail-clause-more : goal.returns-then-not-is_tail-clause-more
returns-then-not-is_tail-clause-more c = (more c).more

pub returns-then-not-is_tail-clause-answer : goal.returns-then-not-is_tail-clause-answer
returns-then-not-is_tail-clause-answer c = offered_is _ _ _ (more c)

-- and a whole packet
whole : (c : goal.After-clear) → IsAnswer c.args.self.now c.args.flit (Whole c.packet_told-packet.result)
whole c =
    let xs = c.args.self.now in
    let f = c.args.flit in
    let b : IsBegun xs = subst IsBegun c.self.view_is c.self.invariant in
    let e : refusal xs f ≡ None = cc (c.refusal.ensures, c.deref.ensures.0, c.self.view_is, c.in_default.is) in
    let told : packet_told (xs ++ f ∷ []) ≡ c.packet_told-packet.result =
    cc (c.packet_told-packet.ensures, c.deref-2.ensures.0, c.push.ensures.items, c.self.view_is) in
    subst (λ p. IsAnswer xs f (Whole p)) told (IsAnswer-whole xs f b c.ranges.flit.fits e (c.if-not-is_tail.ensures.bit.0 refl))

pub returns-clause-whole : goal.returns-clause-whole
returns-clause-whole c = (whole c).whole

pub returns-clause-more : goal.returns-clause-more
returns-clause-more c = (whole c).more

pub returns-clause-answer : goal.returns-clause-answer
returns-clause-answer c = offered_is _ _ _ (whole c)
