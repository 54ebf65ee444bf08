-- The answer of an assembler is a function of what it has.
use Rattle.std.proofs.Common.{◌≡◌, ◌∙◌, ℕ, List, [], ◌∷◌, ◌++◌, refl, sym, ap}
use Rattle.std.specs.Prelude.{None, ◌==◌, if◌then◌else◌}
use Rattle.packet.specs.declared.assembler.Offered.{Offered}
use Rattle.packet.specs.declared.assembler.Offered.TheVariants.{More, Whole, Refused}
use Rattle.packet.specs.Flit.{field}
use Rattle.packet.specs.Spelling.{Spells}
use Rattle.packet.specs.Refusal.{refusal}
use Rattle.packet.specs.Reading.{packet_told}
use Rattle.packet.specs.Flits.{offered, offered_by}
use Rattle.packet.proofs.Told.{packet_told-spelled}
use Rattle.packet.proofs.Answered.{IsAnswer, IsTaken-spelled, IsTaken-begins}

-- the answer to a flit that is taken, by its tail bit
by_tail : (xs : List ℕ) (f n : ℕ) → field f 62 1 ≡ n → refusal xs f ≡ None → offered xs f ≡ (if n == 1 then Whole (packet_told (xs ++ f ∷ [])) else More)
unfolding offered
by_tail xs f n t r = ap (λ o. offered_by o xs f) r ∙ ap (λ (m : ℕ). if m == 1 then Whole (packet_told (xs ++ f ∷ [])) else More) t

pub offered_is : (xs : List ℕ) (f : ℕ) (r : Offered) → IsAnswer xs f r → r ≡ offered xs f
unfolding offered
offered_is xs f More a = let t = IsTaken-begins xs f (a.more.0 refl) in sym (by_tail xs f 0 t.tail_bit t.taken)
offered_is xs f (Whole p) a =
    let s : Spells p (xs ++ f ∷ []) = (a.whole p).0 refl in
    let t = IsTaken-spelled p xs f [] s in
    ap Whole (sym (packet_told-spelled p (xs ++ f ∷ []) s)) ∙ sym (by_tail xs f 1 t.tail_bit t.taken)
offered_is xs f (Refused k) a = sym (ap (λ o. offered_by o xs f) ((a.refused k).0 refl))
