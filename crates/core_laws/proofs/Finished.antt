-- A finished follower stays finished.
use Rattle.std.proofs.Common.{◌≡◌, ℕ, zero, suc, ◌+◌, ◌==◌, Bool, true, false, cond, List, [], ◌∷◌, Option, Some, None, refl, sym, ◌∙◌, arith, is_none}
use Rattle.std.specs.Prelude.{◌&&◌}
use Rattle.std.proofs.lemmas.Bool.{ne_eqb}
use Rattle.packet.specs.declared.kinds.Reply.{Reply as Answering}
use Rattle.script_lines.specs.declared.line.Line.{Line}
use Rattle.one_order.specs.declared.spin.OpenSpin.{OpenSpin}
use Rattle.one_order.specs.Following.{Following, is_finished, is_empty, after_answer, last_answered, other_answered}

finished_parts : (spin : Option OpenSpin) (ahead : List Line) (issued waiting : ℕ) (last : Option Answering) (i : ℕ) (reply : Answering)
    → is_empty ahead && is_none spin && (waiting == 0) ≡ true
    → is_finished (after_answer (record { ahead = ahead; spin = spin; issued = issued; waiting = waiting; last = last }) i reply) ≡ true
unfolding is_finished after_answer
finished_parts (Some x) [] issued waiting last i reply h = cc
finished_parts (Some x) (l ∷ ahead) issued waiting last i reply h = cc
finished_parts None (l ∷ ahead) issued waiting last i reply h = cc
finished_parts None [] issued zero last i reply h =
    elim ((i + 1) == issued) as
    (λ b. is_finished (cond {A = Following} b (last_answered (record { ahead = []; spin = None; issued = issued; waiting = 0; last = last }) reply)
    (other_answered (record { ahead = []; spin = None; issued = issued; waiting = 0; last = last }))) ≡ true) [ true ↦ refl | false ↦ refl ]
finished_parts None [] issued (suc w) last i reply h =
    let f = ne_eqb (suc w) 0 (λ e. omega (arith, e)) in
    let z : ◌≡◌ {A = Bool} true false = sym h ∙ f in absurd (cc)

pub finished_stays : (f : Following) (i : ℕ) (reply : Answering) → is_finished f ≡ true → is_finished (after_answer f i reply) ≡ true
unfolding is_finished
finished_stays f i reply h = finished_parts f.spin f.ahead f.issued f.waiting f.last i reply h
