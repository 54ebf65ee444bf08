-- Where a bad line is refused.
use Rattle.std.proofs.Common.{◌≡◌, ◌⊎◌, inl, inr, ℕ, List, refl, sym, ◌∙◌, ap}
use Rattle.std.specs.Prelude.{Result, Ok, Err, IfErr}
use Rattle.network_judge.specs.declared.table.Join.{Join}
use Rattle.network_rounds.specs.declared.reason.TrafficReason.{TrafficReason}
use Rattle.network_rounds.specs.declared.reason.TrafficReason.TheVariants as reason
use Rattle.lexer.specs.declared.refusal.Refusal.{Refusal}
use Rattle.lexer.specs.Outcome.{line_of_fault, refusal_at}
use Rattle.network_rounds.specs.Reasons.{traffic_fault_of}
use Rattle.network_rounds.specs.Joined.{IsFirstApart, RefusesApart}
use Rattle.network_rounds.specs.Traffic.{TrafficSpec}

-- but for out of memory it stands at its line
at_line : (e : TrafficReason) (n : ℕ) → (e ≡ reason.Memory) ⊎ (line_of_fault (traffic_fault_of e) n ≡ n)
at_line reason.NotPacket n = inr refl
at_line (reason.NotNumber p) n = inr refl
at_line reason.RoundLimits n = inr refl
at_line reason.LengthLimits n = inr refl
at_line reason.NotJoined n = inr refl
at_line reason.Memory n = inl refl

-- the refusal of a line is what the reader answers
pub refused_at : (e : TrafficReason) (n : ℕ) (got : Refusal TrafficReason) (all : Result TrafficSpec (Refusal TrafficReason))
    → got ≡ refusal_at (line_of_fault (traffic_fault_of e) n) e → (e ≡ reason.Memory) ⊎ (all ≡ Err (refusal_at n e))
    → (got ≡ refusal_at 0 reason.Memory) ⊎ (all ≡ Err got)
refused_at e n got all is found =
    let none : e ≡ reason.Memory → got ≡ refusal_at 0 reason.Memory =
    λ m. is ∙ ap (λ (f : TrafficReason). refusal_at (line_of_fault (traffic_fault_of f) n) f) m in
    elim found [
      | inl m ↦ inl (none m)
      | inr bad ↦ elim (at_line e n) [
        | inl m ↦ inl (none m)
        | inr here ↦ inr (bad ∙ ap (λ (l : ℕ). Err (refusal_at l e)) (sym here) ∙ ap Err (sym is))
      ]
    ]

-- a packet that isn't joined is refused
pub refuses_apart : {X : Type 0} (joins : List Join) (t : TrafficSpec) (r : Result X (Refusal TrafficReason)) → IfErr r (IsFirstApart joins t)
    → IfErr r (RefusesApart joins t)
refuses_apart joins t (Ok x) h = h
refuses_apart joins t (Err e) h = inr h
