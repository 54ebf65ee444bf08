use Rattle.std.proofs.Common.{◌≡◌, ◌-◌, ◌++◌, length, take, drop, List, [], ℕ, arith, sym, ◌∙◌, ap, subst}
use Rattle.std.proofs.Math.Seq.{take-add}
use Rattle.std.proofs.KnownBytes.{Appends-trans}
use Rattle.std.specs.Io.KnownBytes.{Appends}
use Rattle.std.proofs.lemmas.List.{take_rest, take-append-drop, append-nil, length-take, length-drop}
use Rattle.std.proofs.lemmas.Grind.{common_steps}
use Rattle.report_lines.proofs.output.put_all.Goals as goal

pub loop-done-preserved : goal.loop-done-preserved
loop-done-preserved g c =
    let bytes : List ℕ = c.args.bytes.now in
    let done : ℕ = c.loop-done.done in
    let rest : take (length bytes - done) (drop done bytes) ≡ drop done bytes = take_rest bytes done in
    let P : List ℕ → Type 0 = λ t. Appends (g.W.Out.taken c.args.out.now) (g.W.Out.taken c.put-taken.new.self) t in
    record {
      within = omega (arith, length-take {A = ℕ}, length-drop {A = ℕ});
      taken = subst P (ap (λ (t : List ℕ). take done bytes ++ take c.put-taken.result t) rest ∙ sym (take-add done c.put-taken.result bytes))
          (Appends-trans _ _ _ _ _ c.loop-done.invariant.taken c.put-taken.ensures.bytes);
      quiet = grind (arith, common_steps);
    }

pub returns-then-taken-eq0-clause-err : goal.returns-then-taken-eq0-clause-err
returns-then-taken-eq0-clause-err g c =
    let bytes : List ℕ = c.args.bytes.now in
    let done : ℕ = c.loop-done.done in
    let none : take c.put-taken.result (take (length bytes - done) (drop done bytes)) ≡ [] = rw c.if-taken-eq0.true in
    let P : List ℕ → Type 0 = λ t. Appends (g.W.Out.taken c.args.out.now) (g.W.Out.taken c.put-taken.new.self) t in (
      take done bytes,
      drop done bytes,
      sym (take-append-drop done bytes),
      subst P (ap (λ (t : List ℕ). take done bytes ++ t) none ∙ append-nil (take done bytes))
          (Appends-trans _ _ _ _ _ c.loop-done.invariant.taken c.put-taken.ensures.bytes),
    )
