use Rattle.std.proofs.Common.{◌≡◌, List, [], ◌∷◌, ◌++◌, map, Option, Some, refl, ap, sym, ◌∙◌}
use Rattle.fabric.proofs.taking.filled.Goals as goal

one_more : {T : Type 0} (seen : List T) (v : T) → map (λ x. Some x) (seen ++ v ∷ []) ≡ map (λ x. Some x) seen ++ Some v ∷ []
one_more [] v = refl
one_more (x ∷ seen) v = ap (λ l. Some x ∷ l) (one_more seen v)

filled_more : {T : Type 0} (all now : List (Option T)) (v : T) (seen : List T) → all ≡ map (λ x. Some x) seen → now ≡ all ++ Some v ∷ []
    → now ≡ map (λ x. Some x) (seen ++ v ∷ [])
filled_more all now v seen so_far push = push ∙ (ap (λ l. l ++ Some v ∷ []) so_far ∙ sym (one_more seen v))

pub loop-value-preserved : goal.loop-value-preserved
loop-value-preserved g c = filled_more _ _ _ _ c.loop-value.invariant c.in_ok-push.ensures.items
