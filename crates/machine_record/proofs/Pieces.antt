-- Lines and actions of a record, one more of them.
use Rattle.std.proofs.Common.{◌≡◌, ℕ, zero, suc, ◌+◌, ◌*◌, List, [], ◌∷◌, ◌++◌, take, Some, All, sym, subst, ◌∙◌, ap, arith, append_assoc, slice_get}
use Rattle.std.specs.List.{flat_map}
use Rattle.std.proofs.lemmas.List.{flat_map_more, take_more}
use Rattle.std.proofs.lemmas.List.Elements.{All-append}
use Rattle.std.proofs.lemmas.Option.{slice_get_within, get_or_from_slice_get}
use Rattle.machine_record.specs.declared.row.LineRow.{LineRow}
use Rattle.machine_record.specs.Reading.{actions_from, half_in_bytes, row_in_bytes, rows_from}

pub rows_push : (bs : List ℕ) (at n : ℕ) → rows_from bs at (n + 1) ≡ rows_from bs at n ++ row_in_bytes bs (at + 32 * n) ∷ []
rows_push bs at zero = let e : at ≡ at + 32 * 0 = omega arith in ap (λ (k : ℕ). row_in_bytes bs k ∷ []) e
rows_push bs at (suc n) =
    let e : suc n + 1 ≡ suc (n + 1) = omega arith in
    let f : (at + 32) + 32 * n ≡ at + 32 * suc n = omega arith in
    ap (rows_from bs at) e
    ∙ (ap (λ (xs : List LineRow). row_in_bytes bs at ∷ xs) (rows_push bs (at + 32) n) ∙ ap (λ (k : ℕ). rows_from bs at (suc n) ++ row_in_bytes bs k ∷ []) f)

pub actions_push : (bs : List ℕ) (at n : ℕ) → actions_from bs at (n + 1) ≡ actions_from bs at n ++ half_in_bytes bs (at + 4 * n) ∷ []
actions_push bs at zero = let e : at ≡ at + 4 * 0 = omega arith in ap (λ (k : ℕ). half_in_bytes bs k ∷ []) e
actions_push bs at (suc n) =
    let e : suc n + 1 ≡ suc (n + 1) = omega arith in
    let f : (at + 4) + 4 * n ≡ at + 4 * suc n = omega arith in
    ap (actions_from bs at) e
    ∙ (ap (λ (xs : List ℕ). half_in_bytes bs at ∷ xs) (actions_push bs (at + 4) n) ∙ ap (λ (k : ℕ). actions_from bs at (suc n) ++ half_in_bytes bs k ∷ []) f)

-- bytes that are put, and then more
behind : (o a tail x y : List ℕ) → x ≡ o ++ a → y ≡ x ++ tail → y ≡ o ++ (a ++ tail)
behind o a tail x y first then = then ∙ (ap (λ (z : List ℕ). z ++ tail) first ∙ append_assoc o a tail)

-- six pieces, one after the other
pub six : (o a b c d e f x1 x2 x3 x4 x5 x6 : List ℕ) → x1 ≡ o ++ a → x2 ≡ x1 ++ b → x3 ≡ x2 ++ c → x4 ≡ x3 ++ d → x5 ≡ x4 ++ e → x6 ≡ x5 ++ f
    → x6 ≡ o ++ (a ++ (b ++ (c ++ (d ++ (e ++ f)))))
six o a b c d e f x1 x2 x3 x4 x5 x6 h1 h2 h3 h4 h5 h6 =
    behind o a (b ++ (c ++ (d ++ (e ++ f)))) x1 x6 h1
    (behind x1 b (c ++ (d ++ (e ++ f))) x2 x6 h2
    (behind x2 c (d ++ (e ++ f)) x3 x6 h3 (behind x3 d (e ++ f) x4 x6 h4 (behind x4 e f x5 x6 h5 h6))))

-- one more of a list is so
one_so : {X : Type 0} (P : X → Type 0) (x : X) → P x → All P (x ∷ [])
one_so P x here zero d low = here
one_so P x here (suc k) d low = absurd (omega (arith, low))

pub so_more : {X : Type 0} (P : X → Type 0) (xs : List X) (k : ℕ) (x : X) → Some x ≡ slice_get xs k → All P (take k xs) → P x → All P (take (k + 1) xs)
so_more {X} P xs k x there so here =
    subst (All P)
    (sym (take_more xs k x (slice_get_within xs k x (sym there)) ∙ ap (λ y. take k xs ++ y ∷ []) (get_or_from_slice_get xs k x x (sym there))))
    (All-append P (take k xs) (x ∷ []) so (one_so P x here))

-- one piece more
pub put_more : {X : Type 0} (f : X → List ℕ) (xs : List X) (k : ℕ) (x : X) (o now next : List ℕ) → Some x ≡ slice_get xs k
    → now ≡ o ++ flat_map f (take k xs) → next ≡ now ++ f x → next ≡ o ++ flat_map f (take (k + 1) xs)
put_more {X} f xs k x o now next there so_far put =
    put
    ∙ (ap (λ (z : List ℕ). z ++ f x) so_far
    ∙ (flat_map_more f o (take k xs) x
    ∙ ap (λ (ys : List X). o ++ flat_map f ys)
    (sym (take_more xs k x (slice_get_within xs k x (sym there)) ∙ ap (λ y. take k xs ++ y ∷ []) (get_or_from_slice_get xs k x x (sym there))))))
