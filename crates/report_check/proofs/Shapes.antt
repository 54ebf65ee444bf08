-- The radices of an accepted shape.
use Rattle.std.proofs.Common.{◌≡◌, ℕ, suc, ◌<◌, ◌≤◌, List, [], ◌∷◌, length, slice_index, refl, sym, ap, subst, arith}
use Rattle.std.specs.List.{AllByRecursion}
use Rattle.torus.specs.Shape.{Shape, IsAccepted, product, tiles_of}
use Rattle.report_lines.specs.Line.{radix_list}
use Rattle.report_lines.specs.Contents.{radices_of}
use Rattle.report_check.specs.Good.{AreRadices}

listed : (ks : List ℕ) → 1 ≤ length ks → length ks ≤ 3 → radix_list (radices_of ks) ≡ ks
listed [] low high = absurd (omega (arith, low))
listed (j ∷ []) low high = refl
listed (j ∷ k ∷ []) low high = refl
listed (j ∷ k ∷ l ∷ []) low high = refl
listed (j ∷ k ∷ l ∷ m ∷ ks) low high = absurd (omega (arith, high))

each_radix : (ks : List ℕ) → ((d : ℕ) → d < length ks → 2 ≤ slice_index ks d) → ((d : ℕ) → d < length ks → slice_index ks d ≤ 8)
    → AllByRecursion (λ k. (2 ≤ k) × (k ≤ 8)) ks
each_radix [] low high = tt
each_radix (k ∷ ks) low high =
    ((low 0 (omega arith), high 0 (omega arith)), each_radix ks (λ d less. low (suc d) (omega (arith, less))) (λ d less. high (suc d) (omega (arith, less))))

pub radices_listed : (shape : Shape) → IsAccepted shape → radix_list (radices_of shape.radices) ≡ shape.radices
radices_listed shape ok = listed shape.radices ok.dims_low ok.dims_high

pub radices_allowed : (shape : Shape) → IsAccepted shape → AreRadices (radix_list (radices_of shape.radices))
radices_allowed shape ok =
    subst AreRadices (sym (radices_listed shape ok)) (record { each = each_radix shape.radices ok.radix_low ok.radix_high; tiles = ok.tiles })

pub tiles_listed : (shape : Shape) → IsAccepted shape → product (radix_list (radices_of shape.radices)) ≡ tiles_of shape
tiles_listed shape ok = ap product (radices_listed shape ok)
