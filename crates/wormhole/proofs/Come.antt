-- Over a quiet network all packets have come.
use Rattle.std.proofs.Common.{◌≡◌, ℕ, ◌<◌, true, List, [], ◌∷◌, ◌++◌, sym, ap, ◌∙◌, refl, append-nil}
use Rattle.wormhole.specs.Net.{Net, IsNet, IsOn, Parcel}
use Rattle.wormhole.specs.State.{NetState}
use Rattle.wormhole.specs.Routes.{Routes, between, on_the_way}
use Rattle.wormhole.specs.Ends.{IsQuiet}

-- no packet is on the way over quiet channels
none_on_the_way : (i j : ℕ) (parcels : ℕ → List Parcel) (xs : List ℕ) → ((x : ℕ) → IsOn x xs → parcels x ≡ []) → on_the_way i j parcels xs ≡ []
none_on_the_way i j parcels [] quiet = refl
none_on_the_way i j parcels (x ∷ xs) quiet =
    let rest : on_the_way i j parcels xs ≡ [] =
    none_on_the_way i j parcels xs (λ y on. quiet y (x ∷ on.0, on.1, ap (λ (zs : List ℕ). x ∷ zs) on.2)) in
    ap (λ ks. on_the_way i j parcels xs ++ between i j ks) (quiet x ([], xs, refl)) ∙ append-nil (on_the_way i j parcels xs) ∙ rest

-- what was sent has come
pub all_come : (n : Net) (s : NetState) → IsNet n → Routes n s → ((x : ℕ) → x < n.channels → IsQuiet n s x)
    → (i j : ℕ) → n.joins i j ≡ true → between i j (s.notes j).begun ≡ between i j (s.notes i).sent
all_come n s net routes quiet i j joined =
    sym (append-nil (between i j (s.notes j).begun))
    ∙ ap (λ ks. between i j (s.notes j).begun ++ ks)
    (sym (none_on_the_way i j (λ x. (s.notes x).parcels) (n.route i j) (λ x on. (quiet x (net.within i j x joined on)).parcels)))
    ∙ routes.flow i j joined
