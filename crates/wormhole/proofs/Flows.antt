-- The packets between two ends, over lists of channels.
use Rattle.std.proofs.Common.{◌≡◌, ◌⊎◌, inl, inr, ⊎_elim, ℕ, ◌==◌, ◌&&◌, Bool, true, false, cond, eqb, List, [], ◌∷◌}
use Rattle.std.proofs.Common.{◌++◌, refl, sym, ◌∙◌, ap, append_assoc, append-nil}
use Rattle.std.proofs.lemmas.Bool.{cases_Bool, and_parts, eqb-true}
use Rattle.std.proofs.lemmas.List.Elements.{filter-append}
use Rattle.wormhole.specs.Net.{Parcel, IsOn}
use Rattle.wormhole.specs.Routes.{between, on_the_way}

-- a packet is from the one end to the other
pub record IsBetween (i j : ℕ) (k : Parcel) : Type 0 where
  pub source : k.source ≡ i
  pub destination : k.destination ≡ j
  pub kept : between i j (k ∷ []) ≡ k ∷ []

pub between_cases : (i j : ℕ) (k : Parcel) → IsBetween i j k ⊎ (between i j (k ∷ []) ≡ [])
between_cases i j k = ⊎_elim
    (λ (e : (k.source == i && k.destination == j) ≡ true).
    let both = and_parts (eqb k.source i) (eqb k.destination j) e in
    inl (record { source = eqb-true k.source i both.0; destination = eqb-true k.destination j both.1; kept = ap (λ (b : Bool). cond b (k ∷ []) []) e }))
    (λ (e : (k.source == i && k.destination == j) ≡ false). inr (ap (λ (b : Bool). cond b (k ∷ []) []) e))
    (cases_Bool (k.source == i && k.destination == j))

pub between_append : (i j : ℕ) (ks ls : List Parcel) → between i j (ks ++ ls) ≡ between i j ks ++ between i j ls
between_append i j ks ls = filter-append (λ (k : Parcel). k.source == i && k.destination == j) ks ls

-- a packet of other ends isn't seen
pub push_other : (i j : ℕ) (ks : List Parcel) (k : Parcel) → between i j (k ∷ []) ≡ [] → between i j (ks ++ k ∷ []) ≡ between i j ks
push_other i j ks k e = between_append i j ks (k ∷ []) ∙ (ap (λ (ls : List Parcel). between i j ks ++ ls) e ∙ append-nil (between i j ks))

pub pop_other : (i j : ℕ) (k : Parcel) (ks : List Parcel) → between i j (k ∷ []) ≡ [] → between i j ks ≡ between i j (k ∷ ks)
pop_other i j k ks e = sym (between_append i j (k ∷ []) ks ∙ ap (λ (ls : List Parcel). ls ++ between i j ks) e)

-- a packet of these ends is
pub push_this : (i j : ℕ) (ks : List Parcel) (k : Parcel) → between i j (k ∷ []) ≡ k ∷ []
    → between i j (ks ++ k ∷ []) ≡ between i j ks ++ k ∷ []
push_this i j ks k e = between_append i j ks (k ∷ []) ∙ ap (λ (ls : List Parcel). between i j ks ++ ls) e

pub pop_this : (i j : ℕ) (k : Parcel) (ks : List Parcel) → between i j (k ∷ []) ≡ k ∷ [] → between i j (k ∷ ks) ≡ k ∷ between i j ks
pop_this i j k ks e = between_append i j (k ∷ []) ks ∙ ap (λ (ls : List Parcel). ls ++ between i j ks) e

pub way_append : (i j : ℕ) (p : ℕ → List Parcel) (xs ys : List ℕ) → on_the_way i j p (xs ++ ys) ≡ on_the_way i j p ys ++ on_the_way i j p xs
way_append i j p [] ys = sym (append-nil (on_the_way i j p ys))
way_append i j p (x ∷ xs) ys =
    ap (λ (ks : List Parcel). ks ++ between i j (p x)) (way_append i j p xs ys)
    ∙ append_assoc (on_the_way i j p ys) (on_the_way i j p xs) (between i j (p x))

-- what has changed in no channel of a list, as these ends see it
pub way_same : (i j : ℕ) (p q : ℕ → List Parcel) (xs : List ℕ) → ((x : ℕ) → IsOn x xs → between i j (q x) ≡ between i j (p x))
    → on_the_way i j q xs ≡ on_the_way i j p xs
way_same i j p q [] h = refl
way_same i j p q (x ∷ xs) h =
    ap (λ (ks : List Parcel). ks ++ between i j (q x)) (way_same i j p q xs (λ z on. h z (x ∷ on.0, on.1, ap (λ (ys : List ℕ). x ∷ ys) on.2)))
    ∙ ap (λ (ks : List Parcel). on_the_way i j p xs ++ ks) (h x ([], xs, refl))

-- a packet goes on from one channel to the next: the packets on the way are the same
pub way_forward : (i j : ℕ) (p q : ℕ → List Parcel) (before after : List ℕ) (x y : ℕ) (k : Parcel) → IsBetween i j k
    → p x ≡ k ∷ q x → q y ≡ p y ++ k ∷ [] → ((z : ℕ) → IsOn z before → q z ≡ p z) → ((z : ℕ) → IsOn z after → q z ≡ p z)
    → on_the_way i j q (before ++ x ∷ y ∷ after) ≡ on_the_way i j p (before ++ x ∷ y ∷ after)
way_forward i j p q before after x y k is at_x at_y early late =
    let u = on_the_way i j p before in
    let v = on_the_way i j p after in
    let by = between i j (p y) in
    let bx = between i j (q x) in
    let front : on_the_way i j q before ≡ u = way_same i j p q before (λ z on. ap (between i j) (early z on)) in
    let back : on_the_way i j q after ≡ v = way_same i j p q after (λ z on. ap (between i j) (late z on)) in
    let new_y : between i j (q y) ≡ by ++ k ∷ [] = ap (between i j) at_y ∙ push_this i j (p y) k is.kept in
    let old_x : between i j (p x) ≡ k ∷ bx = ap (between i j) at_x ∙ pop_this i j k (q x) is.kept in
    let mine : on_the_way i j q (before ++ x ∷ y ∷ after) ≡ ((v ++ (by ++ k ∷ [])) ++ bx) ++ u =
    way_append i j q before (x ∷ y ∷ after)
    ∙ (ap (λ (ks : List Parcel). ((on_the_way i j q after ++ between i j (q y)) ++ bx) ++ ks) front
    ∙ (ap (λ (ks : List Parcel). ((ks ++ between i j (q y)) ++ bx) ++ u) back
    ∙ ap (λ (ks : List Parcel). ((v ++ ks) ++ bx) ++ u) new_y)) in
    let theirs : on_the_way i j p (before ++ x ∷ y ∷ after) ≡ ((v ++ by) ++ k ∷ bx) ++ u =
    way_append i j p before (x ∷ y ∷ after) ∙ ap (λ (ks : List Parcel). ((v ++ by) ++ ks) ++ u) old_x in
    mine
    ∙ (ap (λ (ks : List Parcel). ks ++ u) (ap (λ (ks : List Parcel). ks ++ bx) (sym (append_assoc v by (k ∷ []))) ∙ append_assoc (v ++ by)
    (k ∷ []) bx) ∙ sym theirs)

-- a packet is taken from the last channel
pub way_taken : (i j : ℕ) (p q : ℕ → List Parcel) (before : List ℕ) (x : ℕ) (k : Parcel) → IsBetween i j k → p x ≡ k ∷ q x
    → ((z : ℕ) → IsOn z before → q z ≡ p z)
    → k ∷ on_the_way i j q (before ++ x ∷ []) ≡ on_the_way i j p (before ++ x ∷ [])
way_taken i j p q before x k is at_x early =
    let u = on_the_way i j p before in
    let bx = between i j (q x) in
    let front : on_the_way i j q before ≡ u = way_same i j p q before (λ z on. ap (between i j) (early z on)) in
    let old_x : between i j (p x) ≡ k ∷ bx = ap (between i j) at_x ∙ pop_this i j k (q x) is.kept in
    ap (λ (ks : List Parcel). k ∷ ks) (way_append i j q before (x ∷ []) ∙ ap (λ (ks : List Parcel). bx ++ ks) front)
    ∙ sym (way_append i j p before (x ∷ []) ∙ ap (λ (ks : List Parcel). ks ++ u) old_x)

-- a packet is put into the first channel
pub way_put : (i j : ℕ) (p q : ℕ → List Parcel) (x : ℕ) (after : List ℕ) (k : Parcel) → IsBetween i j k → q x ≡ p x ++ k ∷ []
    → ((z : ℕ) → IsOn z after → q z ≡ p z)
    → on_the_way i j q (x ∷ after) ≡ on_the_way i j p (x ∷ after) ++ k ∷ []
way_put i j p q x after k is at_x late =
    let v = on_the_way i j p after in
    let back : on_the_way i j q after ≡ v = way_same i j p q after (λ z on. ap (between i j) (late z on)) in
    ap (λ (ks : List Parcel). ks ++ between i j (q x)) back
    ∙ (ap (λ (ks : List Parcel). v ++ ks) (ap (between i j) at_x ∙ push_this i j (p x) k is.kept) ∙ sym (append_assoc v (between i j (p x)) (k ∷ [])))
