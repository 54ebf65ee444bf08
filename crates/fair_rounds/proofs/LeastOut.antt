-- The least of the rounds since which operations have been out.
use Rattle.std.proofs.Common.{◌≡◌, ◌⊎◌, ⊎_elim, inl, inr, ℕ, zero, suc, ◌<◌, ◌≤◌, min, List, Option, Some, None, refl, sym, ◌∙◌, ap, subst, arith, slice_index}
use Rattle.std.proofs.lemmas.Bool.{cases_lt}
use Rattle.torus.specs.declared.step.OpId.{OpId}
use Rattle.one_order.specs.Observed.{list_at}
use Rattle.core_laws.specs.Machine.{Core}
use Rattle.fair_rounds.specs.Guard.{tag_holder, least_if_out, least_of_tags, least_of}

-- the least of what is out
module _ (c : Core) (since : List (List ℕ)) where
  least_with : (o : Option OpId) (s most : ℕ) → least_if_out o s most ≤ most
  least_with None s most = omega arith
  least_with (Some id) s most = omega arith

  tags_most : (p n most : ℕ) → least_of_tags c since p n most ≤ most
  tags_most p zero most = omega arith
  tags_most p (suc t) most =
      let here = least_with (tag_holder c p t) (slice_index (list_at since p) t) (least_of_tags c since p t most) in
      let rest = tags_most p t most in
      omega (arith, here, rest)

  tags_below : (p n most t : ℕ) (id : OpId) → t < n → tag_holder c p t ≡ Some id → least_of_tags c since p n most ≤ slice_index (list_at since p) t
  tags_below p zero most t id low is = absurd (omega (arith, low))
  tags_below p (suc n) most t id low is = elim (cases_lt t n) [
    | inl less ↦
        (let rest = tags_below p n most t id less is in
        let here = least_with (tag_holder c p n) (slice_index (list_at since p) n) (least_of_tags c since p n most) in
        omega (arith, rest, here))
    | inr last ↦
        (let same : n ≡ t = omega (arith, low, last) in
        let held : tag_holder c p n ≡ Some id = ap (tag_holder c p) same ∙ is in
        let e : least_if_out (tag_holder c p n) (slice_index (list_at since p) n) (least_of_tags c since p n most)
        ≡ min (least_of_tags c since p n most) (slice_index (list_at since p) n) =
        ap (λ (o : Option OpId). least_if_out o (slice_index (list_at since p) n) (least_of_tags c since p n most)) held in
        let s : slice_index (list_at since p) n ≡ slice_index (list_at since p) t = ap (slice_index (list_at since p)) same in
        omega (arith, e, s))
  ]

  pub all_most : (n most : ℕ) → least_of c since n most ≤ most
  all_most zero most = omega arith
  all_most (suc p) most =
      let here = tags_most p 16 (least_of c since p most) in
      let rest = all_most p most in
      omega (arith, here, rest)

  pub all_below : (n most p t : ℕ) (id : OpId) → p < n → t < 16 → tag_holder c p t ≡ Some id → least_of c since n most ≤ slice_index (list_at since p) t
  all_below zero most p t id low few is = absurd (omega (arith, low))
  all_below (suc n) most p t id low few is = elim (cases_lt p n) [
    | inl less ↦
        (let rest = all_below n most p t id less few is in
        let here = tags_most n 16 (least_of c since n most) in
        omega (arith, rest, here))
    | inr last ↦
        (let same : p ≡ n = omega (arith, low, last) in
        subst (λ (k : ℕ). least_of_tags c since n 16 (least_of c since n most) ≤ slice_index (list_at since k) t) (sym same)
        (tags_below n 16 (least_of c since n most) t id few (ap (λ (k : ℕ). tag_holder c k t) (sym same) ∙ is)))
  ]

  -- it is that of a tag that is out, unless none is
  pub record Attains (value : ℕ) (processors : ℕ) : Type 0 where
    pub processor : ℕ
    pub tag : ℕ
    pub id : OpId
    pub low : processor < processors
    pub few : tag < 16
    pub held : tag_holder c processor tag ≡ Some id
    pub is : slice_index (list_at since processor) tag ≡ value

  tags_found : (p n most : ℕ) → n ≤ 16 → (least_of_tags c since p n most ≡ most) ⊎ Attains (least_of_tags c since p n most) (suc p)
  tags_found p zero most few = inl refl
  tags_found p (suc t) most few = by_holder (tag_holder c p t) refl (tags_found p t most (omega (arith, few)))
    where
      by_holder : (o : Option OpId) → tag_holder c p t ≡ o → (least_of_tags c since p t most ≡ most) ⊎ Attains (least_of_tags c since p t most) (suc p)
          → (least_if_out o (slice_index (list_at since p) t) (least_of_tags c since p t most) ≡ most)
          ⊎ Attains (least_if_out o (slice_index (list_at since p) t) (least_of_tags c since p t most)) (suc p)
      by_holder None held rest = rest
      by_holder (Some id) held rest = elim (cases_lt (slice_index (list_at since p) t) (least_of_tags c since p t most)) [
        | inl less ↦ inr (record { processor = p; tag = t; id = id; low = omega arith; few = omega (arith, few); held = held; is = omega (arith, less) })
        | inr above ↦
            (let e : least_of_tags c since p t most ≡ min (least_of_tags c since p t most) (slice_index (list_at since p) t) = omega (arith, above) in
            subst (λ (v : ℕ). (v ≡ most) ⊎ Attains v (suc p)) e rest)
      ]

  pub all_found : (n most : ℕ) → (least_of c since n most ≡ most) ⊎ Attains (least_of c since n most) n
  all_found zero most = inl refl
  all_found (suc p) most = ⊎_elim
      (λ (same : least_of_tags c since p 16 (least_of c since p most) ≡ least_of c since p most). ⊎_elim
      (λ (none : least_of c since p most ≡ most). inl (same ∙ none))
      (λ (a : Attains (least_of c since p most) p). inr (record {
        processor = a.processor;
        tag = a.tag;
        id = a.id;
        low = let low = a.low in omega (arith, low);
        few = a.few;
        held = a.held;
        is = a.is ∙ sym same;
      }))
      (all_found p most))
      (λ (a : Attains (least_of_tags c since p 16 (least_of c since p most)) (suc p)). inr a)
      (tags_found p 16 (least_of c since p most) (omega arith))
