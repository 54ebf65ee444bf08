-- Channels that meet, and what is noted of them.
use Rattle.std.proofs.Common.{◌≡◌, ◌⊎◌, inl, inr, ℕ, ◌<◌, ◌≤◌, ◌+◌, Bool, true, false, cond, List, [], ◌∷◌, ◌++◌, length, Option, Some, None, refl, sym, ◌∙◌, ap, subst, arith}
use Rattle.std.proofs.Common.{get_or-set_same, get_or-set_other}
use Rattle.std.specs.Prelude.{◌==◌, slice_index, slice_set}
use Rattle.std.proofs.lemmas.Bool.{cases_eq, cases_lt, eqb-true, eqb-false}
use Rattle.std.proofs.lemmas.List.{length-set}
use Rattle.network_judge.specs.Table.{Table, channels_of, columns_of, choice_of, kind_of, is_receiver}
use Rattle.network_rounds.specs.Routers.{MayChoose, MeetAlong, HaveOneRouter, AreRouters, IsCellBefore, AreNoted, first_choosing, router_renumbered, AreRenumbered, NotesChoice}

along : (t : Table) (x y z : ℕ) (way on : List ℕ) → MeetAlong t x way y → MeetAlong t y on z → MeetAlong t x (way ++ on) z
along t x y z [] on h k = subst (λ (w : ℕ). MeetAlong t w on z) (sym h) k
along t x y z (w ∷ way) on h k = (h.0, along t w y z way on h.1 k)

pub joined : (t : Table) (x y z : ℕ) → HaveOneRouter t x y → HaveOneRouter t y z → HaveOneRouter t x z
joined t x y z h k = (h.0 ++ k.0, along t x y z h.0 k.0 h.1 k.1)

pub met : (t : Table) (x y z : ℕ) → MayChoose t x y → MayChoose t z y → HaveOneRouter t x z
met t x y z a b = (z ∷ [], ((y, a, b), refl))

turned : (t : Table) (x z : ℕ) (way : List ℕ) → MeetAlong t x way z → HaveOneRouter t z x
turned t x z [] h = ([], sym h)
turned t x z (y ∷ way) h = joined t z y x (turned t y z way h.1) (met t y h.0.0 x h.0.2 h.0.1)

pub turns : (t : Table) (x z : ℕ) → HaveOneRouter t x z → HaveOneRouter t z x
turns t x z h = turned t x z h.0 h.1

-- a new number, or the old one
split : (from to number : ℕ) → ((number ≡ from) × (router_renumbered from to number ≡ to)) ⊎ (router_renumbered from to number ≡ number)
split from to number = by (number == from) refl
  where
    by : (b : Bool) → (number == from) ≡ b → ((number ≡ from) × (router_renumbered from to number ≡ to)) ⊎ (router_renumbered from to number ≡ number)
    by true e = inl (eqb-true number from e, ap (λ (c : Bool). cond c to number) e)
    by false e = inr (ap (λ (c : Bool). cond c to number) e)

-- a cell before the next is one before this, or this
before_more : (x column a c : ℕ) → IsCellBefore x (column + 1) a c → IsCellBefore x column a c ⊎ ((a ≡ x) × (c ≡ column))
before_more x column a c h = elim h [
  | inl above ↦ inl (inl above)
  | inr here ↦ elim (cases_lt c column) [
    | inl low ↦ inl (inr (here.0, low))
    | inr high ↦ inr (here.0, (let l = here.1 in omega (arith, l, high)))
  ]
]

module _ (t : Table) (routers later : List ℕ) (firsts noted : List (Option ℕ)) (x column : ℕ) (h : AreNoted t x column routers firsts)
    (may : choice_of t x column < channels_of t → MayChoose t x (choice_of t x column)) where
  abbrev y : ℕ
  y = choice_of t x column

  -- where there is no such channel
  none_noted : length firsts ≤ y → later ≡ routers → noted ≡ firsts → AreNoted t x (column + 1) later noted
  none_noted past r f =
      subst (λ (rs : List ℕ). AreNoted t x (column + 1) rs noted) (sym r) (subst (AreNoted t x (column + 1) routers) (sym f) (record {
        size = h.size;
        many = h.many;
        low = h.low;
        first = h.first;
        apart = h.apart;
        one = λ a c is here input within there. elim (before_more x column a c is) [
          | inl old ↦ h.one a c old here input within there
          | inr new ↦ absurd
              (let same : choice_of t a c ≡ y = ap (λ (n : ℕ). choice_of t n c) new.0 ∙ ap (choice_of t x) new.1 in
              let many = h.many in omega (arith, past, same, there, many))
        ];
      }))

  -- the first
  first_noted : y < length firsts → first_choosing firsts y ≡ None → later ≡ routers → noted ≡ slice_set firsts y (Some x) → AreNoted t x (column + 1) later noted
  first_noted low none r f =
      subst (λ (rs : List ℕ). AreNoted t x (column + 1) rs noted) (sym r) (subst (AreNoted t x (column + 1) routers) (sym f) (record {
        size = h.size;
        many = length-set firsts y (Some x) ∙ h.many;
        low = h.low;
        first = firsts_are;
        apart = h.apart;
        one = λ a c is here input within there. elim (before_more x column a c is) [
          | inl old ↦ kept a c (h.one a c old here input within there)
          | inr new ↦
              (let same : choice_of t a c ≡ y = ap (λ (n : ℕ). choice_of t n c) new.0 ∙ ap (choice_of t x) new.1 in
              (x, ap (first_choosing (slice_set firsts y (Some x))) same ∙ get_or-set_same firsts y (Some x) None low, ap (slice_index routers) new.0))
        ];
      }))
    where
      firsts_are : (z v : ℕ) → first_choosing (slice_set firsts y (Some x)) z ≡ Some v → MayChoose t v z
      firsts_are z v e = elim (cases_eq z y) [
        | inl same ↦
            (let is : Some x ≡ Some v = sym (get_or-set_same firsts y (Some x) None low) ∙ (ap (first_choosing (slice_set firsts y (Some x))) (sym same) ∙ e) in
            let here : x ≡ v = cc in
            let inside : y < channels_of t = let many = h.many in omega (arith, low, many) in
            subst (λ (w : ℕ). MayChoose t v w) (sym same) (subst (λ (w : ℕ). MayChoose t w y) here (may inside)))
        | inr other ↦ h.first z v (sym (get_or-set_other firsts y z (Some x) None other) ∙ e)
      ]

      kept : (a c : ℕ) → ((v : ℕ) × (first_choosing firsts (choice_of t a c) ≡ Some v) × (slice_index routers a ≡ slice_index routers v))
          → (v : ℕ) × (first_choosing (slice_set firsts y (Some x)) (choice_of t a c) ≡ Some v) × (slice_index routers a ≡ slice_index routers v)
      kept a c k = elim (cases_eq (choice_of t a c) y) [
        | inl same ↦ absurd (let clash : Some k.0 ≡ None = sym k.1 ∙ (ap (first_choosing firsts) same ∙ none) in cc)
        | inr other ↦ (k.0, get_or-set_other firsts y (choice_of t a c) (Some x) None other ∙ k.1, k.2)
      ]

  -- one router with the first
  module _ (v : ℕ) (is : first_choosing firsts y ≡ Some v) (here : x < channels_of t) (n : AreRenumbered routers later (slice_index routers x) (slice_index routers v)) where
    abbrev from : ℕ
    from = slice_index routers x

    abbrev to : ℕ
    to = slice_index routers v

    there : v < channels_of t
    there = (h.first y v is).here

    each : (z : ℕ) → z < channels_of t → slice_index later z ≡ router_renumbered from to (slice_index routers z)
    each z low = n.each z (let size = h.size in omega (arith, low, size))

    link : HaveOneRouter t x v
    link = (let b = h.first y v is in met t x y v (may b.there) b)

    apart_later : (a b : ℕ) → a < channels_of t → b < channels_of t → slice_index later a ≡ slice_index later b → HaveOneRouter t a b
    apart_later a b la lb e =
        (let f : router_renumbered from to (slice_index routers a) ≡ router_renumbered from to (slice_index routers b) = sym (each a la) ∙ (e ∙ each b lb) in
        elim (split from to (slice_index routers a)) [
          | inl p ↦ elim (split from to (slice_index routers b)) [
            | inl q ↦ h.apart a b la lb (p.0 ∙ sym q.0)
            | inr q ↦ joined t a x b (h.apart a x la here p.0) (joined t x v b link (h.apart v b there lb (sym p.1 ∙ (f ∙ q))))
          ]
          | inr p ↦ elim (split from to (slice_index routers b)) [
            | inl q ↦ joined t a v b (h.apart a v la there (sym p ∙ (f ∙ q.1))) (joined t v x b (turns t x v link) (h.apart x b here lb (sym q.0)))
            | inr q ↦ h.apart a b la lb (sym p ∙ (f ∙ q))
          ]
        ])

    low_later : (z : ℕ) → z < channels_of t → slice_index later z < channels_of t
    low_later z low = elim (split from to (slice_index routers z)) [
      | inl p ↦ subst (λ (k : ℕ). k < channels_of t) (sym (each z low ∙ p.1)) (h.low v there)
      | inr p ↦ subst (λ (k : ℕ). k < channels_of t) (sym (each z low ∙ p)) (h.low z low)
    ]

    to_stays : router_renumbered from to to ≡ to
    to_stays = elim (split from to to) [ inl p ↦ p.1 | inr p ↦ p ]

    from_goes : router_renumbered from to from ≡ to
    from_goes = elim (split from to from) [ inl p ↦ p.1 | inr p ↦ from_same p ]
      where
        from_same : router_renumbered from to from ≡ from → router_renumbered from to from ≡ to
        from_same p = same_by (from == from) refl
          where
            same_by : (b : Bool) → (from == from) ≡ b → router_renumbered from to from ≡ to
            same_by true e = ap (λ (c : Bool). cond c to from) e
            same_by false e = absurd (eqb-false from from e refl)

    same_noted : noted ≡ firsts → AreNoted t x (column + 1) later noted
    same_noted f = subst (AreNoted t x (column + 1) later) (sym f) (record {
      size = n.size ∙ h.size;
      many = h.many;
      low = low_later;
      first = h.first;
      apart = apart_later;
      one = λ a c at low input within inside. elim (before_more x column a c at) [
        | inl old ↦
            (let k = h.one a c old low input within inside in
            (k.0, k.1, each a low ∙ (ap (router_renumbered from to) k.2 ∙ sym (each k.0 (h.first (choice_of t a c) k.0 k.1).here))))
        | inr new ↦
            (let same : choice_of t a c ≡ y = ap (λ (m : ℕ). choice_of t m c) new.0 ∙ ap (choice_of t x) new.1 in
            (v, ap (first_choosing firsts) same ∙ is, ap (slice_index later) new.0 ∙ (each x here ∙ (from_goes ∙ (sym to_stays ∙ sym (each v there))))))
      ];
    })

  -- one cell more
  pub noted_more : x < channels_of t → NotesChoice routers firsts x y later noted → AreNoted t x (column + 1) later noted
  noted_more here k = elim k [
    | inl past ↦ none_noted past.0 past.1 past.2
    | inr k ↦ elim k [
      | inl new ↦ first_noted new.0 new.1 new.2 new.3
      | inr old ↦ same_noted old.0 old.1 here old.3 old.2
    ]
  ]

-- no cell yet
pub noted_none : (t : Table) (routers : List ℕ) (firsts : List (Option ℕ)) → length routers ≡ channels_of t → length firsts ≡ channels_of t
    → ((x : ℕ) → x < channels_of t → slice_index routers x ≡ x) → ((y : ℕ) → first_choosing firsts y ≡ None) → AreNoted t 0 0 routers firsts
noted_none t routers firsts size many own none = record {
  size = size;
  many = many;
  low = λ x l. subst (λ (k : ℕ). k < channels_of t) (sym (own x l)) l;
  first = λ y v e. absurd (let clash : None ≡ Some v = sym (none y) ∙ e in cc);
  apart = λ x z l m e. ([], sym (own x l) ∙ (e ∙ own z m));
  one = λ a c is here input within there. elim is [ inl low ↦ absurd (omega (arith, low)) | inr low ↦ absurd (let l = low.1 in omega (arith, l)) ];
}

-- a row more
pub noted_row : (t : Table) (routers : List ℕ) (firsts : List (Option ℕ)) (x width : ℕ) → width ≡ columns_of t → AreNoted t x width routers firsts
    → AreNoted t (x + 1) 0 routers firsts
noted_row t routers firsts x width all h = record {
  size = h.size;
  many = h.many;
  low = h.low;
  first = h.first;
  apart = h.apart;
  one = λ a c is here input within there. h.one a c (before a c is within) here input within there;
}
  where
    before : (a c : ℕ) → IsCellBefore (x + 1) 0 a c → c < columns_of t → IsCellBefore x width a c
    before a c is within = elim is [
      | inl above ↦ elim (cases_lt a x) [
        | inl low ↦ inl low
        | inr high ↦ inr (omega (arith, above, high), omega (arith, within, all))
      ]
      | inr none ↦ absurd (let l = none.1 in omega (arith, l))
    ]

-- a row of a receiver, which has no choices
pub noted_receiver : (t : Table) (routers : List ℕ) (firsts : List (Option ℕ)) (x : ℕ) → is_receiver (kind_of t x) ≡ true → AreNoted t x 0 routers firsts
    → AreNoted t (x + 1) 0 routers firsts
noted_receiver t routers firsts x receives h = record {
  size = h.size;
  many = h.many;
  low = h.low;
  first = h.first;
  apart = h.apart;
  one = λ a c is here input within there. h.one a c (before a c is input) here input within there;
}
  where
    before : (a c : ℕ) → IsCellBefore (x + 1) 0 a c → is_receiver (kind_of t a) ≡ false → IsCellBefore x 0 a c
    before a c is input = elim is [
      | inl above ↦ elim (cases_lt a x) [
        | inl low ↦ inl low
        | inr high ↦ absurd
            (let same : a ≡ x = omega (arith, above, high) in
            let clash : true ≡ false = sym receives ∙ (ap (λ (z : ℕ). is_receiver (kind_of t z)) (sym same) ∙ input) in cc)
      ]
      | inr none ↦ absurd (let l = none.1 in omega (arith, l))
    ]

-- all rows
module _ (t : Table) (routers : List ℕ) (firsts : List (Option ℕ)) (rows : ℕ) (all : rows ≡ channels_of t) (h : AreNoted t rows 0 routers firsts) where
  first_is : (x y : ℕ) → MayChoose t x y → (v : ℕ) × (first_choosing firsts y ≡ Some v) × (slice_index routers x ≡ slice_index routers v)
  first_is x y m =
      (let inside : choice_of t x m.column < channels_of t = subst (λ (k : ℕ). k < channels_of t) (sym m.is) m.there in
      let here = m.here in
      let k = h.one x m.column (inl (omega (arith, here, all))) m.here m.input m.within inside in
      (k.0, ap (first_choosing firsts) (sym m.is) ∙ k.1, k.2))

  meet_one : (x z y : ℕ) → MayChoose t x y → MayChoose t z y → slice_index routers x ≡ slice_index routers z
  meet_one x z y a b =
      (let k = first_is x y a in
      let l = first_is z y b in
      let both : Some k.0 ≡ Some l.0 = sym k.1 ∙ l.1 in
      let same : k.0 ≡ l.0 = cc in
      k.2 ∙ (ap (slice_index routers) same ∙ sym l.2))

  one_along : (x z : ℕ) (way : List ℕ) → MeetAlong t x way z → slice_index routers x ≡ slice_index routers z
  one_along x z [] m = ap (slice_index routers) m
  one_along x z (y ∷ way) m = meet_one x y m.0.0 m.0.1 m.0.2 ∙ one_along y z way m.1

  pub are_routers : AreRouters t routers
  are_routers = record { size = h.size; low = h.low; one = λ x z m. one_along x z m.0 m.1; apart = h.apart }

-- a choice more of a row
pub row_more : (t : Table) (routers later : List ℕ) (firsts noted : List (Option ℕ)) (x column y : ℕ) → AreNoted t x column routers firsts → x < channels_of t
    → is_receiver (kind_of t x) ≡ false → column < columns_of t → y ≡ choice_of t x column → NotesChoice routers firsts x y later noted
    → AreNoted t x (column + 1) later noted
row_more t routers later firsts noted x column y h here input within is notes =
    noted_more t routers later firsts noted x column h
    (λ there. record { here = here; input = input; column = column; within = within; is = refl; there = there })
    here (subst (λ (z : ℕ). NotesChoice routers firsts x z later noted) is notes)
