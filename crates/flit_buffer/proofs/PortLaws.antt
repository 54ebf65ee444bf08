-- The ends of channels after a granted want, and tests in small.
use Rattle.std.proofs.Common.{◌≡◌, ℕ, ◌*◌, ◌<◌, ◌≤◌, Bool, true, false, List, [], ◌∷◌, length, get_or, set, map, Some, None, inl, inr, sym, ap, ◌∙◌, refl}
use Rattle.std.proofs.Common.{subst, arith, length-set, nat_lt, if◌then◌else◌}
use Rattle.std.proofs.lemmas.Bool.{cases_eq}
use Rattle.std.proofs.lemmas.Bool.Decides.{nat_tests}
use Rattle.flit_buffer.specs.Channel.{first_of}
use Rattle.flit_buffer.specs.Places.{Ring, IsRing, put_in_ring, take_from_ring, credit_of_ring, sending, receiving}
use Rattle.flit_buffer.specs.Ends.{SendingEnd, ReceivingEnd}
use Rattle.flit_buffer.specs.Wants.{PortEnds}
use Rattle.flit_buffer.specs.Surroundings.{Surroundings, Wiring, ring, changed, granted, surroundings_after, ports_of, AreRings, IsWired, IsPossible, IsApart}
use Rattle.flit_buffer.specs.declared.want.Want.{Want}
use Rattle.flit_buffer.specs.declared.want.Want.TheVariants.{Take, Put, Credit, Access, Await}
use Rattle.flit_buffer.proofs.RingLaws as law
use Rattle.flit_buffer.proofs.ManyRings.{map_changed, map_same, changed_here, changed_other}

pub some_injective : {A : Type 0} {a b : A} → Some a ≡ Some b → a ≡ b
some_injective e = cc

pub first_flit : (xs : List ℕ) (learned : ℕ) → first_of xs ≡ Some learned → (0 < length xs) × (get_or xs 0 0 ≡ learned)
first_flit [] learned e = cc
first_flit (x ∷ xs) learned e = (omega arith, cc)

pub no_flit : (xs : List ℕ) → first_of xs ≡ None → (length xs ≡ 0) × (get_or xs 0 0 ≡ 0)
no_flit [] e = (refl, refl)
no_flit (x ∷ xs) e = cc

-- an option by a test
pub some_if : {A : Type 0} (b : Bool) (v got : A) → (if b then Some v else None) ≡ Some got → (b ≡ true) × (v ≡ got)
some_if true v got e = (refl, cc)
some_if false v got e = cc

pub none_if : {A : Type 0} (b : Bool) (v : A) → (if b then Some v else None) ≡ None → b ≡ false
none_if true v e = cc
none_if false v e = refl

pub if_true : {A : Type 0} (b : Bool) (v : A) → b ≡ true → (if b then Some v else None) ≡ Some v
if_true true v e = refl
if_true false v e = cc

pub if_false : {A : Type 0} (b : Bool) (v : A) → b ≡ false → (if b then Some v else None) ≡ None
if_false true v e = cc
if_false false v e = refl

pub unless_true : {A : Type 0} (b : Bool) (v : A) → b ≡ true → (if b then None else Some v) ≡ None
unless_true true v e = refl
unless_true false v e = cc

pub unless_false : {A : Type 0} (b : Bool) (v : A) → b ≡ false → (if b then None else Some v) ≡ Some v
unless_false true v e = cc
unless_false false v e = refl

pub less : (a b : ℕ) → nat_lt a b ≡ true → a < b
less a b e = grind (arith, nat_tests)

pub no_less : (a b : ℕ) → nat_lt a b ≡ false → b ≤ a
no_less a b e = grind (arith, nat_tests)

pub is_less : (a b : ℕ) → a < b → nat_lt a b ≡ true
is_less a b e = grind (arith, nat_tests)

-- ports are equal where their parts are
pub same_ports : (a a' : List ReceivingEnd) (b b' : List SendingEnd) (c c' : ℕ) → a ≡ a' → b ≡ b' → c ≡ c'
    → let mk : List ReceivingEnd → List SendingEnd → ℕ → PortEnds = λ x y z. record { inputs = x; outputs = y; words = z } in mk a b c ≡ mk a' b' c'
same_ports a a' b b' c c' p q r =
    let mk : List ReceivingEnd → List SendingEnd → ℕ → PortEnds = λ x y z. record { inputs = x; outputs = y; words = z } in
    ap (λ x. mk x b c) p ∙ ap (λ y. mk a' y c) q ∙ ap (λ z. mk a' b' z) r

module _ (depth : ℕ) (w : Surroundings) where
  -- the ends of a channel, by its number
  abbrev pub in_end : ℕ → ReceivingEnd
  in_end x = receiving (x * depth) depth (ring w.rings x)

  abbrev pub out_end : ℕ → SendingEnd
  out_end x = sending (x * depth) depth (ring w.rings x)

  pub changed_are : (x : ℕ) (f : Ring → Ring) → AreRings depth w → x < length w.rings → IsRing depth (f (ring w.rings x)) → AreRings depth (changed w x f)
  changed_are x f is here now y h = elim (cases_eq y x) [
    | inl same ↦
        let P : ℕ → Type 0 = λ z. IsRing depth (ring (changed w x f).rings z) in
        let Q : Ring → Type 0 = λ c. IsRing depth c in
        subst P (sym same) (subst Q (sym (changed_here w x f here)) now)
    | inr other ↦
        let Q : Ring → Type 0 = λ c. IsRing depth c in
        subst Q (sym (changed_other w x f y other)) (is y (omega (arith, length-set w.rings x (f (ring w.rings x)))))
  ]

module _ (depth : ℕ) (w : Surroundings) (x : ℕ) (f : Ring → Ring) (wiring : Wiring) (here : x < length w.rings) where
  -- an agent's inputs after a change that leaves the receiving end, and its outputs after one that leaves the sending end
  pub ins_kept : receiving (x * depth) depth (f (ring w.rings x)) ≡ in_end depth w x
      → map (in_end depth (changed w x f)) wiring.inputs ≡ map (in_end depth w) wiring.inputs
  ins_kept e = map_same (in_end depth w) (in_end depth (changed w x f)) wiring.inputs (λ j h. kept (get_or wiring.inputs j 0)) where
    kept : (y : ℕ) → in_end depth (changed w x f) y ≡ in_end depth w y
    kept y = elim (cases_eq y x) [
      | inl same ↦
          ap (in_end depth (changed w x f)) same ∙ ap (λ c. receiving (x * depth) depth c) (changed_here w x f here) ∙ e ∙ ap (in_end depth w) (sym same)
      | inr other ↦ ap (λ c. receiving (y * depth) depth c) (changed_other w x f y other)
    ]

  pub outs_kept : sending (x * depth) depth (f (ring w.rings x)) ≡ out_end depth w x
      → map (out_end depth (changed w x f)) wiring.outputs ≡ map (out_end depth w) wiring.outputs
  outs_kept e = map_same (out_end depth w) (out_end depth (changed w x f)) wiring.outputs (λ j h. kept (get_or wiring.outputs j 0)) where
    kept : (y : ℕ) → out_end depth (changed w x f) y ≡ out_end depth w y
    kept y = elim (cases_eq y x) [
      | inl same ↦
          ap (out_end depth (changed w x f)) same ∙ ap (λ c. sending (x * depth) depth c) (changed_here w x f here) ∙ e ∙ ap (out_end depth w) (sym same)
      | inr other ↦ ap (λ c. sending (y * depth) depth c) (changed_other w x f y other)
    ]

module _ (depth : ℕ) (w : Surroundings) (f : Ring → Ring) (wiring : Wiring) (wired : IsWired (length w.rings) wiring) where
  -- and the one end that changes
  pub in_changed : (i : ℕ) (end : ReceivingEnd) → i < length wiring.inputs → let x = get_or wiring.inputs i 0 in
      receiving (x * depth) depth (f (ring w.rings x)) ≡ end
      → map (in_end depth (changed w (get_or wiring.inputs i 0) f)) wiring.inputs ≡ set (map (in_end depth w) wiring.inputs) i end
  in_changed i end there e =
      let x = get_or wiring.inputs i 0 in
      map_changed (in_end depth w) (in_end depth (changed w x f)) wiring.inputs i there (λ j h ne. wired.inputs_apart j i h there ne)
      (λ y other. ap (λ c. receiving (y * depth) depth c) (changed_other w x f y other))
      ∙ ap (λ r. set (map (in_end depth w) wiring.inputs) i r) (ap (λ c. receiving (x * depth) depth c) (changed_here w x f (wired.inputs_within i there)) ∙ e)

  pub out_changed : (o : ℕ) (end : SendingEnd) → o < length wiring.outputs → let x = get_or wiring.outputs o 0 in
      sending (x * depth) depth (f (ring w.rings x)) ≡ end
      → map (out_end depth (changed w (get_or wiring.outputs o 0) f)) wiring.outputs ≡ set (map (out_end depth w) wiring.outputs) o end
  out_changed o end there e =
      let x = get_or wiring.outputs o 0 in
      map_changed (out_end depth w) (out_end depth (changed w x f)) wiring.outputs o there (λ j h ne. wired.outputs_apart j o h there ne)
      (λ y other. ap (λ c. sending (y * depth) depth c) (changed_other w x f y other))
      ∙ ap (λ r. set (map (out_end depth w) wiring.outputs) o r) (ap (λ c. sending (x * depth) depth c) (changed_here w x f (wired.outputs_within o there)) ∙ e)

-- what holds of the surroundings alone, whatever a row shows
module _ (depth : ℕ) (w : Surroundings) (wiring : Wiring) (is : AreRings depth w) (wired : IsWired (length w.rings) wiring) where
  -- an enabled want leaves channels of the same depth
  pub rings_kept : (want : Want) (learned : ℕ) → IsPossible w wiring want → granted w wiring want ≡ Some learned
      → AreRings depth (surroundings_after depth w wiring want)
  rings_kept (Take i) learned possible e =
      let x = get_or wiring.inputs i 0 in
      let here : x < length w.rings = wired.inputs_within i possible in
      let r = ring w.rings x in
      changed_are depth w x (take_from_ring depth) is here (law.take_ring depth r (is x here) (first_flit r.channel.flits learned e).0)
  rings_kept (Put o flit) learned possible e =
      let x = get_or wiring.outputs o 0 in
      let here : x < length w.rings = wired.outputs_within o possible.0 in
      let r = ring w.rings x in
      let f = some_if (nat_lt 0 r.channel.held) 0 learned e in
      changed_are depth w x (put_in_ring flit) is here (law.put_ring depth r (is x here) flit possible.1 (less 0 r.channel.held f.0))
  rings_kept (Credit o) learned possible e =
      let x = get_or wiring.outputs o 0 in
      let here : x < length w.rings = wired.outputs_within o possible in
      let r = ring w.rings x in
      let f = some_if (nat_lt 0 r.channel.returning) 0 learned e in
      changed_are depth w x credit_of_ring is here (law.credit_ring depth r (is x here) (less 0 r.channel.returning f.0))
  rings_kept (Access word o) learned possible e = is
  rings_kept (Await word value) learned possible e = is

  -- a want of one agent leaves the ports of another, where it changes no end of the other's
  pub others_kept : (other : Wiring) (want : Want) (learned : ℕ) → IsPossible w wiring want → IsApart wiring other want → granted w wiring want ≡ Some learned
      → ports_of depth (surroundings_after depth w wiring want) other ≡ ports_of depth w other
  others_kept other (Take i) learned possible apart e =
      let x = get_or wiring.inputs i 0 in
      let here : x < length w.rings = wired.inputs_within i possible in
      let r = ring w.rings x in
      same_ports _ _ _ _ _ _
      (map_same (in_end depth w) (in_end depth (changed w x (take_from_ring depth))) other.inputs
      (λ j h. ap (λ c. receiving (get_or other.inputs j 0 * depth) depth c)
      (changed_other w x (take_from_ring depth) (get_or other.inputs j 0) (apart j h))))
      (outs_kept depth w x (take_from_ring depth) other here (law.take_ends (x * depth) depth r (is x here) (first_flit r.channel.flits learned e).0))
      (ap (λ n. n * depth) (length-set w.rings x (take_from_ring depth r)))
  others_kept other (Put o flit) learned possible apart e =
      let x = get_or wiring.outputs o 0 in
      let here : x < length w.rings = wired.outputs_within o possible.0 in
      let r = ring w.rings x in
      same_ports _ _ _ _ _ _
      (ins_kept depth w x (put_in_ring flit) other here refl)
      (map_same (out_end depth w) (out_end depth (changed w x (put_in_ring flit))) other.outputs
      (λ j h. ap (λ c. sending (get_or other.outputs j 0 * depth) depth c) (changed_other w x (put_in_ring flit) (get_or other.outputs j 0) (apart j h))))
      (ap (λ n. n * depth) (length-set w.rings x (put_in_ring flit r)))
  others_kept other (Credit o) learned possible apart e =
      let x = get_or wiring.outputs o 0 in
      let here : x < length w.rings = wired.outputs_within o possible in
      let r = ring w.rings x in
      same_ports _ _ _ _ _ _
      (ins_kept depth w x credit_of_ring other here refl)
      (map_same (out_end depth w) (out_end depth (changed w x credit_of_ring)) other.outputs
      (λ j h. ap (λ c. sending (get_or other.outputs j 0 * depth) depth c) (changed_other w x credit_of_ring (get_or other.outputs j 0) (apart j h))))
      (ap (λ n. n * depth) (length-set w.rings x (credit_of_ring r)))
  others_kept other (Access word o) learned possible apart e = refl
  others_kept other (Await word value) learned possible apart e = refl
