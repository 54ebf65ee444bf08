-- The outputs that a router keeps beside its latches.
use Rattle.std.proofs.Common.{◌≡◌, ◌≢◌, ◌⊎◌, ℕ, ◌<◌, Bool, true, false, cond, List, length, get_or, set, replicate, Option, Some, None, inl, inr, refl, sym, ap, subst, ◌∙◌, arith}
use Rattle.std.proofs.Common.{length-set, get_or-set_same, get_or-set_other}
use Rattle.std.specs.Prelude.{◌==◌, IfSome, slice_index, option_and_then}
use Rattle.std.proofs.lemmas.Bool.{cases_eq, cases_lt, ne_eqb}
use Rattle.std.proofs.lemmas.List.{get_or-replicate, length-replicate}
use Rattle.torus.specs.Shape.{Shape, dims_of}
use Rattle.torus.specs.declared.step.Choice.{Choice}
use Rattle.torus.specs.declared.step.Choice.TheVariants as choice
use Rattle.packet.specs.declared.heading.Head.{Head}
use Rattle.packet.specs.Flits.{head_of}
use Rattle.channel_number.specs.Ports.{port_count}
use Rattle.flit_buffer.specs.Tries.{tried}
use Rattle.flit_buffer.specs.Wants.{PortEnds, want_op, outcome}
use Rattle.flit_buffer.specs.Words.{word_of}
use Rattle.flit_buffer.specs.declared.want.Want.{Want}
use Rattle.flit_buffer.specs.declared.word_op.WordOp.{WordOp}
use Rattle.router.specs.Table.{way_of}
use Rattle.router.specs.Kept.{AreTargets, IsOfChoice, IsFlitOf}
use Rattle.router.proofs.Ownership.{some_within}

module _ (s : Shape) (tile : ℕ) (latches : List (Option ℕ)) (targets : List ℕ) (is : AreTargets s tile latches targets) (i : ℕ)
    (count : length targets ≡ port_count (dims_of s)) where
  -- a flit is taken, and its target kept
  module _ (flit target : ℕ) (low : target < port_count (dims_of s)) (way : IfSome (head_of flit) (λ head. target ≡ way_of s tile i head)) where
    within : (j : ℕ) → j < port_count (dims_of s) → get_or (set targets i target) j 0 < port_count (dims_of s)
    within j h = elim (cases_eq j i) [
      | inl same ↦
          let there : i < length targets = omega (arith, count, same, h) in
          rw same (rw (get_or-set_same targets i target 0 there) low)
      | inr other ↦ rw (get_or-set_other targets i j target 0 other) (is.within j h)
    ]

    ways : i < length targets → (j f : ℕ) → get_or (set latches i (Some flit)) j None ≡ Some f
        → IfSome (head_of f) (λ head. get_or (set targets i target) j 0 ≡ way_of s tile j head)
    ways there j f e = elim (cases_eq j i) [
      | inl same ↦
          let stands : i < length latches = omega (arith, same, some_within (set latches i (Some flit)) j f e, length-set latches i (Some flit)) in
          let is_it : Some flit ≡ Some f = sym (get_or-set_same latches i (Some flit) None stands) ∙ ap (λ k. get_or (set latches i (Some flit)) k None) (sym same) ∙ e in
          let flits : flit ≡ f = cc in
          rw same (rw (get_or-set_same targets i target 0 there) (rw (sym flits) way))
      | inr other ↦ rw (get_or-set_other targets i j target 0 other) (is.ways j f (sym (get_or-set_other latches i j (Some flit) None other) ∙ e))
    ]

    pub targets_taken : i < length targets → AreTargets s tile (set latches i (Some flit)) (set targets i target)
    targets_taken there = record {
      within = within;
      ways = ways there;
    }

  left_ways : (j f : ℕ) → get_or (set latches i None) j None ≡ Some f → IfSome (head_of f) (λ head. get_or targets j 0 ≡ way_of s tile j head)
  left_ways j f e = elim (cases_eq j i) [
    | inl same ↦
        let stands : i < length latches = omega (arith, same, some_within (set latches i None) j f e, length-set latches i None) in
        let wrong : None ≡ Some f = sym (get_or-set_same latches i None None stands) ∙ ap (λ k. get_or (set latches i None) k None) (sym same) ∙ e in
        cc
    | inr other ↦ is.ways j f (sym (get_or-set_other latches i j None None other) ∙ e)
  ]

  -- a flit is put
  pub targets_left : AreTargets s tile (set latches i None) targets
  targets_left = record { within = is.within; ways = left_ways }

-- the target beside a latched head is the output for its packet
pub target_is : (s : Shape) (tile : ℕ) (latches : List (Option ℕ)) (targets : List ℕ) → AreTargets s tile latches targets → (i flit : ℕ) (head : Head)
    → get_or latches i None ≡ Some flit → head_of flit ≡ Some head
    → get_or targets i 0 ≡ way_of s tile i head
target_is s tile latches targets is i flit head e headed =
    subst (λ (o : Option Head). IfSome o (λ h. get_or targets i 0 ≡ way_of s tile i h)) headed (is.ways i flit e)

-- empty latches have no heads
pub targets_at_first : (s : Shape) (tile n : ℕ) → n ≡ port_count (dims_of s) → AreTargets s tile (replicate n None) (replicate n 0)
targets_at_first s tile n is = record {
  within = λ i h. rw (get_or-replicate {A = ℕ} n i 0 0 (omega (arith, h, is))) (omega arith);
  ways = λ i flit e.
      let low : i < n = omega (arith, some_within (replicate n None) i flit e, length-replicate {A = Option ℕ} n None) in
      let wrong : None ≡ Some flit = sym (get_or-replicate {A = Option ℕ} n i None None low) ∙ e in
      cc;
}

option_cases : {X : Type 0} → (x : Option X) → (x ≡ None) ⊎ ((y : X) × (x ≡ Some y))
option_cases None = inl refl
option_cases (Some y) = inr (y, refl)

-- what a granted take finds isn't 0
flit_found : (got learned : ℕ) (b : Bool) → (got == 0) ≡ b → cond b None (Some got) ≡ Some learned → learned ≢ 0
flit_found got learned true is e = let wrong : None ≡ Some learned = e in cc
flit_found got learned false is e =
    let same : got ≡ learned = cc in
    λ (zero : learned ≡ 0). let wrong : true ≡ false = sym (ap (λ k. k == 0) (same ∙ zero)) ∙ is in cc

pub flit_learned : (c : Choice) (want : Want) (got learned : ℕ) → IsOfChoice c want → outcome want got ≡ Some learned → IsFlitOf c learned
flit_learned (choice.TakeFrom i) want got learned is e =
    flit_found got learned (got == 0) refl (ap (λ w. outcome w got) (sym is) ∙ e)
flit_learned _ want got learned is e = tt

pub flit_tried : (c : Choice) (want : Want) (p : PortEnds) (row : List ℕ) (learned : ℕ) → IsOfChoice c want → tried p row want ≡ Some learned → IsFlitOf c learned
flit_tried c want p row learned is e = elim (option_cases (want_op p want)) [
  | inl none ↦ let wrong : None ≡ Some learned = sym (ap (option_and_then (λ o. outcome want (slice_index row (word_of o)))) none) ∙ e in cc
  | inr some ↦
      flit_learned c want (slice_index row (word_of some.0)) learned is
      (sym (ap (option_and_then (λ o. outcome want (slice_index row (word_of o)))) some.1) ∙ e)
]
