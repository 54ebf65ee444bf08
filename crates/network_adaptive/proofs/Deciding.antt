-- Tests that tell where packets come, where they roam to and what they wait for.
use Rattle.std.proofs.Common.{◌≡◌, inl, inr, ⊎_elim, ℕ, ◌<◌, ◌&&◌, ◌||◌, not, Bool, true, false, refl, sym, ◌∙◌}
use Rattle.std.proofs.lemmas.Bool.{cases_Bool, and_parts, and_from, or_left, or_right, ltb-true, lt-ltb}
use Rattle.std.specs.Prelude.{nat_lt}
use Rattle.network_judge.proofs.Firsts.{any, any_at, any_from}
use Rattle.network_adaptive.specs.Choices.{AdaptiveNet, IsAdaptiveNet, Comes, BeginsIn, ByChoice, IsChoice, Roams, FromHere, ByNoEscape, ExtendedDependency}
use Rattle.network_adaptive.proofs.Held.{roams_come}
use Rattle.network_adaptive.proofs.Reach.{Path, Stop, Go, reach, path_of, reach_path, or_cases}
use Rattle.network_adaptive.specs.Verdicts.{IsEdge, LacksEscape}

pub not_true : (b : Bool) → not b ≡ true → b ≡ false
not_true true e = cc
not_true false e = refl

pub true_not : (b : Bool) → b ≡ false → not b ≡ true
true_not true e = cc
true_not false e = refl

-- whether a packet to j may go on from x to y
abbrev goes : AdaptiveNet → ℕ → ℕ → ℕ → Bool
goes n j x y = not (n.frame.ejects x) && (n.chooses x j y && nat_lt y n.frame.channels)

abbrev roaming : AdaptiveNet → ℕ → ℕ → ℕ → Bool
roaming n j x y = goes n j x y && not (n.escapes x j y)

abbrev pub comes : AdaptiveNet → ℕ → ℕ → Bool
comes n j x = any (λ i. n.frame.joins i j && reach (goes n j) n.frame.channels n.frame.channels i x) n.frame.channels

abbrev roams : AdaptiveNet → ℕ → ℕ → ℕ → Bool
roams n j x c = reach (roaming n j) n.frame.channels n.frame.channels x c

abbrev escapes_at : AdaptiveNet → ℕ → ℕ → ℕ → ℕ → Bool
escapes_at n j x y c = roams n j x c && (not (n.frame.ejects c) && n.escapes c j y)

abbrev pub awaits : AdaptiveNet → ℕ → ℕ → ℕ → Bool
awaits n x j y = n.marked x && (comes n j x && any (escapes_at n j x y) n.frame.channels)

abbrev pub leads : AdaptiveNet → (ℕ → ℕ → Bool) → ℕ → ℕ → Bool
leads n answers x y = any (λ j. awaits n x j y) n.frame.channels || answers x y

abbrev pub stuck : AdaptiveNet → ℕ → ℕ → Bool
stuck n j x = comes n j x && (not (n.frame.ejects x) && not (any (λ y. n.escapes x j y) n.frame.channels))

module _ (n : AdaptiveNet) where
  goes_steps : (j x y : ℕ) → goes n j x y ≡ true → IsChoice n j x y
  goes_steps j x y e =
      let a = and_parts (not (n.frame.ejects x)) (n.chooses x j y && nat_lt y n.frame.channels) e in
      let b = and_parts (n.chooses x j y) (nat_lt y n.frame.channels) a.1 in
      record { input = not_true (n.frame.ejects x) a.0; chosen = b.0 }

  goes_stay : (j x y : ℕ) → goes n j x y ≡ true → y < n.frame.channels
  goes_stay j x y e =
      let a = and_parts (not (n.frame.ejects x)) (n.chooses x j y && nat_lt y n.frame.channels) e in
      let b = and_parts (n.chooses x j y) (nat_lt y n.frame.channels) a.1 in
      ltb-true y n.frame.channels b.1

  steps_go : (j x y : ℕ) → y < n.frame.channels → IsChoice n j x y → goes n j x y ≡ true
  steps_go j x y low s = and_from (not (n.frame.ejects x)) (n.chooses x j y && nat_lt y n.frame.channels) (true_not (n.frame.ejects x) s.input)
      (and_from (n.chooses x j y) (nat_lt y n.frame.channels) s.chosen (lt-ltb y n.frame.channels low))

  path_comes : (i j x : ℕ) → n.frame.joins i j ≡ true → Path (goes n j) i x → Comes n j x
  path_comes i j x joined Stop = BeginsIn i joined
  path_comes i j x joined (Go y z p s) = ByChoice y z (path_comes i j y joined p) (goes_steps j y z s)

  pub comes_from : (j x : ℕ) → comes n j x ≡ true → Comes n j x
  comes_from j x e =
      let w = any_from (λ i. n.frame.joins i j && reach (goes n j) n.frame.channels n.frame.channels i x) n.frame.channels e in
      let b = and_parts (n.frame.joins w.0 j) (reach (goes n j) n.frame.channels n.frame.channels w.0 x) w.2 in
      path_comes w.0 j x b.0 (path_of (goes n j) n.frame.channels n.frame.channels w.0 x b.1)

  path_roams : (j x c : ℕ) → Path (roaming n j) x c → Roams n j x c
  path_roams j x c Stop = FromHere
  path_roams j x c (Go y z p s) =
      let b = and_parts (goes n j y z) (not (n.escapes y j z)) s in
      ByNoEscape y z (path_roams j x y p) (goes_steps j y z b.0) (not_true (n.escapes y j z) b.1)

  pub awaits_from : (x j y : ℕ) → awaits n x j y ≡ true → ExtendedDependency n x j y
  awaits_from x j y e =
      let a = and_parts (n.marked x) (comes n j x && any (escapes_at n j x y) n.frame.channels) e in
      let b = and_parts (comes n j x) (any (escapes_at n j x y) n.frame.channels) a.1 in
      let w = any_from (escapes_at n j x y) n.frame.channels b.1 in
      let d = and_parts (roams n j x w.0) (not (n.frame.ejects w.0) && n.escapes w.0 j y) w.2 in
      let f = and_parts (not (n.frame.ejects w.0)) (n.escapes w.0 j y) d.1 in
      record {
        held = a.0;
        comes = comes_from j x b.0;
        head = w.0;
        roams = path_roams j x w.0 (path_of (roaming n j) n.frame.channels n.frame.channels x w.0 d.0);
        input = not_true (n.frame.ejects w.0) f.0;
        escape = f.1;
      }

  pub leads_from : (answers : ℕ → ℕ → Bool) (x y : ℕ) → leads n answers x y ≡ true → IsEdge n answers x y
  leads_from answers x y e = ⊎_elim
      (λ (a : any (λ j. awaits n x j y) n.frame.channels ≡ true).
      let w = any_from (λ j. awaits n x j y) n.frame.channels a in inl (w.0, awaits_from x w.0 y w.2))
      (λ (b : answers x y ≡ true). inr b)
      (or_cases (any (λ j. awaits n x j y) n.frame.channels) (answers x y) e)

  module _ (net : IsAdaptiveNet n) where
    -- packets come from somewhere
    record From (j x : ℕ) : Type 0 where
      source : ℕ
      joined : n.frame.joins source j ≡ true
      path : Path (goes n j) source x

    comes_path : (j x : ℕ) → Comes n j x → From j x
    comes_path j x (BeginsIn i joined) = record { source = i; joined = joined; path = Stop }
    comes_path j x (ByChoice y z c s) =
        let f = comes_path j y c in
        record { source = f.source; joined = f.joined; path = Go y z f.path (steps_go j y z (net.within j z (ByChoice y z c s)) s) }

    pub comes_test : (j x : ℕ) → Comes n j x → comes n j x ≡ true
    comes_test j x c =
        let f = comes_path j x c in
        let low : f.source < n.frame.channels = net.within j f.source (BeginsIn f.source f.joined) in
        any_at (λ i. n.frame.joins i j && reach (goes n j) n.frame.channels n.frame.channels i x) n.frame.channels f.source low
        (and_from (n.frame.joins f.source j) (reach (goes n j) n.frame.channels n.frame.channels f.source x) f.joined
        (reach_path (goes n j) n.frame.channels (goes_stay j) f.source x low f.path))

    pub comes_end : (j x : ℕ) → Comes n j x → j < n.frame.channels
    comes_end j x c = let f = comes_path j x c in net.ends f.source j f.joined

    roams_path : (j x c : ℕ) → Comes n j x → Roams n j x c → Path (roaming n j) x c
    roams_path j x c come FromHere = Stop
    roams_path j x c come (ByNoEscape y z r s e) =
        Go y z (roams_path j x y come r) (and_from (goes n j y z) (not (n.escapes y j z))
        (steps_go j y z (net.within j z (ByChoice y z (roams_come n j x y come r) s)) s) (true_not (n.escapes y j z) e))

    roaming_stay : (j x y : ℕ) → roaming n j x y ≡ true → y < n.frame.channels
    roaming_stay j x y e = goes_stay j x y (and_parts (goes n j x y) (not (n.escapes x j y)) e).0

    pub awaits_test : (x j y : ℕ) → ExtendedDependency n x j y → awaits n x j y ≡ true
    awaits_test x j y a =
        let low : x < n.frame.channels = net.within j x a.comes in
        let there : a.head < n.frame.channels = net.within j a.head (roams_come n j x a.head a.comes a.roams) in
        and_from (n.marked x) (comes n j x && any (escapes_at n j x y) n.frame.channels) a.held
        (and_from (comes n j x) (any (escapes_at n j x y) n.frame.channels) (comes_test j x a.comes)
        (any_at (escapes_at n j x y) n.frame.channels a.head there
        (and_from (roams n j x a.head) (not (n.frame.ejects a.head) && n.escapes a.head j y)
        (reach_path (roaming n j) n.frame.channels (roaming_stay j) x a.head low (roams_path j x a.head a.comes a.roams))
        (and_from (not (n.frame.ejects a.head)) (n.escapes a.head j y) (true_not (n.frame.ejects a.head) a.input) a.escape))))

    pub leads_test : (answers : ℕ → ℕ → Bool) (x y : ℕ) → IsEdge n answers x y → leads n answers x y ≡ true
    leads_test answers x y l = ⊎_elim
        (λ (a : (j : ℕ) × ExtendedDependency n x j y). or_left (any (λ j. awaits n x j y) n.frame.channels) (answers x y)
        (any_at (λ j. awaits n x j y) n.frame.channels a.0 (comes_end a.0 x a.1.comes) (awaits_test x a.0 y a.1)))
        (λ (b : answers x y ≡ true). or_right (any (λ j. awaits n x j y) n.frame.channels) (answers x y) b)
        l

    -- beyond the channels there is no escape
    escape_low : (j x y : ℕ) → Comes n j x → n.frame.ejects x ≡ false → n.escapes x j y ≡ true → y < n.frame.channels
    escape_low j x y c input e = net.within j y (ByChoice x y c (record { input = input; chosen = net.chosen j x y c e }))

    pub stuck_from : (j x : ℕ) → stuck n j x ≡ true → LacksEscape n j x
    stuck_from j x e =
        let a = and_parts (comes n j x) (not (n.frame.ejects x) && not (any (λ y. n.escapes x j y) n.frame.channels)) e in
        let b = and_parts (not (n.frame.ejects x)) (not (any (λ y. n.escapes x j y) n.frame.channels)) a.1 in
        let come : Comes n j x = comes_from j x a.0 in
        let input : n.frame.ejects x ≡ false = not_true (n.frame.ejects x) b.0 in
        let none : any (λ y. n.escapes x j y) n.frame.channels ≡ false = not_true (any (λ y. n.escapes x j y) n.frame.channels) b.1 in
        record {
          comes = come;
          input = input;
          none = λ y. elim (cases_Bool (n.escapes x j y)) [
            | inl esc ↦ (let bad : true ≡ false = sym (any_at (λ y. n.escapes x j y) n.frame.channels y (escape_low j x y come input esc) esc) ∙ none in cc)
            | inr no_esc ↦ no_esc
          ];
        }

    pub stuck_test : (j x : ℕ) → LacksEscape n j x → stuck n j x ≡ true
    stuck_test j x s =
        and_from (comes n j x) (not (n.frame.ejects x) && not (any (λ y. n.escapes x j y) n.frame.channels)) (comes_test j x s.comes)
        (and_from (not (n.frame.ejects x)) (not (any (λ y. n.escapes x j y) n.frame.channels)) (true_not (n.frame.ejects x) s.input)
        (elim (cases_Bool (any (λ y. n.escapes x j y) n.frame.channels)) [
          | inl some ↦ (let w = any_from (λ y. n.escapes x j y) n.frame.channels some in let bad : true ≡ false = sym w.2 ∙ s.none w.0 in cc)
          | inr none ↦ true_not (any (λ y. n.escapes x j y) n.frame.channels) none
        ]))
