-- A flit in a channel or a latch: somebody goes.
use Rattle.std.proofs.Common.{◌≡◌, ◌⊎◌, inl, inr, ⊎_elim, ℕ, ◌<◌, ◌≤◌, Bool, true, false, List, [], ◌∷◌, ◌++◌, Option, Some, None, All, sym, ap, ◌∙◌, refl, subst, arith}
use Rattle.std.proofs.lemmas.Bool.{cases_lt, cases_Bool}
use Rattle.std.proofs.lemmas.List.Elements.{All-head}
use Rattle.wormhole.specs.Net.{Parcel, IsParcel}
use Rattle.wormhole.specs.State.{NetState, in_line}
use Rattle.wormhole.specs.Events.{Latch, ForwardHead, ForwardRest}
use Rattle.wormhole.specs.Words.{Words}
use Rattle.wormhole.proofs.Channels.{HasPopped, pop_head}
use Rattle.wormhole.proofs.Inductions.{by_falling}
use Rattle.wormhole.proofs.Heads.{in_line_is, split, goes_on}
use Rattle.wormhole.proofs.Quiescence.{or_all}
use Rattle.network_adaptive.specs.Choices.{AdaptiveNet, IsAdaptiveNet, HasEscapes, AreReplyEnds, AreRising, Comes, ByChoice, IsChoice, Roams, FromHere, ByNoEscape}
use Rattle.network_adaptive.specs.Tracks.{IsAlone, AreTracks}
use Rattle.network_adaptive.specs.Progress.{GoesByEscapes}
use Rattle.network_adaptive.proofs.Owed.{with_credit, owed_goes}

-- where a packet roams to, packets come
pub roams_come : (n : AdaptiveNet) (j x c : ℕ) → Comes n j x → Roams n j x c → Comes n j c
roams_come n j x c come FromHere = come
roams_come n j x c come (ByNoEscape y z r step esc) = ByChoice y z (roams_come n j x y come r) step

module _ (n : AdaptiveNet) (s : NetState) (answers : ℕ → ℕ → Bool) (Go : Type 0) (net : IsAdaptiveNet n) (escapes : HasEscapes n) (number : ℕ → ℕ) (rising : AreRising n answers number) (deep : 0 < n.frame.depth) (words : Words n.frame s)
    (course stamp : ℕ → ℕ) (now : ℕ) (tracks : AreTracks n s course stamp now) (are : AreReplyEnds n answers) (goes : GoesByEscapes n s answers Go) where
  credit_goes : (x : ℕ) → x < n.frame.channels → (s.lines x).flits ≡ [] → (0 < (s.lines x).held → Go) → Go
  credit_goes = with_credit n s answers Go deep words course stamp now tracks goes

  -- a flit stands in the channel or its receiver's latch
  abbrev pub HeldGoes : ℕ → Type 0
  HeldGoes x = (f : ℕ) (fs : List ℕ) → in_line (s.lines x) ≡ f ∷ fs → Go

  -- the escapes that a packet to j may wait for, which holds channel x
  abbrev pub Ahead : ℕ → ℕ → Type 0
  Ahead j x = (c y : ℕ) → Roams n j x c → n.frame.ejects c ≡ false → n.escapes c j y ≡ true → HeldGoes y

  -- a full channel has a flit in its line
  full : (y f : ℕ) (fs : List ℕ) → HeldGoes y → (l : Option ℕ) → (s.lines y).latch ≡ l → (s.lines y).flits ≡ f ∷ fs → Go
  full y f fs held None latched listed = held f fs (in_line_is s y None (f ∷ fs) latched listed)
  full y f fs held (Some g) latched listed = held g (f ∷ fs) (in_line_is s y (Some g) (f ∷ fs) latched listed)

  into : (y : ℕ) → HeldGoes y → y < n.frame.channels → (0 < (s.lines y).held → Go) → (fs : List ℕ) → (s.lines y).flits ≡ fs → Go
  into y held within then [] listed = credit_goes y within listed then
  into y held within then (f ∷ fs) listed = full y f fs held (s.lines y).latch refl listed

  -- an owned channel is full, or flits are owed to it
  if_owned : (y w : ℕ) → HeldGoes y → y < n.frame.channels → (s.lines y).owner ≡ Some w → (owed fs : List ℕ) → (s.notes y).owed ≡ owed
      → (s.lines y).flits ≡ fs → Go
  if_owned y w held within owner owed (f ∷ fs) owes listed = full y f fs held (s.lines y).latch refl listed
  if_owned y w held within owner (o ∷ os) [] owes listed =
      owed_goes n s answers Go deep words course stamp now tracks goes y within listed o os owes
  if_owned y w held within owner [] [] owes listed = let at = words.held w y owner in absurd (at.more (sym at.same ∙ owes))

  -- a packet goes to j: it begins with this flit, or the flit is of the packet that is coming out
  abbrev IsTo : ℕ → ℕ → ℕ → Type 0
  IsTo x j f = ((n.frame.is_head f ≡ true) × (n.frame.told f ≡ j)) ⊎ ((n.frame.is_head f ≡ false) × (course x ≡ j))

  -- a head flit waits for an escape
  head_on : (x y j f : ℕ) → HeldGoes y → x < n.frame.channels → n.frame.ejects x ≡ false → Comes n j x → n.escapes x j y ≡ true
      → (s.lines x).latch ≡ Some f → n.frame.is_head f ≡ true → n.frame.told f ≡ j → y < n.frame.channels → (o : Option ℕ) → (s.lines y).owner ≡ o → Go
  head_on x y j f held within input come escape latched head told inner None owner =
      let esc : n.escapes x (n.frame.told f) y ≡ true = subst (λ z. n.escapes x z y ≡ true) (sym told) escape in
      let chosen : n.chooses x (n.frame.told f) y ≡ true = subst (λ z. n.chooses x z y ≡ true) (sym told) (net.chosen j x y come escape) in
      into y held inner (λ credit. goes.moves (ForwardHead x y f) tt esc
      (record { here = within; input = input; full = latched; head = head; chosen = chosen; free = owner; credit = credit; room = inl esc }))
      (s.lines y).flits refl
  head_on x y j f held within input come escape latched head told inner (Some w) owner =
      if_owned y w held inner owner (s.notes y).owed (s.lines y).flits refl refl

  escape_within : (j c y : ℕ) → Comes n j c → n.frame.ejects c ≡ false → n.escapes c j y ≡ true → y < n.frame.channels
  escape_within j c y come input escape = net.within j y (ByChoice c y come (record { input = input; chosen = net.chosen j c y come escape }))

  -- a channel that the packet went into by no escape
  abbrev Then : ℕ → ℕ → Type 0
  Then j x = (y : ℕ) → (s.lines y).owner ≡ Some x → IsChoice n j x y → n.escapes x j y ≡ false → IsAlone (s.notes y) (course y) j → HeldGoes y

  module _ (j start : ℕ) (begin : Comes n j start) (ahead : Ahead j start) where
    -- the front of a channel that the packet holds
    rest_on : (x f : ℕ) → Roams n j start x → x < n.frame.channels → n.frame.ejects x ≡ false → (s.lines x).latch ≡ Some f → n.frame.is_head f ≡ false
        → course x ≡ j → Then j x → (y : ℕ) → (s.lines y).owner ≡ Some x → Go
    rest_on x f roams within input latched rest same then y own =
        let step : IsChoice n j x y = subst (λ z. IsChoice n z x y) same (tracks.owned x y own) in
        let held : HeldGoes y = elim (cases_Bool (n.escapes x j y)) [
          | inl esc ↦ ahead x y roams input esc
          | inr no_esc ↦ then y own step no_esc (⊎_elim
              (λ (e : n.escapes x (course x) y ≡ true). let bad : n.escapes x j y ≡ true = subst (λ z. n.escapes x z y ≡ true) same e in cc)
              (λ (is : IsAlone (s.notes y) (course y) (course x)). subst (λ z. IsAlone (s.notes y) (course y) z) same is)
              (tracks.alone x y own))
        ] in
        into y held (words.inside.owned x y own) (λ credit. goes.moves (ForwardRest x y f) tt tt
        (record { here = within; input = input; full = latched; rest = rest; owned = own; credit = credit })) (s.lines y).flits refl

    onward : (x f : ℕ) (fs : List ℕ) → Roams n j start x → x < n.frame.channels → n.frame.ejects x ≡ false → IsTo x j f → Then j x → in_line (s.lines x) ≡ f ∷ fs
        → (l : Option ℕ) → (s.lines x).latch ≡ l → Go
    onward x f fs roams within input to then line None latched =
        goes.moves (Latch x f fs) tt tt (record {
          here = within;
          input = input;
          free = latched;
          first = sym (in_line_is s x None (s.lines x).flits latched refl) ∙ line;
        })
    onward x f fs roams within input to then line (Some g) latched =
        let e : g ∷ (s.lines x).flits ≡ f ∷ fs = sym (in_line_is s x (Some g) (s.lines x).flits latched refl) ∙ line in
        let same : g ≡ f = cc in
        let held : (s.lines x).latch ≡ Some f = latched ∙ ap Some same in
        ⊎_elim
        (λ (h : (n.frame.is_head f ≡ true) × (n.frame.told f ≡ j)).
        let come : Comes n j x = roams_come n j start x begin roams in
        let out = escapes j x come input in
        head_on x out.0 j f (ahead x out.0 roams input out.1) within input come out.1 held h.0 h.1 (escape_within j x out.0 come input out.1)
        (s.lines out.0).owner refl)
        (λ (r : (n.frame.is_head f ≡ false) × (course x ≡ j)).
        let more : (more : List ℕ) × ((s.notes x).awaited ≡ f ∷ more) = goes_on n.frame s words x f fs r.0 line in
        ⊎_elim
        (λ (none : (s.notes x).awaited ≡ []). let bad : f ∷ more.0 ≡ [] = sym more.1 ∙ none in absurd (cc))
        (λ (own : (y : ℕ) × ((s.lines y).owner ≡ Some x)). rest_on x f roams within input held r.0 r.1 then own.0 own.1)
        (words.owning x input))
        to

    -- along the channels that the packet holds
    abbrev AloneGoes : ℕ → Type 0
    AloneGoes y = y < n.frame.channels → n.frame.ejects y ≡ false → Roams n j start y → IsAlone (s.notes y) (course y) j → HeldGoes y

    abbrev After : ℕ → Type 0
    After y = (z : ℕ) → stamp y < stamp z → AloneGoes z

    no_end : (x y : ℕ) → Comes n j x → IsChoice n j x y → n.escapes x j y ≡ false → n.frame.ejects y ≡ false
    no_end x y come step no_esc = elim (cases_Bool (n.frame.ejects y)) [
      | inl ends ↦ (let bad = net.last j x y come step ends in cc)
      | inr input ↦ input
    ]

    if_rest : (y f : ℕ) (fs : List ℕ) → After y → y < n.frame.channels → n.frame.ejects y ≡ false → Roams n j start y
        → (s.notes y).parcels ≡ [] → course y ≡ j → in_line (s.lines y) ≡ f ∷ fs → (b : Bool) → n.frame.is_head f ≡ b → Go
    if_rest y f fs ih within input roams none same line true bit =
        let at : HasPopped (s.notes y).parcels (s.notes y).awaited f (fs ++ (s.notes y).owed) =
        pop_head n.frame _ _ f _ (words.awaited y) bit (split n.frame s words y f fs line) in
        let bad : at.first ∷ at.others ≡ [] = sym at.parcels ∙ none in absurd (cc)
    if_rest y f fs ih within input roams none same line false bit =
        onward y f fs roams within input (inr (bit, same))
        (λ z own step no_esc alone. ih z (tracks.order y z own none) (words.inside.owned y z own)
        (no_end y z (roams_come n j start y begin roams) step no_esc) (ByNoEscape y z roams step no_esc) alone)
        line (s.lines y).latch refl

    if_head : (y f : ℕ) (fs : List ℕ) → y < n.frame.channels → n.frame.ejects y ≡ false → Roams n j start y → (k : Parcel)
        → (s.notes y).awaited ≡ [] → (s.notes y).parcels ≡ k ∷ [] → k.destination ≡ j → in_line (s.lines y) ≡ f ∷ fs → (b : Bool) → n.frame.is_head f ≡ b → Go
    if_head y f fs within input roams k none one to line true bit =
        let at : HasPopped (s.notes y).parcels (s.notes y).awaited f (fs ++ (s.notes y).owed) =
        pop_head n.frame _ _ f _ (words.awaited y) bit (split n.frame s words y f fs line) in
        let same : at.first ∷ at.others ≡ k ∷ [] = sym at.parcels ∙ one in
        let e : at.first ≡ k = cc in
        let is : IsParcel n.frame k = All-head (IsParcel n.frame) k [] (subst (All (IsParcel n.frame)) one (words.parcels y)) in
        onward y f fs roams within input (inl (bit, ap n.frame.told (sym at.head ∙ ap (λ (v : Parcel). v.head) e) ∙ (is.told ∙ to)))
        (λ z own step no_esc alone. absurd ((words.held y z own).more none))
        line (s.lines y).latch refl
    if_head y f fs within input roams k none one to line false bit =
        let more : (more : List ℕ) × ((s.notes y).awaited ≡ f ∷ more) = goes_on n.frame s words y f fs bit line in
        let bad : f ∷ more.0 ≡ [] = sym more.1 ∙ none in absurd (cc)

    alone_goes : (y : ℕ) → AloneGoes y
    alone_goes y =
        by_falling stamp now AloneGoes
        (λ y under ih within input roams alone f fs line. ⊎_elim
        (λ (a : ((s.notes y).parcels ≡ []) × (course y ≡ j)).
        if_rest y f fs (λ z later. ih z later (tracks.past z)) within input roams a.0 a.1 line (n.frame.is_head f) refl)
        (λ (b : (k : Parcel) × ((s.notes y).awaited ≡ []) × ((s.notes y).parcels ≡ k ∷ []) × (k.destination ≡ j)).
        if_head y f fs within input roams b.0 b.1 b.2 b.3 line (n.frame.is_head f) refl)
        alone)
        y (tracks.past y)

    -- from where it starts
    pub start_goes : (f : ℕ) (fs : List ℕ) → start < n.frame.channels → n.frame.ejects start ≡ false → IsTo start j f → in_line (s.lines start) ≡ f ∷ fs → Go
    start_goes f fs within input to line =
        onward start f fs FromHere within input to
        (λ y own step no_esc alone. alone_goes y (words.inside.owned start y own) (no_end start y begin step no_esc) (ByNoEscape start y FromHere step no_esc) alone)
        line (s.lines start).latch refl

  -- the packet at the front of a channel that is no receiver's
  front_goes : (x f : ℕ) (fs : List ℕ) → ((j : ℕ) → Comes n j x → Ahead j x) → x < n.frame.channels → n.frame.ejects x ≡ false
      → in_line (s.lines x) ≡ f ∷ fs → (b : Bool) → n.frame.is_head f ≡ b → Go
  front_goes x f fs ahead within input line true bit =
      let at : HasPopped (s.notes x).parcels (s.notes x).awaited f (fs ++ (s.notes x).owed) =
      pop_head n.frame _ _ f _ (words.awaited x) bit (split n.frame s words x f fs line) in
      let k : Parcel = at.first in
      let come : Comes n k.destination x = All-head (λ k. Comes n k.destination x) k at.others (subst (All (λ k. Comes n k.destination x)) at.parcels (tracks.comes x)) in
      let is : IsParcel n.frame k = All-head (IsParcel n.frame) k at.others (subst (All (IsParcel n.frame)) at.parcels (words.parcels x)) in
      start_goes k.destination x come (ahead k.destination come) f fs within input (inl (bit, ap n.frame.told (sym at.head) ∙ is.told)) line
  front_goes x f fs ahead within input line false bit =
      let more : (more : List ℕ) × ((s.notes x).awaited ≡ f ∷ more) = goes_on n.frame s words x f fs bit line in
      let come : Comes n (course x) x = tracks.coming x input (λ none. (let bad : f ∷ more.0 ≡ [] = sym more.1 ∙ none in cc)) in
      start_goes (course x) x come (ahead (course x) come) f fs within input (inr (bit, refl)) line

  -- a channel on which a receiver answers has a credit, or somebody goes
  credit_or_go : (y : ℕ) → y < n.frame.channels → HeldGoes y → (fs : List ℕ) → (s.lines y).flits ≡ fs → Go ⊎ (0 < (s.lines y).held)
  credit_or_go y within held [] listed = elim (cases_lt 0 (s.lines y).held) [
    | inl some ↦ inr some
    | inr none ↦ inl (credit_goes y within listed (λ credit. absurd (omega arith)))
  ]
  credit_or_go y within held (f ∷ fs) listed = inl (full y f fs held (s.lines y).latch refl listed)

  -- at a receiver
  at_end : (x f : ℕ) (fs : List ℕ) → ((y : ℕ) → answers x y ≡ true → HeldGoes y) → x < n.frame.channels → n.frame.ejects x ≡ true → (s.lines x).flits ≡ f ∷ fs → Go
  at_end x f fs held within ends listed = ⊎_elim
      (λ (go : Go). go)
      (λ (all : (y : ℕ) → y < n.frame.channels → answers x y ≡ true → 0 < (s.lines y).held).
      goes.takes x f fs (record { here = within; ejects = ends; first = listed; credits = λ y is. all y (are.to x y is) is }))
      (or_all Go (λ y. answers x y ≡ true → 0 < (s.lines y).held) n.frame.channels (λ y inner. elim (cases_Bool (answers x y)) [
        | inl is ↦ ⊎_elim (λ (go : Go). inl go) (λ (some : 0 < (s.lines y).held). inr (λ e. some))
            (credit_or_go y inner (held y is) (s.lines y).flits refl)
        | inr is_not ↦ inr (λ e. cc)
      ]))

  by_end : (x f : ℕ) (fs : List ℕ) → ((j : ℕ) → Comes n j x → n.frame.ejects x ≡ false → Ahead j x) → ((y : ℕ) → answers x y ≡ true → HeldGoes y) → x < n.frame.channels
      → in_line (s.lines x) ≡ f ∷ fs → (b : Bool) → n.frame.ejects x ≡ b → Go
  by_end x f fs ahead held within line false input = front_goes x f fs (λ j come. ahead j come input) within input line (n.frame.is_head f) refl
  by_end x f fs ahead held within line true ends =
      at_end x f fs held within ends (sym (in_line_is s x None (s.lines x).flits (words.unlatched x ends) refl) ∙ line)

  abbrev MarkedGoes : ℕ → Type 0
  MarkedGoes x = x < n.frame.channels → n.marked x ≡ true → HeldGoes x

  -- where a flit stands in a marked channel, somebody goes
  marked_goes : (x : ℕ) → MarkedGoes x
  marked_goes x within =
      let low : (y : ℕ) → y < n.frame.channels → number y ≤ n.frame.channels = λ y inner. let b = rising.bounded y inner in omega arith in
      by_falling number n.frame.channels MarkedGoes
      (λ x under ih inner marked f fs line. by_end x f fs
      (λ j come input c y roams ends escape.
      let there : Comes n j c = roams_come n j x c come roams in
      let way : y < n.frame.channels = escape_within j c y there ends escape in
      ih y (rising.awaits x j y (record { held = marked; comes = come; head = c; roams = roams; input = ends; escape = escape })) (low y way) way
      (net.marks j c y there escape))
      (λ y is. ih y (rising.answered x y is) (low y (are.to x y is)) (are.to x y is) (are.marks x y is))
      inner line (n.frame.ejects x) refl)
      x (low x within) within

  -- where one stands in any channel, somebody goes
  pub held_goes : (x : ℕ) → x < n.frame.channels → HeldGoes x
  held_goes x within f fs line = by_end x f fs
      (λ j come input c y roams ends escape.
      let there : Comes n j c = roams_come n j x c come roams in
      marked_goes y (escape_within j c y there ends escape) (net.marks j c y there escape))
      (λ y is. marked_goes y (are.to x y is) (are.marks x y is))
      within line (n.frame.ejects x) refl
