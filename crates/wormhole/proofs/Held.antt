-- A flit in a channel or a latch: somebody goes.
use Rattle.std.proofs.Common.{◌≡◌, ⊎_elim, ℕ, ◌<◌, ◌≤◌, Bool, true, false, List, [], ◌∷◌, ◌++◌, Option, Some, None, sym, ap, ◌∙◌, refl, subst, arith}
use Rattle.std.specs.Option.{option_to_list}
use Rattle.wormhole.specs.Net.{Net, IsNet}
use Rattle.wormhole.specs.State.{NetState, in_line}
use Rattle.wormhole.specs.Events.{Latch, ForwardHead, ForwardRest}
use Rattle.wormhole.specs.Words.{Words}
use Rattle.wormhole.specs.Routes.{Routes}
use Rattle.wormhole.specs.Ends.{Tiles, AreTiles, Goes}
use Rattle.wormhole.proofs.Inductions.{by_falling}
use Rattle.wormhole.proofs.Beyond.{IsNext}
use Rattle.wormhole.proofs.Heads.{Heads, in_line_is, heads, goes_on, leads}
use Rattle.wormhole.proofs.Owed.{with_credit, owed_goes}

module _ (n : Net) (s : NetState) (tiles : Tiles) (Go : Type 0) (net : IsNet n) (deep : 0 < n.depth) (words : Words n s) (routes : Routes n s)
    (goes : Goes n s tiles Go) where
  -- a word stands in the channel or its receiver's latch
  abbrev pub HeldGoes : ℕ → Type 0
  HeldGoes x = x < n.channels → (f : ℕ) (fs : List ℕ) → in_line (s.lines x) ≡ f ∷ fs → Go

  abbrev pub Above : ℕ → Type 0
  Above x = (y : ℕ) → n.number x < n.number y → HeldGoes y

  -- a full channel above: somebody goes there
  from_full : (x y f : ℕ) (fs : List ℕ) → Above x → y < n.channels → n.number x < n.number y → (l : Option ℕ) → (s.lines y).latch ≡ l
      → (s.lines y).flits ≡ f ∷ fs → Go
  from_full x y f fs ih within rises None latched listed = ih y rises within f fs (in_line_is s y None (f ∷ fs) latched listed)
  from_full x y f fs ih within rises (Some g) latched listed = ih y rises within g (f ∷ fs) (in_line_is s y (Some g) (f ∷ fs) latched listed)

  -- the channel above has a credit, or somebody goes
  pub into : (x y : ℕ) → Above x → y < n.channels → n.number x < n.number y → (0 < (s.lines y).held → Go) → (fs : List ℕ) → (s.lines y).flits ≡ fs → Go
  into x y ih within rises then [] listed = with_credit n s tiles Go deep words routes goes y within listed then
  into x y ih within rises then (f ∷ fs) listed = from_full x y f fs ih within rises (s.lines y).latch refl listed

  -- an owned channel above is full, or words are owed to it
  if_owned : (x y w : ℕ) → Above x → y < n.channels → n.number x < n.number y → (s.lines y).owner ≡ Some w → (owed fs : List ℕ) → (s.notes y).owed ≡ owed
      → (s.lines y).flits ≡ fs → Go
  if_owned x y w ih within rises owner owed (f ∷ fs) owes listed = from_full x y f fs ih within rises (s.lines y).latch refl listed
  if_owned x y w ih within rises owner (o ∷ os) [] owes listed = owed_goes n s tiles Go deep words routes goes y within listed o os owes
  if_owned x y w ih within rises owner [] [] owes listed = let at = words.held w y owner in absurd (at.more (sym at.same ∙ owes))

  -- a latched head goes on to the next channel of its route
  head_on : (x y f : ℕ) → Above x → x < n.channels → n.ejects x ≡ false → (s.lines x).latch ≡ Some f → n.is_head f ≡ true → y ≡ n.next x (n.told f)
      → y < n.channels → n.number x < n.number y
      → (o : Option ℕ) → (s.lines y).owner ≡ o → Go
  head_on x y f ih within input latched head output inner rises None owner =
      into x y ih inner rises (λ credit. goes.moves (ForwardHead x y f) tt
      (record { here = within; input = input; full = latched; head = head; output = output; free = owner; credit = credit })) (s.lines y).flits refl
  head_on x y f ih within input latched head output inner rises (Some w) owner =
      if_owned x y w ih inner rises owner (s.notes y).owed (s.lines y).flits refl refl

  by_bit : (x f : ℕ) → Above x → x < n.channels → n.ejects x ≡ false → (s.lines x).latch ≡ Some f → (b : Bool) → n.is_head f ≡ b → Go
  by_bit x f ih within input latched true bit =
      let at : Heads n s x f = heads n s words routes x f (s.lines x).flits bit (in_line_is s x (Some f) (s.lines x).flits latched refl) in
      let y : ℕ = n.next x (n.told f) in
      let on : IsNext n net at.parcel.source at.parcel.destination at.is.joined x y = leads n s words net x y f input at refl in
      head_on x y f ih within input latched bit refl on.within on.rises (s.lines y).owner refl
  by_bit x f ih within input latched false bit =
      let rest : (more : List ℕ) × ((s.notes x).awaited ≡ f ∷ more) =
      goes_on n s words x f (s.lines x).flits bit (in_line_is s x (Some f) (s.lines x).flits latched refl) in
      ⊎_elim
      (λ (none : (s.notes x).awaited ≡ []). let e : f ∷ rest.0 ≡ [] = sym rest.1 ∙ none in absurd (cc))
      (λ (own : (y : ℕ) × ((s.lines y).owner ≡ Some x)). into x own.0 ih (words.inside.owned x own.0 own.1) (routes.rising x own.0 own.1)
      (λ credit. goes.moves (ForwardRest x own.0 f) tt
      (record { here = within; input = input; full = latched; rest = bit; owned = own.1; credit = credit })) (s.lines own.0).flits refl)
      (words.owning x input)

  pub at_router : (x f : ℕ) (fs : List ℕ) → Above x → x < n.channels → n.ejects x ≡ false → (l : Option ℕ) → (s.lines x).latch ≡ l
      → option_to_list l ++ (s.lines x).flits ≡ f ∷ fs → Go
  at_router x f fs ih within input (Some g) latched listed = by_bit x g ih within input latched (n.is_head g) refl
  at_router x f fs ih within input None latched listed = goes.moves (Latch x f fs) tt (record { here = within; input = input; free = latched; first = listed })

  -- at a receiver: a processor takes it; a bank does, where its replies have a credit
  at_end : (x f : ℕ) (fs : List ℕ) → Above x → AreTiles n tiles → x < n.channels → n.ejects x ≡ true → (s.lines x).flits ≡ f ∷ fs → Go
  at_end x f fs ih are within ends listed = ⊎_elim
      (λ (p : (p : ℕ) × (p < tiles.count) × (x ≡ tiles.hears p)). goes.takes p.0 f fs
      (record { here = p.1; first = ap (λ z. (s.lines z).flits) (sym p.2) ∙ listed }))
      (λ (b : (b : ℕ) × (b < tiles.count) × (x ≡ tiles.serves b)).
      let z : ℕ = tiles.replies b.0 in
      let rises : n.number x < n.number z = subst (λ w. n.number w < n.number z) (sym b.2) (are.above b.0 b.1) in
      into x z ih (are.replies_within b.0 b.1) rises
      (λ credit. goes.serves b.0 f fs (record { here = b.1; first = ap (λ w. (s.lines w).flits) (sym b.2) ∙ listed; credit = credit })) (s.lines z).flits
      refl)
      (are.receivers x within ends)

  by_end : (x f : ℕ) (fs : List ℕ) → Above x → AreTiles n tiles → x < n.channels → in_line (s.lines x) ≡ f ∷ fs → (b : Bool) → n.ejects x ≡ b → Go
  by_end x f fs ih are within listed false input = at_router x f fs ih within input (s.lines x).latch refl listed
  by_end x f fs ih are within listed true ends =
      at_end x f fs ih are within ends (sym (in_line_is s x None (s.lines x).flits (words.unlatched x ends) refl) ∙ listed)

  -- where a word stands in a channel or its receiver's latch, somebody goes
  pub held_goes : AreTiles n tiles → (x : ℕ) → HeldGoes x
  held_goes are x within =
      let low : (y : ℕ) → y < n.channels → n.number y ≤ n.top = λ y inner. let b = net.bounded y inner in omega arith in
      by_falling n.number n.top HeldGoes
      (λ y under ih inner f fs listed. by_end y f fs (λ z above here. ih z above (low z here) here) are inner listed (n.ejects y) refl)
      x (low x within) within
