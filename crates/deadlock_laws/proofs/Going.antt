-- Something must go, or all is done.
use Rattle.std.proofs.Common.{◌≡◌, ◌⊎◌, inl, inr, ℕ, ◌<◌, true, List, [], ◌∷◌, length, refl, sym, ap, subst, All}
use Rattle.std.proofs.lemmas.List.Elements.{All-head}
use Rattle.std.proofs.lemmas.Option.{slice_get_within}
use Rattle.wormhole.specs.Net.{Net}
use Rattle.wormhole.specs.Events.{InjectRest}
use Rattle.wormhole.specs.Ends.{IsQuiet}
use Rattle.wormhole.proofs.Quiescence.{or_all}
use Rattle.network_judge.specs.declared.table.Kind.TheVariants.{Injection}
use Rattle.network_judge.specs.Table.{Table, channels_of, is_sender}
use Rattle.network_judge.specs.Replies.{AreReplies, IsReply}
use Rattle.network_judge.specs.TableNet.{Flits, numbered}
use Rattle.network_judge.specs.Verdicts.{IsNumbered}
use Rattle.network_judge.specs.Receivers.{GoesWhere, CanBeTaken}
use Rattle.network_judge.proofs.JudgedProgress.{goes_or_quiet}
use Rattle.deadlock_laws.specs.Endpoints.{Endpoints, Owing, EndState, EndsReached, EndMove, NetGoes, Takes, Answers, AllIsDone}
use Rattle.deadlock_laws.proofs.Kept.{MayOwe, Owe, net_reached}

module _ (t : Table) (p : Endpoints) (numbers : List ℕ) (are : AreReplies t p.replies) (is : IsNumbered t p.replies numbers)
    (roomy : (x : ℕ) → 0 < p.room x) (depth : ℕ) (flits : Flits) (deep : 0 < depth) (s : EndState) where
  abbrev n : Net
  n = numbered t numbers depth flits

  -- what is owed on a channel with a credit goes
  on_channel : (x y : ℕ) (o : Owing) (os : List Owing) → s.queue x ≡ o ∷ os → o.first ≡ y → IsReply p.replies x y
      → 0 < (s.net.lines y).held → EndMove n p s
  on_channel x y o os queue on reply credit =
      let sends = (are x y reply).1 in
      let here : y < channels_of t = slice_get_within t.kinds y Injection sends in
      let injects : n.injects y ≡ true = ap is_sender sends in
      by (s.net.lines y).rest refl here injects
    where
      by : (rest : List ℕ) → (s.net.lines y).rest ≡ rest → y < channels_of t → n.injects y ≡ true → EndMove n p s
      by [] idle here injects =
          Answers x y (record { here = here; injects = injects; owes = record { owing = o; others = os; next = queue; on = on }; idle = idle; credit = credit })
      by (flit ∷ more) course here injects = NetGoes (InjectRest y flit more) tt (record { here = here; injects = injects; course = course; credit = credit })

  module _ (owe : Owe p s.queue) where
    may_owe : (x : ℕ) (o : Owing) (os : List Owing) → s.queue x ≡ o ∷ os → IsReply p.replies x o.first
    may_owe x o os queue = (All-head (MayOwe p x) o os (subst (λ l. All (MayOwe p x) l) queue (owe x))).first

    goes : GoesWhere n s.net p.replies (EndMove n p s)
    goes = record { moves = NetGoes; takes = takes }
      where
        heads : (x flit : ℕ) (more : List ℕ) → CanBeTaken n s.net p.replies x flit more → (q : List Owing) → s.queue x ≡ q → EndMove n p s
        heads x flit more c [] queue =
            Takes x flit more (record {
              here = c.here;
              ejects = c.ejects;
              first = c.first;
              room = inr (subst (λ (l : List Owing). length l < p.room x) (sym queue) (roomy x));
            })
        heads x flit more c (o ∷ os) queue =
            let reply = may_owe x o os queue in on_channel x o.first o os queue refl reply (c.credits o.first reply)

        takes : (x flit : ℕ) (more : List ℕ) → CanBeTaken n s.net p.replies x flit more → EndMove n p s
        takes x flit more c = heads x flit more c (s.queue x) refl

    -- over a quiet network an entry's first answer goes
    answers : ((x : ℕ) → x < channels_of t → IsQuiet n s.net x) → (x : ℕ) → x < channels_of t → (q : List Owing) → s.queue x ≡ q
        → EndMove n p s ⊎ (s.queue x ≡ [])
    answers quiet x low [] queue = inr queue
    answers quiet x low (o ∷ os) queue =
        let reply = may_owe x o os queue in
        let there : o.first < channels_of t = slice_get_within t.kinds o.first Injection (are x o.first reply).1 in
        let home = (quiet o.first there).credits in
        inl (on_channel x o.first o os queue refl reply (subst (λ h. 0 < h) (sym home) deep))

    pub goes_or_done : EndsReached n p s → EndMove n p s ⊎ AllIsDone n s
    goes_or_done reached =
        let run = net_reached n p s reached in
        elim (goes_or_quiet t p.replies numbers are is depth flits deep s.net run (EndMove n p s) goes) [
          | inl move ↦ inl move
          | inr quiet ↦ elim (or_all (EndMove n p s) (λ x. s.queue x ≡ []) (channels_of t)
              (λ x low. answers quiet x low (s.queue x) refl)) [
                | inl move ↦ inl move
                | inr none ↦ inr (record { quiet = quiet; none = none })
              ]
        ]
