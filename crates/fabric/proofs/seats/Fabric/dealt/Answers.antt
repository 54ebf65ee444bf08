use Rattle.std.proofs.Common.{rules, arith, [], map, replicate, ◌≡◌, sym, subst, ap, ◌∙◌, ℕ, List, ◌<◌, length}
use Rattle.torus.specs.Shape.{tiles_of}
use Rattle.fabric.specs.Key.{Opening, ranges, Rises}
use Rattle.fabric_rule.specs.Core.{Load}
use Rattle.fabric_rule.specs.Machine.{IsAfter}
use Rattle.fabric.specs.Opening.{fresh, HasRest}
use Rattle.fabric.proofs.Fresh.{fresh_as, is_fresh, rises_as, shows_as, holds_first, first_seat, rest_at}
use Rattle.fabric.proofs.Parting.{depth_small, sound_made}
use Rattle.fabric.proofs.seats.Fabric.dealt.Goals as goal

pub of_words-requires : goal.of_words-requires
of_words-requires g c =
    let k : Opening = c.in_ok-dealing.dealing in
    let p = c.into_parts-torus.ensures in
    let parts = fresh_as k g.B.Naming.opening c.args.machine c.into_parts-torus.result.row.items c.into_parts-torus.result.tiles.items c.in_ok-dealing.ensures
    c.requires.load p.count p.shown p.rooms in
    holds_first k c.as_slice.result.now (shows_as k.load c.into_parts-torus.result.row.items c.as_slice.result.now c.as_slice.ensures.value parts.shows)
    (rises_as k g.B.Naming.opening c.args.cuts.now c.args.machine c.in_ok-dealing.ensures c.requires.cuts.0 c.requires.load c.requires.cuts.1)

pub deal-requires-clause-seat : goal.deal-requires-clause-seat
deal-requires-clause-seat g c =
    let k : Opening = c.in_ok-dealing.dealing in
    let p = c.into_parts-torus.ensures in
    let t = c.in_ok-table.ensures in
    let parts = fresh_as k g.B.Naming.opening c.args.machine c.into_parts-torus.result.row.items c.into_parts-torus.result.tiles.items c.in_ok-dealing.ensures
    c.requires.load p.count p.shown p.rooms in
    let counted = c.into_parts-torus.result.tiles.ok.0 in
    let long : c.len-count.result ≡ length c.into_parts-torus.result.tiles.items = omega (arith, c.len-count.ensures) in
    let count : c.len-count.result ≡ tiles_of k.load.shape = long ∙ parts.count in
    let cuts : k.cuts ≡ c.args.cuts.now = ap (λ (o : Opening). o.cuts) c.in_ok-dealing.ensures ∙ c.requires.cuts.0 in
    subst (λ (x : List ℕ × ℕ). HasRest c.in_ok-table.table.shared.table_id c.in_ok-table.seat.me.0.load (ranges 0 x.0 x.1) c.in_ok-table.seat
    × (0 < c.in_ok-table.table.shared.table_id.words))
    (λ i. (cuts i, sym count i))
    (first_seat k c.as_slice.result.now _ c.in_ok-table.seat parts.accepted
    (shows_as k.load c.into_parts-torus.result.row.items c.as_slice.result.now c.as_slice.ensures.value parts.shows) t.2 t.0 t.4)

pub deal-requires-clause-cuts : goal.deal-requires-clause-cuts
deal-requires-clause-cuts g c =
    let k : Opening = c.in_ok-dealing.dealing in
    let p = c.into_parts-torus.ensures in
    let t = c.in_ok-table.ensures in
    let parts = fresh_as k g.B.Naming.opening c.args.machine c.into_parts-torus.result.row.items c.into_parts-torus.result.tiles.items c.in_ok-dealing.ensures
    c.requires.load p.count p.shown p.rooms in
    let counted = c.into_parts-torus.result.tiles.ok.0 in
    let long : c.len-count.result ≡ length c.into_parts-torus.result.tiles.items = omega (arith, c.len-count.ensures) in
    let all : c.len-count.result ≡ tiles_of c.args.machine.shape = long ∙ p.count in
    let count : c.len-count.result ≡ tiles_of k.load.shape = long ∙ parts.count in
    (subst (λ (n : ℕ). Rises 0 c.args.cuts.now n) (sym all) c.requires.cuts.1, count ∙ ap (λ m. tiles_of m.0.load.shape) (sym t.4))

pub deal-requires-clause-all : goal.deal-requires-clause-all
deal-requires-clause-all g c =
    let k : Opening = c.in_ok-dealing.dealing in
    let p = c.into_parts-torus.ensures in
    let parts = fresh_as k g.B.Naming.opening c.args.machine c.into_parts-torus.result.row.items c.into_parts-torus.result.tiles.items c.in_ok-dealing.ensures
    c.requires.load p.count p.shown p.rooms in
    rest_at k c.into_parts-torus.result.row.items c.into_parts-torus.result.tiles.items _ c.in_ok-table.seat parts c.in_ok-table.ensures.4 (search rules)

pub memory_base-base-requires : goal.memory_base-base-requires
memory_base-base-requires g c =
    depth_small g.B.Naming.opening.load c.args.machine c.into_parts-torus.result.depth c.requires.load c.into_parts-torus.ensures.loaded.1

pub invariant_of-fabric : goal.invariant_of-fabric
invariant_of-fabric g c =
    let p = c.into_parts-torus.ensures in
    let t = c.in_ok-table.ensures in
    let o : Opening = g.B.Naming.opening in
    let parts = is_fresh o.load c.args.machine c.into_parts-torus.result.row.items c.into_parts-torus.result.tiles.items c.requires.load p.count
    (p.shown o.load [] c.requires.load) (p.rooms o.load c.requires.load) in
    let counted = c.into_parts-torus.result.opening.ok.0 in
    let words : c.len-words.result ≡ length c.into_parts-torus.result.opening.items = omega (arith, c.len-words.ensures) in
    sound_made c.in_ok-table.table.shared.key o c.args.machine c.as_slice.result.now c.memory_base-base.result c.len-words.result
    c.in_ok-table.table.shared.table_id.words c.in_ok-table.table.shared.table_id.slots
    c.ports_of-ports.result c.into_parts-torus.result.depth c.into_parts-torus.result.torus c.into_parts-torus.result.opening.items
    (t.5 ∙ c.in_ok-dealing.ensures) c.requires.load
    (shows_as o.load c.into_parts-torus.result.row.items c.as_slice.result.now c.as_slice.ensures.value parts.shows)
    p.loaded.0 p.loaded.1 p.loaded.3 c.memory_base-base.ensures words t.0 t.1 c.ports_of-ports.ensures

pub returns-clause-load : goal.returns-clause-load
returns-clause-load g c =
    subst (λ (l : Load). IsAfter l c.args.machine []) (sym (ap (λ (o : Opening). o.load) (c.in_ok-table.ensures.5 ∙ c.in_ok-dealing.ensures))) c.requires.load

pub returns-clause-seats : goal.returns-clause-seats
returns-clause-seats g c =
    let t = c.in_ok-table.ensures in
    let p = c.into_parts-torus.ensures in
    let loaded : c.in_ok-table.seat.me.0.load ≡ c.in_ok-table.table.shared.key.load = ap (λ m. m.0.load) t.4 ∙ ap (λ (o : Opening). o.load) (sym t.5) in
    let counted = c.into_parts-torus.result.tiles.ok.0 in
    let long : c.len-count.result ≡ length c.into_parts-torus.result.tiles.items = omega (arith, c.len-count.ensures) in
    let all : c.len-count.result ≡ tiles_of c.args.machine.shape = long ∙ p.count in
    c.in_ok-seats.ensures.seats ∙ (λ i. map (fresh c.in_ok-table.table.shared.table_id (loaded i)) (ranges 0 c.args.cuts.now (all i)))

pub returns-clause-probes : goal.returns-clause-probes
returns-clause-probes g c =
    let t = c.in_ok-table.ensures in
    let loaded : c.in_ok-table.seat.me.0.load ≡ c.in_ok-table.table.shared.key.load = ap (λ m. m.0.load) t.4 ∙ ap (λ (o : Opening). o.load) (sym t.5) in
    c.in_ok-probes.ensures ∙ ap (λ (l : Load). replicate c.args.probes (fresh c.in_ok-table.table.shared.table_id l []))
    (c.in_ok-seats.ensures.left.loaded ∙ loaded)

pub deal-requires-clause-built : goal.deal-requires-clause-built
deal-requires-clause-built g c =
    let p = c.into_parts-torus.ensures in
    let h = c.requires.load in
    let counted = c.into_parts-torus.result.opening.ok.0 in
    let words : c.len-words.result ≡ length c.into_parts-torus.result.opening.items = omega (arith, c.len-words.ensures) in
    let load : g.B.Naming.opening.load ≡ c.in_ok-table.seat.me.0.load =
    sym (ap (λ m. m.0.load) c.in_ok-table.ensures.4 ∙ ap (λ (o : Opening). o.load) c.in_ok-dealing.ensures) in
    record {
      torus_is = p.loaded.0 ∙ h.shape ∙ ap (λ (l : Load). l.shape) load;
      depth_is = p.loaded.1 ∙ h.depth ∙ ap (λ (l : Load). l.depth) load;
      words_are = words ∙ ap length (p.loaded.3 ∙ h.opening) ∙ ap (λ (l : Load). length l.opening) load;
    }

pub overflow_cast-built : goal.overflow_cast-built
overflow_cast-built g c =
    let p = c.into_parts-torus.ensures in
    let counted = c.into_parts-torus.result.opening.ok.0 in
    let words : c.len-words.result ≡ length c.into_parts-torus.result.opening.items = omega (arith, c.len-words.ensures) in
    let long = ap length (p.loaded.3 ∙ c.requires.load.opening) in
    let most = c.requires.load.accepted.size.1 in
    omega (arith, words, long, most)
