use Rattle.std.proofs.Common.{rules, ◌≡◌, ◌≤◌, ◌<◌, ◌-◌, ◌+◌, ◌∙◌, ℕ, List, length, ap, sym, arith}
use Rattle.std.specs.Prelude.{slice_index, slice_index_or}
use Rattle.std.proofs.lemmas.List.{get_or_default}
use Rattle.network_judge.specs.declared.table.Link.{Link}
use Rattle.network_judge.specs.declared.table.By.TheVariants.{To}
use Rattle.network_judge.specs.Table.{Table, table_of}
use Rattle.network_judge.specs.Cycles.{link_at}
use Rattle.network_judge.proofs.Repeats.{first_distinct, places_more, cycle_between, distinct_between, cycle_within}
use Rattle.network_judge.proofs.circuits.without_repeats.Goals as goal

-- the number that is read
read : {n : ℕ} (places : List ℕ) (x number : ℕ) → x < n → length places ≡ n → number ≡ slice_index_or places x number → number ≡ slice_index places x
read places x number low size is = is ∙ get_or_default places x number 0 (omega arith)

pub returns-then-x-kinds-clause-distinct : goal.returns-then-x-kinds-clause-distinct
returns-then-x-kinds-clause-distinct g c =
    let t : Table = table_of c.args.kinds.now c.args.joins.now c.args.choices.now in
    let same : (slice_index_or c.args.links.now c.loop-place.place (record { channel = 0; by = To 0 })).channel ≡ (link_at c.args.links.now c.loop-place.place).channel =
    ap (λ (l : Link). l.channel) (get_or_default c.args.links.now c.loop-place.place _ _ c.loop-place-test.true) in
    let beyond = c.if-x-kinds.true in
    λ replies are cycle j k less low. λ one. (let within = cycle_within t replies c.args.links.now c.requires.arrive are cycle c.loop-place.place c.loop-place-test.true in
    omega arith)

pub offset_bounds-links-earlier : goal.offset_bounds-links-earlier
offset_bounds-links-earlier g c =
    let w = c.loop-place.invariant.some (slice_index_or c.args.links.now c.loop-place.place (record { channel = 0; by = To 0 })).channel (c.index-earlier.result.now - 1)
    (let is = read c.loop-place.places.items (slice_index_or c.args.links.now c.loop-place.place (record { channel = 0; by = To 0 })).channel c.index-earlier.result.now
    c.if-x-kinds.false c.loop-place.invariant.size c.index-earlier.ensures in let some = c.if-earlier-gt0.true in omega arith) in
    let low = w.0 in
    let inside = c.loop-place-test.true in
    search rules

pub slice_bounds-result-count : goal.slice_bounds-result-count
slice_bounds-result-count g c =
    let w = c.loop-place.invariant.some (slice_index_or c.args.links.now c.loop-place.place (record { channel = 0; by = To 0 })).channel (c.index-earlier.result.now - 1)
    (let is = read c.loop-place.places.items (slice_index_or c.args.links.now c.loop-place.place (record { channel = 0; by = To 0 })).channel c.index-earlier.result.now
    c.if-x-kinds.false c.loop-place.invariant.size c.index-earlier.ensures in let some = c.if-earlier-gt0.true in omega arith) in
    let low = w.0 in omega arith

pub slice_bounds-result-start : goal.slice_bounds-result-start
slice_bounds-result-start g c =
    let w = c.loop-place.invariant.some (slice_index_or c.args.links.now c.loop-place.place (record { channel = 0; by = To 0 })).channel (c.index-earlier.result.now - 1)
    (let is = read c.loop-place.places.items (slice_index_or c.args.links.now c.loop-place.place (record { channel = 0; by = To 0 })).channel c.index-earlier.result.now
    c.if-x-kinds.false c.loop-place.invariant.size c.index-earlier.ensures in let some = c.if-earlier-gt0.true in omega arith) in
    let low = w.0 in
    let inside = c.loop-place-test.true in
    let order : c.index-earlier.result.now - 1 ≤ c.loop-place.place = omega arith in
    search rules

pub returns-then-earlier-gt0-clause-cycle : goal.returns-then-earlier-gt0-clause-cycle
returns-then-earlier-gt0-clause-cycle g c =
    let t : Table = table_of c.args.kinds.now c.args.joins.now c.args.choices.now in
    let same : (slice_index_or c.args.links.now c.loop-place.place (record { channel = 0; by = To 0 })).channel ≡ (link_at c.args.links.now c.loop-place.place).channel =
    ap (λ (l : Link). l.channel) (get_or_default c.args.links.now c.loop-place.place _ _ c.loop-place-test.true) in
    let w = c.loop-place.invariant.some (slice_index_or c.args.links.now c.loop-place.place (record { channel = 0; by = To 0 })).channel (c.index-earlier.result.now - 1)
    (let is = read c.loop-place.places.items (slice_index_or c.args.links.now c.loop-place.place (record { channel = 0; by = To 0 })).channel c.index-earlier.result.now
    c.if-x-kinds.false c.loop-place.invariant.size c.index-earlier.ensures in let some = c.if-earlier-gt0.true in omega arith) in
    λ replies cycle. cycle_between t replies c.args.links.now cycle (c.index-earlier.result.now - 1) c.loop-place.place w.0 c.loop-place-test.true (w.1 ∙ same)

pub returns-then-earlier-gt0-clause-distinct : goal.returns-then-earlier-gt0-clause-distinct
returns-then-earlier-gt0-clause-distinct g c =
    let w = c.loop-place.invariant.some (slice_index_or c.args.links.now c.loop-place.place (record { channel = 0; by = To 0 })).channel (c.index-earlier.result.now - 1)
    (let is = read c.loop-place.places.items (slice_index_or c.args.links.now c.loop-place.place (record { channel = 0; by = To 0 })).channel c.index-earlier.result.now
    c.if-x-kinds.false c.loop-place.invariant.size c.index-earlier.ensures in let some = c.if-earlier-gt0.true in omega arith) in
    let low = w.0 in
    let inside = c.loop-place-test.true in
    λ replies are cycle. distinct_between c.args.links.now (c.index-earlier.result.now - 1) c.loop-place.place (omega arith) (omega arith)
    (first_distinct c.args.kinds.now c.args.links.now c.loop-place.place c.loop-place.places.items c.loop-place.invariant)

pub loop-place-preserved : goal.loop-place-preserved
loop-place-preserved g c =
    let same : (slice_index_or c.args.links.now c.loop-place.place (record { channel = 0; by = To 0 })).channel ≡ (link_at c.args.links.now c.loop-place.place).channel =
    ap (λ (l : Link). l.channel) (get_or_default c.args.links.now c.loop-place.place _ _ c.loop-place-test.true) in
    let is = read c.loop-place.places.items (slice_index_or c.args.links.now c.loop-place.place (record { channel = 0; by = To 0 })).channel c.index-earlier.result.now
    c.if-x-kinds.false c.loop-place.invariant.size c.index-earlier.ensures in
    let none = c.if-earlier-gt0.false in
    places_more c.args.kinds.now c.args.links.now c.loop-place.place (slice_index_or c.args.links.now c.loop-place.place (record { channel = 0; by = To 0 })).channel
    (c.loop-place.place + 1) c.loop-place.places.items c.loop-place.invariant (sym same) c.if-x-kinds.false (omega arith) (omega arith)
