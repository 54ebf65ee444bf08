use Rattle.std.proofs.Common.{◌≡◌, ◌-◌, ℕ, true, false, refl, List, length, sym, ◌∙◌, ap, subst, arith, slice_set}
use Rattle.std.proofs.lemmas.Option.{same_Some}
use Rattle.tile.specs.Placed.{PlacedTile}
use Rattle.machine_parts.specs.Grown.{marks_in, AreAsReported}
use Rattle.machine_parts.proofs.Items.{seen_at}
use Rattle.machine_parts.proofs.reports.take_back.Goals as goal

pub returns-then-not-has_reported-clause-reports : goal.returns-then-not-has_reported-clause-reports
returns-then-not-has_reported-clause-reports g c = λ v at.
    let u : PlacedTile = c.index.result.now in
    let same : v ≡ u = same_Some _ _ (sym at ∙ seen_at c.args.tiles.now.items c.args.own u c.requires.tile c.index.ensures) in
    let is : v.place.processor.state.reported ≡ false =
    ap (λ (x : PlacedTile). x.place.processor.state.reported) same ∙ (sym c.has_reported.ensures ∙ c.if-not-has_reported.true) in
    subst (AreAsReported c.args.tiles.now.items c.args.tiles.now.items c.args.row.now.items c.args.row.now.items c.args.awake.now c.args.awake.now 0) (sym is)
    (record { tiles_are = refl; row_is = refl; awake_is = refl; marks_are = refl })

pub returns-clause-reports : goal.returns-clause-reports
returns-clause-reports g c = λ v at.
    let u : PlacedTile = c.index.result.now in
    let same : v ≡ u = same_Some _ _ (sym at ∙ seen_at c.args.tiles.now.items c.args.own u c.requires.tile c.index.ensures) in
    let is : v.place.processor.state.reported ≡ true =
    ap (λ (x : PlacedTile). x.place.processor.state.reported) same ∙ (sym c.has_reported.ensures ∙ c.if-not-has_reported.false) in
    let long : c.len-done.result ≡ length c.args.row.now.items = let n = c.len-done.ensures in let k = c.args.row.now.ok.0 in omega (arith, n, k) in
    subst (AreAsReported c.args.tiles.now.items c.reopen.new.tiles.items c.args.row.now.items (slice_set c.args.row.now.items (c.len-done.result - 1) 0)
    c.args.awake.now c.rouse_all.new.self c.marks_in-taken.result) (sym is)
    (record {
      tiles_are = c.reopen.ensures;
      row_is = ap (λ (n : ℕ). slice_set c.args.row.now.items (n - 1) 0) long;
      awake_is = c.rouse_all.ensures;
      marks_are = c.marks_in-taken.ensures.value ∙ ap (λ (vs : List PlacedTile). marks_in vs) c.as_slice.ensures.value;
    })
